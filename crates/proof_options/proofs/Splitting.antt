-- A document that is split: what its parts are, and that they are lawful.
use Rattle.std.proofs.Common.{◌≡◌, ℕ, true, List, Some, Result, Ok, Err, codes, sym, subst, ◌∙◌, ap}
use Rattle.std.specs.Result.{IsErrAnd}
use Rattle.json_tree.specs.declared.tree.Tree.{Tree}
use Rattle.json_tree.specs.Trees.{is_lawful}
use Rattle.json_tree.specs.Members.{without, without_key}
use Rattle.json_tree.proofs.MemberChanges.{is_lawful-with_members, without_lawful}
use Rattle.proof_options.specs.declared.fault.OptionFault.{OptionFault}
use Rattle.proof_options.specs.declared.fault.OptionFault.TheVariants.{Memory}
use Rattle.proof_options.specs.declared.fault.Suite.{Suite}
use Rattle.proof_options.specs.declared.proofs.SplitProof.{SplitProof}
use Rattle.proof_options.specs.declared.fields.Standing.TheVariants.{Secured}
use Rattle.proof_options.specs.declared.fields.Seen.{Seen}
use Rattle.proof_options.specs.Shape.{named, IsTheText}
use Rattle.proof_options.specs.Parts.{proof_of, IsSplit}
use Rattle.proof_options.specs.Outcomes.{Splits}
use Rattle.proof_options.specs.Internal.Judging.{HasSeen}
use Rattle.proof_options.proofs.OneOutcome.{options_without}

-- a lawful tree without a member is lawful
pub lawful_without : (key : List ℕ) (t copy tree : Tree) → is_lawful t ≡ true → copy ≡ t → tree ≡ without key copy → is_lawful tree ≡ true
lawful_without key t copy tree lawful same is =
    ap is_lawful (is ∙ ap (without key) same) ∙ is_lawful-with_members (without_key key) t lawful (without_lawful key)

-- out of memory is an outcome
pub splits_out : (suite : Suite) (t : Tree) (r : Result SplitProof OptionFault) → IsErrAnd r (λ x. x ≡ Memory) → Splits suite t r
splits_out suite t (Ok split) h = absurd h
splits_out suite t (Err x) h = subst (λ y. Splits suite t (Err y)) (sym h) tt

-- the parts of a document whose proof was looked over
pub is_split : (suite : Suite) (document proof proof_copy document_copy tree body : Tree) (seen : Seen) (value : List ℕ) → Some proof ≡ proof_of document → HasSeen suite Secured proof seen → IsTheText value (named (codes "proofValue") (Some proof)) → proof_copy ≡ proof → tree ≡ without (codes "proofValue") proof_copy → document_copy ≡ document → body ≡ without (codes "proof") document_copy → IsSplit suite document (record { body = body; options = record { tree = tree; method = seen.method; expires = seen.expires }; value = value })
is_split suite document proof proof_copy document_copy tree body seen value stands has v same is whole out = record {
  proof = proof;
  stands = sym stands;
  shape = has.shape;
  body = out ∙ ap (without (codes "proof")) whole;
  options = options_without proof tree seen.method seen.expires (is ∙ ap (without (codes "proofValue")) same) has.method has.expires;
  value = v;
}

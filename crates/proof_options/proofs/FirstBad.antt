-- Fields in their order: what is right up to a field, and the first that is bad.
use Rattle.std.proofs.Common.{◌≡◌, ℕ, zero, suc, ◌+◌, ◌<◌, Option, Some, None, List, Result, Ok, Err, inl, inr, refl, sym, ap, ◌∙◌, subst, arith, lit<}
use Rattle.std.specs.Prelude.{◌⊎◌}
use Rattle.std.specs.Result.{IsErrAnd}
use Rattle.json_tree.specs.declared.tree.Tree.{Tree}
use Rattle.proof_options.specs.declared.fault.Field.{Field}
use Rattle.proof_options.specs.declared.fault.Field.TheVariants.{Proof, Context, ProofType, Cryptosuite, Created, Expires, VerificationMethod, ProofPurpose, ProofValue}
use Rattle.proof_options.specs.declared.fault.OptionFault.{OptionFault}
use Rattle.proof_options.specs.declared.fault.OptionFault.TheVariants.{Bad, Memory}
use Rattle.proof_options.specs.declared.stamps.Stamp.{Stamp}
use Rattle.proof_options.specs.Stamps.{IsStamp, ReadsStamp}
use Rattle.proof_options.specs.declared.fault.Suite.{Suite}
use Rattle.proof_options.specs.declared.fields.Standing.{Standing}
use Rattle.proof_options.specs.declared.fields.Standing.TheVariants.{Alone, Secured}
use Rattle.proof_options.specs.declared.fields.Seen.{Seen}
use Rattle.proof_options.specs.declared.proofs.Options.{Options}
use Rattle.proof_options.specs.declared.proofs.SplitProof.{SplitProof}
use Rattle.proof_options.specs.Shape.{rank, IsObject, IsText, IsRight, HasShape, IsFirstBad, IsStampText}
use Rattle.proof_options.specs.Parts.{proof_of}
use Rattle.proof_options.specs.Outcomes.{Checks, Splits}
use Rattle.proof_options.specs.Internal.Judging.{IsFault, Refuses, Looks, right_in}

-- all fields before this place are right
pub record RightBefore (right : Field → Type 0) (n : ℕ) : Type 0 where
  pub all : (field : Field) → rank field < n → right field

-- before the first field there is none
pub none_before : (right : Field → Type 0) → RightBefore right 0
none_before right = record { all = λ field below. absurd (omega arith) }

abbrev field_at : ℕ → Field
field_at zero = Proof
field_at (suc zero) = Context
field_at (suc (suc zero)) = ProofType
field_at (suc (suc (suc zero))) = Cryptosuite
field_at (suc (suc (suc (suc zero)))) = Created
field_at (suc (suc (suc (suc (suc zero))))) = Expires
field_at (suc (suc (suc (suc (suc (suc zero)))))) = VerificationMethod
field_at (suc (suc (suc (suc (suc (suc (suc zero))))))) = ProofPurpose
field_at (suc (suc (suc (suc (suc (suc (suc (suc n)))))))) = ProofValue

field_at-rank : (field : Field) → field_at (rank field) ≡ field
field_at-rank Proof = refl
field_at-rank Context = refl
field_at-rank ProofType = refl
field_at-rank Cryptosuite = refl
field_at-rank Created = refl
field_at-rank Expires = refl
field_at-rank VerificationMethod = refl
field_at-rank ProofPurpose = refl
field_at-rank ProofValue = refl

-- fields of one place are one
pub same_rank : (f g : Field) → rank f ≡ rank g → f ≡ g
same_rank f g same = sym (field_at-rank f) ∙ ap field_at same ∙ field_at-rank g

-- one field more
pub one_more : (right : Field → Type 0) (field : Field) → RightBefore right (rank field) → right field → RightBefore right (rank field + 1)
one_more right field before here = record { all = λ g below. at g below }
  where
    at : (g : Field) → rank g < rank field + 1 → right g
    at g below = elim (split (rank g) (rank field) below) [ inl less ↦ before.all g less | inr same ↦ subst right (sym (same_rank g field same)) here ]
      where
        split : (m n : ℕ) → m < n + 1 → (m < n) ⊎ (m ≡ n)
        split m n h = grind arith

-- a field that is bad behind right ones is the first
pub first_bad : (right : Field → Type 0) (field : Field) (fault : OptionFault) → RightBefore right (rank field) → IsFault (right field) field fault → Refuses right fault
first_bad right field (Bad f) before (is, not') = record {
  bad = λ r. not' (subst right is r);
  before = λ g below. before.all g (subst (λ h. rank g < rank h) is below);
}
first_bad right field Memory before j = tt

-- each place is one of nine
rank-most : (field : Field) → rank field < 9
rank-most Proof = lit< tt
rank-most Context = lit< tt
rank-most ProofType = lit< tt
rank-most Cryptosuite = lit< tt
rank-most Created = lit< tt
rank-most Expires = lit< tt
rank-most VerificationMethod = lit< tt
rank-most ProofPurpose = lit< tt
rank-most ProofValue = lit< tt

-- where all nine are right, each is
pub all_right : (right : Field → Type 0) → RightBefore right 9 → (field : Field) → right field
all_right right before field = before.all field (rank-most field)

-- ---- the outcomes

-- a look that ends at a field refuses it
pub looks_bad : (suite : Suite) (standing : Standing) (t : Tree) (r : Result Seen OptionFault) (field : Field) (e : OptionFault) → IsErrAnd r (λ x. x ≡ e) → RightBefore (right_in suite standing t) (rank field) → IsFault (right_in suite standing t field) field e → Looks suite standing t r
looks_bad suite standing t (Ok seen) field e h before j = absurd h
looks_bad suite standing t (Err x) field e h before j =
    subst (Refuses (right_in suite standing t)) (sym h) (first_bad (right_in suite standing t) field e before j)

-- a check that ends at a refusal of the look
pub checks_refused : (suite : Suite) (t : Tree) (r : Result Options OptionFault) (e : OptionFault) → IsErrAnd r (λ x. x ≡ e) → Refuses (right_in suite Alone t) e → Checks suite t r
checks_refused suite t (Ok options) e h refuses = absurd h
checks_refused suite t (Err x) e h refuses = by_fault x (subst (Refuses (right_in suite Alone t)) (sym h) refuses)
  where
    by_fault : (x : OptionFault) → Refuses (right_in suite Alone t) x → Checks suite t (Err x)
    by_fault (Bad field) bad = bad
    by_fault Memory bad = tt

-- out of memory is an outcome
pub checks_out : (suite : Suite) (t : Tree) (r : Result Options OptionFault) → IsErrAnd r (λ x. x ≡ Memory) → Checks suite t r
checks_out suite t (Ok options) h = absurd h
checks_out suite t (Err x) h = subst (λ y. Checks suite t (Err y)) (sym h) tt

-- a document without a proof
pub splits_absent : (suite : Suite) (t : Tree) → proof_of t ≡ None → Splits suite t (Err (Bad Proof))
splits_absent suite t none = record {
  bad = λ is. no_members (subst IsObject none is);
  before = λ g below. absurd (omega arith);
}
  where
    no_members : IsObject None → ⊥
    no_members is = let none' = is.1 in absurd (cc)

-- a document whose proof is refused
pub splits_refused : (suite : Suite) (t proof : Tree) (r : Result SplitProof OptionFault) (e : OptionFault) → proof_of t ≡ Some proof → IsErrAnd r (λ x. x ≡ e) → Refuses (right_in suite Secured proof) e → Splits suite t r
splits_refused suite t proof (Ok split) e is h refuses = absurd h
splits_refused suite t proof (Err x) e is h refuses = by_fault x (subst (Refuses (right_in suite Secured proof)) (sym h) refuses)
  where
    by_fault : (x : OptionFault) → Refuses (right_in suite Secured proof) x → Splits suite t (Err x)
    by_fault (Bad field) bad = subst (λ found. IsFirstBad (IsRight suite IsText found) field) (sym is) bad
    by_fault Memory bad = tt

-- a value that is there is refused for want of memory alone
pub splits_memory : (suite : Suite) (t proof : Tree) (r : Result SplitProof OptionFault) (e : OptionFault) → IsErrAnd r (λ x. x ≡ e) → HasShape suite IsText (Some proof) → IsFault (IsRight suite IsText (Some proof) ProofValue) ProofValue e → Splits suite t r
splits_memory suite t proof (Ok split) e h shape j = absurd h
splits_memory suite t proof (Err x) e h shape j =
    by_fault x (subst (λ y. IsFault (IsRight suite IsText (Some proof) ProofValue) ProofValue y) (sym h) j)
  where
    by_fault : (x : OptionFault) → IsFault (IsRight suite IsText (Some proof) ProofValue) ProofValue x → Splits suite t (Err x)
    by_fault (Bad field) bad = absurd (bad.1 (shape ProofValue))
    by_fault Memory bad = tt

-- ---- stamps

-- a text that was read as no stamp is none
pub no_stamp : (read text : List ℕ) (r : Option Stamp) (o : Option (List ℕ)) → ReadsStamp read (Ok r) → r ≡ None → read ≡ text → Some text ≡ o → IsStampText o → ⊥
no_stamp read text (Some stamp) o reads none same is s = absurd (cc)
no_stamp read text None o reads none same is s =
    let t : IsStampText (Some text) = subst IsStampText (sym is) s in
    reads t.0 (subst (λ x. IsStamp x t.0) (sym same) t.1)

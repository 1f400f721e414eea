-- Of options there is one outcome, and the options of a secured document have the shape of options by themselves.
use Rattle.std.proofs.Common.{◌≡◌, ◌≢◌, ℕ, ◌<◌, ◌⊎◌, false, List, [], Option, Some, None, option_map, option_and_then, Result, Ok, Err, codes, inl, inr, refl, sym, ap, ◌∙◌, subst}
use Rattle.std.specs.Str.{bytes_eq}
use Rattle.std.proofs.lemmas.Bool.{cases_order}
use Rattle.base_types.proofs.Lists.{same_some}
use Rattle.base_types.proofs.Orders.{bytes_eq-differ}
use Rattle.json_tree.specs.declared.tree.Tree.{Tree}
use Rattle.json_tree.specs.Places.{text_of}
use Rattle.json_tree.specs.Members.{without, without_key}
use Rattle.json_tree.proofs.MemberChanges.{members_of-with_members}
use Rattle.json_tree.proofs.MemberLooks.{taken_gone, taken_leaves_others}
use Rattle.proof_options.specs.declared.fault.Field.{Field}
use Rattle.proof_options.specs.declared.fault.Field.TheVariants.{Proof, Context, ProofType, Cryptosuite, Created, Expires, VerificationMethod, ProofPurpose, ProofValue}
use Rattle.proof_options.specs.declared.fault.OptionFault.{OptionFault}
use Rattle.proof_options.specs.declared.fault.OptionFault.TheVariants.{Bad, Memory}
use Rattle.proof_options.specs.declared.fault.Suite.{Suite}
use Rattle.proof_options.specs.declared.proofs.Options.{Options}
use Rattle.proof_options.specs.declared.proofs.SplitProof.{SplitProof}
use Rattle.proof_options.specs.declared.stamps.Stamp.{Stamp}
use Rattle.proof_options.specs.Stamps.{IsStamp}
use Rattle.proof_options.specs.Shape.{named, IsAbsent, IsText, IsTheText, IsStampIfAny, IsRight, HasShape, rank, IsFirstBad}
use Rattle.proof_options.specs.Parts.{IsExpiry, AreOptions, proof_of, IsSplit}
use Rattle.proof_options.specs.Outcomes.{Checks, Splits}
use Rattle.proof_options.proofs.Whole.{one_instant}
use Rattle.proof_options.proofs.FirstBad.{same_rank}

-- ---- a proof without its value

abbrev value_name : List ℕ
value_name = codes "proofValue"

-- what stands at another name stays
pub stays : (t : Tree) (other : List ℕ) → bytes_eq value_name other ≡ false → named other (Some (without value_name t)) ≡ named other (Some t)
stays t other differ = taken_leaves_others value_name other t [] (bytes_eq-differ value_name other differ)

-- a proof without its value has the shape of options by themselves
pub shape_without : (suite : Suite) (proof : Tree) → HasShape suite IsText (Some proof) → HasShape suite IsAbsent (Some (without value_name proof))
shape_without suite proof shape Proof =
    let is = shape Proof in
    (without_key value_name is.0, members_of-with_members (without_key value_name) proof ∙ ap (option_map (without_key value_name)) is.1)
shape_without suite proof shape Context = stays proof (codes "@context") refl ∙ shape Context
shape_without suite proof shape ProofType = ap (option_and_then text_of) (stays proof (codes "type") refl) ∙ shape ProofType
shape_without suite proof shape Cryptosuite = ap (option_and_then text_of) (stays proof (codes "cryptosuite") refl) ∙ shape Cryptosuite
shape_without suite proof shape Created = subst IsStampIfAny (sym (stays proof (codes "created") refl)) (shape Created)
shape_without suite proof shape Expires = subst IsStampIfAny (sym (stays proof (codes "expires") refl)) (shape Expires)
shape_without suite proof shape VerificationMethod = subst IsText (sym (stays proof (codes "verificationMethod") refl)) (shape VerificationMethod)
shape_without suite proof shape ProofPurpose = subst IsText (sym (stays proof (codes "proofPurpose") refl)) (shape ProofPurpose)
shape_without suite proof shape ProofValue = taken_gone value_name proof []

-- what was seen of a proof is so without its value
pub options_without : (proof tree : Tree) (method : List ℕ) (expires : Option Stamp) → tree ≡ without value_name proof → IsTheText method (named (codes "verificationMethod") (Some proof)) → IsExpiry (named (codes "expires") (Some proof)) expires → AreOptions (without value_name proof) (record { tree = tree; method = method; expires = expires })
options_without proof tree method expires is m e = record {
  tree = is;
  method = ap (option_and_then text_of) (stays proof (codes "verificationMethod") refl) ∙ m;
  expires = subst (λ found. IsExpiry found expires) (sym (stays proof (codes "expires") refl)) e;
}

-- ---- one outcome

-- the first bad field is one
pub one_first : (right : Field → Type 0) (f g : Field) → IsFirstBad right f → IsFirstBad right g → f ≡ g
one_first right f g a b = by_order (cases_order (rank f) (rank g))
  where
    by_order : (rank f ≡ rank g) ⊎ ((rank f < rank g) ⊎ (rank g < rank f)) → f ≡ g
    by_order (inl same) = same_rank f g same
    by_order (inr (inl less)) = absurd (a.bad (b.before f less))
    by_order (inr (inr more)) = absurd (b.bad (a.before g more))

same_stamps : (a b : Stamp) → a.text ≡ b.text → a.nanosecond ≡ b.nanosecond → a ≡ b
same_stamps a b t n = λ k. record { text = t k; nanosecond = n k }

-- what stands at `expires` is one stamp
pub one_expiry : (found : Option Tree) (a b : Option Stamp) → IsExpiry found a → IsExpiry found b → a ≡ b
one_expiry None None None x y = refl
one_expiry None None (Some b) x y = absurd y
one_expiry None (Some a) b x y = absurd x
one_expiry (Some tree) None b x y = absurd x
one_expiry (Some tree) (Some a) None x y = absurd y
one_expiry (Some tree) (Some a) (Some b) x y =
    let text = same_some (text_of tree) a.text b.text x.0 y.0 in
    ap Some (same_stamps a b text (one_instant b.text a.nanosecond b.nanosecond (subst (λ t. IsStamp t a.nanosecond) text x.1) y.1))

same_options : (o p : Options) → o.tree ≡ p.tree → o.method ≡ p.method → o.expires ≡ p.expires → o ≡ p
same_options o p t m e = λ k. record { tree = t k; method = m k; expires = e k }

-- the options of a tree are one
pub one_options : (t : Tree) (o p : Options) → AreOptions t o → AreOptions t p → o ≡ p
one_options t o p a b =
    same_options o p (a.tree ∙ sym b.tree) (same_some _ o.method p.method a.method b.method) (one_expiry (named (codes "expires") (Some t)) o.expires p.expires a.expires b.expires)

-- options have one outcome
pub one_check : (suite : Suite) (t : Tree) (r s : Result Options OptionFault) → Checks suite t r → Checks suite t s → r ≢ Err Memory → s ≢ Err Memory → r ≡ s
one_check suite t (Ok o) (Ok p) a b m n = ap Ok (one_options t o p a.1 b.1)
one_check suite t (Ok o) (Err (Bad f)) a b m n = absurd (b.bad (a.0 f))
one_check suite t (Ok o) (Err Memory) a b m n = absurd (n refl)
one_check suite t (Err (Bad f)) (Ok p) a b m n = absurd (a.bad (b.0 f))
one_check suite t (Err (Bad f)) (Err (Bad g)) a b m n = ap (λ x. Err (Bad x)) (one_first (IsRight suite IsAbsent (Some t)) f g a b)
one_check suite t (Err (Bad f)) (Err Memory) a b m n = absurd (n refl)
one_check suite t (Err Memory) s a b m n = absurd (m refl)

same_splits : (s u : SplitProof) → s.body ≡ u.body → s.options ≡ u.options → s.value ≡ u.value → s ≡ u
same_splits s u b o v = λ k. record { body = b k; options = o k; value = v k }

-- the parts of a document are one
pub one_parts : (suite : Suite) (t : Tree) (s u : SplitProof) → IsSplit suite t s → IsSplit suite t u → s ≡ u
one_parts suite t s u a b =
    let proof = same_some (proof_of t) a.proof b.proof a.stands b.stands in
    let there : AreOptions (without value_name b.proof) s.options = subst (λ p. AreOptions (without value_name p) s.options) proof a.options in
    let value : IsTheText s.value (named value_name (Some b.proof)) = subst (λ p. IsTheText s.value (named value_name (Some p))) proof a.value in
    same_splits s u (a.body ∙ sym b.body) (one_options (without value_name b.proof) s.options u.options there b.options) (same_some _ s.value u.value value b.value)

-- the shape of what stands at `proof`
split_shape : (suite : Suite) (t : Tree) (s : SplitProof) → IsSplit suite t s → HasShape suite IsText (proof_of t)
split_shape suite t s a = subst (HasShape suite IsText) (sym a.stands) a.shape

-- documents have one outcome
pub one_split : (suite : Suite) (t : Tree) (r s : Result SplitProof OptionFault) → Splits suite t r → Splits suite t s → r ≢ Err Memory → s ≢ Err Memory → r ≡ s
one_split suite t (Ok o) (Ok p) a b m n = ap Ok (one_parts suite t o p a b)
one_split suite t (Ok o) (Err (Bad f)) a b m n = absurd (b.bad (split_shape suite t o a f))
one_split suite t (Ok o) (Err Memory) a b m n = absurd (n refl)
one_split suite t (Err (Bad f)) (Ok p) a b m n = absurd (a.bad (split_shape suite t p b f))
one_split suite t (Err (Bad f)) (Err (Bad g)) a b m n = ap (λ x. Err (Bad x)) (one_first (IsRight suite IsText (proof_of t)) f g a b)
one_split suite t (Err (Bad f)) (Err Memory) a b m n = absurd (n refl)
one_split suite t (Err Memory) s a b m n = absurd (m refl)

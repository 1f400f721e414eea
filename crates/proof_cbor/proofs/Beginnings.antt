-- Headers tell kinds and hashes apart, and texts begin as their headers say.
use Rattle.std.proofs.Common.{◌≡◌, ℕ, cond, eqb, List, [], ◌∷◌, ◌++◌, length, take, map, Ok, refl, sym, ap, ◌∙◌}
use Rattle.std.specs.Prelude.{codes}
use Rattle.cbor_core.specs.declared.item.Item.TheVariants as v
use Rattle.cbor_core.proofs.Outcomes.{same_ok}
use Rattle.digest_mac.specs.declared.hash.Hash.{Hash}
use Rattle.digest_mac.specs.declared.hash.Hash.TheVariants.{Sha256, Sha384}
use Rattle.proof_cbor.specs.declared.headers.Kind.{Kind}
use Rattle.proof_cbor.specs.declared.headers.Kind.TheVariants.{Base, Derived}
use Rattle.proof_cbor.specs.declared.fault.ValueFault.{ValueFault}
use Rattle.proof_cbor.specs.declared.value.BaseValue.{BaseValue}
use Rattle.proof_cbor.specs.declared.value.DerivedValue.{DerivedValue}
use Rattle.proof_cbor.specs.Values.{header, multibase_text, base_item, base_proof_bytes, derived_item, derived_proof_bytes, pair_of, SpellsBase, SpellsDerived}
use Rattle.proof_cbor.specs.Internal.Reading.{multibase_bytes}
use Rattle.proof_cbor.proofs.Drafts.{item_begins}
use Rattle.proof_cbor.proofs.Spelled.{bytes_again, base_read, derived_read}

-- ---- the third byte of a header

abbrev third : List ℕ → ℕ
third [] = 0
third (a ∷ []) = 0
third (a ∷ b ∷ []) = 0
third (a ∷ b ∷ c ∷ rest) = c

-- the kind that it tells, and the hash
abbrev kind_told : List ℕ → Kind
kind_told bytes = cond (eqb (third bytes) 0x00) Base (cond (eqb (third bytes) 0x20) Base Derived)

abbrev hash_told : List ℕ → Hash
hash_told bytes = cond (eqb (third bytes) 0x00) Sha256 (cond (eqb (third bytes) 0x01) Sha256 Sha384)

kind_is : (kind : Kind) (hash : Hash) (rest : List ℕ) → kind_told (header kind hash ++ rest) ≡ kind
kind_is Base Sha256 rest = refl
kind_is Base Sha384 rest = refl
kind_is Derived Sha256 rest = refl
kind_is Derived Sha384 rest = refl

hash_is : (kind : Kind) (hash : Hash) (rest : List ℕ) → hash_told (header kind hash ++ rest) ≡ hash
hash_is Base Sha256 rest = refl
hash_is Base Sha384 rest = refl
hash_is Derived Sha256 rest = refl
hash_is Derived Sha384 rest = refl

-- equal headers are of one kind and one hash
pub header_tells : (kind other : Kind) (hash another : Hash) → header kind hash ≡ header other another → (kind ≡ other) × (hash ≡ another)
header_tells kind other hash another e = (
  sym (kind_is kind hash []) ∙ ap (λ (z : List ℕ). kind_told (z ++ [])) e ∙ kind_is other another [],
  sym (hash_is kind hash []) ∙ ap (λ (z : List ℕ). hash_told (z ++ [])) e ∙ hash_is other another [],
)

other_kinds : Base ≡ Derived → ⊥
other_kinds e = absurd cc

-- no text spells a base value and a derived one
pub one_kind : (text : List ℕ) (base : BaseValue) (derived : DerivedValue) → SpellsBase base text → SpellsDerived derived text → ⊥
one_kind text base derived s t =
    let one : multibase_bytes text ≡ Ok (header Base base.hash ++ s.spelled.1) = bytes_again text (header Base base.hash ++ s.spelled.1) s.spelled.4 in
    let other : multibase_bytes text ≡ Ok (header Derived derived.hash ++ t.spelled.1) = bytes_again text (header Derived derived.hash ++ t.spelled.1) t.spelled.4 in
    let same = same_ok {E = ValueFault} (header Base base.hash ++ s.spelled.1) (header Derived derived.hash ++ t.spelled.1) (sym one ∙ other) in
    other_kinds (sym (kind_is Base base.hash s.spelled.1) ∙ ap kind_told same ∙ kind_is Derived derived.hash t.spelled.1)

-- the base values that a text spells are by one hash
pub one_base_hash : (text : List ℕ) (one other : BaseValue) → SpellsBase one text → SpellsBase other text → one.hash ≡ other.hash
one_base_hash text one other s t = ap (λ (x : BaseValue). x.hash) (same_ok {E = ValueFault} one other (sym (base_read text one s) ∙ base_read text other t))

-- and so are the derived ones
pub one_derived_hash : (text : List ℕ) (one other : DerivedValue) → SpellsDerived one text → SpellsDerived other text → one.hash ≡ other.hash
one_derived_hash text one other s t = ap (λ (x : DerivedValue). x.hash) (same_ok {E = ValueFault} one other (sym (derived_read text one s) ∙ derived_read text other t))

-- ---- the first letters of a text

-- the nine letters by the kind and the hash
abbrev first_letters : Kind → Hash → List ℕ
first_letters Base Sha256 = codes "u2V0AhVhA"
first_letters Base Sha384 = codes "u2V0ghVhA"
first_letters Derived Sha256 = codes "u2V0BhVhA"
first_letters Derived Sha384 = codes "u2V0hhVhA"

letters_are : (kind : Kind) (hash : Hash) (rest : List ℕ) → take 9 (multibase_text (header kind hash ++ 0x85 ∷ 0x58 ∷ 0x40 ∷ rest)) ≡ first_letters kind hash
unfolding Rattle.base64.specs.Rfc4648.encode_symbols
letters_are Base Sha256 rest = refl
letters_are Base Sha384 rest = refl
letters_are Derived Sha256 rest = refl
letters_are Derived Sha384 rest = refl

-- what is written for a base value begins so
pub base_begins : (hash : Hash) (value : BaseValue) → value.hash ≡ hash → length value.signature ≡ 64 → take 9 (multibase_text (base_proof_bytes value)) ≡ first_letters Base hash
unfolding base_item
base_begins hash value by long =
    ap (λ (z : List ℕ). take 9 (multibase_text (header Base value.hash ++ z)))
    (item_begins value.signature (v.Blob value.key) (v.Blob value.secret) (v.List (map v.Blob value.signatures)) (v.List (map v.Text value.pointers)) long)
    ∙ letters_are Base value.hash _ ∙ ap (first_letters Base) by

-- and what is written for a derived one
pub derived_begins : (hash : Hash) (value : DerivedValue) → value.hash ≡ hash → length value.signature ≡ 64 → take 9 (multibase_text (derived_proof_bytes value)) ≡ first_letters Derived hash
unfolding derived_item
derived_begins hash value by long =
    ap (λ (z : List ℕ). take 9 (multibase_text (header Derived value.hash ++ z)))
    (item_begins value.signature (v.Blob value.key) (v.List (map v.Blob value.signatures)) (v.Map (map pair_of value.labels)) (v.List (map v.Whole value.indexes)) long)
    ∙ letters_are Derived value.hash _ ∙ ap (first_letters Derived) by

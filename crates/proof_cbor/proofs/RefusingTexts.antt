-- A text is refused by the relation exactly where reading it ends with this fault.
use Rattle.std.proofs.Common.{◌≡◌, ◌≢◌, ℕ, ◌+◌, ◌<◌, Bool, false, eqb, List, [], ◌∷◌, ◌++◌, Result, Ok, Err, refl, sym, ap, subst, ◌∙◌, inl, inr}
use Rattle.std.specs.Prelude.{◌⊎◌}
use Rattle.std.proofs.lemmas.List.{get_or-drop}
use Rattle.base_types.proofs.Options.{took}
use Rattle.base64.specs.Engines.{url_safe_no_pad}
use Rattle.base64.specs.GeneralPurpose.{IsBytes, decode_of}
use Rattle.base64.specs.declared.decode.DecodeError.{DecodeError}
use Rattle.cbor_core.specs.declared.item.Item.{Item}
use Rattle.cbor_core.specs.declared.fault.CborFault.{CborFault}
use Rattle.cbor_core.specs.Internal.Results.{◌>>=◌, Unless, Gives, Fails}
use Rattle.cbor_core.specs.Internal.Reading.{reading}
use Rattle.cbor_core.specs.Refusals.{UnlessMemory, ReadsAs}
use Rattle.cbor_core.proofs.Outcomes.{same_ok, same_err, stopped, goes_on}
use Rattle.cbor_core.proofs.Whole.{read_refused, refused_read, read_as}
use Rattle.cbor_core.specs.declared.fault.CborFault.TheVariants as g
use Rattle.digest_mac.specs.declared.hash.Hash.{Hash}
use Rattle.proof_cbor.specs.declared.headers.Kind.{Kind}
use Rattle.proof_cbor.specs.declared.headers.Kind.TheVariants.{Base, Derived}
use Rattle.proof_cbor.specs.declared.fault.ValueFault.{ValueFault}
use Rattle.proof_cbor.specs.declared.fault.ValueFault.TheVariants as f
use Rattle.proof_cbor.specs.declared.value.BaseValue.{BaseValue}
use Rattle.proof_cbor.specs.declared.value.DerivedValue.{DerivedValue}
use Rattle.proof_cbor.specs.Values.{header, IsText}
use Rattle.proof_cbor.specs.Refusals.{Five, RefusesBaseParts, RefusesDerivedParts, RefusesFive, RefusesBytes, RefusesMultibase, ReadsBase, ReadsDerived}
use Rattle.proof_cbor.specs.Internal.Reading.{is_memory, base_of, derived_of, base64_result, multibase_bytes, behind, item_of, item_behind, reading_base, reading_derived}
use Rattle.proof_cbor.proofs.Naming.{behind_again, behind_found, header_missing, no_header}
use Rattle.proof_cbor.proofs.Refusing.{base_stops, base_refused, derived_stops, derived_refused}
use Rattle.proof_cbor.proofs.Spelled.{bytes_again, item_again, item_found, base_read, derived_read, base_spelled, derived_spelled}

-- ---- what reading refuses, the relation does

no_base64 : (r : Result (List ℕ) DecodeError) (e : ValueFault) → base64_result r ≡ Err e → e ≡ f.NotMultibase
no_base64 (Ok bytes) e h = absurd cc
no_base64 (Err d) e h = sym (same_err f.NotMultibase e h)

no_multibase : (text : List ℕ) (e : ValueFault) → multibase_bytes text ≡ Err e → e ≡ f.NotMultibase
no_multibase [] e h = sym (same_err f.NotMultibase e h)
no_multibase (c ∷ text) e h = elim (took (eqb c 117) (base64_result (decode_of url_safe_no_pad text)) (Err f.NotMultibase) (Err e) h) [
  | inl p ↦ no_base64 (decode_of url_safe_no_pad text) e p.1
  | inr p ↦ sym (same_err f.NotMultibase e p.1)
]

no_item : (r : Result Item CborFault) (e : ValueFault) → item_of r ≡ Err e → (d : CborFault) × (r ≡ Err d) × (e ≡ f.Cbor d)
no_item (Ok item) e h = absurd cc
no_item (Err d) e h = (d, refl, sym (same_err (f.Cbor d) e h))

abbrev with_hash : Hash → Item → Result (Hash × Item) ValueFault
with_hash hash item = Ok (hash, item)

item_stopped : (r : Result Item ValueFault) (hash : Hash) (e : ValueFault) → (r >>= with_hash hash) ≡ Err e → r ≡ Err e
item_stopped (Ok i) hash e h = absurd cc
item_stopped (Err d) hash e h = let same : d ≡ e = cc in ap (λ (x : ValueFault). Err x) same

bytes_stop : (kind : Kind) (Refuses : Hash → Five → ValueFault → Type 0) (bytes : List ℕ) (e : ValueFault) → IsBytes bytes → item_behind kind bytes ≡ Err e → RefusesBytes kind Refuses bytes e
unfolding item_behind
bytes_stop kind Refuses bytes e small h =
    elim (stopped (behind kind bytes) (λ (f : Hash × List ℕ). item_of (reading f.1) >>= with_hash f.0) e h) [
      | inl p ↦ inl (no_header kind bytes e p)
      | inr p ↦
          let found = behind_found kind bytes p.0 p.1 in
          let fits : IsBytes p.0.1 = subst IsBytes found.1 (λ (i : ℕ). subst (λ (n : ℕ). n < 256) (sym (get_or-drop 3 bytes i 0)) (small (3 + i))) in
          let d = no_item (reading p.0.1) e (item_stopped (item_of (reading p.0.1)) p.0.0 e p.2) in
          inr (p.0.0, p.0.1, found.0, inl (d.0, read_refused p.0.1 d.0 fits d.1, d.2))
    ]

module _ (kind : Kind) (Refuses : Hash → Five → ValueFault → Type 0) where
  pub text_stops : (text : List ℕ) (e : ValueFault) → multibase_bytes text ≡ Err e → RefusesMultibase kind Refuses text e
  text_stops text e h = inl ((λ bytes t. absurd (let both = sym (bytes_again text bytes t) ∙ h in cc)), no_multibase text e h)

  pub item_stops : (text bytes : List ℕ) (e : ValueFault) → IsText text bytes → item_behind kind bytes ≡ Err e → RefusesMultibase kind Refuses text e
  item_stops text bytes e t h = inr (bytes, t, bytes_stop kind Refuses bytes e t.0 h)

  pub parts_stop : (text bytes : List ℕ) (hash : Hash) (item : Item) (e : ValueFault) → IsText text bytes → item_behind kind bytes ≡ Ok (hash, item) → RefusesFive (Refuses hash) item e → RefusesMultibase kind Refuses text e
  parts_stop text bytes hash item e t h r =
      let s = item_found kind text bytes hash item t h in
      inr (header kind hash ++ s.1, s.4, inr (hash, s.1, refl, inr (item, s.0, s.2, s.3, r)))

-- ---- what the relation refuses, reading does

module _ {V : Type 0} (kind : Kind) (Refuses : Hash → Five → ValueFault → Type 0) (value_of : Hash → Item → Result V ValueFault)
    (refused : (hash : Hash) (item : Item) (e : ValueFault) → RefusesFive (Refuses hash) item e → value_of hash item ≡ Err e) where
  -- what is read of what was found behind a header, and of the item
  abbrev read_item : Hash × List ℕ → Result (Hash × Item) ValueFault
  read_item f = item_of (reading f.1) >>= with_hash f.0

  abbrev read_value : Hash × Item → Result V ValueFault
  read_value f = value_of f.0 f.1

  bytes_refused : (bytes : List ℕ) (e : ValueFault) → RefusesBytes kind Refuses bytes e → (item_behind kind bytes >>= read_value) ≡ Err e
  unfolding item_behind
  bytes_refused bytes e (inl s) =
      ap (λ (r : Result (Hash × List ℕ) ValueFault). (r >>= read_item) >>= read_value) (header_missing kind bytes s.0)
      ∙ ap (λ (d : ValueFault). Err d) (sym s.1)
  bytes_refused bytes e (inr s) = elim (s.3) [
    | inl r ↦
        ap (λ (b : List ℕ). item_behind kind b >>= read_value) s.2
        ∙ ap (λ (x : Result (Hash × List ℕ) ValueFault). (x >>= read_item) >>= read_value) (behind_again kind s.0 s.1)
        ∙ ap (λ (x : Result Item CborFault). (item_of x >>= with_hash s.0) >>= read_value) (refused_read s.1 r.0 r.1)
        ∙ ap (λ (d : ValueFault). Err d) (sym r.2)
    | inr r ↦
        ap (λ (b : List ℕ). item_behind kind b >>= read_value) s.2
        ∙ goes_on (item_behind kind (header kind s.0 ++ s.1)) read_value (s.0, r.0) (item_again kind s.0 s.1 r.0 r.1 r.2 r.3)
        ∙ refused s.0 r.0 e r.4
  ]

-- ---- what a text is

-- it has bytes and is read so, or it has none
abbrev pub IsSeen : {A : Type 0} → List ℕ → Result A ValueFault → Result A ValueFault → Type 0
IsSeen text read outcome = (((bytes : List ℕ) × IsText text bytes) × (read ≡ outcome)) ⊎ (((bytes : List ℕ) → IsText text bytes → ⊥) × (outcome ≡ Err f.NotMultibase))

seen_once : {A : Type 0} (text : List ℕ) (read r s : Result A ValueFault) → IsSeen text read r → IsSeen text read s → r ≡ s
seen_once text read r s (inl x) (inl y) = sym x.1 ∙ y.1
seen_once text read r s (inl x) (inr y) = absurd (y.0 x.0.0 x.0.1)
seen_once text read r s (inr x) (inl y) = absurd (x.0 y.0.0 y.0.1)
seen_once text read r s (inr x) (inr y) = x.1 ∙ sym y.1

base_seen : (text : List ℕ) (r : Result BaseValue ValueFault) → ReadsBase text r → IsSeen text (reading_base text) r
unfolding reading_base
base_seen text (Ok value) s = inl ((header Base value.hash ++ s.spelled.1, s.spelled.4), base_read text value s)
base_seen text (Err e) (inl s) = inr (s.0, ap (λ (d : ValueFault). Err d) s.1)
base_seen text (Err e) (inr s) = inl ((s.0, s.1), goes_on (multibase_bytes text) _ s.0 (bytes_again text s.0 s.1) ∙ bytes_refused Base (λ _. RefusesBaseParts) base_of base_refused s.0 e s.2)

derived_seen : (text : List ℕ) (r : Result DerivedValue ValueFault) → ReadsDerived text r → IsSeen text (reading_derived text) r
unfolding reading_derived
derived_seen text (Ok value) s = inl ((header Derived value.hash ++ s.spelled.1, s.spelled.4), derived_read text value s)
derived_seen text (Err e) (inl s) = inr (s.0, ap (λ (d : ValueFault). Err d) s.1)
derived_seen text (Err e) (inr s) = inl ((s.0, s.1), goes_on (multibase_bytes text) _ s.0 (bytes_again text s.0 s.1) ∙ bytes_refused Derived RefusesDerivedParts derived_of derived_refused s.0 e s.2)

-- a text is one thing as a base value, and as a derived value
pub one_base : (text : List ℕ) (r s : Result BaseValue ValueFault) → ReadsBase text r → ReadsBase text s → r ≡ s
one_base text r s x y = seen_once text (reading_base text) r s (base_seen text r x) (base_seen text s y)

-- two outcomes of one text as a derived value are the same
pub one_derived : (text : List ℕ) (r s : Result DerivedValue ValueFault) → ReadsDerived text r → ReadsDerived text s → r ≡ s
one_derived text r s x y = seen_once text (reading_derived text) r s (derived_seen text r x) (derived_seen text s y)

-- ---- what a call answers

not_memory : (e : ValueFault) → e ≢ f.Memory → is_memory e ≡ false
not_memory f.Memory ne = absurd (ne refl)
not_memory f.NotMultibase ne = refl
not_memory f.Header ne = refl
not_memory (f.Cbor d) ne = refl
not_memory (f.Shape at) ne = refl
not_memory (f.Length at) ne = refl
not_memory f.Indexes ne = refl

-- a call that gave up, and not for memory, gave up as reading does
pub fails_as : {A B : Type 0} (e : ValueFault) (read : Result A ValueFault) (result : Result B ValueFault) → result ≡ Err e → Fails is_memory e read → result ≢ Err f.Memory → read ≡ Err e
fails_as e read result is h ne = subst (λ (b : Bool). Unless b (read ≡ Err e)) (not_memory e (λ same. ne (is ∙ (λ i. Err (same i))))) h

-- what a call answers for the item behind the header, but for memory, is what a base text is
pub base_reads : (text bytes : List ℕ) (hash : Hash) (item : Item) (result : Result BaseValue ValueFault) → IsText text bytes → item_behind Base bytes ≡ Ok (hash, item) → Gives is_memory (λ x. x) result (base_of hash item) → result ≢ Err f.Memory → ReadsBase text result
base_reads text bytes hash item (Ok value) t i g ne = base_spelled text bytes hash item value t i g
base_reads text bytes hash item (Err e) t i g ne = parts_stop Base (λ _. RefusesBaseParts) text bytes hash item e t i (base_stops hash item e (fails_as e (base_of hash item) (Err e) refl g ne))

-- what a call answers for the item behind the header, but for memory, is what a derived text is
pub derived_reads : (text bytes : List ℕ) (hash : Hash) (item : Item) (result : Result DerivedValue ValueFault) → IsText text bytes → item_behind Derived bytes ≡ Ok (hash, item) → Gives is_memory (λ x. x) result (derived_of hash item) → result ≢ Err f.Memory → ReadsDerived text result
derived_reads text bytes hash item (Ok value) t i g ne = derived_spelled text bytes hash item value t i g
derived_reads text bytes hash item (Err e) t i g ne = parts_stop Derived RefusesDerivedParts text bytes hash item e t i (derived_stops hash item e (fails_as e (derived_of hash item) (Err e) refl g ne))

-- the answer of a call that is what the text is
pub base_exact : (text : List ℕ) (result outcome : Result BaseValue ValueFault) → (result ≢ Err f.Memory → ReadsBase text result) → ReadsBase text outcome → UnlessMemory f.Memory outcome result
base_exact text result outcome reads s ne = one_base text result outcome (reads ne) s

-- an outcome of a text as a derived value is what a call answers, unless memory ran out
pub derived_exact : (text : List ℕ) (result outcome : Result DerivedValue ValueFault) → (result ≢ Err f.Memory → ReadsDerived text result) → ReadsDerived text outcome → UnlessMemory f.Memory outcome result
derived_exact text result outcome reads s ne = one_derived text result outcome (reads ne) s

-- ---- an item as `decode` answers it

-- where `decode` answers an item, the bytes are read as that item
pub read_ok : (bytes : List ℕ) (result : Result Item CborFault) (item : Item) → (result ≢ Err g.Memory → ReadsAs bytes result) → result ≡ Ok item → item_of (reading bytes) ≡ Ok item
read_ok bytes (Ok i) item reads is = ap item_of (read_as bytes (Ok i) (reads (λ same. absurd cc))) ∙ ap (λ (x : Item). Ok x) (same_ok i item is)
read_ok bytes (Err d) item reads is = absurd cc

-- where `decode` answers a fault other than memory, the bytes are read with that fault of CBOR
pub read_err : (bytes : List ℕ) (result : Result Item CborFault) (e : CborFault) → (result ≢ Err g.Memory → ReadsAs bytes result) → result ≡ Err e → e ≢ g.Memory → item_of (reading bytes) ≡ Err (f.Cbor e)
read_err bytes result e reads is ne =
    let other : result ≢ Err g.Memory = λ same. ne (same_err e g.Memory (sym is ∙ same)) in
    ap item_of (read_as bytes result (reads other) ∙ is)

pub ruleset item_steps = (read_ok, read_err)

-- a fault of the text that is not memory is what the text is as a base value
pub base_text_reads : (text : List ℕ) (e : ValueFault) (result : Result BaseValue ValueFault) → result ≡ Err e → Fails is_memory e (multibase_bytes text) → result ≢ Err f.Memory → ReadsBase text result
base_text_reads text e result is h ne = subst (ReadsBase text) (sym is) (text_stops Base (λ _. RefusesBaseParts) text e (fails_as e (multibase_bytes text) result is h ne))

-- a fault of the bytes of a text that is not memory is what the text is as a base value
pub base_item_reads : (text bytes : List ℕ) (e : ValueFault) (result : Result BaseValue ValueFault) → result ≡ Err e → IsText text bytes → Fails is_memory e (item_behind Base bytes) → result ≢ Err f.Memory → ReadsBase text result
base_item_reads text bytes e result is t h ne = subst (ReadsBase text) (sym is) (item_stops Base (λ _. RefusesBaseParts) text bytes e t (fails_as e (item_behind Base bytes) result is h ne))

-- a fault of the text that is not memory is what the text is as a derived value
pub derived_text_reads : (text : List ℕ) (e : ValueFault) (result : Result DerivedValue ValueFault) → result ≡ Err e → Fails is_memory e (multibase_bytes text) → result ≢ Err f.Memory → ReadsDerived text result
derived_text_reads text e result is h ne = subst (ReadsDerived text) (sym is) (text_stops Derived RefusesDerivedParts text e (fails_as e (multibase_bytes text) result is h ne))

-- a fault of the bytes of a text that is not memory is what the text is as a derived value
pub derived_item_reads : (text bytes : List ℕ) (e : ValueFault) (result : Result DerivedValue ValueFault) → result ≡ Err e → IsText text bytes → Fails is_memory e (item_behind Derived bytes) → result ≢ Err f.Memory → ReadsDerived text result
derived_item_reads text bytes e result is t h ne = subst (ReadsDerived text) (sym is) (item_stops Derived RefusesDerivedParts text bytes e t (fails_as e (item_behind Derived bytes) result is h ne))

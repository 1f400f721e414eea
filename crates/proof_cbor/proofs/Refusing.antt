-- The parts of an item are refused by the relation exactly where looking them up ends with this fault.
use Rattle.std.proofs.Common.{◌≡◌, ◌≢◌, ℕ, Bool, true, false, cond, eqb, List, length, map, Option, Some, None, Result, Ok, Err, refl, sym, ap, ◌∙◌, inl, inr}
use Rattle.std.specs.Prelude.{◌⊎◌}
use Rattle.std.specs.Option.{option_and_then, ok_or}
use Rattle.std.specs.List.{list_all}
use Rattle.std.proofs.lemmas.Bool.{eqb-true, eqb-false, false≢true}
use Rattle.cbor_core.specs.declared.item.Item.{Item, out-Item}
use Rattle.cbor_core.specs.declared.item.Item.TheVariants as v
use Rattle.cbor_core.specs.declared.item.Pair.{Pair}
use Rattle.cbor_core.specs.Internal.Results.{◌>>=◌}
use Rattle.cbor_core.proofs.Outcomes.{same_err, stopped, goes_on}
use Rattle.base_types.specs.Order.{rise}
use Rattle.digest_mac.specs.declared.hash.Hash.{Hash}
use Rattle.digest_mac.specs.Digests.{digest_size}
use Rattle.proof_cbor.specs.declared.fault.Part.{Part}
use Rattle.proof_cbor.specs.declared.fault.Part.TheVariants as part
use Rattle.proof_cbor.specs.declared.fault.ValueFault.{ValueFault}
use Rattle.proof_cbor.specs.declared.fault.ValueFault.TheVariants as fault
use Rattle.proof_cbor.specs.Values.{pair_of}
use Rattle.proof_cbor.specs.Refusals.{IsBlob, IsBlobOf, AreBlobs, AreBlobsOf, IsLabelMap, IsDigestMap, AreTexts, AreWholes, AreRising, RefusesPart, Five, list_of, RefusesBaseParts, RefusesDerivedParts, RefusesFive}
use Rattle.proof_cbor.specs.Internal.Reading.{list_level, map_level, blob_kind, text_kind, whole_kind, entry_kind, digest_length, each_is, ones_of, of_size, blob_of, blobs_of, texts_of, wholes_of, label_entries_of, five_items, five_parts, base_of, derived_of}
use Rattle.proof_cbor.proofs.Inverses.{blob_back, text_back, whole_back, list_back, map_back, entry_back, blob_forth, text_forth, whole_forth, entry_forth, each_back, each_forth, parts_found, parts_again, wholes_found}

-- what looking up one part answers, as the relation has it
abbrev IsPart : {A : Type 0} → Part → Type 0 → Type 0 → Result A ValueFault → Type 0
IsPart at Kind Lengths (Ok x) = Kind × Lengths
IsPart at Kind Lengths (Err d) = ((Kind → ⊥) × (d ≡ fault.Shape at)) ⊎ (Kind × (Lengths → ⊥) × (d ≡ fault.Length at))

part_stops : {A B : Type 0} (at : Part) (Kind Lengths : Type 0) (r : Result A ValueFault) (g : A → Result B ValueFault) (e : ValueFault) (Later : Type 0) → IsPart at Kind Lengths r
    → ((x : A) → r ≡ Ok x → g x ≡ Err e → Later) → (r >>= g) ≡ Err e → RefusesPart at Kind Lengths e Later
part_stops at Kind Lengths (Ok x) g e Later is later h = inr (inr (is.0, is.1, later x refl h))
part_stops at Kind Lengths (Err d) g e Later (inl s) later h = inl (s.0, sym (same_err d e h) ∙ s.1)
part_stops at Kind Lengths (Err d) g e Later (inr s) later h = inr (inl (s.0, s.1, sym (same_err d e h) ∙ s.2))

part_refused : {A B : Type 0} (at : Part) (Kind Lengths : Type 0) (r : Result A ValueFault) (g : A → Result B ValueFault) (e : ValueFault) (Later : Type 0) → IsPart at Kind Lengths r
    → ((x : A) → r ≡ Ok x → Later → g x ≡ Err e) → RefusesPart at Kind Lengths e Later → (r >>= g) ≡ Err e
part_refused at Kind Lengths (Ok x) g e Later is later (inl s) = absurd (s.0 is.0)
part_refused at Kind Lengths (Ok x) g e Later is later (inr (inl s)) = absurd (s.1 is.1)
part_refused at Kind Lengths (Ok x) g e Later is later (inr (inr s)) = later x refl s.2
part_refused at Kind Lengths (Err d) g e Later (inl k) later (inl s) = rw (k.1, s.1) refl
part_refused at Kind Lengths (Err d) g e Later (inl k) later (inr (inl s)) = absurd (k.0 s.0)
part_refused at Kind Lengths (Err d) g e Later (inl k) later (inr (inr s)) = absurd (k.0 s.0)
part_refused at Kind Lengths (Err d) g e Later (inr k) later (inl s) = absurd (s.0 k.0)
part_refused at Kind Lengths (Err d) g e Later (inr k) later (inr (inl s)) = rw (k.2, s.2) refl
part_refused at Kind Lengths (Err d) g e Later (inr k) later (inr (inr s)) = absurd (k.1 s.1)

-- ---- a byte string

none_some : {A : Type 0} (x : A) (o : Option A) → o ≡ None → o ≡ Some x → ⊥
none_some x None a b = absurd cc
none_some x (Some y) a b = absurd cc

some_same : {A : Type 0} (x y : A) (o : Option A) → o ≡ Some x → o ≡ Some y → x ≡ y
some_same x y None a b = absurd cc
some_same x y (Some z) a b = cc

module _ (at : Part) (n : ℕ) (item : Item) where
  blob_size : (content : List ℕ) → blob_kind item ≡ Some content → (b : Bool) → eqb (length content) n ≡ b → IsPart at (IsBlob item) (IsBlobOf n item) (cond b (Ok content) (Err (fault.Length at)))
  blob_size content is true h = let back = blob_back item content is in ((content, back), (content, back, eqb-true (length content) n h))
  blob_size content is false h =
      inr (
        (content, blob_back item content is),
        (λ s.
            let same : content ≡ s.0 = some_same content s.0 (blob_kind item) is (ap blob_kind s.1 ∙ blob_forth s.0) in
            absurd (eqb-false (length content) n h (ap length same ∙ s.2))),
        refl,
      )

  blob_by : (o : Option (List ℕ)) → blob_kind item ≡ o → IsPart at (IsBlob item) (IsBlobOf n item) (ok_or o (fault.Shape at) >>= λ (y : List ℕ). cond (eqb (length y) n) (Ok y) (Err (fault.Length at)))
  blob_by None is = inl ((λ s. none_some s.0 (blob_kind item) is (ap blob_kind s.1 ∙ blob_forth s.0)), refl)
  blob_by (Some content) is = blob_size content is (eqb (length content) n) refl

  blob_part : IsPart at (IsBlob item) (IsBlobOf n item) (blob_of at n item)
  blob_part = blob_by (blob_kind item) refl

-- ---- lists and maps

module _ {X Y : Type 0} (kind : X → Option Y) (con : Y → X) (wrap : List X → Item) (level : Item → Option (List X)) (size : Y → ℕ)
    (level_back : (i : Item) (xs : List X) → level i ≡ Some xs → i ≡ wrap xs) (level_forth : (xs : List X) → level (wrap xs) ≡ Some xs)
    (back : (x : X) (y : Y) → kind x ≡ Some y → x ≡ con y) (forth : (y : Y) → kind (con y) ≡ Some y) (at : Part) (n : ℕ) (item : Item) where
  Kind : Type 0
  Kind = (ys : List Y) × (item ≡ wrap (map con ys))

  Lengths : Type 0
  Lengths = (ys : List Y) × (item ≡ wrap (map con ys)) × (list_all (λ y. eqb (size y) n) ys ≡ true)

  inside_is : (xs : List X) (ys : List Y) → level item ≡ Some xs → item ≡ wrap (map con ys) → each_is kind xs ≡ Some ys
  inside_is xs ys l is =
      let same : xs ≡ map con ys = some_same xs (map con ys) (level item) l (ap level is ∙ level_forth (map con ys)) in
      ap (each_is kind) same ∙ each_forth kind con forth ys

  many_size : (xs : List X) (ys : List Y) → level item ≡ Some xs → each_is kind xs ≡ Some ys → (b : Bool) → list_all (λ y. eqb (size y) n) ys ≡ b → IsPart at Kind Lengths (cond b (Ok ys) (Err (fault.Length at)))
  unfolding Kind Lengths
  many_size xs ys l k true h = let is = level_back item xs l ∙ ap wrap (each_back kind con back xs ys k) in ((ys, is), (ys, is, h))
  many_size xs ys l k false h =
      let is = level_back item xs l ∙ ap wrap (each_back kind con back xs ys k) in
      inr (
        (ys, is),
        (λ s.
            let same : ys ≡ s.0 = some_same ys s.0 (each_is kind xs) k (inside_is xs s.0 l s.1) in
            false≢true (sym h ∙ ap (list_all (λ y. eqb (size y) n)) same ∙ s.2)),
        refl,
      )

  many_kind : (xs : List X) → level item ≡ Some xs → (o : Option (List Y)) → each_is kind xs ≡ o → IsPart at Kind Lengths (ok_or o (fault.Shape at) >>= of_size size at n)
  unfolding Kind Lengths
  many_kind xs l None k = inl ((λ s. none_some s.0 (each_is kind xs) k (inside_is xs s.0 l s.1)), refl)
  many_kind xs l (Some ys) k = many_size xs ys l k (list_all (λ y. eqb (size y) n) ys) refl

  many_by : (o : Option (List X)) → level item ≡ o → IsPart at Kind Lengths (ok_or o (fault.Shape at) >>= ones_of kind size at n)
  unfolding Kind Lengths
  many_by None l = inl ((λ s. none_some (map con s.0) (level item) l (ap level s.1 ∙ level_forth (map con s.0))), refl)
  many_by (Some xs) l = many_kind xs l (each_is kind xs) refl

  -- where only the kind counts
  kind_inside : (xs : List X) → level item ≡ Some xs → (o : Option (List Y)) → each_is kind xs ≡ o → IsPart at Kind Kind (ok_or o (fault.Shape at))
  unfolding Kind
  kind_inside xs l None k = inl ((λ s. none_some s.0 (each_is kind xs) k (inside_is xs s.0 l s.1)), refl)
  kind_inside xs l (Some ys) k = let is = level_back item xs l ∙ ap wrap (each_back kind con back xs ys k) in ((ys, is), (ys, is))

  kind_by : (o : Option (List X)) → level item ≡ o → IsPart at Kind Kind (ok_or o (fault.Shape at) >>= λ (xs : List X). ok_or (each_is kind xs) (fault.Shape at))
  unfolding Kind
  kind_by None l = inl ((λ s. none_some (map con s.0) (level item) l (ap level s.1 ∙ level_forth (map con s.0))), refl)
  kind_by (Some xs) l = kind_inside xs l (each_is kind xs) refl

list_forth : (xs : List Item) → list_level (out-Item (v.List xs)) ≡ Some xs
list_forth xs = ap list_level (v.outs-List xs)

map_forth : (ps : List (Pair Item)) → map_level (out-Item (v.Map ps)) ≡ Some ps
map_forth ps = ap map_level (v.outs-Map ps)

blobs_part : (at : Part) (n : ℕ) (item : Item) → IsPart at (AreBlobs item) (AreBlobsOf n item) (blobs_of at n item)
unfolding Kind Lengths
blobs_part at n item = many_by blob_kind v.Blob v.List (λ (i : Item). list_level (out-Item i)) length list_back list_forth blob_back blob_forth at n item (list_level (out-Item item)) refl

labels_part : (at : Part) (hash : Hash) (item : Item) → IsPart at (IsLabelMap item) (IsDigestMap hash item) (label_entries_of at (digest_size hash) item)
unfolding Kind Lengths
labels_part at hash item = many_by entry_kind pair_of v.Map (λ (i : Item). map_level (out-Item i)) digest_length map_back map_forth entry_back entry_forth at (digest_size hash) item (map_level (out-Item item)) refl

texts_part : (at : Part) (item : Item) → IsPart at (AreTexts item) (AreTexts item) (texts_of at item)
unfolding Kind
texts_part at item = kind_by text_kind v.Text v.List (λ (i : Item). list_level (out-Item i)) length list_back list_forth text_back text_forth at 0 item (list_level (out-Item item)) refl

wholes_part : (at : Part) (item : Item) → IsPart at (AreWholes item) (AreWholes item) (wholes_of at item)
unfolding Kind
wholes_part at item = kind_by whole_kind v.Whole v.List (λ (i : Item). list_level (out-Item i)) (λ (n : ℕ). n) list_back list_forth whole_back whole_forth at 0 item (list_level (out-Item item)) refl

-- a part of which only the kind counts
kind_stops : {A : Type 0} (at : Part) (Kind : Type 0) (r : Result A ValueFault) (e : ValueFault) → IsPart at Kind Kind r → r ≡ Err e → (Kind → ⊥) × (e ≡ fault.Shape at)
kind_stops at Kind (Ok x) e is h = absurd cc
kind_stops at Kind (Err d) e (inl s) h = (s.0, sym (same_err d e h) ∙ s.1)
kind_stops at Kind (Err d) e (inr s) h = absurd (s.1 s.0)

kind_refused : {A : Type 0} (at : Part) (Kind : Type 0) (r : Result A ValueFault) → IsPart at Kind Kind r → (Kind → ⊥) → r ≡ Err (fault.Shape at)
kind_refused at Kind (Ok x) is no_kind = absurd (no_kind is.0)
kind_refused at Kind (Err d) (inl s) no_kind = rw s.1 refl
kind_refused at Kind (Err d) (inr s) no_kind = absurd (no_kind s.0)

kind_passed : {A : Type 0} (at : Part) (Kind : Type 0) (r : Result A ValueFault) → IsPart at Kind Kind r → Kind → (x : A) × (r ≡ Ok x)
kind_passed at Kind (Ok x) is kind = (x, refl)
kind_passed at Kind (Err d) (inl s) kind = absurd (s.0 kind)
kind_passed at Kind (Err d) (inr s) kind = absurd (s.1 kind)

-- ---- the five parts

five_none : (o : Option Five) (e : ValueFault) → ok_or o (fault.Shape part.Array) ≡ Err e → e ≡ fault.Shape part.Array
five_none None e h = sym (same_err (fault.Shape part.Array) e h)
five_none (Some x) e h = absurd cc

five_stops : (item : Item) (e : ValueFault) → five_parts item ≡ Err e → ((five : Five) → item ≢ list_of five) × (e ≡ fault.Shape part.Array)
five_stops item e h = (
  (λ five is. absurd (let both = sym h ∙ ap five_parts is ∙ parts_again five.0 five.1 five.2 five.3 five.4 in cc)),
  five_none (option_and_then five_items (list_level (out-Item item))) e h,
)

five_refused : (item : Item) (r : Result Five ValueFault) → five_parts item ≡ r → ((five : Five) → item ≢ list_of five) → five_parts item ≡ Err (fault.Shape part.Array)
five_refused item (Ok five) h no_five = absurd (no_five five (parts_found item five h))
five_refused item (Err e) h no_five = h ∙ ap (λ (d : ValueFault). Err d) (five_stops item e h).1

five_read : (item : Item) (five : Five) → item ≡ list_of five → five_parts item ≡ Ok five
five_read item five is = ap five_parts is ∙ parts_again five.0 five.1 five.2 five.3 five.4

-- ---- a base value

-- a fault that reading an item as a base value ends with is one that the relation refuses it for
pub base_stops : (hash : Hash) (item : Item) (e : ValueFault) → base_of hash item ≡ Err e → RefusesFive RefusesBaseParts item e
unfolding base_of
base_stops hash item e h = elim (stopped (five_parts item) _ e h) [
  | inl p ↦ inl (five_stops item e p)
  | inr p ↦
      let five = p.0 in
      inr (
        five,
        parts_found item five p.1,
        part_stops part.BaseSignature _ _ (blob_of part.BaseSignature 64 five.0) _ e _ (blob_part part.BaseSignature 64 five.0) (λ _ _ h1.
            part_stops part.PublicKey _ _ (blob_of part.PublicKey 35 five.1) _ e _ (blob_part part.PublicKey 35 five.1) (λ _ _ h2.
            part_stops part.HmacKey _ _ (blob_of part.HmacKey 32 five.2) _ e _ (blob_part part.HmacKey 32 five.2) (λ _ _ h3.
            part_stops part.Signatures _ _ (blobs_of part.Signatures 64 five.3) _ e _ (blobs_part part.Signatures 64 five.3) (λ _ _ h4.
            elim (stopped (texts_of part.Pointers five.4) _ e h4) [
              | inl q ↦ kind_stops part.Pointers (AreTexts five.4) (texts_of part.Pointers five.4) e (texts_part part.Pointers five.4) q
              | inr q ↦ absurd (cc q.2)
            ]) h3) h2) h1) p.2,
      )
]

-- an item that the relation refuses as a base value is read with that fault
pub base_refused : (hash : Hash) (item : Item) (e : ValueFault) → RefusesFive RefusesBaseParts item e → base_of hash item ≡ Err e
unfolding base_of
base_refused hash item e (inl s) = rw (five_refused item (five_parts item) refl s.0, s.1) refl
base_refused hash item e (inr s) =
    let five = s.0 in
    goes_on (five_parts item) _ five (five_read item five s.1) ∙
    part_refused part.BaseSignature _ _ (blob_of part.BaseSignature 64 five.0) _ e _ (blob_part part.BaseSignature 64 five.0) (λ _ _ h1.
    part_refused part.PublicKey _ _ (blob_of part.PublicKey 35 five.1) _ e _ (blob_part part.PublicKey 35 five.1) (λ _ _ h2.
    part_refused part.HmacKey _ _ (blob_of part.HmacKey 32 five.2) _ e _ (blob_part part.HmacKey 32 five.2) (λ _ _ h3.
    part_refused part.Signatures _ _ (blobs_of part.Signatures 64 five.3) _ e _ (blobs_part part.Signatures 64 five.3) (λ _ _ h4.
    rw (kind_refused part.Pointers (AreTexts five.4) (texts_of part.Pointers five.4) (texts_part part.Pointers five.4) h4.0, h4.1) refl) h3) h2) h1) s.2

-- ---- a derived value

-- a fault that reading an item as a derived value ends with is one the relation refuses it for
pub derived_stops : (hash : Hash) (item : Item) (e : ValueFault) → derived_of hash item ≡ Err e → RefusesFive (RefusesDerivedParts hash) item e
unfolding derived_of
derived_stops hash item e h = elim (stopped (five_parts item) _ e h) [
  | inl p ↦ inl (five_stops item e p)
  | inr p ↦
      let five = p.0 in
      inr (
        five,
        parts_found item five p.1,
        part_stops part.BaseSignature _ _ (blob_of part.BaseSignature 64 five.0) _ e _ (blob_part part.BaseSignature 64 five.0) (λ _ _ h1.
            part_stops part.PublicKey _ _ (blob_of part.PublicKey 35 five.1) _ e _ (blob_part part.PublicKey 35 five.1) (λ _ _ h2.
            part_stops part.Signatures _ _ (blobs_of part.Signatures 64 five.2) _ e _ (blobs_part part.Signatures 64 five.2) (λ _ _ h3.
            part_stops part.LabelMap _ _ (label_entries_of part.LabelMap (digest_size hash) five.3) _ e _ (labels_part part.LabelMap hash five.3) (λ _ _ h4.
            elim (stopped (wholes_of part.Indexes five.4) _ e h4) [
              | inl q ↦ inl (kind_stops part.Indexes (AreWholes five.4) (wholes_of part.Indexes five.4) e (wholes_part part.Indexes five.4) q)
              | inr q ↦ inr (rising_stops five.4 q.0 e q.1 _ q.2)
            ]) h3) h2) h1) p.2,
      )
]
  where
    rising_by : {A : Type 0} (item : Item) (numbers : List ℕ) (e : ValueFault) (x : A) (b : Bool) → rise numbers ≡ b → item ≡ v.List (map v.Whole numbers) → cond b (Ok x) (Err fault.Indexes) ≡ Err e → AreWholes item × (AreRising item → ⊥) × (e ≡ fault.Indexes)
    rising_by item numbers e x true r is h = absurd cc
    rising_by item numbers e x false r is h = (
      (numbers, is),
      (λ s. let same : numbers ≡ s.0 = some_same numbers s.0 (each_is whole_kind (map v.Whole numbers)) (each_forth whole_kind v.Whole whole_forth numbers) (inside_is whole_kind v.Whole v.List (λ (i : Item). list_level (out-Item i)) (λ (n : ℕ). n) list_back list_forth whole_back whole_forth part.Indexes 0 item (map v.Whole numbers) s.0 (ap (λ (i : Item). list_level (out-Item i)) is ∙ list_forth (map v.Whole numbers)) s.1) in false≢true (sym r ∙ ap rise same ∙ s.2)),
      sym (same_err fault.Indexes e h),
    )

    rising_stops : {A : Type 0} (item : Item) (numbers : List ℕ) (e : ValueFault) → wholes_of part.Indexes item ≡ Ok numbers → (x : A) → cond (rise numbers) (Ok x) (Err fault.Indexes) ≡ Err e → AreWholes item × (AreRising item → ⊥) × (e ≡ fault.Indexes)
    rising_stops item numbers e ok x h = rising_by item numbers e x (rise numbers) refl (wholes_found part.Indexes item numbers ok) h

-- an item that the relation refuses as a derived value is read with that fault
pub derived_refused : (hash : Hash) (item : Item) (e : ValueFault) → RefusesFive (RefusesDerivedParts hash) item e → derived_of hash item ≡ Err e
unfolding derived_of
derived_refused hash item e (inl s) = rw (five_refused item (five_parts item) refl s.0, s.1) refl
derived_refused hash item e (inr s) =
    let five = s.0 in
    goes_on (five_parts item) _ five (five_read item five s.1) ∙
    part_refused part.BaseSignature _ _ (blob_of part.BaseSignature 64 five.0) _ e _ (blob_part part.BaseSignature 64 five.0) (λ _ _ h1.
    part_refused part.PublicKey _ _ (blob_of part.PublicKey 35 five.1) _ e _ (blob_part part.PublicKey 35 five.1) (λ _ _ h2.
    part_refused part.Signatures _ _ (blobs_of part.Signatures 64 five.2) _ e _ (blobs_part part.Signatures 64 five.2) (λ _ _ h3.
    part_refused part.LabelMap _ _ (label_entries_of part.LabelMap (digest_size hash) five.3) _ e _ (labels_part part.LabelMap hash five.3) (λ _ _ h4. elim h4 [
      | inl q ↦ rw (kind_refused part.Indexes (AreWholes five.4) (wholes_of part.Indexes five.4) (wholes_part part.Indexes five.4) q.0, q.1) refl
      | inr q ↦
          let read = kind_passed part.Indexes (AreWholes five.4) (wholes_of part.Indexes five.4) (wholes_part part.Indexes five.4) q.0 in
          let fall : rise read.0 ≡ false = not_rising read.0 (rise read.0) refl (wholes_found part.Indexes five.4 read.0 read.1) q.1 in
          rw (read.1, fall, q.2) refl
    ]) h3) h2) h1) s.2
  where
    not_rising : (numbers : List ℕ) (b : Bool) → rise numbers ≡ b → {item : Item} → item ≡ v.List (map v.Whole numbers) → (AreRising item → ⊥) → rise numbers ≡ false
    not_rising numbers true r is bad = absurd (bad (numbers, is, r))
    not_rising numbers false r is bad = r

-- What is read is spelled by the text, and what is spelled is read.
use Rattle.std.proofs.Common.{◌≡◌, ℕ, ◌+◌, ◌≤◌, ◌<◌, true, List, ◌++◌, map, Result, Ok, Err, refl, sym, ap, subst, ◌∙◌}
use Rattle.std.specs.Prelude.{IfOk}
use Rattle.std.proofs.lemmas.List.{get_or-drop}
use Rattle.base64.specs.Engines.{url_safe_no_pad}
use Rattle.base64.specs.GeneralPurpose.{IsBytes, encode_of, decode_of}
use Rattle.base64.proofs.EngineFacts.{decode_of-encode_of}
use Rattle.cbor_core.specs.declared.item.Item.{Item}
use Rattle.cbor_core.specs.declared.item.Item.TheVariants as v
use Rattle.cbor_core.specs.declared.fault.CborFault.{CborFault}
use Rattle.cbor_core.specs.Grammar.{Encodes}
use Rattle.cbor_core.specs.Internal.Reading.{reading}
use Rattle.cbor_core.specs.Writing.{count_of}
use Rattle.base_types.specs.Order.{rise}
use Rattle.digest_mac.specs.declared.hash.Hash.{Hash}
use Rattle.digest_mac.specs.Digests.{digest_size}
use Rattle.proof_cbor.specs.declared.headers.Kind.{Kind}
use Rattle.proof_cbor.specs.declared.headers.Kind.TheVariants.{Base, Derived}
use Rattle.cbor_core.proofs.Whole.{found_by, count_by, read_again}
use Rattle.proof_cbor.specs.declared.fault.Part.TheVariants as part
use Rattle.proof_cbor.specs.declared.fault.ValueFault.{ValueFault}
use Rattle.proof_cbor.specs.declared.fault.ValueFault.TheVariants as fault
use Rattle.proof_cbor.specs.declared.value.BaseValue.{BaseValue}
use Rattle.proof_cbor.specs.declared.value.DerivedValue.{DerivedValue}
use Rattle.proof_cbor.specs.Values.{header, multibase_text, IsText, pair_of, base_item, derived_item, BaseSizes, DerivedSizes, SpellsBehind, SpellsBase, SpellsDerived}
use Rattle.cbor_core.specs.Internal.Results.{◌>>=◌, Gives}
use Rattle.proof_cbor.specs.Internal.Reading.{is_memory, blob_of, blobs_of, texts_of, wholes_of, label_entries_of, five_parts, base_of, derived_of, base64_result, multibase_bytes, behind, item_of, item_behind, reading_base, reading_derived}
use Rattle.cbor_core.proofs.Outcomes.{same_ok, ended, went_on, goes_on}
use Rattle.proof_cbor.proofs.Naming.{behind_found, behind_again}
use Rattle.proof_cbor.proofs.Inverses.{blob_found, blob_again, blobs_found, blobs_again, texts_found, texts_again, wholes_found, wholes_again, labels_found, labels_again, parts_found, parts_again, five_joined}

-- ---- the item of a base value

record BaseIs (hash : Hash) (item : Item) (value : BaseValue) : Type 0 where
  by : value.hash ≡ hash
  is : item ≡ base_item value
  sizes : BaseSizes value

base_found : (hash : Hash) (item : Item) (value : BaseValue) → base_of hash item ≡ Ok value → BaseIs hash item value
unfolding base_of base_item
base_found hash item value e =
    let a = went_on (five_parts item) _ value e in
    let b = went_on (blob_of part.BaseSignature 64 a.0.0) _ value a.2 in
    let c = went_on (blob_of part.PublicKey 35 a.0.1) _ value b.2 in
    let d = went_on (blob_of part.HmacKey 32 a.0.2) _ value c.2 in
    let f = went_on (blobs_of part.Signatures 64 a.0.3) _ value d.2 in
    let g = went_on (texts_of part.Pointers a.0.4) _ value f.2 in
    let one = blob_found part.BaseSignature 64 a.0.0 b.0 b.1 in
    let two = blob_found part.PublicKey 35 a.0.1 c.0 c.1 in
    let three = blob_found part.HmacKey 32 a.0.2 d.0 d.1 in
    let four = blobs_found part.Signatures 64 a.0.3 f.0 f.1 in
    let five = texts_found part.Pointers a.0.4 g.0 g.1 in
    let whole = parts_found item a.0 a.1 in
    let read : BaseValue = record { hash = hash; signature = b.0; key = c.0; secret = d.0; signatures = f.0; pointers = g.0 } in
    subst (λ (x : BaseValue). BaseIs hash item x) (same_ok read value g.2)
    (record { by = refl; is = five_joined item a.0.0 a.0.1 a.0.2 a.0.3 a.0.4 _ _ _ _ _ whole one.0 two.0 three.0 four.0 five; sizes = record { signature = one.1; key = two.1; secret = three.1; signatures = four.1 } })

base_again : (value : BaseValue) → BaseSizes value → base_of value.hash (base_item value) ≡ Ok value
unfolding base_of base_item
base_again value s =
    rw (
      parts_again (v.Blob value.signature) (v.Blob value.key) (v.Blob value.secret) (v.List (map v.Blob value.signatures)) (v.List (map v.Text value.pointers)),
      blob_again part.BaseSignature 64 value.signature s.signature,
      blob_again part.PublicKey 35 value.key s.key,
      blob_again part.HmacKey 32 value.secret s.secret,
      blobs_again part.Signatures 64 value.signatures s.signatures,
      texts_again part.Pointers value.pointers,
    ) refl

-- ---- the item of a derived value

record DerivedIs (hash : Hash) (item : Item) (value : DerivedValue) : Type 0 where
  by : value.hash ≡ hash
  is : item ≡ derived_item value
  sizes : DerivedSizes value
  rising : rise value.indexes ≡ true

derived_found : (hash : Hash) (item : Item) (value : DerivedValue) → derived_of hash item ≡ Ok value → DerivedIs hash item value
unfolding derived_of derived_item
derived_found hash item value e =
    let a = went_on (five_parts item) _ value e in
    let b = went_on (blob_of part.BaseSignature 64 a.0.0) _ value a.2 in
    let c = went_on (blob_of part.PublicKey 35 a.0.1) _ value b.2 in
    let d = went_on (blobs_of part.Signatures 64 a.0.2) _ value c.2 in
    let f = went_on (label_entries_of part.LabelMap (digest_size hash) a.0.3) _ value d.2 in
    let g = went_on (wholes_of part.Indexes a.0.4) _ value f.2 in
    let one = blob_found part.BaseSignature 64 a.0.0 b.0 b.1 in
    let two = blob_found part.PublicKey 35 a.0.1 c.0 c.1 in
    let three = blobs_found part.Signatures 64 a.0.2 d.0 d.1 in
    let four = labels_found part.LabelMap (digest_size hash) a.0.3 f.0 f.1 in
    let five = wholes_found part.Indexes a.0.4 g.0 g.1 in
    let whole = parts_found item a.0 a.1 in
    let read : DerivedValue = record { hash = hash; signature = b.0; key = c.0; signatures = d.0; labels = f.0; indexes = g.0 } in
    let p = ended (rise g.0) fault.Indexes read value g.2 in
    subst (λ (x : DerivedValue). DerivedIs hash item x) p.1
    (record { by = refl; is = five_joined item a.0.0 a.0.1 a.0.2 a.0.3 a.0.4 _ _ _ _ _ whole one.0 two.0 three.0 four.0 five; sizes = record { signature = one.1; key = two.1; signatures = three.1; digests = four.1 }; rising = p.0 })

derived_again : (value : DerivedValue) → DerivedSizes value → rise value.indexes ≡ true → derived_of value.hash (derived_item value) ≡ Ok value
unfolding derived_of derived_item
derived_again value s rising =
    rw (
      parts_again (v.Blob value.signature) (v.Blob value.key) (v.List (map v.Blob value.signatures)) (v.Map (map pair_of value.labels)) (v.List (map v.Whole value.indexes)),
      blob_again part.BaseSignature 64 value.signature s.signature,
      blob_again part.PublicKey 35 value.key s.key,
      blobs_again part.Signatures 64 value.signatures s.signatures,
      labels_again part.LabelMap (digest_size value.hash) value.labels s.digests,
      wholes_again part.Indexes value.indexes,
      rising,
    ) refl

-- ---- the item behind a header

item_ok : (r : Result Item CborFault) (item : Item) → item_of r ≡ Ok item → r ≡ Ok item
item_ok (Ok i) item e = ap (λ (z : Item). Ok z) (same_ok i item e)
item_ok (Err d) item e = absurd cc

-- an item that is read behind a header is one that the text spells behind it
pub item_found : (kind : Kind) (text bytes : List ℕ) (hash : Hash) (item : Item) → IsText text bytes → item_behind kind bytes ≡ Ok (hash, item) → SpellsBehind (header kind hash) item text
unfolding item_behind
item_found kind text bytes hash item t e =
    let a = went_on (behind kind bytes) (λ (f : Hash × List ℕ). item_of (reading f.1) >>= λ (i : Item). Ok (f.0, i)) (hash, item) e in
    let b = went_on (item_of (reading a.0.1)) (λ (i : Item). Ok (a.0.0, i)) (hash, item) a.2 in
    let found = behind_found kind bytes a.0 a.1 in
    let same : (a.0.0, b.0) ≡ (hash, item) = same_ok (a.0.0, b.0) (hash, item) b.2 in
    let by : a.0.0 ≡ hash = ap (λ (z : Hash × Item). z.0) same in
    let is : b.0 ≡ item = ap (λ (z : Hash × Item). z.1) same in
    let whole : bytes ≡ header kind hash ++ a.0.1 = found.0 ∙ ap (λ (h : Hash). header kind h ++ a.0.1) by in
    let small : IsBytes a.0.1 = subst IsBytes found.1 (λ (i : ℕ). subst (λ (n : ℕ). n < 256) (sym (get_or-drop 3 bytes i 0)) (t.0 (3 + i))) in
    let r : reading a.0.1 ≡ Ok item = item_ok (reading a.0.1) item (b.1 ∙ ap (λ (i : Item). Ok i) is) in
    (count_of item, a.0.1, count_by a.0.1 (Ok item) small r, found_by a.0.1 (Ok item) small r, (subst IsBytes whole t.0, t.1 ∙ ap (λ (z : List ℕ). multibase_text z) whole))

-- the text of bytes is read as those bytes
pub bytes_again : (text bytes : List ℕ) → IsText text bytes → multibase_bytes text ≡ Ok bytes
bytes_again text bytes t =
    let d : decode_of url_safe_no_pad (encode_of url_safe_no_pad bytes) ≡ Ok bytes = decode_of-encode_of url_safe_no_pad bytes refl t.0 in
    let e : multibase_bytes (multibase_text bytes) ≡ Ok bytes = ap base64_result d in
    ap multibase_bytes t.1 ∙ e

-- an encoding within the bounds, behind a header, is read as its item, by the hash of the header
pub item_again : (kind : Kind) (hash : Hash) (rest : List ℕ) (item : Item) (count : ℕ) → count ≤ 100000 → Encodes 4 item count rest → item_behind kind (header kind hash ++ rest) ≡ Ok (hash, item)
unfolding item_behind
item_again kind hash rest item count le s =
    goes_on (behind kind (header kind hash ++ rest)) (λ (f : Hash × List ℕ). item_of (reading f.1) >>= λ (i : Item). Ok (f.0, i)) (hash, rest) (behind_again kind hash rest)
    ∙ ap (λ (r : Result Item CborFault). item_of r >>= λ (i : Item). Ok (hash, i)) (read_again rest item count le s)

-- ---- the whole

-- a text whose item behind the header is read as a base value spells that value
pub base_spelled : (text bytes : List ℕ) (hash : Hash) (item : Item) (value : BaseValue) → IsText text bytes → item_behind Base bytes ≡ Ok (hash, item) → base_of hash item ≡ Ok value → SpellsBase value text
base_spelled text bytes hash item value t i b =
    let found = base_found hash item value b in
    let behind_it : SpellsBehind (header Base hash) (base_item value) text = subst (λ (x : Item). SpellsBehind (header Base hash) x text) found.is (item_found Base text bytes hash item t i) in
    record { sizes = found.sizes; spelled = subst (λ (h : Hash). SpellsBehind (header Base h) (base_item value) text) (sym found.by) behind_it }

-- where a call answers the base value that the item behind the header is, the text spells it
pub base_result : (text bytes : List ℕ) (hash : Hash) (item : Item) (result : Result BaseValue ValueFault) → IsText text bytes → item_behind Base bytes ≡ Ok (hash, item) → Gives is_memory (λ x. x) result (base_of hash item) → IfOk result (λ (value : BaseValue). SpellsBase value text)
base_result text bytes hash item (Ok value) t i g = base_spelled text bytes hash item value t i g
base_result text bytes hash item (Err e) t i g = tt

-- a text that spells a base value is read as that value
pub base_read : (text : List ℕ) (value : BaseValue) → SpellsBase value text → reading_base text ≡ Ok value
unfolding reading_base
base_read text value s =
    let bytes = header Base value.hash ++ s.spelled.1 in
    goes_on (multibase_bytes text) _ bytes (bytes_again text bytes s.spelled.4)
    ∙ goes_on (item_behind Base bytes) (λ (f : Hash × Item). base_of f.0 f.1) (value.hash, base_item value) (item_again Base value.hash s.spelled.1 (base_item value) s.spelled.0 s.spelled.2 s.spelled.3)
    ∙ base_again value s.sizes

-- a text whose item behind the header is read as a derived value spells that value
pub derived_spelled : (text bytes : List ℕ) (hash : Hash) (item : Item) (value : DerivedValue) → IsText text bytes → item_behind Derived bytes ≡ Ok (hash, item) → derived_of hash item ≡ Ok value → SpellsDerived value text
derived_spelled text bytes hash item value t i b =
    let found = derived_found hash item value b in
    let behind_it : SpellsBehind (header Derived hash) (derived_item value) text = subst (λ (x : Item). SpellsBehind (header Derived hash) x text) found.is (item_found Derived text bytes hash item t i) in
    record { sizes = found.sizes; rising = found.rising; spelled = subst (λ (h : Hash). SpellsBehind (header Derived h) (derived_item value) text) (sym found.by) behind_it }

-- where a call answers the derived value that the item behind the header is, the text spells it
pub derived_result : (text bytes : List ℕ) (hash : Hash) (item : Item) (result : Result DerivedValue ValueFault) → IsText text bytes → item_behind Derived bytes ≡ Ok (hash, item) → Gives is_memory (λ x. x) result (derived_of hash item) → IfOk result (λ (value : DerivedValue). SpellsDerived value text)
derived_result text bytes hash item (Ok value) t i g = derived_spelled text bytes hash item value t i g
derived_result text bytes hash item (Err e) t i g = tt

-- a text that spells a derived value is read as that value
pub derived_read : (text : List ℕ) (value : DerivedValue) → SpellsDerived value text → reading_derived text ≡ Ok value
unfolding reading_derived
derived_read text value s =
    let bytes = header Derived value.hash ++ s.spelled.1 in
    goes_on (multibase_bytes text) _ bytes (bytes_again text bytes s.spelled.4)
    ∙ goes_on (item_behind Derived bytes) (λ (f : Hash × Item). derived_of f.0 f.1) (value.hash, derived_item value) (item_again Derived value.hash s.spelled.1 (derived_item value) s.spelled.0 s.spelled.2 s.spelled.3)
    ∙ derived_again value s.sizes s.rising

-- Which text spells a proof value of `ecdsa-sd-2023` (Data Integrity ECDSA Cryptosuites 1.0, 3.5.2
-- to 3.5.3 and 3.5.7 to 3.5.8).
use Rattle.std.specs.Prelude.{◌≡◌, ℕ, ◌≤◌, List, [], ◌∷◌, ◌++◌, length, map, Bool, true, ◌==◌}
use Rattle.std.specs.List.{list_all}
use Rattle.base64.specs.GeneralPurpose.{IsBytes}
use Rattle.cbor_core.specs.declared.item.Item.{Item}
use Rattle.cbor_core.specs.declared.item.Item.TheVariants as v
use Rattle.cbor_core.specs.declared.item.Pair.{Pair}
use Rattle.cbor_core.specs.Grammar.{Encodes}
use Rattle.cbor_core.specs.Writing.{encoding_of, count_of, fits}
use Rattle.base_types.specs.Order.{rise}
use Rattle.digest_mac.specs.declared.hash.Hash.{Hash}
use Rattle.digest_mac.specs.declared.hash.Hash.TheVariants.{Sha256, Sha384}
use Rattle.digest_mac.specs.Digests.{digest_size}
use Rattle.proof_cbor.specs.declared.headers.Kind.{Kind}
use Rattle.proof_cbor.specs.declared.headers.Kind.TheVariants.{Base, Derived}
use Rattle.proof_cbor.specs.declared.value.BaseValue.{BaseValue}
use Rattle.proof_cbor.specs.declared.value.DerivedValue.{DerivedValue}
use Rattle.proof_cbor.specs.declared.value.MapEntry.{MapEntry}
pub use Rattle.digest_mac.specs.Labels.{multibase_text}

-- The three bytes before a value of a kind by a hash. Those by SHA-256 are the standard's (3.5.2
-- and 3.5.7), those by SHA-384 are this project's own.
abbrev pub header : Kind → Hash → List ℕ
header Base Sha256 = 0xd9 ∷ 0x5d ∷ 0x00 ∷ []
header Base Sha384 = 0xd9 ∷ 0x5d ∷ 0x20 ∷ []
header Derived Sha256 = 0xd9 ∷ 0x5d ∷ 0x01 ∷ []
header Derived Sha384 = 0xd9 ∷ 0x5d ∷ 0x21 ∷ []

-- the text is that of these bytes; each number of the list is one byte
abbrev pub IsText : List ℕ → List ℕ → Type 0
IsText text bytes = IsBytes bytes × (text ≡ multibase_text bytes)

-- each of the byte strings has so many bytes
abbrev pub all_sized : ℕ → List (List ℕ) → Bool
all_sized n contents = list_all (λ c. length c == n) contents

-- each of the digests has the length of the hash
abbrev pub digests_sized : Hash → List MapEntry → Bool
digests_sized hash entries =
    list_all (λ (e : MapEntry). length e.digest == digest_size hash) entries

-- an entry of a label map, as the pair of a map from numbers to byte strings
abbrev pub pair_of : MapEntry → Pair Item
pair_of entry = record { key = entry.number; value = v.Blob entry.digest }

-- the list of five parts that a base value is (3.5.2)
unfoldable pub base_item : BaseValue → Item
base_item value = v.List (v.Blob value.signature ∷ v.Blob value.key ∷ v.Blob value.secret
    ∷ v.List (map v.Blob value.signatures) ∷ v.List (map v.Text value.pointers) ∷ [])

-- the list of five parts that a derived value is (3.5.7)
unfoldable pub derived_item : DerivedValue → Item
derived_item value = v.List (v.Blob value.signature ∷ v.Blob value.key
    ∷ v.List (map v.Blob value.signatures) ∷ v.Map (map pair_of value.labels)
    ∷ v.List (map v.Whole value.indexes) ∷ [])

-- the byte strings of a base value have their lengths (3.5.3)
pub record BaseSizes (value : BaseValue) : Type 0 where
  pub signature : length value.signature ≡ 64
  pub key : length value.key ≡ 35
  pub secret : length value.secret ≡ 32
  pub signatures : all_sized 64 value.signatures ≡ true

-- the byte strings of a derived value have their lengths (3.5.8)
pub record DerivedSizes (value : DerivedValue) : Type 0 where
  pub signature : length value.signature ≡ 64
  pub key : length value.key ≡ 35
  pub signatures : all_sized 64 value.signatures ≡ true
  pub digests : digests_sized value.hash value.labels ≡ true

-- the text spells an item behind a header, which nests at most 4 deep and has at most 100,000 items
abbrev pub SpellsBehind : List ℕ → Item → List ℕ → Type 0
SpellsBehind header item text =
    (count : ℕ) × (rest : List ℕ) × (count ≤ 100000) × Encodes 4 item count rest
    × IsText text (header ++ rest)

-- the text spells the base value, behind the header of its hash
pub record SpellsBase (value : BaseValue) (text : List ℕ) : Type 0 where
  pub sizes : BaseSizes value
  pub spelled : SpellsBehind (header Base value.hash) (base_item value) text

-- The text spells the derived value, behind the header of its hash, and its indexes rise. Its label
-- map may be spelled in any order of numbers; the value has them by rising number.
pub record SpellsDerived (value : DerivedValue) (text : List ℕ) : Type 0 where
  pub sizes : DerivedSizes value
  pub rising : rise value.indexes ≡ true
  pub spelled : SpellsBehind (header Derived value.hash) (derived_item value) text

-- the bytes that are written for a value, its label map by rising number
abbrev pub base_proof_bytes : BaseValue → List ℕ
base_proof_bytes value = header Base value.hash ++ encoding_of (base_item value)

abbrev pub derived_proof_bytes : DerivedValue → List ℕ
derived_proof_bytes value = header Derived value.hash ++ encoding_of (derived_item value)

-- the value is one of the types of Rust: its byte strings have their lengths, and all else fits
abbrev pub CanWriteBase : BaseValue → Type 0
CanWriteBase value = BaseSizes value × (fits (base_item value) ≡ true)

-- the base value with another signature
abbrev pub with_signature : BaseValue → List ℕ → BaseValue
with_signature value signature = record value { signature = signature }

-- the bytes of a draft are those of the value, which may be written
abbrev pub IsDraft : BaseValue → List ℕ → Type 0
IsDraft value bytes =
    CanWriteBase value × (count_of (base_item value) ≤ 100000) × (bytes ≡ base_proof_bytes value)

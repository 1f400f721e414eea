-- Which text is refused, and as what: the first fault that applies, in the order of `ValueFault`.
-- Of the five parts the first that is refused counts, and of one part its kind comes before its
-- lengths.
use Rattle.std.specs.Prelude.{◌≡◌, ◌≢◌, ℕ, ◌≤◌, List, [], ◌∷◌, ◌++◌, length, map, true, ◌⊎◌, Result, Ok, Err}
use Rattle.cbor_core.specs.declared.fault.CborFault.{CborFault}
use Rattle.cbor_core.specs.declared.item.Item.{Item}
use Rattle.cbor_core.specs.declared.item.Item.TheVariants as v
use Rattle.cbor_core.specs.Grammar.{Encodes}
use Rattle.cbor_core.specs.Refusals.{IsRefused}
use Rattle.base_types.specs.Order.{rise}
use Rattle.digest_mac.specs.declared.hash.Hash.{Hash}
use Rattle.proof_cbor.specs.declared.headers.Kind.{Kind}
use Rattle.proof_cbor.specs.declared.headers.Kind.TheVariants.{Base, Derived}
use Rattle.proof_cbor.specs.declared.fault.Part.{Part}
use Rattle.proof_cbor.specs.declared.fault.Part.TheVariants as part
use Rattle.proof_cbor.specs.declared.fault.ValueFault.{ValueFault}
use Rattle.proof_cbor.specs.declared.fault.ValueFault.TheVariants.{NotMultibase, Header, Cbor, Shape, Length, Indexes}
use Rattle.proof_cbor.specs.declared.value.BaseValue.{BaseValue}
use Rattle.proof_cbor.specs.declared.value.DerivedValue.{DerivedValue}
use Rattle.proof_cbor.specs.declared.value.MapEntry.{MapEntry}
use Rattle.proof_cbor.specs.Values.{header, IsText, all_sized, digests_sized, pair_of, SpellsBase, SpellsDerived}

-- ---- kinds of parts

-- a byte string, and one of so many bytes
abbrev pub IsBlob : Item → Type 0
IsBlob item = (content : List ℕ) × (item ≡ v.Blob content)

abbrev pub IsBlobOf : ℕ → Item → Type 0
IsBlobOf n item = (content : List ℕ) × (item ≡ v.Blob content) × (length content ≡ n)

-- a list of byte strings, and one of byte strings of so many bytes each
abbrev pub AreBlobs : Item → Type 0
AreBlobs item = (contents : List (List ℕ)) × (item ≡ v.List (map v.Blob contents))

abbrev pub AreBlobsOf : ℕ → Item → Type 0
AreBlobsOf n item =
    (contents : List (List ℕ)) × (item ≡ v.List (map v.Blob contents))
    × (all_sized n contents ≡ true)

-- a map from numbers to byte strings, and one to digests of this hash
abbrev pub IsLabelMap : Item → Type 0
IsLabelMap item = (entries : List MapEntry) × (item ≡ v.Map (map pair_of entries))

abbrev pub IsDigestMap : Hash → Item → Type 0
IsDigestMap hash item =
    (entries : List MapEntry) × (item ≡ v.Map (map pair_of entries))
    × (digests_sized hash entries ≡ true)

-- a list of texts
abbrev pub AreTexts : Item → Type 0
AreTexts item = (texts : List (List ℕ)) × (item ≡ v.List (map v.Text texts))

-- a list of whole numbers, and one of such that rise
abbrev pub AreWholes : Item → Type 0
AreWholes item = (numbers : List ℕ) × (item ≡ v.List (map v.Whole numbers))

abbrev pub AreRising : Item → Type 0
AreRising item = (numbers : List ℕ) × (item ≡ v.List (map v.Whole numbers)) × (rise numbers ≡ true)

-- ---- the parts in their order

-- A part is refused: it is not of the kind, or it is and has other lengths, or it is right and what
-- comes later is refused.
abbrev pub RefusesPart : Part → Type 0 → Type 0 → ValueFault → Type 0 → Type 0
RefusesPart at Kind Lengths fault Later =
    ((Kind → ⊥) × (fault ≡ Shape at))
    ⊎ ((Kind × (Lengths → ⊥) × (fault ≡ Length at)) ⊎ (Kind × Lengths × Later))

-- the five parts of a value
abbrev pub Five : Type 0
Five = Item × Item × Item × Item × Item

abbrev pub list_of : Five → Item
list_of five = v.List (five.0 ∷ five.1 ∷ five.2 ∷ five.3 ∷ five.4 ∷ [])

abbrev pub RefusesBaseParts : Five → ValueFault → Type 0
RefusesBaseParts five fault =
    RefusesPart part.BaseSignature (IsBlob five.0) (IsBlobOf 64 five.0) fault
    (RefusesPart part.PublicKey (IsBlob five.1) (IsBlobOf 35 five.1) fault
    (RefusesPart part.HmacKey (IsBlob five.2) (IsBlobOf 32 five.2) fault
    (RefusesPart part.Signatures (AreBlobs five.3) (AreBlobsOf 64 five.3) fault
    ((AreTexts five.4 → ⊥) × (fault ≡ Shape part.Pointers)))))

-- the digests of a derived value are as long as its hash says
abbrev pub RefusesDerivedParts : Hash → Five → ValueFault → Type 0
RefusesDerivedParts hash five fault =
    RefusesPart part.BaseSignature (IsBlob five.0) (IsBlobOf 64 five.0) fault
    (RefusesPart part.PublicKey (IsBlob five.1) (IsBlobOf 35 five.1) fault
    (RefusesPart part.Signatures (AreBlobs five.2) (AreBlobsOf 64 five.2) fault
    (RefusesPart part.LabelMap (IsLabelMap five.3) (IsDigestMap hash five.3) fault
    (((AreWholes five.4 → ⊥) × (fault ≡ Shape part.Indexes))
    ⊎ (AreWholes five.4 × (AreRising five.4 → ⊥) × (fault ≡ Indexes))))))

-- the item is no list of five, or a part is refused
abbrev pub RefusesFive : (Five → ValueFault → Type 0) → Item → ValueFault → Type 0
RefusesFive Refuses item fault =
    (((five : Five) → item ≢ list_of five) × (fault ≡ Shape part.Array))
    ⊎ ((five : Five) × (item ≡ list_of five) × Refuses five fault)

-- ---- the text

-- The bytes begin with no header of this kind, or what follows the header of a hash is no item of
-- CBOR, or its parts are refused by this hash.
abbrev pub RefusesBytes :
    Kind → (Hash → Five → ValueFault → Type 0) → List ℕ → ValueFault → Type 0
RefusesBytes kind Refuses bytes fault =
    (((hash : Hash) (rest : List ℕ) → bytes ≢ header kind hash ++ rest) × (fault ≡ Header))
    ⊎ ((hash : Hash) × (rest : List ℕ) × (bytes ≡ header kind hash ++ rest)
    × (((e : CborFault) × IsRefused rest e × (fault ≡ Cbor e))
    ⊎ ((item : Item) × (count : ℕ) × (count ≤ 100000) × Encodes 4 item count rest
    × RefusesFive (Refuses hash) item fault)))

-- The text is not `u` and strict base64url without padding, or its bytes are refused.
abbrev pub RefusesMultibase :
    Kind → (Hash → Five → ValueFault → Type 0) → List ℕ → ValueFault → Type 0
RefusesMultibase kind Refuses text fault =
    (((bytes : List ℕ) → IsText text bytes → ⊥) × (fault ≡ NotMultibase))
    ⊎ ((bytes : List ℕ) × IsText text bytes × RefusesBytes kind Refuses bytes fault)

-- The text is refused as a base value, or as a derived value.
abbrev pub RefusesBase : List ℕ → ValueFault → Type 0
RefusesBase text fault = RefusesMultibase Base (λ hash. RefusesBaseParts) text fault

abbrev pub RefusesDerived : List ℕ → ValueFault → Type 0
RefusesDerived text fault = RefusesMultibase Derived RefusesDerivedParts text fault

-- what the text is as a base value, and as a derived value: the value, or refused
abbrev pub ReadsBase : List ℕ → Result BaseValue ValueFault → Type 0
ReadsBase text (Ok value) = SpellsBase value text
ReadsBase text (Err fault) = RefusesBase text fault

abbrev pub ReadsDerived : List ℕ → Result DerivedValue ValueFault → Type 0
ReadsDerived text (Ok value) = SpellsDerived value text
ReadsDerived text (Err fault) = RefusesDerived text fault

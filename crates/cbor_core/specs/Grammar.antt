-- The items of CBOR (RFC 8949) that are read and written here, and the bytes that spell each: whole
-- numbers, byte strings, texts, lists, and maps from whole numbers, all of definite length.
use Rattle.std.specs.Prelude.{◌≡◌, ◌≢◌, ℕ, zero, suc, ◌+◌, ◌*◌, ◌^◌, ◌<◌, List, [], ◌∷◌, ◌++◌, length, map, true, nat_lt, slice_index, if◌then◌else◌, ◌⊎◌}
use Rattle.std.specs.Int.{w16, w32, w64, to_be_bytes}
use Rattle.std.specs.List.{AllByRecursion}
use Rattle.std.specs.Str.{IsUtf8}
use Rattle.base_types.specs.Order.{rise}
use Rattle.base_types.specs.Sets.{SameElements}
use Rattle.cbor_core.specs.declared.item.Item.{Item}
use Rattle.cbor_core.specs.declared.item.Item.TheVariants as v
use Rattle.cbor_core.specs.declared.item.Pair.{Pair}

-- each number of the list is one byte
abbrev pub IsBytes : List ℕ → Type 0
IsBytes bytes = (i : ℕ) → slice_index bytes i < 256

-- The head of an item: the major type in the high three bits of the first byte, and the argument in
-- the low five or in the bytes after it (RFC 8949, 3), in the fewest bytes that hold it (4.2.1).
unfoldable pub head_of : ℕ → ℕ → List ℕ
head_of major value =
    if nat_lt value 24 then (major * 32 + value) ∷ []
    else if nat_lt value (2 ^ 8) then (major * 32 + 24) ∷ value ∷ []
    else if nat_lt value (2 ^ 16) then (major * 32 + 25) ∷ to_be_bytes w16 value
    else if nat_lt value (2 ^ 32) then (major * 32 + 26) ∷ to_be_bytes w32 value
    else (major * 32 + 27) ∷ to_be_bytes w64 value

-- the bytes are the head with this argument, which is a number of at most 64 bits
abbrev pub IsHead : ℕ → ℕ → List ℕ → Type 0
IsHead major value bytes = (value < 2 ^ 64) × (bytes ≡ head_of major value)

-- a head, and then this content of as many bytes as it says (RFC 8949, 3.1, types 2 and 3)
abbrev pub IsString : ℕ → List ℕ → List ℕ → Type 0
IsString major content bytes =
    (length content < 2 ^ 64) × (bytes ≡ head_of major (length content) ++ content)

-- Below, `spells item count bytes` says what spells the items inside a list or a map.
-- The bytes spell these items one after another, count of them with all that they hold.
abbrev pub EncodesEach : (Item → ℕ → List ℕ → Type 0) → List Item → ℕ → List ℕ → Type 0
EncodesEach spells [] count bytes = (count ≡ 0) × (bytes ≡ [])
EncodesEach spells (item ∷ items) count bytes =
    (m n : ℕ) × (front back : List ℕ) × spells item m front × EncodesEach spells items n back
    × (count ≡ m + n) × (bytes ≡ front ++ back)

-- The bytes spell these entries of a map one after another, each a key and its value. A key is an
-- item too.
abbrev pub EncodesEntries : (Item → ℕ → List ℕ → Type 0) → List (ℕ × Item) → ℕ → List ℕ → Type 0
EncodesEntries spells [] count bytes = (count ≡ 0) × (bytes ≡ [])
EncodesEntries spells (entry ∷ entries) count bytes =
    (m n : ℕ) × (key front back : List ℕ) × IsHead 0 entry.0 key × spells entry.1 m front
    × EncodesEntries spells entries n back × (count ≡ suc (m + n))
    × (bytes ≡ key ++ (front ++ back))

-- no key stands twice
abbrev pub KeysDiffer : List (ℕ × Item) → Type 0
KeysDiffer [] = Unit {0}
KeysDiffer (entry ∷ entries) =
    AllByRecursion (λ (other : ℕ × Item). other.0 ≢ entry.0) entries × KeysDiffer entries

-- entries as the pairs of a map
abbrev pub pairs_of : List (ℕ × Item) → List (Pair Item)
pairs_of entries = map (λ e. record { key = e.0; value = e.1 }) entries

-- The pairs are those of a map with these entries: the same, by rising key, which for whole numbers
-- is the order of their encodings (RFC 8949, 4.2.1). No key stands twice.
abbrev pub IsMapOf : List (ℕ × Item) → List (Pair Item) → Type 0
IsMapOf entries pairs =
    KeysDiffer entries × SameElements (pairs_of entries) pairs
    × (rise (map (λ (p : Pair Item). p.key) pairs) ≡ true)

-- an item that holds no others: major types 0, 2 and 3 (RFC 8949, 3.1)
abbrev pub EncodesFlat : Item → List ℕ → Type 0
EncodesFlat item bytes =
    ((n : ℕ) × (item ≡ v.Whole n) × IsHead 0 n bytes)
    ⊎ (((content : List ℕ) × (item ≡ v.Blob content) × IsString 2 content bytes)
    ⊎ ((content : List ℕ) × (item ≡ v.Text content) × IsUtf8 content × IsString 3 content bytes))

-- a list: major type 4 with the number of its items, and then these
abbrev pub EncodesList : (Item → ℕ → List ℕ → Type 0) → Item → ℕ → List ℕ → Type 0
EncodesList spells item count bytes =
    (items : List Item) × (n : ℕ) × (rest : List ℕ) × (item ≡ v.List items)
    × (length items < 2 ^ 64) × EncodesEach spells items n rest × (count ≡ suc n)
    × (bytes ≡ head_of 4 (length items) ++ rest)

-- a map: major type 5 with the number of its entries, and then these, in any order of keys; the
-- item has its pairs by rising key
abbrev pub EncodesMap : (Item → ℕ → List ℕ → Type 0) → Item → ℕ → List ℕ → Type 0
EncodesMap spells item count bytes =
    (entries : List (ℕ × Item)) × (pairs : List (Pair Item)) × (n : ℕ) × (rest : List ℕ)
    × (item ≡ v.Map pairs) × IsMapOf entries pairs × (length entries < 2 ^ 64)
    × EncodesEntries spells entries n rest × (count ≡ suc n)
    × (bytes ≡ head_of 5 (length entries) ++ rest)

-- The bytes spell the item, in which lists and maps nest at most `levels` deep, and with which
-- there are `count` items, those inside and the keys of maps counted.
unfoldable pub Encodes : ℕ → Item → ℕ → List ℕ → Type 0
Encodes zero item count bytes = EncodesFlat item bytes × (count ≡ 1)
Encodes (suc levels) item count bytes =
    (EncodesFlat item bytes × (count ≡ 1))
    ⊎ (EncodesList (Encodes levels) item count bytes ⊎ EncodesMap (Encodes levels) item count bytes)

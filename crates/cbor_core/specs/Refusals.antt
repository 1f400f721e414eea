-- Which input is refused, and as what: the first fault from left to right, with whole items before
-- it. At one head come, in this order: that an item more may begin, what the first byte shows, the
-- end of the argument, and that the argument is the shortest (RFC 8949, 3 and 4.2.1). Then comes
-- the content.
use Rattle.std.specs.Prelude.{◌≡◌, ◌≢◌, ℕ, zero, suc, ◌+◌, ◌/◌, ◌%◌, ◌^◌, ◌≤◌, ◌<◌, List, [], ◌∷◌, ◌++◌, length, take, Bool, true, false, ◌&&◌, ◌||◌, ◌==◌, nat_lt, ◌⊎◌, Result, Ok, Err}
use Rattle.std.specs.Int.{Width, w8, w16, w32, w64, byte_len, from_be_bytes}
use Rattle.std.specs.List.{AllByRecursion}
use Rattle.std.specs.Str.{IsUtf8}
use Rattle.cbor_core.specs.declared.fault.CborFault.{CborFault}
use Rattle.cbor_core.specs.declared.fault.CborFault.TheVariants.{Truncated, NotShortest, Forbidden, RepeatedKey, Trailing, TooMany, Memory}
use Rattle.cbor_core.specs.declared.item.Item.{Item}
use Rattle.cbor_core.specs.Grammar.{head_of, IsString, EncodesEach, EncodesEntries, KeysDiffer, Encodes}

-- the call answered so, or memory ran out
abbrev pub UnlessMemory : {A E : Type 0} → E → Result A E → Result A E → Type 0
UnlessMemory memory answer result = result ≢ Err memory → result ≡ answer

-- what is left of an input: its bytes, the place of the first, and how many items may begin
pub record Rest : Type 0 where
  pub left : ℕ
  pub at : ℕ
  pub bytes : List ℕ

-- `back` is left of `rest` behind a front with so many items
pub record IsBehind (rest : Rest) (count : ℕ) (front : List ℕ) (back : Rest) : Type 0 where
  pub left : rest.left ≡ back.left + count
  pub at : back.at ≡ rest.at + length front
  pub bytes : rest.bytes ≡ front ++ back.bytes

-- the input ends too early
abbrev pub IsTruncated : Rest → CborFault → Type 0
IsTruncated rest fault = fault ≡ Truncated (rest.at + length rest.bytes)

-- ---- a head

-- an argument of this width is cut, or less than the least that needs the width
abbrev pub RefusesWidth : Width → ℕ → ℕ → List ℕ → CborFault → Type 0
RefusesWidth w least at bytes fault =
    ((length bytes < byte_len w) × (fault ≡ Truncated (suc at + length bytes)))
    ⊎ ((byte_len w ≤ length bytes) × (from_be_bytes w (take (byte_len w) bytes) < least)
    × (fault ≡ NotShortest at))

-- The argument behind a first byte at `at` is refused. The five low bits of that byte are the
-- argument below 24, and 24 to 27 say how wide it is (RFC 8949, 3); its least value is 4.2.1's.
abbrev pub RefusesArgument : ℕ → ℕ → List ℕ → CborFault → Type 0
RefusesArgument code at bytes fault =
    ((code ≡ 24) × RefusesWidth w8 24 at bytes fault)
    ⊎ (((code ≡ 25) × RefusesWidth w16 (2 ^ 8) at bytes fault)
    ⊎ (((code ≡ 26) × RefusesWidth w32 (2 ^ 16) at bytes fault)
    ⊎ ((code ≡ 27) × RefusesWidth w64 (2 ^ 32) at bytes fault)))

-- a head may begin with the byte: its major type may stand here, and its length is definite (3.2)
abbrev pub may_begin : (ℕ → Bool) → ℕ → Bool
may_begin may byte = may (byte / 32) && nat_lt (byte % 32) 28

-- a head is refused where the major types may stand; an item begins with its first byte
abbrev pub RefusesHead : (ℕ → Bool) → ℕ → ℕ → List ℕ → CborFault → Type 0
RefusesHead may left at [] fault = fault ≡ Truncated at
RefusesHead may left at (b ∷ bytes) fault =
    ((left ≡ 0) × (fault ≡ TooMany))
    ⊎ (((0 < left) × (may_begin may b ≡ false) × (fault ≡ Forbidden at))
    ⊎ ((0 < left) × (may_begin may b ≡ true) × RefusesArgument (b % 32) at bytes fault))

-- the major types of an item: lists and maps only where they may nest so deep
abbrev pub is_item : ℕ → ℕ → Bool
is_item levels major = (major == 0) || ((major == 2) || ((major == 3)
    || (nat_lt 0 levels && ((major == 4) || (major == 5)))))

-- the major type of a key
abbrev pub is_key : ℕ → Bool
is_key major = major == 0

-- `back` is what follows a head that the rest begins with
abbrev pub IsBehindHead : ℕ → ℕ → Rest → Rest → Type 0
IsBehindHead major argument rest back =
    (argument < 2 ^ 64) × IsBehind rest 1 (head_of major argument) back

-- ---- what follows a head

-- the content of a byte string or text is cut
abbrev pub RefusesString : ℕ → Rest → CborFault → Type 0
RefusesString major rest fault =
    (n : ℕ) × (back : Rest) × IsBehindHead major n rest back × (length back.bytes < n)
    × IsTruncated back fault

-- a text is all there, and not UTF-8
abbrev pub RefusesText : Rest → CborFault → Type 0
RefusesText rest fault =
    (content front : List ℕ) × (back : Rest) × IsString 3 content front × IsBehind rest 1 front back
    × (IsUtf8 content → ⊥) × (fault ≡ Forbidden rest.at)

-- Below, `Refuses` is what refuses an item inside a list or map, and `spells` what spells one.
-- So many items are to come: some are there, fewer than these, and the next is refused.
abbrev pub RefusesEach :
    (Rest → CborFault → Type 0) → (Item → ℕ → List ℕ → Type 0) → ℕ → Rest → CborFault → Type 0
RefusesEach Refuses spells n rest fault =
    (items : List Item) × (count : ℕ) × (front : List ℕ) × (back : Rest) × (length items < n)
    × EncodesEach spells items count front × IsBehind rest count front back × Refuses back fault

-- none of the entries has the key
abbrev pub LacksKey : ℕ → List (ℕ × Item) → Type 0
LacksKey key entries = AllByRecursion (λ (e : ℕ × Item). e.0 ≢ key) entries

-- An entry behind others of its map is refused: its key, also as one of theirs, or its value.
abbrev pub RefusesEntry : (Rest → CborFault → Type 0) → List (ℕ × Item) → Rest → CborFault → Type 0
RefusesEntry Refuses entries rest fault =
    RefusesHead is_key rest.left rest.at rest.bytes fault
    ⊎ ((key : ℕ) × (back : Rest) × IsBehindHead 0 key rest back
    × (((LacksKey key entries → ⊥) × (fault ≡ RepeatedKey rest.at))
    ⊎ (LacksKey key entries × Refuses back fault)))

-- So many entries are to come: some are there, with keys that differ, and the next is refused.
abbrev pub RefusesEntries :
    (Rest → CborFault → Type 0) → (Item → ℕ → List ℕ → Type 0) → ℕ → Rest → CborFault → Type 0
RefusesEntries Refuses spells n rest fault =
    (entries : List (ℕ × Item)) × (count : ℕ) × (front : List ℕ) × (back : Rest)
    × (length entries < n) × KeysDiffer entries × EncodesEntries spells entries count front
    × IsBehind rest count front back × RefusesEntry Refuses entries back fault

-- something in a list or a map is refused
abbrev pub RefusesInside :
    (Rest → CborFault → Type 0) → (Item → ℕ → List ℕ → Type 0) → Rest → CborFault → Type 0
RefusesInside Refuses spells rest fault =
    (n : ℕ) × (back : Rest)
    × ((IsBehindHead 4 n rest back × RefusesEach Refuses spells n back fault)
    ⊎ (IsBehindHead 5 n rest back × RefusesEntries Refuses spells n back fault))

-- what begins as an item that holds no others is refused behind its head
abbrev pub RefusesFlat : Rest → CborFault → Type 0
RefusesFlat rest fault =
    RefusesString 2 rest fault ⊎ (RefusesString 3 rest fault ⊎ RefusesText rest fault)

-- The rest does not begin with an item in which lists and maps nest at most `levels` deep.
unfoldable pub RefusesItem : ℕ → Rest → CborFault → Type 0
RefusesItem zero rest fault =
    RefusesHead (is_item 0) rest.left rest.at rest.bytes fault ⊎ RefusesFlat rest fault
RefusesItem (suc levels) rest fault =
    RefusesHead (is_item (suc levels)) rest.left rest.at rest.bytes fault
    ⊎ (RefusesFlat rest fault ⊎ RefusesInside (RefusesItem levels) (Encodes levels) rest fault)

-- the whole input, where 100,000 items may begin
abbrev pub input_of : List ℕ → Rest
input_of bytes = record { left = 100000; at = 0; bytes = bytes }

-- bytes follow the item
abbrev pub IsTrailing : List ℕ → CborFault → Type 0
IsTrailing bytes fault =
    (item : Item) × (count : ℕ) × (front back : List ℕ) × (count ≤ 100000)
    × Encodes 4 item count front × (bytes ≡ front ++ back) × (0 < length back)
    × (fault ≡ Trailing (length front))

-- The input is refused with this fault.
abbrev pub IsRefused : List ℕ → CborFault → Type 0
IsRefused bytes fault = RefusesItem 4 (input_of bytes) fault ⊎ IsTrailing bytes fault

-- what the input is: an item, or refused
abbrev pub ReadsAs : List ℕ → Result Item CborFault → Type 0
ReadsAs bytes (Ok item) = (count : ℕ) × (count ≤ 100000) × Encodes 4 item count bytes
ReadsAs bytes (Err fault) = IsRefused bytes fault

-- a fault that no further bytes mend
abbrev pub IsFinal : CborFault → Type 0
IsFinal (NotShortest at) = Unit {0}
IsFinal (Forbidden at) = Unit {0}
IsFinal (RepeatedKey at) = Unit {0}
IsFinal TooMany = Unit {0}
IsFinal (Truncated at) = ⊥
IsFinal (Trailing at) = ⊥
IsFinal Memory = ⊥

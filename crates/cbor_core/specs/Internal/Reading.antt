-- Reading from left to right, with the first refusal that is met. A place is a number of bytes from
-- the start of an input of `total` bytes; `left` is how many items may still begin.
use Rattle.std.specs.Prelude.{ℕ, Bool, true, false, zero, suc, ◌-◌, ◌/◌, ◌%◌, ◌^◌, List, [], ◌∷◌, ◌++◌, length, take, drop, is_some, Result, Ok, Err, nat_lt, ◌==◌, if◌then◌else◌}
use Rattle.std.specs.Int.{Width, w16, w32, w64, byte_len, from_be_bytes}
use Rattle.std.specs.Ordering.{nat_cmp}
use Rattle.std.specs.Str.{is_utf8}
use Rattle.std.specs.Map.{lookup}
use Rattle.std.specs.BTreeMap.{is_at, insert_entry}
use Rattle.cbor_core.specs.declared.fault.CborFault.{CborFault}
use Rattle.cbor_core.specs.declared.fault.CborFault.TheVariants.{Truncated, NotShortest, Forbidden, RepeatedKey, Trailing, TooMany, Memory}
use Rattle.cbor_core.specs.declared.item.Item.{Item}
use Rattle.cbor_core.specs.declared.item.Item.TheVariants as v
use Rattle.cbor_core.specs.Grammar.{pairs_of}
use Rattle.cbor_core.specs.Internal.Results.{◌>>=◌}

-- whether memory ran out
abbrev pub is_memory : CborFault → Bool
is_memory Memory = true
is_memory (Truncated n) = false
is_memory (NotShortest n) = false
is_memory (Forbidden n) = false
is_memory (RepeatedKey n) = false
is_memory (Trailing n) = false
is_memory TooMany = false

-- the place where these last bytes of the input begin
abbrev pub start_of : ℕ → List ℕ → ℕ
start_of total bytes = total - length bytes

-- The readers below answer what stands at the front of the bytes, and the bytes after it.
-- the argument in one byte behind the head's first byte, which stands at `at`
abbrev pub byte_at : ℕ → ℕ → List ℕ → Result (ℕ × List ℕ) CborFault
byte_at total at [] = Err (Truncated total)
byte_at total at (b ∷ bytes) = if nat_lt b 24 then Err (NotShortest at) else Ok (b, bytes)

-- the argument in more bytes, where fewer serve below `least`
abbrev pub wide_at : ℕ → ℕ → Width → ℕ → List ℕ → Result (ℕ × List ℕ) CborFault
wide_at total at w least bytes =
    if nat_lt (length bytes) (byte_len w) then Err (Truncated total)
    else if nat_lt (from_be_bytes w (take (byte_len w) bytes)) least then Err (NotShortest at)
    else Ok (from_be_bytes w (take (byte_len w) bytes), drop (byte_len w) bytes)

-- The argument of the head that the bytes begin with. A code of 28 to 31 is known to be refused
-- from the first byte, a longer argument than it needs only from its last.
unfoldable pub argument_at : ℕ → List ℕ → Result (ℕ × List ℕ) CborFault
argument_at total [] = Err (Truncated total)
argument_at total (b ∷ bytes) =
    if nat_lt (b % 32) 24 then Ok (b % 32, bytes)
    else if b % 32 == 24 then byte_at total (start_of total (b ∷ bytes)) bytes
    else if b % 32 == 25 then wide_at total (start_of total (b ∷ bytes)) w16 (2 ^ 8) bytes
    else if b % 32 == 26 then wide_at total (start_of total (b ∷ bytes)) w32 (2 ^ 16) bytes
    else if b % 32 == 27 then wide_at total (start_of total (b ∷ bytes)) w64 (2 ^ 32) bytes
    else Err (Forbidden (start_of total (b ∷ bytes)))

-- a head, and as many bytes as it says
unfoldable pub string_at : ℕ → List ℕ → Result (List ℕ × List ℕ) CborFault
string_at total bytes = do
  n ← argument_at total bytes
  if nat_lt (length n.1) n.0 then Err (Truncated total) else Ok (take n.0 n.1, drop n.0 n.1)

-- The readers of items answer also how many may begin after it.
abbrev pub Reader : Type 0
Reader = ℕ → List ℕ → Result (Item × ℕ × List ℕ) CborFault

unfoldable pub whole_at : ℕ → Reader
whole_at total left bytes = do
  n ← argument_at total bytes
  Ok (v.Whole n.0, left, n.1)

unfoldable pub blob_at : ℕ → Reader
blob_at total left bytes = do
  s ← string_at total bytes
  Ok (v.Blob s.0, left, s.1)

-- a text is refused when all of it is there
unfoldable pub text_string_at : ℕ → Reader
text_string_at total left bytes = do
  s ← string_at total bytes
  if is_utf8 s.0 then Ok (v.Text s.0, left, s.1) else Err (Forbidden (start_of total bytes))

-- so many items behind those that are done
unfoldable pub items_at : Reader → List Item → ℕ → ℕ → List ℕ
    → Result (List Item × ℕ × List ℕ) CborFault
items_at inner done zero left bytes = Ok (done, left, bytes)
items_at inner done (suc n) left bytes = do
  x ← inner left bytes
  items_at inner (done ++ x.0 ∷ []) n x.1 x.2

unfoldable pub list_at : ℕ → Reader → Reader
list_at total inner left bytes = do
  n ← argument_at total bytes
  xs ← items_at inner [] n.0 left n.1
  Ok (v.List xs.0, xs.1, xs.2)

-- a key, which is an item and a whole number
unfoldable pub key_at : ℕ → ℕ → List ℕ → Result (ℕ × List ℕ) CborFault
key_at total left [] = Err (Truncated total)
key_at total left (b ∷ bytes) =
    if left == 0 then Err TooMany
    else if b / 32 == 0 then argument_at total (b ∷ bytes)
    else Err (Forbidden (start_of total (b ∷ bytes)))

-- so many entries of a map behind those that are done; a key is refused as repeated before its
-- value is read
unfoldable pub entries_at : ℕ → Reader → List (ℕ × Item) → ℕ → ℕ → List ℕ
    → Result (List (ℕ × Item) × ℕ × List ℕ) CborFault
entries_at total inner done zero left bytes = Ok (done, left, bytes)
entries_at total inner done (suc n) left bytes = do
  k ← key_at total left bytes
  if is_some (lookup (is_at (nat_cmp k.0)) done) then Err (RepeatedKey (start_of total bytes))
      else (inner (left - 1) k.1
      >>= λ x. entries_at total inner (insert_entry nat_cmp done k.0 x.0) n x.1 x.2)

unfoldable pub map_at : ℕ → Reader → Reader
map_at total inner left bytes = do
  n ← argument_at total bytes
  es ← entries_at total inner [] n.0 left n.1
  Ok (v.Map (pairs_of es.0), es.1, es.2)

-- what holds no other items; any other first byte is refused
unfoldable pub flat_at : ℕ → ℕ → Reader
flat_at total major left bytes =
    if major == 0 then whole_at total left bytes
    else if major == 2 then blob_at total left bytes
    else if major == 3 then text_string_at total left bytes
    else Err (Forbidden (start_of total bytes))

-- The item that the bytes begin with, where lists and maps may nest so many levels deep. Its
-- beginning is counted where its first byte is there, before anything is said of this byte.
unfoldable pub item_at : ℕ → ℕ → Reader
item_at total levels left [] = Err (Truncated total)
item_at total zero left (b ∷ bytes) =
    if left == 0 then Err TooMany else flat_at total (b / 32) (left - 1) (b ∷ bytes)
item_at total (suc levels) left (b ∷ bytes) =
    if left == 0 then Err TooMany
    else if b / 32 == 4 then list_at total (item_at total levels) (left - 1) (b ∷ bytes)
    else if b / 32 == 5 then map_at total (item_at total levels) (left - 1) (b ∷ bytes)
    else flat_at total (b / 32) (left - 1) (b ∷ bytes)

-- the one item that all of the bytes spell, or the first refusal
unfoldable pub reading : List ℕ → Result Item CborFault
reading bytes = do
  x ← item_at (length bytes) 4 100000 bytes
  if length x.2 == 0 then Ok x.0 else Err (Trailing (start_of (length bytes) x.2))

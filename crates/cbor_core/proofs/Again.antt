-- What is spelled within the limits is read, whatever follows it.
use Rattle.std.proofs.Common.{◌≡◌, ◌≢◌, ℕ, zero, suc, ◌+◌, ◌-◌, ◌/◌, ◌^◌, ◌≤◌, ◌<◌, false, ltb, List, [], ◌∷◌, ◌++◌, length, get_or, Ok, refl, ap, subst, ◌∙◌, append_assoc, arith, inl, inr}
use Rattle.std.specs.Prelude.{◌⊎◌}
use Rattle.std.specs.Ordering.{nat_cmp}
use Rattle.std.specs.BTreeMap.{insert_entry}
use Rattle.std.specs.Str.{IsUtf8}
use Rattle.std.proofs.lemmas.Str.{is_utf8-from_IsUtf8}
use Rattle.std.proofs.lemmas.Bool.{le-ltb, ne_eqb}
use Rattle.std.proofs.lemmas.List.{take_at, drop_at, length-append, append-nil}
use Rattle.cbor_core.specs.declared.item.Item.{Item}
use Rattle.cbor_core.specs.declared.item.Item.TheVariants as v
use Rattle.cbor_core.specs.Grammar.{head_of, IsHead, EncodesFlat, EncodesEach, EncodesEntries, EncodesList, EncodesMap, Encodes, KeysDiffer}
use Rattle.cbor_core.specs.Internal.Reading.{Reader, argument_at, string_at, whole_at, blob_at, text_string_at, flat_at, items_at, list_at, key_at, entries_at, map_at, item_at}
use Rattle.cbor_core.proofs.Arguments.{argument_again, head_first}
use Rattle.cbor_core.proofs.Maps.{by_put, EncodesPut}
use Rattle.cbor_core.proofs.Keys.{put_all, Fresh, fresh_after, fresh_at_first}
use Rattle.cbor_core.proofs.ReadingLoops.{item_as_list, item_as_map, item_as_flat}

-- a string spelled at the front of the bytes reads as its content
pub string_again : (total major : ℕ) (content rest : List ℕ) → length content < 2 ^ 64 → string_at total ((head_of major (length content) ++ content) ++ rest) ≡ Ok (content, rest)
unfolding string_at
string_again total major content rest lt =
    let long : ltb (length (content ++ rest)) (length content) ≡ false = le-ltb _ _ (omega (arith, length-append content rest)) in
    rw (append_assoc (head_of major (length content)) content rest, argument_again total major (length content) (content ++ rest) lt, long, take_at content rest (length content) refl, drop_at content rest (length content) refl) refl

-- ---- an item without items in it

-- what begins with such an item is read as it, and does not begin as a list or a map does
record Begins (total left : ℕ) (item : Item) (bytes rest : List ℕ) : Type 0 where
  full : 0 < length bytes
  other : (get_or bytes 0 0 / 32 ≢ 4) × (get_or bytes 0 0 / 32 ≢ 5)
  gives : flat_at total (get_or bytes 0 0 / 32) left bytes ≡ Ok (item, left, rest)

begins : (total left major : ℕ) (item : Item) (bytes rest : List ℕ) → 0 < length bytes → get_or bytes 0 0 / 32 ≡ major → major < 4 → flat_at total major left bytes ≡ Ok (item, left, rest) → Begins total left item bytes rest
begins total left major item bytes rest full m lt h = record { full = full; other = (λ e. absurd (omega arith), λ e. absurd (omega arith)); gives = rw m h }

flat_whole : (total left n : ℕ) (rest : List ℕ) → n < 2 ^ 64 → flat_at total 0 left (head_of 0 n ++ rest) ≡ Ok (v.Whole n, left, rest)
unfolding flat_at whole_at
flat_whole total left n rest lt = rw (argument_again total 0 n rest lt) refl

flat_blob : (total left : ℕ) (content rest : List ℕ) → length content < 2 ^ 64 → flat_at total 2 left ((head_of 2 (length content) ++ content) ++ rest) ≡ Ok (v.Blob content, left, rest)
unfolding flat_at blob_at
flat_blob total left content rest lt = rw (string_again total 2 content rest lt) refl

flat_text : (total left : ℕ) (content rest : List ℕ) → IsUtf8 content → length content < 2 ^ 64 → flat_at total 3 left ((head_of 3 (length content) ++ content) ++ rest) ≡ Ok (v.Text content, left, rest)
unfolding flat_at text_string_at
flat_text total left content rest u lt = rw (string_again total 3 content rest lt, is_utf8-from_IsUtf8 content u) refl

-- the first byte of a string
string_first : (major : ℕ) (content rest : List ℕ) → (0 < length ((head_of major (length content) ++ content) ++ rest)) × (get_or ((head_of major (length content) ++ content) ++ rest) 0 0 / 32 ≡ major)
string_first major content rest = rw (append_assoc (head_of major (length content)) content rest) (head_first major (length content) (content ++ rest))

flat_again : (total left : ℕ) (item : Item) (text rest : List ℕ) → EncodesFlat item text → Begins total left item (text ++ rest) rest
flat_again total left item text rest (inl s) =
    let first = head_first 0 s.0 rest in
    rw (s.1, s.2.1) (begins total left 0 (v.Whole s.0) (head_of 0 s.0 ++ rest) rest first.0 first.1 (omega arith) (flat_whole total left s.0 rest s.2.0))
flat_again total left item text rest (inr (inl s)) =
    let first = string_first 2 s.0 rest in
    rw (s.1, s.2.1) (begins total left 2 (v.Blob s.0) ((head_of 2 (length s.0) ++ s.0) ++ rest) rest first.0 first.1 (omega arith) (flat_blob total left s.0 rest s.2.0))
flat_again total left item text rest (inr (inr s)) =
    let first = string_first 3 s.0 rest in
    rw (s.1, s.3.1) (begins total left 3 (v.Text s.0) ((head_of 3 (length s.0) ++ s.0) ++ rest) rest first.0 first.1 (omega arith) (flat_text total left s.0 rest s.2 s.3.0))

-- ---- items inside a list or a map

abbrev pub Again : Reader → (Item → ℕ → List ℕ → Type 0) → Type 0
Again inner spells = (left : ℕ) (item : Item) (count : ℕ) (text rest : List ℕ) → spells item count text → count ≤ left → inner left (text ++ rest) ≡ Ok (item, left - count, rest)

key_is : (total left : ℕ) (bytes : List ℕ) → 0 < length bytes → get_or bytes 0 0 / 32 ≡ 0 → 0 < left → key_at total left bytes ≡ argument_at total bytes
unfolding key_at
key_is total left [] full m some = absurd (omega arith)
key_is total left (b ∷ bytes) full m some = rw (ne_eqb left 0 (omega arith), m) refl

-- a key spelled at the front of the bytes reads as its number, where an item may still begin
pub key_again : (total left key : ℕ) (text rest : List ℕ) → IsHead 0 key text → 0 < left → key_at total left (text ++ rest) ≡ Ok (key, rest)
key_again total left key text rest s some =
    let first = head_first 0 key rest in
    rw s.1 (key_is total left (head_of 0 key ++ rest) first.0 first.1 some ∙ argument_again total 0 key rest s.0)

module _ (total : ℕ) (inner : Reader) (spells : Item → ℕ → List ℕ → Type 0) (again : Again inner spells) where
  items_again : (items done : List Item) (left count : ℕ) (text rest : List ℕ) → EncodesEach spells items count text → count ≤ left → items_at inner done (length items) left (text ++ rest) ≡ Ok (done ++ items, left - count, rest)
  unfolding items_at
  items_again [] done left count text rest s le =
      let same : left - count ≡ left = omega (arith, s.0) in
      rw (s.1, same, append-nil done) refl
  items_again (item ∷ items) done left count text rest s le =
      let m = s.0 in
      let n = s.1 in
      let front = s.2 in
      let back = s.3 in
      let cnt : count ≡ m + n = s.6 in
      let one : inner left (front ++ (back ++ rest)) ≡ Ok (item, left - m, back ++ rest) = again left item m front (back ++ rest) s.4 (omega arith) in
      let more = items_again items (done ++ item ∷ []) (left - m) n back rest s.5 (omega arith) in
      let number : left - m - n ≡ left - count = omega arith in
      rw (s.7, append_assoc front back rest, one) (more ∙ rw (number, append_assoc done (item ∷ []) items) refl)

  entries_again : (entries done : List (ℕ × Item)) (left count : ℕ) (text rest : List ℕ) → EncodesEntries spells entries count text → KeysDiffer entries → Fresh done entries → count ≤ left → entries_at total inner done (length entries) left (text ++ rest) ≡ Ok (put_all done entries, left - count, rest)
  unfolding entries_at
  entries_again [] done left count text rest s d fr le =
      let same : left - count ≡ left = omega (arith, s.0) in
      rw (s.1, same) refl
  entries_again (entry ∷ entries) done left count text rest s d fr le =
      let m = s.0 in
      let n = s.1 in
      let key = s.2 in
      let front = s.3 in
      let back = s.4 in
      let cnt : count ≡ suc (m + n) = s.8 in
      let grouped : (key ++ (front ++ back)) ++ rest ≡ key ++ (front ++ (back ++ rest)) = append_assoc key (front ++ back) rest ∙ ap (λ (z : List ℕ). key ++ z) (append_assoc front back rest) in
      let first : key_at total left (key ++ (front ++ (back ++ rest))) ≡ Ok (entry.0, front ++ (back ++ rest)) = key_again total left entry.0 key (front ++ (back ++ rest)) s.5 (omega arith) in
      let one : inner (left - 1) (front ++ (back ++ rest)) ≡ Ok (entry.1, left - 1 - m, back ++ rest) = again (left - 1) entry.1 m front (back ++ rest) s.6 (omega arith) in
      let more = entries_again entries (insert_entry nat_cmp done entry.0 entry.1) (left - 1 - m) n back rest s.7 d.1 (fresh_after entry.0 entry.1 done entries fr.1 d.0) (omega arith) in
      let number : left - 1 - m - n ≡ left - count = omega arith in
      rw (s.9, grouped, first, fr.0, one) (more ∙ rw number refl)

  list_again : (left : ℕ) (item : Item) (count : ℕ) (text rest : List ℕ) → EncodesList spells item (suc count) text → count ≤ left
      → (0 < length (text ++ rest)) × (get_or (text ++ rest) 0 0 / 32 ≡ 4) × (list_at total inner left (text ++ rest) ≡ Ok (item, left - count, rest))
  unfolding list_at
  list_again left item count text rest s le =
      let items = s.0 in
      let n = s.1 in
      let tail = s.2 in
      let cnt : count ≡ n = omega (arith, s.6) in
      let first = head_first 4 (length items) (tail ++ rest) in
      let head = argument_again total 4 (length items) (tail ++ rest) s.4 in
      let each = items_again items [] left n tail rest s.5 (omega arith) in
      rw (s.7, append_assoc (head_of 4 (length items)) tail rest) (first.0, first.1, rw (head, each, ← s.3, cnt) refl)

  put_again : (left : ℕ) (item : Item) (count : ℕ) (text rest : List ℕ) → EncodesPut spells item (suc count) text → count ≤ left
      → (0 < length (text ++ rest)) × (get_or (text ++ rest) 0 0 / 32 ≡ 5) × (map_at total inner left (text ++ rest) ≡ Ok (item, left - count, rest))
  unfolding map_at
  put_again left item count text rest s le =
      let entries = s.0 in
      let n = s.1 in
      let tail = s.2 in
      let cnt : count ≡ n = omega (arith, s.7) in
      let first = head_first 5 (length entries) (tail ++ rest) in
      let head = argument_again total 5 (length entries) (tail ++ rest) s.5 in
      let each = entries_again entries [] left n tail rest s.6 s.4 (fresh_at_first entries) (omega arith) in
      rw (s.8, append_assoc (head_of 5 (length entries)) tail rest) (first.0, first.1, rw (head, each, ← s.3, cnt) refl)

  map_again : (left : ℕ) (item : Item) (count : ℕ) (text rest : List ℕ) → EncodesMap spells item (suc count) text → count ≤ left
      → (0 < length (text ++ rest)) × (get_or (text ++ rest) 0 0 / 32 ≡ 5) × (map_at total inner left (text ++ rest) ≡ Ok (item, left - count, rest))
  map_again left item count text rest s le = put_again left item count text rest (by_put spells item (suc count) text s) le

-- ---- an item

flat_item : (total levels left : ℕ) (item : Item) (count : ℕ) (text rest : List ℕ) → EncodesFlat item text → count ≡ 1 → count ≤ left → item_at total levels left (text ++ rest) ≡ Ok (item, left - count, rest)
flat_item total levels left item count text rest s one le =
    let b = flat_again total (left - 1) item text rest s in
    item_as_flat total left (omega arith) (text ++ rest) levels b.full (λ _. b.other.0) (λ _. b.other.1) ∙ b.gives ∙ rw one refl

-- a list and a map count one more than what they hold
counted : (spells : Item → ℕ → List ℕ → Type 0) (item : Item) (count : ℕ) (text : List ℕ) → EncodesList spells item count text ⊎ EncodesMap spells item count text → (n : ℕ) × (count ≡ suc n)
counted spells item count text (inl s) = (s.1, s.6)
counted spells item count text (inr s) = (s.2, s.8)

nested_item : (total levels left : ℕ) (item : Item) (n : ℕ) (text rest : List ℕ) → Again (item_at total levels) (Encodes levels) → suc n ≤ left → EncodesList (Encodes levels) item (suc n) text ⊎ EncodesMap (Encodes levels) item (suc n) text → item_at total (suc levels) left (text ++ rest) ≡ Ok (item, left - 1 - n, rest)
nested_item total levels left item n text rest again le (inl s) =
    let t = list_again total (item_at total levels) (Encodes levels) again (left - 1) item n text rest s (omega arith) in
    let k : suc levels - 1 ≡ levels = omega arith in
    item_as_list total left (omega arith) (text ++ rest) (suc levels) t.0 (omega arith) t.1 ∙ rw k t.2
nested_item total levels left item n text rest again le (inr s) =
    let t = map_again total (item_at total levels) (Encodes levels) again (left - 1) item n text rest s (omega arith) in
    let k : suc levels - 1 ≡ levels = omega arith in
    item_as_map total left (omega arith) (text ++ rest) (suc levels) t.0 (omega arith) t.1 ∙ rw k t.2

-- what spells an item reads as that item, with the bytes behind it and the count taken off
pub item_again : (total levels : ℕ) → Again (item_at total levels) (Encodes levels)
unfolding Encodes
item_again total zero left item count text rest s le = flat_item total zero left item count text rest s.0 s.1 le
item_again total (suc levels) left item count text rest (inl s) le = flat_item total (suc levels) left item count text rest s.0 s.1 le
item_again total (suc levels) left item count text rest (inr s) le =
    let c = counted (Encodes levels) item count text s in
    let n = c.0 in
    let is : count ≡ suc n = c.1 in
    let t = subst (λ (k : ℕ). EncodesList (Encodes levels) item k text ⊎ EncodesMap (Encodes levels) item k text) is s in
    let number : left - 1 - n ≡ left - count = omega arith in
    nested_item total levels left item n text rest (item_again total levels) (omega arith) t ∙ rw number refl

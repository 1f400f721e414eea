-- What is written for each item, in the form of the goals of the code that writes.
use Rattle.std.proofs.Common.{◌≡◌, ℕ, zero, suc, ◌+◌, ◌-◌, ◌^◌, ◌≤◌, ◌<◌, Bool, true, false, cond, ltb, List, [], ◌∷◌, ◌++◌, length, take, map, replicate, refl, sym, ap, subst, ◌∙◌, append_assoc, arith, inl, inr}
use Rattle.std.specs.Prelude.{◌&&◌, max}
use Rattle.std.specs.List.{flat_map, list_all}
use Rattle.std.specs.Str.{IsUtf8, is_utf8}
use Rattle.std.proofs.lemmas.Str.{is_utf8-from_IsUtf8}
use Rattle.std.proofs.lemmas.Bool.{lt-ltb}
use Rattle.std.proofs.lemmas.List.{take_at, length-append, length-map}
use Rattle.std.proofs.lemmas.List.Folds.{list_all-map, flat_map-map}
use Rattle.cbor_core.specs.declared.item.Item.{Item, fold-roll-Item}
use Rattle.cbor_core.specs.declared.item.Item.TheOpen.{Item-F}
use Rattle.cbor_core.specs.declared.item.Item.TheVariants as v
use Rattle.cbor_core.specs.declared.item.Pair.{Pair}
use Rattle.cbor_core.specs.Grammar.{head_of}
use Rattle.cbor_core.specs.Writing.{sum_over, largest_over, encoding_step, encoding_of, fits_step, fits}

-- the first of the nine bytes, as many as the head has, are the head
pub head_front : (major value len : ℕ) (bytes : List ℕ) → len ≡ length (head_of major value) → bytes ≡ head_of major value ++ replicate (9 - length (head_of major value)) 0 → take len bytes ≡ head_of major value
head_front major value len bytes l b = rw b (take_at (head_of major value) (replicate (9 - length (head_of major value)) 0) len (sym l))

pub ruleset head_steps = (head_front)

-- ---- lists of what the items inside are seen as

-- a sum over images is a sum over the elements
pub sum_over-map : {X Y : Type 0} (f : Y → ℕ) (g : X → Y) (xs : List X) → sum_over f (map g xs) ≡ sum_over (λ x. f (g x)) xs
sum_over-map f g [] = refl
sum_over-map f g (x ∷ xs) = ap (λ z. f (g x) + z) (sum_over-map f g xs)

-- the largest over images is the largest over the elements
pub largest_over-map : {X Y : Type 0} (f : Y → ℕ) (g : X → Y) (xs : List X) → largest_over f (map g xs) ≡ largest_over (λ x. f (g x)) xs
largest_over-map f g [] = refl
largest_over-map f g (x ∷ xs) = ap (λ z. max (f (g x)) z) (largest_over-map f g xs)

-- ---- the spelling

-- a whole number is spelled by a head of major type 0
pub spelling-Whole : (n : ℕ) → encoding_of (v.Whole n) ≡ head_of 0 n
spelling-Whole n = ap encoding_of (sym (v.rolls-Whole n)) ∙ fold-roll-Item (List ℕ) encoding_step (Item-F.Whole n)

-- a byte string is spelled by a head of major type 2 with its length, and its bytes
pub spelling-Blob : (bytes : List ℕ) → encoding_of (v.Blob bytes) ≡ head_of 2 (length bytes) ++ bytes
spelling-Blob bytes = ap encoding_of (sym (v.rolls-Blob bytes)) ∙ fold-roll-Item (List ℕ) encoding_step (Item-F.Blob bytes)

-- a text is spelled by a head of major type 3 with its length, and its bytes
pub spelling-Text : (bytes : List ℕ) → encoding_of (v.Text bytes) ≡ head_of 3 (length bytes) ++ bytes
spelling-Text bytes = ap encoding_of (sym (v.rolls-Text bytes)) ∙ fold-roll-Item (List ℕ) encoding_step (Item-F.Text bytes)

-- a list is spelled by a head of major type 4 with its length, and its items
pub spelling-List : (items : List Item) → encoding_of (v.List items) ≡ head_of 4 (length items) ++ flat_map encoding_of items
spelling-List items = ap encoding_of (sym (v.rolls-List items)) ∙ fold-roll-Item (List ℕ) encoding_step (Item-F.List items) ∙ rw (length-map items encoding_of, flat_map-map (λ (i : List ℕ). i) encoding_of items) refl

unfoldable pub seen : {X : Type 0} → (Item → X) → Pair Item → Pair X
seen g p = record { key = p.key; value = g p.value }

-- a map is spelled by a head of major type 5 with its length, and its keys and values
pub spelling-Map : (pairs : List (Pair Item)) → encoding_of (v.Map pairs) ≡ head_of 5 (length pairs) ++ flat_map (λ p. head_of 0 p.key ++ encoding_of p.value) pairs
unfolding seen
spelling-Map pairs = ap encoding_of (sym (v.rolls-Map pairs)) ∙ fold-roll-Item (List ℕ) encoding_step (Item-F.Map pairs) ∙ rw (length-map pairs (seen encoding_of), flat_map-map (λ (p : Pair (List ℕ)). head_of 0 p.key ++ p.value) (seen encoding_of) pairs) refl

-- ---- what the types keep

-- a whole number below 2^64 can be encoded
pub fits-Whole : (n : ℕ) → n < 2 ^ 64 → fits (v.Whole n) ≡ true
fits-Whole n lt = ap fits (sym (v.rolls-Whole n)) ∙ fold-roll-Item Bool fits_step (Item-F.Whole n) ∙ lt-ltb n (2 ^ 64) lt

-- a byte string of fewer than 2^64 bytes can be encoded
pub fits-Blob : (bytes : List ℕ) → length bytes < 2 ^ 64 → fits (v.Blob bytes) ≡ true
fits-Blob bytes lt = ap fits (sym (v.rolls-Blob bytes)) ∙ fold-roll-Item Bool fits_step (Item-F.Blob bytes) ∙ lt-ltb (length bytes) (2 ^ 64) lt

-- a text in UTF-8 of fewer than 2^64 bytes can be encoded
pub fits-Text : (bytes : List ℕ) → is_utf8 bytes ≡ true → length bytes < 2 ^ 64 → fits (v.Text bytes) ≡ true
fits-Text bytes u lt = ap fits (sym (v.rolls-Text bytes)) ∙ fold-roll-Item Bool fits_step (Item-F.Text bytes) ∙ rw (u, lt-ltb (length bytes) (2 ^ 64) lt) refl

-- the same of a text that was seen in steps
pub fits_text : (item : Item) (content text bytes : List ℕ) → item ≡ v.Text content → text ≡ content → bytes ≡ text → IsUtf8 bytes → length bytes < 2 ^ 64 → fits item ≡ true
fits_text item content text bytes is e d u lt = rw is (fits-Text content (is_utf8-from_IsUtf8 content (subst IsUtf8 (d ∙ e) u)) (subst (λ (z : List ℕ). length z < 2 ^ 64) (d ∙ e) lt))

-- a list of fewer than 2^64 items can be encoded where each of them can
pub fits-List : (items : List Item) → length items < 2 ^ 64 → list_all fits items ≡ true → fits (v.List items) ≡ true
fits-List items lt all = ap fits (sym (v.rolls-List items)) ∙ fold-roll-Item Bool fits_step (Item-F.List items) ∙ rw (length-map items fits, lt-ltb (length items) (2 ^ 64) lt, list_all-map (λ (i : Bool). i) fits items) all

-- a map of fewer than 2^64 pairs can be encoded where keys and values can
pub fits-Map : (pairs : List (Pair Item)) → length pairs < 2 ^ 64 → list_all (λ p. ltb p.key (2 ^ 64) && fits p.value) pairs ≡ true → fits (v.Map pairs) ≡ true
unfolding seen
fits-Map pairs lt all = ap fits (sym (v.rolls-Map pairs)) ∙ fold-roll-Item Bool fits_step (Item-F.Map pairs) ∙ rw (length-map pairs (seen fits), lt-ltb (length pairs) (2 ^ 64) lt, list_all-map (λ (p : Pair Bool). ltb p.key (2 ^ 64) && p.value) (seen fits) pairs) all

pub ruleset item_writes = (append_assoc, spelling-Whole, spelling-Blob, spelling-Text, spelling-List, spelling-Map, fits-Whole, fits-Blob, fits-Text, fits-List, fits-Map)

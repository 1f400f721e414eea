-- What may be written, and the one spelling that is written (RFC 8949, 4.2.1). Each definition is
-- given at one level, where the items inside are already seen as their own value of it.
use Rattle.std.specs.Prelude.{ℕ, suc, ◌+◌, ◌^◌, max, List, [], ◌∷◌, ◌++◌, length, Bool, true, ◌&&◌, nat_lt, map}
use Rattle.std.specs.List.{flat_map, list_all}
use Rattle.std.specs.Str.{is_utf8}
use Rattle.cbor_core.specs.declared.item.Item.{Item, fold-Item}
use Rattle.cbor_core.specs.declared.item.Item.TheOpen.{Item-F}
use Rattle.cbor_core.specs.declared.item.Pair.{Pair}
use Rattle.base_types.specs.Order.{rise}
use Rattle.cbor_core.specs.Grammar.{head_of}

-- a sum, and the largest, over a list
abbrev pub sum_over : {X : Type 0} → (X → ℕ) → List X → ℕ
sum_over f [] = 0
sum_over f (x ∷ xs) = f x + sum_over f xs

abbrev pub largest_over : {X : Type 0} → (X → ℕ) → List X → ℕ
largest_over f [] = 0
largest_over f (x ∷ xs) = max (f x) (largest_over f xs)

-- the bytes of an item: its head, its content, and its items in order
abbrev pub encoding_step : Item-F (List ℕ) → List ℕ
encoding_step (Item-F.Whole n) = head_of 0 n
encoding_step (Item-F.Blob content) = head_of 2 (length content) ++ content
encoding_step (Item-F.Text content) = head_of 3 (length content) ++ content
encoding_step (Item-F.List items) = head_of 4 (length items) ++ flat_map (λ i. i) items
encoding_step (Item-F.Map pairs) =
    head_of 5 (length pairs) ++ flat_map (λ (p : Pair (List ℕ)). head_of 0 p.key ++ p.value) pairs

abbrev pub encoding_of : Item → List ℕ
encoding_of = fold-Item (List ℕ) encoding_step

-- how deep lists and maps nest; an item that holds none has nesting 0
abbrev pub nesting_step : Item-F ℕ → ℕ
nesting_step (Item-F.Whole n) = 0
nesting_step (Item-F.Blob content) = 0
nesting_step (Item-F.Text content) = 0
nesting_step (Item-F.List items) = suc (largest_over (λ i. i) items)
nesting_step (Item-F.Map pairs) = suc (largest_over (λ (p : Pair ℕ). p.value) pairs)

abbrev pub item_nesting : Item → ℕ
item_nesting = fold-Item ℕ nesting_step

-- how many items there are, those inside and the keys of maps counted
abbrev pub count_step : Item-F ℕ → ℕ
count_step (Item-F.Whole n) = 1
count_step (Item-F.Blob content) = 1
count_step (Item-F.Text content) = 1
count_step (Item-F.List items) = suc (sum_over (λ i. i) items)
count_step (Item-F.Map pairs) = suc (sum_over (λ (p : Pair ℕ). suc p.value) pairs)

abbrev pub count_of : Item → ℕ
count_of = fold-Item ℕ count_step

-- the keys of each map rise
abbrev pub keys_rise_step : Item-F Bool → Bool
keys_rise_step (Item-F.Whole n) = true
keys_rise_step (Item-F.Blob content) = true
keys_rise_step (Item-F.Text content) = true
keys_rise_step (Item-F.List items) = list_all (λ i. i) items
keys_rise_step (Item-F.Map pairs) =
    rise (map (λ (p : Pair Bool). p.key) pairs) && list_all (λ (p : Pair Bool). p.value) pairs

abbrev pub keys_rise : Item → Bool
keys_rise = fold-Item Bool keys_rise_step

-- what the types of Rust keep: numbers and lengths have at most 64 bits, and texts are UTF-8
abbrev pub fits_step : Item-F Bool → Bool
fits_step (Item-F.Whole n) = nat_lt n (2 ^ 64)
fits_step (Item-F.Blob content) = nat_lt (length content) (2 ^ 64)
fits_step (Item-F.Text content) = is_utf8 content && nat_lt (length content) (2 ^ 64)
fits_step (Item-F.List items) = nat_lt (length items) (2 ^ 64) && list_all (λ i. i) items
fits_step (Item-F.Map pairs) =
    nat_lt (length pairs) (2 ^ 64)
    && list_all (λ (p : Pair Bool). nat_lt p.key (2 ^ 64) && p.value) pairs

abbrev pub fits : Item → Bool
fits = fold-Item Bool fits_step

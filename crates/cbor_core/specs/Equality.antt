-- When two items are equal.
use Rattle.std.specs.Prelude.{ℕ, Bool, List, [], ◌∷◌, length, nat_eq}
use Rattle.std.specs.List.{flat_map}
use Rattle.std.specs.Ordering.{on}
use Rattle.std.specs.Cmp.Lexicographic.{pointwise}
use Rattle.cbor_core.specs.declared.item.Item.{Item, fold-Item}
use Rattle.cbor_core.specs.declared.item.Item.TheOpen.{Item-F}
use Rattle.cbor_core.specs.declared.item.Pair.{Pair}

-- an item as one list of numbers: its major type, its argument, and all that it holds
abbrev pub numbers_step : Item-F (List ℕ) → List ℕ
numbers_step (Item-F.Whole n) = 0 ∷ n ∷ []
numbers_step (Item-F.Blob content) = 2 ∷ length content ∷ content
numbers_step (Item-F.Text content) = 3 ∷ length content ∷ content
numbers_step (Item-F.List items) = 4 ∷ length items ∷ flat_map (λ i. i) items
numbers_step (Item-F.Map pairs) =
    5 ∷ length pairs ∷ flat_map (λ (p : Pair (List ℕ)). p.key ∷ p.value) pairs

abbrev pub numbers_of : Item → List ℕ
numbers_of = fold-Item (List ℕ) numbers_step

-- whether two items are equal: they are the same numbers
abbrev pub equal_items : Item → Item → Bool
equal_items = on numbers_of (pointwise nat_eq)

-- Lists that stand for sets: what they hold, and that they hold it once.
use Rattle.std.specs.Prelude.{◌≢◌, ◌↔◌, List, Contains, AllPairs}

-- the list has exactly the elements of which P holds
abbrev pub HasExactly : {X : Type 0} → List X → (X → Type 0) → Type 0
HasExactly {X} xs P = (x : X) → Contains xs x ↔ P x

-- two lists have the same elements, each at least once
abbrev pub SameElements : {X : Type 0} → List X → List X → Type 0
SameElements xs ys = HasExactly xs (Contains ys)

-- no element stands in the list twice
abbrev pub AllDiffer : {X : Type 0} → List X → Type 0
AllDiffer xs = AllPairs (λ x y. x ≢ y) xs

-- The sequences of a list's numbers in lexicographic order.
use Rattle.std.specs.Prelude.{ℕ, List, [], ◌∷◌, Bool, true, false, map, filter, flat_map}
use Rattle.base_types.specs.Order.{is_upto, sorted_set}

-- x at each place of the list in turn
abbrev pub put_everywhere : ℕ → List ℕ → List (List ℕ)
put_everywhere x [] = (x ∷ []) ∷ []
put_everywhere x (y ∷ ys) = (x ∷ (y ∷ ys)) ∷ map (λ zs. y ∷ zs) (put_everywhere x ys)

-- the list in every order
unfoldable pub orders_of : List ℕ → List (List ℕ)
orders_of [] = [] ∷ []
orders_of (x ∷ xs) = flat_map (put_everywhere x) (orders_of xs)

-- the distinct sequences of the numbers of p from p on, in lexicographic order; none where all are
-- over
abbrev pub left_from : Bool → List ℕ → List (List ℕ)
left_from true p = []
left_from false p = filter (is_upto p) (sorted_set (orders_of p))

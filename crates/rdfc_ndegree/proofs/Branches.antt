-- The arrangements of a group, one after another: what is to be enumerated, in which order. RDF Canonicalization, 4.8.3, step 5.4.
use Rattle.std.specs.Prelude.{ℕ, zero, suc, List, [], ◌∷◌, Bool, map, flat_map, if◌then◌else◌}
use Rattle.nquads.specs.FirstDegree.{each_once}

-- the list without its first element that is m
abbrev pub drop_one : {B : Type 0} → (B → B → Bool) → B → List B → List B
drop_one same m [] = []
drop_one same m (x ∷ xs) = if same m x then xs else x ∷ drop_one same m xs

-- The distinct sequences of the members that are left, as many as n: each distinct member, in the order in which it
-- first stands, in front of each sequence of the others.
abbrev pub branches : {B : Type 0} → (B → B → Bool) → ℕ → List B → List (List B)
branches same zero left = [] ∷ []
branches same (suc n) left = flat_map (λ m. map (λ p. m ∷ p) (branches same n (drop_one same m left))) (each_once same left)

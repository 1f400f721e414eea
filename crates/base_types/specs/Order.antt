-- Texts in code-point order, and numbers that rise. UTF-8 keeps the order of code points, so texts
-- are compared by bytes.
use Rattle.std.specs.Prelude.{ℕ, List, [], ◌∷◌, Bool, true, false, ◌&&◌, ◌==◌, nat_lt, if◌then◌else◌}
use Rattle.std.specs.List.{list_all}
use Rattle.std.specs.Str.{bytes_eq}
use Rattle.std.specs.Ordering.{nat_cmp, is_lt}
use Rattle.std.specs.Cmp.Lexicographic.{slice_cmp}

-- whether x is y, or comes before it
abbrev pub is_upto : List ℕ → List ℕ → Bool
is_upto [] ys = true
is_upto (x ∷ xs) [] = false
is_upto (x ∷ xs) (y ∷ ys) = if x == y then is_upto xs ys else nat_lt x y

-- whether x comes before y
abbrev pub is_before : List ℕ → List ℕ → Bool
is_before x y = is_lt (slice_cmp nat_cmp x y)

-- whether each element of a list passes the test together with the next
abbrev pub each_next : {X : Type 0} → (X → X → Bool) → List X → Bool
each_next test [] = true
each_next test (x ∷ []) = true
each_next test (x ∷ y ∷ ys) = test x y && each_next test (y ∷ ys)

-- t at its place among texts that are in order
abbrev pub put : List ℕ → List (List ℕ) → List (List ℕ)
put t [] = t ∷ []
put t (u ∷ us) = if is_upto t u then t ∷ (u ∷ us) else u ∷ put t us

-- the texts in code-point order, each as often as it stands in the list
abbrev pub in_order : List (List ℕ) → List (List ℕ)
in_order [] = []
in_order (t ∷ ts) = put t (in_order ts)

-- the same, where t is put in only if it is not there
abbrev pub put_once : List ℕ → List (List ℕ) → List (List ℕ)
put_once t [] = t ∷ []
put_once t (u ∷ us) =
    if bytes_eq t u then u ∷ us else (if is_upto t u then t ∷ (u ∷ us) else u ∷ put_once t us)

-- the texts in code-point order, each once
abbrev pub sorted_set : List (List ℕ) → List (List ℕ)
sorted_set [] = []
sorted_set (t ∷ ts) = put_once t (sorted_set ts)

-- the numbers rise: each is less than every one after it
abbrev pub rise : List ℕ → Bool
rise [] = true
rise (k ∷ ks) = list_all (nat_lt k) ks && rise ks

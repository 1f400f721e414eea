-- Worked rows: elements that a token names in a list of two.
use Rattle.std.proofs.Common.{◌≡◌, ℕ, List, [], ◌∷◌, Some, None, option_and_then, codes, refl, sym, ap, arith}
use Rattle.std.proofs.lemmas.Fmt.{decimal_digit}
use Rattle.json_tree.specs.declared.tree.Tree.{Tree}
use Rattle.json_tree.specs.declared.tree.Item.{Item}
use Rattle.json_tree.specs.declared.place.Step.{Step}
use Rattle.json_tree.specs.Places.{below, child_of}
use Rattle.pointer_select.specs.Naming.{element_from, step_of, place_of}
use Rattle.pointer_select.proofs.Names.{next_named}

-- the first and the second element of two
pub first_of_two : (i j : Item Tree) → element_from 0 (codes "0") (i ∷ j ∷ []) ≡ Some i
first_of_two i j = rw (decimal_digit 0 (omega arith)) refl

-- the second
pub second_of_two : (i j : Item Tree) → element_from 0 (codes "1") (i ∷ j ∷ []) ≡ Some j
second_of_two i j = rw (decimal_digit 0 (omega arith), decimal_digit 1 (omega arith)) refl

-- no element
pub four_of_two : (i j : Item Tree) → element_from 0 (codes "4") (i ∷ j ∷ []) ≡ None
four_of_two i j = rw (decimal_digit 0 (omega arith), decimal_digit 1 (omega arith)) refl

-- a leading zero names none
pub zero_one_of_two : (i j : Item Tree) → element_from 0 (codes "01") (i ∷ j ∷ []) ≡ None
zero_one_of_two i j = rw (decimal_digit 0 (omega arith), decimal_digit 1 (omega arith)) refl

-- a dash names none
pub dash_of_two : (i j : Item Tree) → element_from 0 (codes "-") (i ∷ j ∷ []) ≡ None
dash_of_two i j = rw (decimal_digit 0 (omega arith), decimal_digit 1 (omega arith)) refl

-- the last token names a step, or nothing
pub last_named : (t u : Tree) (token : List ℕ) (s : Step) → step_of t token ≡ Some s → child_of t s ≡ Some u → place_of (token ∷ []) t ≡ Some (s ∷ [])
last_named t u token s named there = next_named t u token [] s (sym named) there

-- the last token names nothing
pub last_nothing : (t : Tree) (token : List ℕ) → step_of t token ≡ None → place_of (token ∷ []) t ≡ None
last_nothing t token none = ap (option_and_then (λ (s : Step). below s (option_and_then (place_of []) (child_of t s)))) none

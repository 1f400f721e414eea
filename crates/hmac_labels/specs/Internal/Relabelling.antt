-- Labels of the same blank nodes with other texts.
use Rattle.std.specs.Prelude.{ℕ, List, [], ◌∷◌}
use Rattle.nquads.specs.Stored.{number_label}
use Rattle.nquads.specs.declared.numbers.Label.{Label}

-- the labels with these texts, in order
abbrev pub relabelled : List Label → List (List ℕ) → List Label
relabelled [] texts = []
relabelled (l ∷ ls) [] = []
relabelled (l ∷ ls) (t ∷ ts) = number_label l.blank.index t ∷ relabelled ls ts

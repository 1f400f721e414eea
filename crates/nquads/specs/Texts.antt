-- Labels of blank nodes, as the program keeps them.
use Rattle.std.specs.Prelude.{ℕ, List, [], ◌∷◌, Option, Some, None, unwrap_or, if◌then◌else◌}
use Rattle.std.specs.Str.{bytes_eq}
use Rattle.nquads.specs.Terms.{Blank}
use Rattle.nquads.specs.Spelling.{blank_text}
use Rattle.nquads.specs.declared.labels.TextLabel.{TextLabel}

-- the label `text` of the blank node that statements name `blank`
abbrev pub label : List ℕ → List ℕ → TextLabel
label blank text = record { blank = blank; text = text }

-- the label of a blank node's text
abbrev pub find_label : List TextLabel → List ℕ → Option (List ℕ)
find_label [] text = None
find_label (l ∷ ls) text = if bytes_eq l.blank text then Some l.text else find_label ls text

-- the label of a blank node's text; the empty text for one that has none
abbrev pub label_text : List TextLabel → List ℕ → List ℕ
label_text labels text = unwrap_or (find_label labels text) []

-- the labels as a function from blank nodes
abbrev pub label_in : List TextLabel → Blank → List ℕ
label_in labels b = label_text labels (blank_text b)

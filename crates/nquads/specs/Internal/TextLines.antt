-- The line of a statement that is kept as texts.
use Rattle.std.specs.Prelude.{◌==◌, ℕ, List, [], ◌++◌, Bool, codes, Option, Some, None, if◌then◌else◌, slice_index}
use Rattle.nquads.specs.Lines.{line_text}
use Rattle.nquads.specs.declared.quads.TextQuad.{TextQuad}

-- whether a part of a text quad is a blank node: such a part alone begins with `_`
abbrev pub is_blank : List ℕ → Bool
is_blank part = slice_index part 0 == 95

-- A part in a line, where `label` gives the label of a blank node's text: `_:` and the label of a
-- blank node, and any other part as it is.
abbrev pub part_text : (List ℕ → List ℕ) → List ℕ → List ℕ
part_text label text = if is_blank text then codes "_:" ++ label text else text

-- the graph and a space, or nothing for the default graph
abbrev pub graph_part_text : (List ℕ → List ℕ) → Option (List ℕ) → List ℕ
graph_part_text label None = []
graph_part_text label (Some text) = part_text label text ++ codes " "

-- the line of a text quad
abbrev pub text_line : (List ℕ → List ℕ) → TextQuad → List ℕ
text_line label quad =
    line_text (part_text label quad.subject) quad.predicate (part_text label quad.object)
    (graph_part_text label quad.graph)

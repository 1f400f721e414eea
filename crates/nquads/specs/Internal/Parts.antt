-- The line of a statement by the numbers of a store.
use Rattle.std.specs.Prelude.{ℕ, List, [], ◌++◌, codes, Option, Some, None, unwrap_or, if◌then◌else◌}
use Rattle.term_store.specs.Store.{text_at, begins_blank}
use Rattle.term_store.specs.declared.store.TermId.{TermId}
use Rattle.term_store.specs.declared.statements.Quad.{Quad}
use Rattle.nquads.specs.Lines.{line_text}
use Rattle.nquads.specs.Stored.{find_number}
use Rattle.nquads.specs.declared.numbers.Label.{Label}

-- a part in a line: `_:` and the label of a blank node, and any other part as it is kept
abbrev pub number_part : List (List ℕ) → List Label → TermId → List ℕ
number_part texts labels id =
    if begins_blank (text_at texts id) then codes "_:" ++ unwrap_or (find_number labels id.index) []
    else text_at texts id

-- the graph and a space, or nothing for the default graph
abbrev pub number_graph : List (List ℕ) → List Label → Option TermId → List ℕ
number_graph texts labels None = []
number_graph texts labels (Some id) = number_part texts labels id ++ codes " "

-- the line
abbrev pub number_line : List (List ℕ) → List Label → Quad → List ℕ
number_line texts labels quad =
    line_text (number_part texts labels quad.subject) (text_at texts quad.predicate)
    (number_part texts labels quad.object) (number_graph texts labels quad.graph)

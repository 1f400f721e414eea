-- The lines of a quad for the blank nodes that it mentions. RDF Canonicalization, 4.6.3, step 3.
use Rattle.std.specs.Prelude.{◌==◌, ◌||◌, ℕ, List, [], ◌∷◌, ◌++◌, Option, Some, None, codes, if◌then◌else◌}
use Rattle.term_store.specs.Store.{text_at, begins_blank}
use Rattle.term_store.specs.declared.store.TermId.{TermId}
use Rattle.term_store.specs.declared.statements.Quad.{Quad}
use Rattle.nquads.specs.Lines.{line_text}
use Rattle.rdfc_first.specs.declared.mentions.MentionLine.{MentionLine}

-- `_:a` for the blank node itself, `_:z` for another one, and any other part as it is kept
abbrev pub marked_part : List (List ℕ) → TermId → TermId → List ℕ
marked_part texts blank part =
    if begins_blank (text_at texts part) then (if part.index == blank.index then codes "_:a"
    else codes "_:z")
    else text_at texts part

-- the graph and a space, or nothing for the default graph
abbrev pub marked_graph : List (List ℕ) → TermId → Option TermId → List ℕ
marked_graph texts blank None = []
marked_graph texts blank (Some part) = marked_part texts blank part ++ codes " "

-- the line of the quad, marked for the blank node
abbrev pub marked_line : List (List ℕ) → Quad → TermId → List ℕ
marked_line texts quad blank =
    line_text (marked_part texts blank quad.subject) (text_at texts quad.predicate)
    (marked_part texts blank quad.object) (marked_graph texts blank quad.graph)

-- the line, with the blank node for which it is marked
abbrev pub mention_line : List (List ℕ) → Quad → TermId → MentionLine
mention_line texts quad blank = record { blank = blank; line = marked_line texts quad blank }

-- the line for one part of the quad, where the part is a blank node
abbrev pub line_at : List (List ℕ) → Quad → TermId → List MentionLine
line_at texts quad part =
    if begins_blank (text_at texts part) then mention_line texts quad part ∷ [] else []

-- the line for the object, where it is not the subject
abbrev pub object_lines : List (List ℕ) → Quad → List MentionLine
object_lines texts quad =
    if quad.subject.index == quad.object.index then [] else line_at texts quad quad.object

-- the line for the graph, where it is neither subject nor object
abbrev pub graph_lines : List (List ℕ) → Quad → Option TermId → List MentionLine
graph_lines texts quad None = []
graph_lines texts quad (Some graph) =
    if (quad.subject.index == graph.index) || (quad.object.index == graph.index) then []
    else line_at texts quad graph

-- one line for each blank node that the quad mentions, however often it does
abbrev pub mention_lines : List (List ℕ) → Quad → List MentionLine
mention_lines texts quad =
    line_at texts quad quad.subject
    ++ (object_lines texts quad ++ graph_lines texts quad quad.graph)

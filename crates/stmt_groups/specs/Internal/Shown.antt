-- The text of a statement by the numbers of a store, in which each blank node is `_:x`.
use Rattle.std.specs.Prelude.{ℕ, List, [], ◌++◌, codes, Option, Some, None, if◌then◌else◌}
use Rattle.term_store.specs.Store.{begins_blank, text_at}
use Rattle.term_store.specs.declared.store.TermId.{TermId}
use Rattle.term_store.specs.declared.statements.Quad.{Quad}

-- `_:x` for a blank node, and any other part as it is kept
abbrev pub shown_part : List (List ℕ) → TermId → List ℕ
shown_part texts id = if begins_blank (text_at texts id) then codes "_:x" else text_at texts id

-- the graph and a space, or nothing for the default graph
abbrev pub shown_graph : List (List ℕ) → Option TermId → List ℕ
shown_graph texts None = []
shown_graph texts (Some id) = shown_part texts id ++ codes " "

-- the four parts with a space behind each, and a dot
abbrev pub shown_with : List ℕ → List ℕ → List ℕ → List ℕ → List ℕ
shown_with s p o g = s ++ codes " " ++ p ++ codes " " ++ o ++ codes " " ++ g ++ codes "."

-- the text
abbrev pub shown_text : List (List ℕ) → Quad → List ℕ
shown_text texts quad =
    shown_with (shown_part texts quad.subject) (text_at texts quad.predicate)
    (shown_part texts quad.object) (shown_graph texts quad.graph)

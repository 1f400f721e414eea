-- The blank nodes of a dataset, as labelling looks at them. RDF Canonicalization, 4.4.3, steps 1
-- and 2, and 4.8.3, step 3.
use Rattle.std.specs.Prelude.{ℕ, List, ◌++◌, not, map, filter, flat_map}
use Rattle.nquads.specs.Terms.{Blank, Statement}
use Rattle.nquads.specs.Renaming.{same_blank, blanks_of_term, blanks_of_graph}
use Rattle.nquads.specs.Spelling.{iri_text}
use Rattle.nquads.specs.FirstDegree.{blanks, mention_set, first_degree_hash}
use Rattle.rdfc_ndegree.specs.Nodes.{Occurrence, Nodes}
use Rattle.rdfc_ndegree.specs.declared.table.Position.{Position}
use Rattle.rdfc_ndegree.specs.declared.table.Position.TheVariants as position

abbrev pub occurrence : {B : Type 0} → Position → List ℕ → B → Occurrence B
occurrence position predicate blank =
    record { position = position; predicate = predicate; blank = blank }

-- the blank nodes at one position of a statement of the node n, but for n itself
abbrev pub occurrences_at : Blank → Position → List ℕ → List Blank → List (Occurrence Blank)
occurrences_at n position predicate bs =
    map (occurrence position predicate) (filter (λ b. not (same_blank n b)) bs)

-- the occurrences in one statement
abbrev pub occurrences_in : Blank → Statement → List (Occurrence Blank)
occurrences_in n s =
    occurrences_at n position.Subject (iri_text s.predicate) (blanks_of_term s.subject)
    ++ (occurrences_at n position.Object (iri_text s.predicate) (blanks_of_term s.object)
    ++ occurrences_at n position.Graph (iri_text s.predicate) (blanks_of_graph s.graph))

-- the related blank nodes of a node, once for each occurrence in its statements
abbrev pub related_in : List Statement → Blank → List (Occurrence Blank)
related_in q n = flat_map (occurrences_in n) (mention_set q n)

-- The blank nodes of a dataset, with the digest of a text in hexadecimal digits.
abbrev pub nodes_of : (List ℕ → List ℕ) → List Statement → Nodes Blank
nodes_of digest q = record {
  all = blanks q;
  same = same_blank;
  digest = digest;
  first = first_degree_hash digest q;
  related = related_in q;
}

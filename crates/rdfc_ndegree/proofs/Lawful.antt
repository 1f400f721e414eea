-- The blank nodes of a dataset are nodes: none is listed twice, and those that stand beside a listed one are listed.
use Rattle.std.proofs.Common.{◌≡◌, ℕ, List, filter, Contains, true, not, ◌↔◌, ◌++◌, ap, subst, ⊎_elim}
use Rattle.std.proofs.lemmas.List.Elements.{Contains-append_left, Contains-append_right, Contains-append_cases}
use Rattle.std.specs.List.{flat_map}
use Rattle.base_types.specs.Sets.{AllDiffer}
use Rattle.base_types.proofs.Lists.{Contains-from_map, Contains-from_flat_map}
use Rattle.nquads.specs.Terms.{Blank, Statement}
use Rattle.nquads.specs.Renaming.{same_blank, blanks_of_term, blanks_of_graph, blanks_of, StandsIn}
use Rattle.nquads.specs.Spelling.{iri_text}
use Rattle.nquads.specs.FirstDegree.{blanks, mention_set, mentions}
use Rattle.nquads.proofs.ReadingBlanks.{same_blank-true, same_blank-itself, to_blanks_in}
use Rattle.nquads.proofs.ReadingElements.{All-from_contains}
use Rattle.rdfc_ndegree.specs.Nodes.{Occurrence}
use Rattle.rdfc_ndegree.specs.Internal.Nodes.{AreNodes}
use Rattle.rdfc_ndegree.specs.declared.table.Position.{Position}
use Rattle.rdfc_ndegree.specs.declared.table.Position.TheVariants as position
use Rattle.rdfc_ndegree.specs.Datasets.{occurrence, occurrences_at, occurrences_in, related_in, nodes_of}
use Rattle.rdfc_ndegree.proofs.Membership.{Contains-from_filter}
use Rattle.rdfc_ndegree.proofs.Branching.{each_once-from, each_once-has, each_once-differ}

-- the test of blank nodes says true just where they are equal
pub same_blank-equal : (x y : Blank) → (same_blank x y ≡ true) ↔ (x ≡ y)
same_blank-equal x y = (same_blank-true x y, λ e. subst (λ (z : Blank). same_blank x z ≡ true) e (same_blank-itself x))

-- a blank node stands in the dataset just where it is listed
pub blanks-all : (q : List Statement) (b : Blank) → StandsIn q b ↔ Contains (blanks q) b
blanks-all q b = (each_once-has same_blank same_blank-equal (flat_map blanks_of q) b, each_once-from same_blank same_blank-equal (flat_map blanks_of q) b)

-- no blank node of a dataset is listed twice
pub AllDiffer-blanks : (q : List Statement) → AllDiffer (blanks q)
AllDiffer-blanks q = each_once-differ same_blank same_blank-equal (flat_map blanks_of q)

at_position : (n : Blank) (position : Position) (predicate : List ℕ) (bs : List Blank) (o : Occurrence Blank) → Contains (occurrences_at n position predicate bs) o → Contains bs o.blank
at_position n position predicate bs o k =
    let found = Contains-from_map (occurrence position predicate) (filter (λ b. not (same_blank n b)) bs) o k in
    subst (Contains bs) (ap (λ (z : Occurrence Blank). z.blank) found.2) (Contains-from_filter (λ b. not (same_blank n b)) bs found.0 found.1).0

in_statement : (n : Blank) (s : Statement) (o : Occurrence Blank) → Contains (occurrences_in n s) o → Contains (blanks_of s) o.blank
in_statement n s o k =
    ⊎_elim
    (λ l. Contains-append_left (blanks_of_term s.subject) (blanks_of_term s.object ++ blanks_of_graph s.graph) o.blank (at_position n position.Subject (iri_text s.predicate) (blanks_of_term s.subject) o l))
    (λ l. Contains-append_right (blanks_of_term s.subject) (blanks_of_term s.object ++ blanks_of_graph s.graph) o.blank
    (⊎_elim
    (λ m. Contains-append_left (blanks_of_term s.object) (blanks_of_graph s.graph) o.blank (at_position n position.Object (iri_text s.predicate) (blanks_of_term s.object) o m))
    (λ m. Contains-append_right (blanks_of_term s.object) (blanks_of_graph s.graph) o.blank (at_position n position.Graph (iri_text s.predicate) (blanks_of_graph s.graph) o m))
    (Contains-append_cases (occurrences_at n position.Object (iri_text s.predicate) (blanks_of_term s.object)) (occurrences_at n position.Graph (iri_text s.predicate) (blanks_of_graph s.graph)) o l)))
    (Contains-append_cases (occurrences_at n position.Subject (iri_text s.predicate) (blanks_of_term s.subject)) (occurrences_at n position.Object (iri_text s.predicate) (blanks_of_term s.object) ++ occurrences_at n position.Graph (iri_text s.predicate) (blanks_of_graph s.graph)) o k)

-- each related node of a blank node stands in the dataset
pub related_in-stands : (q : List Statement) (n : Blank) (o : Occurrence Blank) → Contains (related_in q n) o → StandsIn q o.blank
related_in-stands q n o k =
    let found = Contains-from_flat_map (occurrences_in n) (mention_set q n) o k in
    to_blanks_in q found.0 o.blank (Contains-from_filter (mentions n) q found.0 found.1).0 (in_statement n found.0 o found.2)

-- the nodes of a dataset are told apart and listed once each, and so are their related nodes
pub nodes-lawful : (digest : List ℕ → List ℕ) (q : List Statement) → AreNodes (nodes_of digest q)
nodes-lawful digest q = record {
  equal = same_blank-equal;
  differ = AllDiffer-blanks q;
  closed = λ n listed. All-from_contains (λ (o : Occurrence Blank). Contains (blanks q) o.blank) (related_in q n) (λ o k. (blanks-all q o.blank).0 (related_in-stands q n o k));
}

-- Renamings of blank nodes, and datasets that are the same up to their names.
-- RDF 1.1 Concepts, 3.6 (graph isomorphism) and 4.1 (dataset isomorphism).
use Rattle.std.specs.Prelude.{◌≡◌, List, [], ◌∷◌, ◌++◌, Bool, true, false, ◌&&◌, map, All, Contains, Option, Some, None, option_map, if◌then◌else◌}
use Rattle.std.specs.List.{flat_map}
use Rattle.std.specs.Str.{bytes_eq}
use Rattle.base_types.specs.Sets.{AllDiffer, SameElements}
use Rattle.nquads.specs.Terms.{BlankKind, by_label, by_node, by_graph, by_cell, Blank, Term, iri, literal, blank, Statement}

abbrev pub same_kind : BlankKind → BlankKind → Bool
same_kind by_label by_label = true
same_kind by_node by_node = true
same_kind by_graph by_graph = true
same_kind by_cell by_cell = true
same_kind _ _ = false

-- whether two blank nodes are one
abbrev pub same_blank : Blank → Blank → Bool
same_blank a b = same_kind a.kind b.kind && bytes_eq a.name b.name

-- the blank nodes of a term and of a statement, once for each place where they stand
abbrev pub blanks_of_term : Term → List Blank
blanks_of_term (iri text) = []
blanks_of_term (literal text datatype language) = []
blanks_of_term (blank b) = b ∷ []

abbrev pub blanks_of_graph : Option Term → List Blank
blanks_of_graph None = []
blanks_of_graph (Some g) = blanks_of_term g

abbrev pub blanks_of : Statement → List Blank
blanks_of s = blanks_of_term s.subject ++ (blanks_of_term s.object ++ blanks_of_graph s.graph)

-- the blank node stands in a statement of the dataset
abbrev pub StandsIn : List Statement → Blank → Type 0
StandsIn q b = Contains (flat_map blanks_of q) b

-- a term and a statement with each blank node replaced
abbrev pub rename_term : (Blank → Blank) → Term → Term
rename_term f (iri text) = iri text
rename_term f (literal text datatype language) = literal text datatype language
rename_term f (blank b) = blank (f b)

abbrev pub rename : (Blank → Blank) → Statement → Statement
rename f s = record {
  subject = rename_term f s.subject;
  predicate = s.predicate;
  object = rename_term f s.object;
  graph = option_map (rename_term f) s.graph;
}

-- no two blank nodes of the dataset are sent to one
abbrev pub IsOneToOne : (Blank → Blank) → List Statement → Type 0
IsOneToOne f q = (a b : Blank) → StandsIn q a → StandsIn q b → f a ≡ f b → a ≡ b

-- one blank node and the one that takes its place
pub record Pair : Type 0 where
  pub from : Blank
  pub to : Blank

-- A renaming: no first and no second part stands in it twice.
pub record IsRenaming (r : List Pair) : Type 0 where
  pub sources : AllDiffer (map (λ p. p.from) r)
  pub targets : AllDiffer (map (λ p. p.to) r)

-- what the renaming puts in the place of b, and b itself where it does not name b
abbrev pub image : List Pair → Blank → Blank
image [] b = b
image (p ∷ ps) b = if same_blank p.from b then p.to else image ps b

-- the renaming names each blank node of the dataset
abbrev pub NamesAll : List Pair → List Statement → Type 0
NamesAll r q = All (λ s. All (Contains (map (λ p. p.from) r)) (blanks_of s)) q

-- The datasets are the same up to the names of blank nodes.
pub record Same (first second : List Statement) : Type 0 where
  pub pairs : List Pair
  pub renaming : IsRenaming pairs
  pub names : NamesAll pairs first
  pub elements : SameElements (map (rename (image pairs)) first) second

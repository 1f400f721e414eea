-- Small datasets for worked runs, with a digest that leaves a text as it is.
use Rattle.std.specs.Prelude.{ℕ, List, Bool, map, None, codes}
use Rattle.nquads.specs.Terms.{by_label, Blank, iri, blank, Statement}
use Rattle.rdfc_ndegree.specs.Datasets.{nodes_of}
use Rattle.rdfc_ndegree.specs.Run.{IsRun}

abbrev pub blank_by_label : List ℕ → Blank
blank_by_label name = record { kind = by_label; name = name }

-- a statement between two blank nodes, and one about an IRI
abbrev pub edge : List ℕ → List ℕ → Statement
edge x y = record {
  subject = blank (blank_by_label x);
  predicate = codes "p";
  object = blank (blank_by_label y);
  graph = None;
}

abbrev pub leaf : List ℕ → Statement
leaf x = record {
  subject = blank (blank_by_label x);
  predicate = codes "p";
  object = iri (codes "o");
  graph = None;
}

-- The dataset has a run that gives the blank nodes with these labels the canonical identifiers in
-- this order, with this tie and work.
abbrev pub HasRun : List Statement → List (List ℕ) → Bool → ℕ → Type 0
HasRun q labels tie work =
    IsRun (nodes_of (λ text. text) q)
    (record { issuer = map blank_by_label labels; tie = tie; work = work })

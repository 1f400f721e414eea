-- Which table is that of a dataset.
use Rattle.std.specs.Prelude.{◌≡◌, ◌⊎◌, ◌++◌, ℕ, List, map, All, Contains, Some, slice_get}
use Rattle.std.specs.List.{AllZip}
use Rattle.base_types.specs.Sets.{AllDiffer}
use Rattle.digest_mac.specs.Digests.{digits}
use Rattle.digest_mac.specs.declared.hash.Hash.{Hash}
use Rattle.term_store.specs.Store.{text_at}
use Rattle.nquads.specs.Terms.{Blank, Statement}
use Rattle.nquads.specs.Renaming.{StandsIn}
use Rattle.nquads.specs.Spelling.{blank_text}
use Rattle.nquads.specs.FirstDegree.{first_degree_hash}
use Rattle.nquads.specs.declared.hashes.BlankHash.{BlankHash}
use Rattle.rdfc_ndegree.specs.Nodes.{Occurrence}
use Rattle.rdfc_ndegree.specs.Datasets.{related_in}
use Rattle.rdfc_ndegree.specs.Table.{NodeRow, names_of, occurrence_of}

-- the same occurrence, of a blank node and of its number in the list bs
pub record IsOccurrence (bs : List Blank) (numbered : Occurrence ℕ) (o : Occurrence Blank)
    : Type 0 where
  pub position : numbered.position ≡ o.position
  pub predicate : numbered.predicate ≡ o.predicate
  pub blank : slice_get bs numbered.blank ≡ Some o.blank

-- the row of the blank node b of the dataset q
pub record IsRowOf (hash : Hash) (q : List Statement) (bs : List Blank) (b : Blank)
    (row : NodeRow) : Type 0 where
  pub name : row.blank ≡ blank_text b
  pub first : row.first ≡ first_degree_hash (digits hash) q b
  pub related : AllZip (IsOccurrence bs) (map occurrence_of row.related) (related_in q b)

-- The rows are those of the blank nodes bs, which differ and among which each one of the dataset
-- is.
pub record IsTableOf (hash : Hash) (q : List Statement) (bs : List Blank) (rows : List NodeRow)
    : Type 0 where
  pub differ : AllDiffer bs
  pub covers : (b : Blank) → StandsIn q b → Contains bs b
  pub each : AllZip (IsRowOf hash q bs) bs rows

-- the texts of the blank nodes that first-degree hashes name
abbrev pub first_names : List (List ℕ) → List BlankHash → List (List ℕ)
first_names texts firsts = map (λ (h : BlankHash). text_at texts h.blank) firsts

-- The rows are those of the blank nodes of the dataset, in the order of `names`, and then of those
-- among cs that stand in no statement.
pub record IsTableWith (hash : Hash) (q : List Statement) (names : List (List ℕ))
    (cs : List Blank) (rows : List NodeRow) : Type 0 where
  pub nodes : List Blank
  pub table : IsTableOf hash q nodes rows
  pub others : All (Contains nodes) cs
  pub each : All (λ b. StandsIn q b ⊎ Contains cs b) nodes
  pub rest : List (List ℕ)
  pub order : names_of rows ≡ names ++ rest

-- Datasets whose blank nodes have labels, and their statements by the places of their lines.
use Rattle.std.specs.Prelude.{ℕ, List, All, Contains}
use Rattle.nquads.specs.Terms.{Blank, IsStatement, Statement}
use Rattle.nquads.specs.Lines.{HasLabels, LabelsDiffer, canonical_lines, line}
use Rattle.stmt_groups.specs.Lines.{lines_at, other_lines}

-- A dataset with labels for its blank nodes. -- RDF Dataset Canonicalization, canonicalized dataset
pub record LabelledDataset : Type 0 where
  pub statements : List Statement
  pub label : Blank → List ℕ

-- The statements are well formed; each blank node has a label of the grammar, and no two have one.
pub record IsLabelled (d : LabelledDataset) : Type 0 where
  pub well_formed : All IsStatement d.statements
  pub in_grammar : All (HasLabels d.label) d.statements
  pub differ : LabelsDiffer d.label d.statements

-- the canonical lines of the dataset
abbrev pub dataset_lines : LabelledDataset → List (List ℕ)
dataset_lines d = canonical_lines d.label d.statements

-- the statement is one of the dataset, and its line stands at one of the places
abbrev pub IsAt : List ℕ → LabelledDataset → Statement → Type 0
IsAt places d s =
    Contains d.statements s × Contains (lines_at places (dataset_lines d)) (line d.label s)

-- the statement is one of the dataset, and its line stands at another place
abbrev pub IsElsewhere : List ℕ → LabelledDataset → Statement → Type 0
IsElsewhere places d s =
    Contains d.statements s × Contains (other_lines places (dataset_lines d)) (line d.label s)

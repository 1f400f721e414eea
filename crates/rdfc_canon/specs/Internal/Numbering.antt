-- The run over the numbers of a table: what each part of it answers.
-- RDF Canonicalization, 4.4.3, steps 3 to 5.
use Rattle.std.specs.Prelude.{◌≡◌, ◌<◌, ◌≤◌, ◌+◌, ◌||◌, ℕ, List, [], ◌∷◌, Bool, false, bytes_eq, IsPermutation}
use Rattle.std.specs.List.{AllZip}
use Rattle.rdfc_ndegree.specs.Nodes.{Nodes}
use Rattle.rdfc_ndegree.specs.Answers.{Spending}
use Rattle.rdfc_ndegree.specs.declared.limits.Limits.{Limits}
use Rattle.rdfc_ndegree.specs.Internal.Issuing.{issue_numbers}
use Rattle.rdfc_ndegree.specs.NDegree.{Outcome, IsNDegree}
use Rattle.rdfc_ndegree.specs.Run.{RunOutcome, IsRun, lacking, take_issuers, InHashOrder, results_tie, work_of}
use Rattle.rdfc_ndegree.specs.declared.path.NodePath.{NodePath}

-- the same for each result in order, with the nodes of its issuer
abbrev pub issue_paths : List ℕ → List NodePath → List ℕ
issue_paths c [] = c
issue_paths c (p ∷ ps) = issue_paths (issue_numbers c p.issuer) ps

-- whether the first result has the hash
abbrev pub next_has : List ℕ → List NodePath → Bool
next_has hash [] = false
next_has hash (p ∷ ps) = bytes_eq p.hash hash

-- a result met a tie, or two neighbours have one hash
abbrev pub neighbours_tie : List NodePath → Bool
neighbours_tie [] = false
neighbours_tie (p ∷ ps) = p.tie || next_has p.hash ps || neighbours_tie ps

-- the n-degree call of a node with a new issuer that has named it alone
abbrev pub HashesAlone : {B : Type 0} → Nodes B → List B → B → Outcome B → Type 0
HashesAlone v c n o = IsNDegree v c n (n ∷ []) o

-- a result as the program keeps it
pub record IsPathOf (path : NodePath) (o : Outcome ℕ) : Type 0 where
  pub hash : path.hash ≡ o.hash
  pub issuer : path.issuer ≡ o.issuer
  pub tie : path.tie ≡ o.tie

-- The paths are those of calls of the nodes ns, and the count has risen by exactly their
-- arrangements.
pub record AnswersHashes (v : Nodes ℕ) (c ns : List ℕ) (paths : List NodePath) (s : Spending)
    : Type 0 where
  pub outcomes : List (Outcome ℕ)
  pub hashed : AllZip (HashesAlone v c) ns outcomes
  pub paths_are : AllZip IsPathOf paths outcomes
  pub spent : s.after ≡ s.before + work_of outcomes

-- the work of some calls of the nodes ns, with what was spent before, is over the limit
pub record HashesOver {B : Type 0} (v : Nodes B) (c ns : List B) (old limit : ℕ) : Type 0 where
  pub outcomes : List (Outcome B)
  pub hashed : AllZip (HashesAlone v c) ns outcomes
  pub over : limit < old + work_of outcomes

-- A group is taken: its results, put in hash order, have made the canonical issuer d of c.
pub record AnswersRound {B : Type 0} (v : Nodes B) (c members d : List B) (tie : Bool)
    (s : Spending) : Type 0 where
  pub outcomes : List (Outcome B)
  pub sorted : List (Outcome B)
  pub hashed : AllZip (HashesAlone v c) (lacking v c members) outcomes
  pub order : IsPermutation outcomes sorted
  pub in_order : InHashOrder sorted
  pub issuer_is : d ≡ take_issuers v c sorted
  pub tie_is : tie ≡ results_tie outcomes
  pub spent : s.after ≡ s.before + work_of outcomes

-- Issuer, tie and work are those of one run, and its work is not over the limit.
pub record AnswersNumbers {B : Type 0} (v : Nodes B) (limits : Limits) (issuer : List B)
    (tie : Bool) (work : ℕ) : Type 0 where
  pub run : RunOutcome B
  pub is_run : IsRun v run
  pub issuer_is : issuer ≡ run.issuer
  pub tie_is : tie ≡ run.tie
  pub work_is : work ≡ run.work
  pub within_work : run.work ≤ limits.work

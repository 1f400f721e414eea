-- Runs of the canonicalization algorithm, ties and work. RDF Canonicalization, 4.4.3, steps 3 to 5.
use Rattle.std.specs.Prelude.{◌≡◌, ◌<◌, ◌≤◌, ◌+◌, ℕ, List, [], ◌∷◌, ◌++◌, Bool, true, false, not, ◌||◌, filter, map, All, bytes_eq, IsPermutation}
use Rattle.std.specs.List.{AllZip, list_any}
use Rattle.base_types.specs.Order.{is_upto}
use Rattle.rdfc_ndegree.specs.Nodes.{Nodes}
use Rattle.rdfc_ndegree.specs.Issuers.{has, issue}
use Rattle.rdfc_ndegree.specs.Groups.{NodeHash, Group, groups_by_hash}
use Rattle.rdfc_ndegree.specs.NDegree.{Outcome, IsNDegree}

-- a node with its first-degree hash
abbrev pub with_first_hash : {B : Type 0} → Nodes B → B → NodeHash B
with_first_hash v n = record { hash = v.first n; node = n }

-- the nodes grouped by first-degree hash, the groups in hash order. -- RDF Canonicalization, 4.4.3,
-- steps 3 and 4
abbrev pub first_groups : {B : Type 0} → Nodes B → List (Group B)
first_groups v = groups_by_hash (map (with_first_hash v) v.all)

-- the one member of a group of one
abbrev pub if_alone : {B : Type 0} → List B → List B
if_alone [] = []
if_alone (n ∷ []) = n ∷ []
if_alone (n ∷ m ∷ ns) = []

-- the nodes with a first-degree hash of their own, in hash order: they get the first canonical
-- identifiers. RDF Canonicalization, 4.4.3, step 4
abbrev pub alone : {B : Type 0} → List (Group B) → List B
alone [] = []
alone (g ∷ gs) = if_alone g.members ++ alone gs

-- the members that have no canonical identifier
abbrev pub lacking : {B : Type 0} → Nodes B → List B → List B → List B
lacking v c ns = filter (λ n. not (has v c n)) ns

-- the canonical issuer after naming the nodes of an issuer in its order, and after all of a group's
-- issuers. RDF Canonicalization, 4.4.3, step 5.3
abbrev pub take_issuer : {B : Type 0} → Nodes B → List B → List B → List B
take_issuer v c [] = c
take_issuer v c (n ∷ ns) = take_issuer v (issue v c n) ns

abbrev pub take_issuers : {B : Type 0} → Nodes B → List B → List (Outcome B) → List B
take_issuers v c [] = c
take_issuers v c (o ∷ os) = take_issuers v (take_issuer v c o.issuer) os

-- each hash comes before the next or is the same
abbrev pub InHashOrder : {B : Type 0} → List (Outcome B) → Type 0
InHashOrder [] = Unit {0}
InHashOrder (o ∷ os) = All (λ (p : Outcome _). is_upto o.hash p.hash ≡ true) os × InHashOrder os

-- two results have one hash, or one of them met a tie that counts within it
abbrev pub results_tie : {B : Type 0} → List (Outcome B) → Bool
results_tie [] = false
results_tie (o ∷ os) = o.tie || list_any (λ p. bytes_eq p.hash o.hash) os || results_tie os

abbrev pub work_of : {B : Type 0} → List (Outcome B) → ℕ
work_of [] = 0
work_of (o ∷ os) = o.work + work_of os

-- What a run gives: the canonical issuer, in which a node's number is its place; whether a tie was
-- met; and how many arrangements were evaluated.
pub record RunOutcome (B : Type 0) : Type 0 where
  pub issuer : List B
  pub tie : Bool
  pub work : ℕ

abbrev pub run_end : {B : Type 0} → List B → RunOutcome B
run_end c = record { issuer = c; tie = false; work = 0 }

abbrev pub run_more : {B : Type 0} → List (Outcome B) → RunOutcome B → RunOutcome B
run_more os r = record {
  issuer = r.issuer;
  tie = results_tie os || r.tie;
  work = work_of os + r.work;
}

-- One group of one first-degree hash: each member without canonical identifier is hashed with a new
-- issuer that has named it alone, and the results are taken in hash order, equals in any. RDF
-- Canonicalization, 4.4.3, step 5
pub record Round {B : Type 0} (v : Nodes B) (c : List B) (members : List B)
    (follows : List B → RunOutcome B → Type 0) (r : RunOutcome B) : Type 0 where
  pub outcomes : List (Outcome B)
  pub sorted : List (Outcome B)
  pub rest : RunOutcome B
  pub hashed : AllZip (λ n o. IsNDegree v c n (n ∷ []) o) (lacking v c members) outcomes
  pub order : IsPermutation outcomes sorted
  pub in_order : InHashOrder sorted
  pub goes_on : follows (take_issuers v c sorted) rest
  pub is : r ≡ run_more outcomes rest

abbrev pub Rounds : {B : Type 0} → Nodes B → List B → List (Group B) → RunOutcome B → Type 0
Rounds v c [] r = r ≡ run_end c
Rounds v c (g ∷ gs) r = Round v c g.members (λ d rest. Rounds v d gs rest) r

-- A run: the nodes with a hash of their own are named first, then the groups are taken in hash
-- order. (A group of one has nobody left to name.) -- RDF Canonicalization, 4.4.3
pub record IsRun {B : Type 0} (v : Nodes B) (r : RunOutcome B) : Type 0 where
  pub rounds : Rounds v (alone (first_groups v)) (first_groups v) r

-- A run meets a tie.
pub record MeetsTie {B : Type 0} (v : Nodes B) : Type 0 where
  pub run : RunOutcome B
  pub is_run : IsRun v run
  pub tie : run.tie ≡ true

-- some run evaluates more arrangements than n
pub record WorkOver {B : Type 0} (v : Nodes B) (n : ℕ) : Type 0 where
  pub run : RunOutcome B
  pub is_run : IsRun v run
  pub over : n < run.work

-- no run evaluates more arrangements than this
abbrev pub IsWithinWork : {B : Type 0} → Nodes B → ℕ → Type 0
IsWithinWork v work = (r : RunOutcome _) → IsRun v r → r.work ≤ work

-- The canonical issuer that every run without a tie gives; where one run meets no tie, none does.
pub record IsCanonicalIssuer {B : Type 0} (v : Nodes B) (c : List B) : Type 0 where
  pub run : RunOutcome B
  pub is_run : IsRun v run
  pub no_tie : run.tie ≡ false
  pub is : run.issuer ≡ c

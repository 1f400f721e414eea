-- How far an n-degree call has come: in the nested calls of an arrangement, in the arrangements of
-- a group, in the groups of a call. Each says what any way to go on makes of the whole.
use Rattle.std.specs.Prelude.{◌≡◌, ◌+◌, ◌||◌, ℕ, List, [], ◌++◌, Bool, Option}
use Rattle.std.specs.List.{AllZip}
use Rattle.rdfc_ndegree.specs.Nodes.{Nodes}
use Rattle.rdfc_ndegree.specs.Answers.{Spending}
use Rattle.rdfc_ndegree.specs.Groups.{Group, related_groups}
use Rattle.rdfc_ndegree.specs.NDegree.{Outcome, Trail, Nested, InGroups, IsNDegree, AreArrangements, total_work}
use Rattle.rdfc_ndegree.specs.Internal.Evaluations.{TrailAnswer, IsTrail, IsFirstTie, IsBestOf}

-- what was spent, from the counts before and after
abbrev pub spending_of : ℕ → ℕ → Spending
spending_of old new = record { before = old; after = new }

-- ---- one arrangement

-- a trail with earlier nested calls in front: their ties and their work
abbrev pub trail_after : {B : Type 0} → List (List ℕ) → ℕ → Trail B → Trail B
trail_after ties work u =
    record { path = u.path; issuer = u.issuer; ties = ties ++ u.ties; work = work + u.work }

-- In the arrangement p, begun with the issuer i, the nested calls so far have made this path, this
-- issuer and this first tie, and those for `rest` are left.
pub record Walking {B : Type 0} (v : Nodes B) (c i p : List B) (a : TrailAnswer B) (rest : List B)
    (s : Spending) : Type 0 where
  pub ties : List (List ℕ)
  pub work : ℕ
  pub goes_on : (u : Trail B) → Nested v (IsNDegree v c) a.issuer a.path rest u
      → IsTrail v c i p (trail_after ties work u)
  pub tie_is : IsFirstTie a.path ties a.tie
  pub spent_is : s.after ≡ s.before + work

-- ---- the arrangements of a group

-- The best of some arrangements: the least path, the issuer of one that has it, how many have it,
-- and its shortest tie.
pub record BestSoFar (B : Type 0) : Type 0 where
  pub path : List ℕ
  pub issuer : List B
  pub sharing : ℕ
  pub tie : Option ℕ

abbrev pub best_so_far : {B : Type 0} → List ℕ → List B → ℕ → Option ℕ → BestSoFar B
best_so_far path issuer sharing tie =
    record { path = path; issuer = issuer; sharing = sharing; tie = tie }

-- In the choice of a group with these members, begun with the issuer i, this is the best so far,
-- and the arrangements `rest` are left.
pub record Choosing {B : Type 0} (v : Nodes B) (c i members : List B) (rest : List (List B))
    (b : BestSoFar B) (s : Spending) : Type 0 where
  pub done : List (List B)
  pub trails : List (Trail B)
  pub all : AreArrangements members (done ++ rest)
  pub evaluated : AllZip (IsTrail v c i) done trails
  pub best : IsBestOf trails b.path b.issuer b.sharing b.tie
  pub spent_is : s.after ≡ s.before + total_work trails

-- ---- the groups of a call

-- The data to hash after some groups, the issuer, and whether one of them met a tie.
-- RDF Canonicalization, 4.8.3, steps 4, 5.1, 5.5 and 5.6
pub record DataToHash (B : Type 0) : Type 0 where
  pub text : List ℕ
  pub issuer : List B
  pub tie : Bool

abbrev pub data_to_hash : {B : Type 0} → List ℕ → List B → Bool → DataToHash B
data_to_hash text issuer tie = record { text = text; issuer = issuer; tie = tie }

-- an outcome with the choices of earlier groups in front: their tie and their work
abbrev pub outcome_after : {B : Type 0} → Bool → ℕ → Outcome B → Outcome B
outcome_after tie work o =
    record { hash = o.hash; issuer = o.issuer; tie = tie || o.tie; work = work + o.work }

-- In the call for n, begun with the issuer i, the groups so far have made this data, and the groups
-- `rest` are left.
pub record Grouping {B : Type 0} (v : Nodes B) (c : List B) (n : B) (i : List B) (d : DataToHash B)
    (rest : List (Group B)) (s : Spending) : Type 0 where
  pub work : ℕ
  pub goes_on : (o : Outcome B) → InGroups v (IsNDegree v c) c d.text d.issuer rest o
      → InGroups v (IsNDegree v c) c [] i (related_groups v c i n) (outcome_after d.tie work o)
  pub spent_is : s.after ≡ s.before + work

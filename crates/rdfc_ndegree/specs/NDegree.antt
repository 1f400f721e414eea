-- N-degree hashing as a relation: every arrangement of a group is evaluated, and any with the least
-- path may be chosen. RDF Canonicalization, 4.8, Hash N-Degree Quads. Ties and work are this
-- project's.
use Rattle.std.specs.Prelude.{◌≡◌, ◌+◌, ℕ, zero, suc, List, [], ◌∷◌, ◌++◌, Bool, true, false, ◌||◌, ◌==◌, nat_lt, All, Contains, count_by, bytes_eq, codes, if◌then◌else◌, IsPermutation}
use Rattle.std.specs.List.{AllZip, list_any, starts_with}
use Rattle.base_types.specs.Order.{is_upto}
use Rattle.base_types.specs.Sets.{AllDiffer, HasExactly}
use Rattle.rdfc_ndegree.specs.Nodes.{Nodes}
use Rattle.rdfc_ndegree.specs.Issuers.{has, canonical_id, temporary_id, issue}
use Rattle.rdfc_ndegree.specs.Groups.{Group, related_groups}

-- What an n-degree call gives: the hash and the issuer; and whether it met a tie that counts, and
-- how many arrangements were evaluated.
pub record Outcome (B : Type 0) : Type 0 where
  pub hash : List ℕ
  pub issuer : List B
  pub tie : Bool
  pub work : ℕ

-- What one arrangement gives. `ties` has, for each nested call that met a tie, the path as it stood
-- before that call's part.
pub record Trail (B : Type 0) : Type 0 where
  pub path : List ℕ
  pub issuer : List B
  pub ties : List (List ℕ)
  pub work : ℕ

-- What the choice among the arrangements of one group gives.
pub record Choice (B : Type 0) : Type 0 where
  pub path : List ℕ
  pub issuer : List B
  pub tie : Bool
  pub work : ℕ

-- which outcomes a call may give for a node and an issuer
abbrev pub Calls : Type 0 → Type 1
Calls B = B → List B → Outcome B → Type 0

-- ---- One arrangement. RDF Canonicalization, 4.8.3, step 5.4

-- the issuer after a member: it issues an identifier for one that has neither a canonical nor a
-- temporary one
abbrev pub issue_temporary : {B : Type 0} → Nodes B → List B → List B → B → List B
issue_temporary v c i m = if has v c m then i else issue v i m

-- `_:` and the canonical identifier of a member, or else the temporary one
abbrev pub identifier : {B : Type 0} → Nodes B → List B → List B → B → List ℕ
identifier v c i m =
    codes "_:" ++ (if has v c m then canonical_id v c m else temporary_id v i m)

-- The issuer copy after all members, the path that they give, and the recursion list: those of them
-- that were named here, in order. RDF Canonicalization, 4.8.3, step 5.4.4
abbrev pub issuer_copy : {B : Type 0} → Nodes B → List B → List B → List B → List B
issuer_copy v c i [] = i
issuer_copy v c i (m ∷ ms) = issuer_copy v c (issue_temporary v c i m) ms

abbrev pub first_path : {B : Type 0} → Nodes B → List B → List B → List B → List ℕ
first_path v c i [] = []
first_path v c i (m ∷ ms) =
    identifier v c (issue_temporary v c i m) m ++ first_path v c (issue_temporary v c i m) ms

abbrev pub recursion_list : {B : Type 0} → Nodes B → List B → List B → List B → List B
recursion_list v c i [] = []
recursion_list v c i (m ∷ ms) =
    if has v c m || has v i m then recursion_list v c i ms
    else m ∷ recursion_list v c (issue_temporary v c i m) ms

-- What a nested call adds to the path: `_:` and the member's temporary identifier, and the hash in
-- angle brackets. RDF Canonicalization, 4.8.3, steps 5.4.5.2 and 5.4.5.3
abbrev pub path_part : {B : Type 0} → Nodes B → List B → B → List ℕ → List ℕ
path_part v i m hash =
    codes "_:" ++ (temporary_id v i m ++ (codes "<" ++ (hash ++ codes ">")))

-- the trail where no member is left
abbrev pub trail_end : {B : Type 0} → List B → List ℕ → Trail B
trail_end i path = record { path = path; issuer = i; ties = []; work = 0 }

-- a trail with a nested call in front, which was made when the path was this
abbrev pub trail_more : {B : Type 0} → List ℕ → Outcome B → Trail B → Trail B
trail_more path o t = record {
  path = t.path;
  issuer = t.issuer;
  ties = if o.tie then path ∷ t.ties else t.ties;
  work = o.work + t.work;
}

-- one nested call with what may follow it
pub record Enters {B : Type 0} (path : List ℕ) (call : Outcome B → Type 0)
    (follows : Outcome B → Trail B → Type 0) (t : Trail B) : Type 0 where
  pub outcome : Outcome B
  pub rest : Trail B
  pub called : call outcome
  pub goes_on : follows outcome rest
  pub is : t ≡ trail_more path outcome rest

-- The nested calls for the recursion list, in order, each with the issuer that the one before gave.
-- RDF Canonicalization, 4.8.3, step 5.4.5
abbrev pub Nested :
    {B : Type 0} → Nodes B → Calls B → List B → List ℕ → List B → Trail B → Type 0
Nested v calls i path [] t = t ≡ trail_end i path
Nested v calls i path (m ∷ ms) t =
    Enters path (calls m i) (λ o u. Nested v calls o.issuer (path ++ path_part v i m o.hash) ms u) t

-- The arrangement p, begun with the issuer i, may give t.
abbrev pub Evaluates :
    {B : Type 0} → Nodes B → Calls B → List B → List B → List B → Trail B → Type 0
Evaluates v calls c i p t =
    Nested v calls (issuer_copy v c i p) (first_path v c i p) (recursion_list v c i p) t

-- ---- One group. RDF Canonicalization, 4.8.3, step 5

-- the arrangements of a group: the distinct sequences of its members, each once
pub record AreArrangements {B : Type 0} (members : List B) (ps : List (List B)) : Type 0 where
  pub differ : AllDiffer ps
  pub exact : HasExactly ps (IsPermutation members)

-- a nested tie counts where the path before it begins the least path
abbrev pub counts : List ℕ → List (List ℕ) → Bool
counts least ties = list_any (λ before. starts_with ◌==◌ least before) ties

-- A group meets a tie where two of its arrangements have the least path, or where a nested tie of
-- any of its arrangements counts.
abbrev pub meets_tie : {B : Type 0} → List ℕ → List (Trail B) → Bool
meets_tie least ts =
    nat_lt 1 (count_by (λ t. bytes_eq t.path least) ts) || list_any (λ t. counts least t.ties) ts

-- each arrangement is one unit of work, besides that of its nested calls
abbrev pub total_work : {B : Type 0} → List (Trail B) → ℕ
total_work [] = 0
total_work (t ∷ ts) = 1 + t.work + total_work ts

abbrev pub choice_of : {B : Type 0} → Trail B → List (Trail B) → Choice B
choice_of best ts = record {
  path = best.path;
  issuer = best.issuer;
  tie = meets_tie best.path ts;
  work = total_work ts;
}

-- Every arrangement of the members is evaluated, and one with the least path is chosen.
-- RDF Canonicalization, 4.8.3, steps 5.4 and 5.4.6
pub record IsChoice {B : Type 0} (evaluates : List B → Trail B → Type 0) (members : List B)
    (choice : Choice B) : Type 0 where
  pub arrangements : List (List B)
  pub trails : List (Trail B)
  pub best : Trail B
  pub all : AreArrangements members arrangements
  pub evaluated : AllZip evaluates arrangements trails
  pub among : Contains trails best
  pub least : All (λ (t : Trail B). is_upto best.path t.path ≡ true) trails
  pub is : choice ≡ choice_of best trails

-- ---- One call. RDF Canonicalization, 4.8.3

-- the outcome where no group is left: the digest of the data. -- RDF Canonicalization, 4.8.3, step
-- 6
abbrev pub outcome_end : {B : Type 0} → Nodes B → List ℕ → List B → Outcome B
outcome_end v text i = record { hash = v.digest text; issuer = i; tie = false; work = 0 }

-- an outcome with a group's choice in front
abbrev pub outcome_more : {B : Type 0} → Choice B → Outcome B → Outcome B
outcome_more x o = record {
  hash = o.hash;
  issuer = o.issuer;
  tie = x.tie || o.tie;
  work = x.work + o.work;
}

-- one group's choice with what may follow it
pub record Chooses {B : Type 0} (chooses : Choice B → Type 0)
    (follows : Choice B → Outcome B → Type 0) (o : Outcome B) : Type 0 where
  pub choice : Choice B
  pub rest : Outcome B
  pub is_choice : chooses choice
  pub goes_on : follows choice rest
  pub is : o ≡ outcome_more choice rest

-- The groups in hash order, each with the issuer that was chosen in the one before. The group's
-- hash and the chosen path go to the data. RDF Canonicalization, 4.8.3, steps 5.1, 5.5 and 5.6
abbrev pub InGroups :
    {B : Type 0} → Nodes B → Calls B → List B → List ℕ → List B → List (Group B) → Outcome B
    → Type 0
InGroups v calls c text i [] o = o ≡ outcome_end v text i
InGroups v calls c text i (g ∷ gs) o =
    Chooses (IsChoice (Evaluates v calls c i) g.members)
    (λ x rest. InGroups v calls c (text ++ (g.hash ++ x.path)) x.issuer gs rest) o

-- a call whose nested calls are among `calls`
pub record IsCall {B : Type 0} (v : Nodes B) (c : List B) (calls : Calls B) (n : B) (i : List B)
    (o : Outcome B) : Type 0 where
  pub groups : InGroups v calls c [] i (related_groups v c i n) o

-- an n-degree call with at most k calls open at once, itself counted
abbrev pub IsNDegreeWithin : {B : Type 0} → Nodes B → List B → ℕ → Calls B
IsNDegreeWithin v c zero = λ n i o. ⊥
IsNDegreeWithin v c (suc k) = IsCall v c (IsNDegreeWithin v c k)

-- An n-degree call for the node n with the issuer i, where c is the canonical issuer, may give o.
-- RDF Canonicalization, 4.8
pub record IsNDegree {B : Type 0} (v : Nodes B) (c : List B) (n : B) (i : List B) (o : Outcome B)
    : Type 0 where
  pub within : ℕ
  pub call : IsNDegreeWithin v c within n i o

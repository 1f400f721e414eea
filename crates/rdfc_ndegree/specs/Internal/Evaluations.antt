-- What the calls inside an n-degree call answer, for one arrangement and for one group, tied to
-- their runs.
use Rattle.std.specs.Prelude.{◌≡◌, ◌==◌, ◌<◌, ◌≤◌, ◌+◌, ◌-◌, ◌^◌, ◌⊎◌, ⊤, ℕ, min, List, [], Bool, true, false, Option, Some, None, if◌then◌else◌, length, take, All, Contains, count_by, bytes_eq}
use Rattle.std.specs.List.{list_any, starts_with}
use Rattle.std.specs.declared.cmp.Ordering.{Ordering}
use Rattle.std.specs.declared.cmp.Ordering.TheVariants.{Less, Equal, Greater}
use Rattle.base_types.specs.Order.{is_upto}
use Rattle.rdfc_ndegree.specs.Nodes.{Nodes}
use Rattle.rdfc_ndegree.specs.Answers.{Spending}
use Rattle.rdfc_ndegree.specs.NDegree.{Trail, Choice, Evaluates, counts, IsChoice, IsNDegree}
use Rattle.rdfc_ndegree.specs.declared.limits.Limits.{Limits}
use Rattle.rdfc_ndegree.specs.declared.limits.CanonFault.{CanonFault}
use Rattle.rdfc_ndegree.specs.declared.limits.CanonFault.TheVariants as fault

-- a trail that the arrangement p, begun with the issuer i, may give
abbrev pub IsTrail : {B : Type 0} → Nodes B → List B → List B → List B → Trail B → Type 0
IsTrail v c i p t = Evaluates v (IsNDegree v c) c i p t

-- a choice that a group with these members, begun with the issuer i, may give
abbrev pub IsGroupChoice : {B : Type 0} → Nodes B → List B → List B → List B → Choice B → Type 0
IsGroupChoice v c i members x = IsChoice (IsTrail v c i) members x

-- ---- ties

-- A tie of a path is kept as a length: so long was the path before the nested call that met it.
-- Whether the path of that length begins the text.
abbrev pub is_tied_at : List ℕ → List ℕ → Option ℕ → Bool
is_tied_at text path None = false
is_tied_at text path (Some n) = starts_with ◌==◌ text (take n path)

-- the path is at least so long
abbrev pub IsWithin : List ℕ → Option ℕ → Type 0
IsWithin path None = ⊤
IsWithin path (Some n) = n ≤ length path

-- Of the ties of a path the first one decides alone: a tie begins a text exactly where it does.
pub record IsFirstTie (path : List ℕ) (ties : List (List ℕ)) (first : Option ℕ) : Type 0 where
  pub within : IsWithin path first
  pub decides : (text : List ℕ) → counts text ties ≡ is_tied_at text path first

-- the first tie after one more nested call, which was made when the path had this length
abbrev pub first_tie : Option ℕ → Bool → ℕ → Option ℕ
first_tie None true n = Some n
first_tie None false n = None
first_tie (Some k) tie n = Some k

-- the shorter of two ties of one path
abbrev pub shorter : Option ℕ → Option ℕ → Option ℕ
shorter None b = b
shorter (Some a) None = Some a
shorter (Some a) (Some b) = Some (min a b)

-- a tie of another path, if the path before it begins the least one too: else it never counts
abbrev pub kept_tie : List ℕ → List ℕ → Option ℕ → Option ℕ
kept_tie least path None = None
kept_tie least path (Some n) = if starts_with ◌==◌ least (take n path) then Some n else None

-- ---- one arrangement

-- What the evaluation of one arrangement answers: the path, the issuer, and the first tie.
pub record TrailAnswer (B : Type 0) : Type 0 where
  pub path : List ℕ
  pub issuer : List B
  pub tie : Option ℕ

abbrev pub trail_answer : {B : Type 0} → List ℕ → List B → Option ℕ → TrailAnswer B
trail_answer path issuer tie = record { path = path; issuer = issuer; tie = tie }

-- The answer is one trail of the arrangement, and the count has risen by exactly its arrangements.
pub record AnswersTrail {B : Type 0} (v : Nodes B) (c i p : List B) (a : TrailAnswer B)
    (s : Spending) : Type 0 where
  pub trail : Trail B
  pub evaluated : IsTrail v c i p trail
  pub path_is : a.path ≡ trail.path
  pub issuer_is : a.issuer ≡ trail.issuer
  pub tie_is : IsFirstTie trail.path trail.ties a.tie
  pub spent : s.after ≡ s.before + trail.work

-- The work of a trail of the arrangement, with what was spent before, is over the limit.
pub record TrailOver {B : Type 0} (v : Nodes B) (c i p : List B) (old limit : ℕ) : Type 0 where
  pub trail : Trail B
  pub evaluated : IsTrail v c i p trail
  pub over : limit < old + trail.work

-- What is chosen in a group: the least path, the issuer of an arrangement that gave it, and whether
-- a tie was met that counts.
pub record ChoiceAnswer (B : Type 0) : Type 0 where
  pub path : List ℕ
  pub issuer : List B
  pub tie : Bool

abbrev pub choice_answer : {B : Type 0} → List ℕ → List B → Bool → ChoiceAnswer B
choice_answer path issuer tie = record { path = path; issuer = issuer; tie = tie }

-- The answer is one choice of the group, and the count has risen by exactly its arrangements.
pub record AnswersChoice {B : Type 0} (v : Nodes B) (c i members : List B) (a : ChoiceAnswer B)
    (s : Spending) : Type 0 where
  pub choice : Choice B
  pub is_choice : IsGroupChoice v c i members choice
  pub path_is : a.path ≡ choice.path
  pub issuer_is : a.issuer ≡ choice.issuer
  pub tie_is : a.tie ≡ choice.tie
  pub spent : s.after ≡ s.before + choice.work

-- The work of a choice of the group, with what was spent before, is over the limit.
pub record ChoiceOver {B : Type 0} (v : Nodes B) (c i members : List B) (old limit : ℕ)
    : Type 0 where
  pub choice : Choice B
  pub is_choice : IsGroupChoice v c i members choice
  pub over : limit < old + choice.work

-- A fault that names a limit names the one that was given, and some run is over it.
abbrev pub IsFaultOf : Limits → (ℕ → Type 0) → CanonFault → Type 0
IsFaultOf limits over (fault.TooMuchWork n) = (n ≡ limits.work) × over n
IsFaultOf limits over fault.Memory = ⊤

-- a trail with this path and this issuer is among the trails
pub record IsAmong {B : Type 0} (ts : List (Trail B)) (path : List ℕ) (issuer : List B)
    : Type 0 where
  pub best : Trail B
  pub contains : Contains ts best
  pub path_is : path ≡ best.path
  pub issuer_is : issuer ≡ best.issuer

-- The least path of the trails with the issuer of one that has it, how many have it (no more than
-- 64 bits hold), and its shortest tie: a tie of any of them begins a text up to the least path
-- exactly where this one does.
pub record IsBestOf {B : Type 0} (ts : List (Trail B)) (path : List ℕ) (issuer : List B)
    (sharing : ℕ) (tie : Option ℕ) : Type 0 where
  pub among : (ts ≡ []) ⊎ IsAmong ts path issuer
  pub least : All (λ (t : Trail B). is_upto path t.path ≡ true) ts
  pub sharing_is : sharing ≡ min (count_by (λ t. bytes_eq t.path path) ts) (2 ^ 64 - 1)
  pub within : IsWithin path tie
  pub decides : (text : List ℕ) → is_upto text path ≡ true
      → list_any (λ (t : Trail B). counts text t.ties) ts ≡ is_tied_at text path tie

-- how a path stands to the least of the paths so far, which `sharing` of them are: the first path
-- of all comes before
abbrev pub IsPlaceOf : List ℕ → ℕ → List ℕ → Ordering → Type 0
IsPlaceOf least sharing path Less = (sharing ≡ 0) ⊎ (is_upto least path ≡ false)
IsPlaceOf least sharing path Equal = (0 < sharing) × (path ≡ least)
IsPlaceOf least sharing path Greater =
    (0 < sharing) × (is_upto least path ≡ true) × (bytes_eq path least ≡ false)

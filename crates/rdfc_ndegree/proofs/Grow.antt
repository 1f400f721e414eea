-- Issuers only grow, what fewer calls may give more may give, and an n-degree call unfolds into a call over n-degree calls.
use Rattle.std.proofs.Common.{◌≡◌, ℕ, zero, suc, ◌+◌, ◌≤◌, List, [], ◌∷◌, ◌++◌, true, refl, sym, ap, ◌∙◌, subst, arith, append_assoc, append-nil}
use Rattle.std.proofs.lemmas.Bool.{cond_both}
use Rattle.std.specs.List.{AllZip}
use Rattle.rdfc_ndegree.specs.Nodes.{Nodes}
use Rattle.rdfc_ndegree.specs.Issuers.{has, issue}
use Rattle.rdfc_ndegree.specs.Groups.{Group, related_groups}
use Rattle.rdfc_ndegree.specs.NDegree.{Outcome, Trail, Choice, Calls, issue_temporary, issuer_copy, first_path, recursion_list, path_part, Nested, Evaluates, IsChoice, InGroups, IsCall, IsNDegreeWithin, IsNDegree}
pub use Rattle.rdfc_ndegree.proofs.Lack.{Grows}
use Rattle.rdfc_ndegree.proofs.Membership.{AllZip-from_right, AllZip-weaker, has-append_left}

-- each call over `calls` gives an issuer that has grown; what `fewer` may give `more` may give
abbrev pub CallsGrow : {B : Type 0} → Calls B → Type 0
CallsGrow {B} calls = (n : B) (i : List B) (o : Outcome B) → calls n i o → Grows i o.issuer

abbrev pub AreAmong : {B : Type 0} → Calls B → Calls B → Type 0
AreAmong {B} fewer more = (n : B) (i : List B) (o : Outcome B) → fewer n i o → more n i o

-- ---- issuers grow

module _ {B : Type 0} where
  pub Grows-refl : (i : List B) → Grows i i
  Grows-refl i = record { more = []; is = sym (append-nil i) }

  pub Grows-trans : (i j k : List B) → Grows i j → Grows j k → Grows i k
  Grows-trans i j k g h = record { more = g.more ++ h.more; is = h.is ∙ ap (λ l. l ++ h.more) g.is ∙ append_assoc i g.more h.more }

  Grows-push : (i : List B) (m : B) → Grows i (i ++ m ∷ [])
  Grows-push i m = record { more = m ∷ []; is = refl }

module _ {B : Type 0} (v : Nodes B) where
  -- what has been named stays so
  pub Grows-has : (i j : List B) → Grows i j → (x : B) → has v i x ≡ true → has v j x ≡ true
  Grows-has i j g x e = subst (λ k. has v k x ≡ true) (sym g.is) (has-append_left v i g.more x e)

  pub Grows-issue : (i : List B) (m : B) → Grows i (issue v i m)
  Grows-issue i m = cond_both (has v i m) i (i ++ m ∷ []) (λ j. Grows i j) (λ _. Grows-refl i) (λ _. Grows-push i m)

  pub Grows-named : (c i : List B) (m : B) → Grows i (issue_temporary v c i m)
  Grows-named c i m = cond_both (has v c m) i (issue v i m) (λ j. Grows i j) (λ _. Grows-refl i) (λ _. Grows-issue i m)

  pub Grows-named_all : (c i p : List B) → Grows i (issuer_copy v c i p)
  Grows-named_all c i [] = Grows-refl i
  Grows-named_all c i (m ∷ ms) = Grows-trans i (issue_temporary v c i m) (issuer_copy v c (issue_temporary v c i m) ms) (Grows-named c i m) (Grows-named_all c (issue_temporary v c i m) ms)

  pub Nested-grows_if : (calls : Calls B) → CallsGrow calls → (i : List B) (path : List ℕ) (ms : List B) (t : Trail B) → Nested v calls i path ms t → Grows i t.issuer
  Nested-grows_if calls g i path [] t d = subst (λ (u : Trail B). Grows i u.issuer) (sym d) (Grows-refl i)
  Nested-grows_if calls g i path (m ∷ ms) t d =
      let later = Nested-grows_if calls g d.outcome.issuer (path ++ path_part v i m d.outcome.hash) ms d.rest d.goes_on in
      subst (λ (u : Trail B). Grows i u.issuer) (sym d.is) (Grows-trans i d.outcome.issuer d.rest.issuer (g m i d.outcome d.called) later)

  pub Evaluates-grows_if : (calls : Calls B) → CallsGrow calls → (c i p : List B) (t : Trail B) → Evaluates v calls c i p t → Grows i t.issuer
  Evaluates-grows_if calls g c i p t d =
      Grows-trans i (issuer_copy v c i p) t.issuer (Grows-named_all c i p) (Nested-grows_if calls g (issuer_copy v c i p) (first_path v c i p) (recursion_list v c i p) t d)

  pub IsChoice-grows_if : (calls : Calls B) → CallsGrow calls → (c i members : List B) (o : Choice B) → IsChoice (Evaluates v calls c i) members o → Grows i o.issuer
  IsChoice-grows_if calls g c i members o d =
      let found = AllZip-from_right (Evaluates v calls c i) d.arrangements d.trails d.best d.evaluated d.among in
      subst (λ (u : Choice B). Grows i u.issuer) (sym d.is) (Evaluates-grows_if calls g c i found.0 d.best found.2)

  pub InGroups-grows_if : (calls : Calls B) → CallsGrow calls → (c : List B) (text : List ℕ) (i : List B) (gs : List (Group B)) (o : Outcome B) → InGroups v calls c text i gs o → Grows i o.issuer
  InGroups-grows_if calls g c text i [] o d = subst (λ (u : Outcome B). Grows i u.issuer) (sym d) (Grows-refl i)
  InGroups-grows_if calls g c text i (h ∷ hs) o d =
      let later = InGroups-grows_if calls g c (text ++ (h.hash ++ d.choice.path)) d.choice.issuer hs d.rest d.goes_on in
      subst (λ (u : Outcome B). Grows i u.issuer) (sym d.is) (Grows-trans i d.choice.issuer d.rest.issuer (IsChoice-grows_if calls g c i h.members d.choice d.is_choice) later)

  pub IsCall-grows_if : (calls : Calls B) → CallsGrow calls → (c : List B) → CallsGrow (IsCall v c calls)
  IsCall-grows_if calls g c = λ n i o d. InGroups-grows_if calls g c [] i (related_groups v c i n) o d.groups

  pub IsNDegreeWithin-grows : (c : List B) (k : ℕ) → CallsGrow (IsNDegreeWithin v c k)
  IsNDegreeWithin-grows c zero = λ n i o d. absurd d
  IsNDegreeWithin-grows c (suc k) = IsCall-grows_if (IsNDegreeWithin v c k) (IsNDegreeWithin-grows c k) c

  pub IsNDegree-grows : (c : List B) (n : B) (i : List B) (o : Outcome B) → IsNDegree v c n i o → Grows i o.issuer
  IsNDegree-grows c n i o d = IsNDegreeWithin-grows c d.within n i o d.call

  pub Nested-grows : (c i : List B) (path : List ℕ) (ms : List B) (t : Trail B) → Nested v (IsNDegree v c) i path ms t → Grows i t.issuer
  Nested-grows c = Nested-grows_if (IsNDegree v c) (IsNDegree-grows c)

  pub Evaluates-grows : (c i p : List B) (t : Trail B) → Evaluates v (IsNDegree v c) c i p t → Grows i t.issuer
  Evaluates-grows c = Evaluates-grows_if (IsNDegree v c) (IsNDegree-grows c) c

  pub IsChoice-grows : (c i members : List B) (o : Choice B) → IsChoice (Evaluates v (IsNDegree v c) c i) members o → Grows i o.issuer
  IsChoice-grows c = IsChoice-grows_if (IsNDegree v c) (IsNDegree-grows c) c

  pub InGroups-grows : (c : List B) (text : List ℕ) (i : List B) (gs : List (Group B)) (o : Outcome B) → InGroups v (IsNDegree v c) c text i gs o → Grows i o.issuer
  InGroups-grows c = InGroups-grows_if (IsNDegree v c) (IsNDegree-grows c) c

-- ---- what fewer calls may give, more may give

module _ {B : Type 0} (v : Nodes B) where
  pub Nested-more : (fewer more : Calls B) → AreAmong fewer more → (i : List B) (path : List ℕ) (ms : List B) (t : Trail B) → Nested v fewer i path ms t → Nested v more i path ms t
  Nested-more fewer more a i path [] t d = d
  Nested-more fewer more a i path (m ∷ ms) t d = record {
    outcome = d.outcome;
    rest = d.rest;
    called = a m i d.outcome d.called;
    goes_on = Nested-more fewer more a d.outcome.issuer (path ++ path_part v i m d.outcome.hash) ms d.rest d.goes_on;
    is = d.is;
  }

  pub Evaluates-more : (fewer more : Calls B) → AreAmong fewer more → (c i p : List B) (t : Trail B) → Evaluates v fewer c i p t → Evaluates v more c i p t
  Evaluates-more fewer more a c i p t d = Nested-more fewer more a (issuer_copy v c i p) (first_path v c i p) (recursion_list v c i p) t d

  pub IsChoice-more : (fewer more : Calls B) → AreAmong fewer more → (c i members : List B) (x : Choice B) → IsChoice (Evaluates v fewer c i) members x → IsChoice (Evaluates v more c i) members x
  IsChoice-more fewer more a c i members x d = record {
    arrangements = d.arrangements;
    trails = d.trails;
    best = d.best;
    all = d.all;
    evaluated = AllZip-weaker (Evaluates v fewer c i) (Evaluates v more c i) d.arrangements d.trails (λ p t _. Evaluates-more fewer more a c i p t) d.evaluated;
    among = d.among;
    least = d.least;
    is = d.is;
  }

  pub InGroups-more : (fewer more : Calls B) → AreAmong fewer more → (c : List B) (text : List ℕ) (i : List B) (gs : List (Group B)) (o : Outcome B) → InGroups v fewer c text i gs o → InGroups v more c text i gs o
  InGroups-more fewer more a c text i [] o d = d
  InGroups-more fewer more a c text i (g ∷ gs) o d = record {
    choice = d.choice;
    rest = d.rest;
    is_choice = IsChoice-more fewer more a c i g.members d.choice d.is_choice;
    goes_on = InGroups-more fewer more a c (text ++ (g.hash ++ d.choice.path)) d.choice.issuer gs d.rest d.goes_on;
    is = d.is;
  }

  pub IsCall-more : (fewer more : Calls B) → AreAmong fewer more → (c : List B) → AreAmong (IsCall v c fewer) (IsCall v c more)
  IsCall-more fewer more a c = λ n i o d. record { groups = InGroups-more fewer more a c [] i (related_groups v c i n) o d.groups }

  pub IsNDegreeWithin-up : (c : List B) (k j : ℕ) → k ≤ j → AreAmong (IsNDegreeWithin v c k) (IsNDegreeWithin v c j)
  IsNDegreeWithin-up c zero j l = λ n i o d. absurd d
  IsNDegreeWithin-up c (suc k) zero l = absurd (omega arith)
  IsNDegreeWithin-up c (suc k) (suc j) l = IsCall-more (IsNDegreeWithin v c k) (IsNDegreeWithin v c j) (IsNDegreeWithin-up c k j (omega arith)) c

-- ---- an n-degree call and its level

module _ {B : Type 0} (v : Nodes B) (c : List B) where
  up_left : (k j : ℕ) → AreAmong (IsNDegreeWithin v c k) (IsNDegreeWithin v c (k + j))
  up_left k j = IsNDegreeWithin-up v c k (k + j) (omega arith)

  up_right : (k j : ℕ) → AreAmong (IsNDegreeWithin v c j) (IsNDegreeWithin v c (k + j))
  up_right k j = IsNDegreeWithin-up v c j (k + j) (omega arith)

  fold_nested : (i : List B) (path : List ℕ) (ms : List B) (t : Trail B) → Nested v (IsNDegree v c) i path ms t → (k : ℕ) × Nested v (IsNDegreeWithin v c k) i path ms t
  fold_nested i path [] t d = (0, d)
  fold_nested i path (m ∷ ms) t d =
      let later = fold_nested d.outcome.issuer (path ++ path_part v i m d.outcome.hash) ms d.rest d.goes_on in (
        d.called.within + later.0,
        record {
          outcome = d.outcome;
          rest = d.rest;
          called = up_left d.called.within later.0 m i d.outcome d.called.call;
          goes_on = Nested-more v (IsNDegreeWithin v c later.0) (IsNDegreeWithin v c (d.called.within + later.0)) (up_right d.called.within later.0) d.outcome.issuer (path ++ path_part v i m d.outcome.hash) ms d.rest later.1;
          is = d.is;
        },
      )

  fold_all : (i : List B) (ps : List (List B)) (ts : List (Trail B)) → AllZip (Evaluates v (IsNDegree v c) c i) ps ts → (k : ℕ) × AllZip (Evaluates v (IsNDegreeWithin v c k) c i) ps ts
  fold_all i [] [] z = (0, tt)
  fold_all i [] (t ∷ ts) z = absurd z
  fold_all i (p ∷ ps) [] z = absurd z
  fold_all i (p ∷ ps) (t ∷ ts) z =
      let first = fold_nested (issuer_copy v c i p) (first_path v c i p) (recursion_list v c i p) t z.0 in
      let later = fold_all i ps ts z.1 in (
        first.0 + later.0,
        (
          Evaluates-more v (IsNDegreeWithin v c first.0) (IsNDegreeWithin v c (first.0 + later.0)) (up_left first.0 later.0) c i p t first.1,
          AllZip-weaker (Evaluates v (IsNDegreeWithin v c later.0) c i) (Evaluates v (IsNDegreeWithin v c (first.0 + later.0)) c i) ps ts
              (λ q u _. Evaluates-more v (IsNDegreeWithin v c later.0) (IsNDegreeWithin v c (first.0 + later.0)) (up_right first.0 later.0) c i q u) later.1,
        ),
      )

  fold_choice : (i members : List B) (x : Choice B) → IsChoice (Evaluates v (IsNDegree v c) c i) members x → (k : ℕ) × IsChoice (Evaluates v (IsNDegreeWithin v c k) c i) members x
  fold_choice i members x d =
      let each = fold_all i d.arrangements d.trails d.evaluated in
      (each.0, record { arrangements = d.arrangements; trails = d.trails; best = d.best; all = d.all; evaluated = each.1; among = d.among; least = d.least; is = d.is })

  fold_groups : (text : List ℕ) (i : List B) (gs : List (Group B)) (o : Outcome B) → InGroups v (IsNDegree v c) c text i gs o → (k : ℕ) × InGroups v (IsNDegreeWithin v c k) c text i gs o
  fold_groups text i [] o d = (0, d)
  fold_groups text i (g ∷ gs) o d =
      let first = fold_choice i g.members d.choice d.is_choice in
      let later = fold_groups (text ++ (g.hash ++ d.choice.path)) d.choice.issuer gs d.rest d.goes_on in (
        first.0 + later.0,
        record {
          choice = d.choice;
          rest = d.rest;
          is_choice = IsChoice-more v (IsNDegreeWithin v c first.0) (IsNDegreeWithin v c (first.0 + later.0)) (up_left first.0 later.0) c i g.members d.choice first.1;
          goes_on = InGroups-more v (IsNDegreeWithin v c later.0) (IsNDegreeWithin v c (first.0 + later.0)) (up_right first.0 later.0) c (text ++ (g.hash ++ d.choice.path)) d.choice.issuer gs d.rest later.1;
          is = d.is;
        },
      )

  pub call-fold : (n : B) (i : List B) (o : Outcome B) → IsCall v c (IsNDegree v c) n i o → IsNDegree v c n i o
  call-fold n i o d =
      let inside = fold_groups [] i (related_groups v c i n) o d.groups in
      record { within = suc inside.0; call = record { groups = inside.1 } }

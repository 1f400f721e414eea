-- How far an n-degree call has come: the start, a step and the end of each loop, and how a fault in mid-run
-- is one of a whole run.
use Rattle.std.proofs.Common.{◌≡◌, ℕ, ◌+◌, ◌≤◌, List, [], ◌∷◌, ◌++◌, All, Contains, Bool, true, false, ◌||◌, Option, None, if◌then◌else◌, nat_lt, length, refl, sym, ap, ◌∙◌, subst, ⊎_elim, arith, append_assoc, append-nil}
use Rattle.std.proofs.Math.Bool.{or-false, or_assoc}
use Rattle.std.specs.Prelude.{is_some}
use Rattle.std.specs.List.{AllZip}
use Rattle.std.proofs.lemmas.List.Elements.{Contains-append_right}
use Rattle.base_types.specs.Order.{is_upto}
use Rattle.base_types.proofs.Lists.{Contains-here, Contains-there, Contains-nil}
use Rattle.rdfc_ndegree.specs.Nodes.{Nodes}
use Rattle.rdfc_ndegree.specs.Internal.Nodes.{AreNodes, AreListed, AreGroupsListed}
use Rattle.rdfc_ndegree.specs.Groups.{Group, related_groups}
use Rattle.rdfc_ndegree.specs.NDegree.{Outcome, Trail, Choice, issuer_copy, first_path, recursion_list, path_part, trail_end, trail_more, AreArrangements, choice_of, meets_tie, InGroups, outcome_end, outcome_more, IsNDegree}
use Rattle.rdfc_ndegree.specs.Answers.{answer, AnswersCall, CallOver}
use Rattle.rdfc_ndegree.specs.Internal.Evaluations.{trail_answer, choice_answer, IsTrail, IsGroupChoice, AnswersTrail, TrailOver, AnswersChoice, ChoiceOver, IsFaultOf, first_tie, IsFirstTie, IsAmong, IsBestOf}
use Rattle.rdfc_ndegree.specs.Internal.Progress.{spending_of, trail_after, Walking, best_so_far, Choosing, data_to_hash, outcome_after, Grouping}
use Rattle.rdfc_ndegree.specs.declared.limits.Limits.{Limits}
use Rattle.rdfc_ndegree.specs.declared.limits.CanonFault.{CanonFault}
use Rattle.rdfc_ndegree.specs.declared.limits.CanonFault.TheVariants as fault
use Rattle.rdfc_ndegree.proofs.Membership.{AllZip-append, AllZip-from_left}
use Rattle.rdfc_ndegree.proofs.Branching.{arrangements-some, arrangement-member}
use Rattle.rdfc_ndegree.proofs.Grow.{call-fold}
use Rattle.rdfc_ndegree.proofs.Exists.{nested-exists, evaluates-exists, trails-exist, IsChoice-from_trails, groups-exist}
use Rattle.rdfc_ndegree.proofs.FirstTies.{first-none, first-longer, first-more}
use Rattle.rdfc_ndegree.proofs.Bests.{best-tie, total_work-append}

-- ---- faults

-- a fault under limits that are equal and a weaker fact is one
pub same_fault : {limits limits' : Limits} {over over' : ℕ → Type 0} → limits ≡ limits' → ((n : ℕ) → over n → over' n) → (e : CanonFault) → IsFaultOf limits over e → IsFaultOf limits' over' e
same_fault same f (fault.TooMuchWork n) h = (h.0 ∙ ap (λ (l : Limits). l.work) same, f n h.1)
same_fault same f fault.Memory h = tt

noted : (b : Bool) (ties us : List (List ℕ)) (path : List ℕ) → ties ++ (if b then path ∷ us else us) ≡ (if b then ties ++ path ∷ [] else ties) ++ us
noted true ties us path = sym (append_assoc ties (path ∷ []) us)
noted false ties us path = refl

-- ---- the nested calls of an arrangement

module _ {B : Type 0} where
  after-none : (u : Trail B) → u ≡ trail_after [] 0 u
  after-none u =
      let w : u.work ≡ 0 + u.work = omega arith in
      λ i. record { path = u.path; issuer = u.issuer; ties = u.ties; work = w i }

  after-more : (ties : List (List ℕ)) (work : ℕ) (path : List ℕ) (o : Outcome B) (u : Trail B) → trail_after ties work (trail_more path o u) ≡ trail_after (if o.tie then ties ++ path ∷ [] else ties) (work + o.work) u
  after-more ties work path o u =
      let t = noted o.tie ties u.ties path in
      let w : work + (o.work + u.work) ≡ (work + o.work) + u.work = omega arith in
      λ i. record { path = u.path; issuer = u.issuer; ties = t i; work = w i }

  joining-none : (o : Outcome B) → o ≡ outcome_after false 0 o
  joining-none o =
      let w : o.work ≡ 0 + o.work = omega arith in
      λ i. record { hash = o.hash; issuer = o.issuer; tie = o.tie; work = w i }

  joining-more : (tie : Bool) (work : ℕ) (x : Choice B) (o : Outcome B) → outcome_after tie work (outcome_more x o) ≡ outcome_after (tie || x.tie) (work + x.work) o
  joining-more tie work x o =
      let t = sym (or_assoc tie x.tie o.tie) in
      let w : work + (x.work + o.work) ≡ (work + x.work) + o.work = omega arith in
      λ i. record { hash = o.hash; issuer = o.issuer; tie = t i; work = w i }

module _ {B : Type 0} (v : Nodes B) (c : List B) where
  pub walking-start : (i p : List B) (old : ℕ) → Walking v c i p (trail_answer (first_path v c i p) (issuer_copy v c i p) None) (recursion_list v c i p) (spending_of old old)
  walking-start i p old = record { ties = []; tie_is = first-none (first_path v c i p); work = 0; goes_on = λ u n. subst (IsTrail v c i p) (after-none u) n; spent_is = omega arith }

  walking-step : {i p : List B} {path : List ℕ} {now : List B} {first : Option ℕ} {m : B} {ms : List B} {old spent : ℕ}
      → Walking v c i p (trail_answer path now first) (m ∷ ms) (spending_of old spent) → (o : Outcome B) → IsNDegree v c m now o → (new : ℕ) → new ≡ spent + o.work
      → Walking v c i p (trail_answer (path ++ path_part v now m o.hash) o.issuer (first_tie first o.tie (length path))) ms (spending_of old new)
  walking-step {i = i} {p = p} {path = path} {now = now} {first = first} {m = m} w o call new is =
      let s = w.spent_is in
      record {
        ties = if o.tie then w.ties ++ path ∷ [] else w.ties;
        tie_is = first-longer path (path_part v now m o.hash) (if o.tie then w.ties ++ path ∷ [] else w.ties) (first_tie first o.tie (length path)) (first-more path w.ties first o.tie w.tie_is);
        work = w.work + o.work;
        goes_on = λ u n. subst (IsTrail v c i p) (after-more w.ties w.work path o u) (w.goes_on (trail_more path o u) record { outcome = o; rest = u; called = call; goes_on = n; is = refl });
        spent_is = omega arith;
      }

  pub walking-turn : {i p : List B} {path : List ℕ} {now : List B} {first : Option ℕ} {m : B} {ms : List B} {old spent new : ℕ} {hash : List ℕ} {issuer : List B} {tie : Bool}
      → Walking v c i p (trail_answer path now first) (m ∷ ms) (spending_of old spent) → AnswersCall v c m now (answer hash issuer tie) (spending_of spent new)
      → Walking v c i p (trail_answer (path ++ path_part v now m hash) issuer (first_tie first tie (length path))) ms (spending_of old new)
  walking-turn {new = new} w a = rw (a.hash_is, a.issuer_is, a.tie_is) (walking-step w a.outcome a.call new a.spent)

  pub walking-end : {i p : List B} {path : List ℕ} {now : List B} {first : Option ℕ} {old spent : ℕ}
      → Walking v c i p (trail_answer path now first) [] (spending_of old spent) → AnswersTrail v c i p (trail_answer path now first) (spending_of old spent)
  walking-end {path = path} {now = now} {first = first} w =
      let s = w.spent_is in
      record {
        trail = trail_after w.ties w.work (trail_end now path);
        evaluated = w.goes_on (trail_end now path) refl;
        path_is = refl;
        issuer_is = refl;
        tie_is = subst (λ us. IsFirstTie path us first) (sym (append-nil w.ties)) w.tie_is;
        spent = omega arith;
      }

module _ {B : Type 0} {v : Nodes B} (laws : AreNodes v) (c : List B) where
  walking-complete : {i p : List B} {path : List ℕ} {now : List B} {first : Option ℕ} {m : B} {ms : List B} {old spent : ℕ}
      → Walking v c i p (trail_answer path now first) (m ∷ ms) (spending_of old spent) → AreListed v ms → (o : Outcome B) → IsNDegree v c m now o
      → (t : Trail B) × IsTrail v c i p t × (spent + o.work ≤ old + t.work)
  walking-complete {path = path} {now = now} {m = m} {ms = ms} w listed o call =
      let rest = nested-exists laws c o.issuer (path ++ path_part v now m o.hash) ms listed in
      let s = w.spent_is in (
        trail_after w.ties w.work (trail_more path o rest.0),
        w.goes_on (trail_more path o rest.0) record { outcome = o; rest = rest.0; called = call; goes_on = rest.1; is = refl },
        omega arith,
      )

  walking-over : {i p : List B} {path : List ℕ} {now : List B} {first : Option ℕ} {m : B} {ms : List B} {old spent : ℕ}
      → Walking v c i p (trail_answer path now first) (m ∷ ms) (spending_of old spent) → AreListed v ms → (n : ℕ) → CallOver v c m now spent n → TrailOver v c i p old n
  walking-over w listed n h = let t = walking-complete w listed h.outcome h.call in let o = h.over in let a = t.2 in record { trail = t.0; evaluated = t.1; over = omega arith }

  pub walking-fault : {i p : List B} {path : List ℕ} {now : List B} {first : Option ℕ} {m : B} {ms : List B} {old spent : ℕ} {limits limits' : Limits}
      → Walking v c i p (trail_answer path now first) (m ∷ ms) (spending_of old spent) → AreListed v ms → limits ≡ limits' → (e : CanonFault)
      → IsFaultOf limits (CallOver v c m now spent) e → IsFaultOf limits' (TrailOver v c i p old) e
  walking-fault w listed same e h = same_fault same (walking-over w listed) e h

-- ---- the arrangements of a group

module _ {B : Type 0} (v : Nodes B) (c : List B) where
  pub choosing-start : (i members : List B) (ps : List (List B)) {path : List ℕ} {issuer : List B} {sharing : ℕ} {first : Option ℕ} (old : ℕ) → AreArrangements members ps → IsBestOf {B = B} [] path issuer sharing first
      → Choosing v c i members ps (best_so_far path issuer sharing first) (spending_of old old)
  choosing-start i members ps old all best = record { done = []; trails = []; all = all; evaluated = tt; best = best; spent_is = omega arith }

  pub choosing-turn : {i members p : List B} {rest : List (List B)} {path : List ℕ} {issuer : List B} {sharing : ℕ} {first : Option ℕ} {old spent new : ℕ} {its_path : List ℕ} {its_issuer : List B} {its_first : Option ℕ}
      (path' : List ℕ) (issuer' : List B) (sharing' : ℕ) (first' : Option ℕ)
      → Choosing v c i members (p ∷ rest) (best_so_far path issuer sharing first) (spending_of old spent) → AnswersTrail v c i p (trail_answer its_path its_issuer its_first) (spending_of (spent + 1) new)
      → ((ts : List (Trail B)) (t : Trail B) → IsBestOf ts path issuer sharing first → its_path ≡ t.path → its_issuer ≡ t.issuer → IsFirstTie t.path t.ties its_first → IsBestOf (ts ++ t ∷ []) path' issuer' sharing' first')
      → Choosing v c i members rest (best_so_far path' issuer' sharing' first') (spending_of old new)
  choosing-turn {i = i} {members = members} {p = p} {rest = rest} path' issuer' sharing' first' k a takes =
      let s = k.spent_is in
      let t = a.spent in
      let w = total_work-append k.trails (a.trail ∷ []) in
      record {
        done = k.done ++ p ∷ [];
        trails = k.trails ++ a.trail ∷ [];
        all = subst (AreArrangements members) (sym (append_assoc k.done (p ∷ []) rest)) k.all;
        evaluated = AllZip-append (IsTrail v c i) k.done (p ∷ []) k.trails (a.trail ∷ []) k.evaluated (a.evaluated, tt);
        best = takes k.trails a.trail k.best a.path_is a.issuer_is a.tie_is;
        spent_is = omega arith;
      }

  pub choosing-end : {i members : List B} {path : List ℕ} {issuer : List B} {sharing : ℕ} {first : Option ℕ} {old spent : ℕ} {tie : Bool}
      → Choosing v c i members [] (best_so_far path issuer sharing first) (spending_of old spent) → tie ≡ (nat_lt 1 sharing || is_some first)
      → AnswersChoice v c i members (choice_answer path issuer tie) (spending_of old spent)
  choosing-end {i = i} {members = members} {path = path} {issuer = issuer} {sharing = sharing} {first = first} k e =
      let all : AreArrangements members k.done = subst (AreArrangements members) (append-nil k.done) k.all in
      let some = AllZip-from_left (IsTrail v c i) k.done k.trails members k.evaluated (arrangements-some all) in
      let a : IsAmong k.trails path issuer = ⊎_elim (λ none. absurd (Contains-nil some.0 (subst (λ ts. Contains ts some.0) none some.1))) (λ h. h) k.best.among in
      record {
        choice = choice_of a.best k.trails;
        is_choice = record {
          arrangements = k.done;
          trails = k.trails;
          best = a.best;
          all = all;
          evaluated = k.evaluated;
          among = a.contains;
          least = subst (λ x. All (λ (t : Trail B). is_upto x t.path ≡ true) k.trails) a.path_is k.best.least;
          is = refl;
        };
        path_is = a.path_is;
        issuer_is = a.issuer_is;
        tie_is = e ∙ best-tie k.trails path issuer sharing first k.best ∙ ap (λ x. meets_tie x k.trails) a.path_is;
        spent = k.spent_is;
      }

module _ {B : Type 0} {v : Nodes B} (laws : AreNodes v) (c : List B) where
  -- the members of an arrangement are those of the group
  pub listed-arrangement : (members p : List B) (done rest : List (List B)) → AreArrangements members (done ++ p ∷ rest) → AreListed v members → AreListed v p
  listed-arrangement members p done rest all listed m k = listed m (arrangement-member all p m (Contains-append_right done (p ∷ rest) p (Contains-here p rest)) k)

  choosing-complete : {i members p : List B} {rest : List (List B)} {path : List ℕ} {issuer : List B} {sharing : ℕ} {first : Option ℕ} {old spent : ℕ}
      → Choosing v c i members (p ∷ rest) (best_so_far path issuer sharing first) (spending_of old spent) → AreListed v members → (t : Trail B) → IsTrail v c i p t
      → (x : Choice B) × IsGroupChoice v c i members x × (spent + 1 + t.work ≤ old + x.work)
  choosing-complete {i = i} {members = members} {p = p} {rest = rest} k listed t evaluated =
      let us = trails-exist laws c i rest (λ q e m f. listed m (arrangement-member k.all q m (Contains-append_right k.done (p ∷ rest) q (Contains-there p rest q e)) f)) in
      let ts = k.trails ++ (t ∷ us.0) in
      let zip : AllZip (IsTrail v c i) (k.done ++ p ∷ rest) ts = AllZip-append (IsTrail v c i) k.done (p ∷ rest) k.trails (t ∷ us.0) k.evaluated (evaluated, us.1) in
      let x = IsChoice-from_trails (IsTrail v c i) members (k.done ++ p ∷ rest) ts k.all zip in
      let s = k.spent_is in
      let w = total_work-append k.trails (t ∷ us.0) in (
        choice_of x.0 ts,
        x.1,
        omega arith,
      )

  choosing-over : {i members p : List B} {rest : List (List B)} {path : List ℕ} {issuer : List B} {sharing : ℕ} {first : Option ℕ} {old spent : ℕ}
      → Choosing v c i members (p ∷ rest) (best_so_far path issuer sharing first) (spending_of old spent) → AreListed v members → (n : ℕ) → TrailOver v c i p (spent + 1) n → ChoiceOver v c i members old n
  choosing-over k listed n h = let x = choosing-complete k listed h.trail h.evaluated in let o = h.over in let a = x.2 in record { choice = x.0; is_choice = x.1; over = omega arith }

  pub choosing-fault : {i members p : List B} {rest : List (List B)} {path : List ℕ} {issuer : List B} {sharing : ℕ} {first : Option ℕ} {old spent : ℕ} {limits limits' : Limits}
      → Choosing v c i members (p ∷ rest) (best_so_far path issuer sharing first) (spending_of old spent) → AreListed v members → limits ≡ limits' → (e : CanonFault)
      → IsFaultOf limits (TrailOver v c i p (spent + 1)) e → IsFaultOf limits' (ChoiceOver v c i members old) e
  choosing-fault k listed same e h = same_fault same (choosing-over k listed) e h

  -- where no more arrangement may be begun
  pub choosing-full : {i members p : List B} {rest : List (List B)} {path : List ℕ} {issuer : List B} {sharing : ℕ} {first : Option ℕ} {old spent : ℕ}
      → Choosing v c i members (p ∷ rest) (best_so_far path issuer sharing first) (spending_of old spent) → AreListed v members → (n : ℕ) → n ≤ spent → ChoiceOver v c i members old n
  choosing-full {i = i} {members = members} {p = p} {rest = rest} k listed n full =
      let t = evaluates-exists laws c i p (listed-arrangement members p k.done rest k.all listed) in
      choosing-over k listed n record { trail = t.0; evaluated = t.1; over = omega arith }

-- ---- the groups of a call

module _ {B : Type 0} (v : Nodes B) (c : List B) where
  pub grouping-start : (n : B) (i : List B) (old : ℕ) → Grouping v c n i (data_to_hash [] i false) (related_groups v c i n) (spending_of old old)
  grouping-start n i old =
      record { work = 0; goes_on = λ o g. subst (InGroups v (IsNDegree v c) c [] i (related_groups v c i n)) (joining-none o) g; spent_is = omega arith }

  grouping-step : {n : B} {i : List B} {text : List ℕ} {now : List B} {tie : Bool} {g : Group B} {gs : List (Group B)} {old spent : ℕ}
      → Grouping v c n i (data_to_hash text now tie) (g ∷ gs) (spending_of old spent) → (x : Choice B) → IsGroupChoice v c now g.members x → (new : ℕ) → new ≡ spent + x.work
      → Grouping v c n i (data_to_hash (text ++ (g.hash ++ x.path)) x.issuer (tie || x.tie)) gs (spending_of old new)
  grouping-step {n = n} {i = i} {tie = tie} k x is_choice new is =
      let s = k.spent_is in
      record {
        work = k.work + x.work;
        goes_on = λ o r. subst (InGroups v (IsNDegree v c) c [] i (related_groups v c i n)) (joining-more tie k.work x o) (k.goes_on (outcome_more x o) record { choice = x; rest = o; is_choice = is_choice; goes_on = r; is = refl });
        spent_is = omega arith;
      }

  pub grouping-turn : {n : B} {i : List B} {text : List ℕ} {now : List B} {tie : Bool} {g : Group B} {gs : List (Group B)} {old spent new : ℕ} {path : List ℕ} {issuer : List B} {tied : Bool}
      → Grouping v c n i (data_to_hash text now tie) (g ∷ gs) (spending_of old spent) → AnswersChoice v c now g.members (choice_answer path issuer tied) (spending_of spent new)
      → Grouping v c n i (data_to_hash (text ++ (g.hash ++ path)) issuer (tie || tied)) gs (spending_of old new)
  grouping-turn {new = new} k a = rw (a.path_is, a.issuer_is, a.tie_is) (grouping-step k a.choice a.is_choice new a.spent)

  pub grouping-end : {n : B} {i : List B} {text : List ℕ} {now : List B} {tie : Bool} {old spent : ℕ}
      → Grouping v c n i (data_to_hash text now tie) [] (spending_of old spent) → AnswersCall v c n i (answer (v.digest text) now tie) (spending_of old spent)
  grouping-end {n = n} {i = i} {text = text} {now = now} {tie = tie} k =
      let s = k.spent_is in
      let outcome = outcome_after tie k.work (outcome_end v text now) in
      record {
        outcome = outcome;
        call = call-fold v c n i outcome record { groups = k.goes_on (outcome_end v text now) refl };
        hash_is = refl;
        issuer_is = refl;
        tie_is = sym (or-false tie);
        spent = omega arith;
      }

module _ {B : Type 0} {v : Nodes B} (laws : AreNodes v) (c : List B) where
  grouping-complete : {n : B} {i : List B} {text : List ℕ} {now : List B} {tie : Bool} {g : Group B} {gs : List (Group B)} {old spent : ℕ}
      → Grouping v c n i (data_to_hash text now tie) (g ∷ gs) (spending_of old spent) → AreGroupsListed v gs → (x : Choice B) → IsGroupChoice v c now g.members x
      → (o : Outcome B) × IsNDegree v c n i o × (spent + x.work ≤ old + o.work)
  grouping-complete {n = n} {i = i} {text = text} {tie = tie} {g = g} {gs = gs} k listed x is_choice =
      let rest = groups-exist laws c (text ++ (g.hash ++ x.path)) x.issuer gs listed in
      let outcome = outcome_after tie k.work (outcome_more x rest.0) in
      let s = k.spent_is in (
        outcome,
        call-fold v c n i outcome record { groups = k.goes_on (outcome_more x rest.0) record { choice = x; rest = rest.0; is_choice = is_choice; goes_on = rest.1; is = refl } },
        omega arith,
      )

  grouping-over : {n : B} {i : List B} {text : List ℕ} {now : List B} {tie : Bool} {g : Group B} {gs : List (Group B)} {old spent : ℕ}
      → Grouping v c n i (data_to_hash text now tie) (g ∷ gs) (spending_of old spent) → AreGroupsListed v gs → (k : ℕ) → ChoiceOver v c now g.members spent k → CallOver v c n i old k
  grouping-over w listed k h = let o = grouping-complete w listed h.choice h.is_choice in let e = h.over in let a = o.2 in record { outcome = o.0; call = o.1; over = omega arith }

  pub grouping-fault : {n : B} {i : List B} {text : List ℕ} {now : List B} {tie : Bool} {g : Group B} {gs : List (Group B)} {old spent : ℕ} {limits limits' : Limits}
      → Grouping v c n i (data_to_hash text now tie) (g ∷ gs) (spending_of old spent) → AreGroupsListed v gs → limits ≡ limits' → (e : CanonFault)
      → IsFaultOf limits (ChoiceOver v c now g.members spent) e → IsFaultOf limits' (CallOver v c n i old) e
  grouping-fault w listed same e h = same_fault same (grouping-over w listed) e h

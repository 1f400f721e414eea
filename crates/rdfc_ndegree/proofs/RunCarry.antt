-- A run is carried along a map that is one to one on the nodes that are in play.
use Rattle.std.proofs.Common.{◌≡◌, ℕ, ◌+◌, List, [], ◌∷◌, ◌++◌, map, refl, sym, ap, ap₂, ◌∙◌, subst, ⊎_elim, arith, Bool, true, false, not, ◌||◌, bytes_eq}
use Rattle.std.specs.Cmp.Lexicographic.{nat_list_eq_equiv}
use Rattle.std.specs.List.{AllByRecursion, AllZip, list_any}
use Rattle.std.specs.List.Sorted.{IsPermutation}
use Rattle.std.proofs.lemmas.List.{map-append}
use Rattle.std.proofs.lemmas.List.Elements.{All-map}
use Rattle.std.proofs.lemmas.List.Sorted.{IsPermutation-refl, IsPermutation-sym, IsPermutation-trans, IsPermutation-cons, IsPermutation-middle, IsPermutation-map, Contains-permutation, length_permutation, list_any-IsPermutation}
use Rattle.base_types.specs.Order.{is_upto}
use Rattle.base_types.proofs.Lists.{Contains-here, Contains-cons_cases, Contains-nil, map-map}
use Rattle.rdfc_ndegree.specs.Nodes.{Nodes}
use Rattle.rdfc_ndegree.specs.Issuers.{has, issue}
use Rattle.rdfc_ndegree.specs.Groups.{NodeHash, Group}
use Rattle.rdfc_ndegree.specs.NDegree.{Outcome, IsNDegree}
use Rattle.rdfc_ndegree.specs.Run.{with_first_hash, first_groups, if_alone, alone, lacking, take_issuer, take_issuers, InHashOrder, results_tie, work_of, RunOutcome, run_more, Rounds, IsRun, MeetsTie, WorkOver, IsWithinWork, IsCanonicalIssuer}
use Rattle.rdfc_ndegree.proofs.Permutations.{through_permutation, IsPermutation-filter, AllZip-permutation, Each-permutation, Each-append, Each-filter, Each-map, map-agree, filter-map, list_any-map_each}
use Rattle.rdfc_ndegree.proofs.Carry.{hashed_f, outcome_f, Carries, SameGroup, Arrives, grouped-carried, has-carried, issue-carried, issue-inside, IsNDegree-carried, IsNDegree-inside}

abbrev pub result_f : {A B : Type 0} → (A → B) → RunOutcome A → RunOutcome B
result_f f r = record { issuer = map f r.issuer; tie = r.tie; work = r.work }

-- ---- what the outcomes of a round give in any order

or_exchanged : (a b x l m r : Bool) → a || (x || l) || (b || m || r) ≡ b || (x || m) || (a || l || r)
or_exchanged true true x l m r = refl
or_exchanged true false true l m r = refl
or_exchanged true false false l true r = refl
or_exchanged true false false l false r = refl
or_exchanged false true true l m r = refl
or_exchanged false true false true m r = refl
or_exchanged false true false false m r = refl
or_exchanged false false true l m r = refl
or_exchanged false false false true true r = refl
or_exchanged false false false true false r = refl
or_exchanged false false false false m r = refl

module _ {B : Type 0} where
  record Counted (os ps : List (Outcome B)) : Type 0 where
    pub order : IsPermutation os ps
    pub tie : results_tie os ≡ results_tie ps
    pub work : work_of os ≡ work_of ps

  counted_under : (o : Outcome B) (os ps : List (Outcome B)) → Counted os ps → Counted (o ∷ os) (o ∷ ps)
  counted_under o os ps r = record {
    order = IsPermutation-cons o os ps r.order;
    tie = ap₂ (λ b c. o.tie || b || c) (list_any-IsPermutation (λ p. bytes_eq p.hash o.hash) os ps r.order) r.tie;
    work = ap (λ n. o.work + n) r.work;
  }

  counted_exchange : (o p : Outcome B) (os : List (Outcome B)) → Counted (o ∷ (p ∷ os)) (p ∷ (o ∷ os))
  counted_exchange o p os = record {
    order = IsPermutation-middle (o ∷ []) p os;
    tie =
        ap (λ b. o.tie || (b || list_any (λ q. bytes_eq q.hash o.hash) os) || results_tie (p ∷ os)) (nat_list_eq_equiv.symm p.hash o.hash)
        ∙ or_exchanged o.tie p.tie (bytes_eq o.hash p.hash) (list_any (λ q. bytes_eq q.hash o.hash) os) (list_any (λ q. bytes_eq q.hash p.hash) os) (results_tie os);
    work = omega arith;
  }

  counted : (os ps : List (Outcome B)) → IsPermutation os ps → Counted os ps
  counted =
      through_permutation Counted (λ os. record { order = IsPermutation-refl os; tie = refl; work = refl })
      (λ os ps qs a b. record { order = IsPermutation-trans os ps qs a.order b.order; tie = a.tie ∙ b.tie; work = a.work ∙ b.work })
      counted_under counted_exchange

  pub results_tie-permuted : (os ps : List (Outcome B)) → IsPermutation os ps → results_tie os ≡ results_tie ps
  results_tie-permuted os ps moved = (counted os ps moved).tie

module _ {A B : Type 0} (f : A → B) where
  tie_kept : (os : List (Outcome A)) → results_tie (map (outcome_f f) os) ≡ results_tie os
  tie_kept [] = refl
  tie_kept (o ∷ os) = ap₂ (λ b c. o.tie || b || c) (list_any-map_each (outcome_f f) (λ p. bytes_eq p.hash o.hash) os) (tie_kept os)

  work_kept : (os : List (Outcome A)) → work_of (map (outcome_f f) os) ≡ work_of os
  work_kept [] = refl
  work_kept (o ∷ os) = ap (λ n. o.work + n) (work_kept os)

  more_kept : (os : List (Outcome A)) (ps : List (Outcome B)) (r : RunOutcome A) → IsPermutation (map (outcome_f f) os) ps → result_f f (run_more os r) ≡ run_more ps (result_f f r)
  more_kept os ps r s =
      let same = counted (map (outcome_f f) os) ps s in
      let tie : results_tie os ≡ results_tie ps = sym (tie_kept os) ∙ same.tie in
      let work : work_of os ≡ work_of ps = sym (work_kept os) ∙ same.work in
      λ j. record { issuer = map f r.issuer; tie = tie j || r.tie; work = work j + r.work }

  hash_order_kept : (os : List (Outcome A)) → InHashOrder os → InHashOrder (map (outcome_f f) os)
  hash_order_kept [] h = tt
  hash_order_kept (o ∷ os) h = (All-map (λ (p : Outcome B). is_upto o.hash p.hash ≡ true) (outcome_f f) os h.0, hash_order_kept os h.1)

  -- ---- the nodes with a hash of their own

  if_alone-carried : (ms : List A) (ns : List B) → IsPermutation (map f ms) ns → if_alone ns ≡ map f (if_alone ms)
  if_alone-carried [] [] s = refl
  if_alone-carried [] (n ∷ ns) s = let e = length_permutation [] (n ∷ ns) s in absurd (omega arith)
  if_alone-carried (m ∷ []) [] s = let e = length_permutation (f m ∷ []) [] s in absurd (omega arith)
  if_alone-carried (m ∷ []) (n ∷ []) s =
      ap (λ z. z ∷ []) (⊎_elim (λ e. e) (λ c. absurd (Contains-nil (f m) c)) (Contains-cons_cases n [] (f m) (Contains-permutation (f m ∷ []) (n ∷ []) (f m) s (Contains-here (f m) []))))
  if_alone-carried (m ∷ []) (n ∷ (k ∷ ns)) s = let e = length_permutation (f m ∷ []) (n ∷ (k ∷ ns)) s in absurd (omega arith)
  if_alone-carried (m ∷ (l ∷ ms)) [] s = let e = length_permutation (f m ∷ (f l ∷ map f ms)) [] s in absurd (omega arith)
  if_alone-carried (m ∷ (l ∷ ms)) (n ∷ []) s = let e = length_permutation (f m ∷ (f l ∷ map f ms)) (n ∷ []) s in absurd (omega arith)
  if_alone-carried (m ∷ (l ∷ ms)) (n ∷ (k ∷ ns)) s = refl

  module _ (Dom : A → Type 0) where
    alone-carried : (gs : List (Group A)) (hs : List (Group B)) → AllZip (SameGroup f Dom) gs hs → alone hs ≡ map f (alone gs)
    alone-carried [] [] z = refl
    alone-carried [] (h ∷ hs) z = absurd z
    alone-carried (g ∷ gs) [] z = absurd z
    alone-carried (g ∷ gs) (h ∷ hs) z =
        ap₂ (λ a b. a ++ b) (if_alone-carried g.members h.members z.0.members) (alone-carried gs hs z.1) ∙ sym (map-append f (if_alone g.members) (alone gs))

    if_alone-inside : (ms : List A) → AllByRecursion Dom ms → AllByRecursion Dom (if_alone ms)
    if_alone-inside [] h = tt
    if_alone-inside (m ∷ []) h = h
    if_alone-inside (m ∷ (l ∷ ms)) h = tt

    alone-inside : (gs : List (Group A)) (hs : List (Group B)) → AllZip (SameGroup f Dom) gs hs → AllByRecursion Dom (alone gs)
    alone-inside [] hs z = tt
    alone-inside (g ∷ gs) [] z = absurd z
    alone-inside (g ∷ gs) (h ∷ hs) z = Each-append Dom (if_alone g.members) (alone gs) (if_alone-inside g.members z.0.inside) (alone-inside gs hs z.1)

-- ---- rounds

module _ {A B : Type 0} (f : A → B) (Dom : A → Type 0) (v : Nodes A) (w : Nodes B) (s : Carries f Dom v w) where
  lacking-carried : (c ns : List A) → AllByRecursion Dom c → AllByRecursion Dom ns → lacking w (map f c) (map f ns) ≡ map f (lacking v c ns)
  lacking-carried c ns hc hn = filter-map Dom f (λ n. not (has v c n)) (λ n. not (has w (map f c) n)) (λ n d. ap not (has-carried f Dom v w s c n hc d)) ns hn

  take_issuer-carried : (c ns : List A) → AllByRecursion Dom c → AllByRecursion Dom ns → take_issuer w (map f c) (map f ns) ≡ map f (take_issuer v c ns)
  take_issuer-carried c [] hc hn = refl
  take_issuer-carried c (n ∷ ns) hc hn =
      ap (λ l. take_issuer w l (map f ns)) (issue-carried f Dom v w s c n hc hn.0)
      ∙ take_issuer-carried (issue v c n) ns (issue-inside f Dom v w s c n hc hn.0) hn.1

  take_issuer-inside : (c ns : List A) → AllByRecursion Dom c → AllByRecursion Dom ns → AllByRecursion Dom (take_issuer v c ns)
  take_issuer-inside c [] hc hn = hc
  take_issuer-inside c (n ∷ ns) hc hn = take_issuer-inside (issue v c n) ns (issue-inside f Dom v w s c n hc hn.0) hn.1

  take_issuers-carried : (c : List A) (os : List (Outcome A)) → AllByRecursion Dom c → AllByRecursion (λ (o : Outcome A). AllByRecursion Dom o.issuer) os → take_issuers w (map f c) (map (outcome_f f) os) ≡ map f (take_issuers v c os)
  take_issuers-carried c [] hc ho = refl
  take_issuers-carried c (o ∷ os) hc ho =
      ap (λ l. take_issuers w l (map (outcome_f f) os)) (take_issuer-carried c o.issuer hc ho.0)
      ∙ take_issuers-carried (take_issuer v c o.issuer) os (take_issuer-inside c o.issuer hc ho.0) ho.1

  take_issuers-inside : (c : List A) (os : List (Outcome A)) → AllByRecursion Dom c → AllByRecursion (λ (o : Outcome A). AllByRecursion Dom o.issuer) os → AllByRecursion Dom (take_issuers v c os)
  take_issuers-inside c [] hc ho = hc
  take_issuers-inside c (o ∷ os) hc ho = take_issuers-inside (take_issuer v c o.issuer) os (take_issuer-inside c o.issuer hc ho.0) ho.1

  record HashedCarried (c ns : List A) (os : List (Outcome A)) : Type 0 where
    pub inside : AllByRecursion (λ (o : Outcome A). AllByRecursion Dom o.issuer) os
    pub zipped : AllZip (λ n o. IsNDegree w (map f c) n (n ∷ []) o) (map f ns) (map (outcome_f f) os)

  hashed : (c ns : List A) (os : List (Outcome A)) → AllByRecursion Dom c → AllByRecursion Dom ns → AllZip (λ n o. IsNDegree v c n (n ∷ []) o) ns os → HashedCarried c ns os
  hashed c [] [] hc hn z = record { inside = tt; zipped = tt }
  hashed c [] (o ∷ os) hc hn z = absurd z
  hashed c (n ∷ ns) [] hc hn z = absurd z
  hashed c (n ∷ ns) (o ∷ os) hc hn z =
      let more = hashed c ns os hc hn.1 z.1 in
      record {
        inside = (IsNDegree-inside f Dom v w s c n (n ∷ []) o hc (hn.0, tt) hn.0 z.0, more.inside);
        zipped = (IsNDegree-carried f Dom v w s c n (n ∷ []) o hc (hn.0, tt) hn.0 z.0, more.zipped);
      }

  pub Rounds-carried : (c : List A) (gs : List (Group A)) (hs : List (Group B)) (r : RunOutcome A) → AllByRecursion Dom c → AllZip (SameGroup f Dom) gs hs → Rounds v c gs r → Arrives Dom r.issuer (Rounds w (map f c) hs (result_f f r))
  Rounds-carried c [] [] r hc z d = record { in_domain = subst (λ (u : RunOutcome A). AllByRecursion Dom u.issuer) (sym d) hc; is_there = ap (result_f f) d }
  Rounds-carried c [] (h ∷ hs) r hc z d = absurd z
  Rounds-carried c (g ∷ gs) [] r hc z d = absurd z
  Rounds-carried c (g ∷ gs) (h ∷ hs) r hc z d =
      let left : List A = lacking v c g.members in
      let each = hashed c left d.outcomes hc (Each-filter Dom (λ n. not (has v c n)) g.members z.0.inside) d.hashed in
      let kept : IsPermutation (lacking w (map f c) (map f g.members)) (lacking w (map f c) h.members) = IsPermutation-filter (λ n. not (has w (map f c) n)) (map f g.members) h.members z.0.members in
      let moved : IsPermutation (map f left) (lacking w (map f c) h.members) = subst (λ l. IsPermutation l (lacking w (map f c) h.members)) (lacking-carried c g.members hc z.0.inside) kept in
      let along = AllZip-permutation (λ n o. IsNDegree w (map f c) n (n ∷ []) o) (map f left) (lacking w (map f c) h.members) moved (map (outcome_f f) d.outcomes) each.zipped in
      let inside : AllByRecursion (λ (o : Outcome A). AllByRecursion Dom o.issuer) d.sorted = Each-permutation (λ (o : Outcome A). AllByRecursion Dom o.issuer) d.outcomes d.sorted d.order each.inside in
      let more = Rounds-carried (take_issuers v c d.sorted) gs hs d.rest (take_issuers-inside c d.sorted hc inside) z.1 d.goes_on in
      record {
        in_domain = subst (λ (u : RunOutcome A). AllByRecursion Dom u.issuer) (sym d.is) more.in_domain;
        is_there = record {
          outcomes = along.others;
          sorted = map (outcome_f f) d.sorted;
          rest = result_f f d.rest;
          hashed = along.zipped;
          order = IsPermutation-trans along.others (map (outcome_f f) d.outcomes) (map (outcome_f f) d.sorted) (IsPermutation-sym (map (outcome_f f) d.outcomes) along.others along.order) (IsPermutation-map (outcome_f f) d.outcomes d.sorted d.order);
          in_order = hash_order_kept f d.sorted d.in_order;
          goes_on = subst (λ l. Rounds w l hs (result_f f d.rest)) (sym (take_issuers-carried c d.sorted hc inside)) more.is_there;
          is = ap (result_f f) d.is ∙ more_kept f d.outcomes along.others d.rest along.order;
        };
      }

  -- ---- runs

  module _ (all : IsPermutation (map f v.all) w.all) (inside : AllByRecursion Dom v.all) where
    first_carried : AllZip (SameGroup f Dom) (first_groups v) (first_groups w)
    first_carried =
        let turned : map (with_first_hash w) (map f v.all) ≡ map (hashed_f f) (map (with_first_hash v) v.all) =
        map-map (with_first_hash w) f v.all
        ∙ map-agree Dom (λ n. with_first_hash w (f n)) (λ n. hashed_f f (with_first_hash v n)) (λ n d. let e = s.first n d in λ j. record { hash = e j; node = f n }) v.all inside
        ∙ sym (map-map (hashed_f f) (with_first_hash v) v.all) in
        grouped-carried f Dom (map (with_first_hash v) v.all) (map (with_first_hash w) w.all)
        (Each-map (λ (h : NodeHash A). Dom h.node) (with_first_hash v) v.all inside)
        (subst (λ l. IsPermutation l (map (with_first_hash w) w.all)) turned (IsPermutation-map (with_first_hash w) (map f v.all) w.all all))

    run_arrives : (r : RunOutcome A) → IsRun v r → Arrives Dom r.issuer (IsRun w (result_f f r))
    run_arrives r d =
        let there = Rounds-carried (alone (first_groups v)) (first_groups v) (first_groups w) r (alone-inside f Dom (first_groups v) (first_groups w) first_carried) first_carried d.rounds in
        record {
          in_domain = there.in_domain;
          is_there = record { rounds = subst (λ l. Rounds w l (first_groups w) (result_f f r)) (sym (alone-carried f Dom (first_groups v) (first_groups w) first_carried)) there.is_there };
        }

    -- A run is carried.
    pub IsRun-carried : (r : RunOutcome A) → IsRun v r → IsRun w (result_f f r)
    IsRun-carried r d = (run_arrives r d).is_there

    -- and its issuer is within Dom
    pub IsRun-inside : (r : RunOutcome A) → IsRun v r → AllByRecursion Dom r.issuer
    IsRun-inside r d = (run_arrives r d).in_domain

    pub MeetsTie-carried : MeetsTie v → MeetsTie w
    MeetsTie-carried t = record { run = result_f f t.run; is_run = IsRun-carried t.run t.is_run; tie = t.tie }

    pub WorkOver-carried : (n : ℕ) → WorkOver v n → WorkOver w n
    WorkOver-carried n t = record { run = result_f f t.run; is_run = IsRun-carried t.run t.is_run; over = t.over }

    -- a limit that every run there keeps is kept here
    pub IsWithinWork-carried : (n : ℕ) → IsWithinWork w n → IsWithinWork v n
    IsWithinWork-carried n h = λ r d. h (result_f f r) (IsRun-carried r d)

    pub HasLabels-carried : (c : List A) → IsCanonicalIssuer v c → IsCanonicalIssuer w (map f c)
    HasLabels-carried c t = record { run = result_f f t.run; is_run = IsRun-carried t.run t.is_run; no_tie = t.no_tie; is = ap (map f) t.is }

    pub HasLabels-inside : (c : List A) → IsCanonicalIssuer v c → AllByRecursion Dom c
    HasLabels-inside c t = subst (AllByRecursion Dom) t.is (IsRun-inside t.run t.is_run)

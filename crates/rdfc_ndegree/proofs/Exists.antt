-- Every call on a node of the dataset gives some outcome, and so does every run; and what has been begun can be ended.
use Rattle.std.proofs.Common.{◌≡◌, ℕ, zero, suc, ◌+◌, ◌<◌, ◌≤◌, List, [], ◌∷◌, ◌++◌, map, length, All, Contains, Bool, true, false, not, ◌||◌, cond, refl, sym, ap, ◌∙◌, subst, inl, inr, ⊎_elim, ◌⊎◌, arith}
use Rattle.std.specs.Prelude.{IsPermutation}
use Rattle.std.specs.List.{AllZip}
use Rattle.std.proofs.lemmas.Bool.{false≢true, cond_both, or_parts}
use Rattle.std.proofs.lemmas.List.Elements.{All-contains, All-cons, All-nil, All-weaker}
use Rattle.std.proofs.lemmas.List.Sorted.{IsPermutation-refl, IsPermutation-sym, IsPermutation-trans, IsPermutation-cons, IsPermutation-middle, All-permutation}
use Rattle.base_types.specs.Order.{is_upto}
use Rattle.base_types.proofs.Lists.{Contains-here, Contains-there, Contains-cons_cases, Contains-nil, Contains-from_map}
use Rattle.base_types.proofs.Orders.{is_upto-refl, is_upto-back, is_upto-transitive}
use Rattle.rdfc_ndegree.specs.Nodes.{Nodes, Occurrence}
use Rattle.rdfc_ndegree.specs.Internal.Nodes.{AreNodes}
use Rattle.rdfc_ndegree.specs.Issuers.{has, issue}
use Rattle.rdfc_ndegree.specs.Groups.{NodeHash, Group, with_related_hash, related_groups}
use Rattle.rdfc_ndegree.specs.NDegree.{Outcome, Trail, Choice, Calls, issue_temporary, issuer_copy, first_path, recursion_list, path_part, trail_end, trail_more, Nested, Evaluates, AreArrangements, IsChoice, choice_of, InGroups, outcome_end, outcome_more, IsCall, IsNDegreeWithin, IsNDegree}
use Rattle.rdfc_ndegree.specs.Run.{with_first_hash, first_groups, alone, lacking, take_issuers, InHashOrder, RunOutcome, run_end, run_more, Rounds, IsRun}
use Rattle.rdfc_ndegree.proofs.Branches.{branches}
pub use Rattle.rdfc_ndegree.proofs.Lack.{lack, Grows, AreListed}
use Rattle.rdfc_ndegree.proofs.Membership.{Contains-from_filter, AllZip-from_left, has-issue, grouped-member}
use Rattle.rdfc_ndegree.proofs.Branching.{branches-are, arrangements-some, arrangement-member}
use Rattle.rdfc_ndegree.proofs.Grow.{CallsGrow, Grows-has, Grows-named, Grows-named_all, IsChoice-grows_if, IsNDegreeWithin-grows, IsNDegree-grows}

-- ---- how many are not named yet

part : Bool → Bool → ℕ
part a b = cond (a || b) 0 1

part-less : (a b d : Bool) → (b ≡ true → d ≡ true) → part a d ≤ part a b
unfolding part
part-less true b d h = omega arith
part-less false true d h = rw (h refl) (omega arith)
part-less false false true h = omega arith
part-less false false false h = omega arith

part-drop : (a b d : Bool) → (a || b) ≡ false → d ≡ true → part a d < part a b
unfolding part
part-drop true b d n e = absurd (false≢true (sym n))
part-drop false true d n e = absurd (false≢true (sym n))
part-drop false false true n e = omega arith
part-drop false false false n e = absurd (false≢true e)

module _ {B : Type 0} (v : Nodes B) where
  lack-cons : (c i : List B) (u : B) (us : List B) → lack v c i (u ∷ us) ≡ part (has v c u) (has v i u) + lack v c i us
  unfolding part
  lack-cons c i u us = refl

  pub lack-grows : (c i j us : List B) → Grows i j → lack v c j us ≤ lack v c i us
  lack-grows c i j [] g = omega arith
  lack-grows c i j (u ∷ us) g =
      let a = lack-cons c i u us in
      let b = lack-cons c j u us in
      let first : part (has v c u) (has v j u) ≤ part (has v c u) (has v i u) = part-less (has v c u) (has v i u) (has v j u) (Grows-has v i j g u) in
      let rest : lack v c j us ≤ lack v c i us = lack-grows c i j us g in
      omega arith

  pub lack-less : (c i j us : List B) (m : B) → Grows i j → Contains us m → (has v c m || has v i m) ≡ false → has v j m ≡ true → lack v c j us < lack v c i us
  lack-less c i j [] m g k n e = absurd (Contains-nil m k)
  lack-less c i j (u ∷ us) m g k n e = ⊎_elim here (λ l. there (lack-less c i j us m g l n e)) (Contains-cons_cases u us m k)
    where
      here : u ≡ m → lack v c j (u ∷ us) < lack v c i (u ∷ us)
      here s =
          let a = lack-cons c i u us in
          let b = lack-cons c j u us in
          let first : part (has v c u) (has v j u) < part (has v c u) (has v i u) =
          subst (λ z. part (has v c z) (has v j z) < part (has v c z) (has v i z)) (sym s) (part-drop (has v c m) (has v i m) (has v j m) n e) in
          let rest : lack v c j us ≤ lack v c i us = lack-grows c i j us g in
          omega arith

      there : lack v c j us < lack v c i us → lack v c j (u ∷ us) < lack v c i (u ∷ us)
      there rest =
          let a = lack-cons c i u us in
          let b = lack-cons c j u us in
          let first : part (has v c u) (has v j u) ≤ part (has v c u) (has v i u) = part-less (has v c u) (has v i u) (has v j u) (Grows-has v i j g u) in
          omega arith

  -- ---- what an arrangement names

  pub newly_named-member : (c i p : List B) (m : B) → Contains (recursion_list v c i p) m → Contains p m
  newly_named-member c i [] m k = k
  newly_named-member c i (x ∷ xs) m k = go (has v c x || has v i x) k (newly_named-member c i xs m) (newly_named-member c (issue_temporary v c i x) xs m)
    where
      go : (b : Bool) → Contains (cond b (recursion_list v c i xs) (x ∷ recursion_list v c (issue_temporary v c i x) xs)) m → (Contains (recursion_list v c i xs) m → Contains xs m) → (Contains (recursion_list v c (issue_temporary v c i x) xs) m → Contains xs m) → Contains (x ∷ xs) m
      go true l f g = Contains-there x xs m (f l)
      go false l f g = ⊎_elim (λ e. subst (Contains (x ∷ xs)) e (Contains-here x xs)) (λ n. Contains-there x xs m (g n)) (Contains-cons_cases x (recursion_list v c (issue_temporary v c i x) xs) m l)

  -- a member that has an identifier leaves the issuer as it is
  named-known : (c i : List B) (m : B) → (has v c m || has v i m) ≡ true → issue_temporary v c i m ≡ i
  named-known c i m e = go (has v c m) (has v i m) e
    where
      go : (a b : Bool) → (a || b) ≡ true → cond a i (cond b i (i ++ m ∷ [])) ≡ i
      go true b k = refl
      go false true k = refl
      go false false k = absurd (false≢true k)

  pub named-has : AreNodes v → (c i : List B) (m : B) → has v c m ≡ false → has v (issue_temporary v c i m) m ≡ true
  named-has laws c i m e = subst (λ b. has v (cond b i (issue v i m)) m ≡ true) (sym e) (has-issue v laws i m)

  walks : AreNodes v → (c i p us : List B) → ((m : B) → Contains p m → Contains us m) → (recursion_list v c i p ≡ []) ⊎ (lack v c (issuer_copy v c i p) us < lack v c i us)
  walks laws c i [] us h = inl refl
  walks laws c i (m ∷ ms) us h = go (has v c m || has v i m) refl (walks laws c i ms us (λ x k. h x (Contains-there m ms x k)))
    where
      go : (b : Bool) → (has v c m || has v i m) ≡ b → (recursion_list v c i ms ≡ []) ⊎ (lack v c (issuer_copy v c i ms) us < lack v c i us) → (cond b (recursion_list v c i ms) (m ∷ recursion_list v c (issue_temporary v c i m) ms) ≡ []) ⊎ (lack v c (issuer_copy v c (issue_temporary v c i m) ms) us < lack v c i us)
      go true e rest = ⊎_elim (λ n. inl n) (λ l. inr (subst (λ j. lack v c (issuer_copy v c j ms) us < lack v c i us) (sym (named-known c i m e)) l)) rest
      go false e rest =
          let less : lack v c (issue_temporary v c i m) us < lack v c i us =
          lack-less c i (issue_temporary v c i m) us m (Grows-named v c i m) (h m (Contains-here m ms)) e (named-has laws c i m (or_parts (has v c m) (has v i m) e).0) in
          let more : lack v c (issuer_copy v c (issue_temporary v c i m) ms) us ≤ lack v c (issue_temporary v c i m) us = lack-grows c (issue_temporary v c i m) (issuer_copy v c (issue_temporary v c i m) ms) us (Grows-named_all v c (issue_temporary v c i m) ms) in
          inr (omega arith)

  pub walk-less : AreNodes v → (c i p : List B) → AreListed v p → (recursion_list v c i p ≡ []) ⊎ (lack v c (issuer_copy v c i p) v.all < lack v c i v.all)
  walk-less laws c i p h = walks laws c i p v.all h

  part-one : (a b : Bool) → part a b ≤ 1
  unfolding part
  part-one true b = omega arith
  part-one false true = omega arith
  part-one false false = omega arith

  lack-length : (c i us : List B) → lack v c i us ≤ length us
  lack-length c i [] = omega arith
  lack-length c i (u ∷ us) =
      let a = lack-cons c i u us in
      let first : part (has v c u) (has v i u) ≤ 1 = part-one (has v c u) (has v i u) in
      let rest : lack v c i us ≤ length us = lack-length c i us in
      omega arith

  walk-counts : AreNodes v → (c i p us : List B) → ((m : B) → Contains p m → Contains us m) → length (recursion_list v c i p) + lack v c (issuer_copy v c i p) us ≤ lack v c i us
  walk-counts laws c i [] us h = omega arith
  walk-counts laws c i (m ∷ ms) us h = go (has v c m || has v i m) refl (walk-counts laws c i ms us (λ x k. h x (Contains-there m ms x k))) (walk-counts laws c (issue_temporary v c i m) ms us (λ x k. h x (Contains-there m ms x k)))
    where
      go : (b : Bool) → (has v c m || has v i m) ≡ b → length (recursion_list v c i ms) + lack v c (issuer_copy v c i ms) us ≤ lack v c i us
          → length (recursion_list v c (issue_temporary v c i m) ms) + lack v c (issuer_copy v c (issue_temporary v c i m) ms) us ≤ lack v c (issue_temporary v c i m) us
          → length (cond b (recursion_list v c i ms) (m ∷ recursion_list v c (issue_temporary v c i m) ms)) + lack v c (issuer_copy v c (issue_temporary v c i m) ms) us ≤ lack v c i us
      go true e known new = subst (λ j. length (recursion_list v c i ms) + lack v c (issuer_copy v c j ms) us ≤ lack v c i us) (sym (named-known c i m e)) known
      go false e known new =
          let less : lack v c (issue_temporary v c i m) us < lack v c i us =
          lack-less c i (issue_temporary v c i m) us m (Grows-named v c i m) (h m (Contains-here m ms)) e (named-has laws c i m (or_parts (has v c m) (has v i m) e).0) in
          omega arith

  -- an arrangement names each node at most once
  pub walk-few : AreNodes v → (c i p : List B) → AreListed v p → length (recursion_list v c i p) ≤ length v.all
  walk-few laws c i p h =
      let sum : length (recursion_list v c i p) + lack v c (issuer_copy v c i p) v.all ≤ lack v c i v.all = walk-counts laws c i p v.all h in
      let most : lack v c i v.all ≤ length v.all = lack-length c i v.all in
      omega arith

  pub groups-listed : AreNodes v → (c i : List B) (n : B) (g : Group B) (m : B) → Contains v.all n → Contains (related_groups v c i n) g → Contains g.members m → Contains v.all m
  groups-listed laws c i n g m listed k l =
      let h = grouped-member (map (with_related_hash v c i) (v.related n)) g m k l in
      let found = Contains-from_map (with_related_hash v c i) (v.related n) h.of h.within in
      let inside : Contains v.all found.0.blank = All-contains (λ (o : Occurrence B). Contains v.all o.blank) (v.related n) found.0 (laws.closed n listed) found.1 in
      subst (Contains v.all) (ap (λ (z : NodeHash B). z.node) found.2 ∙ h.node_is) inside

  pub first_groups-listed : (g : Group B) → Contains (first_groups v) g → AreListed v g.members
  first_groups-listed g k m l =
      let h = grouped-member (map (with_first_hash v) v.all) g m k l in
      let found = Contains-from_map (with_first_hash v) v.all h.of h.within in
      subst (Contains v.all) (ap (λ (z : NodeHash B). z.node) found.2 ∙ h.node_is) found.1

-- ---- a trail with a least path

abbrev pub Best : {B : Type 0} → List (Trail B) → Type 0
Best {B} ts = (t : Trail B) × Contains ts t × All (λ (u : Trail B). is_upto t.path u.path ≡ true) ts

unfoldable pub better : {B : Type 0} (t u : Trail B) (us : List (Trail B)) (b : Best (u ∷ us)) (x : Bool) → is_upto t.path b.0.path ≡ x → Best (t ∷ (u ∷ us))
better {B} t u us b true e = (
  t,
  Contains-here t (u ∷ us),
  All-cons (λ (w : Trail B). is_upto t.path w.path ≡ true) t (u ∷ us) (is_upto-refl t.path)
      (All-weaker (λ (w : Trail B). is_upto b.0.path w.path ≡ true) (λ (w : Trail B). is_upto t.path w.path ≡ true) (λ w f. is_upto-transitive t.path b.0.path w.path e f) (u ∷ us) b.2),
)
better {B} t u us b false e = (
  b.0,
  Contains-there t (u ∷ us) b.0 b.1,
  All-cons (λ (w : Trail B). is_upto b.0.path w.path ≡ true) t (u ∷ us) (is_upto-back t.path b.0.path e) b.2,
)

unfoldable pub best_among : {B : Type 0} (t : Trail B) (ts : List (Trail B)) → Best (t ∷ ts)
best_among {B} t [] = (t, Contains-here t [], All-cons (λ (u : Trail B). is_upto t.path u.path ≡ true) t [] (is_upto-refl t.path) (All-nil (λ (u : Trail B). is_upto t.path u.path ≡ true)))
best_among {B} t (u ∷ us) = better t u us (best_among u us) (is_upto t.path (best_among u us).0.path) refl

unfoldable pub best_of_some : {B : Type 0} (ts : List (Trail B)) (u : Trail B) → Contains ts u → Best ts
best_of_some [] u k = absurd (Contains-nil u k)
best_of_some (t ∷ ts) u k = best_among t ts

-- trails of all arrangements make a choice
unfoldable pub IsChoice-from_trails : {B : Type 0} (evaluates : List B → Trail B → Type 0) (members : List B) (ps : List (List B)) (ts : List (Trail B)) → AreArrangements members ps → AllZip evaluates ps ts → (best : Trail B) × IsChoice evaluates members (choice_of best ts)
IsChoice-from_trails evaluates members ps ts all evaluated =
    let some = AllZip-from_left evaluates ps ts members evaluated (arrangements-some all) in
    let best = best_of_some ts some.0 some.1 in (
      best.0,
      record { arrangements = ps; trails = ts; best = best.0; all = all; evaluated = evaluated; among = best.1; least = best.2; is = refl },
    )

-- ---- calls exist, given that nested calls do where fewer than k nodes lack a name

module _ {B : Type 0} {v : Nodes B} (laws : AreNodes v) (c : List B) (calls : Calls B) (grow : CallsGrow calls) (k : ℕ) (exist : (n : B) (i : List B) → Contains v.all n → lack v c i v.all < k → (o : Outcome B) × calls n i o) where
  pub still_less : (i j : List B) → Grows i j → lack v c i v.all < k → lack v c j v.all < k
  still_less i j g l = let less : lack v c j v.all ≤ lack v c i v.all = lack-grows v c i j v.all g in omega arith

  pub still_upto : (i j : List B) → Grows i j → lack v c i v.all ≤ k → lack v c j v.all ≤ k
  still_upto i j g l = let less : lack v c j v.all ≤ lack v c i v.all = lack-grows v c i j v.all g in omega arith

  -- where the list is empty no call is made, and nothing is asked of the issuer
  unfoldable pub nested_if : (i : List B) (path : List ℕ) (ms : List B) → AreListed v ms → ((m : B) → Contains ms m → lack v c i v.all < k) → (t : Trail B) × Nested v calls i path ms t
  nested_if i path [] h l = (trail_end i path, refl)
  nested_if i path (m ∷ ms) h l =
      let o = exist m i (h m (Contains-here m ms)) (l m (Contains-here m ms)) in
      let rest = nested_if o.0.issuer (path ++ path_part v i m o.0.hash) ms (λ x e. h x (Contains-there m ms x e)) (λ x e. still_less i o.0.issuer (grow m i o.0 o.1) (l m (Contains-here m ms))) in
      (trail_more path o.0 rest.0, record { outcome = o.0; rest = rest.0; called = o.1; goes_on = rest.1; is = refl })

  pub within_walk : (i p : List B) → AreListed v p → lack v c i v.all ≤ k → (m : B) → Contains (recursion_list v c i p) m → lack v c (issuer_copy v c i p) v.all < k
  within_walk i p h l m e =
      ⊎_elim (λ none. absurd (Contains-nil m (subst (λ ms. Contains ms m) none e))) (λ less. omega arith) (walk-less v laws c i p h)

  unfoldable pub evaluates_if : (i p : List B) → AreListed v p → lack v c i v.all ≤ k → (t : Trail B) × Evaluates v calls c i p t
  evaluates_if i p h l =
      nested_if (issuer_copy v c i p) (first_path v c i p) (recursion_list v c i p) (λ m e. h m (newly_named-member v c i p m e)) (within_walk i p h l)

  unfoldable pub trails_if : (i : List B) (ps : List (List B)) → ((p : List B) → Contains ps p → AreListed v p) → lack v c i v.all ≤ k → (ts : List (Trail B)) × AllZip (Evaluates v calls c i) ps ts
  trails_if i [] h l = ([], tt)
  trails_if i (p ∷ ps) h l =
      let first = evaluates_if i p (h p (Contains-here p ps)) l in
      let rest = trails_if i ps (λ q e. h q (Contains-there p ps q e)) l in
      (first.0 ∷ rest.0, (first.1, rest.1))

  unfoldable pub choice_if : (i members : List B) → AreListed v members → lack v c i v.all ≤ k → (x : Choice B) × IsChoice (Evaluates v calls c i) members x
  choice_if i members h l =
      let ts = trails_if i (branches v.same (length members) members) (λ p e m f. h m (arrangement-member (branches-are laws members) p m e f)) l in
      let best = IsChoice-from_trails (Evaluates v calls c i) members (branches v.same (length members) members) ts.0 (branches-are laws members) ts.1 in
      (choice_of best.0 ts.0, best.1)

  unfoldable pub groups_if : (text : List ℕ) (i : List B) (gs : List (Group B)) → ((g : Group B) → Contains gs g → AreListed v g.members) → lack v c i v.all ≤ k → (o : Outcome B) × InGroups v calls c text i gs o
  groups_if text i [] h l = (outcome_end v text i, refl)
  groups_if text i (g ∷ gs) h l =
      let x = choice_if i g.members (h g (Contains-here g gs)) l in
      let rest = groups_if (text ++ (g.hash ++ x.0.path)) x.0.issuer gs (λ f e. h f (Contains-there g gs f e)) (still_upto i x.0.issuer (IsChoice-grows_if v calls grow c i g.members x.0 x.1) l) in
      (outcome_more x.0 rest.0, record { choice = x.0; rest = rest.0; is_choice = x.1; goes_on = rest.1; is = refl })

  unfoldable pub call_if : (n : B) (i : List B) → Contains v.all n → lack v c i v.all ≤ k → (o : Outcome B) × IsCall v c calls n i o
  call_if n i listed l =
      let o = groups_if [] i (related_groups v c i n) (λ g e m f. groups-listed v laws c i n g m listed e f) l in
      (o.0, record { groups = o.1 })

-- ---- calls exist

module _ {B : Type 0} {v : Nodes B} (laws : AreNodes v) where
  unfoldable pub within_exists : (c : List B) (k : ℕ) (n : B) (i : List B) → Contains v.all n → lack v c i v.all < k → (o : Outcome B) × IsNDegreeWithin v c k n i o
  within_exists c zero n i listed l = absurd (omega arith)
  within_exists c (suc k) n i listed l = call_if laws c (IsNDegreeWithin v c k) (IsNDegreeWithin-grows v c k) k (within_exists c k) n i listed (omega arith)

  unfoldable pub IsNDegree-exists : (c : List B) (n : B) (i : List B) → Contains v.all n → (o : Outcome B) × IsNDegree v c n i o
  IsNDegree-exists c n i listed =
      let o = within_exists c (suc (lack v c i v.all)) n i listed (omega arith) in
      (o.0, record { within = suc (lack v c i v.all); call = o.1 })

  pub nested-exists : (c i : List B) (path : List ℕ) (ms : List B) → AreListed v ms → (t : Trail B) × Nested v (IsNDegree v c) i path ms t
  nested-exists c i path ms h =
      nested_if laws c (IsNDegree v c) (IsNDegree-grows v c) (suc (lack v c i v.all)) (λ n j listed l. IsNDegree-exists c n j listed) i path ms h (λ m e. omega arith)

  pub evaluates-exists : (c i p : List B) → AreListed v p → (t : Trail B) × Evaluates v (IsNDegree v c) c i p t
  evaluates-exists c i p h = nested-exists c (issuer_copy v c i p) (first_path v c i p) (recursion_list v c i p) (λ m e. h m (newly_named-member v c i p m e))

  pub trails-exist : (c i : List B) (ps : List (List B)) → ((p : List B) → Contains ps p → AreListed v p) → (ts : List (Trail B)) × AllZip (Evaluates v (IsNDegree v c) c i) ps ts
  trails-exist c i ps h =
      trails_if laws c (IsNDegree v c) (IsNDegree-grows v c) (lack v c i v.all) (λ n j listed l. IsNDegree-exists c n j listed) i ps h (omega arith)

  pub choice-exists : (c i members : List B) → AreListed v members → (x : Choice B) × IsChoice (Evaluates v (IsNDegree v c) c i) members x
  choice-exists c i members h =
      choice_if laws c (IsNDegree v c) (IsNDegree-grows v c) (lack v c i v.all) (λ n j listed l. IsNDegree-exists c n j listed) i members h (omega arith)

  pub groups-exist : (c : List B) (text : List ℕ) (i : List B) (gs : List (Group B)) → ((g : Group B) → Contains gs g → AreListed v g.members) → (o : Outcome B) × InGroups v (IsNDegree v c) c text i gs o
  groups-exist c text i gs h =
      groups_if laws c (IsNDegree v c) (IsNDegree-grows v c) (lack v c i v.all) (λ n j listed l. IsNDegree-exists c n j listed) text i gs h (omega arith)

-- ---- results in hash order

unfoldable pub put_result : {B : Type 0} → Outcome B → List (Outcome B) → List (Outcome B)
put_result o [] = o ∷ []
put_result o (p ∷ ps) = cond (is_upto o.hash p.hash) (o ∷ (p ∷ ps)) (p ∷ put_result o ps)

-- results with one more put in are that one and the others, in some order
pub put_result-permutation : {B : Type 0} (o : Outcome B) (ps : List (Outcome B)) → IsPermutation (o ∷ ps) (put_result o ps)
unfolding put_result
put_result-permutation o [] = IsPermutation-refl (o ∷ [])
put_result-permutation o (p ∷ ps) =
    let moved : IsPermutation (o ∷ (p ∷ ps)) (p ∷ (o ∷ ps)) = IsPermutation-sym (p ∷ (o ∷ ps)) (o ∷ (p ∷ ps)) (IsPermutation-middle (p ∷ []) o ps) in
    let later : IsPermutation (o ∷ (p ∷ ps)) (p ∷ put_result o ps) = IsPermutation-trans (o ∷ (p ∷ ps)) (p ∷ (o ∷ ps)) (p ∷ put_result o ps) moved (IsPermutation-cons p (o ∷ ps) (put_result o ps) (put_result-permutation o ps)) in
    cond_both (is_upto o.hash p.hash) (o ∷ (p ∷ ps)) (p ∷ put_result o ps) (IsPermutation (o ∷ (p ∷ ps))) (λ _. IsPermutation-refl (o ∷ (p ∷ ps))) (λ _. later)

-- results in hash order stay so with one more put in
pub put_result-order : {B : Type 0} (o : Outcome B) (ps : List (Outcome B)) → InHashOrder ps → InHashOrder (put_result o ps)
unfolding put_result
put_result-order {B} o [] up = (All-nil (λ (q : Outcome B). is_upto o.hash q.hash ≡ true), tt)
put_result-order {B} o (p ∷ ps) up =
    cond_both (is_upto o.hash p.hash) (o ∷ (p ∷ ps)) (p ∷ put_result o ps) InHashOrder
    (λ e. (
      All-cons (λ (q : Outcome B). is_upto o.hash q.hash ≡ true) p ps e
          (All-weaker (λ (q : Outcome B). is_upto p.hash q.hash ≡ true) (λ (q : Outcome B). is_upto o.hash q.hash ≡ true) (λ q f. is_upto-transitive o.hash p.hash q.hash e f) ps up.0),
      up,
    ))
    (λ e. (
      All-permutation (λ (q : Outcome B). is_upto p.hash q.hash ≡ true) (o ∷ ps) (put_result o ps) (put_result-permutation o ps)
          (All-cons (λ (q : Outcome B). is_upto p.hash q.hash ≡ true) o ps (is_upto-back o.hash p.hash e) up.0),
      put_result-order o ps up.1,
    ))

unfoldable pub in_hash_order : {B : Type 0} (os : List (Outcome B)) → (sorted : List (Outcome B)) × IsPermutation os sorted × InHashOrder sorted
in_hash_order [] = ([], IsPermutation-refl [], tt)
in_hash_order (o ∷ os) =
    let rest = in_hash_order os in (
      put_result o rest.0,
      IsPermutation-trans (o ∷ os) (o ∷ rest.0) (put_result o rest.0) (IsPermutation-cons o os rest.0 rest.1) (put_result-permutation o rest.0),
      put_result-order o rest.0 rest.2,
    )

-- ---- runs exist

module _ {B : Type 0} {v : Nodes B} (laws : AreNodes v) where
  unfoldable pub results-exist : (c ns : List B) → AreListed v ns → (os : List (Outcome B)) × AllZip (λ n o. IsNDegree v c n (n ∷ []) o) ns os
  results-exist c [] h = ([], tt)
  results-exist c (n ∷ ns) h =
      let first = IsNDegree-exists laws c n (n ∷ []) (h n (Contains-here n ns)) in
      let rest = results-exist c ns (λ m k. h m (Contains-there n ns m k)) in
      (first.0 ∷ rest.0, (first.1, rest.1))

  pub lacking-listed : (c ns : List B) → AreListed v ns → AreListed v (lacking v c ns)
  lacking-listed c ns h m k = h m (Contains-from_filter (λ n. not (has v c n)) ns m k).0

  unfoldable pub rounds-exist : (c : List B) (gs : List (Group B)) → ((g : Group B) → Contains gs g → AreListed v g.members) → (r : RunOutcome B) × Rounds v c gs r
  rounds-exist c [] h = (run_end c, refl)
  rounds-exist c (g ∷ gs) h =
      let results = results-exist c (lacking v c g.members) (lacking-listed c g.members (h g (Contains-here g gs))) in
      let sorted = in_hash_order results.0 in
      let rest = rounds-exist (take_issuers v c sorted.0) gs (λ f k. h f (Contains-there g gs f k)) in (
        run_more results.0 rest.0,
        record { outcomes = results.0; sorted = sorted.0; rest = rest.0; hashed = results.1; order = sorted.1; in_order = sorted.2; goes_on = rest.1; is = refl },
      )

  unfoldable pub run-exists : (r : RunOutcome B) × IsRun v r
  run-exists = let r = rounds-exist (alone (first_groups v)) (first_groups v) (first_groups-listed v) in (r.0, record { rounds = r.1 })

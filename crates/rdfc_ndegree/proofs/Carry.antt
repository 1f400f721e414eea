-- An n-degree call is carried along a map that is one to one on the nodes that are in play.
use Rattle.std.proofs.Common.{◌≡◌, ℕ, zero, suc, List, [], ◌∷◌, ◌++◌, map, map-id, refl, sym, ap, ◌∙◌, subst, Bool, true, false, if◌then◌else◌, ◌||◌, filter, All, Contains, bytes_eq, codes, decimal, nat_lt, ◌+◌, count_by}
use Rattle.std.specs.List.{AllByRecursion, AllZip, list_any}
use Rattle.std.specs.List.Sorted.{IsPermutation}
use Rattle.std.proofs.lemmas.List.{map-append}
use Rattle.std.proofs.lemmas.List.Elements.{All-map, All-weaker, recursion_from_All}
use Rattle.std.proofs.lemmas.List.Sorted.{IsPermutation-sym, IsPermutation-trans, IsPermutation-map, All-permutation}
use Rattle.base_types.specs.Order.{sorted_set, is_upto}
use Rattle.base_types.proofs.Lists.{Contains-map, Contains-from_map, AllByRecursion-contains, map-map}
use Rattle.base_types.proofs.Rising.{rising-free}
use Rattle.nquads.proofs.ReadingElements.{AllDiffer-map}
use Rattle.rdfc_ndegree.specs.Nodes.{Occurrence, Nodes}
use Rattle.rdfc_ndegree.specs.Issuers.{has, number, canonical_id, temporary_id, issue}
use Rattle.rdfc_ndegree.specs.Groups.{position_text, identifier_or_hash, related_hash, NodeHash, Group, group_of, groups_by_hash, with_related_hash, related_groups}
use Rattle.rdfc_ndegree.specs.NDegree.{Outcome, Trail, Choice, Calls, issue_temporary, identifier, issuer_copy, first_path, recursion_list, path_part, Nested, Evaluates, AreArrangements, counts, meets_tie, total_work, choice_of, IsChoice, outcome_end, InGroups, IsCall, IsNDegreeWithin, IsNDegree}
use Rattle.rdfc_ndegree.proofs.Permutations.{SameElements-permutation, IsPermutation-filter, Each-permutation, Each-append, Each-filter, Each-map, Each-from_contains, map-agree, list_any-map, list_any-map_each, filter-map_each, sum_by-map, pull_back, map-injective}

-- ---- what is carried

abbrev pub carried : {A B : Type 0} → (A → B) → Occurrence A → Occurrence B
carried f o = record { position = o.position; predicate = o.predicate; blank = f o.blank }

abbrev pub hashed_f : {A B : Type 0} → (A → B) → NodeHash A → NodeHash B
hashed_f f h = record { hash = h.hash; node = f h.node }

abbrev pub outcome_f : {A B : Type 0} → (A → B) → Outcome A → Outcome B
outcome_f f o = record { hash = o.hash; issuer = map f o.issuer; tie = o.tie; work = o.work }

abbrev pub trail_f : {A B : Type 0} → (A → B) → Trail A → Trail B
trail_f f t = record { path = t.path; issuer = map f t.issuer; ties = t.ties; work = t.work }

abbrev pub choice_f : {A B : Type 0} → (A → B) → Choice A → Choice B
choice_f f x = record { path = x.path; issuer = map f x.issuer; tie = x.tie; work = x.work }

-- f takes the nodes v of Dom to the nodes w, one to one, with all that labelling looks at.
pub record Carries {A B : Type 0} (f : A → B) (Dom : A → Type 0) (v : Nodes A) (w : Nodes B) : Type 0 where
  pub one_to_one : (x y : A) → Dom x → Dom y → w.same (f x) (f y) ≡ v.same x y
  pub injective : (x y : A) → Dom x → Dom y → f x ≡ f y → x ≡ y
  pub digest : (text : List ℕ) → w.digest text ≡ v.digest text
  pub first : (x : A) → Dom x → w.first (f x) ≡ v.first x
  pub closed : (n : A) → Dom n → All (λ (o : Occurrence A). Dom o.blank) (v.related n)
  pub related : (n : A) → Dom n → IsPermutation (map (carried f) (v.related n)) (w.related (f n))

-- the same group, of other nodes: in any order
pub record SameGroup {A B : Type 0} (f : A → B) (Dom : A → Type 0) (g : Group A) (h : Group B) : Type 0 where
  pub hash : h.hash ≡ g.hash
  pub inside : AllByRecursion Dom g.members
  pub members : IsPermutation (map f g.members) h.members

-- an issuer is within Dom, and what stands for it there
pub record Arrives {A : Type 0} (Dom : A → Type 0) (issuer : List A) (there : Type 0) : Type 0 where
  pub in_domain : AllByRecursion Dom issuer
  pub is_there : there

-- ---- groups

module _ {A B : Type 0} (f : A → B) (Dom : A → Type 0) where
  group_members : (r : List ℕ) (hs : List (NodeHash A)) (ks : List (NodeHash B)) → IsPermutation (map (hashed_f f) hs) ks → IsPermutation (map f (group_of hs r).members) (group_of ks r).members
  group_members r hs ks p =
      let passed : List (NodeHash A) = filter (λ h. bytes_eq h.hash r) hs in
      let kept : IsPermutation (filter (λ h. bytes_eq h.hash r) (map (hashed_f f) hs)) (filter (λ h. bytes_eq h.hash r) ks) = IsPermutation-filter (λ h. bytes_eq h.hash r) (map (hashed_f f) hs) ks p in
      let moved : IsPermutation (map (hashed_f f) passed) (filter (λ h. bytes_eq h.hash r) ks) = subst (λ l. IsPermutation l (filter (λ h. bytes_eq h.hash r) ks)) (filter-map_each (hashed_f f) (λ h. bytes_eq h.hash r) hs) kept in
      let nodes : IsPermutation (map (λ h. h.node) (map (hashed_f f) passed)) (map (λ h. h.node) (filter (λ h. bytes_eq h.hash r) ks)) = IsPermutation-map (λ h. h.node) (map (hashed_f f) passed) (filter (λ h. bytes_eq h.hash r) ks) moved in
      let turned : map (λ h. h.node) (map (hashed_f f) passed) ≡ map f (map (λ h. h.node) passed) = map-map (λ (h : NodeHash B). h.node) (hashed_f f) passed ∙ sym (map-map f (λ (h : NodeHash A). h.node) passed) in
      subst (λ l. IsPermutation l (map (λ h. h.node) (filter (λ h. bytes_eq h.hash r) ks))) turned nodes

  one_group : (r : List ℕ) (hs : List (NodeHash A)) (ks : List (NodeHash B)) → AllByRecursion (λ (h : NodeHash A). Dom h.node) hs → IsPermutation (map (hashed_f f) hs) ks → SameGroup f Dom (group_of hs r) (group_of ks r)
  one_group r hs ks d p = record {
    hash = refl;
    inside = Each-map Dom (λ (h : NodeHash A). h.node) (filter (λ h. bytes_eq h.hash r) hs) (Each-filter (λ (h : NodeHash A). Dom h.node) (λ h. bytes_eq h.hash r) hs d);
    members = group_members r hs ks p;
  }

  each_group : (rs : List (List ℕ)) (hs : List (NodeHash A)) (ks : List (NodeHash B)) → AllByRecursion (λ (h : NodeHash A). Dom h.node) hs → IsPermutation (map (hashed_f f) hs) ks → AllZip (SameGroup f Dom) (map (group_of hs) rs) (map (group_of ks) rs)
  each_group [] hs ks d p = tt
  each_group (r ∷ rs) hs ks d p = (one_group r hs ks d p, each_group rs hs ks d p)

  same_hashes : (hs : List (NodeHash A)) (ks : List (NodeHash B)) → IsPermutation (map (hashed_f f) hs) ks → sorted_set (map (λ h. h.hash) ks) ≡ sorted_set (map (λ h. h.hash) hs)
  same_hashes hs ks p =
      let moved : IsPermutation (map (λ h. h.hash) hs) (map (λ h. h.hash) ks) =
      subst (λ l. IsPermutation l (map (λ h. h.hash) ks)) (map-map (λ (h : NodeHash B). h.hash) (hashed_f f) hs) (IsPermutation-map (λ h. h.hash) (map (hashed_f f) hs) ks p) in
      rising-free (map (λ h. h.hash) ks) (map (λ h. h.hash) hs) (SameElements-permutation (map (λ h. h.hash) ks) (map (λ h. h.hash) hs) (IsPermutation-sym (map (λ h. h.hash) hs) (map (λ h. h.hash) ks) moved))

  pub grouped-carried : (hs : List (NodeHash A)) (ks : List (NodeHash B)) → AllByRecursion (λ (h : NodeHash A). Dom h.node) hs → IsPermutation (map (hashed_f f) hs) ks → AllZip (SameGroup f Dom) (groups_by_hash hs) (groups_by_hash ks)
  grouped-carried hs ks d p =
      subst (λ rs. AllZip (SameGroup f Dom) (groups_by_hash hs) (map (group_of ks) rs)) (sym (same_hashes hs ks p)) (each_group (sorted_set (map (λ h. h.hash) hs)) hs ks d p)

-- ---- what a choice keeps

module _ {A B : Type 0} (f : A → B) where
  ties_kept : (least : List ℕ) (ts : List (Trail A)) → meets_tie least (map (trail_f f) ts) ≡ meets_tie least ts
  ties_kept least ts =
      ap (λ n. nat_lt 1 n || list_any (λ t. counts least t.ties) (map (trail_f f) ts)) (sum_by-map (trail_f f) (λ t. if bytes_eq t.path least then 1 else 0) ts)
      ∙ ap (λ b. nat_lt 1 (count_by (λ t. bytes_eq t.path least) ts) || b) (list_any-map_each (trail_f f) (λ t. counts least t.ties) ts)

  work_kept : (ts : List (Trail A)) → total_work (map (trail_f f) ts) ≡ total_work ts
  work_kept [] = refl
  work_kept (t ∷ ts) = ap (λ n. 1 + t.work + n) (work_kept ts)

  chosen_kept : (best : Trail A) (ts : List (Trail A)) → choice_f f (choice_of best ts) ≡ choice_of (trail_f f best) (map (trail_f f) ts)
  chosen_kept best ts =
      let tie = ties_kept best.path ts in
      let work = work_kept ts in
      λ j. record { path = best.path; issuer = map f best.issuer; tie = sym tie j; work = sym work j }

-- ---- calls

module _ {A B : Type 0} (f : A → B) (Dom : A → Type 0) (v : Nodes A) (w : Nodes B) (s : Carries f Dom v w) where
  pub has-carried : (i : List A) (n : A) → AllByRecursion Dom i → Dom n → has w (map f i) (f n) ≡ has v i n
  has-carried i n h d = list_any-map Dom f (λ m. v.same m n) (λ m. w.same m (f n)) (λ m e. s.one_to_one m n e d) i h

  pub number-carried : (i : List A) (n : A) → AllByRecursion Dom i → Dom n → number w (map f i) (f n) ≡ number v i n
  number-carried [] n h d = refl
  number-carried (m ∷ ms) n h d = ap (λ b. if b then 0 else 1 + number w (map f ms) (f n)) (s.one_to_one m n h.0 d) ∙ ap (λ k. if v.same m n then 0 else 1 + k) (number-carried ms n h.1 d)

  pub canonical_id-carried : (c : List A) (n : A) → AllByRecursion Dom c → Dom n → canonical_id w (map f c) (f n) ≡ canonical_id v c n
  canonical_id-carried c n h d = ap (λ k. codes "c14n" ++ decimal k) (number-carried c n h d)

  temporary_id-carried : (i : List A) (n : A) → AllByRecursion Dom i → Dom n → temporary_id w (map f i) (f n) ≡ temporary_id v i n
  temporary_id-carried i n h d = ap (λ k. codes "b" ++ decimal k) (number-carried i n h d)

  either_map : (b : Bool) (i j : List A) → (if b then map f i else map f j) ≡ map f (if b then i else j)
  either_map true i j = refl
  either_map false i j = refl

  either_inside : (b : Bool) (i j : List A) → AllByRecursion Dom i → AllByRecursion Dom j → AllByRecursion Dom (if b then i else j)
  either_inside true i j h k = h
  either_inside false i j h k = k

  pub issue-carried : (i : List A) (n : A) → AllByRecursion Dom i → Dom n → issue w (map f i) (f n) ≡ map f (issue v i n)
  issue-carried i n h d =
      ap (λ b. if b then map f i else map f i ++ f n ∷ []) (has-carried i n h d)
      ∙ ap (λ l. if has v i n then map f i else l) (sym (map-append f i (n ∷ [])))
      ∙ either_map (has v i n) i (i ++ n ∷ [])

  pub issue-inside : (i : List A) (n : A) → AllByRecursion Dom i → Dom n → AllByRecursion Dom (issue v i n)
  issue-inside i n h d = either_inside (has v i n) i (i ++ n ∷ []) h (Each-append Dom i (n ∷ []) h (d, tt))

  known_as-carried : (c i : List A) (n : A) → AllByRecursion Dom c → AllByRecursion Dom i → Dom n → identifier_or_hash w (map f c) (map f i) (f n) ≡ identifier_or_hash v c i n
  known_as-carried c i n hc hi d =
      ap (λ b. if b then 95 ∷ 58 ∷ canonical_id w (map f c) (f n) else (if has w (map f i) (f n) then 95 ∷ 58 ∷ temporary_id w (map f i) (f n) else w.first (f n))) (has-carried c n hc d)
      ∙ ap (λ t. if has v c n then 95 ∷ 58 ∷ t else (if has w (map f i) (f n) then 95 ∷ 58 ∷ temporary_id w (map f i) (f n) else w.first (f n))) (canonical_id-carried c n hc d)
      ∙ ap (λ b. if has v c n then 95 ∷ 58 ∷ canonical_id v c n else (if b then 95 ∷ 58 ∷ temporary_id w (map f i) (f n) else w.first (f n))) (has-carried i n hi d)
      ∙ ap (λ t. if has v c n then 95 ∷ 58 ∷ canonical_id v c n else (if has v i n then 95 ∷ 58 ∷ t else w.first (f n))) (temporary_id-carried i n hi d)
      ∙ ap (λ t. if has v c n then 95 ∷ 58 ∷ canonical_id v c n else (if has v i n then 95 ∷ 58 ∷ temporary_id v i n else t)) (s.first n d)

  related_hash-carried : (c i : List A) (o : Occurrence A) → AllByRecursion Dom c → AllByRecursion Dom i → Dom o.blank → related_hash w (map f c) (map f i) (carried f o) ≡ related_hash v c i o
  related_hash-carried c i o hc hi d =
      ap (λ t. w.digest (position_text o.position o.predicate ++ t)) (known_as-carried c i o.blank hc hi d) ∙ s.digest (position_text o.position o.predicate ++ identifier_or_hash v c i o.blank)

  hashed-carried : (c i : List A) (o : Occurrence A) → AllByRecursion Dom c → AllByRecursion Dom i → Dom o.blank → with_related_hash w (map f c) (map f i) (carried f o) ≡ hashed_f f (with_related_hash v c i o)
  hashed-carried c i o hc hi d = ap (λ (t : List ℕ). hashed_with t) (related_hash-carried c i o hc hi d)
    where
      hashed_with : List ℕ → NodeHash B
      hashed_with t = record { hash = t; node = f o.blank }

  pub related_groups-carried : (c i : List A) (n : A) → AllByRecursion Dom c → AllByRecursion Dom i → Dom n → AllZip (SameGroup f Dom) (related_groups v c i n) (related_groups w (map f c) (map f i) (f n))
  related_groups-carried c i n hc hi d =
      let inside : AllByRecursion (λ (o : Occurrence A). Dom o.blank) (v.related n) = recursion_from_All (λ (o : Occurrence A). Dom o.blank) (v.related n) (s.closed n d) in
      let moved : IsPermutation (map (with_related_hash w (map f c) (map f i)) (map (carried f) (v.related n))) (map (with_related_hash w (map f c) (map f i)) (w.related (f n))) = IsPermutation-map (with_related_hash w (map f c) (map f i)) (map (carried f) (v.related n)) (w.related (f n)) (s.related n d) in
      let turned : map (with_related_hash w (map f c) (map f i)) (map (carried f) (v.related n)) ≡ map (hashed_f f) (map (with_related_hash v c i) (v.related n)) =
      map-map (with_related_hash w (map f c) (map f i)) (carried f) (v.related n)
      ∙ map-agree (λ (o : Occurrence A). Dom o.blank) (λ o. with_related_hash w (map f c) (map f i) (carried f o)) (λ o. hashed_f f (with_related_hash v c i o)) (λ o e. hashed-carried c i o hc hi e) (v.related n) inside
      ∙ sym (map-map (hashed_f f) (with_related_hash v c i) (v.related n)) in
      grouped-carried f Dom (map (with_related_hash v c i) (v.related n)) (map (with_related_hash w (map f c) (map f i)) (w.related (f n)))
      (Each-map (λ (h : NodeHash A). Dom h.node) (with_related_hash v c i) (v.related n) inside)
      (subst (λ l. IsPermutation l (map (with_related_hash w (map f c) (map f i)) (w.related (f n)))) turned moved)

  -- ---- one arrangement

  named-carried : (c i : List A) (m : A) → AllByRecursion Dom c → AllByRecursion Dom i → Dom m → issue_temporary w (map f c) (map f i) (f m) ≡ map f (issue_temporary v c i m)
  named-carried c i m hc hi d =
      ap (λ b. if b then map f i else issue w (map f i) (f m)) (has-carried c m hc d)
      ∙ ap (λ l. if has v c m then map f i else l) (issue-carried i m hi d)
      ∙ either_map (has v c m) i (issue v i m)

  named-inside : (c i : List A) (m : A) → AllByRecursion Dom i → Dom m → AllByRecursion Dom (issue_temporary v c i m)
  named-inside c i m hi d = either_inside (has v c m) i (issue v i m) hi (issue-inside i m hi d)

  identifier-carried : (c i : List A) (m : A) → AllByRecursion Dom c → AllByRecursion Dom i → Dom m → identifier w (map f c) (map f i) (f m) ≡ identifier v c i m
  identifier-carried c i m hc hi d =
      ap (λ b. 95 ∷ 58 ∷ (if b then canonical_id w (map f c) (f m) else temporary_id w (map f i) (f m))) (has-carried c m hc d)
      ∙ ap (λ t. 95 ∷ 58 ∷ (if has v c m then t else temporary_id w (map f i) (f m))) (canonical_id-carried c m hc d)
      ∙ ap (λ t. 95 ∷ 58 ∷ (if has v c m then canonical_id v c m else t)) (temporary_id-carried i m hi d)

  named_all-carried : (c i ms : List A) → AllByRecursion Dom c → AllByRecursion Dom i → AllByRecursion Dom ms → issuer_copy w (map f c) (map f i) (map f ms) ≡ map f (issuer_copy v c i ms)
  named_all-carried c i [] hc hi hm = refl
  named_all-carried c i (m ∷ ms) hc hi hm =
      ap (λ l. issuer_copy w (map f c) l (map f ms)) (named-carried c i m hc hi hm.0)
      ∙ named_all-carried c (issue_temporary v c i m) ms hc (named-inside c i m hi hm.0) hm.1

  named_all-inside : (c i ms : List A) → AllByRecursion Dom i → AllByRecursion Dom ms → AllByRecursion Dom (issuer_copy v c i ms)
  named_all-inside c i [] hi hm = hi
  named_all-inside c i (m ∷ ms) hi hm = named_all-inside c (issue_temporary v c i m) ms (named-inside c i m hi hm.0) hm.1

  first_path-carried : (c i ms : List A) → AllByRecursion Dom c → AllByRecursion Dom i → AllByRecursion Dom ms → first_path w (map f c) (map f i) (map f ms) ≡ first_path v c i ms
  first_path-carried c i [] hc hi hm = refl
  first_path-carried c i (m ∷ ms) hc hi hm =
      let next : AllByRecursion Dom (issue_temporary v c i m) = named-inside c i m hi hm.0 in
      ap (λ l. identifier w (map f c) l (f m) ++ first_path w (map f c) l (map f ms)) (named-carried c i m hc hi hm.0)
      ∙ ap (λ t. t ++ first_path w (map f c) (map f (issue_temporary v c i m)) (map f ms)) (identifier-carried c (issue_temporary v c i m) m hc next hm.0)
      ∙ ap (λ t. identifier v c (issue_temporary v c i m) m ++ t) (first_path-carried c (issue_temporary v c i m) ms hc next hm.1)

  new_if : (b : Bool) (m : A) (xs ys : List A) (us vs : List B) → us ≡ map f xs → vs ≡ map f ys → (if b then us else f m ∷ vs) ≡ map f (if b then xs else m ∷ ys)
  new_if true m xs ys us vs p q = p
  new_if false m xs ys us vs p q = ap (λ l. f m ∷ l) q

  newly_named-carried : (c i ms : List A) → AllByRecursion Dom c → AllByRecursion Dom i → AllByRecursion Dom ms → recursion_list w (map f c) (map f i) (map f ms) ≡ map f (recursion_list v c i ms)
  newly_named-carried c i [] hc hi hm = refl
  newly_named-carried c i (m ∷ ms) hc hi hm =
      ap (λ b. if b || has w (map f i) (f m) then recursion_list w (map f c) (map f i) (map f ms) else f m ∷ recursion_list w (map f c) (issue_temporary w (map f c) (map f i) (f m)) (map f ms)) (has-carried c m hc hm.0)
      ∙ ap (λ b. if has v c m || b then recursion_list w (map f c) (map f i) (map f ms) else f m ∷ recursion_list w (map f c) (issue_temporary w (map f c) (map f i) (f m)) (map f ms)) (has-carried i m hi hm.0)
      ∙ new_if (has v c m || has v i m) m (recursion_list v c i ms) (recursion_list v c (issue_temporary v c i m) ms) (recursion_list w (map f c) (map f i) (map f ms)) (recursion_list w (map f c) (issue_temporary w (map f c) (map f i) (f m)) (map f ms))
      (newly_named-carried c i ms hc hi hm.1)
      (ap (λ l. recursion_list w (map f c) l (map f ms)) (named-carried c i m hc hi hm.0) ∙ newly_named-carried c (issue_temporary v c i m) ms hc (named-inside c i m hi hm.0) hm.1)

  newly_named-inside : (c i ms : List A) → AllByRecursion Dom ms → AllByRecursion Dom (recursion_list v c i ms)
  newly_named-inside c i [] hm = tt
  newly_named-inside c i (m ∷ ms) hm = either_inside (has v c m || has v i m) (recursion_list v c i ms) (m ∷ recursion_list v c (issue_temporary v c i m) ms) (newly_named-inside c i ms hm.1) (hm.0, newly_named-inside c (issue_temporary v c i m) ms hm.1)

  entry-carried : (i : List A) (m : A) (hash : List ℕ) → AllByRecursion Dom i → Dom m → path_part w (map f i) (f m) hash ≡ path_part v i m hash
  entry-carried i m hash hi d = ap (λ t. 95 ∷ 58 ∷ (t ++ (60 ∷ (hash ++ 62 ∷ [])))) (temporary_id-carried i m hi d)

  -- nested calls are carried
  abbrev pub CallsCarried : Calls A → Calls B → Type 0
  CallsCarried calls calls' = (n : A) (i : List A) (o : Outcome A) → Dom n → AllByRecursion Dom i → calls n i o → Arrives Dom o.issuer (calls' (f n) (map f i) (outcome_f f o))

  nested : (calls : Calls A) (calls' : Calls B) → CallsCarried calls calls' → (i : List A) (path : List ℕ) (ms : List A) (t : Trail A) → AllByRecursion Dom i → AllByRecursion Dom ms → Nested v calls i path ms t → Arrives Dom t.issuer (Nested w calls' (map f i) path (map f ms) (trail_f f t))
  nested calls calls' k i path [] t hi hm d = record { in_domain = subst (λ (u : Trail A). AllByRecursion Dom u.issuer) (sym d) hi; is_there = ap (trail_f f) d }
  nested calls calls' k i path (m ∷ ms) t hi hm d =
      let one = k m i d.outcome hm.0 hi d.called in
      let more = nested calls calls' k d.outcome.issuer (path ++ path_part v i m d.outcome.hash) ms d.rest one.in_domain hm.1 d.goes_on in
      record {
        in_domain = subst (λ (u : Trail A). AllByRecursion Dom u.issuer) (sym d.is) more.in_domain;
        is_there = record {
          outcome = outcome_f f d.outcome;
          rest = trail_f f d.rest;
          called = one.is_there;
          goes_on = subst (λ e. Nested w calls' (map f d.outcome.issuer) (path ++ e) (map f ms) (trail_f f d.rest)) (sym (entry-carried i m d.outcome.hash hi hm.0)) more.is_there;
          is = ap (trail_f f) d.is;
        };
      }

  pub Evaluates-carried : (calls : Calls A) (calls' : Calls B) → CallsCarried calls calls' → (c i p : List A) (t : Trail A) → AllByRecursion Dom c → AllByRecursion Dom i → AllByRecursion Dom p → Evaluates v calls c i p t → Arrives Dom t.issuer (Evaluates w calls' (map f c) (map f i) (map f p) (trail_f f t))
  Evaluates-carried calls calls' k c i p t hc hi hp d =
      let r = nested calls calls' k (issuer_copy v c i p) (first_path v c i p) (recursion_list v c i p) t (named_all-inside c i p hi hp) (newly_named-inside c i p hp) d in
      record {
        in_domain = r.in_domain;
        is_there =
            subst (λ l. Nested w calls' l (first_path w (map f c) (map f i) (map f p)) (recursion_list w (map f c) (map f i) (map f p)) (trail_f f t)) (sym (named_all-carried c i p hc hi hp))
            (subst (λ l. Nested w calls' (map f (issuer_copy v c i p)) l (recursion_list w (map f c) (map f i) (map f p)) (trail_f f t)) (sym (first_path-carried c i p hc hi hp))
            (subst (λ l. Nested w calls' (map f (issuer_copy v c i p)) (first_path v c i p) l (trail_f f t)) (sym (newly_named-carried c i p hc hi hp)) r.is_there));
      }

  -- ---- one group

  arrangement_inside : (members p : List A) (ps : List (List A)) → AllByRecursion Dom members → AreArrangements members ps → Contains ps p → AllByRecursion Dom p
  arrangement_inside members p ps h a m = Each-permutation Dom members p ((a.exact p).0 m) h

  pub AreArrangements-carried : (members : List A) (others : List B) (ps : List (List A)) → AllByRecursion Dom members → IsPermutation (map f members) others → AreArrangements members ps → AreArrangements others (map (map f) ps)
  AreArrangements-carried members others ps h s' a = record {
    differ = AllDiffer-map (map f) ps (λ p q m n e. map-injective f Dom s.injective p q (arrangement_inside members p ps h a m) (arrangement_inside members q ps h a n) e) a.differ;
    exact = λ p. (to p, fro p);
  }
    where
      to : (p : List B) → Contains (map (map f) ps) p → IsPermutation others p
      to p m =
          let r = Contains-from_map (map f) ps p m in
          subst (IsPermutation others) r.2 (IsPermutation-trans others (map f members) (map f r.0) (IsPermutation-sym (map f members) others s') (IsPermutation-map f members r.0 ((a.exact r.0).0 r.1)))

      fro : (p : List B) → IsPermutation others p → Contains (map (map f) ps) p
      fro p q =
          let r = pull_back f members p (IsPermutation-trans (map f members) others p s' q) in
          subst (Contains (map (map f) ps)) r.is (Contains-map (map f) ps r.from ((a.exact r.from).1 r.order))

  record TrailsCarried (calls' : Calls B) (c i : List A) (ps : List (List A)) (ts : List (Trail A)) : Type 0 where
    pub inside : AllByRecursion (λ (t : Trail A). AllByRecursion Dom t.issuer) ts
    pub zipped : AllZip (Evaluates w calls' (map f c) (map f i)) (map (map f) ps) (map (trail_f f) ts)

  trails : (calls : Calls A) (calls' : Calls B) → CallsCarried calls calls' → (c i : List A) (ps : List (List A)) (ts : List (Trail A)) → AllByRecursion Dom c → AllByRecursion Dom i → AllByRecursion (λ p. AllByRecursion Dom p) ps → AllZip (Evaluates v calls c i) ps ts → TrailsCarried calls' c i ps ts
  trails calls calls' k c i [] [] hc hi hp z = record { inside = tt; zipped = tt }
  trails calls calls' k c i [] (t ∷ ts) hc hi hp z = absurd z
  trails calls calls' k c i (p ∷ ps) [] hc hi hp z = absurd z
  trails calls calls' k c i (p ∷ ps) (t ∷ ts) hc hi hp z =
      let one = Evaluates-carried calls calls' k c i p t hc hi hp.0 z.0 in
      let more = trails calls calls' k c i ps ts hc hi hp.1 z.1 in
      record { inside = (one.in_domain, more.inside); zipped = (one.is_there, more.zipped) }

  pub IsChoice-carried : (calls : Calls A) (calls' : Calls B) → CallsCarried calls calls' → (c i members : List A) (others : List B) (x : Choice A) → AllByRecursion Dom c → AllByRecursion Dom i → AllByRecursion Dom members → IsPermutation (map f members) others → IsChoice (Evaluates v calls c i) members x → Arrives Dom x.issuer (IsChoice (Evaluates w calls' (map f c) (map f i)) others (choice_f f x))
  IsChoice-carried calls calls' k c i members others x hc hi hm s' d =
      let each = trails calls calls' k c i d.arrangements d.trails hc hi (Each-from_contains (λ p. AllByRecursion Dom p) d.arrangements (λ p m. arrangement_inside members p d.arrangements hm d.all m)) d.evaluated in
      record {
        in_domain = subst (λ (y : Choice A). AllByRecursion Dom y.issuer) (sym d.is) (AllByRecursion-contains (λ (t : Trail A). AllByRecursion Dom t.issuer) d.trails d.best each.inside d.among);
        is_there = record {
          arrangements = map (map f) d.arrangements;
          trails = map (trail_f f) d.trails;
          best = trail_f f d.best;
          all = AreArrangements-carried members others d.arrangements hm s' d.all;
          evaluated = each.zipped;
          among = Contains-map (trail_f f) d.trails d.best d.among;
          least = All-map (λ (t : Trail B). is_upto d.best.path t.path ≡ true) (trail_f f) d.trails d.least;
          is = ap (choice_f f) d.is ∙ chosen_kept f d.best d.trails;
        };
      }

  -- ---- one call

  pub InGroups-carried : (calls : Calls A) (calls' : Calls B) → CallsCarried calls calls' → (c : List A) (text : List ℕ) (i : List A) (gs : List (Group A)) (hs : List (Group B)) (o : Outcome A) → AllByRecursion Dom c → AllByRecursion Dom i → AllZip (SameGroup f Dom) gs hs → InGroups v calls c text i gs o → Arrives Dom o.issuer (InGroups w calls' (map f c) text (map f i) hs (outcome_f f o))
  InGroups-carried calls calls' k c text i [] [] o hc hi z d =
      let text_is = s.digest text in
      let ends : outcome_f f (outcome_end v text i) ≡ outcome_end w text (map f i) = λ j. record { hash = sym text_is j; issuer = map f i; tie = false; work = 0 } in
      record { in_domain = subst (λ (u : Outcome A). AllByRecursion Dom u.issuer) (sym d) hi; is_there = ap (outcome_f f) d ∙ ends }
  InGroups-carried calls calls' k c text i [] (h ∷ hs) o hc hi z d = absurd z
  InGroups-carried calls calls' k c text i (g ∷ gs) [] o hc hi z d = absurd z
  InGroups-carried calls calls' k c text i (g ∷ gs) (h ∷ hs) o hc hi z d =
      let x = IsChoice-carried calls calls' k c i g.members h.members d.choice hc hi z.0.inside z.0.members d.is_choice in
      let more = InGroups-carried calls calls' k c (text ++ (g.hash ++ d.choice.path)) d.choice.issuer gs hs d.rest hc x.in_domain z.1 d.goes_on in
      record {
        in_domain = subst (λ (u : Outcome A). AllByRecursion Dom u.issuer) (sym d.is) more.in_domain;
        is_there = record {
          choice = choice_f f d.choice;
          rest = outcome_f f d.rest;
          is_choice = x.is_there;
          goes_on = subst (λ e. InGroups w calls' (map f c) (text ++ (e ++ d.choice.path)) (map f d.choice.issuer) hs (outcome_f f d.rest)) (sym z.0.hash) more.is_there;
          is = ap (outcome_f f) d.is;
        };
      }

  pub IsCall-carried : (calls : Calls A) (calls' : Calls B) → CallsCarried calls calls' → (c : List A) → AllByRecursion Dom c → CallsCarried (IsCall v c calls) (IsCall w (map f c) calls')
  IsCall-carried calls calls' k c hc n i o dn hi d =
      let r = InGroups-carried calls calls' k c [] i (related_groups v c i n) (related_groups w (map f c) (map f i) (f n)) o hc hi (related_groups-carried c i n hc hi dn) d.groups in
      record { in_domain = r.in_domain; is_there = record { groups = r.is_there } }

  pub IsNDegreeWithin-carried : (c : List A) → AllByRecursion Dom c → (k : ℕ) → CallsCarried (IsNDegreeWithin v c k) (IsNDegreeWithin w (map f c) k)
  IsNDegreeWithin-carried c hc zero = λ n i o dn hi d. absurd d
  IsNDegreeWithin-carried c hc (suc k) = IsCall-carried (IsNDegreeWithin v c k) (IsNDegreeWithin w (map f c) k) (IsNDegreeWithin-carried c hc k) c hc

  call_arrives : (c : List A) (n : A) (i : List A) (o : Outcome A) → AllByRecursion Dom c → AllByRecursion Dom i → Dom n → IsNDegree v c n i o → Arrives Dom o.issuer (IsNDegree w (map f c) (f n) (map f i) (outcome_f f o))
  call_arrives c n i o hc hi dn d =
      let r = IsNDegreeWithin-carried c hc d.within n i o dn hi d.call in
      record { in_domain = r.in_domain; is_there = record { within = d.within; call = r.is_there } }

  -- A call is carried.
  pub IsNDegree-carried : (c : List A) (n : A) (i : List A) (o : Outcome A) → AllByRecursion Dom c → AllByRecursion Dom i → Dom n → IsNDegree v c n i o → IsNDegree w (map f c) (f n) (map f i) (outcome_f f o)
  IsNDegree-carried c n i o hc hi dn d = (call_arrives c n i o hc hi dn d).is_there

  -- and its issuer is within Dom
  pub IsNDegree-inside : (c : List A) (n : A) (i : List A) (o : Outcome A) → AllByRecursion Dom c → AllByRecursion Dom i → Dom n → IsNDegree v c n i o → AllByRecursion Dom o.issuer
  IsNDegree-inside c n i o hc hi dn d = (call_arrives c n i o hc hi dn d).in_domain
  -- ---- what a call answers

-- ---- the way back, along a map that undoes the first

module _ {A B : Type 0} (f : A → B) (Dom : A → Type 0) (v : Nodes A) (w : Nodes B) (s : Carries f Dom v w) (g : B → A) (Img : B → Type 0) (inside : (y : B) → Img y → Dom (g y)) (image : (x : A) → Dom x → Img (f x)) (back : (y : B) → Img y → f (g y) ≡ y) where
  undone : (x : A) → Dom x → g (f x) ≡ x
  undone x d = s.injective (g (f x)) x (inside (f x) (image x d)) d (back (f x) (image x d))

  related_there : (y : B) → Img y → IsPermutation (map (carried f) (v.related (g y))) (w.related y)
  related_there y h = subst (λ z. IsPermutation (map (carried f) (v.related (g y))) (w.related z)) (back y h) (s.related (g y) (inside y h))

  closed_back : (y : B) → Img y → All (λ (o : Occurrence B). Img o.blank) (w.related y)
  closed_back y h =
      All-permutation (λ (o : Occurrence B). Img o.blank) (map (carried f) (v.related (g y))) (w.related y) (related_there y h)
      (All-map (λ (o : Occurrence B). Img o.blank) (carried f) (v.related (g y))
      (All-weaker (λ (o : Occurrence A). Dom o.blank) (λ (o : Occurrence A). Img (f o.blank)) (λ o d. image o.blank d) (v.related (g y)) (s.closed (g y) (inside y h))))

  related_back : (y : B) → Img y → IsPermutation (map (carried g) (w.related y)) (v.related (g y))
  related_back y h =
      let os : List (Occurrence A) = v.related (g y) in
      let same : map (carried g) (map (carried f) os) ≡ os =
      map-map (carried g) (carried f) os
      ∙ map-agree (λ (o : Occurrence A). Dom o.blank) (λ o. carried g (carried f o)) (λ o. o) (λ o d. let e = undone o.blank d in λ j. record { position = o.position; predicate = o.predicate; blank = e j }) os
      (recursion_from_All (λ (o : Occurrence A). Dom o.blank) os (s.closed (g y) (inside y h)))
      ∙ map-id os in
      IsPermutation-sym os (map (carried g) (w.related y))
      (subst (λ l. IsPermutation l (map (carried g) (w.related y))) same (IsPermutation-map (carried g) (map (carried f) os) (w.related y) (related_there y h)))

  pub Carries-back : Carries g Img w v
  Carries-back = record {
    one_to_one = λ x y h k. sym (s.one_to_one (g x) (g y) (inside x h) (inside y k)) ∙ ap (λ z. w.same z (f (g y))) (back x h) ∙ ap (λ z. w.same x z) (back y k);
    injective = λ x y h k e. sym (back x h) ∙ ap f e ∙ back y k;
    digest = λ text. sym (s.digest text);
    first = λ y h. sym (s.first (g y) (inside y h)) ∙ ap w.first (back y h);
    closed = closed_back;
    related = related_back;
  }

  pub all-back : IsPermutation (map f v.all) w.all → AllByRecursion Dom v.all → IsPermutation (map g w.all) v.all
  all-back all h =
      let same : map g (map f v.all) ≡ v.all = map-map g f v.all ∙ map-agree Dom (λ x. g (f x)) (λ x. x) undone v.all h ∙ map-id v.all in
      IsPermutation-sym v.all (map g w.all) (subst (λ l. IsPermutation l (map g w.all)) same (IsPermutation-map g (map f v.all) w.all all))

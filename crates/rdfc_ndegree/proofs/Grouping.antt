-- Nodes grouped by hash: more at the end, a stable sort, and where the members come from.
use Rattle.std.proofs.Common.{◌≡◌, ℕ, suc, ◌+◌, ◌<◌, List, [], ◌∷◌, ◌++◌, map, filter, flat_map, length, replicate, get_or, take, take-suc, zero, append-nil, append_assoc, refl, sym, ap, ◌∙◌, subst, inl, inr, ⊎_elim, add-one, arith, Bool, true, false, cond, not, ◌&&◌}
use Rattle.std.specs.Prelude.{◌⊎◌, Contains}
use Rattle.std.specs.Str.{bytes_eq}
use Rattle.std.specs.List.{AllByRecursion}
use Rattle.std.specs.List.Sorted.{IsPermutation, IsStrictlySortedBy, IsSortedByKey, IsStableByKey, ties}
use Rattle.std.specs.Cmp.Lexicographic.{nat_list_cmp_total, nat_list_eq_equiv}
use Rattle.std.specs.Ordering.{is_le, is_lt, is_eq, ordering_reverse}
use Rattle.std.specs.declared.cmp.Ordering.TheVariants.{Less}
use Rattle.std.proofs.lemmas.Grind.{flat_map-append}
use Rattle.std.proofs.lemmas.List.Elements.{filter-append, recursion_from_All, All-replicate}
use Rattle.std.proofs.lemmas.List.{map-append, get_or-take, length-take-le, get_or_default}
use Rattle.std.proofs.lemmas.List.Sorted.{IsPermutation-to_front, IsPermutation-sym, IsPermutation-map, Contains-permutation, sorted_far, ranks_by}
use Rattle.base_types.specs.Order.{is_upto, put_once, sorted_set}
use Rattle.base_types.specs.Sets.{SameElements}
use Rattle.base_types.proofs.Lists.{Contains-here, Contains-there, Contains-cons_cases, Contains-nil, AllByRecursion-contains}
use Rattle.base_types.proofs.Orders.{text_cmp, is_upto-cmp, is_upto-refl, bytes_eq-cmp, by_cmp, less_upto, upto_if, bytes_eq-true, bytes_eq-same}
use Rattle.base_types.proofs.Rising.{rising-rises, rising-same, rising-free}
use Rattle.rdfc_ndegree.specs.Groups.{NodeHash, Group, group_of, groups_by_hash}
use Rattle.rdfc_ndegree.specs.Internal.Grouping.{group_of_one, add_to_groups, add_each, node_hash, node_hashes}
use Rattle.rdfc_ndegree.specs.declared.related.HashedNode.{HashedNode}
use Rattle.rdfc_ndegree.proofs.Permutations.{Each-append, Each-from_contains, IsPermutation-flat_map}

-- ---- comparisons of hashes

below-differs : (t u : List ℕ) → text_cmp t u ≡ Less → bytes_eq t u ≡ false
below-differs t u less = bytes_eq-cmp t u ∙ ap is_eq less

-- what ties by the order of hashes
ties-same : (t u : List ℕ) → (not (is_lt (text_cmp t u)) && not (is_lt (text_cmp u t))) ≡ bytes_eq u t
ties-same t u =
    let turned = nat_list_cmp_total.antisymm t u in let e = bytes_eq-cmp u t in
    by_cmp ((not (is_lt (text_cmp t u)) && not (is_lt (text_cmp u t))) ≡ bytes_eq u t) u t
    (λ f. let a = ap is_eq f in let b = ap is_lt f in let g = turned ∙ ap ordering_reverse f in let h = ap is_lt g in cc)
    (λ f. let a = ap is_eq f in let b = ap is_lt f in let g = turned ∙ ap ordering_reverse f in let h = ap is_lt g in cc)
    (λ f. let a = ap is_eq f in let b = ap is_lt f in let g = turned ∙ ap ordering_reverse f in let h = ap is_lt g in cc)

-- ---- filters

filter-push_yes : {X : Type 0} (p : X → Bool) (xs : List X) (y : X) → p y ≡ true → filter p (xs ++ y ∷ []) ≡ filter p xs ++ y ∷ []
filter-push_yes p [] y e = rw e refl
filter-push_yes p (x ∷ xs) y e = elim (p x) as (λ b. cond b (x ∷ filter p (xs ++ y ∷ [])) (filter p (xs ++ y ∷ [])) ≡ cond b (x ∷ filter p xs) (filter p xs) ++ y ∷ []) [ true ↦ ap (λ zs. x ∷ zs) (filter-push_yes p xs y e) | false ↦ filter-push_yes p xs y e ]

filter-push_no : {X : Type 0} (p : X → Bool) (xs : List X) (y : X) → p y ≡ false → filter p (xs ++ y ∷ []) ≡ filter p xs
filter-push_no p [] y e = rw e refl
filter-push_no p (x ∷ xs) y e = elim (p x) as (λ b. cond b (x ∷ filter p (xs ++ y ∷ [])) (filter p (xs ++ y ∷ [])) ≡ cond b (x ∷ filter p xs) (filter p xs)) [ true ↦ ap (λ zs. x ∷ zs) (filter-push_no p xs y e) | false ↦ filter-push_no p xs y e ]

filter-alike : {X : Type 0} (p q : X → Bool) (xs : List X) → ((x : X) → p x ≡ q x) → filter p xs ≡ filter q xs
filter-alike p q [] same = refl
filter-alike p q (x ∷ xs) same = let rest = filter-alike p q xs same in let e = same x in λ i. cond (e i) (x ∷ rest i) (rest i)

upto-less : (u t : List ℕ) → is_upto u t ≡ true → bytes_eq u t ≡ false → text_cmp u t ≡ Less
upto-less u t upto differ =
    by_cmp (text_cmp u t ≡ Less) u t
    (λ f. f)
    (λ f. let a = bytes_eq-cmp u t in let b = ap is_eq f in absurd (cc))
    (λ f. let a = is_upto-cmp u t in let b = ap is_le f in absurd (cc))

put_once-after : (t u : List ℕ) (us : List (List ℕ)) → text_cmp u t ≡ Less → put_once t (u ∷ us) ≡ u ∷ put_once t us
put_once-after t u us less =
    let a : bytes_eq t u ≡ false = nat_list_eq_equiv.symm t u ∙ below-differs u t less in
    let b : is_upto t u ≡ false = is_upto-cmp t u ∙ ap is_le (nat_list_cmp_total.antisymm t u ∙ ap ordering_reverse less) in
    rw (a, b) refl

-- ---- one node more, after all others

module _ {B : Type 0} where
  abbrev pub hashes : List (NodeHash B) → List (List ℕ)
  hashes hs = map (λ h. h.hash) hs

  abbrev pub with_hash : List ℕ → List (NodeHash B) → List (NodeHash B)
  with_hash t hs = filter (λ h. bytes_eq h.hash t) hs

  group-other : (done : List (NodeHash B)) (h : NodeHash B) (t : List ℕ) → bytes_eq h.hash t ≡ false → group_of (done ++ h ∷ []) t ≡ group_of done t
  group-other done h t e = ap (λ hs. record { hash = t; members = map (λ k. k.node) hs }) (filter-push_no (λ k. bytes_eq k.hash t) done h e)

  group-grown : (done : List (NodeHash B)) (h : NodeHash B) (t : List ℕ) → bytes_eq h.hash t ≡ true → group_of (done ++ h ∷ []) t ≡ record { hash = t; members = map (λ k. k.node) (with_hash t done) ++ h.node ∷ [] }
  group-grown done h t e =
      ap (λ ns. record { hash = t; members = ns }) (ap (map (λ k. k.node)) (filter-push_yes (λ k. bytes_eq k.hash t) done h e) ∙ map-append (λ k. k.node) (with_hash t done) (h ∷ []))

  group-first : (done : List (NodeHash B)) (h : NodeHash B) → with_hash h.hash done ≡ [] → group_of (done ++ h ∷ []) h.hash ≡ group_of_one h
  group-first done h none = group-grown done h h.hash (bytes_eq-same h.hash h.hash refl) ∙ ap (λ hs. record { hash = h.hash; members = map (λ k. k.node) hs ++ h.node ∷ [] }) none

  added-each : (done : List (NodeHash B)) (h : NodeHash B) (ts : List (List ℕ)) → IsStrictlySortedBy text_cmp ts → AllByRecursion (λ t. is_upto t h.hash ≡ true) ts → Contains ts h.hash ⊎ (with_hash h.hash done ≡ [])
      → add_to_groups (map (group_of done) ts) h ≡ map (group_of (done ++ h ∷ [])) (put_once h.hash ts)
  unfolding IsStrictlySortedBy
  added-each done h [] up all fresh = ⊎_elim (λ c. absurd (Contains-nil h.hash c)) (λ none. ap (λ g. g ∷ []) (sym (group-first done h none))) fresh
  added-each done h (u ∷ []) up all fresh = go (bytes_eq u h.hash) refl
    where
      go : (b : Bool) → bytes_eq u h.hash ≡ b → add_to_groups (map (group_of done) (u ∷ [])) h ≡ map (group_of (done ++ h ∷ [])) (put_once h.hash (u ∷ []))
      go true e =
          let back : bytes_eq h.hash u ≡ true = nat_list_eq_equiv.symm h.hash u ∙ e in
          let kept : put_once h.hash (u ∷ []) ≡ u ∷ [] = rw back refl in
          let grown : add_to_groups (map (group_of done) (u ∷ [])) h ≡ record { hash = u; members = map (λ k. k.node) (with_hash u done) ++ h.node ∷ [] } ∷ [] = rw e refl in
          grown ∙ ap (λ g. g ∷ []) (sym (group-grown done h u back)) ∙ ap (map (group_of (done ++ h ∷ []))) (sym kept)
      go false e =
          let back : bytes_eq h.hash u ≡ false = nat_list_eq_equiv.symm h.hash u ∙ e in
          let none : with_hash h.hash done ≡ [] = ⊎_elim (λ c. absurd (⊎_elim (λ s. let t = bytes_eq-same u u refl in let r : bytes_eq u h.hash ≡ true = subst (λ v. bytes_eq u v ≡ true) s t in cc) (λ d. Contains-nil h.hash d) (Contains-cons_cases u [] h.hash c))) (λ n. n) fresh in
          let after = put_once-after h.hash u [] (upto-less u h.hash all.0 e) in
          let apart : add_to_groups (map (group_of done) (u ∷ [])) h ≡ group_of done u ∷ group_of_one h ∷ [] = rw e refl in
          apart ∙ (λ i. sym (group-other done h u back) i ∷ sym (group-first done h none) i ∷ []) ∙ ap (map (group_of (done ++ h ∷ []))) (sym after)
  added-each done h (u ∷ w ∷ us) up all fresh =
      let less = less_upto u w h.hash up.0.0 all.1.0 in
      let differ = below-differs u h.hash less in
      let back : bytes_eq h.hash u ≡ false = nat_list_eq_equiv.symm h.hash u ∙ differ in
      let later : Contains (w ∷ us) h.hash ⊎ (with_hash h.hash done ≡ []) = ⊎_elim (λ c. ⊎_elim (λ s. let t = bytes_eq-same u u refl in let r : bytes_eq u h.hash ≡ true = subst (λ v. bytes_eq u v ≡ true) s t in absurd (cc)) (λ d. inl d) (Contains-cons_cases u (w ∷ us) h.hash c)) (λ n. inr n) fresh in
      let rest = added-each done h (w ∷ us) up.1 all.1 later in
      (λ i. sym (group-other done h u back) i ∷ rest i) ∙ ap (map (group_of (done ++ h ∷ []))) (sym (put_once-after h.hash u (w ∷ us) less))

  hash-there : (hs : List (NodeHash B)) (t : List ℕ) → Contains (hashes hs) t ⊎ (with_hash t hs ≡ [])
  hash-there [] t = inr refl
  hash-there (h ∷ hs) t = go (bytes_eq h.hash t) refl (hash-there hs t)
    where
      go : (b : Bool) → bytes_eq h.hash t ≡ b → Contains (hashes hs) t ⊎ (with_hash t hs ≡ []) → Contains (hashes (h ∷ hs)) t ⊎ (with_hash t (h ∷ hs) ≡ [])
      go true e rest = inl (subst (Contains (hashes (h ∷ hs))) (bytes_eq-true h.hash t e) (Contains-here h.hash (hashes hs)))
      go false e (inl c) = inl (Contains-there h.hash (hashes hs) t c)
      go false e (inr none) = inr (rw e none)

  all-upto : (hs : List (NodeHash B)) (t : List ℕ) → AllByRecursion (λ h. is_upto h.hash t ≡ true) hs → AllByRecursion (λ u. is_upto u t ≡ true) (hashes hs)
  all-upto [] t all = tt
  all-upto (h ∷ hs) t all = (all.0, all-upto hs t all.1)

  pub grouped-push : (done : List (NodeHash B)) (h : NodeHash B) → AllByRecursion (λ (d : NodeHash B). is_upto d.hash h.hash ≡ true) done → add_to_groups (groups_by_hash done) h ≡ groups_by_hash (done ++ h ∷ [])
  grouped-push done h all =
      let ts = hashes done in
      let same : SameElements (ts ++ h.hash ∷ []) (h.hash ∷ ts) = λ t. (Contains-permutation (ts ++ h.hash ∷ []) (h.hash ∷ ts) t (IsPermutation-to_front ts h.hash), Contains-permutation (h.hash ∷ ts) (ts ++ h.hash ∷ []) t (IsPermutation-sym _ _ (IsPermutation-to_front ts h.hash))) in
      let order : sorted_set (hashes (done ++ h ∷ [])) ≡ put_once h.hash (sorted_set ts) = ap sorted_set (map-append (λ k. k.hash) done (h ∷ [])) ∙ rising-free (ts ++ h.hash ∷ []) (h.hash ∷ ts) same in
      let below : AllByRecursion (λ t. is_upto t h.hash ≡ true) (sorted_set ts) = Each-from_contains (λ t. is_upto t h.hash ≡ true) (sorted_set ts) (λ t c. AllByRecursion-contains (λ u. is_upto u h.hash ≡ true) ts t (all-upto done h.hash all) ((rising-same ts t).0 c)) in
      let fresh : Contains (sorted_set ts) h.hash ⊎ (with_hash h.hash done ≡ []) = ⊎_elim (λ c. inl ((rising-same ts h.hash).1 c)) (λ n. inr n) (hash-there done h.hash) in
      added-each done h (sorted_set ts) (rising-rises ts) below fresh ∙ ap (map (group_of (done ++ h ∷ []))) (sym order)

  -- a node several times, after all others
  pub grouped-each : (n : ℕ) (done : List (NodeHash B)) (h : NodeHash B) → AllByRecursion (λ (d : NodeHash B). is_upto d.hash h.hash ≡ true) done → add_each (groups_by_hash done) (replicate n h) ≡ groups_by_hash (done ++ replicate n h)
  grouped-each zero done h all = ap groups_by_hash (sym (append-nil done))
  grouped-each (suc n) done h all =
      let more = Each-append (λ (d : NodeHash B). is_upto d.hash h.hash ≡ true) done (h ∷ []) all (is_upto-refl h.hash, tt) in
      ap (λ gs. add_each gs (replicate n h)) (grouped-push done h all) ∙ grouped-each n (done ++ h ∷ []) h more ∙ ap groups_by_hash (append_assoc done (h ∷ []) (replicate n h))

  -- ---- lists with the same nodes under each hash

  map-alike : (xs ys : List (NodeHash B)) (ts : List (List ℕ)) → ((t : List ℕ) → with_hash t xs ≡ with_hash t ys) → map (group_of xs) ts ≡ map (group_of ys) ts
  map-alike xs ys [] same = refl
  map-alike xs ys (t ∷ ts) same = let rest = map-alike xs ys ts same in λ i. record { hash = t; members = map (λ k. k.node) (same t i) } ∷ rest i

  pub grouped-alike : (xs ys : List (NodeHash B)) → SameElements (hashes xs) (hashes ys) → ((t : List ℕ) → with_hash t xs ≡ with_hash t ys) → groups_by_hash xs ≡ groups_by_hash ys
  grouped-alike xs ys same each = ap (map (group_of xs)) (rising-free (hashes xs) (hashes ys) same) ∙ map-alike xs ys (sorted_set (hashes ys)) each

  -- ---- whatever holds of all nodes holds of all members

  members-all : (P : B → Type 0) (p : NodeHash B → Bool) (hs : List (NodeHash B)) → AllByRecursion (λ (h : NodeHash B). P h.node) hs → AllByRecursion P (map (λ h. h.node) (filter p hs))
  members-all P p [] all = tt
  members-all P p (h ∷ hs) all = elim (p h) as (λ b. AllByRecursion P (map (λ k. k.node) (cond b (h ∷ filter p hs) (filter p hs)))) [ true ↦ (all.0, members-all P p hs all.1) | false ↦ members-all P p hs all.1 ]

  groups-all : (P : B → Type 0) (hs : List (NodeHash B)) (ts : List (List ℕ)) → AllByRecursion (λ (h : NodeHash B). P h.node) hs → AllByRecursion (λ (g : Group B). AllByRecursion P g.members) (map (group_of hs) ts)
  groups-all P hs [] all = tt
  groups-all P hs (t ∷ ts) all = (members-all P (λ h. bytes_eq h.hash t) hs all, groups-all P hs ts all)

  pub grouped-all : (P : B → Type 0) (hs : List (NodeHash B)) → AllByRecursion (λ (h : NodeHash B). P h.node) hs → AllByRecursion (λ (g : Group B). AllByRecursion P g.members) (groups_by_hash hs)
  grouped-all P hs all = groups-all P hs (sorted_set (hashes hs)) all

-- ---- what a stable sort leaves

filter-copies_yes : {X : Type 0} (p : X → Bool) (n : ℕ) (x : X) → p x ≡ true → filter p (replicate n x) ≡ replicate n x
filter-copies_yes p zero x e = refl
filter-copies_yes p (suc n) x e = rw e (ap (λ xs. x ∷ xs) (filter-copies_yes p n x e))

filter-copies_no : {X : Type 0} (p : X → Bool) (n : ℕ) (x : X) → p x ≡ false → filter p (replicate n x) ≡ []
filter-copies_no p zero x e = refl
filter-copies_no p (suc n) x e = rw e (filter-copies_no p n x e)

abbrev node_with_hash : List ℕ → List HashedNode → List HashedNode
node_with_hash t xs = filter (λ (h : HashedNode). bytes_eq h.hash t) xs

with-kept : (t : List ℕ) (xs : List HashedNode) → with_hash t (flat_map node_hashes xs) ≡ flat_map node_hashes (node_with_hash t xs)
with-kept t [] = refl
with-kept t (x ∷ xs) = filter-append is_with (node_hashes x) (flat_map node_hashes xs) ∙ (λ i. with_hash t (node_hashes x) ++ with-kept t xs i) ∙ go (bytes_eq x.hash t) refl
  where
    is_with : NodeHash ℕ → Bool
    is_with h = bytes_eq h.hash t

    go : (b : Bool) → bytes_eq x.hash t ≡ b → with_hash t (node_hashes x) ++ flat_map node_hashes (node_with_hash t xs) ≡ flat_map node_hashes (node_with_hash t (x ∷ xs))
    go true e = ap (λ hs. hs ++ flat_map node_hashes (node_with_hash t xs)) (filter-copies_yes is_with x.count (node_hash x) e) ∙ rw e refl
    go false e = ap (λ hs. hs ++ flat_map node_hashes (node_with_hash t xs)) (filter-copies_no is_with x.count (node_hash x) e) ∙ rw e refl

-- nodes have the same groups after a stable sort by hash
pub grouped-stable : (xs ys : List HashedNode) → IsPermutation xs ys → IsStableByKey (λ (h : HashedNode). h.hash) text_cmp xs ys → groups_by_hash (flat_map node_hashes ys) ≡ groups_by_hash (flat_map node_hashes xs)
grouped-stable xs ys moved stable = grouped-alike (flat_map node_hashes ys) (flat_map node_hashes xs) same each
  where
    node_with : List ℕ → HashedNode
    node_with t = record { hash = t; node = 0; count = 0 }

    tied : (t : List ℕ) (zs : List HashedNode) → filter (ties (λ (x y : HashedNode). is_lt (text_cmp x.hash y.hash)) (node_with t)) zs ≡ node_with_hash t zs
    tied t zs = filter-alike _ _ zs (λ (h : HashedNode). ties-same t h.hash)

    each : (t : List ℕ) → with_hash t (flat_map node_hashes ys) ≡ with_hash t (flat_map node_hashes xs)
    each t = with-kept t ys ∙ ap (flat_map node_hashes) (sym (tied t ys) ∙ stable (node_with t) ∙ tied t xs) ∙ sym (with-kept t xs)

    moved_hashes : IsPermutation (hashes (flat_map node_hashes xs)) (hashes (flat_map node_hashes ys))
    moved_hashes = IsPermutation-map (λ (h : NodeHash ℕ). h.hash) (flat_map node_hashes xs) (flat_map node_hashes ys) (IsPermutation-flat_map node_hashes xs ys moved)

    same : SameElements (hashes (flat_map node_hashes ys)) (hashes (flat_map node_hashes xs))
    same t = (Contains-permutation _ _ t (IsPermutation-sym _ _ moved_hashes), Contains-permutation _ _ t moved_hashes)

all-from : {X : Type 0} (P : X → Type 0) (xs : List X) (d : X) → ((i : ℕ) → i < length xs → P (get_or xs i d)) → AllByRecursion P xs
all-from P [] d each = tt
all-from P (x ∷ xs) d each = (each 0 (omega arith), all-from P xs d (λ i in'. each (suc i) (omega arith)))

all-kept : (P : NodeHash ℕ → Type 0) (xs : List HashedNode) → AllByRecursion (λ (h : HashedNode). P (node_hash h)) xs → AllByRecursion P (flat_map node_hashes xs)
all-kept P [] all = tt
all-kept P (x ∷ xs) all = Each-append P (node_hashes x) (flat_map node_hashes xs) (recursion_from_All P (node_hashes x) (All-replicate P x.count (node_hash x) all.0)) (all-kept P xs all.1)

-- of nodes in hash order, the next one added to the groups of the first k gives those of k + 1
pub grouped-next : (ys : List HashedNode) (k : ℕ) (h d : HashedNode) → k < length ys → h ≡ get_or ys k d → IsSortedByKey (λ (x : HashedNode). x.hash) text_cmp ys → add_each (groups_by_hash (flat_map node_hashes (take k ys))) (node_hashes h) ≡ groups_by_hash (flat_map node_hashes (take (k + 1) ys))
grouped-next ys k h d in' at up =
    let is : h ≡ get_or ys k h = at ∙ get_or_default ys k d h in' in
    let len : length (take k ys) ≡ k = length-take-le k ys (omega arith) in
    let far : (i : ℕ) → i < length (take k ys) → is_upto (get_or (take k ys) i h).hash h.hash ≡ true = λ i below.
    let low : i < k = omega (arith, len) in
    let seen : get_or (take k ys) i h ≡ get_or ys i h = get_or-take k ys i h low in
    let apart : is_lt (text_cmp (get_or ys k h).hash (get_or ys i h).hash) ≡ false = sorted_far (λ (x y : HashedNode). is_lt (text_cmp x.hash y.hash)) (ranks_by nat_list_cmp_total (λ (x : HashedNode). x.hash)) ys up i k h (omega arith) in' in
    let upto = upto_if (get_or ys i h).hash (get_or ys k h).hash apart in
    subst (λ (x : HashedNode). is_upto (get_or (take k ys) i h).hash x.hash ≡ true) (sym is) (subst (λ (x : HashedNode). is_upto x.hash (get_or ys k h).hash ≡ true) (sym seen) upto) in
    let all = all-kept (λ (d : NodeHash ℕ). is_upto d.hash h.hash ≡ true) (take k ys) (all-from (λ (x : HashedNode). is_upto x.hash h.hash ≡ true) (take k ys) h far) in
    let longer : take (k + 1) ys ≡ take k ys ++ h ∷ [] = rw add-one (take-suc ys k h in' ∙ ap (λ x. take k ys ++ x ∷ []) (sym is)) in
    let whole : flat_map node_hashes (take (k + 1) ys) ≡ flat_map node_hashes (take k ys) ++ node_hashes h =
    ap (flat_map node_hashes) longer ∙ flat_map-append node_hashes (take k ys) (h ∷ []) ∙ ap (λ hs. flat_map node_hashes (take k ys) ++ hs) (append-nil (node_hashes h)) in
    grouped-each h.count (flat_map node_hashes (take k ys)) (node_hash h) all ∙ ap groups_by_hash (sym whole)

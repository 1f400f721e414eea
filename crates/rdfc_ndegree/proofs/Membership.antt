-- Membership, issuers and groups.
use Rattle.std.proofs.Common.{◌≡◌, ℕ, suc, ◌+◌, ◌<◌, List, [], ◌∷◌, ◌++◌, map, length, get_or, filter, Contains, Bool, true, false, ◌||◌, cond, bytes_eq, refl, sym, ap, ◌∙◌, subst, inl, inr, ⊎_elim, ◌⊎◌, ◌↔◌, arith}
use Rattle.std.proofs.lemmas.Bool.{false≢true, or_left, or_right, cond_both}
use Rattle.std.proofs.lemmas.List.Folds.{list_any-append}
use Rattle.std.proofs.lemmas.List.Elements.{Contains-append_cases}
use Rattle.std.proofs.lemmas.Slice.Eq.{bytes_eq-Decides}
use Rattle.std.specs.List.{AllZip}
use Rattle.base_types.specs.Order.{sorted_set}
use Rattle.base_types.specs.Sets.{AllDiffer}
use Rattle.base_types.proofs.Lists.{Contains-here, Contains-there, Contains-cons_cases, Contains-nil, Contains-map, Contains-from_map}
use Rattle.base_types.proofs.Rising.{rising-same}
use Rattle.nquads.proofs.ReadingElements.{AllDiffer-cons, AllDiffer-head, AllDiffer-tail}
use Rattle.rdfc_ndegree.specs.Nodes.{Nodes}
use Rattle.rdfc_ndegree.specs.Internal.Nodes.{AreNodes}
use Rattle.rdfc_ndegree.specs.Issuers.{has, number, issue}
use Rattle.rdfc_ndegree.specs.Groups.{NodeHash, Group, group_of, groups_by_hash}

-- ---- membership

-- an element that passes the test stands in what the test leaves
pub Contains-filter : {X : Type 0} (p : X → Bool) (xs : List X) (x : X) → Contains xs x → p x ≡ true → Contains (filter p xs) x
Contains-filter p [] x m e = m
Contains-filter p (y ∷ ys) x m e = cond_both (p y) (y ∷ filter p ys) (filter p ys) (λ l. Contains l x) (λ t. at_true (Contains-filter p ys x)) (λ f. at_false f (Contains-filter p ys x))
  where
    at_true : (Contains ys x → p x ≡ true → Contains (filter p ys) x) → Contains (y ∷ filter p ys) x
    at_true h = ⊎_elim (λ s. subst (Contains (y ∷ filter p ys)) s (Contains-here y (filter p ys))) (λ n. Contains-there y (filter p ys) x (h n e)) (Contains-cons_cases y ys x m)

    at_false : p y ≡ false → (Contains ys x → p x ≡ true → Contains (filter p ys) x) → Contains (filter p ys) x
    at_false f h = ⊎_elim (λ s. absurd (false≢true (sym f ∙ ap p s ∙ e))) (λ n. h n e) (Contains-cons_cases y ys x m)

-- what the test leaves stood in the list and passes
pub Contains-from_filter : {X : Type 0} (p : X → Bool) (xs : List X) (x : X) → Contains (filter p xs) x → Contains xs x × (p x ≡ true)
Contains-from_filter p [] x m = absurd (Contains-nil x m)
Contains-from_filter p (y ∷ ys) x m = go (p y) refl m (Contains-from_filter p ys x)
  where
    go : (b : Bool) → p y ≡ b → Contains (cond b (y ∷ filter p ys) (filter p ys)) x → (Contains (filter p ys) x → Contains ys x × (p x ≡ true)) → Contains (y ∷ ys) x × (p x ≡ true)
    go true e n h = ⊎_elim (λ s. (subst (Contains (y ∷ ys)) s (Contains-here y ys), ap p (sym s) ∙ e)) (λ k. (Contains-there y ys x (h k).0, (h k).1)) (Contains-cons_cases y (filter p ys) x n)
    go false e n h = (Contains-there y ys x (h n).0, (h n).1)

-- two lists without repeats and with nothing in common have no repeats together
pub AllDiffer-append : {X : Type 0} (xs ys : List X) → AllDiffer xs → AllDiffer ys → ((x : X) → Contains xs x → Contains ys x → ⊥) → AllDiffer (xs ++ ys)
AllDiffer-append [] ys a b n = b
AllDiffer-append (x ∷ xs) ys a b n =
    AllDiffer-cons x (xs ++ ys)
    (λ m. ⊎_elim (λ k. AllDiffer-head x xs a k) (λ k. n x (Contains-here x xs) k) (Contains-append_cases xs ys x m))
    (AllDiffer-append xs ys (AllDiffer-tail x xs a) b (λ y k l. n y (Contains-there x xs y k) l))

-- the element at the same place in the other list
pub AllZip-from_left : {X Y : Type 0} (R : X → Y → Type 0) (xs : List X) (ys : List Y) (x : X) → AllZip R xs ys → Contains xs x → (y : Y) × Contains ys y × R x y
AllZip-from_left R [] ys x z m = absurd (Contains-nil x m)
AllZip-from_left R (a ∷ as') [] x z m = absurd z
AllZip-from_left R (a ∷ as') (b ∷ bs) x z m =
    ⊎_elim (λ s. (b, Contains-here b bs, subst (λ w. R w b) s z.0))
    (λ n. let r = AllZip-from_left R as' bs x z.1 n in (r.0, Contains-there b bs r.0 r.1, r.2))
    (Contains-cons_cases a as' x m)

-- each element of the second list has its partner in the first
pub AllZip-from_right : {X Y : Type 0} (R : X → Y → Type 0) (xs : List X) (ys : List Y) (y : Y) → AllZip R xs ys → Contains ys y → (x : X) × Contains xs x × R x y
AllZip-from_right R xs [] y z m = absurd (Contains-nil y m)
AllZip-from_right R [] (b ∷ bs) y z m = absurd z
AllZip-from_right R (a ∷ as') (b ∷ bs) y z m =
    ⊎_elim (λ s. (a, Contains-here a as', subst (R a) s z.0))
    (λ n. let r = AllZip-from_right R as' bs y z.1 n in (r.0, Contains-there a as' r.0 r.1, r.2))
    (Contains-cons_cases b bs y m)

-- a weaker relation holds pairwise too
pub AllZip-weaker : {X Y : Type 0} (R S : X → Y → Type 0) (xs : List X) (ys : List Y) → ((x : X) (y : Y) → Contains xs x → R x y → S x y) → AllZip R xs ys → AllZip S xs ys
AllZip-weaker R S [] [] h z = tt
AllZip-weaker R S [] (y ∷ ys) h z = absurd z
AllZip-weaker R S (x ∷ xs) [] h z = absurd z
AllZip-weaker R S (x ∷ xs) (y ∷ ys) h z = (h x y (Contains-here x xs) z.0, AllZip-weaker R S xs ys (λ w v c r. h w v (Contains-there x xs w c) r) z.1)

-- what holds pairwise of two pairs of lists holds of them joined
pub AllZip-append : {X Y : Type 0} (R : X → Y → Type 0) (xs us : List X) (ys vs : List Y) → AllZip R xs ys → AllZip R us vs → AllZip R (xs ++ us) (ys ++ vs)
AllZip-append R [] us [] vs z w = w
AllZip-append R [] us (b ∷ bs) vs z w = absurd z
AllZip-append R (a ∷ as') us [] vs z w = absurd z
AllZip-append R (a ∷ as') us (b ∷ bs) vs z w = (z.0, AllZip-append R as' us bs vs z.1 w)

-- ---- issuers

module _ {B : Type 0} (v : Nodes B) where
  pub same-itself : AreNodes v → (x : B) → v.same x x ≡ true
  same-itself laws x = (laws.equal x x).1 refl

  pub has-cons : (m : B) (ms : List B) (n : B) → has v (m ∷ ms) n ≡ (v.same m n || has v ms n)
  has-cons m ms n = refl

  pub Contains-from_has : AreNodes v → (i : List B) (n : B) → has v i n ≡ true → Contains i n
  Contains-from_has laws [] n e = absurd (false≢true e)
  Contains-from_has laws (m ∷ ms) n e = go (v.same m n) refl e (Contains-from_has laws ms n)
    where
      go : (b : Bool) → v.same m n ≡ b → (b || has v ms n) ≡ true → (has v ms n ≡ true → Contains ms n) → Contains (m ∷ ms) n
      go true s e h = subst (Contains (m ∷ ms)) ((laws.equal m n).0 s) (Contains-here m ms)
      go false s e h = Contains-there m ms n (h e)

  pub has-from_contains : AreNodes v → (i : List B) (n : B) → Contains i n → has v i n ≡ true
  has-from_contains laws [] n m = absurd (Contains-nil n m)
  has-from_contains laws (x ∷ xs) n m =
      ⊎_elim (λ e. or_left (v.same x n) (has v xs n) ((laws.equal x n).1 e))
      (λ k. or_right (v.same x n) (has v xs n) (has-from_contains laws xs n k))
      (Contains-cons_cases x xs n m)

  pub has-Contains : AreNodes v → (i : List B) (n : B) → (has v i n ≡ true) ↔ Contains i n
  has-Contains laws i n = (Contains-from_has laws i n, has-from_contains laws i n)

  pub has-append : (i j : List B) (n : B) → has v (i ++ j) n ≡ (has v i n || has v j n)
  has-append i j n = list_any-append (λ m. v.same m n) i j

  pub has-append_left : (i j : List B) (n : B) → has v i n ≡ true → has v (i ++ j) n ≡ true
  has-append_left i j n e = has-append i j n ∙ or_left (has v i n) (has v j n) e

  pub has-append_right : (i j : List B) (n : B) → has v j n ≡ true → has v (i ++ j) n ≡ true
  has-append_right i j n e = has-append i j n ∙ or_right (has v i n) (has v j n) e

  pub has-issue : AreNodes v → (i : List B) (n : B) → has v (issue v i n) n ≡ true
  has-issue laws i n =
      cond_both (has v i n) i (i ++ n ∷ []) (λ j. has v j n ≡ true) (λ e. e)
      (λ e. has-append_right i (n ∷ []) n (or_left (v.same n n) false (same-itself laws n)))

  -- what is in the issuer after naming n was there, or is n
  pub Contains-issue_cases : (i : List B) (n x : B) → Contains (issue v i n) x → Contains i x ⊎ (n ≡ x)
  Contains-issue_cases i n x m = go (has v i n) m
    where
      single : Contains (n ∷ []) x → n ≡ x
      single k = ⊎_elim (λ e. e) (λ l. absurd (Contains-nil x l)) (Contains-cons_cases n [] x k)

      go : (b : Bool) → Contains (cond b i (i ++ n ∷ [])) x → Contains i x ⊎ (n ≡ x)
      go true k = inl k
      go false k = ⊎_elim (λ l. inl l) (λ l. inr (single l)) (Contains-append_cases i (n ∷ []) x k)

-- ---- the number of a node in an issuer

module _ {B : Type 0} (v : Nodes B) where
  pub number-below : (i : List B) (n : B) → has v i n ≡ true → number v i n < length i
  number-below [] n e = absurd (false≢true e)
  number-below (m ∷ ms) n e = go (v.same m n) e (number-below ms n)
    where
      go : (b : Bool) → (b || has v ms n) ≡ true → (has v ms n ≡ true → number v ms n < length ms) → cond b 0 (1 + number v ms n) < length (m ∷ ms)
      go true f h = omega arith
      go false f h = let rest : number v ms n < length ms = h f in omega arith

  -- a number stays as the issuer goes on
  pub number-append : (i j : List B) (n : B) → has v i n ≡ true → number v (i ++ j) n ≡ number v i n
  number-append [] j n e = absurd (false≢true e)
  number-append (m ∷ ms) j n e = go (v.same m n) e (number-append ms j n)
    where
      go : (b : Bool) → (b || has v ms n) ≡ true → (has v ms n ≡ true → number v (ms ++ j) n ≡ number v ms n) → cond b 0 (1 + number v (ms ++ j) n) ≡ cond b 0 (1 + number v ms n)
      go true f h = refl
      go false f h = ap (λ k. 1 + k) (h f)

  pub number-new : AreNodes v → (i : List B) (n : B) → has v i n ≡ false → number v (i ++ n ∷ []) n ≡ length i
  number-new laws [] n e = rw (same-itself v laws n) refl
  number-new laws (m ∷ ms) n e = go (v.same m n) e (number-new laws ms n)
    where
      go : (b : Bool) → (b || has v ms n) ≡ false → (has v ms n ≡ false → number v (ms ++ n ∷ []) n ≡ length ms) → cond b 0 (1 + number v (ms ++ n ∷ []) n) ≡ length (m ∷ ms)
      go true f h = absurd (false≢true (sym f))
      go false f h = let rest : number v (ms ++ n ∷ []) n ≡ length ms = h f in omega arith

  pub number-issue : (i : List B) (n m : B) → has v i n ≡ true → number v (issue v i m) n ≡ number v i n
  number-issue i n m e = cond_both (has v i m) i (i ++ m ∷ []) (λ j. number v j n ≡ number v i n) (λ _. refl) (λ _. number-append i (m ∷ []) n e)

  -- the node with a number
  pub number-at : AreNodes v → (i : List B) (n d : B) → has v i n ≡ true → get_or i (number v i n) d ≡ n
  number-at laws [] n d e = absurd (false≢true e)
  number-at laws (m ∷ ms) n d e = go (v.same m n) refl e (number-at laws ms n d)
    where
      go : (b : Bool) → v.same m n ≡ b → (b || has v ms n) ≡ true → (has v ms n ≡ true → get_or ms (number v ms n) d ≡ n) → get_or (m ∷ ms) (cond b 0 (1 + number v ms n)) d ≡ n
      go true s f h = (laws.equal m n).0 s
      go false s f h = let next : 1 + number v ms n ≡ suc (number v ms n) = omega arith in ap (λ k. get_or (m ∷ ms) k d) next ∙ h f

  pub number-once : AreNodes v → (i : List B) (n m : B) → has v i n ≡ true → has v i m ≡ true → number v i n ≡ number v i m → n ≡ m
  number-once laws i n m e f same = sym (number-at laws i n n e) ∙ ap (λ k. get_or i k n) same ∙ number-at laws i m n f

-- ---- groups

-- a member of a group is a node of which the group's hash was taken
pub record IsHashed {B : Type 0} (hs : List (NodeHash B)) (hash : List ℕ) (m : B) : Type 0 where
  pub of : NodeHash B
  pub within : Contains hs of
  pub hash_is : of.hash ≡ hash
  pub node_is : of.node ≡ m

-- a member of the group of a hash has that hash
pub group_of-member : {B : Type 0} (hs : List (NodeHash B)) (hash : List ℕ) (m : B) → Contains (group_of hs hash).members m → IsHashed hs hash m
group_of-member {B} hs hash m k =
    let found = Contains-from_map (λ (h : NodeHash B). h.node) (filter (λ h. bytes_eq h.hash hash) hs) m k in
    let passed = Contains-from_filter (λ h. bytes_eq h.hash hash) hs found.0 found.1 in
    record { of = found.0; within = passed.0; hash_is = (bytes_eq-Decides found.0.hash hash).0 passed.1; node_is = found.2 }

-- a node stands in the group of its hash
pub member-group_of : {B : Type 0} (hs : List (NodeHash B)) (h : NodeHash B) → Contains hs h → Contains (group_of hs h.hash).members h.node
member-group_of {B} hs h k =
    Contains-map (λ (g : NodeHash B). g.node) (filter (λ g. bytes_eq g.hash h.hash) hs) h (Contains-filter (λ g. bytes_eq g.hash h.hash) hs h k ((bytes_eq-Decides h.hash h.hash).1 refl))

-- a member of one of the groups has the hash of that group
pub grouped-member : {B : Type 0} (hs : List (NodeHash B)) (g : Group B) (m : B) → Contains (groups_by_hash hs) g → Contains g.members m → IsHashed hs g.hash m
grouped-member {B} hs g m k l =
    let found = Contains-from_map (group_of hs) (sorted_set (map (λ (h : NodeHash B). h.hash) hs)) g k in
    subst (λ (z : Group B). IsHashed hs z.hash m) found.2 (group_of-member hs found.0 m (subst (λ (z : Group B). Contains z.members m) (sym found.2) l))

-- each hash has its group
pub grouped-has : {B : Type 0} (hs : List (NodeHash B)) (h : NodeHash B) → Contains hs h → Contains (groups_by_hash hs) (group_of hs h.hash)
grouped-has {B} hs h k =
    Contains-map (group_of hs) (sorted_set (map (λ (g : NodeHash B). g.hash) hs)) h.hash ((rising-same (map (λ (g : NodeHash B). g.hash) hs) h.hash).1 (Contains-map (λ (g : NodeHash B). g.hash) hs h k))

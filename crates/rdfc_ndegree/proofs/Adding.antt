-- Nodes more in the groups, as the program adds them.
use Rattle.std.proofs.Common.{◌≡◌, ℕ, zero, suc, ◌+◌, ◌<◌, List, [], ◌∷◌, ◌++◌, map, length, replicate, get_or, set, refl, sym, ap, ◌∙◌, arith, true, false, append-nil, append_assoc}
use Rattle.std.specs.Str.{bytes_eq}
use Rattle.std.specs.Prelude.{if◌then◌else◌}
use Rattle.std.proofs.lemmas.List.{length-map, get_or-map, map-append, map-set}
use Rattle.base_types.proofs.Orders.{bytes_eq-same}
use Rattle.rdfc_ndegree.specs.Groups.{NodeHash, Group}
use Rattle.rdfc_ndegree.specs.Internal.Grouping.{group_of_one, add_to_groups, add_each, last_has_hash, node_hash, node_hashes}
use Rattle.rdfc_ndegree.specs.Table.{group_in}
use Rattle.rdfc_ndegree.specs.declared.related.HashedNode.{HashedNode}
use Rattle.rdfc_ndegree.specs.declared.related.NodeGroup.{NodeGroup}

abbrev grown : Group ℕ → List ℕ → Group ℕ
grown g ns = record { hash = g.hash; members = g.members ++ ns }

-- ---- the groups but the last stay

added-under : (f : Group ℕ) (gs : List (Group ℕ)) (h : NodeHash ℕ) → 0 < length gs → add_to_groups (f ∷ gs) h ≡ f ∷ add_to_groups gs h
added-under f [] h some = absurd (omega arith)
added-under f (g ∷ gs) h some = refl

added-some : (gs : List (Group ℕ)) (h : NodeHash ℕ) → 0 < length (add_to_groups gs h)
added-some [] h = omega arith
added-some (f ∷ []) h = elim (bytes_eq f.hash h.hash) as (λ b. 0 < length (if b then grown f (h.node ∷ []) ∷ [] else (f ∷ (group_of_one h ∷ [])))) [ true ↦ omega arith | false ↦ omega arith ]
added-some (f ∷ e ∷ gs) h = omega arith

each-under : (f : Group ℕ) (gs : List (Group ℕ)) (hs : List (NodeHash ℕ)) → 0 < length gs → add_each (f ∷ gs) hs ≡ f ∷ add_each gs hs
each-under f gs [] some = refl
each-under f gs (h ∷ hs) some = ap (λ es. add_each es hs) (added-under f gs h some) ∙ each-under f (add_to_groups gs h) hs (added-some gs h)

-- ---- the last one grows, or a new one comes to the end

each-alone : (n : ℕ) (g : Group ℕ) (h : NodeHash ℕ) → bytes_eq g.hash h.hash ≡ true → add_each (g ∷ []) (replicate n h) ≡ grown g (replicate n h.node) ∷ []
each-alone zero g h same = ap (λ ms. record { hash = g.hash; members = ms } ∷ []) (sym (append-nil g.members))
each-alone (suc n) g h same =
    let first : add_to_groups (g ∷ []) h ≡ grown g (h.node ∷ []) ∷ [] = rw same refl in
    ap (λ gs. add_each gs (replicate n h)) first ∙ each-alone n (grown g (h.node ∷ [])) h same
    ∙ ap (λ ms. record { hash = g.hash; members = ms } ∷ []) (append_assoc g.members (h.node ∷ []) (replicate n h.node))

each-old : (n : ℕ) (gs : List (Group ℕ)) (h : NodeHash ℕ) (k : ℕ) (g : Group ℕ) → last_has_hash gs h.hash ≡ true → k + 1 ≡ length gs → g ≡ get_or gs k g → add_each gs (replicate n h) ≡ set gs k (grown g (replicate n h.node))
each-old n [] h k g ends last is = absurd (cc)
each-old n (f ∷ []) h zero g ends last is = each-alone n f h ends ∙ ap (λ e. grown e (replicate n h.node) ∷ []) (sym is)
each-old n (f ∷ []) h (suc k) g ends last is = absurd (omega arith)
each-old n (f ∷ e ∷ gs) h zero g ends last is = absurd (omega arith)
each-old n (f ∷ e ∷ gs) h (suc k) g ends last is =
    each-under f (e ∷ gs) (replicate n h) (omega arith) ∙ ap (λ es. f ∷ es) (each-old n (e ∷ gs) h k g ends (omega arith) is)

each-new : (n : ℕ) (gs : List (Group ℕ)) (h : NodeHash ℕ) → last_has_hash gs h.hash ≡ false → add_each gs (h ∷ replicate n h) ≡ gs ++ record { hash = h.hash; members = h.node ∷ replicate n h.node } ∷ []
each-new n [] h ends = each-alone n (group_of_one h) h (bytes_eq-same h.hash h.hash refl)
each-new n (f ∷ []) h ends =
    let first : add_to_groups (f ∷ []) h ≡ f ∷ (group_of_one h ∷ []) = rw ends refl in
    ap (λ gs. add_each gs (replicate n h)) first ∙ each-under f (group_of_one h ∷ []) (replicate n h) (omega arith)
    ∙ ap (λ es. f ∷ es) (each-alone n (group_of_one h) h (bytes_eq-same h.hash h.hash refl))
each-new n (f ∷ e ∷ gs) h ends = each-under f (e ∷ gs) (h ∷ replicate n h) (omega arith) ∙ ap (λ es. f ∷ es) (each-new n (e ∷ gs) h ends)

each-new_of : (n : ℕ) (gs : List (Group ℕ)) (h : NodeHash ℕ) → (n ≡ 0 → ⊥) → last_has_hash gs h.hash ≡ false → add_each gs (replicate n h) ≡ gs ++ record { hash = h.hash; members = replicate n h.node } ∷ []
each-new_of zero gs h some ends = absurd (some refl)
each-new_of (suc n) gs h some ends = each-new n gs h ends

-- a node that is counted zero times changes nothing
pub groups-same : (gs : List NodeGroup) (h : HashedNode) → h.count ≡ 0 → map group_in gs ≡ add_each (map group_in gs) (node_hashes h)
groups-same gs h none = ap (λ n. add_each (map group_in gs) (replicate n (node_hash h))) (sym none)

-- the last group grows
pub groups-grown : (gs : List NodeGroup) (h : HashedNode) (k : ℕ) (g : NodeGroup) (members : List ℕ) → last_has_hash (map group_in gs) h.hash ≡ true → k + 1 ≡ length gs → g ≡ get_or gs k g → members ≡ g.members ++ replicate h.count h.node
    → map group_in (set gs k (record { hash = g.hash; members = members })) ≡ add_each (map group_in gs) (node_hashes h)
groups-grown gs h k g members ends last is more =
    let len : k + 1 ≡ length (map group_in gs) = last ∙ sym (length-map gs group_in) in
    let seen : group_in g ≡ get_or (map group_in gs) k (group_in g) = ap group_in is ∙ sym (get_or-map group_in gs k g (group_in g) (omega arith)) in
    map-set group_in gs k (record { hash = g.hash; members = members })
    ∙ ap (λ ms. set (map group_in gs) k (record { hash = g.hash; members = ms })) more
    ∙ sym (each-old h.count (map group_in gs) (node_hash h) k (group_in g) ends len seen)

-- a new group comes to the end
pub groups-new : (gs new : List NodeGroup) (h : HashedNode) (g : NodeGroup) (fresh : List ℕ) → (h.count ≡ 0 → ⊥) → last_has_hash (map group_in gs) h.hash ≡ false → new ≡ gs ++ g ∷ [] → g.hash ≡ h.hash → g.members ≡ fresh ++ replicate h.count h.node → fresh ≡ []
    → map group_in new ≡ add_each (map group_in gs) (node_hashes h)
groups-new gs new h g fresh some ends is hash members empty =
    ap (map group_in) is ∙ map-append group_in gs (g ∷ [])
    ∙ (λ i. map group_in gs ++ record { hash = hash i; members = (members ∙ ap (λ f. f ++ replicate h.count h.node) empty) i } ∷ [])
    ∙ sym (each-new_of h.count (map group_in gs) (node_hash h) some ends)

-- where group k is the last, whether the last group has the hash is whether group k has it
pub ends_with-last : (gs : List NodeGroup) (hash : List ℕ) (k : ℕ) (g : NodeGroup) → k + 1 ≡ length gs → g ≡ get_or gs k g → last_has_hash (map group_in gs) hash ≡ bytes_eq g.hash hash
ends_with-last [] hash k g last is = absurd (omega arith)
ends_with-last (f ∷ []) hash zero g last is = ap (λ (e : NodeGroup). bytes_eq e.hash hash) (sym is)
ends_with-last (f ∷ []) hash (suc k) g last is = absurd (omega arith)
ends_with-last (f ∷ e ∷ gs) hash zero g last is = absurd (omega arith)
ends_with-last (f ∷ e ∷ gs) hash (suc k) g last is = ends_with-last (e ∷ gs) hash k g (omega arith) is

-- where there are no groups, no last one has the hash
pub ends_with-none : (gs : List NodeGroup) (hash : List ℕ) → length gs ≡ 0 → last_has_hash (map group_in gs) hash ≡ false
ends_with-none [] hash none = refl
ends_with-none (g ∷ gs) hash none = absurd (omega arith)

pub ruleset ending = (ends_with-last, ends_with-none)

pub ruleset adding = (groups-same, groups-grown, groups-new)

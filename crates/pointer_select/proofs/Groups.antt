-- What the pointed places go on with below each child, gathered in one pass.
use Rattle.std.proofs.Common.{◌≡◌, ◌<◌, ◌≤◌, ◌+◌, ℕ, zero, suc, Bool, true, false, List, [], ◌∷◌, ◌++◌, map, length, take, get_or, set, Some, None, if◌then◌else◌, refl, sym, ap, ◌∙◌, arith, append-nil}
use Rattle.std.specs.List.{cons_option}
use Rattle.std.proofs.lemmas.List.{length-append, length-map, get_or-map, map-append, map-set, take_more}
use Rattle.std.proofs.lemmas.List.Elements.{filter_map-append}
use denote.Ref.{Bor}
use Rattle.json_tree.specs.declared.place.Step.{Step}
use Rattle.pointer_select.specs.Internal.Parts.{is_step, after_step, after_steps, StandsOnly, empties, with_after, slices, groups_now}

-- ---- empty groups

-- one empty group more
pub empties_more : {A : Type 0} (n : ℕ) → empties {A = A} n ++ [] ∷ [] ≡ empties (suc n)
empties_more zero = refl
empties_more (suc n) = ap (λ gs. [] ∷ gs) (empties_more n)

-- one more
pub filled_more : {A : Type 0} (groups new : List (List A)) (g : List A) → groups ≡ empties (length groups) → g ≡ [] → new ≡ groups ++ g ∷ [] → new ≡ empties (length new)
filled_more groups new g is empty longer =
    let counted : length new ≡ suc (length groups) = omega (arith, ap length longer, length-append groups (g ∷ [])) in
    longer ∙ ap (λ h. groups ++ h ∷ []) empty ∙ ap (λ gs. gs ++ [] ∷ []) is ∙ empties_more (length groups) ∙ ap empties (sym counted)

-- no more than wanted
pub filled_length : {A : Type 0} (groups new : List (List A)) (g : List A) (count : ℕ) → length groups < count → new ≡ groups ++ g ∷ [] → length new ≤ count
filled_length groups new g count short longer = omega (arith, ap length longer, length-append groups (g ∷ []))

-- as many as wanted
pub filled_all : {A : Type 0} (groups : List (List A)) (count n : ℕ) → groups ≡ empties (length groups) → length groups ≤ count → n ≡ length groups → count ≤ n → groups ≡ empties count
filled_all groups count n is within counted all =
    let e : length groups ≡ count = omega arith in
    is ∙ ap empties e

pub ruleset filling = (filled_more, filled_length, filled_all)

-- ---- one place more

after_false : (first s : Step) (rest : List Step) (g : List (List Step)) → is_step first s ≡ false → g ++ after_steps s ((first ∷ rest) ∷ []) ≡ g
after_false first s rest g h = ap (λ (b : Bool). g ++ cons_option (if b then Some rest else None) []) h ∙ append-nil g

after_true : (first s : Step) (rest : List Step) (g : List (List Step)) → is_step first s ≡ true → g ++ after_steps s ((first ∷ rest) ∷ []) ≡ g ++ rest ∷ []
after_true first s rest g h = ap (λ (b : Bool). g ++ cons_option (if b then Some rest else None) []) h

-- to no child
added_none : (first : Step) (rest : List Step) (ss : List Step) (gs : List (List (List Step))) → StandsOnly first ss None → length gs ≡ length ss → with_after (first ∷ rest) ss gs ≡ gs
added_none first rest [] gs h same = refl
added_none first rest (s ∷ ss) [] h same = absurd (omega arith)
added_none first rest (s ∷ ss) (g ∷ gs) h same =
    let head = after_false first s rest g h.0 in
    let tail = added_none first rest ss gs h.1 (omega arith) in
    (λ k. head k ∷ tail k)

-- to one
added_at : (first : Step) (rest : List Step) (ss : List Step) (gs : List (List (List Step))) (at : ℕ) (d : List (List Step)) → StandsOnly first ss (Some at) → length gs ≡ length ss → with_after (first ∷ rest) ss gs ≡ set gs at (get_or gs at d ++ rest ∷ [])
added_at first rest [] gs at d h same = absurd h
added_at first rest (s ∷ ss) [] at d h same = absurd (omega arith)
added_at first rest (s ∷ ss) (g ∷ gs) zero d h same =
    let head = after_true first s rest g h.0 in
    let tail = added_none first rest ss gs h.1 (omega arith) in
    (λ k. head k ∷ tail k)
added_at first rest (s ∷ ss) (g ∷ gs) (suc at) d h same =
    let head = after_false first s rest g h.0 in
    let tail = added_at first rest ss gs at d h.1 (omega arith) in
    (λ k. head k ∷ tail k)

added_end : (ss : List Step) (gs : List (List (List Step))) → length gs ≡ length ss → with_after [] ss gs ≡ gs
added_end [] gs same = refl
added_end (s ∷ ss) [] same = absurd (omega arith)
added_end (s ∷ ss) (g ∷ gs) same =
    let head = append-nil g in
    let tail = added_end ss gs (omega arith) in
    (λ k. head k ∷ tail k)

now_length : (gs : List (List (Bor (List Step)))) → length (groups_now gs) ≡ length gs
now_length gs = length-map gs slices

-- the place ends here, leads to no child, or leads to one, whose group grows
pub group_end : (gs : List (List (Bor (List Step)))) (place ss : List Step) → place ≡ [] → length gs ≡ length ss → groups_now gs ≡ with_after place ss (groups_now gs)
group_end gs place ss none same = sym (ap (λ p. with_after p ss (groups_now gs)) none ∙ added_end ss (groups_now gs) (now_length gs ∙ same))

-- the place leads to no child
pub group_none : (gs : List (List (Bor (List Step)))) (place ss rest : List Step) (first : Step) → place ≡ first ∷ rest → StandsOnly first ss None → length gs ≡ length ss → groups_now gs ≡ with_after place ss (groups_now gs)
group_none gs place ss rest first is h same = sym (ap (λ p. with_after p ss (groups_now gs)) is ∙ added_none first rest ss (groups_now gs) h (now_length gs ∙ same))

-- the group of the child to which it leads grows
pub group_grown : (gs : List (List (Bor (List Step)))) (at : ℕ) (g new : List (Bor (List Step))) (rest : Bor (List Step)) (place ss : List Step) (first : Step) → g ≡ get_or gs at g → new ≡ g ++ rest ∷ [] → at < length gs → place ≡ first ∷ rest.now → StandsOnly first ss (Some at) → length gs ≡ length ss → groups_now (set gs at new) ≡ with_after place ss (groups_now gs)
group_grown gs at g new rest place ss first there longer within is h same =
    let seen : slices g ≡ get_or (groups_now gs) at (slices g) = ap slices there ∙ sym (get_or-map slices gs at g (slices g) within) in
    map-set slices gs at new
    ∙ ap (set (groups_now gs) at) (ap slices longer ∙ map-append (λ (s : Bor (List Step)). s.now) g (rest ∷ []) ∙ ap (λ ps. ps ++ rest.now ∷ []) seen)
    ∙ sym (ap (λ p. with_after p ss (groups_now gs)) is ∙ added_at first rest.now ss (groups_now gs) at (slices g) h (now_length gs ∙ same))

-- a step that stands somewhere stands within the list
pub only_within : (step : Step) (ss : List Step) (at : ℕ) → StandsOnly step ss (Some at) → at < length ss
only_within step [] at h = absurd h
only_within step (s ∷ ss) zero h = omega arith
only_within step (s ∷ ss) (suc at) h = let more = only_within step ss at h.1 in omega arith

pub ruleset adding = (group_end, group_none)

-- ---- all places

after_more : (ss : List Step) (places : List (List Step)) (place : List Step) → with_after place ss (map (λ s. after_steps s places) ss) ≡ map (λ s. after_steps s (places ++ place ∷ [])) ss
after_more [] places place = refl
after_more (s ∷ ss) places place =
    let head : after_steps s places ++ after_steps s (place ∷ []) ≡ after_steps s (places ++ place ∷ []) = sym (filter_map-append (after_step s) places (place ∷ [])) in
    let tail = after_more ss places place in
    (λ k. head k ∷ tail k)

-- one place more
pub groups_more : (pointed : List (Bor (List Step))) (k : ℕ) (x : Bor (List Step)) (ss : List Step) (gs new : List (List (List Step))) → gs ≡ map (λ s. after_steps s (slices (take k pointed))) ss → new ≡ with_after x.now ss gs → k < length pointed → x ≡ get_or pointed k x → new ≡ map (λ s. after_steps s (slices (take (k + 1) pointed))) ss
groups_more pointed k x ss gs new is more within which =
    let longer : slices (take (k + 1) pointed) ≡ slices (take k pointed) ++ x.now ∷ [] = ap slices (take_more pointed k x within ∙ ap (λ (y : Bor (List Step)). take k pointed ++ y ∷ []) (sym which)) ∙ map-append (λ (s : Bor (List Step)). s.now) (take k pointed) (x ∷ []) in
    more ∙ ap (with_after x.now ss) is ∙ after_more ss (slices (take k pointed)) x.now ∙ ap (λ ps. map (λ s. after_steps s ps) ss) (sym longer)

-- before the first place
pub groups_first : (ss : List Step) (count : ℕ) (gs : List (List (Bor (List Step)))) → gs ≡ empties count → count ≡ length ss → groups_now gs ≡ map (λ s. after_steps s []) ss
groups_first ss count gs is same = ap groups_now (is ∙ ap empties same) ∙ none_yet ss
  where
    none_yet : (ss : List Step) → groups_now (empties (length ss)) ≡ map (λ s. after_steps s []) ss
    none_yet [] = refl
    none_yet (s ∷ ss) = ap (λ gs. [] ∷ gs) (none_yet ss)

-- as many groups as steps
pub groups_length : (ss : List Step) (places : List (List Step)) (gs : List (List (Bor (List Step)))) → groups_now gs ≡ map (λ s. after_steps s places) ss → length gs ≡ length ss
groups_length ss places gs is = sym (now_length gs) ∙ ap length is ∙ length-map ss (λ s. after_steps s places)

pub ruleset grouping = (groups_more, groups_first, groups_length)

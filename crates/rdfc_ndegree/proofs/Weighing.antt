-- The weights of moves: each step makes less of them, or an arrangement was counted.
use Rattle.std.proofs.Common.{◌≡◌, ℕ, ◌+◌, ◌-◌, ◌*◌, ◌<◌, ◌≤◌, List, [], ◌∷◌, length, get_or, drop, sym, ap, ◌∙◌, subst, arith}
use Rattle.std.proofs.lemmas.List.{drop_more}
use Rattle.base_types.proofs.Lists.{Contains-nil}
use Rattle.rdfc_ndegree.specs.NDegree.{AreArrangements}
use Rattle.rdfc_ndegree.proofs.Branching.{arrangements-some}
use Rattle.rdfc_ndegree.specs.declared.limits.Meter.{Meter}
use Rattle.rdfc_ndegree.specs.declared.moves.Move.{Move}
use Rattle.rdfc_ndegree.specs.Internal.Weights.{choice_weight, WeighsLess}

-- ---- lists of members

-- what is left from a place is what stands there and the rest, read from a copy of the list
pub left-next : (ms seen : List ℕ) (k : ℕ) → seen ≡ ms → k < length seen → drop k ms ≡ get_or seen k 0 ∷ drop (k + 1) ms
left-next ms seen k e lt = subst (λ xs. drop k ms ≡ get_or xs k 0 ∷ drop (k + 1) ms) (sym e) (drop_more ms k 0 (subst (λ xs. k < length xs) e lt))

-- asking for the next member weighs less than the members that are left
pub member-weight : (ms seen : List ℕ) (k : ℕ) → seen ≡ ms → k < length seen → 3 * (1 + length (drop (k + 1) ms)) + 2 ≤ 3 * length (drop k ms) + 3
member-weight ms seen k e lt = let next : length (drop k ms) ≡ 1 + length (drop (k + 1) ms) = ap length (left-next ms seen k e lt) ∙ omega arith in omega arith

-- ---- between two states of the meter

-- where nothing was counted
pub less-still : (most weight m : ℕ) (old new : Meter) → new.spent ≡ old.spent → m < weight → most * (old.limits.work - new.spent) + m < most * (old.limits.work - old.spent) + weight
less-still most weight m old new same less =
    let left : most * (old.limits.work - new.spent) ≡ most * (old.limits.work - old.spent) = ap (λ n. most * (old.limits.work - n)) same in
    omega arith

counts-down : (most work spent : ℕ) → spent < work → most * (work - spent) ≡ most * (work - (spent + 1)) + most
counts-down most work spent room =
    let next : work - spent ≡ (work - (spent + 1)) + 1 = omega arith in
    ap (λ n. most * n) next ∙ omega arith

-- where an arrangement was counted
pub less-counted : (most weight m : ℕ) (old new : Meter) → new.spent ≡ old.spent + 1 → old.spent < old.limits.work → m < most + weight → most * (old.limits.work - new.spent) + m < most * (old.limits.work - old.spent) + weight
less-counted most weight m old new counted room less =
    let down = counts-down most old.limits.work old.spent room in
    let left : most * (old.limits.work - new.spent) ≡ most * (old.limits.work - (old.spent + 1)) = ap (λ n. most * (old.limits.work - n)) counted in
    omega arith

-- a greater weight will do
pub less-more : (most weight weight' : ℕ) (old new : Meter) (next : Move) → weight ≤ weight' → WeighsLess most weight old new next → WeighsLess most weight' old new next
less-more most weight weight' old new next up less = omega arith

-- ---- choices

-- a choice weighs little where an arrangement is left
pub choice-some : (left rest : List (List ℕ)) (p : List ℕ) → left ≡ p ∷ rest → choice_weight left ≡ 1
choice-some left rest p e = ap choice_weight e

-- more where none is left
pub choice-none : (left : List (List ℕ)) → left ≡ [] → choice_weight left ≡ 3
choice-none left e = ap choice_weight e

-- and never more than that
pub choice-most : (left : List (List ℕ)) → choice_weight left ≤ 3
choice-most [] = omega arith
choice-most (p ∷ ps) = omega arith

-- every group has an arrangement
pub choice-first : (members : List ℕ) (left : List (List ℕ)) → AreArrangements members left → choice_weight left ≤ 1
choice-first members [] all = absurd (Contains-nil members (arrangements-some all))
choice-first members (p ∷ ps) all = omega arith

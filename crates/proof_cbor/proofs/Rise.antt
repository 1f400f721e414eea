-- Whether numbers rise, from each to the next.
use Rattle.std.proofs.Common.{◌≡◌, ℕ, ◌+◌, ◌≤◌, ◌<◌, Bool, true, false, ltb, List, [], ◌∷◌, length, drop, get_or, refl, sym, ap, ◌∙◌, arith, add-one, drop-cons}
use Rattle.std.specs.Prelude.{◌&&◌}
use Rattle.std.specs.List.{list_all}
use Rattle.std.proofs.lemmas.Bool.{and_parts, ltb-true, lt-ltb, le-ltb}
use Rattle.std.proofs.lemmas.List.{nil_from_length, length-drop}
use Rattle.base_types.specs.Order.{rise}

-- what is above a greater number is above a smaller one
above_more : (k j : ℕ) (ks : List ℕ) → k < j → list_all (ltb j) ks ≡ true → list_all (ltb k) ks ≡ true
above_more k j [] lt a = refl
above_more k j (n ∷ ns) lt a =
    let p = and_parts (ltb j n) (list_all (ltb j) ns) a in
    let below : j < n = ltb-true j n p.0 in
    rw (lt-ltb k n (omega arith)) (above_more k j ns lt p.1)

by_second : (k j : ℕ) (ks : List ℕ) (b r : Bool) → list_all (ltb j) ks ≡ b → k < j → (list_all (ltb k) ks && (b && r)) ≡ (b && r)
by_second k j ks false r is lt = rest (list_all (ltb k) ks) where
  rest : (t : Bool) → (t && false) ≡ false
  rest true = refl
  rest false = refl
by_second k j ks true r is lt = rw (above_more k j ks lt is) refl

two_rise : (k j : ℕ) (ks : List ℕ) → k < j → rise (k ∷ j ∷ ks) ≡ rise (j ∷ ks)
two_rise k j ks lt = rw (lt-ltb k j lt) (by_second k j ks (list_all (ltb j) ks) (rise ks) refl lt)

two_stop : (k j : ℕ) (ks : List ℕ) → j ≤ k → rise (k ∷ j ∷ ks) ≡ false
two_stop k j ks le = rw (le-ltb k j le) refl

-- where the next number is above the last, those from it on decide whether all rise
pub rise_more : (xs : List ℕ) (i last : ℕ) (whole : Bool) → i < length xs → last < get_or xs i 0 → rise (last ∷ drop i xs) ≡ whole → rise (get_or xs i 0 ∷ drop (i + 1) xs) ≡ whole
rise_more xs i last whole lt up so_far =
    let here : drop i xs ≡ get_or xs i 0 ∷ drop (i + 1) xs = rw add-one (drop-cons xs i 0 lt) in
    sym (two_rise last (get_or xs i 0) (drop (i + 1) xs) up) ∙ ap (λ (z : List ℕ). rise (last ∷ z)) (sym here) ∙ so_far

-- where the next number is not above the last, not all rise
pub rise_stops : (xs : List ℕ) (i last : ℕ) (whole : Bool) → i < length xs → get_or xs i 0 ≤ last → rise (last ∷ drop i xs) ≡ whole → false ≡ whole
rise_stops xs i last whole lt down so_far =
    let here : drop i xs ≡ get_or xs i 0 ∷ drop (i + 1) xs = rw add-one (drop-cons xs i 0 lt) in
    sym (two_stop last (get_or xs i 0) (drop (i + 1) xs) down) ∙ ap (λ (z : List ℕ). rise (last ∷ z)) (sym here) ∙ so_far

-- past the last number, all rise
pub rise_end : (xs : List ℕ) (i last : ℕ) (whole : Bool) → length xs ≤ i → rise (last ∷ drop i xs) ≡ whole → true ≡ whole
rise_end xs i last whole le so_far =
    let none : drop i xs ≡ [] = nil_from_length (drop i xs) (omega (arith, length-drop i xs)) in
    rw none at so_far

pub ruleset rise_steps = (rise_more, rise_stops, rise_end)

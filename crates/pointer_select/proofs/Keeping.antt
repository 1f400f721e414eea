-- Which places are kept: the test by which the part is made agrees with the definition.
use Rattle.std.proofs.Common.{◌≡◌, ℕ, List, [], ◌∷◌, ◌++◌, Bool, true, false, ◌&&◌, ◌||◌, Some, None, if◌then◌else◌, Contains, refl, sym, ap, ◌∙◌, subst, append_assoc, inl, inr}
use Rattle.std.specs.List.{list_any, cons_option}
use Rattle.std.proofs.lemmas.Bool.{cases_Bool, true≢false, and_parts, and_from, or_right}
use Rattle.base_types.proofs.Lists.{Contains-here, Contains-there, Contains-cons_cases, Contains-nil}
use Rattle.json_tree.specs.declared.place.Step.{Step}
use Rattle.json_tree.specs.declared.place.Step.TheVariants.{Key, At}
use Rattle.pointer_select.specs.Kept.{is_kept_name, IsUpTo, IsUnderKeptName, IsKeptFor, IsKept}
use Rattle.pointer_select.specs.Internal.Parts.{is_step, after_steps, one_ends, is_kept_step, keeps}
use Rattle.pointer_select.proofs.StepTests.{is_step-itself, is_step-true}

-- ---- one pointed place

-- whether a place is kept for a pointed one
abbrev pub keeps_one : List Step → List Step → Bool
keeps_one [] place = true
keeps_one (q ∷ qs) [] = true
keeps_one (q ∷ qs) (s ∷ ss) = is_kept_step s || (is_step q s && keeps_one qs ss)

one_root : (q : List Step) → keeps_one q [] ≡ true
one_root [] = refl
one_root (q ∷ qs) = refl

kept_here : (q : List Step) (s : Step) (ss : List Step) → is_kept_step s ≡ true → IsUnderKeptName q (s ∷ ss)
kept_here q (At at) ss name = absurd (true≢false (sym name))
kept_here q (Key key) ss name = record {
  object = [];
  on_the_way = record { rest = q; goes_on = refl };
  key = key;
  name = name;
  at_or_below = record { rest = ss; goes_on = refl };
}

longer : (s : Step) (p q : List Step) → IsUpTo p q → IsUpTo (s ∷ p) (s ∷ q)
longer s p q u = record { rest = u.rest; goes_on = ap (λ x. s ∷ x) u.goes_on }

for_both : (s : Step) (qs ss : List Step) → IsKeptFor qs ss → IsKeptFor (s ∷ qs) (s ∷ ss)
for_both s qs ss (inl u) = inl (longer s ss qs u)
for_both s qs ss (inr (inl u)) = inr (inl (longer s qs ss u))
for_both s qs ss (inr (inr k)) = inr (inr record {
  object = s ∷ k.object;
  on_the_way = longer s k.object qs k.on_the_way;
  key = k.key;
  name = k.name;
  at_or_below = longer s (k.object ++ Key k.key ∷ []) ss k.at_or_below;
})

kept_for : (q p : List Step) → keeps_one q p ≡ true → IsKeptFor q p
kept_for [] p h = inr (inl record { rest = p; goes_on = refl })
kept_for (q ∷ qs) [] h = inl record { rest = q ∷ qs; goes_on = refl }
kept_for (q ∷ qs) (s ∷ ss) h = elim (cases_Bool (is_kept_step s)) [
  | inl name ↦ inr (inr (kept_here (q ∷ qs) s ss name))
  | inr other ↦
      let both = and_parts (is_step q s) (keeps_one qs ss) (sym (ap (λ (b : Bool). b || (is_step q s && keeps_one qs ss)) other) ∙ h) in
      subst (λ (r : Step). IsKeptFor (r ∷ qs) (s ∷ ss)) (sym (is_step-true q s both.0)) (for_both s qs ss (kept_for qs ss both.1))
]

one_more : (s : Step) (q p : List Step) → keeps_one q p ≡ true → keeps_one (s ∷ q) (s ∷ p) ≡ true
one_more s q p h = or_right (is_kept_step s) _ (and_from (is_step s s) (keeps_one q p) (is_step-itself s) h)

up_to : (p rest : List Step) → keeps_one (p ++ rest) p ≡ true
up_to [] rest = one_root rest
up_to (s ∷ p) rest = one_more s (p ++ rest) p (up_to p rest)

down_from : (q rest : List Step) → keeps_one q (q ++ rest) ≡ true
down_from [] rest = refl
down_from (s ∷ q) rest = one_more s q (q ++ rest) (down_from q rest)

under_name : (object more rest : List Step) (key : List ℕ) → is_kept_name key ≡ true → keeps_one (object ++ more) (object ++ Key key ∷ rest) ≡ true
under_name [] [] rest key name = refl
under_name [] (m ∷ more) rest key name = ap (λ (b : Bool). b || (is_step m (Key key) && keeps_one more rest)) name
under_name (s ∷ object) more rest key name = one_more s (object ++ more) (object ++ Key key ∷ rest) (under_name object more rest key name)

passes_for : (q p : List Step) → IsKeptFor q p → keeps_one q p ≡ true
passes_for q p (inl u) = ap (λ r. keeps_one r p) u.goes_on ∙ up_to p u.rest
passes_for q p (inr (inl u)) = ap (keeps_one q) u.goes_on ∙ down_from q u.rest
passes_for q p (inr (inr k)) =
    let rest = k.at_or_below.rest in
    ap (λ r. keeps_one r p) k.on_the_way.goes_on
    ∙ ap (keeps_one (k.object ++ k.on_the_way.rest)) (k.at_or_below.goes_on ∙ append_assoc k.object (Key k.key ∷ []) rest)
    ∙ under_name k.object k.on_the_way.rest rest k.key k.name

-- ---- some of the pointed places

any_one : {X : Type 0} (test : X → Bool) (xs : List X) → list_any test xs ≡ true → (x : X) × Contains xs x × (test x ≡ true)
any_one test [] h = absurd (true≢false (sym h))
any_one test (x ∷ xs) h = elim (cases_Bool (test x)) [
  | inl this ↦ (x, Contains-here x xs, this)
  | inr other ↦
      let later = any_one test xs (sym (ap (λ (b : Bool). b || list_any test xs) other) ∙ h) in
      (later.0, Contains-there x xs later.0 later.1, later.2)
]

one_any : {X : Type 0} (test : X → Bool) (xs : List X) (x : X) → Contains xs x → test x ≡ true → list_any test xs ≡ true
one_any test [] x c h = absurd (Contains-nil x c)
one_any test (y ∷ ys) x c h = elim (Contains-cons_cases y ys x c) [
  | inl this ↦ ap (λ (b : Bool). b || list_any test ys) (ap test this ∙ h)
  | inr later ↦ or_right (test y) (list_any test ys) (one_any test ys x later h)
]

-- whether a place is kept for some
abbrev pub keeps_any : List (List Step) → List Step → Bool
keeps_any places place = list_any (λ q. keeps_one q place) places

-- the test says what the definition says
pub any_kept : (places : List (List Step)) (place : List Step) → keeps_any places place ≡ true → IsKept places place
any_kept places place h =
    let one = any_one (λ q. keeps_one q place) places h in
    record { pointed = one.0; one_of = one.1; kept = kept_for one.0 place one.2 }

-- and the definition what the test says
pub kept_any : (places : List (List Step)) (place : List Step) → IsKept places place → keeps_any places place ≡ true
kept_any places place k = one_any (λ q. keeps_one q place) places k.pointed k.one_of (passes_for k.pointed place k.kept)

-- ---- step by step

abbrev pub is_some_left : List (List Step) → Bool
is_some_left places = list_any (λ place. true) places

pick : (b : Bool) (qs ss : List Step) (rest : List (List Step)) → keeps_any (cons_option (if b then Some qs else None) rest) ss ≡ (if b then (keeps_one qs ss || keeps_any rest ss) else keeps_any rest ss)
pick true qs ss rest = refl
pick false qs ss rest = refl

by_bools : (k b x n e r : Bool) → ((k || (b && x)) || ((n && k) || (e || r))) ≡ (k || (e || (if b then (x || r) else r)))
by_bools true b x n e r = refl
by_bools false true true true true r = refl
by_bools false true true true false r = refl
by_bools false true true false true r = refl
by_bools false true true false false r = refl
by_bools false true false true e r = refl
by_bools false true false false e r = refl
by_bools false false x true e r = refl
by_bools false false x false e r = refl

or_true : (k r : Bool) → true ≡ (k || (true || r))
or_true true r = refl
or_true false r = refl

any_step : (places : List (List Step)) (s : Step) (ss : List Step) → keeps_any places (s ∷ ss) ≡ ((is_some_left places && is_kept_step s) || (one_ends places || keeps_any (after_steps s places) ss))
any_step [] s ss = refl
any_step ([] ∷ places) s ss = or_true (is_kept_step s) (keeps_any (after_steps s ([] ∷ places)) ss)
any_step ((q ∷ qs) ∷ places) s ss =
    let k = is_kept_step s in
    let rest = after_steps s places in
    ap (λ (b : Bool). (k || (is_step q s && keeps_one qs ss)) || b) (any_step places s ss)
    ∙ by_bools k (is_step q s) (keeps_one qs ss) (is_some_left places) (one_ends places) (keeps_any rest ss)
    ∙ ap (λ (b : Bool). k || (one_ends places || b)) (sym (pick (is_step q s) qs ss rest))

nothing_left : (places : List (List Step)) → is_some_left places ≡ false → (ss : List Step) → keeps_any places ss ≡ false
nothing_left [] h ss = refl
nothing_left (p ∷ ps) h ss = absurd (true≢false h)

-- the test by which the part is made, where some place is pointed at
pub keeps_test : (place : List Step) (places : List (List Step)) → is_some_left places ≡ true → keeps places place ≡ keeps_any places place
keeps_test [] [] h = absurd (true≢false (sym h))
keeps_test [] (p ∷ ps) h = sym (ap (λ (b : Bool). b || keeps_any ps []) (one_root p))
keeps_test (s ∷ ss) places h =
    let after = after_steps s places in
    let below : (is_some_left after && keeps after ss) ≡ keeps_any after ss = elim (cases_Bool (is_some_left after)) [
      | inl some ↦ ap (λ (b : Bool). b && keeps after ss) some ∙ keeps_test ss after some
      | inr none ↦ ap (λ (b : Bool). b && keeps after ss) none ∙ sym (nothing_left after none ss)
    ] in
    ap (λ (b : Bool). is_kept_step s || (one_ends places || b)) below
    ∙ sym (any_step places s ss ∙ ap (λ (b : Bool). (b && is_kept_step s) || (one_ends places || keeps_any after ss)) h)

above_by : (k e n x y : Bool) → (x ≡ true → y ≡ true) → (k || (e || (n && x))) ≡ true → (k || (e || (n && y))) ≡ true
above_by true e n x y more h = refl
above_by false true n x y more h = refl
above_by false false true x y more h = more h
above_by false false false x y more h = h

-- what is kept is kept with all above it
pub keeps_above : (places : List (List Step)) (p q : List Step) → keeps places (p ++ q) ≡ true → keeps places p ≡ true
keeps_above places [] q h = refl
keeps_above places (s ∷ p) q h =
    let after = after_steps s places in
    above_by (is_kept_step s) (one_ends places) (is_some_left after) (keeps after (p ++ q)) (keeps after p) (keeps_above after p q) h

-- where one of the places ends here all is kept
pub all_kept : (places : List (List Step)) → one_ends places ≡ true → (place : List Step) → keeps places place ≡ true
all_kept places h [] = refl
all_kept places h (s ∷ ss) =
    let below = is_some_left (after_steps s places) && keeps (after_steps s places) ss in
    or_right (is_kept_step s) (one_ends places || below) (ap (λ (b : Bool). b || below) h)

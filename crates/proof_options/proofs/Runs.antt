-- Runs of digits: what a loop over them has counted.
use Rattle.std.proofs.Common.{◌≡◌, ℕ, ◌+◌, ◌-◌, ◌*◌, ◌/◌, ◌<◌, ◌≤◌, true, false, ◌&&◌, nat_le, List, [], ◌∷◌, length, Option, Some, None, inl, inr, refl, sym, ap, ◌∙◌, arith}
use Rattle.std.proofs.lemmas.Bool.{cases_Bool}
use Rattle.std.proofs.lemmas.Bool.Decides.{nat_tests}
use Rattle.std.proofs.lemmas.Option.{some_pair_parts}
use Rattle.proof_options.specs.Stamps.{tenths, fraction_nanoseconds}
use Rattle.proof_options.specs.Internal.Reading.{is_digit, digit_from, run, after_run, run_from}

-- a digit at the front begins the run
pub digit_begins : (text later : List ℕ) (d : ℕ) → Some (d, later) ≡ digit_from text → (run text ≡ d ∷ run later) × (after_run text ≡ after_run later)
digit_begins [] later d h = absurd (cc)
digit_begins (b ∷ bs) later d h = elim (cases_Bool (is_digit b)) [
  | inl is ↦
      let found : digit_from (b ∷ bs) ≡ Some (b - 48, bs) = rw is refl in
      let here : run (b ∷ bs) ≡ (b - 48) ∷ run bs = rw is refl in
      let after : after_run (b ∷ bs) ≡ after_run bs = rw is refl in
      let same = some_pair_parts d (b - 48) later bs (h ∙ found) in
      (rw (same.0, same.1) here, rw (same.1) after)
  | inr not' ↦
      let none : digit_from (b ∷ bs) ≡ None = rw not' refl in
      absurd (cc)
]

-- without one there is no run
pub no_digit : (text : List ℕ) → None ≡ digit_from text → (run text ≡ []) × (after_run text ≡ text)
no_digit [] h = (refl, refl)
no_digit (b ∷ bs) h = elim (cases_Bool (is_digit b)) [
  | inl is ↦
      let found : digit_from (b ∷ bs) ≡ Some (b - 48, bs) = rw is refl in
      absurd (cc)
  | inr not' ↦ (rw not' refl, rw not' refl)
]

-- what is counted so far: how many digits, what the next one counts, and what they count together
pub record SoFar (text rest : List ℕ) (count unit sum : ℕ) : Type 0 where
  pub number : length (run text) ≡ count + length (run rest)
  pub after : after_run text ≡ after_run rest
  pub worth : fraction_nanoseconds (run text) ≡ sum + tenths unit (run rest)
  pub few : count ≤ 9
  pub small : sum + 10 * unit ≤ 1_000_000_000

-- nothing yet
pub so_far_none : (text : List ℕ) → SoFar text text 0 100_000_000 0
so_far_none text = record { number = omega arith; after = refl; worth = omega arith; few = omega arith; small = omega arith }

-- one digit counts at most nine times the unit
pub digit_counts : (unit d : ℕ) → d < 10 → unit * d ≤ 9 * unit
digit_counts unit d h = grind arith

-- one digit more
pub so_far_more : (text rest later : List ℕ) (count unit sum d : ℕ) → SoFar text rest count unit sum → Some (d, later) ≡ digit_from rest → d < 10 → count < 9 → SoFar text later (count + 1) (unit / 10) (sum + unit * d)
so_far_more text rest later count unit sum d s h small few =
    let b = digit_begins rest later d h in
    let long : length (run rest) ≡ 1 + length (run later) = rw (b.0) (omega arith) in
    let worth : tenths unit (run rest) ≡ unit * d + tenths (unit / 10) (run later) = rw (b.0) refl in
    let most = digit_counts unit d small in
    record {
      number = omega (arith, s.number);
      after = s.after ∙ b.1;
      worth = omega (arith, s.worth);
      few = omega arith;
      small = omega (arith, s.small);
    }

-- at the end of the run
pub so_far_end : (text rest : List ℕ) (count unit sum : ℕ) → SoFar text rest count unit sum → None ≡ digit_from rest → 1 ≤ count → Some (sum, rest) ≡ run_from text
so_far_end text rest count unit sum s h some =
    let n = no_digit rest h in
    let long : length (run text) ≡ count = s.number ∙ ap (λ xs. count + length xs) n.0 ∙ omega arith in
    let worth : fraction_nanoseconds (run text) ≡ sum = s.worth ∙ ap (λ xs. sum + tenths unit xs) n.0 ∙ omega arith in
    let after : after_run text ≡ rest = s.after ∙ n.1 in
    let fits : (nat_le 1 (length (run text)) && nat_le (length (run text)) 9) ≡ true = rw long (grind (arith, nat_tests, s.few)) in
    sym (rw (fits, worth, after) refl)

-- with no digit
pub so_far_empty : (text rest : List ℕ) (count unit sum : ℕ) → SoFar text rest count unit sum → None ≡ digit_from rest → count ≡ 0 → None ≡ run_from text
so_far_empty text rest count unit sum s h none =
    let n = no_digit rest h in
    let long : length (run text) ≡ 0 = s.number ∙ ap (λ xs. count + length xs) n.0 ∙ omega arith in
    let fits : (nat_le 1 (length (run text)) && nat_le (length (run text)) 9) ≡ false = rw long refl in
    sym (rw fits refl)

-- with a tenth digit
pub so_far_tenth : (text rest later : List ℕ) (count unit sum d : ℕ) → SoFar text rest count unit sum → Some (d, later) ≡ digit_from rest → count ≡ 9 → None ≡ run_from text
so_far_tenth text rest later count unit sum d s h nine =
    let b = digit_begins rest later d h in
    let long : length (run rest) ≡ 1 + length (run later) = rw (b.0) (omega arith) in
    let fits : (nat_le 1 (length (run text)) && nat_le (length (run text)) 9) ≡ false = grind (arith, nat_tests, s.number) in
    sym (rw fits refl)

pub ruleset run_steps = (so_far_none, so_far_more, so_far_end, so_far_empty, so_far_tenth, digit_counts)

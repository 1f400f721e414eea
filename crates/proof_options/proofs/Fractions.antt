-- Fractions and offsets: what is read of a text is what it spells, and what they spell is read.
use Rattle.std.proofs.Common.{◌≡◌, ℕ, ◌+◌, ◌-◌, ◌<◌, ◌≤◌, true, ◌&&◌, ◌==◌, nat_le, List, [], ◌∷◌, ◌++◌, map, length, Some, None, option_map, inl, inr, refl, sym, ap, ◌∙◌, subst, arith}
use Rattle.std.specs.Prelude.{All}
use Rattle.std.proofs.lemmas.Bool.{cases_Bool, and_parts}
use Rattle.std.proofs.lemmas.Bool.Decides.{nat_tests}
use Rattle.std.proofs.lemmas.List.Elements.{All-nil, All-cons, All-head, All-tail}
use Rattle.std.proofs.lemmas.Option.{some_pair_parts}
use Rattle.base_types.proofs.Options.{option_map-Some}
use Rattle.proof_options.specs.declared.reading.Shift.{Shift}
use Rattle.proof_options.specs.declared.reading.Shift.TheVariants.{Utc, Ahead, Behind}
use Rattle.proof_options.specs.Stamps.{Offset, utc, ahead, behind, digit, fraction_text, offset_text, IsFraction, IsOffset, fraction_nanoseconds}
use Rattle.proof_options.specs.Internal.Reading.{Front, is_digit, run, after_run, run_from, fraction_from, clock_after, at_end, shift_from}
use Rattle.proof_options.specs.Internal.Written.{offset_of}
use Rattle.proof_options.proofs.Spellings.{clock_reads, clock_spells}

-- ---- runs

-- a digit is one
digit_is : (d : ℕ) → d < 10 → is_digit (digit d) ≡ true
digit_is d h = grind (arith, nat_tests)

digit_back : (d : ℕ) → digit d - 48 ≡ d
digit_back d = omega arith

-- digits before what is no digit are the run
pub run_reads : (ds rest : List ℕ) → All (λ d. d < 10) ds → run rest ≡ [] → run (map digit ds ++ rest) ≡ ds
run_reads [] rest all none = none
run_reads (d ∷ ds) rest all none =
    let is = digit_is d (All-head (λ d. d < 10) d ds all) in
    let later = run_reads ds rest (All-tail (λ d. d < 10) d ds all) none in
    rw (is, digit_back d, later) refl

-- and it is what follows them
pub after_reads : (ds rest : List ℕ) → All (λ d. d < 10) ds → after_run rest ≡ rest → after_run (map digit ds ++ rest) ≡ rest
after_reads [] rest all none = none
after_reads (d ∷ ds) rest all none =
    let is = digit_is d (All-head (λ d. d < 10) d ds all) in
    let later = after_reads ds rest (All-tail (λ d. d < 10) d ds all) none in
    rw (is, later) refl

-- a text is its run and what follows it
pub run_splits : (text : List ℕ) → All (λ d. d < 10) (run text) × (text ≡ map digit (run text) ++ after_run text)
run_splits [] = (All-nil (λ d. d < 10), refl)
run_splits (b ∷ bs) = elim (cases_Bool (is_digit b)) [
  | inl is ↦
      let later = run_splits bs in
      let here : run (b ∷ bs) ≡ (b - 48) ∷ run bs = rw is refl in
      let after : after_run (b ∷ bs) ≡ after_run bs = rw is refl in
      let ends : (b - 48 < 10) × (48 + (b - 48) ≡ b) = grind (arith, nat_tests) in (
        subst (All (λ d. d < 10)) (sym here) (All-cons (λ d. d < 10) (b - 48) (run bs) ends.0 later.0),
        rw (here, after) (ap (λ xs. b ∷ xs) later.1 ∙ ap (λ c. c ∷ (map digit (run bs) ++ after_run bs)) (sym ends.1)),
      )
  | inr not' ↦
      let here : run (b ∷ bs) ≡ [] = rw not' refl in
      let after : after_run (b ∷ bs) ≡ b ∷ bs = rw not' refl in
      (subst (All (λ d. d < 10)) (sym here) (All-nil (λ d. d < 10)), rw (here, after) refl)
]

-- ---- fractions

some_digits : (ds : List ℕ) → 1 ≤ length ds → fraction_text ds ≡ 46 ∷ map digit ds
some_digits [] h = absurd (omega arith)
some_digits (d ∷ ds) h = refl

-- what the text of a fraction is made of, and what it counts
pub record Fraction (text rest : List ℕ) (n : ℕ) : Type 0 where
  pub digits : List ℕ
  pub is : IsFraction digits
  pub counts : fraction_nanoseconds digits ≡ n
  pub spelled : text ≡ fraction_text digits ++ rest

run_from_some : (text rest : List ℕ) (n : ℕ) → ◌≡◌ {A = Front ℕ} (run_from text) (Some (n, rest)) → Fraction (46 ∷ text) rest n
run_from_some text rest n h = elim (cases_Bool (nat_le 1 (length (run text)) && nat_le (length (run text)) 9)) [
  | inl fits ↦
      let found : ◌≡◌ {A = Front ℕ} (run_from text) (Some (fraction_nanoseconds (run text), after_run text)) = rw fits refl in
      let same = some_pair_parts (fraction_nanoseconds (run text)) n (after_run text) rest (sym found ∙ h) in
      let both = and_parts (nat_le 1 (length (run text))) _ fits in
      let low : 1 ≤ length (run text) = grind (arith, nat_tests, both.0) in
      let high : length (run text) ≤ 9 = grind (arith, nat_tests, both.1) in
      let parts = run_splits text in
      record {
        digits = run text;
        is = record { at_most = high; each = parts.0 };
        counts = same.0;
        spelled = ap (λ xs. 46 ∷ xs) (parts.1 ∙ ap (λ xs. map digit (run text) ++ xs) same.1) ∙ ap (λ xs. xs ++ rest) (sym (some_digits (run text) low));
      }
  | inr not' ↦
      let none : run_from text ≡ None = rw not' refl in
      absurd (cc)
]

no_fraction : (text rest : List ℕ) (n : ℕ) → ◌≡◌ {A = Front ℕ} (Some (0, text)) (Some (n, rest)) → Fraction text rest n
no_fraction text rest n h =
    let same = some_pair_parts 0 n text rest h in
    record { digits = []; is = record { at_most = omega arith; each = All-nil (λ d. d < 10) }; counts = same.0; spelled = same.1 }

-- what was read is the text of a fraction
pub fraction_spells : (text rest : List ℕ) (n : ℕ) → ◌≡◌ {A = Front ℕ} (fraction_from text) (Some (n, rest)) → Fraction text rest n
fraction_spells [] rest n h = no_fraction [] rest n h
fraction_spells (b ∷ bs) rest n h = elim (cases_Bool (b == 46)) [
  | inl is ↦
      let found : fraction_from (b ∷ bs) ≡ run_from bs = rw is refl in
      let dot : b ≡ 46 = grind (arith, nat_tests) in
      subst (λ c. Fraction (c ∷ bs) rest n) (sym dot) (run_from_some bs rest n (sym found ∙ h))
  | inr not' ↦
      let found : ◌≡◌ {A = Front ℕ} (fraction_from (b ∷ bs)) (Some (0, b ∷ bs)) = rw not' refl in
      no_fraction (b ∷ bs) rest n (sym found ∙ h)
]

-- an offset's text begins with no digit and no dot
offset_ends : (o : Offset) → (run (offset_text o) ≡ []) × (after_run (offset_text o) ≡ offset_text o) × (◌≡◌ {A = Front ℕ} (fraction_from (offset_text o)) (Some (0, offset_text o)))
offset_ends utc = (refl, refl, refl)
offset_ends (ahead h m) = (refl, refl, refl)
offset_ends (behind h m) = (refl, refl, refl)

run_from_reads : (ds rest : List ℕ) → IsFraction ds → 1 ≤ length ds → run rest ≡ [] → after_run rest ≡ rest → ◌≡◌ {A = Front ℕ} (run_from (map digit ds ++ rest)) (Some (fraction_nanoseconds ds, rest))
run_from_reads ds rest is some none stays =
    let fits : (nat_le 1 (length ds) && nat_le (length ds) 9) ≡ true = grind (arith, nat_tests, is.at_most) in
    rw (run_reads ds rest is.each none, after_reads ds rest is.each stays, fits) refl

-- a fraction before an offset is read
pub fraction_reads : (ds : List ℕ) (o : Offset) → IsFraction ds → ◌≡◌ {A = Front ℕ} (fraction_from (fraction_text ds ++ offset_text o)) (Some (fraction_nanoseconds ds, offset_text o))
fraction_reads [] o is = (offset_ends o).2
fraction_reads (d ∷ ds) o is = run_from_reads (d ∷ ds) (offset_text o) is (omega arith) (offset_ends o).0 (offset_ends o).1

-- ---- offsets

-- what was read to the end was read before the end
before_end : {A : Type 0} (o : Front A) (a : A) → at_end o ≡ Some a → ◌≡◌ {A = Front A} o (Some (a, []))
before_end None a h = absurd (cc)
before_end (Some (b, [])) a h = let same : b ≡ a = cc in rw same refl
before_end (Some (b, c ∷ cs)) a h = absurd (cc)

-- what was read is an offset's text
pub shift_spells : (text : List ℕ) (s : Shift) → shift_from text ≡ Some s → text ≡ offset_text (offset_of s)
shift_spells [] s h = absurd (cc)
shift_spells (b ∷ bs) s h = elim (cases_Bool (b == 90)) [
  | inl is ↦
      let found : shift_from (b ∷ bs) ≡ at_end (Some (Utc, bs)) = rw is refl in
      let z : b ≡ 90 = grind (arith, nat_tests) in
      let same = some_pair_parts Utc s bs [] (before_end (Some (Utc, bs)) s (sym found ∙ h)) in
      ap (λ c. c ∷ bs) z ∙ ap (λ xs. 90 ∷ xs) same.1 ∙ ap (λ x. offset_text (offset_of x)) same.0
  | inr other ↦ elim (cases_Bool (b == 43)) [
    | inl is ↦
        let found : shift_from (b ∷ bs) ≡ option_map Ahead (at_end (clock_after 43 (b ∷ bs))) = rw (other, is) refl in
        let m = option_map-Some Ahead (at_end (clock_after 43 (b ∷ bs))) s (sym found ∙ h) in
        let spelled : b ∷ bs ≡ offset_text (offset_of (Ahead m.0)) = clock_spells 43 (b ∷ bs) [] m.0 (before_end (clock_after 43 (b ∷ bs)) m.0 m.1) in
        spelled ∙ ap (λ x. offset_text (offset_of x)) m.2
    | inr not' ↦
        let found : shift_from (b ∷ bs) ≡ option_map Behind (at_end (clock_after 45 (b ∷ bs))) = rw (other, not') refl in
        let m = option_map-Some Behind (at_end (clock_after 45 (b ∷ bs))) s (sym found ∙ h) in
        let spelled : b ∷ bs ≡ offset_text (offset_of (Behind m.0)) = clock_spells 45 (b ∷ bs) [] m.0 (before_end (clock_after 45 (b ∷ bs)) m.0 m.1) in
        spelled ∙ ap (λ x. offset_text (offset_of x)) m.2
  ]
]

-- how far the clock is from UTC, as the code has it
abbrev pub shift_of : Offset → Shift
shift_of utc = Utc
shift_of (ahead h m) = Ahead (record { hour = h; minute = m })
shift_of (behind h m) = Behind (record { hour = h; minute = m })

-- and back
pub offset_of-shift_of : (o : Offset) → offset_of (shift_of o) ≡ o
offset_of-shift_of utc = refl
offset_of-shift_of (ahead h m) = refl
offset_of-shift_of (behind h m) = refl

-- an offset is read
pub shift_reads : (o : Offset) → IsOffset o → shift_from (offset_text o) ≡ Some (shift_of o)
shift_reads utc is = refl
shift_reads (ahead h m) is =
    let read = clock_reads 43 h m [] (omega (arith, is.0, is.1)) (omega (arith, is.0)) (λ xs. refl) in
    ap (λ p. option_map Ahead (at_end p)) read
shift_reads (behind h m) is =
    let read = clock_reads 45 h m [] (omega (arith, is.0, is.1)) (omega (arith, is.0)) (λ xs. refl) in
    ap (λ p. option_map Behind (at_end p)) read

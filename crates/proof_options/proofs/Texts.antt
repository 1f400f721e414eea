-- What is read of a text is what it spells, and what a stamp's parts spell is read.
use Rattle.std.proofs.Common.{◌≡◌, ℕ, ◌+◌, ◌-◌, ◌*◌, ◌/◌, ◌%◌, ◌<◌, true, ◌==◌, List, [], ◌∷◌, ◌++◌, Option, Some, None, inl, inr, refl, sym, ap, ◌∙◌, arith}
use Rattle.std.proofs.lemmas.Bool.{cases_Bool}
use Rattle.std.proofs.lemmas.Bool.Decides.{nat_tests}
use Rattle.std.proofs.lemmas.Option.{some_pair_parts}
use Rattle.proof_options.specs.Stamps.{digit, two_digits, four_digits}
use Rattle.proof_options.specs.Internal.Reading.{Front, and_then, is_digit, digit_from, two_from, four_from, two_after}

-- ---- one reading after another

-- a reading that was taken on gave something, and this was taken on
pub record WentOn {A B : Type 0} (o : Front A) (next : A → List ℕ → Option B) (b : B) : Type 0 where
  pub read : A
  pub rest : List ℕ
  pub was : ◌≡◌ {A = Front A} o (Some (read, rest))
  pub on : next read rest ≡ Some b

-- the last answer comes from a first one
pub went_on : {A B : Type 0} (o : Front A) (next : A → List ℕ → Option B) (b : B) → and_then o next ≡ Some b → WentOn o next b
went_on None next b h = absurd (cc)
went_on (Some (a, rest)) next b h = record { read = a; rest = rest; was = refl; on = h }

-- and a first one is taken on
pub goes_on : {A B : Type 0} (o : Front A) (next : A → List ℕ → Option B) (a : A) (rest : List ℕ) (r : Option B) → ◌≡◌ {A = Front A} o (Some (a, rest)) → next a rest ≡ r → and_then o next ≡ r
goes_on o next a rest r h on = ap (λ p. and_then p next) h ∙ on

-- ---- digits

-- a digit is read
pub digit_reads : (d : ℕ) (rest : List ℕ) → d < 10 → ◌≡◌ {A = Front ℕ} (digit_from (digit d ∷ rest)) (Some (d, rest))
digit_reads d rest h =
    let is : is_digit (48 + d) ≡ true = grind (arith, nat_tests) in
    let back : 48 + d - 48 ≡ d = omega arith in
    rw (is, back) refl

-- what was read is a digit
pub digit_spells : (text rest : List ℕ) (d : ℕ) → ◌≡◌ {A = Front ℕ} (digit_from text) (Some (d, rest)) → (d < 10) × (text ≡ digit d ∷ rest)
digit_spells [] rest d h = absurd (cc)
digit_spells (b ∷ bs) rest d h = elim (cases_Bool (is_digit b)) [
  | inl is ↦
      let found : ◌≡◌ {A = Front ℕ} (digit_from (b ∷ bs)) (Some (b - 48, bs)) = rw is refl in
      let same = some_pair_parts d (b - 48) rest bs (sym h ∙ found) in
      let ends : (d < 10) × (48 + d ≡ b) = grind (arith, nat_tests, same.0) in
      (ends.0, cc (ends.1, same.1))
  | inr not' ↦
      let none : digit_from (b ∷ bs) ≡ None = rw not' refl in
      absurd (cc)
]

-- two digits are read
pub two_reads : (k : ℕ) (rest : List ℕ) → k < 100 → ◌≡◌ {A = Front ℕ} (two_from (two_digits k ++ rest)) (Some (k, rest))
two_reads k rest h =
    let tens = digit_reads (k / 10) (digit (k % 10) ∷ rest) (omega arith) in
    let ones = digit_reads (k % 10) rest (omega arith) in
    let whole : 10 * (k / 10) + k % 10 ≡ k = omega arith in
    goes_on (digit_from (two_digits k ++ rest)) _ (k / 10) (digit (k % 10) ∷ rest) _ tens
    (goes_on (digit_from (digit (k % 10) ∷ rest)) _ (k % 10) rest _ ones (rw whole refl))

two_joined : (text mid last rest : List ℕ) (k tens ones : ℕ) → text ≡ digit tens ∷ mid → mid ≡ digit ones ∷ last → last ≡ rest → k / 10 ≡ tens → k % 10 ≡ ones → text ≡ two_digits k ++ rest
two_joined text mid last rest k tens ones t m l high low = rw (high, low, ← l, ← m) t

-- what was read is two digits
pub two_spells : (text rest : List ℕ) (k : ℕ) → ◌≡◌ {A = Front ℕ} (two_from text) (Some (k, rest)) → (k < 100) × (text ≡ two_digits k ++ rest)
two_spells text rest k h =
    let first = went_on (digit_from text) _ (k, rest) h in
    let second = went_on (digit_from first.rest) _ (k, rest) first.on in
    let tens = digit_spells text first.rest first.read first.was in
    let ones = digit_spells first.rest second.rest second.read second.was in
    let same = some_pair_parts (10 * first.read + second.read) k second.rest rest second.on in
    let high : k / 10 ≡ first.read = omega (arith, same.0, ones.0) in
    let low : k % 10 ≡ second.read = omega (arith, same.0, ones.0) in
    (omega (arith, same.0, tens.0, ones.0), two_joined text first.rest second.rest rest k first.read second.read tens.1 ones.1 same.1 high low)

-- four digits are read
pub four_reads : (k : ℕ) (rest : List ℕ) → k < 10000 → ◌≡◌ {A = Front ℕ} (four_from (four_digits k ++ rest)) (Some (k, rest))
four_reads k rest h =
    let high = two_reads (k / 100) (two_digits (k % 100) ++ rest) (omega arith) in
    let low = two_reads (k % 100) rest (omega arith) in
    let whole : 100 * (k / 100) + k % 100 ≡ k = omega arith in
    goes_on (two_from (four_digits k ++ rest)) _ (k / 100) (two_digits (k % 100) ++ rest) _ high
    (goes_on (two_from (two_digits (k % 100) ++ rest)) _ (k % 100) rest _ low (rw whole refl))

four_joined : (text mid last rest : List ℕ) (k high low : ℕ) → text ≡ two_digits high ++ mid → mid ≡ two_digits low ++ last → last ≡ rest → k / 100 ≡ high → k % 100 ≡ low → text ≡ four_digits k ++ rest
four_joined text mid last rest k high low t m l upper lower = rw (upper, lower, ← l, ← m) t

-- what was read is four digits
pub four_spells : (text rest : List ℕ) (k : ℕ) → ◌≡◌ {A = Front ℕ} (four_from text) (Some (k, rest)) → (k < 10000) × (text ≡ four_digits k ++ rest)
four_spells text rest k h =
    let first = went_on (two_from text) _ (k, rest) h in
    let second = went_on (two_from first.rest) _ (k, rest) first.on in
    let high = two_spells text first.rest first.read first.was in
    let low = two_spells first.rest second.rest second.read second.was in
    let same = some_pair_parts (100 * first.read + second.read) k second.rest rest second.on in
    let upper : k / 100 ≡ first.read = omega (arith, same.0, low.0) in
    let lower : k % 100 ≡ second.read = omega (arith, same.0, low.0) in
    (omega (arith, same.0, high.0, low.0), four_joined text first.rest second.rest rest k first.read second.read high.1 low.1 same.1 upper lower)

-- what was read behind a mark is the mark and two digits
pub after_spells : (mark : ℕ) (text rest : List ℕ) (k : ℕ) → ◌≡◌ {A = Front ℕ} (two_after mark text) (Some (k, rest)) → (k < 100) × (text ≡ mark ∷ (two_digits k ++ rest))
after_spells mark [] rest k h = absurd (cc)
after_spells mark (b ∷ bs) rest k h = elim (cases_Bool (b == mark)) [
  | inl is ↦
      let found : two_after mark (b ∷ bs) ≡ two_from bs = rw is refl in
      let two = two_spells bs rest k (sym found ∙ h) in
      let same : b ≡ mark = grind (arith, nat_tests) in
      (two.0, cc (same, two.1))
  | inr not' ↦
      let none : two_after mark (b ∷ bs) ≡ None = rw not' refl in
      absurd (cc)
]

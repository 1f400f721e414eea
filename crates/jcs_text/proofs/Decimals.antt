-- The decimal digits of whole numbers of 128 bits are numbers of JSON.
use Rattle.std.proofs.Common.{◌≡◌, ℕ, ℤ, pos, negsuc, zero, suc, ◌+◌, ◌/◌, ◌%◌, ◌^◌, ◌<◌, ◌≤◌, cond, ◌==◌, List, [], ◌∷◌, ◌++◌, length, drop, get_or, Option, Some, None, option_and_then, decimal, refl, sym, ap, ◌∙◌, arith, ne_eqb, le-leb, drop_of_length-le, FitsSigned}
use Rattle.std.specs.Char.{is_ascii_digit}
use Rattle.std.specs.Fmt.{signed_decimal}
use Rattle.std.specs.List.{prefix_len}
use Rattle.std.specs.Str.Parse.{AllDigits}
use Rattle.std.proofs.lemmas.Bool.{and_from}
use Rattle.std.proofs.lemmas.Fmt.{decimal_is_IsNumeral_wide, decimal_by_steps_wide, decimal_digit}
use Rattle.std.proofs.lemmas.Str.Parse.{digit_at}
use Rattle.json.specs.Print.{IsNumber}
use Rattle.json.specs.Word.{after_digits, after_minus, after_whole, after_fraction, after_exponent, after_number}
use mir.Syntax.{w128}

-- ---- digits

all_digits : (ds : List ℕ) → AllDigits 10 ds → prefix_len is_ascii_digit ds ≡ length ds
all_digits [] all = refl
all_digits (d ∷ ds) all =
    let range = digit_at (d ∷ ds) 0 all (omega arith) in
    let rest = all_digits ds all.1 in
    ap (λ t. cond t (1 + prefix_len is_ascii_digit ds) 0) (and_from _ _ (le-leb 48 d range.0) (le-leb d 57 range.1)) ∙ omega arith

-- there is a digit, and the first is 0 of nothing but 0
abbrev BeginsWell : ℕ → List ℕ → Type 0
BeginsWell n ds = (0 < length ds) × (0 < n → 48 < get_or ds 0 0)

front_stays : (ds : List ℕ) (d : ℕ) → 0 < length ds → (0 < length (ds ++ d ∷ [])) × (get_or (ds ++ d ∷ []) 0 0 ≡ get_or ds 0 0)
front_stays [] d some = absurd (omega arith)
front_stays (x ∷ ds) d some = (omega arith, refl)

one_digit : (n : ℕ) → n < 10 → BeginsWell n ((48 + n) ∷ [])
one_digit n small = (omega arith, λ some. omega arith)

more_digits : (n : ℕ) (ds : List ℕ) → 10 ≤ n → BeginsWell (n / 10) ds → BeginsWell n (ds ++ ((48 + n % 10) ∷ []))
more_digits n ds big h =
    let front = front_stays ds (48 + n % 10) h.0 in
    let tens : 0 < n / 10 = omega arith in
    (front.0, λ some. let first = h.1 tens in omega (arith, front.1, first))

begins_well : (n : ℕ) → n < 10 ^ 64 → BeginsWell n (decimal n)
begins_well = decimal_by_steps_wide BeginsWell one_digit more_digits

-- ---- numbers of RFC 8259

-- digits of which the first is not 0 are a whole part
whole_part : (ds : List ℕ) → 48 < get_or ds 0 0 → prefix_len is_ascii_digit ds ≡ length ds → after_whole ds ≡ Some []
whole_part [] first all = absurd (omega arith)
whole_part (d ∷ ds) first all =
    ap (λ t. cond t (Some (drop 1 (d ∷ ds))) (after_digits (d ∷ ds))) (ne_eqb d 48 (λ e. omega arith))
    ∙ ap (λ k. cond (k == 0) None (Some (drop k (d ∷ ds)))) all
    ∙ ap (λ t. cond t None (Some (drop (length (d ∷ ds)) (d ∷ ds)))) (ne_eqb (length (d ∷ ds)) 0 (λ e. omega arith))
    ∙ ap (λ rest. Some rest) (drop_of_length-le (d ∷ ds) {i = length (d ∷ ds)} (omega arith))

no_sign : (ds : List ℕ) → 48 < get_or ds 0 0 → after_minus ds ≡ ds
no_sign [] first = absurd (omega arith)
no_sign (d ∷ ds) first = ap (λ t. cond t ds (d ∷ ds)) (ne_eqb d 45 (λ e. omega arith))

whole_decimal : (n : ℕ) → n < 10 ^ 64 → (after_whole (decimal n) ≡ Some []) × (after_minus (decimal n) ≡ decimal n)
whole_decimal zero h = let e = decimal_digit 0 (omega arith) in (ap after_whole e, ap after_minus e ∙ sym e)
whole_decimal (suc n) h =
    let first = (begins_well (suc n) h).1 (omega arith) in
    (whole_part (decimal (suc n)) first (all_digits (decimal (suc n)) (decimal_is_IsNumeral_wide (suc n) h).0.1), no_sign (decimal (suc n)) first)

-- what follows a whole part is nothing
abbrev rest_of : Option (List ℕ) → Option (List ℕ)
rest_of o = option_and_then after_exponent (option_and_then after_fraction o)

number_plain : (n : ℕ) → n < 10 ^ 64 → IsNumber (decimal n)
unfolding after_number
number_plain n h = let w = whole_decimal n h in ap (λ ds. rest_of (after_whole ds)) w.1 ∙ ap rest_of w.0

number_minus : (n : ℕ) → n < 10 ^ 64 → IsNumber (45 ∷ decimal n)
unfolding after_number
number_minus n h = ap rest_of (whole_decimal n h).0

-- the digits of a whole number of 128 bits are a number
pub number-signed : (z : ℤ) → FitsSigned w128 z → IsNumber (signed_decimal z)
number-signed (pos n) fits = number_plain n (omega (arith, fits.sfits))
number-signed (negsuc n) fits = number_minus (suc n) (omega (arith, fits.sfits))

-- so is a text that they are
pub number-text : (z : ℤ) (text : List ℕ) → FitsSigned w128 z → text ≡ signed_decimal z → IsNumber text
number-text z text fits is = ap after_number is ∙ number-signed z fits

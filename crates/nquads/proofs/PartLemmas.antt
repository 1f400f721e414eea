-- What the code cuts, and what the functions of texts cut.
use denote.Ref.{Bor}
use Rattle.std.proofs.Common.{◌≡◌, ◌≢◌, ℕ, zero, suc, ◌+◌, ◌-◌, ◌<◌, ◌≤◌, List, [], ◌∷◌, length, drop, get_or, Bool, true, false, not, ltb, nat_le, ◌==◌, ◌||◌, ◌&&◌, Option, Some, None, MatchOption, option_copied, option_map, unwrap_or, position, slice_index, IsCharBoundary, refl, sym, ap, ◌∙◌, subst, inl, inr, arith, add-one, zero-lt-suc, suc-le-suc}
use Rattle.std.specs.List.{prefix_len, position_or_len}
use Rattle.std.specs.Str.{IsUtf8}
use Rattle.std.specs.Str.Pattern.{FindsCharPrefix}
use Rattle.std.proofs.lemmas.Bool.{eqb-true, eq-eqb, ltb-true, ltb-false, leb-true, leb-false, or_cases, or_parts, and_parts}
use Rattle.std.proofs.lemmas.List.Sums.{prefix_len-le-length, prefix_len_passes, prefix_len_stops}
use Rattle.std.proofs.lemmas.Str.{IsCharBoundary-start, IsCharBoundary-end, IsCharBoundary-before_ascii, IsCharBoundary-after_ascii}
use Rattle.std.proofs.lemmas.Str.Pattern.{strip_prefix_char, split_parts, IsSplitOnceResult}
use Rattle.nquads.specs.Terms.{is_letter, is_digit, is_label_character}
use Rattle.nquads.specs.Internal.Parsing.{past, cut_at, cut_iri, seen_two, is_language_character, language_len, without_dot, label_len}
use Rattle.nquads.proofs.ReadingTexts.{Absent}
use Rattle.nquads.proofs.Cutting.{cut_at-from}

other_first : (c : ℕ) (text : List ℕ) → ((rest : List ℕ) → text ≢ c ∷ rest) → None ≡ past c text
other_first c [] n = refl
other_first c (b ∷ bs) n = go (b == c) refl
  where
    go : (t : Bool) → (b == c) ≡ t → None ≡ past c (b ∷ bs)
    go true e = absurd (n bs (ap (λ (z : ℕ). z ∷ bs) (eqb-true b c e)))
    go false e = rw e refl

same_first : (c : ℕ) (text rest : List ℕ) → text ≡ c ∷ rest → Some rest ≡ past c text
same_first c text rest e = rw (e, eq-eqb c c refl) refl

-- what `strip_prefix` gives
pub past_is : (c : ℕ) (text : List ℕ) (r : Option (Bor (List ℕ))) → MatchOption r (FindsCharPrefix c text None) (λ x. (n : ℕ) × FindsCharPrefix c text (Some n) × (x.now ≡ drop n text) × (length x.now + n ≡ length text)) → c < 128 → option_copied r ≡ past c text
past_is c text None h l = other_first c text (strip_prefix_char c text None h l)
past_is c text (Some x) h l = same_first c text x.now (strip_prefix_char c text (Some x) h l)

-- ---- cut at a byte

absent_from : (c : ℕ) (xs : List ℕ) → ((i : ℕ) → i < length xs → get_or xs i 0 ≢ c) → Absent c xs
absent_from c [] n = tt
absent_from c (x ∷ xs) n =
    ((λ (e : c ≡ x). n 0 (zero-lt-suc (length xs)) (sym e)), absent_from c xs (λ (i : ℕ) (l : i < length xs). n (suc i) (suc-le-suc l)))

never_cut : (c : ℕ) (xs : List ℕ) → ((i : ℕ) → i < length xs → get_or xs i 0 ≢ c) → None ≡ cut_at c xs
never_cut c [] n = refl
never_cut c (x ∷ xs) n = go (x == c) refl (never_cut c xs (λ (i : ℕ) (l : i < length xs). n (suc i) (suc-le-suc l)))
  where
    go : (t : Bool) → (x == c) ≡ t → None ≡ cut_at c xs → None ≡ cut_at c (x ∷ xs)
    go true e h = absurd (n 0 (zero-lt-suc (length xs)) (eqb-true x c e))
    go false e h = rw (e, sym h) refl

-- what `split_once` gives
pub cut_is : (c : ℕ) (text : List ℕ) (r : Option (Bor (List ℕ) × Bor (List ℕ))) → IsSplitOnceResult c text r → c < 128 → option_map seen_two r ≡ cut_at c text
cut_is c text None h l = never_cut c text (split_parts c text None h l)
cut_is c text (Some q) h l =
    let p = split_parts c text (Some q) h l in
    rw p.0 (sym (cut_at-from c q.0.now q.1.now (absent_from c q.0.now p.1)))

-- the same behind an opening bracket
pub cut_iri_is : (text rest : List ℕ) (r : Option (Bor (List ℕ) × Bor (List ℕ))) → Some rest ≡ past 60 text → IsSplitOnceResult 62 rest r → option_map seen_two r ≡ cut_iri text
cut_iri_is text rest r e h = rw (sym e) (cut_is 62 rest r h (omega arith))

-- ---- runs of characters

twice_not : (test : ℕ → Bool) (xs : List ℕ) → prefix_len (λ c. not (not (test c))) xs ≡ prefix_len test xs
twice_not test [] = refl
twice_not test (x ∷ xs) = go (test x) refl (twice_not test xs)
  where
    go : (t : Bool) → test x ≡ t → prefix_len (λ c. not (not (test c))) xs ≡ prefix_len test xs → prefix_len (λ c. not (not (test c))) (x ∷ xs) ≡ prefix_len test (x ∷ xs)
    go true e h = rw (e, h) refl
    go false e h = rw e refl

-- the place of the first byte that fails, or the length
pub run_is : (test : ℕ → Bool) (xs : List ℕ) (n : ℕ) → n ≡ length xs → unwrap_or (position (λ c. not (test c)) xs) n ≡ prefix_len test xs
run_is test xs n e = go (ltb (position_or_len (λ c. not (test c)) xs) (length xs)) refl
  where
    go : (t : Bool) → ltb (position_or_len (λ c. not (test c)) xs) (length xs) ≡ t → unwrap_or (position (λ c. not (test c)) xs) n ≡ prefix_len test xs
    go true f = rw f (twice_not test xs)
    go false f =
        let most : length xs ≤ position_or_len (λ c. not (test c)) xs = ltb-false (position_or_len (λ c. not (test c)) xs) (length xs) f in
        let same : position_or_len (λ c. not (test c)) xs ≡ prefix_len test xs = twice_not test xs in
        let least : prefix_len test xs ≤ length xs = prefix_len-le-length test xs in
        rw f (omega (arith, e, most, same, least))

is_ascii_letter : (c : ℕ) → is_letter c ≡ true → c < 128
is_ascii_letter c e =
    elim (or_cases (nat_le 65 c && nat_le c 90) (nat_le 97 c && nat_le c 122) e) [
      | inl p ↦ omega (arith, leb-true c 90 (and_parts (nat_le 65 c) (nat_le c 90) p).1)
      | inr p ↦ omega (arith, leb-true c 122 (and_parts (nat_le 97 c) (nat_le c 122) p).1)
    ]

language_ascii : (c : ℕ) → is_language_character c ≡ true → c < 128
language_ascii c e =
    elim (or_cases (is_letter c) (is_digit c || (c == 45)) e) [
      | inl p ↦ is_ascii_letter c p
      | inr p ↦ elim (or_cases (is_digit c) (c == 45) p) [
        | inl q ↦ omega (arith, leb-true c 57 (and_parts (nat_le 48 c) (nat_le c 57) q).1)
        | inr q ↦ omega (arith, eqb-true c 45 q)
      ]
    ]

-- a text may be cut behind its language
pub language_cut : (text : List ℕ) (n : ℕ) → IsUtf8 text → n ≡ language_len text → IsCharBoundary text n
language_cut text zero u e = IsCharBoundary-start text u
language_cut text (suc n) u e =
    let least = prefix_len-le-length is_language_character text in
    let passes = prefix_len_passes is_language_character text n 0 (omega (arith, e)) in
    subst (IsCharBoundary text) (add-one n) (IsCharBoundary-after_ascii text n u (omega (arith, e, least)) (language_ascii (get_or text n 0) passes))

label_wide : (c : ℕ) → is_label_character c ≡ false → c < 128
label_wide c e =
    let r = or_parts (is_letter c || is_digit c || (c == 95) || (c == 58) || (c == 45) || (c == 46)) (nat_le 128 c) e in
    leb-false 128 c r.1

run_cut : (text : List ℕ) → IsUtf8 text → IsCharBoundary text (prefix_len is_label_character text)
run_cut text u = go (ltb (prefix_len is_label_character text) (length text)) refl
  where
    go : (t : Bool) → ltb (prefix_len is_label_character text) (length text) ≡ t → IsCharBoundary text (prefix_len is_label_character text)
    go true e =
        let within = ltb-true (prefix_len is_label_character text) (length text) e in
        IsCharBoundary-before_ascii text (prefix_len is_label_character text) within (label_wide (get_or text (prefix_len is_label_character text) 0) (prefix_len_stops is_label_character text 0 within))
    go false e =
        let most = ltb-false (prefix_len is_label_character text) (length text) e in
        let least = prefix_len-le-length is_label_character text in
        let same : length text ≡ prefix_len is_label_character text = omega (arith, most, least) in
        subst (IsCharBoundary text) same (IsCharBoundary-end text)

dot_cut : (text : List ℕ) (n : ℕ) → n ≤ length text → IsCharBoundary text n → IsCharBoundary text (without_dot text n)
dot_cut text zero l b = go (slice_index text 0 == 46) refl
  where
    go : (t : Bool) → (slice_index text 0 == 46) ≡ t → IsCharBoundary text (without_dot text zero)
    go true e = rw e b
    go false e = rw e b
dot_cut text (suc n) l b = go (slice_index text (suc n - 1) == 46) refl
  where
    go : (t : Bool) → (slice_index text (suc n - 1) == 46) ≡ t → IsCharBoundary text (without_dot text (suc n))
    go true e =
        let there = eqb-true (slice_index text (suc n - 1)) 46 e in
        rw e (IsCharBoundary-before_ascii text (suc n - 1) (omega (arith, l)) (omega (arith, there)))
    go false e = rw e b

-- a text may be cut behind its label
pub label_cut : (text : List ℕ) (n : ℕ) → IsUtf8 text → n ≡ label_len text → IsCharBoundary text n
label_cut text n u e =
    subst (IsCharBoundary text) (sym e) (dot_cut text (prefix_len is_label_character text) (prefix_len-le-length is_label_character text) (run_cut text u))

-- the length that the code finds
pub language_len_is : (text bytes : List ℕ) (o : Option ℕ) (d n : ℕ) → bytes ≡ text → o ≡ position (λ c. not (is_language_character c)) bytes → d ≡ length text → n ≡ unwrap_or o d → n ≡ language_len text
language_len_is text bytes o d n same e size is =
    is ∙ ap (λ (z : Option ℕ). unwrap_or z d) (e ∙ ap (position (λ c. not (is_language_character c))) same) ∙ run_is is_language_character text d size

-- the same of a label
pub label_len_is : (text bytes : List ℕ) (o : Option ℕ) (d n r : ℕ) → bytes ≡ text → o ≡ position (λ c. not (is_label_character c)) bytes → d ≡ length bytes → n ≡ unwrap_or o d → r ≡ without_dot bytes n → r ≡ label_len text
label_len_is text bytes o d n r same e size is cut =
    let run : n ≡ prefix_len is_label_character bytes = is ∙ ap (λ (z : Option ℕ). unwrap_or z d) e ∙ run_is is_label_character bytes d size in
    cut ∙ ap (without_dot bytes) run ∙ ap label_len same

-- a text may be cut behind a quote
pub quote_cut : (text bytes : List ℕ) (n : ℕ) → bytes ≡ text → IsUtf8 bytes → n < length bytes → slice_index bytes n ≡ 34 → IsCharBoundary text (n + 1)
quote_cut text bytes n same u l q = subst (λ (t : List ℕ). IsCharBoundary t (n + 1)) same (IsCharBoundary-after_ascii bytes n u l (omega (arith, q)))

-- no dot stands before the first byte
pub without_dot-zero : (text : List ℕ) → 0 ≡ without_dot text 0
without_dot-zero text = go (slice_index text 0 == 46) refl
  where
    go : (t : Bool) → (slice_index text 0 == 46) ≡ t → 0 ≡ without_dot text 0
    go true e = rw e refl
    go false e = rw e refl

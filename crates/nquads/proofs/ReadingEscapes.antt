-- A quoted text has one reading: a reader of one escaped byte, and what follows from it.
use Rattle.std.proofs.Common.{◌≡◌, ◌≢◌, ℕ, ◌+◌, ◌-◌, ◌*◌, ◌/◌, ◌%◌, ◌<◌, List, [], ◌∷◌, ◌++◌, Bool, true, false, ◌==◌, ◌||◌, nat_lt, if◌then◌else◌, refl, sym, ap, ◌∙◌, arith, append_assoc, subst, ap₂, inl, inr, lit<}
use Rattle.std.proofs.lemmas.Bool.{eqb-true, eqb-false, ltb-true, ltb-false, lt-ltb, le-ltb, or_cases}
use Rattle.std.specs.List.{flat_map}
use Rattle.nquads.specs.Spelling.{hex_digit, escape}
use Rattle.nquads.proofs.ReadingTexts.{apart, Absent, Absent-append}

abbrev digit_value : ℕ → ℕ
digit_value h = if nat_lt h 60 then h - 48 else h - 55

abbrev read_hex : List ℕ → ℕ × List ℕ
read_hex (x ∷ y ∷ h ∷ l ∷ r) = (16 * digit_value h + digit_value l, r)
read_hex r = (0, r)

abbrev read_mark : ℕ → List ℕ → ℕ × List ℕ
read_mark y r =
    if y == 98 then (8, r)
    else (if y == 116 then (9, r)
    else (if y == 110 then (10, r)
    else (if y == 102 then (12, r)
    else (if y == 114 then (13, r)
    else (if y == 34 then (34, r)
    else (if y == 92 then (92, r)
    else read_hex r))))))

abbrev read_escape : List ℕ → ℕ × List ℕ
read_escape [] = (0, [])
read_escape (y ∷ r) = read_mark y r

-- the first byte that a quoted text stands for, and what follows
abbrev read_byte : List ℕ → ℕ × List ℕ
read_byte [] = (0, [])
read_byte (x ∷ r) = if x == 92 then read_escape r else (x, r)

digit_value-hex_digit : (n : ℕ) → n < 16 → digit_value (hex_digit n) ≡ n
digit_value-hex_digit n l = go (nat_lt n 10) refl
  where
    go : (b : Bool) → nat_lt n 10 ≡ b → digit_value (hex_digit n) ≡ n
    go true e = rw (e, lt-ltb (48 + n) 60 (omega (arith, ltb-true n 10 e))) (omega arith)
    go false e = rw (e, le-ltb (55 + n) 60 (omega (arith, ltb-false n 10 e))) (omega arith)

branch : (c : ℕ) (t : Bool) (x y r : List ℕ) → (t ≡ true → read_byte (x ++ r) ≡ (c, r)) → (t ≡ false → read_byte (y ++ r) ≡ (c, r)) → read_byte ((if t then x else y) ++ r) ≡ (c, r)
branch c true x y r p q = p refl
branch c false x y r p q = q refl

letter_escape : (c k m : ℕ) (r : List ℕ) → read_mark m r ≡ (k, r) → (c == k) ≡ true → read_byte ((92 ∷ m ∷ []) ++ r) ≡ (c, r)
letter_escape c k m r p e = rw (eqb-true c k e) p

number_escape : (c : ℕ) (r : List ℕ) → c < 128 → read_byte ((92 ∷ 117 ∷ 48 ∷ 48 ∷ hex_digit (c / 16) ∷ hex_digit (c % 16) ∷ []) ++ r) ≡ (c, r)
number_escape c r l =
    let high : c / 16 < 16 = omega arith in
    let low : c % 16 < 16 = omega arith in
    let h : digit_value (hex_digit (c / 16)) ≡ c / 16 = digit_value-hex_digit (c / 16) high in
    let w : digit_value (hex_digit (c % 16)) ≡ c % 16 = digit_value-hex_digit (c % 16) low in
    let n : 16 * digit_value (hex_digit (c / 16)) + digit_value (hex_digit (c % 16)) ≡ c = rw (h, w) (omega arith) in
    ap (λ (k : ℕ). (k, r)) n

itself : (c : ℕ) (r : List ℕ) → (c == 92) ≡ false → read_byte ((c ∷ []) ++ r) ≡ (c, r)
itself c r e = rw e refl

-- a byte that is written by its number is ASCII
pub small_number : (c : ℕ) → (nat_lt c 32 || (c == 127)) ≡ true → c < 128
small_number c e = elim (or_cases (nat_lt c 32) (c == 127) e) [ inl p ↦ omega (arith, ltb-true c 32 p) | inr p ↦ omega (arith, eqb-true c 127 p) ]

-- the reader gives back the byte that was escaped
pub read_byte-escape : (c : ℕ) (r : List ℕ) → read_byte (escape c ++ r) ≡ (c, r)
read_byte-escape c r =
    branch c (c == 8) _ _ r (letter_escape c 8 98 r refl) (λ n1.
    branch c (c == 9) _ _ r (letter_escape c 9 116 r refl) (λ n2.
    branch c (c == 10) _ _ r (letter_escape c 10 110 r refl) (λ n3.
    branch c (c == 12) _ _ r (letter_escape c 12 102 r refl) (λ n4.
    branch c (c == 13) _ _ r (letter_escape c 13 114 r refl) (λ n5.
    branch c (c == 34) _ _ r (letter_escape c 34 34 r refl) (λ n6.
    branch c (c == 92) _ _ r (letter_escape c 92 92 r refl) (λ n7.
    branch c (nat_lt c 32 || (c == 127)) _ _ r (λ e. number_escape c r (small_number c e)) (λ n8. itself c r n7))))))))

not_quote : (c : ℕ) (r u : List ℕ) → escape c ++ r ≡ 34 ∷ u → ⊥
not_quote c r u e =
    let both : (c, r) ≡ (34, u) = sym (read_byte-escape c r) ∙ ap read_byte e in
    apart 92 34 (34 ∷ r) u refl (subst (λ (k : ℕ). escape k ++ r ≡ 34 ∷ u) (ap (λ (p : ℕ × List ℕ). p.0) both) e)

-- The quoted text and what follows it can be told from one another in one way only.
pub quoted_one_reading : (xs ys r u : List ℕ) → flat_map escape xs ++ 34 ∷ r ≡ flat_map escape ys ++ 34 ∷ u → (xs ≡ ys) × (r ≡ u)
quoted_one_reading [] [] r u e = (refl, cc)
quoted_one_reading [] (y ∷ ys) r u e = absurd (not_quote y (flat_map escape ys ++ 34 ∷ u) r (sym (e ∙ append_assoc (escape y) (flat_map escape ys) (34 ∷ u))))
quoted_one_reading (x ∷ xs) [] r u e = absurd (not_quote x (flat_map escape xs ++ 34 ∷ r) u (sym (append_assoc (escape x) (flat_map escape xs) (34 ∷ r)) ∙ e))
quoted_one_reading (x ∷ xs) (y ∷ ys) r u e =
    let whole : escape x ++ (flat_map escape xs ++ 34 ∷ r) ≡ escape y ++ (flat_map escape ys ++ 34 ∷ u) = sym (append_assoc (escape x) (flat_map escape xs) (34 ∷ r)) ∙ e ∙ append_assoc (escape y) (flat_map escape ys) (34 ∷ u) in
    let both : (x, flat_map escape xs ++ 34 ∷ r) ≡ (y, flat_map escape ys ++ 34 ∷ u) = sym (read_byte-escape x (flat_map escape xs ++ 34 ∷ r)) ∙ ap read_byte whole ∙ read_byte-escape y (flat_map escape ys ++ 34 ∷ u) in
    let rest : (xs ≡ ys) × (r ≡ u) = quoted_one_reading xs ys r u (ap (λ (p : ℕ × List ℕ). p.1) both) in
    (ap₂ (λ (k : ℕ) (ks : List ℕ). k ∷ ks) (ap (λ (p : ℕ × List ℕ). p.0) both) rest.0, rest.1)

-- ---- no byte is written with a line feed

if_absent : (n : ℕ) (t : Bool) (x y : List ℕ) → Absent n x → (t ≡ false → Absent n y) → Absent n (if t then x else y)
if_absent n true x y p q = p
if_absent n false x y p q = q refl

hex_digit_above : (n : ℕ) → 10 ≢ hex_digit n
hex_digit_above n e = go (nat_lt n 10) refl
  where
    go : (b : Bool) → nat_lt n 10 ≡ b → ⊥
    go true p = let h : 10 ≡ 48 + n = rw p at e in omega arith
    go false p = let h : 10 ≡ 55 + n = rw p at e in omega arith

two_marks : (m : ℕ) → 10 < m → Absent 10 (92 ∷ m ∷ [])
two_marks m l = (omega arith, (omega arith, tt))

-- no byte is written with LF
pub escape_absent : (c : ℕ) → Absent 10 (escape c)
escape_absent c =
    if_absent 10 (c == 8) _ _ (two_marks 98 (lit< tt)) (λ n1.
    if_absent 10 (c == 9) _ _ (two_marks 116 (lit< tt)) (λ n2.
    if_absent 10 (c == 10) _ _ (two_marks 110 (lit< tt)) (λ n3.
    if_absent 10 (c == 12) _ _ (two_marks 102 (lit< tt)) (λ n4.
    if_absent 10 (c == 13) _ _ (two_marks 114 (lit< tt)) (λ n5.
    if_absent 10 (c == 34) _ _ (two_marks 34 (lit< tt)) (λ n6.
    if_absent 10 (c == 92) _ _ (two_marks 92 (lit< tt)) (λ n7.
    if_absent 10 (nat_lt c 32 || (c == 127)) _ _ (omega arith, (omega arith, (omega arith, (omega arith, (hex_digit_above (c / 16), (hex_digit_above (c % 16), tt)))))) (λ n8.
    ((λ e. eqb-false c 10 n3 (sym e)), tt)))))))))

-- and so no text
pub quoted_absent : (xs : List ℕ) → Absent 10 (flat_map escape xs)
quoted_absent [] = tt
quoted_absent (x ∷ xs) = Absent-append 10 (escape x) (flat_map escape xs) (escape_absent x) (quoted_absent xs)

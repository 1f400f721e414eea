-- A canonical line says the statement whose line it is.
use Rattle.std.proofs.Common.{◌≡◌, ◌≢◌, ℕ, ◌+◌, ◌-◌, ◌*◌, ◌/◌, ◌%◌, ◌<◌, ◌≤◌, List, [], ◌∷◌, ◌++◌, Bool, true, false, cond, ◌==◌, ◌||◌, nat_lt, Option, Some, None, bytes_eq, flat_map, refl, sym, ap, ◌∙◌, subst, inl, inr, arith}
use Rattle.std.proofs.lemmas.Bool.{eqb-true, eqb-false, ltb-true, ltb-false, true≢false, le-leb, lt-leb}
use Rattle.std.proofs.lemmas.Slice.Eq.{bytes_eq-Decides}
use Rattle.std.proofs.lemmas.Str.{encode_ascii}
use Rattle.std.proofs.lemmas.List.Elements.{All-head, All-tail}
use lib.Utf8.{low_scalar}
use Rattle.nquads.specs.Terms.{Blank, Term, iri, literal, blank, HasIriCharacters, IsTerm, is_forbidden, xsd_string}
use Rattle.nquads.specs.Escapes.{hex_value, hex_number, named_escape, IsPiece, Writes}
use Rattle.nquads.specs.Reading.{WritesIri, WritesEnd, WritesTerm}
use Rattle.nquads.specs.Spelling.{hex_digit, hex_escape, escape, iri_text, literal_end}
use Rattle.nquads.specs.Lines.{term_text}
use Rattle.nquads.proofs.ReadingTexts.{Absent, Absent-append}
use Rattle.nquads.proofs.ReadingEscapes.{small_number, quoted_absent}
use Rattle.nquads.proofs.ReadingTerms.{iri_absent, label_absent, language_absent}
use Rattle.nquads.proofs.Meant.{Writes-nil, Writes-cons}
use Rattle.nquads.proofs.PartTerms.{HasLabelName, IsReadableTerm}

-- ---- an escaped byte

-- how one byte is written, without CR
pub record Escaped (c : ℕ) (w : List ℕ) : Type 0 where
  pub piece : IsPiece true (record { written = w; meant = c ∷ [] })
  pub return : Absent 13 w

if_escaped : (c : ℕ) (t : Bool) (x y : List ℕ) → (t ≡ true → Escaped c x) → (t ≡ false → Escaped c y) → Escaped c (cond t x y)
if_escaped c true x y p q = p refl
if_escaped c false x y p q = q refl

letter_escaped : (c k m : ℕ) → m ≢ 13 → named_escape m ≡ Some k → (c == k) ≡ true → Escaped c (92 ∷ m ∷ [])
letter_escaped c k m r n e = record {
  piece = inr (inl (refl, record { letter = m; character = c; written = refl; meant = refl; stands_for = n ∙ ap (λ (z : ℕ). Some z) (sym (eqb-true c k e)) }));
  return = ((omega arith), ((λ s. r (sym s)), tt));
}

hex_value-digit : (n : ℕ) → n < 16 → hex_value (hex_digit n) ≡ Some n
hex_value-digit n l = go (nat_lt n 10) refl
  where
    go : (b : Bool) → nat_lt n 10 ≡ b → hex_value (hex_digit n) ≡ Some n
    go true e =
        let small : n < 10 = ltb-true n 10 e in
        let same : 48 + n - 48 ≡ n = omega arith in
        rw (e, le-leb 48 (48 + n) (omega arith), le-leb (48 + n) 57 (omega arith), same) refl
    go false e =
        let large : 10 ≤ n = ltb-false n 10 e in
        let same : 55 + n - 55 ≡ n = omega arith in
        rw (e, le-leb 48 (55 + n) (omega arith), lt-leb (55 + n) 57 (omega arith), le-leb 65 (55 + n) (omega arith), le-leb (55 + n) 70 (omega arith), same) refl

digit_apart : (n k : ℕ) → n < 16 → k < 48 → k ≢ hex_digit n
digit_apart n k l m e = go (nat_lt n 10) refl
  where
    go : (b : Bool) → nat_lt n 10 ≡ b → ⊥
    go true f = let same : k ≡ 48 + n = rw f at e in absurd (omega arith)
    go false f = let same : k ≡ 55 + n = rw f at e in absurd (omega arith)

two_digits : (c : ℕ) → c < 128 → hex_number 0 (48 ∷ 48 ∷ hex_digit (c / 16) ∷ hex_digit (c % 16) ∷ []) ≡ Some c
two_digits c l =
    let high : c / 16 < 16 = omega arith in
    let low : c % 16 < 16 = omega arith in
    let same : 16 * (16 * 0 + c / 16) + c % 16 ≡ c = omega arith in
    rw (hex_value-digit (c / 16) high, hex_value-digit (c % 16) low, same) refl

number_escaped : (c : ℕ) → c < 128 → Escaped c (hex_escape c)
number_escaped c l =
    let high : c / 16 < 16 = omega arith in
    let low : c % 16 < 16 = omega arith in
    record {
      piece = inr (inr (record {
        character = c;
        written = record {
          digits = 48 ∷ 48 ∷ hex_digit (c / 16) ∷ hex_digit (c % 16) ∷ [];
          is = inl (refl, refl);
          number = two_digits c l;
          scalar = low_scalar c (omega arith);
        };
        meant = sym (encode_ascii c l);
      }));
      return = ((omega arith), ((omega arith), ((omega arith), ((omega arith), (digit_apart (c / 16) 13 high (omega arith), (digit_apart (c % 16) 13 low (omega arith), tt))))));
    }

itself_escaped : (c : ℕ) → (c == 34) ≡ false → (c == 92) ≡ false → (c == 13) ≡ false → Escaped c (c ∷ [])
itself_escaped c q b r = record {
  piece = inl (record { byte = c; written = refl; meant = refl; plain = (eqb-false c 34 q, eqb-false c 92 b) });
  return = ((λ s. eqb-false c 13 r (sym s)), tt);
}

-- each byte is written as one piece
pub escaped : (c : ℕ) → Escaped c (escape c)
escaped c =
    if_escaped c (c == 8) _ _ (letter_escaped c 8 98 (omega arith) refl) (λ n1.
    if_escaped c (c == 9) _ _ (letter_escaped c 9 116 (omega arith) refl) (λ n2.
    if_escaped c (c == 10) _ _ (letter_escaped c 10 110 (omega arith) refl) (λ n3.
    if_escaped c (c == 12) _ _ (letter_escaped c 12 102 (omega arith) refl) (λ n4.
    if_escaped c (c == 13) _ _ (letter_escaped c 13 114 (omega arith) refl) (λ n5.
    if_escaped c (c == 34) _ _ (letter_escaped c 34 34 (omega arith) refl) (λ n6.
    if_escaped c (c == 92) _ _ (letter_escaped c 92 92 (omega arith) refl) (λ n7.
    if_escaped c (nat_lt c 32 || (c == 127)) _ _ (λ e. number_escaped c (small_number c e)) (λ n8. itself_escaped c n6 n7 n5))))))))

-- a text with its escapes
pub text_writes : (text : List ℕ) → Writes true (flat_map escape text) text
text_writes [] = Writes-nil true
text_writes (c ∷ cs) = Writes-cons true (record { written = escape c; meant = c ∷ [] }) (flat_map escape cs) cs (escaped c).piece (text_writes cs)

returns_absent : (text : List ℕ) → Absent 13 (flat_map escape text)
returns_absent [] = tt
returns_absent (c ∷ cs) = Absent-append 13 (escape c) (flat_map escape cs) (escaped c).return (returns_absent cs)

-- ---- terms

raw_writes : (text : List ℕ) → HasIriCharacters text → Writes false text text
raw_writes [] a = Writes-nil false
raw_writes (c ∷ cs) a =
    let allowed : is_forbidden c ≡ false = All-head (λ c. is_forbidden c ≡ false) c cs a in
    Writes-cons false (record { written = c ∷ []; meant = c ∷ [] }) cs cs
    (inl (record {
      byte = c;
      written = refl;
      meant = refl;
      plain = (
        (λ (e : c ≡ 34). true≢false (subst (λ (z : ℕ). is_forbidden z ≡ false) e allowed)),
        (λ (e : c ≡ 92). true≢false (subst (λ (z : ℕ). is_forbidden z ≡ false) e allowed)),
      );
    }))
    (raw_writes cs (All-tail (λ c. is_forbidden c ≡ false) c cs a))

-- an IRI of such characters is written as it is
pub iri_writes : (text : List ℕ) → HasIriCharacters text → WritesIri (iri_text text) text
iri_writes text a = record { inner = text; is = refl; writes = raw_writes text a }

end_writes : (text datatype : List ℕ) (language : Option (List ℕ)) → IsTerm (literal text datatype language) → WritesEnd (literal_end datatype language) datatype language
end_writes text datatype (Some tag) t = (refl, t.1.0)
end_writes text datatype None t = go (bytes_eq datatype xsd_string) refl
  where
    go : (b : Bool) → bytes_eq datatype xsd_string ≡ b → WritesEnd (literal_end datatype None) datatype None
    go true e = inl (rw e refl, (bytes_eq-Decides datatype xsd_string).0 e)
    go false e = inr (iri_text datatype, rw e refl, iri_writes datatype t.0)

-- the name of a blank node as its label
abbrev pub name_of : Blank → List ℕ
name_of b = b.name

-- a term's text in a line writes it
pub term_writes : (t : Term) → IsReadableTerm t → WritesTerm (term_text name_of t) t
term_writes (iri text) r = iri_writes text r.term
term_writes (literal text datatype language) r = record {
  inner = flat_map escape text;
  end = literal_end datatype language;
  is = refl;
  writes = text_writes text;
  ends = end_writes text datatype language r.term;
}
term_writes (blank b) r = ((All-head HasLabelName b [] r.labels).0, refl)

-- ---- no end of a line stands in one

-- neither LF nor CR stands in the text
pub record OnOneLine (text : List ℕ) : Type 0 where
  pub feed : Absent 10 text
  pub return : Absent 13 text

-- of both parts of a text
pub joined_line : (xs ys : List ℕ) → OnOneLine xs → OnOneLine ys → OnOneLine (xs ++ ys)
joined_line xs ys a b = record { feed = Absent-append 10 xs ys a.feed b.feed; return = Absent-append 13 xs ys a.return b.return }

-- of one byte
pub one_byte : (c : ℕ) → (10 == c) ≡ false → (13 == c) ≡ false → OnOneLine (c ∷ [])
one_byte c f r = record { feed = (eqb-false 10 c f, tt); return = (eqb-false 13 c r, tt) }

-- an IRI stands on one line
pub iri_on_line : (text : List ℕ) → HasIriCharacters text → OnOneLine (iri_text text)
iri_on_line text a =
    joined_line (60 ∷ text) (62 ∷ [])
    (joined_line (60 ∷ []) text (one_byte 60 refl refl) (record { feed = iri_absent 10 text refl a; return = iri_absent 13 text refl a }))
    (one_byte 62 refl refl)

end_on_line : (text datatype : List ℕ) (language : Option (List ℕ)) → IsTerm (literal text datatype language) → OnOneLine (literal_end datatype language)
end_on_line text datatype (Some tag) t =
    joined_line (64 ∷ []) tag (one_byte 64 refl refl) (record { feed = language_absent 10 tag (omega arith) refl refl t.1.1; return = language_absent 13 tag (omega arith) refl refl t.1.1 })
end_on_line text datatype None t = go (bytes_eq datatype xsd_string) refl
  where
    go : (b : Bool) → bytes_eq datatype xsd_string ≡ b → OnOneLine (literal_end datatype None)
    go true e = rw e (record { feed = tt; return = tt })
    go false e =
        rw e (joined_line (94 ∷ 94 ∷ []) (iri_text datatype)
        (joined_line (94 ∷ []) (94 ∷ []) (one_byte 94 refl refl) (one_byte 94 refl refl)) (iri_on_line datatype t.0))

-- a term's text stands on one line
pub term_on_line : (t : Term) → IsReadableTerm t → OnOneLine (term_text name_of t)
term_on_line (iri text) r = iri_on_line text r.term
term_on_line (literal text datatype language) r =
    joined_line (34 ∷ flat_map escape text ++ 34 ∷ []) (literal_end datatype language)
    (joined_line (34 ∷ flat_map escape text) (34 ∷ [])
    (joined_line (34 ∷ []) (flat_map escape text) (one_byte 34 refl refl) (record { feed = quoted_absent text; return = returns_absent text }))
    (one_byte 34 refl refl))
    (end_on_line text datatype language r.term)
term_on_line (blank b) r =
    let l = (All-head HasLabelName b [] r.labels).1 in
    joined_line (95 ∷ 58 ∷ []) b.name
    (joined_line (95 ∷ []) (58 ∷ []) (one_byte 95 refl refl) (one_byte 58 refl refl))
    (record { feed = label_absent 10 b.name refl l; return = label_absent 13 b.name refl l })

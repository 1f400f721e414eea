-- What a part means: the term that the functions give is the one that is written so, and the other
-- way round.
use Rattle.std.proofs.Common.{◌≡◌, ◌≢◌, ℕ, ◌+◌, ◌*◌, ◌<◌, List, [], ◌∷◌, ◌++◌, length, Bool, true, false, not, cond, ◌==◌, ◌||◌, ◌&&◌, nat_lt, All, Option, Some, None, MatchOption, option_map, flat_map, bytes_eq, codes, refl, sym, ap, ◌∙◌, subst, inl, inr, arith, append_assoc}
use Rattle.std.specs.List.{position_or_len}
use Rattle.std.proofs.lemmas.Bool.{false≢true, true≢false, or_cases, or_left, or_right, and_parts, ne_eqb, ltb-false}
use Rattle.std.proofs.lemmas.Option.{none-some, same_Some, cond_some}
use Rattle.std.proofs.lemmas.List.Elements.{All-nil, All-cons, All-head, All-tail, All-contains, Contains-append_left, Contains-append_right}
use Rattle.std.proofs.lemmas.List.Sums.{fails_before_first}
use Rattle.std.proofs.lemmas.Slice.Eq.{bytes_eq-Decides}
use Rattle.base_types.proofs.Options.{and_then-Some, option_map-Some, took}
use Rattle.iri_ref.specs.Components.{IsAbsolute}
use Rattle.iri_ref.specs.Characters.{is_forbidden}
use Rattle.nquads.specs.Terms.{by_label, Blank, Term, iri, literal, blank, HasIriCharacters, IsTerm, IsResource, IsLabel, IsLanguage, is_letter, is_digit, xsd_string, rdf_lang_string}
use Rattle.nquads.specs.Renaming.{blanks_of_term}
use Rattle.nquads.specs.Escapes.{hex_value, hex_number, IsUchar, Piece, IsPiece, Writes}
use Rattle.nquads.specs.Reading.{WritesIri, WritesEnd, WritesLiteral, WritesTerm, HoldsNoncharacter, iris_of_term, texts_of_term}
use Rattle.nquads.specs.Internal.Meaning.{only_if, meant, holds_noncharacter, is_iri, is_group_character, language_rest, is_language, is_label}
use Rattle.nquads.specs.Internal.Parsing.{EndText, plain_end, language_end, datatype_end, PartText, iri_part, literal_part, blank_part, one_more, cut_quoted, is_language_character, iri_of, typed_literal, with_end, literal_of, term_of, resource_of}
use Rattle.nquads.proofs.ReadingTexts.{Absent, Absent-append}
use Rattle.nquads.proofs.ReadingElements.{All-from_contains}
use Rattle.nquads.proofs.Meant.{passed, meant-gives, meant-from}
use Rattle.nquads.proofs.Readable.{is_iri-gives, is_iri-from, is_language-gives, is_language-from, is_label-gives, is_label-from, none_held, none_found}
use Rattle.nquads.proofs.Cutting.{in_brackets, written_end, written, IsQuoted, IsClosedEnd, IsClosed}

-- ---- elements of joined lists

-- what holds of all of a joined list holds of its parts
pub All-left : {X : Type 0} (P : X → Type 0) (xs ys : List X) → All P (xs ++ ys) → All P xs
All-left P xs ys a = All-from_contains P xs (λ x m. All-contains P (xs ++ ys) x a (Contains-append_left xs ys x m))

-- and of the other one
pub All-right : {X : Type 0} (P : X → Type 0) (xs ys : List X) → All P (xs ++ ys) → All P ys
All-right P xs ys a = All-from_contains P ys (λ x m. All-contains P (xs ++ ys) x a (Contains-append_right xs ys x m))

-- ---- what is asked of a term that is read

-- the blank node is named by a label
abbrev pub HasLabelName : Blank → Type 0
HasLabelName b = (b.kind ≡ by_label) × IsLabel b.name

-- the text holds neither U+FFFE nor U+FFFF
abbrev pub IsClean : List ℕ → Type 0
IsClean text = HoldsNoncharacter text → ⊥

-- a term that N-Quads admits
pub record IsReadableTerm (t : Term) : Type 0 where
  pub term : IsTerm t
  pub absolute : All IsAbsolute (iris_of_term t)
  pub labels : All HasLabelName (blanks_of_term t)
  pub characters : All IsClean (texts_of_term t)

-- an absolute IRI has the characters of one
pub iri_characters : (text : List ℕ) → IsAbsolute text → HasIriCharacters text
iri_characters text a =
    let end = took (nat_lt (position_or_len is_forbidden text) (length text)) (Some (position_or_len is_forbidden text)) None None a.1 in
    elim end [
      | inl p ↦ absurd (none-some (position_or_len is_forbidden text) (sym p.1))
      | inr p ↦
          let past = ltb-false (position_or_len is_forbidden text) (length text) p.0 in
          λ (k : ℕ) (d : ℕ) (l : k < length text). fails_before_first is_forbidden text k d (omega arith)
    ]

-- ---- IRIs

-- an IRI that is given
pub record GivesIri (inner text : List ℕ) : Type 0 where
  pub writes : Writes false inner text
  pub absolute : IsAbsolute text
  pub clean : IsClean text

-- what is given is written so
pub iri_of-gives : (inner text : List ℕ) → iri_of inner ≡ Some text → GivesIri inner text
iri_of-gives inner text e =
    let r = and_then-Some (λ (z : List ℕ). only_if (is_iri z) z) (meant false inner) text e in
    let s = passed (is_iri r.0) r.0 text r.2 in
    let m = is_iri-gives r.0 s.0 in
    subst (GivesIri inner) s.1 (record { writes = meant-gives false inner r.0 r.1; absolute = m.0; clean = m.1 })

-- and what is written is given
pub iri_of-from : (inner text : List ℕ) → GivesIri inner text → iri_of inner ≡ Some text
iri_of-from inner text g = rw (meant-from false inner text g.writes, is_iri-from text g.absolute g.clean) refl

-- the text in brackets
pub WritesIri-from : (inner text : List ℕ) → GivesIri inner text → WritesIri (in_brackets inner) text
WritesIri-from inner text g = record { inner = inner; is = refl; writes = g.writes }

-- digits hold nothing that is no digit
pub hex_absent : (c : ℕ) → hex_value c ≡ None → (high : ℕ) (digits : List ℕ) (k : ℕ) → hex_number high digits ≡ Some k → Absent c digits
hex_absent c n high [] k e = tt
hex_absent c n high (d ∷ ds) k e =
    let r = and_then-Some (λ (value : ℕ). hex_number (16 * high + value) ds) (hex_value d) k e in (
      (λ (s : c ≡ d). none-some r.0 (sym n ∙ ap hex_value s ∙ r.1)),
      hex_absent c n (16 * high + r.0) ds k r.2,
    )

uchar_absent : (c : ℕ) (text : List ℕ) (k : ℕ) → hex_value c ≡ None → c ≢ 92 → c ≢ 117 → c ≢ 85 → IsUchar text k → Absent c text
uchar_absent c text k n a b d u =
    let rest = hex_absent c n 0 u.digits k u.number in
    elim u.is [ inl p ↦ rw p.0 (a, (b, rest)) | inr p ↦ rw p.0 (a, (d, rest)) ]

bracket_absent : (p : Piece) → IsPiece false p → HasIriCharacters p.meant → Absent 62 p.written
bracket_absent p i a =
    elim i [
      | inl r ↦
          let allowed : is_forbidden r.byte ≡ false = All-head (λ c. is_forbidden c ≡ false) r.byte [] (subst HasIriCharacters r.meant a) in
          rw r.written ((λ (e : 62 ≡ r.byte). true≢false (subst (λ (z : ℕ). is_forbidden z ≡ false) (sym e) allowed)), tt)
      | inr b ↦ elim b [
        | inl x ↦ absurd (false≢true x.0)
        | inr u ↦ uchar_absent 62 p.written u.character refl (omega arith) (omega arith) (omega arith) u.written
      ]
    ]

brackets_absent : (ps : List Piece) → All (IsPiece false) ps → HasIriCharacters (flat_map (λ (p : Piece). p.meant) ps) → Absent 62 (flat_map (λ (p : Piece). p.written) ps)
brackets_absent [] i a = tt
brackets_absent (p ∷ ps) i a =
    Absent-append 62 p.written (flat_map (λ (p : Piece). p.written) ps)
    (bracket_absent p (All-head (IsPiece false) p ps i) (All-left (λ c. is_forbidden c ≡ false) p.meant (flat_map (λ (p : Piece). p.meant) ps) a))
    (brackets_absent ps (All-tail (IsPiece false) p ps i) (All-right (λ c. is_forbidden c ≡ false) p.meant (flat_map (λ (p : Piece). p.meant) ps) a))

-- an IRI that is written holds no closing bracket
pub iri_closed : (inner text : List ℕ) → GivesIri inner text → Absent 62 inner
iri_closed inner text g =
    let w = g.writes in
    let allowed : HasIriCharacters (flat_map (λ (p : Piece). p.meant) w.pieces) = subst HasIriCharacters w.text_is (iri_characters text g.absolute) in
    rw w.written_is (brackets_absent w.pieces w.are allowed)

-- ---- quoted texts

abbrev pub with_front : List ℕ → Option (List ℕ × List ℕ) → Option (List ℕ × List ℕ)
with_front xs o = option_map (λ (q : List ℕ × List ℕ). (xs ++ q.0, q.1)) o

one_more-front : (b : ℕ) (xs : List ℕ) (o : Option (List ℕ × List ℕ)) → one_more b (with_front xs o) ≡ with_front (b ∷ xs) o
one_more-front b xs None = refl
one_more-front b xs (Some q) = refl

with_front-nil : (o : Option (List ℕ × List ℕ)) → o ≡ with_front [] o
with_front-nil None = refl
with_front-nil (Some q) = refl

raw_passes : (c : ℕ) (x : List ℕ) → c ≢ 34 → c ≢ 92 → cut_quoted false (c ∷ x) ≡ one_more c (cut_quoted false x)
raw_passes c x q b = rw (ne_eqb c 34 q, ne_eqb c 92 b) refl

texts_pass : (xs x : List ℕ) → Absent 34 xs → Absent 92 xs → cut_quoted false (xs ++ x) ≡ with_front xs (cut_quoted false x)
texts_pass [] x q b = with_front-nil (cut_quoted false x)
texts_pass (c ∷ cs) x q b =
    raw_passes c (cs ++ x) (λ e. q.0 (sym e)) (λ e. b.0 (sym e))
    ∙ ap (one_more c) (texts_pass cs x q.1 b.1)
    ∙ one_more-front c cs (cut_quoted false x)

escaped_passes : (c : ℕ) (xs x : List ℕ) → Absent 34 xs → Absent 92 xs → cut_quoted false (92 ∷ c ∷ (xs ++ x)) ≡ with_front (92 ∷ c ∷ xs) (cut_quoted false x)
escaped_passes c xs x q b =
    ap (λ (o : Option (List ℕ × List ℕ)). one_more 92 (one_more c o)) (texts_pass xs x q b)
    ∙ ap (one_more 92) (one_more-front c xs (cut_quoted false x))
    ∙ one_more-front 92 (c ∷ xs) (cut_quoted false x)

uchar_passes : (text : List ℕ) (k : ℕ) (x : List ℕ) → IsUchar text k → cut_quoted false (text ++ x) ≡ with_front text (cut_quoted false x)
uchar_passes text k x u =
    let q = hex_absent 34 refl 0 u.digits k u.number in
    let b = hex_absent 92 refl 0 u.digits k u.number in
    elim u.is [ inl p ↦ rw p.0 (escaped_passes 117 u.digits x q b) | inr p ↦ rw p.0 (escaped_passes 85 u.digits x q b) ]

piece_passes : (p : Piece) (x : List ℕ) → IsPiece true p → cut_quoted false (p.written ++ x) ≡ with_front p.written (cut_quoted false x)
piece_passes p x i =
    elim i [
      | inl r ↦ rw r.written (raw_passes r.byte x r.plain.0 r.plain.1 ∙ ap (one_more r.byte) (with_front-nil (cut_quoted false x)) ∙ one_more-front r.byte [] (cut_quoted false x))
      | inr b ↦ elim b [
        | inl y ↦ rw (y.1).written (escaped_passes (y.1).letter [] x tt tt)
        | inr u ↦ uchar_passes p.written u.character x u.written
      ]
    ]

pieces_pass : (ps : List Piece) (r : List ℕ) → All (IsPiece true) ps → cut_quoted false (flat_map (λ (p : Piece). p.written) ps ++ 34 ∷ r) ≡ Some (flat_map (λ (p : Piece). p.written) ps, r)
pieces_pass [] r a = refl
pieces_pass (p ∷ ps) r a =
    ap (cut_quoted false) (append_assoc p.written (flat_map (λ (p : Piece). p.written) ps) (34 ∷ r))
    ∙ piece_passes p (flat_map (λ (p : Piece). p.written) ps ++ 34 ∷ r) (All-head (IsPiece true) p ps a)
    ∙ ap (with_front p.written) (pieces_pass ps r (All-tail (IsPiece true) p ps a))

-- a quoted text that is written ends at the first quote that no backslash escapes
pub quoted_closed : (inner text : List ℕ) → Writes true inner text → IsQuoted inner
quoted_closed inner text w r = rw w.written_is (pieces_pass w.pieces r w.are)

-- ---- the end of a literal

group_is_language : (first : Bool) (c : ℕ) → is_group_character first c ≡ true → is_language_character c ≡ true
group_is_language first c e =
    elim (or_cases (is_letter c) (not first && is_digit c) e) [
      | inl p ↦ or_left (is_letter c) (is_digit c || (c == 45)) p
      | inr p ↦ or_right (is_letter c) (is_digit c || (c == 45)) (or_left (is_digit c) (c == 45) (and_parts (not first) (is_digit c) p).1)
    ]

language_characters : (first begun : Bool) (cs : List ℕ) → language_rest first begun cs ≡ true → All (λ c. is_language_character c ≡ true) cs
language_characters first begun [] e = All-nil (λ c. is_language_character c ≡ true)
language_characters first begun (c ∷ cs) e =
    elim (took (c == 45) (begun && language_rest false false cs) (is_group_character first c && language_rest first true cs) true e) [
      | inl p ↦
          All-cons (λ c. is_language_character c ≡ true) c cs
          (or_right (is_letter c) (is_digit c || (c == 45)) (or_right (is_digit c) (c == 45) p.0))
          (language_characters false false cs (and_parts begun (language_rest false false cs) p.1).1)
      | inr p ↦
          let r = and_parts (is_group_character first c) (language_rest first true cs) p.1 in
          All-cons (λ c. is_language_character c ≡ true) c cs (group_is_language first c r.0) (language_characters first true cs r.1)
    ]

-- what is given of a literal
pub record GivesLiteral (inner : List ℕ) (end : EndText) (t : Term) : Type 0 where
  pub text : List ℕ
  pub datatype : List ℕ
  pub language : Option (List ℕ)
  pub is : literal text datatype language ≡ t
  pub writes : Writes true inner text
  pub ends : WritesEnd (written_end end) datatype language
  pub clean : IsClean text
  pub datatype_clean : IsClean datatype
  pub absolute : IsAbsolute datatype
  pub tagged : MatchOption language (datatype ≢ rdf_lang_string) (λ tag. (datatype ≡ rdf_lang_string) × IsLanguage tag)

xsd_absolute : IsAbsolute xsd_string
xsd_absolute = (refl, refl)

lang_absolute : IsAbsolute rdf_lang_string
lang_absolute = (refl, refl)

xsd_clean : IsClean xsd_string
xsd_clean = none_held xsd_string refl

lang_clean : IsClean rdf_lang_string
lang_clean = none_held rdf_lang_string refl

xsd_apart : xsd_string ≢ rdf_lang_string
xsd_apart e = false≢true ((bytes_eq-Decides xsd_string rdf_lang_string).1 e)

with_end-gives : (inner : List ℕ) (end : EndText) (text : List ℕ) (t : Term) → Writes true inner text → IsClean text → with_end text end ≡ Some t → GivesLiteral inner end t
with_end-gives inner plain_end text t w n e = record {
  text = text;
  datatype = xsd_string;
  language = None;
  is = same_Some (literal text xsd_string None) t e;
  writes = w;
  ends = inl (refl, refl);
  clean = n;
  datatype_clean = xsd_clean;
  absolute = xsd_absolute;
  tagged = xsd_apart;
}
with_end-gives inner (language_end tag) text t w n e =
    let r = cond_some (is_language tag) (literal text rdf_lang_string (Some tag)) t e in
    record {
      text = text;
      datatype = rdf_lang_string;
      language = Some tag;
      is = r.1;
      writes = w;
      ends = (refl, refl);
      clean = n;
      datatype_clean = lang_clean;
      absolute = lang_absolute;
      tagged = (refl, is_language-gives tag r.0);
    }
with_end-gives inner (datatype_end named) text t w n e =
    let r = and_then-Some (typed_literal text) (iri_of named) t e in
    let g = iri_of-gives named r.0 r.1 in
    elim (took (bytes_eq r.0 rdf_lang_string) None (Some (literal text r.0 None)) (Some t) r.2) [
      | inl p ↦ absurd (none-some t p.1)
      | inr p ↦ record {
        text = text;
        datatype = r.0;
        language = None;
        is = same_Some (literal text r.0 None) t p.1;
        writes = w;
        ends = inr (in_brackets named, refl, WritesIri-from named r.0 g);
        clean = n;
        datatype_clean = g.clean;
        absolute = g.absolute;
        tagged = λ (s : r.0 ≡ rdf_lang_string). false≢true (sym p.0 ∙ (bytes_eq-Decides r.0 rdf_lang_string).1 s);
      }
    ]

literal_of-gives : (inner : List ℕ) (end : EndText) (t : Term) → literal_of inner end ≡ Some t → GivesLiteral inner end t
literal_of-gives inner end t e =
    let r = and_then-Some (λ (text : List ℕ). cond (holds_noncharacter text) None (with_end text end)) (meant true inner) t e in
    elim (took (holds_noncharacter r.0) None (with_end r.0 end) (Some t) r.2) [
      | inl p ↦ absurd (none-some t p.1)
      | inr p ↦ with_end-gives inner end r.0 t (meant-gives true inner r.0 r.1) (none_held r.0 p.0) p.1
    ]

-- ---- what a part gives is written so

iri_readable : (inner text : List ℕ) → GivesIri inner text → IsReadableTerm (iri text)
iri_readable inner text g = record {
  term = iri_characters text g.absolute;
  absolute = All-cons IsAbsolute text [] g.absolute (All-nil IsAbsolute);
  labels = All-nil HasLabelName;
  characters = All-cons IsClean text [] g.clean (All-nil IsClean);
}

literal_readable : (inner : List ℕ) (end : EndText) (t : Term) (g : GivesLiteral inner end t) → IsReadableTerm (literal g.text g.datatype g.language)
literal_readable inner end t g = record {
  term = (iri_characters g.datatype g.absolute, g.tagged);
  absolute = All-cons IsAbsolute g.datatype [] g.absolute (All-nil IsAbsolute);
  labels = All-nil HasLabelName;
  characters = All-cons IsClean g.text (g.datatype ∷ []) g.clean (All-cons IsClean g.datatype [] g.datatype_clean (All-nil IsClean));
}

abbrev label_node : List ℕ → Blank
label_node label = record { kind = by_label; name = label }

blank_readable : (label : List ℕ) → IsLabel label → IsClean label → IsReadableTerm (blank (label_node label))
blank_readable label l n = record {
  term = tt;
  absolute = All-nil IsAbsolute;
  labels = All-cons HasLabelName (label_node label) [] (refl, l) (All-nil HasLabelName);
  characters = All-cons IsClean label [] n (All-nil IsClean);
}

-- a term, as it is written
pub record GivesTerm (text : List ℕ) (t : Term) : Type 0 where
  pub writes : WritesTerm text t
  pub readable : IsReadableTerm t

-- what a part means is written as the part
pub term_of-gives : (p : PartText) (t : Term) → term_of p ≡ Some t → GivesTerm (written p) t
term_of-gives (iri_part inner) t e =
    let m = option_map-Some iri (iri_of inner) t e in
    let g = iri_of-gives inner m.0 m.1 in
    subst (GivesTerm (in_brackets inner)) m.2 (record { writes = WritesIri-from inner m.0 g; readable = iri_readable inner m.0 g })
term_of-gives (literal_part inner end) t e =
    let g = literal_of-gives inner end t e in
    subst (GivesTerm (written (literal_part inner end))) g.is (record {
      writes = record { inner = inner; end = written_end end; is = refl; writes = g.writes; ends = g.ends };
      readable = literal_readable inner end t g;
    })
term_of-gives (blank_part label) t e =
    let r = passed (is_label label) (blank (label_node label)) t e in
    let l = is_label-gives label r.0 in
    subst (GivesTerm (written (blank_part label))) r.1 (record { writes = (refl, refl); readable = blank_readable label l.0 l.1 })

-- a resource is a term that is one
pub resource_of-gives : (p : PartText) (t : Term) → resource_of p ≡ Some t → (term_of p ≡ Some t) × IsResource t
resource_of-gives (iri_part inner) t e =
    let m = option_map-Some iri (iri_of inner) t e in
    let g = iri_of-gives inner m.0 m.1 in
    (e, subst IsResource m.2 (iri_characters m.0 g.absolute))
resource_of-gives (literal_part inner end) t e = absurd (none-some t e)
resource_of-gives (blank_part label) t e =
    let r = passed (is_label label) (blank (label_node label)) t e in
    (e, subst IsResource r.1 tt)

-- ---- what is written so is given

-- a part that is a text, and its term
pub record PartOf (text : List ℕ) (t : Term) : Type 0 where
  pub part : PartText
  pub is : text ≡ written part
  pub closed : IsClosed part
  pub means : term_of part ≡ Some t

-- the inner text of an IRI that is written
pub iri_given : (text meaning : List ℕ) (w : WritesIri text meaning) → IsAbsolute meaning → IsClean meaning → GivesIri w.inner meaning
iri_given text meaning w a n = record { writes = w.writes; absolute = a; clean = n }

iri_part_of : (text meaning : List ℕ) → WritesIri text meaning → IsReadableTerm (iri meaning) → PartOf text (iri meaning)
iri_part_of text meaning w r =
    let g = iri_given text meaning w (All-head IsAbsolute meaning [] r.absolute) (All-head IsClean meaning [] r.characters) in
    record {
      part = iri_part w.inner;
      is = w.is;
      closed = iri_closed w.inner meaning g;
      means = ap (option_map iri) (iri_of-from w.inner meaning g);
    }

-- an end of a literal, and the literal with its text
record EndOf (text content datatype : List ℕ) (language : Option (List ℕ)) : Type 0 where
  end : EndText
  is : text ≡ written_end end
  closed : IsClosedEnd end
  means : with_end content end ≡ Some (literal content datatype language)

end_of : (text content datatype : List ℕ) (language : Option (List ℕ)) → WritesEnd text datatype language → IsReadableTerm (literal content datatype language) → EndOf text content datatype language
end_of text content datatype (Some tag) w r =
    let l : is_language tag ≡ true = is_language-from tag (r.term).1.1 in
    record {
      end = language_end tag;
      is = w.0;
      closed = language_characters true false tag l;
      means = rw l (ap (λ (d : List ℕ). Some (literal content d (Some tag))) (sym w.1));
    }
end_of text content datatype None w r =
    elim w [
      | inl p ↦ record { end = plain_end; is = p.0; closed = tt; means = ap (λ (d : List ℕ). Some (literal content d None)) (sym p.1) }
      | inr p ↦
          let named = p.2 in
          let clean = All-head IsClean datatype [] (All-tail IsClean content (datatype ∷ []) r.characters) in
          let g = iri_given p.0 datatype named (All-head IsAbsolute datatype [] r.absolute) clean in
          record {
            end = datatype_end named.inner;
            is = p.1 ∙ ap (λ (t : List ℕ). codes "^^" ++ t) named.is;
            closed = iri_closed named.inner datatype g;
            means = rw (iri_of-from named.inner datatype g, no_lang_string datatype (r.term).1) refl;
          }
    ]
  where
    no_lang_string : (d : List ℕ) → d ≢ rdf_lang_string → bytes_eq d rdf_lang_string ≡ false
    no_lang_string d n = go (bytes_eq d rdf_lang_string) refl
      where
        go : (b : Bool) → bytes_eq d rdf_lang_string ≡ b → b ≡ false
        go true e = absurd (n ((bytes_eq-Decides d rdf_lang_string).0 e))
        go false e = refl

literal_part_of : (text content datatype : List ℕ) (language : Option (List ℕ)) → WritesLiteral text content datatype language → IsReadableTerm (literal content datatype language) → PartOf text (literal content datatype language)
literal_part_of text content datatype language w r =
    let x = end_of w.end content datatype language w.ends r in
    record {
      part = literal_part w.inner x.end;
      is = w.is ∙ ap (λ (t : List ℕ). codes "\"" ++ w.inner ++ codes "\"" ++ t) x.is;
      closed = (quoted_closed w.inner content w.writes, x.closed);
      means = rw (meant-from true w.inner content w.writes, none_found content (All-head IsClean content (datatype ∷ []) r.characters)) x.means;
    }

blank_part_of : (text : List ℕ) (b : Blank) → WritesTerm text (blank b) → IsReadableTerm (blank b) → PartOf text (blank b)
blank_part_of text b w r =
    let l = All-head HasLabelName b [] r.labels in
    let label = l.1 in
    let same : label_node b.name ≡ b = λ i. record { kind = sym w.0 i; name = b.name } in
    record {
      part = blank_part b.name;
      is = w.1;
      closed = record { not_empty = label.not_empty; characters = label.characters; last = label.last };
      means = rw (is_label-from b.name label (All-head IsClean b.name [] r.characters)) (ap (λ (n : Blank). Some (blank n)) same);
    }

-- a term that is written is a part's
pub part_of : (text : List ℕ) (t : Term) → WritesTerm text t → IsReadableTerm t → PartOf text t
part_of text (iri meaning) w r = iri_part_of text meaning w r
part_of text (literal content datatype language) w r = literal_part_of text content datatype language w r
part_of text (blank b) w r = blank_part_of text b w r

-- and where it is a resource, a resource's
pub resource_of-from : (p : PartText) (t : Term) → term_of p ≡ Some t → IsResource t → resource_of p ≡ Some t
resource_of-from (iri_part inner) t e i = e
resource_of-from (literal_part inner end) t e i =
    let g = literal_of-gives inner end t e in
    absurd (subst IsResource (sym g.is) i)
resource_of-from (blank_part label) t e i = e

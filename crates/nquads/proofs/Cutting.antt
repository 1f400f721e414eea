-- Parts of a line as they are cut from left to right: they and what follows make the text, and a
-- part that is closed is cut where it ends.
use Rattle.std.proofs.Common.{◌≡◌, ◌≢◌, ℕ, ◌+◌, ◌-◌, ◌<◌, List, [], ◌∷◌, ◌++◌, length, take, drop, Bool, true, false, ◌==◌, All, Option, Some, None, option_map, option_and_then, slice_index, codes, refl, sym, ap, ◌∙◌, subst, inl, inr, arith, append_assoc, take-append-drop}
use Rattle.std.specs.Prelude.{◌⊎◌}
use Rattle.std.specs.List.{prefix_len}
use Rattle.std.proofs.lemmas.Bool.{eqb-true, or_cases, ne_eqb, eq-eqb}
use Rattle.std.proofs.lemmas.Option.{none-some, same_Some, cond_some}
use Rattle.std.proofs.lemmas.List.{take_at, drop_at, append-nil, get_or_at, get_or_append_left}
use Rattle.std.proofs.lemmas.List.Elements.{All-nil, All-cons, All-head, All-tail}
use Rattle.base_types.proofs.Options.{and_then-Some, option_map-Some, took}
use Rattle.nquads.specs.Terms.{is_label_character}
use Rattle.nquads.specs.Reading.{is_gap, AreGaps, IsGap, IsEnd}
use Rattle.nquads.specs.Internal.Parsing.{EndText, plain_end, language_end, datatype_end, PartText, iri_part, literal_part, blank_part, where_some, past, past_one_gap, past_gaps, past_gap, one_more, cut_at, cut_quoted, cut_iri, is_language_character, language_len, label_len, language_in, datatype_in, end_in, literal_in, blank_in, iri_in, part_in, is_comment, is_end}
use Rattle.nquads.proofs.ReadingTexts.{Absent}

-- ---- one byte

-- what follows a byte
pub past-gives : (c : ℕ) (x r : List ℕ) → past c x ≡ Some r → x ≡ c ∷ r
past-gives c [] r e = absurd (none-some r e)
past-gives c (b ∷ bs) r e =
    let s = cond_some (b == c) bs r e in
    let head : b ≡ c = eqb-true b c s.0 in
    λ i. head i ∷ s.1 i

-- a text that begins otherwise
pub past-other : (c b : ℕ) (bs : List ℕ) → (b == c) ≡ false → past c (b ∷ bs) ≡ None
past-other c b bs e = rw e refl

-- which way a choice went
pub chose : {X Y : Type 0} (o : Option X) (f : X → Y) (y z : Y) → where_some o f y ≡ z → ((x : X) × (o ≡ Some x) × (f x ≡ z)) ⊎ ((o ≡ None) × (y ≡ z))
chose None f y z e = inr (refl, e)
chose (Some x) f y z e = inl (x, refl, e)

-- ---- spaces and tabs

abbrev GapAt : ℕ → Type 0
GapAt c = is_gap c ≡ true

-- spaces and tabs in front are passed over
pub past_gaps-append : (gaps r : List ℕ) → AreGaps gaps → past_gaps (gaps ++ r) ≡ past_gaps r
past_gaps-append [] r a = refl
past_gaps-append (g ∷ gs) r a = rw (All-head GapAt g gs a) (past_gaps-append gs r (All-tail GapAt g gs a))

-- the spaces and tabs in front of a text
pub record Gaps (text : List ℕ) : Type 0 where
  pub gaps : List ℕ
  pub are : AreGaps gaps
  pub is : text ≡ gaps ++ past_gaps text

-- each text has them
pub gaps_of : (text : List ℕ) → Gaps text
gaps_of [] = record { gaps = []; are = All-nil GapAt; is = refl }
gaps_of (c ∷ cs) = go (is_gap c) refl (gaps_of cs)
  where
    go : (b : Bool) → is_gap c ≡ b → Gaps cs → Gaps (c ∷ cs)
    go true e g = record { gaps = c ∷ g.gaps; are = All-cons GapAt c g.gaps e g.are; is = rw e (ap (λ (t : List ℕ). c ∷ t) g.is) }
    go false e g = record { gaps = []; are = All-nil GapAt; is = rw e refl }

-- a text that begins otherwise
pub past_gaps-other : (c : ℕ) (cs : List ℕ) → is_gap c ≡ false → past_gaps (c ∷ cs) ≡ c ∷ cs
past_gaps-other c cs e = rw e refl

-- a gap in front of a text
pub record Gap (text rest : List ℕ) : Type 0 where
  pub gap : List ℕ
  pub is_one : IsGap gap
  pub is : text ≡ gap ++ rest

-- what is passed over is a gap
pub past_gap-gives : (text rest : List ℕ) → past_gap text ≡ Some rest → Gap text rest
past_gap-gives [] rest e = absurd (none-some rest e)
past_gap-gives (c ∷ cs) rest e =
    let m = option_map-Some past_gaps (past_one_gap (c ∷ cs)) rest e in
    let s = cond_some (is_gap c) cs m.0 m.1 in
    let g = gaps_of cs in
    let same : past_gaps cs ≡ rest = ap past_gaps s.1 ∙ m.2 in
    record {
      gap = c ∷ g.gaps;
      is_one = ((λ (n : c ∷ g.gaps ≡ []). cc), All-cons GapAt c g.gaps s.0 g.are);
      is = ap (λ (t : List ℕ). c ∷ t) (g.is ∙ ap (λ (t : List ℕ). g.gaps ++ t) same);
    }

-- and a gap is passed over
pub past_gap-from : (gap rest : List ℕ) → IsGap gap → past_gap (gap ++ rest) ≡ Some (past_gaps rest)
past_gap-from [] rest g = absurd (g.0 refl)
past_gap-from (c ∷ cs) rest g =
    rw (All-head GapAt c cs g.1) (ap (λ (t : List ℕ). Some t) (past_gaps-append cs rest (All-tail GapAt c cs g.1)))

-- ---- the end of a line

comment_gives : (gaps rest : List ℕ) → AreGaps gaps → is_comment rest ≡ true → IsEnd (gaps ++ rest)
comment_gives gaps [] a e = inl (subst AreGaps (sym (append-nil gaps)) a)
comment_gives gaps (c ∷ cs) a e =
    let head : c ≡ 35 = eqb-true c 35 e in
    inr (gaps, cs, ap (λ (z : ℕ). gaps ++ z ∷ cs) head ∙ sym (append_assoc gaps (35 ∷ []) cs), a)

-- what the test of ends says
pub is_end-gives : (text : List ℕ) → is_end text ≡ true → IsEnd text
is_end-gives text e =
    let g = gaps_of text in
    subst IsEnd (sym g.is) (comment_gives g.gaps (past_gaps text) g.are e)

only_gaps : (text : List ℕ) → AreGaps text → past_gaps text ≡ []
only_gaps text a = ap past_gaps (sym (append-nil text)) ∙ past_gaps-append text [] a

-- and of what it is true
pub is_end-from : (text : List ℕ) → IsEnd text → is_end text ≡ true
is_end-from text h =
    elim h [
      | inl a ↦ rw (only_gaps text a) refl
      | inr c ↦ rw (c.2 ∙ append_assoc c.0 (35 ∷ []) c.1, past_gaps-append c.0 (35 ∷ c.1) c.3) refl
    ]

-- ---- cut at a byte

one_more-gives : (b : ℕ) (o : Option (List ℕ × List ℕ)) (q : List ℕ × List ℕ) → one_more b o ≡ Some q → (r : List ℕ × List ℕ) × (o ≡ Some r) × ((b ∷ r.0, r.1) ≡ q)
one_more-gives b o q e = option_map-Some (λ (q : List ℕ × List ℕ). (b ∷ q.0, q.1)) o q e

abbrev joined : ℕ → List ℕ × List ℕ → List ℕ
joined c q = q.0 ++ c ∷ q.1

-- the text before the first c, that, and what follows it
pub cut_at-gives : (c : ℕ) (x : List ℕ) (q : List ℕ × List ℕ) → cut_at c x ≡ Some q → x ≡ q.0 ++ c ∷ q.1
cut_at-gives c [] q e = absurd (none-some q e)
cut_at-gives c (b ∷ bs) q e =
    elim (took (b == c) (Some ([], bs)) (one_more b (cut_at c bs)) (Some q) e) [
      | inl p ↦
          let s : ([], bs) ≡ q = same_Some ([], bs) q p.1 in
          ap (λ (z : ℕ). z ∷ bs) (eqb-true b c p.0) ∙ ap (joined c) s
      | inr p ↦
          let r = one_more-gives b (cut_at c bs) q p.1 in
          ap (λ (t : List ℕ). b ∷ t) (cut_at-gives c bs r.0 r.1) ∙ ap (joined c) r.2
    ]

-- and a text without c is cut behind it
pub cut_at-from : (c : ℕ) (xs r : List ℕ) → Absent c xs → cut_at c (xs ++ c ∷ r) ≡ Some (xs, r)
cut_at-from c [] r a = rw (eq-eqb c c refl) refl
cut_at-from c (x ∷ xs) r a = rw (ne_eqb x c (λ (e : x ≡ c). a.0 (sym e)), cut_at-from c xs r a.1) refl

-- an IRI as it is written
abbrev pub in_brackets : List ℕ → List ℕ
in_brackets inner = codes "<" ++ inner ++ codes ">"

-- an IRI and what follows it
pub cut_iri-gives : (x : List ℕ) (q : List ℕ × List ℕ) → cut_iri x ≡ Some q → x ≡ in_brackets q.0 ++ q.1
cut_iri-gives x q e =
    let r = and_then-Some (cut_at 62) (past 60 x) q e in
    past-gives 60 x r.0 r.1 ∙ ap (λ (t : List ℕ). 60 ∷ t) (cut_at-gives 62 r.0 q r.2 ∙ sym (append_assoc q.0 (62 ∷ []) q.1))

-- and the other way round
pub cut_iri-from : (inner r : List ℕ) → Absent 62 inner → cut_iri (in_brackets inner ++ r) ≡ Some (inner, r)
cut_iri-from inner r a = ap (cut_at 62) (append_assoc inner (62 ∷ []) r) ∙ cut_at-from 62 inner r a

-- the text between quotes, the closing quote and what follows
pub cut_quoted-gives : (escaped : Bool) (x : List ℕ) (q : List ℕ × List ℕ) → cut_quoted escaped x ≡ Some q → x ≡ q.0 ++ 34 ∷ q.1
cut_quoted-gives true [] q e = absurd (none-some q e)
cut_quoted-gives false [] q e = absurd (none-some q e)
cut_quoted-gives true (b ∷ bs) q e =
    let r = one_more-gives b (cut_quoted false bs) q e in
    ap (λ (t : List ℕ). b ∷ t) (cut_quoted-gives false bs r.0 r.1) ∙ ap (joined 34) r.2
cut_quoted-gives false (b ∷ bs) q e =
    elim (took (b == 34) (Some ([], bs)) (one_more b (cut_quoted (b == 92) bs)) (Some q) e) [
      | inl p ↦
          let s : ([], bs) ≡ q = same_Some ([], bs) q p.1 in
          ap (λ (z : ℕ). z ∷ bs) (eqb-true b 34 p.0) ∙ ap (joined 34) s
      | inr p ↦
          let r = one_more-gives b (cut_quoted (b == 92) bs) q p.1 in
          ap (λ (t : List ℕ). b ∷ t) (cut_quoted-gives (b == 92) bs r.0 r.1) ∙ ap (joined 34) r.2
    ]

-- ---- a run of characters

-- where all of a text passes
pub prefix_len-all : (test : ℕ → Bool) (xs r : List ℕ) → All (λ c. test c ≡ true) xs → prefix_len test (xs ++ r) ≡ length xs + prefix_len test r
prefix_len-all test [] r a = omega arith
prefix_len-all test (x ∷ xs) r a =
    let h = prefix_len-all test xs r (All-tail (λ c. test c ≡ true) x xs a) in
    rw (All-head (λ c. test c ≡ true) x xs a, h) (omega arith)

-- nothing passes in front
abbrev pub StopsAt : (ℕ → Bool) → List ℕ → Type 0
StopsAt test [] = Unit {0}
StopsAt test (c ∷ cs) = test c ≡ false

prefix_len-stops : (test : ℕ → Bool) (r : List ℕ) → StopsAt test r → prefix_len test r ≡ 0
prefix_len-stops test [] s = refl
prefix_len-stops test (c ∷ cs) s = rw s refl

-- the run of a text that passes, with what follows
pub run_len : (test : ℕ → Bool) (xs r : List ℕ) → All (λ c. test c ≡ true) xs → StopsAt test r → prefix_len test (xs ++ r) ≡ length xs
run_len test xs r a s = let h = prefix_len-all test xs r a in let z = prefix_len-stops test r s in omega arith

-- ---- parts and what follows them

-- how the end of a literal and a part are written
abbrev pub written_end : EndText → List ℕ
written_end plain_end = []
written_end (language_end tag) = codes "@" ++ tag
written_end (datatype_end inner) = codes "^^" ++ in_brackets inner

abbrev pub written : PartText → List ℕ
written (iri_part inner) = in_brackets inner
written (literal_part inner end) = codes "\"" ++ inner ++ codes "\"" ++ written_end end
written (blank_part label) = codes "_:" ++ label

abbrev end_and_rest : EndText × List ℕ → List ℕ
end_and_rest q = written_end q.0 ++ q.1

abbrev part_and_rest : PartText × List ℕ → List ℕ
part_and_rest q = written q.0 ++ q.1

datatype_in-gives : (x : List ℕ) (q : EndText × List ℕ) → datatype_in x ≡ Some q → 94 ∷ x ≡ end_and_rest q
datatype_in-gives x q e =
    let m = option_map-Some (λ (q : List ℕ × List ℕ). (datatype_end q.0, q.1)) (option_and_then cut_iri (past 94 x)) q e in
    let r = and_then-Some cut_iri (past 94 x) m.0 m.1 in
    ap (λ (t : List ℕ). 94 ∷ t) (past-gives 94 x r.0 r.1)
    ∙ ap (λ (t : List ℕ). 94 ∷ 94 ∷ t) (cut_iri-gives r.0 m.0 r.2)
    ∙ ap end_and_rest m.2

-- the end of a literal and what follows it
pub end_in-gives : (x : List ℕ) (q : EndText × List ℕ) → end_in x ≡ Some q → x ≡ end_and_rest q
end_in-gives x q e =
    elim (chose (past 64 x) language_in (where_some (past 94 x) datatype_in (Some (plain_end, x))) (Some q) e) [
      | inl r ↦
          let s = same_Some (language_end (take (language_len r.0) r.0), drop (language_len r.0) r.0) q r.2 in
          past-gives 64 x r.0 r.1 ∙ ap (λ (t : List ℕ). 64 ∷ t) (sym (take-append-drop (language_len r.0) r.0)) ∙ ap end_and_rest s
      | inr r ↦ elim (chose (past 94 x) datatype_in (Some (plain_end, x)) (Some q) r.1) [
        | inl s ↦ past-gives 94 x s.0 s.1 ∙ datatype_in-gives s.0 q s.2
        | inr s ↦ ap end_and_rest (same_Some (plain_end, x) q s.1)
      ]
    ]

literal_shape : (inner end r : List ℕ) → ((34 ∷ inner ++ 34 ∷ []) ++ end) ++ r ≡ 34 ∷ (inner ++ 34 ∷ (end ++ r))
literal_shape inner end r = simp append_assoc

literal_in-gives : (x : List ℕ) (q : PartText × List ℕ) → literal_in x ≡ Some q → 34 ∷ x ≡ part_and_rest q
literal_in-gives x q e =
    let r = and_then-Some (λ (q : List ℕ × List ℕ). option_map (λ (x : EndText × List ℕ). (literal_part q.0 x.0, x.1)) (end_in q.1)) (cut_quoted false x) q e in
    let m = option_map-Some (λ (x : EndText × List ℕ). (literal_part r.0.0 x.0, x.1)) (end_in r.0.1) q r.2 in
    ap (λ (t : List ℕ). 34 ∷ t) (cut_quoted-gives false x r.0 r.1)
    ∙ ap (λ (t : List ℕ). 34 ∷ (r.0.0 ++ 34 ∷ t)) (end_in-gives r.0.1 m.0 m.1)
    ∙ sym (literal_shape r.0.0 (written_end m.0.0) m.0.1)
    ∙ ap part_and_rest m.2

blank_in-gives : (x : List ℕ) (q : PartText × List ℕ) → blank_in x ≡ Some q → 95 ∷ x ≡ part_and_rest q
blank_in-gives x q e =
    let m = option_map-Some (λ (rest : List ℕ). (blank_part (take (label_len rest) rest), drop (label_len rest) rest)) (past 58 x) q e in
    ap (λ (t : List ℕ). 95 ∷ t) (past-gives 58 x m.0 m.1)
    ∙ ap (λ (t : List ℕ). 95 ∷ 58 ∷ t) (sym (take-append-drop (label_len m.0) m.0))
    ∙ ap part_and_rest m.2

iri_in-gives : (x : List ℕ) (q : PartText × List ℕ) → iri_in x ≡ Some q → x ≡ part_and_rest q
iri_in-gives x q e =
    let m = option_map-Some (λ (q : List ℕ × List ℕ). (iri_part q.0, q.1)) (cut_iri x) q e in
    cut_iri-gives x m.0 m.1 ∙ ap part_and_rest m.2

-- a part and what follows it
pub part_in-gives : (x : List ℕ) (q : PartText × List ℕ) → part_in x ≡ Some q → x ≡ written q.0 ++ q.1
unfolding part_in
part_in-gives x q e =
    elim (chose (past 34 x) literal_in (where_some (past 95 x) blank_in (iri_in x)) (Some q) e) [
      | inl r ↦ past-gives 34 x r.0 r.1 ∙ literal_in-gives r.0 q r.2
      | inr r ↦ elim (chose (past 95 x) blank_in (iri_in x) (Some q) r.1) [
        | inl s ↦ past-gives 95 x s.0 s.1 ∙ blank_in-gives s.0 q s.2
        | inr s ↦ iri_in-gives x q s.1
      ]
    ]

-- ---- a part that is closed is cut where it ends

-- no closing quote stands in the text
abbrev pub IsQuoted : List ℕ → Type 0
IsQuoted inner = (r : List ℕ) → cut_quoted false (inner ++ 34 ∷ r) ≡ Some (inner, r)

abbrev pub IsClosedEnd : EndText → Type 0
IsClosedEnd plain_end = Unit {0}
IsClosedEnd (language_end tag) = All (λ c. is_language_character c ≡ true) tag
IsClosedEnd (datatype_end inner) = Absent 62 inner

-- a label as it is cut: not empty, in characters of labels, without a dot at its end
pub record IsCutLabel (label : List ℕ) : Type 0 where
  pub not_empty : label ≢ []
  pub characters : All (λ c. is_label_character c ≡ true) label
  pub last : slice_index label (length label - 1) ≢ 46

abbrev pub IsClosed : PartText → Type 0
IsClosed (iri_part inner) = Absent 62 inner
IsClosed (literal_part inner end) = IsQuoted inner × IsClosedEnd end
IsClosed (blank_part label) = IsCutLabel label

-- what may follow a part: a gap, or the dot and the end of the line
pub data Follows : List ℕ → Type 0 where
  gap_follows : (c : ℕ) (rest : List ℕ) → is_gap c ≡ true → Follows (c ∷ rest)
  dot_follows : (rest : List ℕ) → is_end rest ≡ true → Follows (46 ∷ rest)

gap_is : (c : ℕ) → is_gap c ≡ true → (c ≡ 32) ⊎ (c ≡ 9)
gap_is c e = elim (or_cases (c == 32) (c == 9) e) [ inl p ↦ inl (eqb-true c 32 p) | inr p ↦ inr (eqb-true c 9 p) ]

-- a test that spaces and tabs fail
pub gap_fails : (test : ℕ → Bool) (c : ℕ) → test 32 ≡ false → test 9 ≡ false → is_gap c ≡ true → test c ≡ false
gap_fails test c s t e =
    elim (gap_is c e) [
      | inl p ↦ subst (λ (z : ℕ). test z ≡ false) (sym p) s
      | inr p ↦ subst (λ (z : ℕ). test z ≡ false) (sym p) t
    ]

end_stops : (test : ℕ → Bool) (rest : List ℕ) → test 32 ≡ false → test 9 ≡ false → test 35 ≡ false → is_end rest ≡ true → StopsAt test rest
end_stops test [] s t h e = tt
end_stops test (c ∷ cs) s t h e = go (is_gap c) refl
  where
    go : (b : Bool) → is_gap c ≡ b → test c ≡ false
    go true g = gap_fails test c s t g
    go false g =
        let same : is_comment (c ∷ cs) ≡ true = ap is_comment (sym (past_gaps-other c cs g)) ∙ e in
        subst (λ (z : ℕ). test z ≡ false) (sym (eqb-true c 35 same)) h

language_stops : (r : List ℕ) → Follows r → StopsAt is_language_character r
language_stops r (gap_follows c rest g) = gap_fails is_language_character c refl refl g
language_stops r (dot_follows rest e) = refl

plain_follows : (r : List ℕ) → Follows r → end_in r ≡ Some (plain_end, r)
plain_follows r (gap_follows c rest g) =
    rw (
      past-other 64 c rest (gap_fails (λ (z : ℕ). z == 64) c refl refl g),
      past-other 94 c rest (gap_fails (λ (z : ℕ). z == 94) c refl refl g),
    ) refl
plain_follows r (dot_follows rest e) = refl

-- the end of a literal is cut where it ends
pub end_in-from : (end : EndText) (r : List ℕ) → IsClosedEnd end → Follows r → end_in (written_end end ++ r) ≡ Some (end, r)
end_in-from plain_end r c f = plain_follows r f
end_in-from (language_end tag) r c f =
    let l : language_len (tag ++ r) ≡ length tag = run_len is_language_character tag r c (language_stops r f) in
    rw (l, take_at tag r (length tag) refl, drop_at tag r (length tag) refl) refl
end_in-from (datatype_end inner) r c f = ap (option_map (λ (q : List ℕ × List ℕ). (datatype_end q.0, q.1))) (cut_iri-from inner r c)

gap_behind : (label r : List ℕ) (c : ℕ) (rest : List ℕ) → IsCutLabel label → is_gap c ≡ true → label_len (label ++ c ∷ rest) ≡ length label
gap_behind label r c rest l g =
    let n : prefix_len is_label_character (label ++ c ∷ rest) ≡ length label = run_len is_label_character label (c ∷ rest) l.characters (gap_fails is_label_character c refl refl g) in
    rw (n, get_or_append_left label (c ∷ rest) 0 (length label - 1) (some_length label l.not_empty), ne_eqb (slice_index label (length label - 1)) 46 l.last) refl
  where
    some_length : (xs : List ℕ) → xs ≢ [] → length xs - 1 < length xs
    some_length [] n = absurd (n refl)
    some_length (x ∷ xs) n = omega arith

dot_behind : (label rest : List ℕ) → IsCutLabel label → is_end rest ≡ true → label_len (label ++ 46 ∷ rest) ≡ length label
dot_behind label rest l e =
    let n : prefix_len is_label_character (label ++ 46 ∷ rest) ≡ length label + 1 = prefix_len-all is_label_character label (46 ∷ rest) l.characters ∙ ap (λ (z : ℕ). length label + (1 + z)) (prefix_len-stops is_label_character rest (end_stops is_label_character rest refl refl refl e)) in
    let m : length label + 1 - 1 ≡ length label = omega arith in
    rw (n, m, get_or_at label 46 rest 0 (length label) refl) refl

label_follows : (label r : List ℕ) → IsCutLabel label → Follows r → label_len (label ++ r) ≡ length label
label_follows label r l (gap_follows c rest g) = gap_behind label r c rest l g
label_follows label r l (dot_follows rest e) = dot_behind label rest l e

literal_in-from : (inner : List ℕ) (end : EndText) (r : List ℕ) → IsQuoted inner → IsClosedEnd end → Follows r → literal_in (inner ++ 34 ∷ (written_end end ++ r)) ≡ Some (literal_part inner end, r)
literal_in-from inner end r q c f = rw (q (written_end end ++ r), end_in-from end r c f) refl

blank_in-from : (label r : List ℕ) → IsCutLabel label → Follows r → blank_in (58 ∷ (label ++ r)) ≡ Some (blank_part label, r)
blank_in-from label r l f =
    let n = label_follows label r l f in
    rw (n, take_at label r (length label) refl, drop_at label r (length label) refl) refl

-- a closed part is cut where it ends
pub part_in-from : (p : PartText) (r : List ℕ) → IsClosed p → Follows r → part_in (written p ++ r) ≡ Some (p, r)
unfolding part_in
part_in-from (iri_part inner) r c f = ap (option_map (λ (q : List ℕ × List ℕ). (iri_part q.0, q.1))) (cut_iri-from inner r c)
part_in-from (literal_part inner end) r c f = ap (λ (t : List ℕ). part_in t) (literal_shape inner (written_end end) r) ∙ literal_in-from inner end r c.0 c.1 f
part_in-from (blank_part label) r c f = blank_in-from label r c f

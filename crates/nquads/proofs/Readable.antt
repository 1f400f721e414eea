-- Which texts may be read: the tests of IRIs, languages and labels, and what they test.
use Rattle.std.proofs.Common.{◌≡◌, ◌≢◌, ℕ, suc, ◌-◌, List, [], ◌∷◌, ◌++◌, length, Bool, true, false, not, ◌==◌, ◌||◌, ◌&&◌, All, Option, None, is_none, slice_index, flat_map, codes, refl, sym, ap, ◌∙◌, subst, inl, inr, arith}
use Rattle.std.specs.Prelude.{◌⊎◌}
use Rattle.std.specs.List.{list_all}
use Rattle.std.proofs.lemmas.Bool.{eqb-true, eqb-false, false≢true, true≢false, or_cases, or_parts, or_left, or_right, and_parts, and_from, ne_eqb, eq-eqb, not-true}
use Rattle.std.proofs.lemmas.List.Elements.{All-nil, All-cons, All-head, All-tail, All-weaker}
use Rattle.base_types.proofs.Options.{took, is_none-true}
use Rattle.iri_ref.specs.Components.{IsAbsolute, has_scheme}
use Rattle.iri_ref.specs.Characters.{first_forbidden}
use Rattle.nquads.specs.Terms.{IsLanguage, IsLanguageGroup, IsLabel, is_letter, is_label_character}
use Rattle.nquads.specs.Reading.{HoldsNoncharacter}
use Rattle.nquads.specs.Internal.Meaning.{begins_noncharacter, holds_noncharacter, is_iri, is_group_character, language_rest, is_language, is_mark, is_label}

-- ---- U+FFFE and U+FFFF

begins_found : (text : List ℕ) → begins_noncharacter text ≡ true → HoldsNoncharacter text
begins_found [] e = absurd (false≢true e)
begins_found (a ∷ []) e = absurd (false≢true e)
begins_found (a ∷ b ∷ []) e = absurd (false≢true e)
begins_found (a ∷ b ∷ c ∷ rest) e =
    let r = and_parts (a == 239) ((b == 191) && ((c == 190) || (c == 191))) e in
    let s = and_parts (b == 191) ((c == 190) || (c == 191)) r.1 in
    let first : a ≡ 239 = eqb-true a 239 r.0 in
    let second : b ≡ 191 = eqb-true b 191 s.0 in
    record {
      before = [];
      last = c;
      after = rest;
      is = λ i. first i ∷ second i ∷ c ∷ rest;
      noncharacter = elim (or_cases (c == 190) (c == 191) s.1) [ inl p ↦ inl (eqb-true c 190 p) | inr p ↦ inr (eqb-true c 191 p) ];
    }

-- a noncharacter that the test finds stands in the text
pub noncharacter_found : (text : List ℕ) → holds_noncharacter text ≡ true → HoldsNoncharacter text
noncharacter_found [] e = absurd (false≢true e)
noncharacter_found (c ∷ cs) e =
    elim (or_cases (begins_noncharacter (c ∷ cs)) (holds_noncharacter cs) e) [
      | inl p ↦ begins_found (c ∷ cs) p
      | inr p ↦ let r = noncharacter_found cs p in record { before = c ∷ r.before; last = r.last; after = r.after; is = ap (λ (t : List ℕ). c ∷ t) r.is; noncharacter = r.noncharacter }
    ]

begins_from : (last : ℕ) (after : List ℕ) → (last ≡ 190) ⊎ (last ≡ 191) → begins_noncharacter (239 ∷ 191 ∷ last ∷ after) ≡ true
begins_from last after n =
    elim n [
      | inl p ↦ or_left (last == 190) (last == 191) (eq-eqb last 190 p)
      | inr p ↦ or_right (last == 190) (last == 191) (eq-eqb last 191 p)
    ]

holds_from : (before : List ℕ) (last : ℕ) (after : List ℕ) → (last ≡ 190) ⊎ (last ≡ 191) → holds_noncharacter (before ++ 239 ∷ 191 ∷ last ∷ after) ≡ true
holds_from [] last after n = or_left (begins_noncharacter (239 ∷ 191 ∷ last ∷ after)) (holds_noncharacter (191 ∷ last ∷ after)) (begins_from last after n)
holds_from (b ∷ bs) last after n = or_right (begins_noncharacter (b ∷ (bs ++ 239 ∷ 191 ∷ last ∷ after))) (holds_noncharacter (bs ++ 239 ∷ 191 ∷ last ∷ after)) (holds_from bs last after n)

-- and one that stands there is found
pub noncharacter_from : (text : List ℕ) → HoldsNoncharacter text → holds_noncharacter text ≡ true
noncharacter_from text h = rw h.is (holds_from h.before h.last h.after h.noncharacter)

-- a text in which none is found
pub none_held : (text : List ℕ) → holds_noncharacter text ≡ false → HoldsNoncharacter text → ⊥
none_held text e h = false≢true (sym e ∙ noncharacter_from text h)

-- a text that holds none
pub none_found : (text : List ℕ) → (HoldsNoncharacter text → ⊥) → holds_noncharacter text ≡ false
none_found text n = go (holds_noncharacter text) refl
  where
    go : (b : Bool) → holds_noncharacter text ≡ b → b ≡ false
    go true e = absurd (n (noncharacter_found text e))
    go false e = refl

-- ---- IRIs

is_none-from : {X : Type 0} (o : Option X) → o ≡ None → is_none o ≡ true
is_none-from o e = rw e refl

-- what the test of IRIs says
pub is_iri-gives : (text : List ℕ) → is_iri text ≡ true → IsAbsolute text × (HoldsNoncharacter text → ⊥)
is_iri-gives text e =
    let r = and_parts (has_scheme text) (is_none (first_forbidden text) && not (holds_noncharacter text)) e in
    let s = and_parts (is_none (first_forbidden text)) (not (holds_noncharacter text)) r.1 in
    ((r.0, is_none-true (first_forbidden text) s.0), none_held text (not-true (holds_noncharacter text) s.1))

-- and of what it is true
pub is_iri-from : (text : List ℕ) → IsAbsolute text → (HoldsNoncharacter text → ⊥) → is_iri text ≡ true
is_iri-from text a n = rw (a.0, is_none-from (first_forbidden text) a.1, none_found text n) refl

-- ---- languages

-- a run of a group's characters, and the groups behind it
record Groups (first begun : Bool) (cs : List ℕ) : Type 0 where
  run : List ℕ
  groups : List (List ℕ)
  is : cs ≡ run ++ flat_map (λ (g : List ℕ). codes "-" ++ g) groups
  characters : All (λ c. is_group_character first c ≡ true) run
  something : begun ≡ false → run ≢ []
  group_characters : All IsLanguageGroup groups

next_group : (first : Bool) (c : ℕ) (cs : List ℕ) → c ≡ 45 → Groups false false cs → Groups first true (c ∷ cs)
next_group first c cs e r = record {
  run = [];
  groups = r.run ∷ r.groups;
  is = λ i. e i ∷ r.is i;
  characters = All-nil (λ c. is_group_character first c ≡ true);
  something = λ f. absurd (true≢false f);
  group_characters = All-cons IsLanguageGroup r.run r.groups (r.something refl, r.characters) r.group_characters;
}

next_character : (first begun : Bool) (c : ℕ) (cs : List ℕ) → is_group_character first c ≡ true → Groups first true cs → Groups first begun (c ∷ cs)
next_character first begun c cs t r = record {
  run = c ∷ r.run;
  groups = r.groups;
  is = ap (λ (z : List ℕ). c ∷ z) r.is;
  characters = All-cons (λ c. is_group_character first c ≡ true) c r.run t r.characters;
  something = λ f e. cc;
  group_characters = r.group_characters;
}

groups_in : (first begun : Bool) (cs : List ℕ) → language_rest first begun cs ≡ true → Groups first begun cs
groups_in first begun [] e = record {
  run = [];
  groups = [];
  is = refl;
  characters = All-nil (λ c. is_group_character first c ≡ true);
  something = λ f. absurd (false≢true (sym f ∙ e));
  group_characters = All-nil IsLanguageGroup;
}
groups_in first begun (c ∷ cs) e =
    elim (took (c == 45) (begun && language_rest false false cs) (is_group_character first c && language_rest first true cs) true e) [
      | inl p ↦
          let r = and_parts begun (language_rest false false cs) p.1 in
          subst (λ (b : Bool). Groups first b (c ∷ cs)) (sym r.0) (next_group first c cs (eqb-true c 45 p.0) (groups_in false false cs r.1))
      | inr p ↦
          let r = and_parts (is_group_character first c) (language_rest first true cs) p.1 in
          next_character first begun c cs r.0 (groups_in first true cs r.1)
    ]

letter_only : (c : ℕ) → is_group_character true c ≡ true → is_letter c ≡ true
letter_only c e = elim (or_cases (is_letter c) false e) [ inl p ↦ p | inr p ↦ absurd (false≢true p) ]

-- what the test of languages says
pub is_language-gives : (text : List ℕ) → is_language text ≡ true → IsLanguage text
is_language-gives text e =
    let r = groups_in true false text e in
    record {
      first = r.run;
      groups = r.groups;
      is = r.is;
      first_letters = (r.something refl, All-weaker (λ c. is_group_character true c ≡ true) (λ c. is_letter c ≡ true) letter_only r.run r.characters);
      group_characters = r.group_characters;
    }

no_hyphen : (first : Bool) (c : ℕ) → is_group_character first c ≡ true → c ≢ 45
no_hyphen true c t e = false≢true (subst (λ (z : ℕ). is_group_character true z ≡ true) e t)
no_hyphen false c t e = false≢true (subst (λ (z : ℕ). is_group_character false z ≡ true) e t)

one_passes : (first begun : Bool) (c : ℕ) (r : List ℕ) → is_group_character first c ≡ true → language_rest first begun (c ∷ r) ≡ language_rest first true r
one_passes first begun c r t = rw (ne_eqb c 45 (no_hyphen first c t), t) refl

run_passes : (first : Bool) (xs r : List ℕ) → All (λ c. is_group_character first c ≡ true) xs → language_rest first true (xs ++ r) ≡ language_rest first true r
run_passes first [] r a = refl
run_passes first (x ∷ xs) r a =
    one_passes first true x (xs ++ r) (All-head (λ c. is_group_character first c ≡ true) x xs a)
    ∙ run_passes first xs r (All-tail (λ c. is_group_character first c ≡ true) x xs a)

first_passes : (first : Bool) (xs r : List ℕ) → xs ≢ [] → All (λ c. is_group_character first c ≡ true) xs → language_rest first false (xs ++ r) ≡ language_rest first true r
first_passes first [] r n a = absurd (n refl)
first_passes first (x ∷ xs) r n a =
    one_passes first false x (xs ++ r) (All-head (λ c. is_group_character first c ≡ true) x xs a)
    ∙ run_passes first xs r (All-tail (λ c. is_group_character first c ≡ true) x xs a)

groups_pass : (first : Bool) (groups : List (List ℕ)) → All IsLanguageGroup groups → language_rest first true (flat_map (λ (g : List ℕ). codes "-" ++ g) groups) ≡ true
groups_pass first [] a = refl
groups_pass first (g ∷ gs) a =
    let h = All-head IsLanguageGroup g gs a in
    first_passes false g (flat_map (λ (g : List ℕ). codes "-" ++ g) gs) h.0 h.1 ∙ groups_pass false gs (All-tail IsLanguageGroup g gs a)

letter_passes : (c : ℕ) → is_letter c ≡ true → is_group_character true c ≡ true
letter_passes c t = or_left (is_letter c) false t

-- and of what it is true
pub is_language-from : (text : List ℕ) → IsLanguage text → is_language text ≡ true
is_language-from text l =
    rw l.is
    (first_passes true l.first (flat_map (λ (g : List ℕ). codes "-" ++ g) l.groups) l.first_letters.0
    (All-weaker (λ c. is_letter c ≡ true) (λ c. is_group_character true c ≡ true) letter_passes l.first l.first_letters.1)
    ∙ groups_pass true l.groups l.group_characters)

-- ---- labels

-- what a test says of each element
pub list_all-gives : (test : ℕ → Bool) (xs : List ℕ) → list_all test xs ≡ true → All (λ x. test x ≡ true) xs
list_all-gives test [] e = All-nil (λ x. test x ≡ true)
list_all-gives test (x ∷ xs) e =
    let r = and_parts (test x) (list_all test xs) e in
    All-cons (λ x. test x ≡ true) x xs r.0 (list_all-gives test xs r.1)

-- and the other way round
pub list_all-from : (test : ℕ → Bool) (xs : List ℕ) → All (λ x. test x ≡ true) xs → list_all test xs ≡ true
list_all-from test [] a = refl
list_all-from test (x ∷ xs) a = and_from (test x) (list_all test xs) (All-head (λ x. test x ≡ true) x xs a) (list_all-from test xs (All-tail (λ x. test x ≡ true) x xs a))

not_empty : (text : List ℕ) → (length text == 0) ≡ false → text ≢ []
not_empty text f e = eqb-false (length text) 0 f (ap length e)

has_length : (text : List ℕ) → text ≢ [] → (length text == 0) ≡ false
has_length [] n = absurd (n refl)
has_length (c ∷ cs) n = ne_eqb (suc (length cs)) 0 (λ e. omega arith)

-- what the test of labels says
pub is_label-gives : (text : List ℕ) → is_label text ≡ true → IsLabel text × (HoldsNoncharacter text → ⊥)
is_label-gives text e =
    let a = and_parts (not (length text == 0)) _ e in
    let b = and_parts (not (is_mark (slice_index text 0))) _ a.1 in
    let c = and_parts (not (slice_index text (length text - 1) == 46)) _ b.1 in
    let d = and_parts (list_all is_label_character text) (not (holds_noncharacter text)) c.1 in
    let m = or_parts (slice_index text 0 == 45) (slice_index text 0 == 46) (not-true (is_mark (slice_index text 0)) b.0) in (
      record {
        not_empty = not_empty text (not-true (length text == 0) a.0);
        characters = list_all-gives is_label_character text d.0;
        first = (eqb-false (slice_index text 0) 45 m.0, eqb-false (slice_index text 0) 46 m.1);
        last = eqb-false (slice_index text (length text - 1)) 46 (not-true (slice_index text (length text - 1) == 46) c.0);
      },
      none_held text (not-true (holds_noncharacter text) d.1),
    )

-- and of what it is true
pub is_label-from : (text : List ℕ) → IsLabel text → (HoldsNoncharacter text → ⊥) → is_label text ≡ true
is_label-from text l n =
    rw (
      has_length text l.not_empty,
      ne_eqb (slice_index text 0) 45 l.first.0,
      ne_eqb (slice_index text 0) 46 l.first.1,
      ne_eqb (slice_index text (length text - 1)) 46 l.last,
      list_all-from is_label_character text l.characters,
      none_found text n,
    ) refl

-- What marking may answer, and examples of parts, marks and lines.
use Rattle.std.proofs.Common.{◌≡◌, ◌≢◌, ℕ, false, true, List, [], ◌∷◌, Contains, inl, inr, refl, sym, ap, ◌∙◌, subst, codes}
use Rattle.std.proofs.lemmas.Bool.{false≢true}
use Rattle.std.proofs.lemmas.List.{same_from_push}
use Rattle.std.proofs.lemmas.List.Elements.{All-cons, All-contains, All-nil}
use Rattle.base_types.specs.Order.{is_upto}
use Rattle.base_types.proofs.Lists.{Contains-here, Contains-nil, Contains-there}
use Rattle.base_types.proofs.Orders.{bytes_eq-differ, is_upto-antisymmetric}
use Rattle.nquads.specs.Terms.{Statement}
use Rattle.nquads.specs.Lines.{line}
use Rattle.nquads.specs.Spelling.{text_quad}
use Rattle.nquads.specs.declared.quads.TextQuad.{TextQuad}
use Rattle.nquads.proofs.ReadingElements.{AllDiffer-cons, AllDiffer-nil}
use Rattle.stmt_groups.specs.declared.grouping.Line.{Line}
use Rattle.stmt_groups.specs.Example.{mark, marked_line, statement, statement_line, store_texts, swapped_marks, two_lines, two_marks, two_parts}
use Rattle.stmt_groups.specs.Groups.{AreGroups, IsLineOf}
use Rattle.stmt_groups.specs.Parts.{AreMarks, AreParts, IsLeast, IsMarkOf, IsStray, IsStrayText, IsTextOf, Parts, parts_of}
use Rattle.stmt_groups.proofs.ExampleLemmas.{differ, one_of_two, only}

-- ---- outcomes

-- where all is in place nothing is out of place
pub nothing_stray : (p : Parts Statement) (s : Statement) → AreParts p → IsStray p s → ⊥
nothing_stray p s a out = elim out [
  | inl m ↦ m.1 (All-contains (Contains p.whole) p.mandatory s a.mandatory_in_whole m.0)
  | inr e ↦ elim e [
    | inl m ↦ m.1 (All-contains (Contains p.whole) p.chosen s a.chosen_in_whole m.0)
    | inr m ↦ m.1 (All-contains (Contains p.chosen) p.mandatory s a.mandatory_chosen m.0)
  ]
]

-- the least text is one
pub one_least : (p : Parts Statement) (text other : List ℕ) → IsLeast (IsStrayText p) text → IsLeast (IsStrayText p) other → text ≡ other
one_least p text other a b = is_upto-antisymmetric text other (a.least other b.one_of) (b.least text a.one_of)

-- ---- parts

-- the order does not count
pub parts_in_place : (a b : Statement) → AreParts (parts_of (a ∷ b ∷ []) (a ∷ []) (b ∷ a ∷ []))
parts_in_place a b = record {
  mandatory_in_whole = All-cons (Contains (a ∷ b ∷ [])) a [] (Contains-here a (b ∷ [])) (All-nil (Contains (a ∷ b ∷ [])));
  chosen_in_whole = All-cons (Contains (a ∷ b ∷ [])) b (a ∷ []) (Contains-there a (b ∷ []) b (Contains-here b []))
      (All-cons (Contains (a ∷ b ∷ [])) a [] (Contains-here a (b ∷ [])) (All-nil (Contains (a ∷ b ∷ []))));
  mandatory_chosen = All-cons (Contains (b ∷ a ∷ [])) a [] (Contains-there b (a ∷ []) a (Contains-here a [])) (All-nil (Contains (b ∷ a ∷ [])));
}

-- no mandatory statement is foreign
pub mandatory_not_foreign : (a b : Statement) → a ≢ b → AreParts (parts_of (a ∷ []) (b ∷ []) (b ∷ [])) → ⊥
mandatory_not_foreign a b apart m = apart (only a b (All-contains (Contains (a ∷ [])) (b ∷ []) b m.mandatory_in_whole (Contains-here b [])))

-- no chosen one is
pub chosen_not_foreign : (a b : Statement) → a ≢ b → AreParts (parts_of (a ∷ []) [] (b ∷ [])) → ⊥
chosen_not_foreign a b apart m = apart (only a b (All-contains (Contains (a ∷ [])) (b ∷ []) b m.chosen_in_whole (Contains-here b [])))

-- no mandatory one is left out
pub mandatory_not_left : (a b : Statement) → a ≢ b → AreParts (parts_of (a ∷ b ∷ []) (a ∷ b ∷ []) (a ∷ [])) → ⊥
mandatory_not_left a b apart m = apart (only a b (All-contains (Contains (a ∷ [])) (a ∷ b ∷ []) b m.mandatory_chosen (Contains-there a (b ∷ []) b (Contains-here b []))))

-- ---- what is out of place

-- a whole of one statement, and two others that are chosen
abbrev two_strays : Parts Statement
two_strays = parts_of (statement (codes "urn:a") ∷ []) [] (statement (codes "urn:c") ∷ statement (codes "urn:b") ∷ [])

first_stray : IsStrayText two_strays (codes "<urn:s> <urn:p> <urn:b> .")
first_stray = record {
  statement = statement (codes "urn:b");
  stray = inr (inl (
    Contains-there (statement (codes "urn:c")) (statement (codes "urn:b") ∷ []) (statement (codes "urn:b")) (Contains-here (statement (codes "urn:b")) []),
    λ c. differ (codes "urn:a") (codes "urn:b") refl (only (statement (codes "urn:a")) (statement (codes "urn:b")) c),
  ));
  text_is = refl;
}

-- a statement has one text
one_text : (s t : Statement) (text other : List ℕ) → IsTextOf s text → s ≡ t → IsTextOf t other → text ≡ other
one_text s t text other is same o = (same_from_push text other 10 10 (is ∙ ap (line (λ b. codes "x")) same ∙ sym o)).0

upto_chosen : (s : Statement) (other : List ℕ) → Contains two_strays.chosen s → IsTextOf s other → is_upto (codes "<urn:s> <urn:p> <urn:b> .") other ≡ true
upto_chosen s other c o = elim (one_of_two (statement (codes "urn:c")) (statement (codes "urn:b")) s c) [
  | inl e ↦ subst (λ (t : List ℕ). is_upto (codes "<urn:s> <urn:p> <urn:b> .") t ≡ true) (one_text (statement (codes "urn:c")) s (codes "<urn:s> <urn:p> <urn:c> .") other refl e o) refl
  | inr e ↦ subst (λ (t : List ℕ). is_upto (codes "<urn:s> <urn:p> <urn:b> .") t ≡ true) (one_text (statement (codes "urn:b")) s (codes "<urn:s> <urn:p> <urn:b> .") other refl e o) refl
]

-- the lesser text is answered
pub least_of_two : IsLeast (IsStrayText two_strays) (codes "<urn:s> <urn:p> <urn:b> .")
least_of_two = record {
  one_of = first_stray;
  least = λ other o. elim o.stray [
    | inl m ↦ absurd (Contains-nil o.statement m.0)
    | inr e ↦ elim e [
      | inl m ↦ upto_chosen o.statement other m.0 o.text_is
      | inr m ↦ absurd (Contains-nil o.statement m.0)
    ]
  ];
}

-- and no other
pub not_the_other : IsLeast (IsStrayText two_strays) (codes "<urn:s> <urn:p> <urn:c> .") → ⊥
not_the_other l = false≢true (l.least (codes "<urn:s> <urn:p> <urn:b> .") first_stray)

-- ---- marks

abbrev first : Statement
first = statement (codes "urn:a")

abbrev second : Statement
second = statement (codes "urn:b")

not_second : Contains (second ∷ []) first → ⊥
not_second c = differ (codes "urn:b") (codes "urn:a") refl (only second first c)

second_chosen : Contains (first ∷ second ∷ []) second
second_chosen = Contains-there first (second ∷ []) second (Contains-here second [])

mark_of_first : IsMarkOf store_texts two_parts first (mark 2 false true)
mark_of_first = record {
  spelled = refl;
  says = record {
    is_mandatory = (λ e. absurd (false≢true e), λ c. absurd (not_second c));
    is_chosen = (λ e. Contains-here first (second ∷ []), λ c. refl);
  };
}

mark_of_second : IsMarkOf store_texts two_parts second (mark 3 true true)
mark_of_second = record {
  spelled = refl;
  says = record {
    is_mandatory = (λ e. Contains-here second [], λ c. refl);
    is_chosen = (λ e. second_chosen, λ c. refl);
  };
}

-- the marks of the example are marks
pub two_marked : AreMarks store_texts two_parts two_marks
two_marked = record {
  each = λ m c. elim (one_of_two (mark 3 true true) (mark 2 false true) m c) [
    | inl e ↦ (second, Contains-here second (first ∷ []), subst (IsMarkOf store_texts two_parts second) e mark_of_second)
    | inr e ↦ (first, Contains-there second (first ∷ []) first (Contains-here first []), subst (IsMarkOf store_texts two_parts first) e mark_of_first)
  ];
  every = λ s c. elim (one_of_two second first s c) [
    | inl e ↦ (mark 3 true true, Contains-here (mark 3 true true) (mark 2 false true ∷ []), subst (λ (t : Statement). IsMarkOf store_texts two_parts t (mark 3 true true)) e mark_of_second)
    | inr e ↦ (mark 2 false true, Contains-there (mark 3 true true) (mark 2 false true ∷ []) (mark 2 false true) (Contains-here (mark 2 false true) []), subst (λ (t : Statement). IsMarkOf store_texts two_parts t (mark 2 false true)) e mark_of_first)
  ];
}

-- with what a mark says exchanged they are none
pub not_swapped : AreMarks store_texts two_parts swapped_marks → ⊥
not_swapped are =
    let s = are.each (mark 2 true false) (Contains-there (mark 3 true true) (mark 2 true false ∷ []) (mark 2 true false) (Contains-here (mark 2 true false) [])) in
    let same : second ≡ s.0 = only second s.0 (s.2.says.is_mandatory.0 refl) in
    bytes_eq-differ (codes "<urn:a>") (codes "<urn:b>") refl (ap (λ (q : TextQuad). q.object) (s.2.spelled ∙ ap text_quad (sym same)))

-- ---- lines

line_of_first : IsLineOf (λ b. []) two_parts first (marked_line (statement_line (codes "urn:a")) false true)
line_of_first = record { text = refl; says = mark_of_first.says }

line_of_second : IsLineOf (λ b. []) two_parts second (marked_line (statement_line (codes "urn:b")) true true)
line_of_second = record { text = refl; says = mark_of_second.says }

abbrev a_line : Line
a_line = marked_line (statement_line (codes "urn:a")) false true

abbrev b_line : Line
b_line = marked_line (statement_line (codes "urn:b")) true true

-- the lines of the example are its lines
pub two_grouped : AreGroups (λ b. []) two_parts two_lines
two_grouped = record {
  each = λ l c. elim (one_of_two a_line b_line l c) [
    | inl e ↦ (first, Contains-there second (first ∷ []) first (Contains-here first []), subst (IsLineOf (λ b. []) two_parts first) e line_of_first)
    | inr e ↦ (second, Contains-here second (first ∷ []), subst (IsLineOf (λ b. []) two_parts second) e line_of_second)
  ];
  every = λ s c. elim (one_of_two second first s c) [
    | inl e ↦ (b_line, Contains-there a_line (b_line ∷ []) b_line (Contains-here b_line []), subst (λ (t : Statement). IsLineOf (λ b. []) two_parts t b_line) e line_of_second)
    | inr e ↦ (a_line, Contains-here a_line (b_line ∷ []), subst (λ (t : Statement). IsLineOf (λ b. []) two_parts t a_line) e line_of_first)
  ];
  in_order = refl;
  once = AllDiffer-cons a_line (b_line ∷ []) (λ c. bytes_eq-differ (statement_line (codes "urn:b")) (statement_line (codes "urn:a")) refl (ap (λ (l : Line). l.text) (only b_line a_line c)))
      (AllDiffer-cons b_line [] (Contains-nil b_line) AllDiffer-nil);
}

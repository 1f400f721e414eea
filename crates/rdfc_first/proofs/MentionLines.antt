-- The lines of a statement of a store, one for each blank node of it.
use Rattle.std.proofs.Common.{append-nil, append_assoc, ◌≡◌, ◌==◌, ◌<◌, ℕ, Bool, true, false, cond, ◌||◌, List, [], ◌∷◌, ◌++◌, length, map, filter, refl, sym, ap, ◌∙◌, subst, inl, inr, All, Contains, Option, Some, None, option_map, bytes_eq}
use Rattle.std.specs.Prelude.{IfSome}
use Rattle.std.proofs.lemmas.Bool.{false≢true}
use Rattle.std.proofs.lemmas.Bool.Decides.{Decides-eqb}
use Rattle.std.proofs.lemmas.List.{map-append}
use Rattle.std.specs.List.{flat_map, list_any}
use Rattle.std.proofs.lemmas.List.Elements.{All-head, All-tail, filter-append, Contains-append_left, Contains-append_right, Contains-append_cases}
use Rattle.std.proofs.lemmas.List.Folds.{list_any-append}
use Rattle.base_types.specs.Sets.{AllDiffer}
use Rattle.base_types.proofs.Lists.{Contains-nil, Contains-here, Contains-cons_cases}
use Rattle.term_store.specs.Store.{text_at, begins_blank}
use Rattle.term_store.specs.declared.store.TermId.{TermId}
use Rattle.term_store.specs.declared.statements.Quad.{Quad}
use Rattle.nquads.specs.Terms.{Blank, Term, iri, literal, blank, Statement}
use Rattle.nquads.specs.Renaming.{same_blank, blanks_of_term, blanks_of_graph, blanks_of}
use Rattle.nquads.specs.Spelling.{blank_text, spelling, text_quad}
use Rattle.nquads.specs.Lines.{line}
use Rattle.nquads.specs.Stored.{IsKnown, quad_texts}
use Rattle.nquads.specs.FirstDegree.{mentions, mention_set, mark}
use Rattle.nquads.proofs.ReadingBlanks.{same_blank-itself}
use Rattle.rdfc_first.specs.declared.mentions.MentionLine.{MentionLine}
use Rattle.rdfc_first.specs.Internal.Mentions.{mention_line, line_at, object_lines, graph_lines, mention_lines}
use Rattle.rdfc_first.specs.Internal.Grouping.{lines_for}
use Rattle.rdfc_first.proofs.MarkedLines.{same_text, number_is, line-spelled}

-- ---- tests

or_false : (a : Bool) → (a || false) ≡ a
or_false true = refl
or_false false = refl

-- a part has the text of a blank node where it is that blank node
part_is : (n : Blank) (t : Term) → bytes_eq (spelling t) (blank_text n) ≡ list_any (same_blank n) (blanks_of_term t)
part_is n (iri text) = refl
part_is n (literal text datatype language) = refl
part_is n (blank b) = same_text n b ∙ sym (or_false (same_blank n b))

-- whether the graph is this number
abbrev pub graph_has : ℕ → Option TermId → Bool
graph_has x None = false
graph_has x (Some g) = g.index == x

-- ---- the lines of a statement for one blank node

module _ (texts : List (List ℕ)) (x : TermId) (quad : Quad) (is : begins_blank (text_at texts x) ≡ true) where
  abbrev for_x : MentionLine → Bool
  for_x m = m.blank.index == x.index

  abbrev one_if : Bool → List MentionLine
  one_if b = cond b (mention_line texts quad x ∷ []) []

  itself : (x.index == x.index) ≡ true
  itself = (Decides-eqb x.index x.index).1 refl

  line_at-filter : (part : TermId) → filter for_x (line_at texts quad part) ≡ one_if (part.index == x.index)
  line_at-filter part = go (part.index == x.index) refl
    where
      other : (b : Bool) → (part.index == x.index) ≡ false → filter for_x (cond b (mention_line texts quad part ∷ []) []) ≡ []
      other true e = rw e refl
      other false e = refl

      go : (t : Bool) → (part.index == x.index) ≡ t → filter for_x (line_at texts quad part) ≡ one_if t
      go true e =
          let numbers = (Decides-eqb part.index x.index).0 e in
          let same : part ≡ x = λ i. record { index = numbers i } in
          ap (λ p. filter for_x (line_at texts quad p)) same ∙ ap (λ b. filter for_x (cond b (mention_line texts quad x ∷ []) [])) is ∙ ap (λ b. cond b (mention_line texts quad x ∷ []) []) itself
      go false e = other (begins_blank (text_at texts part)) e

  pick : (p q r : Bool) → (p ≡ true → q ≡ true → r ≡ true) → (p ≡ false → q ≡ true → r ≡ false) → one_if p ++ cond r [] (one_if q) ≡ one_if (p || q)
  pick true true true f g = refl
  pick true true false f g = absurd (false≢true (f refl refl))
  pick true false true f g = refl
  pick true false false f g = refl
  pick false true true f g = absurd (false≢true (sym (g refl refl)))
  pick false true false f g = refl
  pick false false true f g = refl
  pick false false false f g = refl

  filter_if : (r : Bool) (part : TermId) → filter for_x (cond r [] (line_at texts quad part)) ≡ cond r [] (one_if (part.index == x.index))
  filter_if true part = refl
  filter_if false part = line_at-filter part

  same_if : (a b : ℕ) → (a == x.index) ≡ true → (b == x.index) ≡ true → (a == b) ≡ true
  same_if a b e f = (Decides-eqb a b).1 ((Decides-eqb a x.index).0 e ∙ sym ((Decides-eqb b x.index).0 f))

  apart_if : (a b : ℕ) → (a == x.index) ≡ false → (b == x.index) ≡ true → (a == b) ≡ false
  apart_if a b e f = go (a == b) refl
    where
      go : (t : Bool) → (a == b) ≡ t → t ≡ false
      go true g = sym ((Decides-eqb a x.index).1 ((Decides-eqb a b).0 g ∙ (Decides-eqb b x.index).0 f)) ∙ e
      go false g = refl

  or_same : (a b g : ℕ) → ((a == x.index) || (b == x.index)) ≡ true → (g == x.index) ≡ true → ((a == g) || (b == g)) ≡ true
  or_same a b g e f = go (a == x.index) refl e
    where
      or_true : (p : Bool) → (p || true) ≡ true
      or_true true = refl
      or_true false = refl

      go : (t : Bool) → (a == x.index) ≡ t → (t || (b == x.index)) ≡ true → ((a == g) || (b == g)) ≡ true
      go true h e = ap (λ p. p || (b == g)) (same_if a g h f)
      go false h e = ap (λ p. (a == g) || p) (same_if b g e f) ∙ or_true (a == g)

  or_apart : (a b g : ℕ) → ((a == x.index) || (b == x.index)) ≡ false → (g == x.index) ≡ true → ((a == g) || (b == g)) ≡ false
  or_apart a b g e f = go (a == x.index) refl e
    where
      go : (t : Bool) → (a == x.index) ≡ t → (t || (b == x.index)) ≡ false → ((a == g) || (b == g)) ≡ false
      go true h e = absurd (false≢true (sym e))
      go false h e = (λ i. apart_if a g h f i || apart_if b g e f i)

  abbrev first_two : Bool
  first_two = (quad.subject.index == x.index) || (quad.object.index == x.index)

  graph_part : (g : Option TermId) → one_if first_two ++ filter for_x (graph_lines texts quad g) ≡ one_if (first_two || graph_has x.index g)
  graph_part None = append-nil (one_if first_two) ∙ ap one_if (sym (or_false first_two))
  graph_part (Some g) =
      ap (λ ls. one_if first_two ++ ls) (filter_if ((quad.subject.index == g.index) || (quad.object.index == g.index)) g)
      ∙ pick first_two (g.index == x.index) ((quad.subject.index == g.index) || (quad.object.index == g.index)) (or_same quad.subject.index quad.object.index g.index) (or_apart quad.subject.index quad.object.index g.index)

  -- the lines of a quad for one blank node: one where it is mentioned, however often
  pub mention_lines-filter : filter for_x (mention_lines texts quad) ≡ one_if (first_two || graph_has x.index quad.graph)
  mention_lines-filter =
      let whole = filter-append for_x (line_at texts quad quad.subject) (object_lines texts quad ++ graph_lines texts quad quad.graph) in
      let rest = filter-append for_x (object_lines texts quad) (graph_lines texts quad quad.graph) in
      let first = line_at-filter quad.subject in
      let second = filter_if (quad.subject.index == quad.object.index) quad.object in
      let two = pick (quad.subject.index == x.index) (quad.object.index == x.index) (quad.subject.index == quad.object.index) (same_if quad.subject.index quad.object.index) (apart_if quad.subject.index quad.object.index) in
      whole ∙ ap (λ ls. filter for_x (line_at texts quad quad.subject) ++ ls) rest
      ∙ (λ i. first i ++ (second i ++ filter for_x (graph_lines texts quad quad.graph)))
      ∙ sym (append_assoc (one_if (quad.subject.index == x.index)) (cond (quad.subject.index == quad.object.index) [] (one_if (quad.object.index == x.index))) (filter for_x (graph_lines texts quad quad.graph)))
      ∙ ap (λ ls. ls ++ filter for_x (graph_lines texts quad quad.graph)) two
      ∙ graph_part quad.graph

-- ---- the lines of a dataset for one blank node

or_moved : (a b d : Bool) → ((a || b) || d) ≡ (a || (b || d))
or_moved true b d = refl
or_moved false b d = refl

-- the number `at` has the text of the blank node n
module _ (texts : List (List ℕ)) (differ : AllDiffer texts) (at : TermId) (n : Blank) (below : at.index < length texts) (is : text_at texts at ≡ blank_text n) where
  part_at : (id : TermId) (t : Term) → id.index < length texts → text_at texts id ≡ spelling t → (id.index == at.index) ≡ list_any (same_blank n) (blanks_of_term t)
  part_at id t within e = number_is texts differ at n below is id (spelling t) within e ∙ part_is n t

  graph_at : (g : Option TermId) (t : Option Term) → IfSome g (λ id. id.index < length texts) → option_map (text_at texts) g ≡ option_map spelling t → graph_has at.index g ≡ list_any (same_blank n) (blanks_of_graph t)
  graph_at None None within e = refl
  graph_at None (Some t) within e = absurd (cc)
  graph_at (Some id) None within e = absurd (cc)
  graph_at (Some id) (Some t) within e =
      let same : text_at texts id ≡ spelling t = cc in
      part_at id t within same

  -- the numbers tell whether a statement mentions the blank node
  mentions_is : (quad : Quad) (s : Statement) → IsKnown texts quad → quad_texts texts quad ≡ text_quad s → (((quad.subject.index == at.index) || (quad.object.index == at.index)) || graph_has at.index quad.graph) ≡ mentions n s
  mentions_is quad s known e =
      let whole = list_any-append (same_blank n) (blanks_of_term s.subject) (blanks_of_term s.object ++ blanks_of_graph s.graph) in
      let rest = list_any-append (same_blank n) (blanks_of_term s.object) (blanks_of_graph s.graph) in
      let subject = part_at quad.subject s.subject known.subject (λ i. (e i).subject) in
      let object = part_at quad.object s.object known.object (λ i. (e i).object) in
      let graph = graph_at quad.graph s.graph known.graph (λ i. (e i).graph) in
      (λ i. (subject i || object i) || graph i)
      ∙ or_moved (list_any (same_blank n) (blanks_of_term s.subject)) (list_any (same_blank n) (blanks_of_term s.object)) (list_any (same_blank n) (blanks_of_graph s.graph))
      ∙ sym (whole ∙ ap (λ b. list_any (same_blank n) (blanks_of_term s.subject) || b) rest)

  starts : begins_blank (text_at texts at) ≡ true
  starts = ap begins_blank is

  -- the lines of a statement for the blank node
  lines_for-mentions : (quad : Quad) (s : Statement) → IsKnown texts quad → quad_texts texts quad ≡ text_quad s → lines_for at (mention_lines texts quad) ≡ cond (mentions n s) (line (mark n) s ∷ []) []
  lines_for-mentions quad s known e =
      ap (map (λ (m : MentionLine). m.line)) (mention_lines-filter texts at quad starts ∙ ap (λ b. cond b (mention_line texts quad at ∷ []) []) (mentions_is quad s known e))
      ∙ go (mentions n s)
    where
      go : (b : Bool) → map (λ (m : MentionLine). m.line) (cond b (mention_line texts quad at ∷ []) []) ≡ cond b (line (mark n) s ∷ []) []
      go true = ap (λ l. l ∷ []) (line-spelled texts differ at n below is quad s known e)
      go false = refl

  -- the lines for one blank node are those of its mention set
  pub lines_for-dataset : (quads : List Quad) (q : List Statement) → All (IsKnown texts) quads → map (quad_texts texts) quads ≡ map text_quad q → lines_for at (flat_map (mention_lines texts) quads) ≡ map (line (mark n)) (mention_set q n)
  lines_for-dataset [] [] known e = refl
  lines_for-dataset [] (s ∷ q) known e = absurd (cc)
  lines_for-dataset (quad ∷ quads) [] known e = absurd (cc)
  lines_for-dataset (quad ∷ quads) (s ∷ q) known e =
      let first : quad_texts texts quad ≡ text_quad s = cc in
      let later : map (quad_texts texts) quads ≡ map text_quad q = cc in
      let p = λ (m : MentionLine). m.blank.index == at.index in
      let one = lines_for-mentions quad s (All-head (IsKnown texts) quad quads known) first in
      let rest = lines_for-dataset quads q (All-tail (IsKnown texts) quad quads known) later in
      ap (map (λ (m : MentionLine). m.line)) (filter-append p (mention_lines texts quad) (flat_map (mention_lines texts) quads))
      ∙ map-append (λ (m : MentionLine). m.line) (filter p (mention_lines texts quad)) (filter p (flat_map (mention_lines texts) quads))
      ∙ (λ i. one i ++ rest i)
      ∙ go (mentions n s)
    where
      go : (b : Bool) → cond b (line (mark n) s ∷ []) [] ++ map (line (mark n)) (mention_set q n) ≡ map (line (mark n)) (cond b (s ∷ mention_set q n) (mention_set q n))
      go true = refl
      go false = refl

-- ---- which blank nodes have lines

-- the number is one of the store, with the text of a blank node among these
abbrev pub IsNumberIn : List (List ℕ) → List Blank → TermId → Type 0
IsNumberIn texts bs id = (n : Blank) × Contains bs n × (id.index < length texts) × (text_at texts id ≡ blank_text n)

module _ (texts : List (List ℕ)) where
  pub from_line_at : (quad : Quad) (part : TermId) (m : MentionLine) → Contains (line_at texts quad part) m → (begins_blank (text_at texts part) ≡ true) × (m.blank ≡ part)
  from_line_at quad part m c = go (begins_blank (text_at texts part)) refl c
    where
      go : (b : Bool) → begins_blank (text_at texts part) ≡ b → Contains (cond b (mention_line texts quad part ∷ []) []) m → (begins_blank (text_at texts part) ≡ true) × (m.blank ≡ part)
      go true e c = elim (Contains-cons_cases (mention_line texts quad part) [] m c) [ inl f ↦ (e, λ i. (sym f i).blank) | inr d ↦ absurd (Contains-nil m d) ]
      go false e c = absurd (Contains-nil m c)

  pub from_cond : (b : Bool) (ms : List MentionLine) (m : MentionLine) → Contains (cond b [] ms) m → Contains ms m
  from_cond true ms m c = absurd (Contains-nil m c)
  from_cond false ms m c = c

  part_blank : (t : Term) (part id : TermId) → part.index < length texts → text_at texts part ≡ spelling t → begins_blank (text_at texts part) ≡ true → id ≡ part → IsNumberIn texts (blanks_of_term t) id
  part_blank (iri text) part id within e b same = absurd (false≢true (ap begins_blank (sym e) ∙ b))
  part_blank (literal text datatype language) part id within e b same = absurd (false≢true (ap begins_blank (sym e) ∙ b))
  part_blank (blank c) part id within e b same = (c, Contains-here c [], subst (λ (z : TermId). z.index < length texts) (sym same) within, ap (text_at texts) same ∙ e)

  line_blank : (quad : Quad) (t : Term) (part : TermId) (m : MentionLine) → part.index < length texts → text_at texts part ≡ spelling t → Contains (line_at texts quad part) m → IsNumberIn texts (blanks_of_term t) m.blank
  line_blank quad t part m within e c = let at = from_line_at quad part m c in part_blank t part m.blank within e at.0 at.1

  graph_blank : (quad : Quad) (g : Option TermId) (t : Option Term) (m : MentionLine) → IfSome g (λ id. id.index < length texts) → option_map (text_at texts) g ≡ option_map spelling t → Contains (graph_lines texts quad g) m → IsNumberIn texts (blanks_of_graph t) m.blank
  graph_blank quad None t m within e c = absurd (Contains-nil m c)
  graph_blank quad (Some id) None m within e c = absurd (cc)
  graph_blank quad (Some id) (Some t) m within e c =
      let same : text_at texts id ≡ spelling t = cc in
      line_blank quad t id m within same (from_cond ((quad.subject.index == id.index) || (quad.object.index == id.index)) (line_at texts quad id) m c)

  -- each line is for a blank node of the statement
  pub mention_blank : (quad : Quad) (s : Statement) (m : MentionLine) → IsKnown texts quad → quad_texts texts quad ≡ text_quad s → Contains (mention_lines texts quad) m → IsNumberIn texts (blanks_of s) m.blank
  mention_blank quad s m known e c =
      elim (Contains-append_cases (line_at texts quad quad.subject) (object_lines texts quad ++ graph_lines texts quad quad.graph) m c) [
        | inl d ↦ let n = line_blank quad s.subject quad.subject m known.subject (λ i. (e i).subject) d in
            (n.0, Contains-append_left (blanks_of_term s.subject) (blanks_of_term s.object ++ blanks_of_graph s.graph) n.0 n.1, n.2, n.3)
        | inr d ↦ elim (Contains-append_cases (object_lines texts quad) (graph_lines texts quad quad.graph) m d) [
          | inl f ↦ let n = line_blank quad s.object quad.object m known.object (λ i. (e i).object) (from_cond (quad.subject.index == quad.object.index) (line_at texts quad quad.object) m f) in
              (n.0, Contains-append_right (blanks_of_term s.subject) (blanks_of_term s.object ++ blanks_of_graph s.graph) n.0 (Contains-append_left (blanks_of_term s.object) (blanks_of_graph s.graph) n.0 n.1), n.2, n.3)
          | inr f ↦ let n = graph_blank quad quad.graph s.graph m known.graph (λ i. (e i).graph) f in
              (n.0, Contains-append_right (blanks_of_term s.subject) (blanks_of_term s.object ++ blanks_of_graph s.graph) n.0 (Contains-append_right (blanks_of_term s.object) (blanks_of_graph s.graph) n.0 n.1), n.2, n.3)
        ]
      ]

-- a blank node among the blank nodes of a statement is mentioned
pub mentions-contains : (n : Blank) (bs : List Blank) → Contains bs n → list_any (same_blank n) bs ≡ true
mentions-contains n [] c = absurd (Contains-nil n c)
mentions-contains n (b ∷ bs) c =
    elim (Contains-cons_cases b bs n c) [
      | inl e ↦ ap (λ t. t || list_any (same_blank n) bs) (subst (λ (z : Blank). same_blank n z ≡ true) (sym e) (same_blank-itself n))
      | inr d ↦ go (same_blank n b) (mentions-contains n bs d)
    ]
  where
    go : (t : Bool) → list_any (same_blank n) bs ≡ true → (t || list_any (same_blank n) bs) ≡ true
    go true e = refl
    go false e = e

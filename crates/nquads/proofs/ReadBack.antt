-- What is written reads back: a canonical text says the dataset whose text it is.
use Rattle.std.proofs.Common.{◌≡◌, ℕ, ◌+◌, ◌-◌, ◌<◌, ◌≤◌, List, [], ◌∷◌, ◌++◌, length, map, drop, true, false, ◌==◌, get_or, All, Contains, Option, Some, None, codes, refl, sym, ap, ◌∙◌, subst, inl, inr, arith, append_assoc, append-nil, length-append}
use Rattle.std.specs.Prelude.{◌⊎◌, IsCharBoundary}
use Rattle.std.specs.List.{concat}
use Rattle.std.specs.Str.{IsUtf8}
use Rattle.std.proofs.lemmas.Bool.{ne_eqb, or_from, or_cases, eqb-true}
use Rattle.std.proofs.lemmas.Option.{none-some, same_Some}
use Rattle.std.proofs.lemmas.List.{take_at, drop_at, get_or_at, append_cancel_right}
use Rattle.std.proofs.lemmas.List.Elements.{All-nil, All-cons, All-head, All-tail, All-contains}
use Rattle.std.proofs.lemmas.Str.{IsUtf8-take, IsUtf8-drop, IsUtf8-nil, IsCharBoundary-before_ascii, IsCharBoundary-after_ascii}
use Rattle.base_types.proofs.Lists.{Contains-nil, Contains-cons_cases, Contains-map, Contains-from_map}
use Rattle.nquads.specs.Terms.{Blank, Term, Statement}
use Rattle.nquads.specs.Reading.{WritesStatement, WritesGraph, IsReadable, Says, IsLineAt, StandsInText, SaysOneOf, SaysDataset, is_line_end, is_gap, IsGap, BeginsLine, EndsLine}
use Rattle.nquads.specs.Spelling.{iri_text}
use Rattle.nquads.specs.Lines.{term_text, graph_text, line_text, line, canonical_lines, canonical_text, with_labels}
use Rattle.nquads.specs.Internal.Lines.{first_line, line_tail, past_line_end, after_line}
use Rattle.nquads.proofs.ReadingElements.{All-from_contains}
use Rattle.nquads.proofs.ReadingDatasets.{to_canonical_lines, from_canonical_lines}
use Rattle.nquads.proofs.PartTerms.{iri_characters}
use Rattle.nquads.proofs.WholeLines.{AreReadable, IsReadableGraph, readable_parts}
use Rattle.nquads.proofs.TextLines.{Reached, reached-start, line_here, reached-next, next_line}
use Rattle.nquads.proofs.ReadingTerms.{label_blank}
use Rattle.nquads.proofs.ReadingSame.{line-rename}
use Rattle.nquads.proofs.ReadBackTerms.{name_of, term_writes, OnOneLine, joined_line, one_byte, term_on_line, iri_writes, iri_on_line}

-- ---- one line

one_space : IsGap (32 ∷ [])
one_space = ((λ (e : 32 ∷ [] ≡ []). cc), All-cons (λ c. is_gap c ≡ true) 32 [] refl (All-nil (λ c. is_gap c ≡ true)))

-- a canonical line without its LF
abbrev pub front : Statement → List ℕ
front s = term_text name_of s.subject ++ (32 ∷ (iri_text s.predicate ++ (32 ∷ (term_text name_of s.object ++ (32 ∷ (graph_text name_of s.graph ++ 46 ∷ []))))))

-- how a graph is written behind the object, and the gap before the dot
record GraphShape (g : Option Term) : Type 0 where
  graph : List ℕ
  is : 32 ∷ (graph_text name_of g ++ 46 ∷ []) ≡ graph ++ (32 ∷ (46 ∷ []))
  writes : WritesGraph graph g
  on_line : OnOneLine graph

graph_shape : (g : Option Term) → IsReadableGraph g → GraphShape g
graph_shape None r = record { graph = []; is = refl; writes = refl; on_line = record { feed = tt; return = tt } }
graph_shape (Some g) r = record {
  graph = 32 ∷ term_text name_of g;
  is = ap (λ (t : List ℕ). 32 ∷ t) (append_assoc (term_text name_of g) (32 ∷ []) (46 ∷ []));
  writes = record { gap = 32 ∷ []; name = term_text name_of g; is = refl; apart = one_space; writes = term_writes g r.0 };
  on_line = joined_line (32 ∷ []) (term_text name_of g) (one_byte 32 refl refl) (term_on_line g r.0);
}

line_is : (s p o g : List ℕ) → line_text s p o g ≡ (s ++ (32 ∷ (p ++ (32 ∷ (o ++ (32 ∷ (g ++ 46 ∷ []))))))) ++ 10 ∷ []
line_is s p o g = simp append_assoc

statement_shape : (s p o graph rest : List ℕ) → rest ≡ graph ++ (32 ∷ (46 ∷ [])) → s ++ (32 ∷ (p ++ (32 ∷ (o ++ rest)))) ≡ [] ++ s ++ (32 ∷ []) ++ p ++ (32 ∷ []) ++ o ++ graph ++ (32 ∷ []) ++ codes "." ++ []
statement_shape s p o graph rest e = rw e (simp (append_assoc, append-nil))

front_writes : (s : Statement) → AreReadable s → WritesStatement (front s) s
front_writes s r =
    let g = graph_shape s.graph r.graph in
    record {
      start = [];
      subject = term_text name_of s.subject;
      first_gap = 32 ∷ [];
      predicate = iri_text s.predicate;
      second_gap = 32 ∷ [];
      object = term_text name_of s.object;
      graph = g.graph;
      last_gap = 32 ∷ [];
      end = [];
      is = statement_shape (term_text name_of s.subject) (iri_text s.predicate) (term_text name_of s.object) g.graph (32 ∷ (graph_text name_of s.graph ++ 46 ∷ [])) g.is;
      gaps = (All-nil (λ c. is_gap c ≡ true), one_space, one_space, one_space.1);
      subject_is = term_writes s.subject r.subject;
      predicate_is = iri_writes s.predicate (iri_characters s.predicate r.absolute);
      object_is = term_writes s.object r.object;
      graph_is = g.writes;
      ends = inl (All-nil (λ c. is_gap c ≡ true));
    }

-- a canonical line of a readable statement says it
pub front_says : (s : Statement) → IsReadable s → IsUtf8 (front s) → Says (front s) (Some s)
front_says s r u = (u, front_writes s (readable_parts s r), r)

-- it stands on one line
pub front_on_line : (s : Statement) → IsReadable s → OnOneLine (front s)
front_on_line s i =
    let r = readable_parts s i in
    let g = graph_shape s.graph r.graph in
    let space = one_byte 32 refl refl in
    let last : OnOneLine (32 ∷ (graph_text name_of s.graph ++ 46 ∷ [])) =
    subst OnOneLine (sym g.is) (joined_line g.graph (32 ∷ (46 ∷ [])) g.on_line (joined_line (32 ∷ []) (46 ∷ []) space (one_byte 46 refl refl))) in
    joined_line (term_text name_of s.subject) _ (term_on_line s.subject r.subject)
    (joined_line (32 ∷ []) _ space
    (joined_line (iri_text s.predicate) _ (iri_on_line s.predicate (iri_characters s.predicate r.absolute))
    (joined_line (32 ∷ []) _ space (joined_line (term_text name_of s.object) _ (term_on_line s.object r.object) last))))

-- ---- the lines of a canonical text

not_an_end : (text : List ℕ) → OnOneLine text → All (λ c. is_line_end c ≡ false) text
not_an_end [] o = All-nil (λ c. is_line_end c ≡ false)
not_an_end (c ∷ cs) o =
    All-cons (λ c. is_line_end c ≡ false) c cs
    (or_from (c == 10) (c == 13) (ne_eqb c 10 (λ e. (o.feed).0 (sym e))) (ne_eqb c 13 (λ e. (o.return).0 (sym e))))
    (not_an_end cs (record { feed = (o.feed).1; return = (o.return).1 }))

first_of : (f r : List ℕ) → All (λ c. is_line_end c ≡ false) f → first_line (f ++ 10 ∷ r) ≡ f
first_of [] r a = refl
first_of (c ∷ cs) r a = rw (All-head (λ c. is_line_end c ≡ false) c cs a) (ap (λ (t : List ℕ). c ∷ t) (first_of cs r (All-tail (λ c. is_line_end c ≡ false) c cs a)))

tail_of_line : (f r : List ℕ) → All (λ c. is_line_end c ≡ false) f → line_tail (f ++ 10 ∷ r) ≡ 10 ∷ r
tail_of_line [] r a = refl
tail_of_line (c ∷ cs) r a = rw (All-head (λ c. is_line_end c ≡ false) c cs a) (tail_of_line cs r (All-tail (λ c. is_line_end c ≡ false) c cs a))

-- the line of a statement of the dataset
record LineOf (q : List Statement) (l : List ℕ) : Type 0 where
  statement : Statement
  within : Contains q statement
  is : l ≡ front statement ++ 10 ∷ []
  on_line : OnOneLine (front statement)

joined_is : (l f rest : List ℕ) → l ≡ f ++ 10 ∷ [] → l ++ rest ≡ f ++ 10 ∷ rest
joined_is l f rest e = ap (λ (t : List ℕ). t ++ rest) e ∙ append_assoc f (10 ∷ []) rest

first_is : (q : List Statement) (l rest : List ℕ) (o : LineOf q l) → first_line (l ++ rest) ≡ front o.statement
first_is q l rest o = ap first_line (joined_is l (front o.statement) rest o.is) ∙ first_of (front o.statement) rest (not_an_end (front o.statement) o.on_line)

after_is : (q : List Statement) (l rest : List ℕ) (o : LineOf q l) → after_line (l ++ rest) ≡ Some rest
after_is q l rest o =
    ap (λ (t : List ℕ). past_line_end (line_tail t)) (joined_is l (front o.statement) rest o.is)
    ∙ ap past_line_end (tail_of_line (front o.statement) rest (not_an_end (front o.statement) o.on_line))

-- what stands on a line of the text
abbrev Stands : List Statement → List ℕ → Type 0
Stands q l = (l ≡ []) ⊎ ((s : Statement) × Contains q s × (l ≡ front s))

each_line : (q : List Statement) (ls : List (List ℕ)) (bytes : List ℕ) (at m : ℕ) (l : List ℕ) → All (LineOf q) ls → Reached bytes at (concat ls) → IsLineAt bytes m l → at ≤ m → Stands q l
each_line q [] bytes at m l a r s k =
    elim (next_line bytes at [] m l r s k) [
      | inl h ↦ inl h.1
      | inr h ↦ absurd (none-some h.0 h.1)
    ]
each_line q (x ∷ xs) bytes at m l a r s k =
    let o = All-head (LineOf q) x xs a in
    let next = after_is q x (concat xs) o in
    elim (next_line bytes at (x ++ concat xs) m l r s k) [
      | inl h ↦ inr (o.statement, o.within, h.1 ∙ first_is q x (concat xs) o)
      | inr h ↦
          let same : h.0 ≡ concat xs = same_Some h.0 (concat xs) (sym h.1 ∙ next) in
          each_line q xs bytes (length bytes - length (concat xs)) m l (All-tail (LineOf q) x xs a) (reached-next bytes at (x ++ concat xs) (concat xs) r next) s (subst (λ (z : List ℕ). length bytes - length z ≤ m) same h.2)
    ]

each_stands : (q : List Statement) (ls : List (List ℕ)) (bytes : List ℕ) (at : ℕ) (l : List ℕ) → All (LineOf q) ls → Reached bytes at (concat ls) → Contains ls l → (m : ℕ) × (s : Statement) × IsLineAt bytes m (front s) × (l ≡ front s ++ 10 ∷ [])
each_stands q [] bytes at l a r c = absurd (Contains-nil l c)
each_stands q (x ∷ xs) bytes at l a r c =
    let o = All-head (LineOf q) x xs a in
    elim (Contains-cons_cases x xs l c) [
      | inl e ↦ (at, o.statement, subst (IsLineAt bytes at) (first_is q x (concat xs) o) (line_here bytes at (x ++ concat xs) r), sym e ∙ o.is)
      | inr n ↦ each_stands q xs bytes (length bytes - length (concat xs)) l (All-tail (LineOf q) x xs a) (reached-next bytes at (x ++ concat xs) (concat xs) r (after_is q x (concat xs) o)) n
    ]

-- ---- a line of UTF-8 is UTF-8

behind_ascii : (x : List ℕ) (c : ℕ) (y : List ℕ) → c < 128 → IsUtf8 (x ++ c ∷ y) → IsUtf8 y
behind_ascii x c y l u =
    let here : get_or (x ++ c ∷ y) (length x) 0 ≡ c = get_or_at x c y 0 (length x) refl in
    let size : length (x ++ c ∷ y) ≡ length x + length (c ∷ y) = length-append x (c ∷ y) in
    let cut : IsCharBoundary (x ++ c ∷ y) (length x + 1) = IsCharBoundary-after_ascii (x ++ c ∷ y) (length x) u (omega (arith, size)) (omega (arith, here, l)) in
    let rest : drop (length x + 1) (x ++ c ∷ y) ≡ y = ap (drop (length x + 1)) (sym (append_assoc x (c ∷ []) y)) ∙ drop_at (x ++ c ∷ []) y (length x + 1) (length-append x (c ∷ [])) in
    subst IsUtf8 rest (IsUtf8-drop (x ++ c ∷ y) (length x + 1) u cut)

before_ascii : (x : List ℕ) (c : ℕ) (y : List ℕ) → c < 128 → IsUtf8 (x ++ c ∷ y) → IsUtf8 x
before_ascii x c y l u =
    let here : get_or (x ++ c ∷ y) (length x) 0 ≡ c = get_or_at x c y 0 (length x) refl in
    let size : length (x ++ c ∷ y) ≡ length x + length (c ∷ y) = length-append x (c ∷ y) in
    let cut : IsCharBoundary (x ++ c ∷ y) (length x) = IsCharBoundary-before_ascii (x ++ c ∷ y) (length x) (omega (arith, size)) (omega (arith, here, l)) in
    subst IsUtf8 (take_at x (c ∷ y) (length x) refl) (IsUtf8-take (x ++ c ∷ y) (length x) u cut)

end_is_ascii : (c : ℕ) → is_line_end c ≡ true → c < 128
end_is_ascii c e = elim (or_cases (c == 10) (c == 13) e) [ inl p ↦ omega (arith, eqb-true c 10 p) | inr p ↦ omega (arith, eqb-true c 13 p) ]

-- a line of a text that is UTF-8
pub line_utf8 : (bytes : List ℕ) (m : ℕ) (l : List ℕ) → IsUtf8 bytes → IsLineAt bytes m l → IsUtf8 l
line_utf8 bytes m l u s = cut_back s.after s.ends (cut_front s.before s.begins (subst IsUtf8 (s.is ∙ append_assoc s.before l s.after) u))
  where
    cut_front : (before : List ℕ) → BeginsLine before (l ++ s.after) → IsUtf8 (before ++ (l ++ s.after)) → IsUtf8 (l ++ s.after)
    cut_front before b v =
        elim b [
          | inl e ↦ subst (λ (t : List ℕ). IsUtf8 (t ++ (l ++ s.after))) e v
          | inr x ↦ elim x [
            | inl f ↦ behind_ascii f.0 10 (l ++ s.after) (omega arith) (subst IsUtf8 (ap (λ (t : List ℕ). t ++ (l ++ s.after)) f.1 ∙ append_assoc f.0 (10 ∷ []) (l ++ s.after)) v)
            | inr f ↦ behind_ascii f.0 13 (l ++ s.after) (omega arith) (subst IsUtf8 (ap (λ (t : List ℕ). t ++ (l ++ s.after)) f.1 ∙ append_assoc f.0 (13 ∷ []) (l ++ s.after)) v)
          ]
        ]

    cut_back : (after : List ℕ) → EndsLine after → IsUtf8 (l ++ after) → IsUtf8 l
    cut_back after b v =
        elim b [
          | inl e ↦ subst IsUtf8 (ap (λ (t : List ℕ). l ++ t) e ∙ append-nil l) v
          | inr x ↦ before_ascii l x.0 x.1 (end_is_ascii x.0 x.3) (subst (λ (t : List ℕ). IsUtf8 (l ++ t)) x.2 v)
        ]

-- ---- the whole text

labelled_line : (f : Blank → List ℕ) (s : Statement) → line f s ≡ front (with_labels f s) ++ 10 ∷ []
labelled_line f s = labels_in f s ∙ line_is (term_text name_of (with_labels f s).subject) (iri_text s.predicate) (term_text name_of (with_labels f s).object) (graph_text name_of (with_labels f s).graph)
  where
    labels_in : (f : Blank → List ℕ) (s : Statement) → line f s ≡ line name_of (with_labels f s)
    labels_in f s = sym (line-rename name_of (label_blank f) s)

canonical_line_of : (f : Blank → List ℕ) (q : List Statement) → All IsReadable (map (with_labels f) q) → All (LineOf (map (with_labels f) q)) (canonical_lines f q)
canonical_line_of f q i =
    All-from_contains (LineOf (map (with_labels f) q)) (canonical_lines f q) (λ l m.
    let r = from_canonical_lines f q l m in
    let c = Contains-map (with_labels f) q r.0 r.1 in
    record {
      statement = with_labels f r.0;
      within = c;
      is = sym r.2 ∙ labelled_line f r.0;
      on_line = front_on_line (with_labels f r.0) (All-contains IsReadable (map (with_labels f) q) (with_labels f r.0) i c);
    })

-- what a text of UTF-8 was written for, it says
pub reads_back : (f : Blank → List ℕ) (q : List Statement) → All IsReadable (map (with_labels f) q) → IsUtf8 (canonical_text f q) → SaysDataset (canonical_text f q) (map (with_labels f) q)
reads_back f q i u = record { lines = each; statements = stands }
  where
    each : (m : ℕ) (l : List ℕ) → IsLineAt (canonical_text f q) m l → SaysOneOf (map (with_labels f) q) l
    each m l s =
        elim (each_line (map (with_labels f) q) (canonical_lines f q) (canonical_text f q) 0 m l (canonical_line_of f q i) (reached-start (canonical_text f q)) s (omega arith)) [
          | inl e ↦ inl (subst (λ (t : List ℕ). Says t None) (sym e) (IsUtf8-nil, inl (All-nil (λ c. is_gap c ≡ true))))
          | inr h ↦
              let t = line_utf8 (canonical_text f q) m l u s in
              inr (h.0, h.1, subst (λ (t : List ℕ). Says t (Some h.0)) (sym h.2) (front_says h.0 (All-contains IsReadable (map (with_labels f) q) h.0 i h.1) (subst IsUtf8 h.2 t)))
        ]

    stands : (s : Statement) → Contains (map (with_labels f) q) s → StandsInText (canonical_text f q) s
    stands s c =
        let o = Contains-from_map (with_labels f) q s c in
        let line_in : Contains (canonical_lines f q) (line f o.0) = to_canonical_lines f q o.0 o.1 in
        let h = each_stands (map (with_labels f) q) (canonical_lines f q) (canonical_text f q) 0 (line f o.0) (canonical_line_of f q i) (reached-start (canonical_text f q)) line_in in
        let same : front h.1 ≡ front s = append_cancel_right (front h.1) (front s) (10 ∷ []) (sym h.3 ∙ labelled_line f o.0 ∙ ap (λ (t : Statement). front t ++ 10 ∷ []) o.2) in
        let at : IsLineAt (canonical_text f q) h.0 (front s) = subst (IsLineAt (canonical_text f q) h.0) same h.2 in
        record {
          at = h.0;
          line = front s;
          stands = at;
          says = front_says s (All-contains IsReadable (map (with_labels f) q) s i c) (line_utf8 (canonical_text f q) h.0 (front s) u at);
        }

-- What a line says: what the function gives the line says, and what it says the function gives. So
-- a line says one thing at most.
use Rattle.std.proofs.Common.{◌≡◌, ℕ, List, [], ◌∷◌, ◌++◌, true, false, All, Option, Some, None, IfSome, option_map, option_and_then, flat_map, codes, refl, sym, ap, ◌∙◌, subst, inl, inr, append_assoc}
use Rattle.std.specs.Prelude.{option_to_list}
use Rattle.std.specs.Str.{IsUtf8}
use Rattle.std.proofs.lemmas.Option.{same_Some}
use Rattle.std.proofs.lemmas.List.Elements.{All-nil, All-cons, All-head, All-tail, All-append}
use Rattle.base_types.proofs.Options.{and_then-Some, option_map-Some, took}
use Rattle.iri_ref.specs.Components.{IsAbsolute}
use Rattle.nquads.specs.Terms.{Term, Statement, IsResource}
use Rattle.nquads.specs.Renaming.{blanks_of_term, blanks_of_graph}
use Rattle.nquads.specs.Reading.{WritesGraph, WritesStatement, IsReadable, Says, iris_of_term, texts_of_term, AreGaps, IsGap, IsEnd, is_gap}
use Rattle.nquads.specs.Internal.Meaning.{only_if}
use Rattle.nquads.specs.Internal.Parsing.{PartText, iri_part, literal_part, blank_part, LineTexts, past, past_gaps, past_gap, cut_iri, part_in, graph_in, closing_in, is_comment, is_end, behind_object, behind_predicate, behind_subject, parts_in, iri_of, term_of, resource_of, graph_of, statement, statement_of, line_in}
use Rattle.nquads.proofs.ReadingTerms.{IsTerm-from_resource}
use Rattle.nquads.proofs.ReadingTexts.{Absent}
use Rattle.nquads.proofs.Meant.{passed}
use Rattle.nquads.proofs.Cutting.{past-gives, chose, past_gaps-append, gaps_of, past_gap-gives, past_gap-from, is_end-gives, is_end-from, in_brackets, cut_iri-gives, cut_iri-from, written, part_in-gives, part_in-from, IsClosed, Follows, gap_follows, dot_follows}
use Rattle.nquads.proofs.PartTerms.{All-left, All-right, HasLabelName, IsClean, IsReadableTerm, iri_characters, iri_of-gives, iri_of-from, WritesIri-from, iri_closed, term_of-gives, resource_of-gives, PartOf, iri_given, part_of, resource_of-from}

-- a chain goes on behind a step that gave something
pub goes_on : {X Y : Type 0} (f : X → Option Y) (o : Option X) (x : X) → o ≡ Some x → option_and_then f o ≡ f x
goes_on f o x e = rw e refl

-- ---- from the function to the line

abbrev WrittenGraph : List ℕ → Option PartText → Type 0
WrittenGraph text None = text ≡ []
WrittenGraph text (Some p) = (gap : List ℕ) × (text ≡ gap ++ written p) × IsGap gap

record Closing (text : List ℕ) (q : Option PartText × List ℕ) : Type 0 where
  graph : List ℕ
  last_gap : List ℕ
  is : text ≡ graph ++ last_gap ++ codes "." ++ q.1
  gaps : AreGaps last_gap
  graph_is : WrittenGraph graph q.0

only_dot : (text end : List ℕ) → past 46 (past_gaps text) ≡ Some end → Closing text (None, end)
only_dot text end e =
    let g = gaps_of text in
    record {
      graph = [];
      last_gap = g.gaps;
      is = g.is ∙ ap (λ (t : List ℕ). g.gaps ++ t) (past-gives 46 (past_gaps text) end e) ∙ sym (append_assoc g.gaps (46 ∷ []) end);
      gaps = g.are;
      graph_is = refl;
    }

graph_shape : (text gap rest part after last end : List ℕ) → text ≡ gap ++ rest → rest ≡ part ++ after → after ≡ last ++ 46 ∷ end → text ≡ (gap ++ part) ++ last ++ codes "." ++ end
graph_shape text gap rest part after last end a b c = rw (a, b, c) (simp append_assoc)

with_graph : (text rest : List ℕ) (s : PartText × List ℕ) (end : List ℕ) → past_gap text ≡ Some rest → part_in rest ≡ Some s → past 46 (past_gaps s.1) ≡ Some end → Closing text (Some s.0, end)
with_graph text rest s end a b c =
    let g = past_gap-gives text rest a in
    let l = gaps_of s.1 in
    record {
      graph = g.gap ++ written s.0;
      last_gap = l.gaps;
      is = graph_shape text g.gap rest (written s.0) s.1 l.gaps end g.is (part_in-gives rest s b) (l.is ∙ ap (λ (t : List ℕ). l.gaps ++ t) (past-gives 46 (past_gaps s.1) end c));
      gaps = l.are;
      graph_is = (g.gap, refl, g.is_one);
    }

closing_in-gives : (text : List ℕ) (q : Option PartText × List ℕ) → closing_in text ≡ Some q → Closing text q
unfolding closing_in
closing_in-gives text q e =
    elim (chose (past 46 (past_gaps text)) (λ (end : List ℕ). Some (None, end)) (option_and_then graph_in (past_gap text)) (Some q) e) [
      | inl r ↦ subst (Closing text) (same_Some (None, r.0) q r.2) (only_dot text r.0 r.1)
      | inr r ↦
          let g = and_then-Some graph_in (past_gap text) q r.1 in
          let s = and_then-Some (λ (q : PartText × List ℕ). option_map (λ (end : List ℕ). (Some q.0, end)) (past 46 (past_gaps q.1))) (part_in g.0) q g.2 in
          let m = option_map-Some (λ (end : List ℕ). (Some s.0.0, end)) (past 46 (past_gaps s.0.1)) q s.2 in
          subst (Closing text) m.2 (with_graph text g.0 s.0 m.0 g.1 s.1 m.1)
    ]

-- the parts of a line, and what stands between them
record Shape (line : List ℕ) (l : LineTexts) : Type 0 where
  start : List ℕ
  first_gap : List ℕ
  second_gap : List ℕ
  graph : List ℕ
  last_gap : List ℕ
  end : List ℕ
  is : line ≡ start ++ written l.subject ++ first_gap ++ in_brackets l.predicate ++ second_gap ++ written l.object ++ graph ++ last_gap ++ codes "." ++ end
  gaps : AreGaps start × IsGap first_gap × IsGap second_gap × AreGaps last_gap
  graph_is : WrittenGraph graph l.graph
  ends : IsEnd end

-- a line, step by step
record Steps (line : List ℕ) (l : LineTexts) : Type 0 where
  s : PartText × List ℕ
  subject : part_in (past_gaps line) ≡ Some s
  a : List ℕ
  first : past_gap s.1 ≡ Some a
  p : List ℕ × List ℕ
  predicate : cut_iri a ≡ Some p
  b : List ℕ
  second : past_gap p.1 ≡ Some b
  o : PartText × List ℕ
  object : part_in b ≡ Some o
  q : Option PartText × List ℕ
  closing : closing_in o.1 ≡ Some q
  ends : is_end q.1 ≡ true
  is : record { subject = s.0; predicate = p.0; object = o.0; graph = q.0 } ≡ l

abbrev line_texts : PartText → List ℕ → PartText → Option PartText → LineTexts
line_texts subject predicate object graph = record { subject = subject; predicate = predicate; object = object; graph = graph }

steps_of : (line : List ℕ) (l : LineTexts) → parts_in line ≡ Some l → Steps line l
unfolding parts_in
steps_of line l e =
    let s = and_then-Some (λ (q : PartText × List ℕ). behind_subject q.0 q.1) (part_in (past_gaps line)) l e in
    let a = and_then-Some (λ (rest : List ℕ). option_and_then (λ (q : List ℕ × List ℕ). behind_predicate s.0.0 q.0 q.1) (cut_iri rest)) (past_gap s.0.1) l s.2 in
    let p = and_then-Some (λ (q : List ℕ × List ℕ). behind_predicate s.0.0 q.0 q.1) (cut_iri a.0) l a.2 in
    let b = and_then-Some (λ (rest : List ℕ). option_and_then (λ (q : PartText × List ℕ). behind_object s.0.0 p.0.0 q.0 q.1) (part_in rest)) (past_gap p.0.1) l p.2 in
    let o = and_then-Some (λ (q : PartText × List ℕ). behind_object s.0.0 p.0.0 q.0 q.1) (part_in b.0) l b.2 in
    let q = and_then-Some (λ (q : Option PartText × List ℕ). only_if (is_end q.1) (line_texts s.0.0 p.0.0 o.0.0 q.0)) (closing_in o.0.1) l o.2 in
    let z = passed (is_end q.0.1) (line_texts s.0.0 p.0.0 o.0.0 q.0.0) l q.2 in
    record {
      s = s.0;
      subject = s.1;
      a = a.0;
      first = a.1;
      p = p.0;
      predicate = p.1;
      b = b.0;
      second = b.1;
      o = o.0;
      object = o.1;
      q = q.0;
      closing = q.1;
      ends = z.0;
      is = z.1;
    }

line_shape : (line start from s behind_s g a p behind_p h b o behind_o graph last end : List ℕ) → line ≡ start ++ from → from ≡ s ++ behind_s → behind_s ≡ g ++ a → a ≡ p ++ behind_p → behind_p ≡ h ++ b → b ≡ o ++ behind_o → behind_o ≡ graph ++ last ++ codes "." ++ end
    → line ≡ start ++ s ++ g ++ p ++ h ++ o ++ graph ++ last ++ codes "." ++ end
line_shape line start from s behind_s g a p behind_p h b o behind_o graph last end e1 e2 e3 e4 e5 e6 e7 = rw (e1, e2, e3, e4, e5, e6, e7) (simp append_assoc)

shape_of : (line : List ℕ) (l : LineTexts) → Steps line l → Shape line l
shape_of line l t =
    let g = gaps_of line in
    let first = past_gap-gives t.s.1 t.a t.first in
    let second = past_gap-gives t.p.1 t.b t.second in
    let c = closing_in-gives t.o.1 t.q t.closing in
    subst (Shape line) t.is (record {
      start = g.gaps;
      first_gap = first.gap;
      second_gap = second.gap;
      graph = c.graph;
      last_gap = c.last_gap;
      end = t.q.1;
      is = line_shape line g.gaps (past_gaps line) (written t.s.0) t.s.1 first.gap t.a (in_brackets t.p.0) t.p.1 second.gap t.b (written t.o.0) t.o.1 c.graph c.last_gap t.q.1
          g.is (part_in-gives (past_gaps line) t.s t.subject) first.is (cut_iri-gives t.a t.p t.predicate) second.is (part_in-gives t.b t.o t.object) c.is;
      gaps = (g.are, first.is_one, second.is_one, c.gaps);
      graph_is = c.graph_is;
      ends = is_end-gives t.q.1 t.ends;
    })

-- ---- what the parts mean

record Meanings (l : LineTexts) (s : Statement) : Type 0 where
  subject : resource_of l.subject ≡ Some s.subject
  predicate : iri_of l.predicate ≡ Some s.predicate
  object : term_of l.object ≡ Some s.object
  graph : graph_of l.graph ≡ Some s.graph

meanings_of : (l : LineTexts) (s : Statement) → statement_of l ≡ Some s → Meanings l s
unfolding statement_of
meanings_of l s e =
    let a = and_then-Some (λ (s : Term). option_and_then (λ (p : List ℕ). option_and_then (λ (o : Term). option_map (λ (g : Option Term). statement s p o g) (graph_of l.graph)) (term_of l.object)) (iri_of l.predicate)) (resource_of l.subject) s e in
    let b = and_then-Some (λ (p : List ℕ). option_and_then (λ (o : Term). option_map (λ (g : Option Term). statement a.0 p o g) (graph_of l.graph)) (term_of l.object)) (iri_of l.predicate) s a.2 in
    let c = and_then-Some (λ (o : Term). option_map (λ (g : Option Term). statement a.0 b.0 o g) (graph_of l.graph)) (term_of l.object) s b.2 in
    let d = option_map-Some (λ (g : Option Term). statement a.0 b.0 c.0 g) (graph_of l.graph) s c.2 in
    subst (Meanings l) d.2 (record { subject = a.1; predicate = b.1; object = c.1; graph = d.1 })

statement_from : (l : LineTexts) (s : Statement) → Meanings l s → statement_of l ≡ Some s
unfolding statement_of
statement_from l s m = rw (m.subject, m.predicate, m.object, m.graph) refl

-- a graph that N-Quads admits
abbrev pub IsReadableGraph : Option Term → Type 0
IsReadableGraph None = Unit {0}
IsReadableGraph (Some g) = IsReadableTerm g × IsResource g

graph_named : (text : List ℕ) (p : Option PartText) (g : Option Term) → WrittenGraph text p → graph_of p ≡ Some g → WritesGraph text g × IsReadableGraph g
graph_named text None g w e = subst (λ (g : Option Term). WritesGraph text g × IsReadableGraph g) (same_Some None g e) (w, tt)
graph_named text (Some p) g w e =
    let m = option_map-Some (λ (t : Term). Some t) (resource_of p) g e in
    let r = resource_of-gives p m.0 m.1 in
    let t = term_of-gives p m.0 r.0 in
    subst (λ (g : Option Term). WritesGraph text g × IsReadableGraph g) m.2
    (record { gap = w.0; name = written p; is = w.1; apart = w.2; writes = t.writes }, (t.readable, r.1))

-- ---- a readable statement by its terms

graph_iris : (g : Option Term) → IsReadableGraph g → All IsAbsolute (flat_map iris_of_term (option_to_list g))
graph_iris None r = All-nil IsAbsolute
graph_iris (Some g) r = All-append IsAbsolute (iris_of_term g) [] (r.0).absolute (All-nil IsAbsolute)

graph_texts : (g : Option Term) → IsReadableGraph g → All IsClean (flat_map texts_of_term (option_to_list g))
graph_texts None r = All-nil IsClean
graph_texts (Some g) r = All-append IsClean (texts_of_term g) [] (r.0).characters (All-nil IsClean)

graph_labels : (g : Option Term) → IsReadableGraph g → All HasLabelName (blanks_of_graph g)
graph_labels None r = All-nil HasLabelName
graph_labels (Some g) r = (r.0).labels

graph_resource : (g : Option Term) → IsReadableGraph g → IfSome g IsResource
graph_resource None r = tt
graph_resource (Some g) r = r.1

-- what is asked of the four terms
pub record AreReadable (s : Statement) : Type 0 where
  pub subject : IsReadableTerm s.subject
  pub resource : IsResource s.subject
  pub absolute : IsAbsolute s.predicate
  pub clean : IsClean s.predicate
  pub object : IsReadableTerm s.object
  pub graph : IsReadableGraph s.graph

readable : (s : Statement) → AreReadable s → IsReadable s
readable s r = record {
  statement = record {
    subject = r.resource;
    predicate = iri_characters s.predicate r.absolute;
    object = (r.object).term;
    graph = graph_resource s.graph r.graph;
  };
  absolute = All-append IsAbsolute (iris_of_term s.subject) _ (r.subject).absolute
      (All-cons IsAbsolute s.predicate _ r.absolute
      (All-append IsAbsolute (iris_of_term s.object) _ (r.object).absolute (graph_iris s.graph r.graph)));
  labels = All-append HasLabelName (blanks_of_term s.subject) _ (r.subject).labels
      (All-append HasLabelName (blanks_of_term s.object) _ (r.object).labels (graph_labels s.graph r.graph));
  characters = All-append IsClean (texts_of_term s.subject) _ (r.subject).characters
      (All-cons IsClean s.predicate _ r.clean
      (All-append IsClean (texts_of_term s.object) _ (r.object).characters (graph_texts s.graph r.graph)));
}

graph_readable : (g : Option Term) → IfSome g IsResource → All IsAbsolute (flat_map iris_of_term (option_to_list g)) → All HasLabelName (blanks_of_graph g) → All IsClean (flat_map texts_of_term (option_to_list g)) → IsReadableGraph g
graph_readable None i a l c = tt
graph_readable (Some g) i a l c =
    (record { term = IsTerm-from_resource g i; absolute = All-left IsAbsolute (iris_of_term g) [] a; labels = l; characters = All-left IsClean (texts_of_term g) [] c }, i)

-- and the four terms of a readable statement
pub readable_parts : (s : Statement) → IsReadable s → AreReadable s
readable_parts s r =
    let iris = flat_map iris_of_term (option_to_list s.graph) in
    let texts = flat_map texts_of_term (option_to_list s.graph) in
    let names = blanks_of_graph s.graph in
    let i1 = All-right IsAbsolute (iris_of_term s.subject) (s.predicate ∷ (iris_of_term s.object ++ iris)) r.absolute in
    let i2 = All-tail IsAbsolute s.predicate (iris_of_term s.object ++ iris) i1 in
    let t1 = All-right IsClean (texts_of_term s.subject) (s.predicate ∷ (texts_of_term s.object ++ texts)) r.characters in
    let t2 = All-tail IsClean s.predicate (texts_of_term s.object ++ texts) t1 in
    let n1 = All-right HasLabelName (blanks_of_term s.subject) (blanks_of_term s.object ++ names) r.labels in
    record {
      subject = record {
        term = IsTerm-from_resource s.subject (r.statement).subject;
        absolute = All-left IsAbsolute (iris_of_term s.subject) (s.predicate ∷ (iris_of_term s.object ++ iris)) r.absolute;
        labels = All-left HasLabelName (blanks_of_term s.subject) (blanks_of_term s.object ++ names) r.labels;
        characters = All-left IsClean (texts_of_term s.subject) (s.predicate ∷ (texts_of_term s.object ++ texts)) r.characters;
      };
      resource = (r.statement).subject;
      absolute = All-head IsAbsolute s.predicate (iris_of_term s.object ++ iris) i1;
      clean = All-head IsClean s.predicate (texts_of_term s.object ++ texts) t1;
      object = record {
        term = (r.statement).object;
        absolute = All-left IsAbsolute (iris_of_term s.object) iris i2;
        labels = All-left HasLabelName (blanks_of_term s.object) names n1;
        characters = All-left IsClean (texts_of_term s.object) texts t2;
      };
      graph = graph_readable s.graph (r.statement).graph (All-right IsAbsolute (iris_of_term s.object) iris i2) (All-right HasLabelName (blanks_of_term s.object) names n1) (All-right IsClean (texts_of_term s.object) texts t2);
    }

statement_said : (line : List ℕ) (l : LineTexts) (s : Statement) → Shape line l → Meanings l s → WritesStatement line s × IsReadable s
statement_said line l s h m =
    let subject = resource_of-gives l.subject s.subject m.subject in
    let subject_term = term_of-gives l.subject s.subject subject.0 in
    let predicate = iri_of-gives l.predicate s.predicate m.predicate in
    let object = term_of-gives l.object s.object m.object in
    let graph = graph_named h.graph l.graph s.graph h.graph_is m.graph in (
      record {
        start = h.start;
        subject = written l.subject;
        first_gap = h.first_gap;
        predicate = in_brackets l.predicate;
        second_gap = h.second_gap;
        object = written l.object;
        graph = h.graph;
        last_gap = h.last_gap;
        end = h.end;
        is = h.is;
        gaps = h.gaps;
        subject_is = subject_term.writes;
        predicate_is = WritesIri-from l.predicate s.predicate predicate;
        object_is = object.writes;
        graph_is = graph.0;
        ends = h.ends;
      },
      readable s (record {
        subject = subject_term.readable;
        resource = subject.1;
        absolute = predicate.absolute;
        clean = predicate.clean;
        object = object.readable;
        graph = graph.1;
      }),
    )

-- what the function gives, the line says
pub line_in-gives : (line : List ℕ) (x : Option Statement) → IsUtf8 line → line_in line ≡ Some x → Says line x
unfolding line_in
line_in-gives line x u e =
    elim (took (is_end line) (Some None) (option_map (λ (s : Statement). Some s) (option_and_then statement_of (parts_in line))) (Some x) e) [
      | inl p ↦ subst (Says line) (same_Some None x p.1) (u, is_end-gives line p.0)
      | inr p ↦
          let m = option_map-Some (λ (s : Statement). Some s) (option_and_then statement_of (parts_in line)) x p.1 in
          let r = and_then-Some statement_of (parts_in line) m.0 m.1 in
          let w = statement_said line r.0 m.0 (shape_of line r.0 (steps_of line r.0 r.1)) (meanings_of r.0 m.0 r.2) in
          subst (Says line) m.2 (u, w.0, w.1)
    ]

-- ---- from the line to the function

part_first : (p : PartText) (x : List ℕ) → past_gaps (written p ++ x) ≡ written p ++ x
part_first (iri_part inner) x = refl
part_first (literal_part inner end) x = refl
part_first (blank_part label) x = refl

part_no_end : (p : PartText) (x : List ℕ) → is_comment (written p ++ x) ≡ false
part_no_end (iri_part inner) x = refl
part_no_end (literal_part inner end) x = refl
part_no_end (blank_part label) x = refl

part_no_dot : (p : PartText) (x : List ℕ) → past 46 (written p ++ x) ≡ None
part_no_dot (iri_part inner) x = refl
part_no_dot (literal_part inner end) x = refl
part_no_dot (blank_part label) x = refl

follows_gap : (gap y : List ℕ) → IsGap gap → Follows (gap ++ y)
follows_gap [] y g = absurd (g.0 refl)
follows_gap (c ∷ cs) y g = gap_follows c (cs ++ y) (All-head (λ c. is_gap c ≡ true) c cs g.1)

follows_last : (gaps end : List ℕ) → AreGaps gaps → is_end end ≡ true → Follows (gaps ++ 46 ∷ end)
follows_last [] end a e = dot_follows end e
follows_last (c ∷ cs) end a e = gap_follows c (cs ++ 46 ∷ end) (All-head (λ c. is_gap c ≡ true) c cs a)

-- what stands behind the object
record Tail (tail : List ℕ) (g : Option Term) (end : List ℕ) : Type 0 where
  part : Option PartText
  closing : closing_in tail ≡ Some (part, end)
  means : graph_of part ≡ Some g
  follows : Follows tail

no_graph_tail : (last end : List ℕ) → AreGaps last → is_end end ≡ true → Tail (last ++ 46 ∷ end) None end
unfolding closing_in
no_graph_tail last end a e = record {
  part = None;
  closing = rw (past_gaps-append last (46 ∷ end) a) refl;
  means = refl;
  follows = follows_last last end a e;
}

graph_closing : (gap : List ℕ) (p : PartText) (last end : List ℕ) → IsGap gap → IsClosed p → AreGaps last → is_end end ≡ true → closing_in (gap ++ (written p ++ (last ++ 46 ∷ end))) ≡ Some (Some p, end)
unfolding closing_in
graph_closing gap p last end g c a e =
    let rest : List ℕ = written p ++ (last ++ 46 ∷ end) in
    rw (
      past_gaps-append gap rest g.1,
      part_first p (last ++ 46 ∷ end),
      part_no_dot p (last ++ 46 ∷ end),
      past_gap-from gap rest g,
      part_first p (last ++ 46 ∷ end),
      part_in-from p (last ++ 46 ∷ end) c (follows_last last end a e),
      past_gaps-append last (46 ∷ end) a,
    ) refl

graph_tail : (gap name : List ℕ) (g : Term) (last end : List ℕ) → IsGap gap → PartOf name g → IsResource g → AreGaps last → is_end end ≡ true → Tail (gap ++ (name ++ (last ++ 46 ∷ end))) (Some g) end
graph_tail gap name g last end i p r a e = record {
  part = Some p.part;
  closing = rw p.is (graph_closing gap p.part last end i p.closed a e);
  means = ap (option_map (λ (t : Term). Some t)) (resource_of-from p.part g p.means r);
  follows = follows_gap gap (name ++ (last ++ 46 ∷ end)) i;
}

tail_of : (graph : List ℕ) (g : Option Term) (last end : List ℕ) → WritesGraph graph g → IsReadableGraph g → AreGaps last → is_end end ≡ true → Tail (graph ++ (last ++ 46 ∷ end)) g end
tail_of graph None last end w r a e = rw w (no_graph_tail last end a e)
tail_of graph (Some g) last end w r a e =
    rw (w.is, append_assoc w.gap w.name (last ++ 46 ∷ end)) (graph_tail w.gap w.name g last end w.apart (part_of w.name g w.writes r.0) r.1 a e)

right_shape : (start s g p h o graph last end : List ℕ) → start ++ s ++ g ++ p ++ h ++ o ++ graph ++ last ++ codes "." ++ end ≡ start ++ (s ++ (g ++ (p ++ (h ++ (o ++ (graph ++ (last ++ 46 ∷ end)))))))
right_shape start s g p h o graph last end = simp append_assoc

-- a line as a chain of steps: what stands behind each part
behind_o : (s : PartText) (p : List ℕ) (o : PartText) (tail : List ℕ) (g : Option Term) (end : List ℕ) (t : Tail tail g end) → is_end end ≡ true → behind_object s p o tail ≡ Some (line_texts s p o t.part)
behind_o s p o tail g end t e = rw (t.closing, e) refl

behind_p : (s : PartText) (p : List ℕ) (gap : List ℕ) (o : PartText) (tail : List ℕ) → IsGap gap → IsClosed o → Follows tail → behind_predicate s p (gap ++ (written o ++ tail)) ≡ behind_object s p o tail
behind_p s p gap o tail g c f =
    goes_on (λ (rest : List ℕ). option_and_then (λ (q : PartText × List ℕ). behind_object s p q.0 q.1) (part_in rest)) (past_gap (gap ++ (written o ++ tail))) (written o ++ tail)
    (past_gap-from gap (written o ++ tail) g ∙ ap (λ (t : List ℕ). Some t) (part_first o tail))
    ∙ goes_on (λ (q : PartText × List ℕ). behind_object s p q.0 q.1) (part_in (written o ++ tail)) (o, tail) (part_in-from o tail c f)

behind_s : (s : PartText) (gap inner rest : List ℕ) → IsGap gap → Absent 62 inner → behind_subject s (gap ++ (in_brackets inner ++ rest)) ≡ behind_predicate s inner rest
behind_s s gap inner rest g a =
    goes_on (λ (rest : List ℕ). option_and_then (λ (q : List ℕ × List ℕ). behind_predicate s q.0 q.1) (cut_iri rest)) (past_gap (gap ++ (in_brackets inner ++ rest))) (in_brackets inner ++ rest)
    (past_gap-from gap (in_brackets inner ++ rest) g)
    ∙ goes_on (λ (q : List ℕ × List ℕ). behind_predicate s q.0 q.1) (cut_iri (in_brackets inner ++ rest)) (inner, rest) (cut_iri-from inner rest a)

whole_line : (start : List ℕ) (s : PartText) (rest : List ℕ) → AreGaps start → IsClosed s → Follows rest → parts_in (start ++ (written s ++ rest)) ≡ behind_subject s rest
unfolding parts_in
whole_line start s rest a c f =
    ap (λ (t : List ℕ). option_and_then (λ (q : PartText × List ℕ). behind_subject q.0 q.1) (part_in t)) (past_gaps-append start (written s ++ rest) a ∙ part_first s rest)
    ∙ goes_on (λ (q : PartText × List ℕ). behind_subject q.0 q.1) (part_in (written s ++ rest)) (s, rest) (part_in-from s rest c f)

no_end : (start : List ℕ) (s : PartText) (rest : List ℕ) → AreGaps start → is_end (start ++ (written s ++ rest)) ≡ false
no_end start s rest a = ap is_comment (past_gaps-append start (written s ++ rest) a ∙ part_first s rest) ∙ part_no_end s rest

same_parts : (start s t g p q h o u tail : List ℕ) → s ≡ t → p ≡ q → o ≡ u → start ++ (s ++ (g ++ (p ++ (h ++ (o ++ tail))))) ≡ start ++ (t ++ (g ++ (q ++ (h ++ (u ++ tail)))))
same_parts start s t g p q h o u tail a b c = rw (a, b, c) refl

said_given : (line : List ℕ) (l : LineTexts) (s : Statement) → is_end line ≡ false → parts_in line ≡ Some l → Meanings l s → line_in line ≡ Some (Some s)
unfolding line_in
said_given line l s n p m = rw (n, p, statement_from l s m) refl

statement_given : (line : List ℕ) (s : Statement) → WritesStatement line s → IsReadable s → line_in line ≡ Some (Some s)
statement_given line s w i =
    let r = readable_parts s i in
    let subject = part_of w.subject s.subject w.subject_is r.subject in
    let object = part_of w.object s.object w.object_is r.object in
    let predicate = iri_given w.predicate s.predicate w.predicate_is r.absolute r.clean in
    let inner = (w.predicate_is).inner in
    let e = is_end-from w.end w.ends in
    let t = tail_of w.graph s.graph w.last_gap w.end w.graph_is r.graph w.gaps.3 e in
    let tail : List ℕ = w.graph ++ (w.last_gap ++ 46 ∷ w.end) in
    let rest : List ℕ = w.first_gap ++ (in_brackets inner ++ (w.second_gap ++ (written object.part ++ tail))) in
    let is : line ≡ w.start ++ (written subject.part ++ rest) =
    w.is ∙ right_shape w.start w.subject w.first_gap w.predicate w.second_gap w.object w.graph w.last_gap w.end
    ∙ same_parts w.start w.subject (written subject.part) w.first_gap w.predicate (in_brackets inner) w.second_gap w.object (written object.part) tail subject.is (w.predicate_is).is object.is in
    let parts : parts_in (w.start ++ (written subject.part ++ rest)) ≡ Some (line_texts subject.part inner object.part t.part) =
    whole_line w.start subject.part rest w.gaps.0 subject.closed (follows_gap w.first_gap (in_brackets inner ++ (w.second_gap ++ (written object.part ++ tail))) w.gaps.1)
    ∙ behind_s subject.part w.first_gap inner (w.second_gap ++ (written object.part ++ tail)) w.gaps.1 (iri_closed inner s.predicate predicate)
    ∙ behind_p subject.part inner w.second_gap object.part tail w.gaps.2 object.closed t.follows
    ∙ behind_o subject.part inner object.part tail s.graph w.end t e in
    rw is (said_given (w.start ++ (written subject.part ++ rest)) (line_texts subject.part inner object.part t.part) s
    (no_end w.start subject.part rest w.gaps.0) parts
    (record {
      subject = resource_of-from subject.part s.subject subject.means r.resource;
      predicate = iri_of-from inner s.predicate predicate;
      object = object.means;
      graph = t.means;
    }))

nothing_given : (line : List ℕ) → IsEnd line → line_in line ≡ Some None
unfolding line_in
nothing_given line e = rw (is_end-from line e) refl

-- what the line says, the function gives
pub line_in-from : (line : List ℕ) (x : Option Statement) → Says line x → line_in line ≡ Some x
line_in-from line None s = nothing_given line s.1
line_in-from line (Some t) s = statement_given line t s.1 s.2

-- a line says one thing at most
pub says_one : (line : List ℕ) (x y : Option Statement) → Says line x → Says line y → x ≡ y
says_one line x y a b = same_Some x y (sym (line_in-from line x a) ∙ line_in-from line y b)

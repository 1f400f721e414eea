-- A line has one reading, and a text made of lines is split into lines in one way.
use Rattle.std.proofs.Common.{◌≡◌, ℕ, zero, List, [], ◌∷◌, ◌++◌, All, Contains, Bool, true, false, refl, sym, ap, ap₂, ◌∙◌, arith, append_assoc, zero-lt-suc, Option, Some, None, IfSome, option_map, if◌then◌else◌, bytes_eq}
use Rattle.std.proofs.lemmas.List.Elements.{All-head, All-tail, Contains-append_left, Contains-append_right}
use Rattle.std.specs.List.{flat_map, concat}
use Rattle.nquads.specs.Terms.{Blank, Term, iri, literal, blank, Statement, HasIriCharacters, IsLabel, IsTerm, IsResource, IsStatement, xsd_string}
use Rattle.nquads.specs.Renaming.{blanks_of_term, blanks_of_graph, blanks_of, rename_term, rename}
use Rattle.nquads.specs.Spelling.{escape, iri_text, literal_end}
use Rattle.nquads.specs.Lines.{term_text, graph_text, line_text, line, with_labels, HasLabels, IsLine}
use Rattle.nquads.proofs.ReadingTexts.{apart, Absent, Absent-append, Absent-contains, Absent-from, cut_once}
use Rattle.nquads.proofs.ReadingEscapes.{quoted_absent}
use Rattle.nquads.proofs.ReadingTerms.{label_blank, iri_then, term_then, IsTerm-from_resource, same_statement, iri_absent, label_absent, language_absent}

-- ---- one line

nothing_apart : (g : Blank → List ℕ) (t : Term) (r u : List ℕ) → 46 ∷ r ≡ term_text g t ++ u → ⊥
nothing_apart g (iri x) r u e = apart 46 60 _ _ refl e
nothing_apart g (literal s x k) r u e = apart 46 34 _ _ refl e
nothing_apart g (blank b) r u e = apart 46 95 _ _ refl e

graph_then : (f g : Blank → List ℕ) (a b : Option Term) (r u : List ℕ) → IfSome a IsResource → IfSome b IsResource → ((n : Blank) → Contains (blanks_of_graph a) n → IsLabel (f n)) → ((n : Blank) → Contains (blanks_of_graph b) n → IsLabel (g n)) → graph_text f a ++ 46 ∷ r ≡ graph_text g b ++ 46 ∷ u → option_map (rename_term (label_blank f)) a ≡ option_map (rename_term (label_blank g)) b
graph_then f g None None r u i j p q e = refl
graph_then f g None (Some b) r u i j p q e = absurd (nothing_apart g b r (32 ∷ 46 ∷ u) (e ∙ append_assoc (term_text g b) (32 ∷ []) (46 ∷ u)))
graph_then f g (Some a) None r u i j p q e = absurd (nothing_apart f a u (32 ∷ 46 ∷ r) (sym e ∙ append_assoc (term_text f a) (32 ∷ []) (46 ∷ r)))
graph_then f g (Some a) (Some b) r u i j p q e =
    let whole : term_text f a ++ 32 ∷ 46 ∷ r ≡ term_text g b ++ 32 ∷ 46 ∷ u = sym (append_assoc (term_text f a) (32 ∷ []) (46 ∷ r)) ∙ e ∙ append_assoc (term_text g b) (32 ∷ []) (46 ∷ u) in
    ap (λ (t : Term). Some t) (term_then f g a b (46 ∷ r) (46 ∷ u) (IsTerm-from_resource a i) (IsTerm-from_resource b j) p q whole).0

after_object : (Blank → List ℕ) → Statement → List ℕ
after_object f s = graph_text f s.graph ++ 46 ∷ 10 ∷ []

after_predicate : (Blank → List ℕ) → Statement → List ℕ
after_predicate f s = term_text f s.object ++ 32 ∷ after_object f s

after_subject : (Blank → List ℕ) → Statement → List ℕ
after_subject f s = iri_text s.predicate ++ 32 ∷ after_predicate f s

in_parts : (f : Blank → List ℕ) (s : Statement) → line f s ≡ term_text f s.subject ++ 32 ∷ after_subject f s
unfolding after_object after_predicate after_subject
in_parts f s = simp append_assoc

-- a line has one reading
pub line_one_reading : (f g : Blank → List ℕ) (s t : Statement) → IsStatement s → IsStatement t → HasLabels f s → HasLabels g t → line f s ≡ line g t → with_labels f s ≡ with_labels g t
unfolding after_object after_predicate after_subject
line_one_reading f g s t i j p q e =
    let whole : term_text f s.subject ++ 32 ∷ after_subject f s ≡ term_text g t.subject ++ 32 ∷ after_subject g t = sym (in_parts f s) ∙ e ∙ in_parts g t in
    let subjects : (rename_term (label_blank f) s.subject ≡ rename_term (label_blank g) t.subject) × (after_subject f s ≡ after_subject g t) =
    term_then f g s.subject t.subject (after_subject f s) (after_subject g t) (IsTerm-from_resource s.subject i.subject) (IsTerm-from_resource t.subject j.subject)
    (λ b m. p b (Contains-append_left (blanks_of_term s.subject) (blanks_of_term s.object ++ blanks_of_graph s.graph) b m))
    (λ b m. q b (Contains-append_left (blanks_of_term t.subject) (blanks_of_term t.object ++ blanks_of_graph t.graph) b m)) whole in
    let predicates : (s.predicate ≡ t.predicate) × (after_predicate f s ≡ after_predicate g t) =
    iri_then s.predicate t.predicate (after_predicate f s) (after_predicate g t) i.predicate j.predicate subjects.1 in
    let objects : (rename_term (label_blank f) s.object ≡ rename_term (label_blank g) t.object) × (after_object f s ≡ after_object g t) =
    term_then f g s.object t.object (after_object f s) (after_object g t) i.object j.object
    (λ b m. p b (Contains-append_right (blanks_of_term s.subject) (blanks_of_term s.object ++ blanks_of_graph s.graph) b (Contains-append_left (blanks_of_term s.object) (blanks_of_graph s.graph) b m)))
    (λ b m. q b (Contains-append_right (blanks_of_term t.subject) (blanks_of_term t.object ++ blanks_of_graph t.graph) b (Contains-append_left (blanks_of_term t.object) (blanks_of_graph t.graph) b m))) predicates.1 in
    let graphs : option_map (rename_term (label_blank f)) s.graph ≡ option_map (rename_term (label_blank g)) t.graph =
    graph_then f g s.graph t.graph (10 ∷ []) (10 ∷ []) i.graph j.graph
    (λ b m. p b (Contains-append_right (blanks_of_term s.subject) (blanks_of_term s.object ++ blanks_of_graph s.graph) b (Contains-append_right (blanks_of_term s.object) (blanks_of_graph s.graph) b m)))
    (λ b m. q b (Contains-append_right (blanks_of_term t.subject) (blanks_of_term t.object ++ blanks_of_graph t.graph) b (Contains-append_right (blanks_of_term t.object) (blanks_of_graph t.graph) b m))) objects.1 in
    same_statement (with_labels f s) (with_labels g t) subjects.0 predicates.0 objects.0 graphs

-- ---- where no two blank nodes are sent to one, a renamed statement determines the statement

-- a blank node of the first list and one of the second are sent to one only where they are one
abbrev OneToOne : (Blank → Blank) → List Blank → List Blank → Type 0
OneToOne h xs ys = (a b : Blank) → Contains xs a → Contains ys b → h a ≡ h b → a ≡ b

term_from_renamed : (h : Blank → Blank) (s t : Term) → OneToOne h (blanks_of_term s) (blanks_of_term t) → rename_term h s ≡ rename_term h t → s ≡ t
term_from_renamed h (iri x) (iri y) p e = e
term_from_renamed h (iri x) (literal t y l) p e = absurd (cc)
term_from_renamed h (iri x) (blank b) p e = absurd (cc)
term_from_renamed h (literal s x k) (iri y) p e = absurd (cc)
term_from_renamed h (literal s x k) (literal t y l) p e = e
term_from_renamed h (literal s x k) (blank b) p e = absurd (cc)
term_from_renamed h (blank a) (iri y) p e = absurd (cc)
term_from_renamed h (blank a) (literal t y l) p e = absurd (cc)
term_from_renamed h (blank a) (blank b) p e = let same : h a ≡ h b = cc in ap blank (p a b (zero, zero-lt-suc zero, refl) (zero, zero-lt-suc zero, refl) same)

graph_from_renamed : (h : Blank → Blank) (a b : Option Term) → OneToOne h (blanks_of_graph a) (blanks_of_graph b) → option_map (rename_term h) a ≡ option_map (rename_term h) b → a ≡ b
graph_from_renamed h None None p e = refl
graph_from_renamed h None (Some b) p e = absurd (cc)
graph_from_renamed h (Some a) None p e = absurd (cc)
graph_from_renamed h (Some a) (Some b) p e =
    let same : rename_term h a ≡ rename_term h b = cc in
    ap (λ (t : Term). Some t) (term_from_renamed h a b p same)

-- a renaming that is one to one on the blank nodes of two statements tells them apart
pub statement_from_renamed : (h : Blank → Blank) (s t : Statement) → ((a b : Blank) → Contains (blanks_of s) a → Contains (blanks_of t) b → h a ≡ h b → a ≡ b) → rename h s ≡ rename h t → s ≡ t
statement_from_renamed h s t p e =
    same_statement s t
    (term_from_renamed h s.subject t.subject
    (λ a b m n. p a b (Contains-append_left (blanks_of_term s.subject) (blanks_of_term s.object ++ blanks_of_graph s.graph) a m) (Contains-append_left (blanks_of_term t.subject) (blanks_of_term t.object ++ blanks_of_graph t.graph) b n))
    (ap (λ (q : Statement). q.subject) e))
    (ap (λ (q : Statement). q.predicate) e)
    (term_from_renamed h s.object t.object
    (λ a b m n. p a b (Contains-append_right (blanks_of_term s.subject) (blanks_of_term s.object ++ blanks_of_graph s.graph) a (Contains-append_left (blanks_of_term s.object) (blanks_of_graph s.graph) a m)) (Contains-append_right (blanks_of_term t.subject) (blanks_of_term t.object ++ blanks_of_graph t.graph) b (Contains-append_left (blanks_of_term t.object) (blanks_of_graph t.graph) b n)))
    (ap (λ (q : Statement). q.object) e))
    (graph_from_renamed h s.graph t.graph
    (λ a b m n. p a b (Contains-append_right (blanks_of_term s.subject) (blanks_of_term s.object ++ blanks_of_graph s.graph) a (Contains-append_right (blanks_of_term s.object) (blanks_of_graph s.graph) a m)) (Contains-append_right (blanks_of_term t.subject) (blanks_of_term t.object ++ blanks_of_graph t.graph) b (Contains-append_right (blanks_of_term t.object) (blanks_of_graph t.graph) b n)))
    (ap (λ (q : Statement). q.graph) e))

-- labels that differ tell two statements apart by their lines
pub line_names_statement : (f : Blank → List ℕ) (s t : Statement) → IsStatement s → IsStatement t → HasLabels f s → HasLabels f t → ((a b : Blank) → Contains (blanks_of s) a → Contains (blanks_of t) b → f a ≡ f b → a ≡ b) → line f s ≡ line f t → s ≡ t
line_names_statement f s t i j p q o e = statement_from_renamed (label_blank f) s t (λ a b m n k. o a b m n (ap (λ (z : Blank). z.name) k)) (line_one_reading f f s t i j p q e)

-- ---- a line holds no other line feed

iri_text_absent : (text : List ℕ) → HasIriCharacters text → Absent 10 (iri_text text)
iri_text_absent text i = ((omega arith), Absent-append 10 text (62 ∷ []) (iri_absent 10 text refl i) ((omega arith), tt))

untagged_absent : (b : Bool) (x : List ℕ) → HasIriCharacters x → Absent 10 (if b then [] else 94 ∷ 94 ∷ iri_text x)
untagged_absent true x i = tt
untagged_absent false x i = ((omega arith), ((omega arith), iri_text_absent x i))

literal_end_absent : (s x : List ℕ) (k : Option (List ℕ)) → IsTerm (literal s x k) → Absent 10 (literal_end x k)
literal_end_absent s x None i = untagged_absent (bytes_eq x xsd_string) x i.0
literal_end_absent s x (Some k) i = ((omega arith), language_absent 10 k (omega arith) refl refl i.1.1)

term_text_absent : (f : Blank → List ℕ) (t : Term) → IsTerm t → ((b : Blank) → Contains (blanks_of_term t) b → IsLabel (f b)) → Absent 10 (term_text f t)
term_text_absent f (iri x) i p = iri_text_absent x i
term_text_absent f (literal s x k) i p =
    ((omega arith), Absent-append 10 (flat_map escape s ++ 34 ∷ []) (literal_end x k) (Absent-append 10 (flat_map escape s) (34 ∷ []) (quoted_absent s) ((omega arith), tt)) (literal_end_absent s x k i))
term_text_absent f (blank b) i p = ((omega arith), ((omega arith), label_absent 10 (f b) refl (p b (zero, zero-lt-suc zero, refl))))

graph_text_absent : (f : Blank → List ℕ) (g : Option Term) → IfSome g IsResource → ((b : Blank) → Contains (blanks_of_graph g) b → IsLabel (f b)) → Absent 10 (graph_text f g)
graph_text_absent f None i p = tt
graph_text_absent f (Some t) i p = Absent-append 10 (term_text f t) (32 ∷ []) (term_text_absent f t (IsTerm-from_resource t i) p) ((omega arith), tt)

front_of : List ℕ → List ℕ → List ℕ → List ℕ → List ℕ
front_of s p o g = s ++ (32 ∷ (p ++ (32 ∷ (o ++ (32 ∷ (g ++ (46 ∷ [])))))))

front_is : (s p o g : List ℕ) → line_text s p o g ≡ front_of s p o g ++ 10 ∷ []
unfolding front_of
front_is s p o g = simp append_assoc

front_absent : (s p o g : List ℕ) → Absent 10 s → Absent 10 p → Absent 10 o → Absent 10 g → Absent 10 (front_of s p o g)
unfolding front_of
front_absent s p o g a b c d =
    Absent-append 10 s (32 ∷ (p ++ (32 ∷ (o ++ (32 ∷ (g ++ (46 ∷ []))))))) a (
      (omega arith),
      Absent-append 10 p (32 ∷ (o ++ (32 ∷ (g ++ (46 ∷ []))))) b (
        (omega arith),
        Absent-append 10 o (32 ∷ (g ++ (46 ∷ []))) c (
          (omega arith),
          Absent-append 10 g (46 ∷ []) d ((omega arith), tt),
        ),
      ),
    )

-- a line is one line
pub IsLine-line : (f : Blank → List ℕ) (s : Statement) → IsStatement s → HasLabels f s → IsLine (line f s)
IsLine-line f s i p =
    let absent : Absent 10 (front_of (term_text f s.subject) (iri_text s.predicate) (term_text f s.object) (graph_text f s.graph)) =
    front_absent (term_text f s.subject) (iri_text s.predicate) (term_text f s.object) (graph_text f s.graph)
    (term_text_absent f s.subject (IsTerm-from_resource s.subject i.subject) (λ b m. p b (Contains-append_left (blanks_of_term s.subject) (blanks_of_term s.object ++ blanks_of_graph s.graph) b m)))
    (iri_text_absent s.predicate i.predicate)
    (term_text_absent f s.object i.object (λ b m. p b (Contains-append_right (blanks_of_term s.subject) (blanks_of_term s.object ++ blanks_of_graph s.graph) b (Contains-append_left (blanks_of_term s.object) (blanks_of_graph s.graph) b m))))
    (graph_text_absent f s.graph i.graph (λ b m. p b (Contains-append_right (blanks_of_term s.subject) (blanks_of_term s.object ++ blanks_of_graph s.graph) b (Contains-append_right (blanks_of_term s.object) (blanks_of_graph s.graph) b m)))) in
    record {
      front = front_of (term_text f s.subject) (iri_text s.predicate) (term_text f s.object) (graph_text f s.graph);
      is = front_is (term_text f s.subject) (iri_text s.predicate) (term_text f s.object) (graph_text f s.graph);
      whole = Absent-contains 10 (front_of (term_text f s.subject) (iri_text s.predicate) (term_text f s.object) (graph_text f s.graph)) absent;
    }

-- ---- a joined text has one split

line_then : (l m r u : List ℕ) → IsLine l → IsLine m → l ++ r ≡ m ++ u → (l ≡ m) × (r ≡ u)
line_then l m r u i j e =
    let left : l ++ r ≡ i.front ++ 10 ∷ r = ap (λ (t : List ℕ). t ++ r) i.is ∙ append_assoc i.front (10 ∷ []) r in
    let right : m ++ u ≡ j.front ++ 10 ∷ u = ap (λ (t : List ℕ). t ++ u) j.is ∙ append_assoc j.front (10 ∷ []) u in
    let parts : (i.front ≡ j.front) × (r ≡ u) = cut_once 10 i.front j.front r u (Absent-from 10 i.front i.whole) (Absent-from 10 j.front j.whole) (sym left ∙ e ∙ right) in
    (i.is ∙ ap (λ (t : List ℕ). t ++ 10 ∷ []) parts.0 ∙ sym j.is, parts.1)

empty_apart : (l r : List ℕ) → IsLine l → [] ≡ l ++ r → ⊥
empty_apart l r i e = front_apart i.front r (e ∙ ap (λ (t : List ℕ). t ++ r) i.is ∙ append_assoc i.front (10 ∷ []) r)
  where
    front_apart : (xs ys : List ℕ) → [] ≡ xs ++ 10 ∷ ys → ⊥
    front_apart [] ys e = cc
    front_apart (x ∷ xs) ys e = cc

-- joined lines have one split
pub one_split : (ls ms : List (List ℕ)) → All IsLine ls → All IsLine ms → concat ls ≡ concat ms → ls ≡ ms
one_split [] [] a b e = refl
one_split [] (m ∷ ms) a b e = absurd (empty_apart m (concat ms) (All-head IsLine m ms b) e)
one_split (l ∷ ls) [] a b e = absurd (empty_apart l (concat ls) (All-head IsLine l ls a) (sym e))
one_split (l ∷ ls) (m ∷ ms) a b e =
    let parts : (l ≡ m) × (concat ls ≡ concat ms) = line_then l m (concat ls) (concat ms) (All-head IsLine l ls a) (All-head IsLine m ms b) e in
    ap₂ (λ (x : List ℕ) (xs : List (List ℕ)). x ∷ xs) parts.0 (one_split ls ms (All-tail IsLine l ls a) (All-tail IsLine m ms b) parts.1)

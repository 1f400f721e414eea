-- Equal canonical texts and datasets that are the same up to the names of blank nodes.
use Rattle.std.proofs.Common.{◌≡◌, ℕ, List, ◌++◌, map, All, Contains, refl, sym, ap, ◌∙◌, subst, Option, Some, None, option_map, codes}
use Rattle.base_types.specs.Sets.{SameElements}
use Rattle.nquads.specs.Terms.{Blank, Term, iri, literal, blank, Statement, IsStatement}
use Rattle.nquads.specs.Renaming.{rename_term, rename, image, Same}
use Rattle.nquads.specs.Lines.{with_labels, HasLabels, canonical_text, LabelsDiffer}
use Rattle.base_types.proofs.Lists.{Contains-map, Contains-from_map}
use Rattle.nquads.proofs.ReadingTerms.{label_blank}
use Rattle.nquads.proofs.ReadingDatasets.{text_determines_statements}
use Rattle.std.specs.List.{concat}
use Rattle.nquads.specs.Lines.{term_text, graph_text, line_text, line}
use Rattle.nquads.specs.Spelling.{iri_text}
use Rattle.nquads.proofs.ReadingBlanks.{to_blanks_in}
use Rattle.base_types.proofs.Rising.{rising-free}
use Rattle.nquads.proofs.ReadingRenamings.{Same-from_map, Same-from_elements, Same-sym, Same-trans}

-- ---- equal canonical texts

Same-labelled : (f : Blank → List ℕ) (q : List Statement) → LabelsDiffer f q → Same q (map (with_labels f) q)
Same-labelled f q d =
    Same-from_map (label_blank f) q (map (with_labels f) q)
    (λ a b s t k. d a b (to_blanks_in q s.statement a s.within s.blank_node) (to_blanks_in q t.statement b t.within t.blank_node) (ap (λ (z : Blank). z.name) k))
    (λ t. ((λ m. m), (λ m. m)))

-- one canonical text is that of one dataset, up to blank nodes
pub text_determines_dataset : (f g : Blank → List ℕ) (q r : List Statement) → All IsStatement q → All IsStatement r → All (HasLabels f) q → All (HasLabels g) r → LabelsDiffer f q → LabelsDiffer g r → canonical_text f q ≡ canonical_text g r → Same q r
text_determines_dataset f g q r i j p n c d e =
    Same-trans q (map (with_labels f) q) r (Same-labelled f q c)
    (Same-trans (map (with_labels f) q) (map (with_labels g) r) r
    (Same-from_elements (map (with_labels f) q) (map (with_labels g) r) (text_determines_statements f g q r i j p n e))
    (Same-sym r (map (with_labels g) r) (Same-labelled g r d)))

-- ---- what a renaming does to lines

term_text-rename : (f : Blank → List ℕ) (h : Blank → Blank) (t : Term) → term_text f (rename_term h t) ≡ term_text (λ b. f (h b)) t
term_text-rename f h (iri x) = refl
term_text-rename f h (literal s x k) = refl
term_text-rename f h (blank b) = refl

graph_text-rename : (f : Blank → List ℕ) (h : Blank → Blank) (g : Option Term) → graph_text f (option_map (rename_term h) g) ≡ graph_text (λ b. f (h b)) g
graph_text-rename f h None = refl
graph_text-rename f h (Some t) = ap (λ (z : List ℕ). z ++ codes " ") (term_text-rename f h t)

-- a renamed statement's line
pub line-rename : (f : Blank → List ℕ) (h : Blank → Blank) (s : Statement) → line f (rename h s) ≡ line (λ b. f (h b)) s
line-rename f h s =
    ap (λ (z : List ℕ). line_text z (iri_text s.predicate) (term_text f (rename_term h s.object)) (graph_text f (option_map (rename_term h) s.graph))) (term_text-rename f h s.subject)
    ∙ ap (λ (z : List ℕ). line_text (term_text (λ b. f (h b)) s.subject) (iri_text s.predicate) z (graph_text f (option_map (rename_term h) s.graph))) (term_text-rename f h s.object)
    ∙ ap (λ (z : List ℕ). line_text (term_text (λ b. f (h b)) s.subject) (iri_text s.predicate) (term_text (λ b. f (h b)) s.object) z) (graph_text-rename f h s.graph)

carried : (f : Blank → List ℕ) (h : Blank → Blank) (q r : List Statement) → SameElements (map (rename h) q) r → SameElements (map (line (λ b. f (h b))) q) (map (line f) r)
carried f h q r e l = (to, fro)
  where
    to : Contains (map (line (λ b. f (h b))) q) l → Contains (map (line f) r) l
    to m =
        let found = Contains-from_map (line (λ b. f (h b))) q l m in
        let kept : Contains r (rename h found.0) = (e (rename h found.0)).0 (Contains-map (rename h) q found.0 found.1) in
        subst (λ (z : List ℕ). Contains (map (line f) r) z) (line-rename f h found.0 ∙ found.2) (Contains-map (line f) r (rename h found.0) kept)

    fro : Contains (map (line f) r) l → Contains (map (line (λ b. f (h b))) q) l
    fro m =
        let found = Contains-from_map (line f) r l m in
        let origin = Contains-from_map (rename h) q found.0 ((e found.0).1 found.1) in
        subst (λ (z : List ℕ). Contains (map (line (λ b. f (h b))) q) z) (sym (line-rename f h origin.0) ∙ ap (line f) origin.2 ∙ found.2) (Contains-map (line (λ b. f (h b))) q origin.0 origin.1)

-- a renamed dataset's canonical text
pub text_carried : (f : Blank → List ℕ) (h : Blank → Blank) (q r : List Statement) → SameElements (map (rename h) q) r → canonical_text (λ b. f (h b)) q ≡ canonical_text f r
text_carried f h q r e = ap concat (rising-free (map (line (λ b. f (h b))) q) (map (line f) r) (carried f h q r e))

-- the same dataset's canonical text
pub text_from_Same : (f : Blank → List ℕ) (q r : List Statement) (e : Same q r) → canonical_text f r ≡ canonical_text (λ b. f (image e.pairs b)) q
text_from_Same f q r e = sym (text_carried f (image e.pairs) q r e.elements)

-- a canonical text depends on the labelled statements alone
pub text_from_statements : (f g : Blank → List ℕ) (q r : List Statement) → SameElements (map (with_labels f) q) (map (with_labels g) r) → canonical_text f q ≡ canonical_text g r
text_from_statements f g q r e =
    text_carried (λ b. b.name) (label_blank f) q (map (with_labels g) r) e
    ∙ sym (text_carried (λ b. b.name) (label_blank g) r (map (with_labels g) r) (λ t. ((λ m. m), (λ m. m))))

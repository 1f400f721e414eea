-- Statements and labels by numbers, seen through the texts of the store: a label that is found by number is that
-- of the text, so the line by numbers is the line of the statement's texts.
use Rattle.std.proofs.Common.{◌≡◌, ℕ, ◌<◌, ◌==◌, List, [], ◌∷◌, ◌++◌, length, get_or, map, refl, sym, ap, ◌∙◌, Option, Some, None, option_map, unwrap_or, cond, codes, All, Contains}
use Rattle.std.specs.Option.{IfSome}
use Rattle.std.specs.List.Retain.{IsFiltered, DiffersFromLast}
use Rattle.std.specs.List.Sorted.{IsPermutation, IsSorted}
use Rattle.std.specs.Str.{bytes_eq}
use Rattle.std.specs.Cmp.Lexicographic.{slice_cmp}
use Rattle.std.specs.Ordering.{nat_cmp}
use Rattle.std.proofs.lemmas.Bool.Decides.{same_from_decides, Decides-eqb}
use Rattle.std.proofs.lemmas.List.Elements.{All-head, All-tail}
use Rattle.std.proofs.lemmas.Slice.Eq.{bytes_eq-Decides}
use Rattle.base_types.specs.Sets.{AllDiffer, SameElements}
use Rattle.base_types.proofs.Lists.{Contains-here, Contains-there, Contains-map, Contains-from_map}
use Rattle.term_store.specs.Store.{text_at, begins_blank}
use Rattle.term_store.specs.declared.store.TermId.{TermId}
use Rattle.term_store.specs.declared.statements.Quad.{Quad}
use Rattle.term_store.proofs.StoreLemmas.{ids-one, text_at-one}
use Rattle.nquads.specs.Terms.{Term, iri, literal, blank, Statement}
use Rattle.nquads.specs.Spelling.{spelling, text_quad}
use Rattle.nquads.specs.Lines.{line, canonical_lines}
use Rattle.nquads.specs.Texts.{find_label, label_text, label_in}
use Rattle.nquads.specs.Internal.TextLines.{is_blank, part_text, graph_part_text, text_line}
use Rattle.nquads.specs.Stored.{quad_texts, IsKnown, AreLabelsKnown, labels_by_text, find_number}
use Rattle.nquads.specs.Internal.Parts.{number_part, number_graph, number_line}
use Rattle.nquads.specs.declared.numbers.Label.{Label}
use Rattle.nquads.proofs.LineLemmas.{text_line-spelled, kept-canonical}

-- a spelling begins with `_:` exactly where it begins with `_`
begins_blank-spelling : (t : Term) → begins_blank (spelling t) ≡ is_blank (spelling t)
begins_blank-spelling (iri text) = refl
begins_blank-spelling (literal text datatype language) = refl
begins_blank-spelling (blank b) = refl

module _ (texts : List (List ℕ)) (differ : AllDiffer texts) where
  -- texts are compared by their numbers
  pub same_number : (a b : TermId) → a.index < length texts → b.index < length texts → bytes_eq (text_at texts a) (text_at texts b) ≡ (a.index == b.index)
  same_number a b below within =
      let by_texts = bytes_eq-Decides (text_at texts a) (text_at texts b) in
      let by_numbers = Decides-eqb a.index b.index in
      same_from_decides _ _ by_texts
      ((λ e. ap (λ n. get_or texts n []) (by_numbers.0 e)), (λ e. by_numbers.1 (text_at-one texts differ a.index b.index below within e)))

  -- the label of a number is the label of its text
  pub find_label-number : (labels : List Label) (id : TermId) → AreLabelsKnown texts labels → id.index < length texts → find_label (labels_by_text texts labels) (text_at texts id) ≡ find_number labels id.index
  find_label-number [] id known below = refl
  find_label-number (l ∷ ls) id known below =
      let same = same_number l.blank id (All-head (λ (k : Label). k.blank.index < length texts) l ls known) below in
      let rest = find_label-number ls id (All-tail (λ (k : Label). k.blank.index < length texts) l ls known) below in
      λ i. cond (same i) (Some l.text) (rest i)

  module _ (labels : List Label) (labels_known : AreLabelsKnown texts labels) where
    -- the labels by the texts of their blank nodes
    abbrev by_text : List ℕ → List ℕ
    by_text = label_text (labels_by_text texts labels)

    number_part-spelled : (id : TermId) (t : Term) → id.index < length texts → text_at texts id ≡ spelling t → number_part texts labels id ≡ part_text by_text (text_at texts id)
    number_part-spelled id t below is =
        let test : begins_blank (text_at texts id) ≡ is_blank (text_at texts id) = ap begins_blank is ∙ begins_blank-spelling t ∙ sym (ap is_blank is) in
        let found = sym (find_label-number labels id labels_known below) in
        λ i. cond (test i) (codes "_:" ++ unwrap_or (found i) []) (text_at texts id)

    number_graph-spelled : (graph : Option TermId) (g : Option Term) → IfSome graph (λ id. id.index < length texts) → option_map (text_at texts) graph ≡ option_map spelling g → number_graph texts labels graph ≡ graph_part_text by_text (option_map (text_at texts) graph)
    number_graph-spelled None g known is = refl
    number_graph-spelled (Some id) None known is = absurd (cc)
    number_graph-spelled (Some id) (Some t) known is =
        let same : text_at texts id ≡ spelling t = cc in
        ap (λ part. part ++ codes " ") (number_part-spelled id t known same)

    -- the line by numbers is the line of the texts
    pub number_line-texts : (quad : Quad) (s : Statement) → IsKnown texts quad → quad_texts texts quad ≡ text_quad s → number_line texts labels quad ≡ text_line by_text (quad_texts texts quad)
    number_line-texts quad s known is =
        let subject = number_part-spelled quad.subject s.subject known.subject (λ i. (is i).subject) in
        let object = number_part-spelled quad.object s.object known.object (λ i. (is i).object) in
        let graph = number_graph-spelled quad.graph s.graph known.graph (λ i. (is i).graph) in
        rw (subject, object, graph) refl

    -- and that of the statement
    pub number_line-spelled : (quad : Quad) (s : Statement) → IsKnown texts quad → quad_texts texts quad ≡ text_quad s → number_line texts labels quad ≡ line (label_in (labels_by_text texts labels)) s
    number_line-spelled quad s known is =
        number_line-texts quad s known is ∙ ap (text_line by_text) is ∙ text_line-spelled by_text s

    number_lines-texts : (quads : List Quad) → All (IsKnown texts) quads → ((quad : Quad) → Contains quads quad → (s : Statement) × (quad_texts texts quad ≡ text_quad s)) → map (number_line texts labels) quads ≡ map (text_line by_text) (map (quad_texts texts) quads)
    number_lines-texts [] known spelled = refl
    number_lines-texts (quad ∷ quads) known spelled =
        let s = spelled quad (Contains-here quad quads) in
        let first = number_line-texts quad s.0 (All-head (IsKnown texts) quad quads known) s.1 in
        let rest = number_lines-texts quads (All-tail (IsKnown texts) quad quads known) (λ q c. spelled q (Contains-there quad quads q c)) in
        λ i. first i ∷ rest i

    spelled_each : (quads : List Quad) (q : List Statement) → SameElements (map (quad_texts texts) quads) (map text_quad q) → (quad : Quad) → Contains quads quad → (s : Statement) × (quad_texts texts quad ≡ text_quad s)
    spelled_each quads q same quad stands =
        let s = Contains-from_map text_quad q (quad_texts texts quad) ((same (quad_texts texts quad)).0 (Contains-map (quad_texts texts) quads quad stands)) in
        (s.0, sym s.2)

    -- what a sort of all lines by numbers leaves, with equal neighbours dropped
    pub kept-numbers : (quads : List Quad) (lines up kept : List (List ℕ)) (q : List Statement) → All (IsKnown texts) quads → lines ≡ map (number_line texts labels) quads → IsPermutation lines up → IsSorted (slice_cmp nat_cmp) up → IsFiltered (DiffersFromLast bytes_eq) [] up kept → SameElements (map (quad_texts texts) quads) (map text_quad q) → kept ≡ canonical_lines (label_in (labels_by_text texts labels)) q
    kept-numbers quads lines up kept q known made moved sorted filtered same =
        let spelled = made ∙ number_lines-texts quads known (spelled_each quads q same) in
        kept-canonical by_text (map (quad_texts texts) quads) lines up kept q spelled moved sorted filtered same

-- ---- statements of one store

one_graph : (texts : List (List ℕ)) → AllDiffer texts → (a b : Option TermId) → IfSome a (λ id. id.index < length texts) → IfSome b (λ id. id.index < length texts) → option_map (text_at texts) a ≡ option_map (text_at texts) b → a ≡ b
one_graph texts differ None None below within e = refl
one_graph texts differ None (Some b) below within e = absurd (cc)
one_graph texts differ (Some a) None below within e = absurd (cc)
one_graph texts differ (Some a) (Some b) below within e = let same : text_at texts a ≡ text_at texts b = cc in ap Some (ids-one texts differ a b below within same)

-- two statements of numbers with the same four texts are one
pub one_quad : (texts : List (List ℕ)) → AllDiffer texts → (a b : Quad) → IsKnown texts a → IsKnown texts b → quad_texts texts a ≡ quad_texts texts b → a ≡ b
one_quad texts differ a b known within e =
    let subject = ids-one texts differ a.subject b.subject known.subject within.subject (λ i. (e i).subject) in
    let predicate = ids-one texts differ a.predicate b.predicate known.predicate within.predicate (λ i. (e i).predicate) in
    let object = ids-one texts differ a.object b.object known.object within.object (λ i. (e i).object) in
    let graph = one_graph texts differ a.graph b.graph known.graph within.graph (λ i. (e i).graph) in
    λ i. record { subject = subject i; predicate = predicate i; object = object i; graph = graph i }

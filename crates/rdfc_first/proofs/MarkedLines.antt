-- A line that is marked for one blank node is the line of its statement under the marks.
use Rattle.std.proofs.Common.{◌≡◌, ◌==◌, ◌<◌, ℕ, Bool, true, false, cond, List, [], ◌++◌, length, refl, sym, ap, ◌∙◌, subst, Option, Some, None, option_map, bytes_eq, codes, append_assoc}
use Rattle.std.specs.Prelude.{IfSome}
use Rattle.std.proofs.lemmas.Slice.Eq.{bytes_eq-Decides}
use Rattle.base_types.specs.Sets.{AllDiffer}
use Rattle.term_store.specs.Store.{text_at, begins_blank}
use Rattle.term_store.specs.declared.store.TermId.{TermId}
use Rattle.term_store.specs.declared.statements.Quad.{Quad}
use Rattle.nquads.specs.Terms.{Blank, Term, iri, literal, blank, Statement}
use Rattle.nquads.specs.Renaming.{same_blank}
use Rattle.nquads.specs.Spelling.{blank_text, spelling, text_quad}
use Rattle.nquads.specs.Lines.{term_text, graph_text, line, line_text}
use Rattle.nquads.specs.Stored.{IsKnown, quad_texts}
use Rattle.nquads.specs.FirstDegree.{mark}
use Rattle.nquads.proofs.ReadingTerms.{blank_text_one_reading}
use Rattle.nquads.proofs.ReadingBlanks.{same_blank-true, same_blank-itself}
use Rattle.nquads.proofs.StoredLemmas.{same_number}
use Rattle.rdfc_first.specs.Internal.Mentions.{marked_part, marked_graph, marked_line}

-- a line, put together piece by piece
pub assembled : (s p o g n s' p' o' g' space a b c d e f h i k : List ℕ) → n ≡ [] → s' ≡ s → p' ≡ p → o' ≡ o → g' ++ space ≡ g → a ≡ n ++ s' → b ≡ a ++ codes " " → c ≡ b ++ p' → d ≡ c ++ codes " " → e ≡ d ++ o' → f ≡ e ++ codes " " → h ≡ f ++ g' → i ≡ h ++ space → k ≡ i ++ codes ".\n" → k ≡ line_text s p o g
assembled s p o g n s' p' o' g' space a b c d e f h i k en es ep eo eg ea eb ec ed ee ef eh ei ek = rw (ek, ei, eh, ef, ee, ed, ec, eb, ea, en, es, ep, eo, ← eg) (simp append_assoc)

bool_iff : (a b : Bool) → (a ≡ true → b ≡ true) → (b ≡ true → a ≡ true) → a ≡ b
bool_iff true true f g = refl
bool_iff true false f g = sym (f refl)
bool_iff false true f g = g refl
bool_iff false false f g = refl

-- a blank node's text is that of one blank node
pub same_text : (n b : Blank) → bytes_eq (blank_text b) (blank_text n) ≡ same_blank n b
same_text n b =
    bool_iff (bytes_eq (blank_text b) (blank_text n)) (same_blank n b)
    (λ e. subst (λ (z : Blank). same_blank n z ≡ true) (sym (blank_text_one_reading b n ((bytes_eq-Decides (blank_text b) (blank_text n)).0 e))) (same_blank-itself n))
    (λ e. (bytes_eq-Decides (blank_text b) (blank_text n)).1 (ap blank_text (sym (same_blank-true n b e))))

marked : (t : Bool) → cond t (codes "_:a") (codes "_:z") ≡ codes "_:" ++ cond t (codes "a") (codes "z")
marked true = refl
marked false = refl

-- the number `at` has the text of the blank node n
module _ (texts : List (List ℕ)) (differ : AllDiffer texts) (at : TermId) (n : Blank) (below : at.index < length texts) (is : text_at texts at ≡ blank_text n) where
  -- another number has that text where it is the same
  pub number_is : (id : TermId) (text : List ℕ) → id.index < length texts → text_at texts id ≡ text → (id.index == at.index) ≡ bytes_eq text (blank_text n)
  number_is id text within e = sym (same_number texts differ id at within below) ∙ (λ i. bytes_eq (e i) (is i))

  part-spelled : (id : TermId) (t : Term) → id.index < length texts → text_at texts id ≡ spelling t → marked_part texts at id ≡ term_text (mark n) t
  part-spelled id (iri text) within e = ap (λ x. cond (begins_blank x) (cond (id.index == at.index) (codes "_:a") (codes "_:z")) x) e
  part-spelled id (literal text datatype language) within e = ap (λ x. cond (begins_blank x) (cond (id.index == at.index) (codes "_:a") (codes "_:z")) x) e
  part-spelled id (blank b) within e =
      let test = number_is id (blank_text b) within e ∙ same_text n b in
      ap (λ x. cond (begins_blank x) (cond (id.index == at.index) (codes "_:a") (codes "_:z")) x) e
      ∙ ap (λ t. cond t (codes "_:a") (codes "_:z")) test
      ∙ marked (same_blank n b)

  graph-spelled : (graph : Option TermId) (g : Option Term) → IfSome graph (λ id. id.index < length texts) → option_map (text_at texts) graph ≡ option_map spelling g → marked_graph texts at graph ≡ graph_text (mark n) g
  graph-spelled None None within e = refl
  graph-spelled None (Some t) within e = absurd (cc)
  graph-spelled (Some id) None within e = absurd (cc)
  graph-spelled (Some id) (Some t) within e =
      let same : text_at texts id ≡ spelling t = cc in
      ap (λ part. part ++ codes " ") (part-spelled id t within same)

  -- the line under the marks
  pub line-spelled : (quad : Quad) (s : Statement) → IsKnown texts quad → quad_texts texts quad ≡ text_quad s → marked_line texts quad at ≡ line (mark n) s
  line-spelled quad s known e =
      let subject = part-spelled quad.subject s.subject known.subject (λ i. (e i).subject) in
      let object = part-spelled quad.object s.object known.object (λ i. (e i).object) in
      let graph = graph-spelled quad.graph s.graph known.graph (λ i. (e i).graph) in
      λ i. line_text (subject i) ((e i).predicate) (object i) (graph i)

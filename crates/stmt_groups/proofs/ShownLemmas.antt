-- The text by numbers in which each blank node is `_:x` is the line of the statement without its LF.
use Rattle.std.proofs.Common.{◌≡◌, ℕ, cond, List, [], ◌++◌, refl, ap, ◌∙◌, Option, Some, None, option_map, codes, append_assoc}
use Rattle.term_store.specs.Store.{text_at, begins_blank}
use Rattle.term_store.specs.declared.store.TermId.{TermId}
use Rattle.term_store.specs.declared.statements.Quad.{Quad}
use Rattle.nquads.specs.Terms.{Term, iri, literal, blank, Statement}
use Rattle.nquads.specs.Spelling.{spelling, text_quad}
use Rattle.nquads.specs.Lines.{term_text, graph_text, line_text}
use Rattle.nquads.specs.Stored.{quad_texts}
use Rattle.stmt_groups.specs.Parts.{IsTextOf}
use Rattle.stmt_groups.specs.Internal.Shown.{shown_graph, shown_part, shown_text, shown_with}

-- a text, put together piece by piece
pub assembled : (s p o g n s' p' o' g' space a b c d e f h i k : List ℕ) → n ≡ [] → s' ≡ s → p' ≡ p → o' ≡ o → g' ++ space ≡ g → a ≡ n ++ s' → b ≡ a ++ codes " " → c ≡ b ++ p' → d ≡ c ++ codes " " → e ≡ d ++ o' → f ≡ e ++ codes " " → h ≡ f ++ g' → i ≡ h ++ space → k ≡ i ++ codes "." → k ≡ shown_with s p o g
assembled s p o g n s' p' o' g' space a b c d e f h i k en es ep eo eg ea eb ec ed ee ef eh ei ek = rw (ek, ei, eh, ef, ee, ed, ec, eb, ea, en, es, ep, eo, ← eg) (simp append_assoc)

part-shown : (texts : List (List ℕ)) (id : TermId) (t : Term) → text_at texts id ≡ spelling t → shown_part texts id ≡ term_text (λ b. codes "x") t
part-shown texts id (iri text) e = ap (λ (x : List ℕ). cond (begins_blank x) (codes "_:x") x) e
part-shown texts id (literal text datatype language) e = ap (λ (x : List ℕ). cond (begins_blank x) (codes "_:x") x) e
part-shown texts id (blank b) e = ap (λ (x : List ℕ). cond (begins_blank x) (codes "_:x") x) e

graph-shown : (texts : List (List ℕ)) (graph : Option TermId) (g : Option Term) → option_map (text_at texts) graph ≡ option_map spelling g → shown_graph texts graph ≡ graph_text (λ b. codes "x") g
graph-shown texts None None e = refl
graph-shown texts None (Some t) e = absurd (cc)
graph-shown texts (Some id) None e = absurd (cc)
graph-shown texts (Some id) (Some t) e =
    let same : text_at texts id ≡ spelling t = cc in
    ap (λ (part : List ℕ). part ++ codes " ") (part-shown texts id t same)

with_end : (s p o g : List ℕ) → shown_with s p o g ++ codes "\n" ≡ line_text s p o g
with_end s p o g = append_assoc (s ++ codes " " ++ p ++ codes " " ++ o ++ codes " " ++ g) (codes ".") (codes "\n")

-- the text is that of the statement
pub is_its_text : (texts : List (List ℕ)) (quad : Quad) (s : Statement) → quad_texts texts quad ≡ text_quad s → IsTextOf s (shown_text texts quad)
is_its_text texts quad s e =
    let subject = part-shown texts quad.subject s.subject (λ i. (e i).subject) in
    let object = part-shown texts quad.object s.object (λ i. (e i).object) in
    let graph = graph-shown texts quad.graph s.graph (λ i. (e i).graph) in
    with_end (shown_part texts quad.subject) (text_at texts quad.predicate) (shown_part texts quad.object) (shown_graph texts quad.graph)
    ∙ (λ i. line_text (subject i) ((e i).predicate) (object i) (graph i))

-- Statements of numbers as the store grows: each keeps its texts, and what is added to a list stays to be read.
use Rattle.std.proofs.Common.{◌≡◌, ℕ, ◌<◌, ◌+◌, List, [], ◌∷◌, ◌++◌, length, map, refl, sym, ap, ◌∙◌, Option, Some, None, option_map, append_assoc, append-nil, arith, All}
use Rattle.std.specs.Option.{IfSome}
use Rattle.std.proofs.lemmas.List.{map-append, length-append}
use Rattle.std.proofs.lemmas.List.Elements.{All-head, All-tail, All-weaker, All-push}
use Rattle.term_store.specs.Store.{text_at, Grows}
use Rattle.term_store.specs.declared.store.TermId.{TermId}
use Rattle.term_store.specs.declared.statements.Quad.{Quad}
use Rattle.term_store.proofs.StoreLemmas.{Grows-refl, Grows-trans, text_at-Grows}
use Rattle.nquads.specs.Stored.{quad_texts, IsKnown, Adds}
use Rattle.nquads.specs.declared.quads.TextQuad.{TextQuad}

module _ (old new : List (List ℕ)) (g : Grows old new) where
  -- a number of a store stays one
  pub below-Grows : (n : ℕ) → n < length old → n < length new
  below-Grows n below =
      let long : length new ≡ length old + length g.rest = ap length g.is ∙ length-append old g.rest in
      omega arith

  known_graph : (graph : Option TermId) → IfSome graph (λ id. id.index < length old) → IfSome graph (λ id. id.index < length new)
  known_graph None known = tt
  known_graph (Some id) known = below-Grows id.index known

  -- a known statement stays known
  pub IsKnown-Grows : (quad : Quad) → IsKnown old quad → IsKnown new quad
  IsKnown-Grows quad known = record {
    subject = below-Grows quad.subject.index known.subject;
    predicate = below-Grows quad.predicate.index known.predicate;
    object = below-Grows quad.object.index known.object;
    graph = known_graph quad.graph known.graph;
  }

  graph_text : (graph : Option TermId) → IfSome graph (λ id. id.index < length old) → option_map (text_at new) graph ≡ option_map (text_at old) graph
  graph_text None known = refl
  graph_text (Some id) known = ap Some (text_at-Grows old new id g known)

  -- and keeps its four texts
  pub quad_texts-Grows : (quad : Quad) → IsKnown old quad → quad_texts new quad ≡ quad_texts old quad
  quad_texts-Grows quad known =
      let subject = text_at-Grows old new quad.subject g known.subject in
      let predicate = text_at-Grows old new quad.predicate g known.predicate in
      let object = text_at-Grows old new quad.object g known.object in
      let graph = graph_text quad.graph known.graph in
      λ i. record { subject = subject i; predicate = predicate i; object = object i; graph = graph i }

  -- so do known statements
  pub all_known-Grows : (quads : List Quad) → All (IsKnown old) quads → All (IsKnown new) quads
  all_known-Grows quads known = All-weaker (IsKnown old) (IsKnown new) IsKnown-Grows quads known

  -- the texts of known statements stay
  pub all_texts-Grows : (quads : List Quad) → All (IsKnown old) quads → map (quad_texts new) quads ≡ map (quad_texts old) quads
  all_texts-Grows [] known = refl
  all_texts-Grows (quad ∷ quads) known =
      let first = quad_texts-Grows quad (All-head (IsKnown old) quad quads known) in
      let rest = all_texts-Grows quads (All-tail (IsKnown old) quad quads known) in
      λ i. first i ∷ rest i

-- where the store grew and nothing was put in, nothing is added
pub Adds-none : (before after : List (List ℕ)) (old : List Quad) → Grows before after → All (IsKnown before) old → Adds before after old old []
Adds-none before after old g known = record {
  grows = g;
  known = all_known-Grows before after g old known;
  texts = all_texts-Grows before after g old known ∙ sym (append-nil _);
}

-- nothing is added at first
pub Adds-refl : (texts : List (List ℕ)) (old : List Quad) → All (IsKnown texts) old → Adds texts texts old old []
Adds-refl texts old known = Adds-none texts texts old (Grows-refl texts) known

-- what is added first, and then what is added next
pub Adds-trans : (before between after : List (List ℕ)) (old mid new : List Quad) (first next : List TextQuad) → Adds before between old mid first → Adds between after mid new next → Adds before after old new (first ++ next)
Adds-trans before between after old mid new first next a b = record {
  grows = Grows-trans before between after a.grows b.grows;
  known = b.known;
  texts = b.texts ∙ ap (λ l. l ++ next) a.texts ∙ append_assoc _ first next;
}

-- a statement that is put last adds its four texts
pub Adds-one : (before after : List (List ℕ)) (old : List Quad) (quad : Quad) → Grows before after → All (IsKnown before) old → IsKnown after quad → Adds before after old (old ++ quad ∷ []) (quad_texts after quad ∷ [])
Adds-one before after old quad g known is = record {
  grows = g;
  known = All-push (IsKnown after) old quad (all_known-Grows before after g old known) is;
  texts = map-append (quad_texts after) old (quad ∷ []) ∙ ap (λ l. l ++ quad_texts after quad ∷ []) (all_texts-Grows before after g old known);
}

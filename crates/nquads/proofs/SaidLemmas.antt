-- What the code tells of a line.
use Rattle.std.proofs.Common.{◌≡◌, ℕ, List, Option, Some, None, Result, Ok, Err, IfOk, option_map, refl, sym, ap, ◌∙◌}
use Rattle.std.specs.Str.{IsUtf8}
use Rattle.std.proofs.lemmas.Option.{none-some}
use Rattle.base_types.specs.declared.memory.Memory.{Memory}
use Rattle.nquads.specs.Terms.{Term, Statement}
use Rattle.nquads.specs.Spelling.{iri_text, spelling, text_quad}
use Rattle.nquads.specs.Internal.Parsing.{LineTexts, iri_of, term_of, resource_of, graph_of, statement_of, line_in}
use Rattle.nquads.specs.Internal.Lines.{IsSaid, SaysSo}
use Rattle.nquads.specs.declared.line.Said.{Said}
use Rattle.nquads.specs.declared.line.Said.TheVariants as said
use Rattle.nquads.specs.declared.quads.TextQuad.{TextQuad}
use Rattle.nquads.proofs.MeaningLemmas.{nothing_read, something_read}
use Rattle.nquads.proofs.WholeLines.{line_in-gives, line_in-from}

-- ---- a statement by its parts

-- a text that was found, and is what a part means
pub found : {X Y : Type 0} (f : X → Y) (o : Option X) (v : Option Y) (y : Y) → v ≡ Some y → v ≡ option_map f o → Some y ≡ option_map f o
found f o v y e h = sym e ∙ h

abbrev spelled_graph : Option Term → Option (List ℕ)
spelled_graph t = option_map spelling t

abbrev quad_of : List ℕ → List ℕ → List ℕ → Option (List ℕ) → TextQuad
quad_of s p o g = record { subject = s; predicate = p; object = o; graph = g }

-- the object means nothing
pub no_object : (l : LineTexts) (s p : List ℕ) → Some s ≡ option_map spelling (resource_of l.subject) → Some p ≡ option_map iri_text (iri_of l.predicate) → None ≡ option_map spelling (term_of l.object) → None ≡ option_map text_quad (statement_of l)
unfolding statement_of
no_object l s p a b c =
    let x = something_read spelling (resource_of l.subject) s a in
    let y = something_read iri_text (iri_of l.predicate) p b in
    let z = nothing_read spelling (term_of l.object) c in
    rw (x.1, y.1, z) refl

-- the graph means nothing
pub no_graph : (l : LineTexts) (s p o : List ℕ) → Some s ≡ option_map spelling (resource_of l.subject) → Some p ≡ option_map iri_text (iri_of l.predicate) → Some o ≡ option_map spelling (term_of l.object) → None ≡ option_map spelled_graph (graph_of l.graph) → None ≡ option_map text_quad (statement_of l)
unfolding statement_of
no_graph l s p o a b c d =
    let x = something_read spelling (resource_of l.subject) s a in
    let y = something_read iri_text (iri_of l.predicate) p b in
    let z = something_read spelling (term_of l.object) o c in
    let w = nothing_read spelled_graph (graph_of l.graph) d in
    rw (x.1, y.1, z.1, w) refl

-- all four parts mean something
pub quad_made : (l : LineTexts) (s p o : List ℕ) (g : Option (List ℕ)) → Some s ≡ option_map spelling (resource_of l.subject) → Some p ≡ option_map iri_text (iri_of l.predicate) → Some o ≡ option_map spelling (term_of l.object) → Some g ≡ option_map spelled_graph (graph_of l.graph) → Some (quad_of s p o g) ≡ option_map text_quad (statement_of l)
unfolding statement_of
quad_made l s p o g a b c d =
    let x = something_read spelling (resource_of l.subject) s a in
    let y = something_read iri_text (iri_of l.predicate) p b in
    let z = something_read spelling (term_of l.object) o c in
    let w = something_read spelled_graph (graph_of l.graph) g d in
    rw (x.1, y.1, z.1, w.1) (same s (spelling x.0) p (iri_text y.0) o (spelling z.0) g (spelled_graph w.0) x.2 y.2 z.2 w.2)
  where
    same : (s t p q o u : List ℕ) (g h : Option (List ℕ)) → s ≡ t → p ≡ q → o ≡ u → g ≡ h → Some (quad_of s p o g) ≡ Some (quad_of t q u h)
    same s t p q o u g h a b c d = λ i. Some (quad_of (a i) (b i) (c i) (d i))

-- ---- a line

said_is : (line : List ℕ) → IsUtf8 line → (x : Option (Option Statement)) (s : Said) → line_in line ≡ x → IsSaid x s → SaysSo line s
said_is line u None said.Bad e h = λ x says. none-some x (sym e ∙ line_in-from line x says)
said_is line u (Some None) said.Nothing e h = line_in-gives line None u e
said_is line u (Some (Some t)) (said.Statement quad) e h = (t, line_in-gives line (Some t) u e, h)
said_is line u None said.Nothing e h = absurd h
said_is line u None (said.Statement quad) e h = absurd h
said_is line u (Some None) said.Bad e h = absurd h
said_is line u (Some None) (said.Statement quad) e h = absurd h
said_is line u (Some (Some t)) said.Bad e h = absurd h
said_is line u (Some (Some t)) said.Nothing e h = absurd h

-- what was told of a line that is UTF-8 is what it says
pub said_so : (line text : List ℕ) (r : Result Said Memory) → text ≡ line → IsUtf8 line → IfOk r (IsSaid (line_in text)) → IfOk r (SaysSo line)
said_so line text (Ok s) same u h = said_is line u (line_in text) s (ap line_in (sym same)) h
said_so line text (Err m) same u h = tt

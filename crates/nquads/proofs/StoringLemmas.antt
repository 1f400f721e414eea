-- What is kept of a line, by the numbers of a store.
use Rattle.std.proofs.Common.{◌≡◌, ℕ, ◌<◌, ◌≤◌, List, [], ◌∷◌, ◌++◌, length, map, All, Contains, Option, Some, None, IfSome, option_map, refl, sym, ap, ◌∙◌, subst, arith}
use Rattle.std.proofs.lemmas.List.{map-append}
use Rattle.std.proofs.lemmas.List.Elements.{All-push, All-contains, All-weaker}
use Rattle.base_types.specs.Sets.{AllDiffer, SameElements}
use Rattle.base_types.proofs.Lists.{SameElements-map}
use Rattle.term_store.specs.Store.{text_at, Grows, Interns}
use Rattle.term_store.specs.declared.store.TermId.{TermId}
use Rattle.term_store.specs.declared.statements.Quad.{Quad}
use Rattle.term_store.proofs.StoreLemmas.{Grows-trans, text_at-Grows, Grows-Interns, within-Interns, text_at-Interns}
use Rattle.nquads.specs.Spelling.{text_quad}
use Rattle.nquads.specs.Stored.{quad_texts, IsKnown}
use Rattle.nquads.specs.declared.fault.NqFault.{NqFault}
use Rattle.nquads.specs.declared.fault.NqFault.TheVariants.{At, TooManyStatements, TooManyBlanks, Memory}
use Rattle.nquads.specs.declared.line.Said.TheVariants as said
use Rattle.nquads.specs.declared.quads.TextQuad.{TextQuad}
use Rattle.nquads.specs.Internal.Lines.{SaysSo}
use Rattle.nquads.specs.Internal.Storing.{IsGraphAt, IsQuadAt, HasMoreQuads, AreTooMany, KeepsLine, IsLineFault}
use Rattle.nquads.proofs.ReadingElements.{All-from_contains}

-- ---- lists of numbers

-- a copy of a set that holds the same
pub settled_same : {X : Type 0} (kept slice set quads : List X) → kept ≡ slice → slice ≡ set → SameElements set quads → SameElements kept quads
settled_same kept slice set quads a b h = subst (λ xs. SameElements xs quads) (sym (a ∙ b)) h

-- all elements of a list that holds the same
pub All-same_elements : {X : Type 0} (P : X → Type 0) (xs ys : List X) → SameElements xs ys → All P ys → All P xs
All-same_elements P xs ys s a = All-from_contains P xs (λ x m. All-contains P ys x a ((s x).0 m))

-- a set that is too large
pub more_quads : (set quads : List Quad) (n : ℕ) → SameElements set quads → AllDiffer set → n ≡ length set → 20000 < n → HasMoreQuads quads 20000
more_quads set quads n s d e l = record {
  some = set;
  differ = d;
  more = omega (arith, e, l);
  among = All-from_contains (Contains quads) set (λ x m. (s x).0 m);
}

-- ---- growth

-- a part's number stays known
kept_index : (old new : List (List ℕ)) (id : TermId) → Grows old new → id.index < length old → id.index < length new
kept_index old new id g l = longer old new id.index g.rest g.is l
  where
    length_of : (xs ys : List (List ℕ)) → length xs ≤ length (xs ++ ys)
    length_of [] ys = omega arith
    length_of (x ∷ xs) ys = let h = length_of xs ys in omega arith

    longer : (old new : List (List ℕ)) (n : ℕ) (rest : List (List ℕ)) → new ≡ old ++ rest → n < length old → n < length new
    longer old new n rest e l = let h = length_of old rest in subst (λ (t : List (List ℕ)). n < length t) (sym e) (omega (arith, h, l))

graph_kept : (old new : List (List ℕ)) (g : Option TermId) → Grows old new → IfSome g (λ g. g.index < length old) → IfSome g (λ g. g.index < length new)
graph_kept old new None w l = tt
graph_kept old new (Some id) w l = kept_index old new id w l

-- a statement stays known as the store grows
pub IsKnown-Grows : (old new : List (List ℕ)) (q : Quad) → Grows old new → IsKnown old q → IsKnown new q
IsKnown-Grows old new q g k = record {
  subject = kept_index old new q.subject g k.subject;
  predicate = kept_index old new q.predicate g k.predicate;
  object = kept_index old new q.object g k.object;
  graph = graph_kept old new q.graph g k.graph;
}

graph_texts : (old new : List (List ℕ)) (g : Option TermId) → Grows old new → IfSome g (λ g. g.index < length old) → option_map (text_at new) g ≡ option_map (text_at old) g
graph_texts old new None w l = refl
graph_texts old new (Some id) w l = ap (λ (t : List ℕ). Some t) (text_at-Grows old new id w l)

-- and keeps its texts
pub quad_texts-Grows : (old new : List (List ℕ)) (q : Quad) → Grows old new → IsKnown old q → quad_texts new q ≡ quad_texts old q
quad_texts-Grows old new q g k =
    let a = text_at-Grows old new q.subject g k.subject in
    let b = text_at-Grows old new q.predicate g k.predicate in
    let d = text_at-Grows old new q.object g k.object in
    let e = graph_texts old new q.graph g k.graph in
    λ i. record { subject = a i; predicate = b i; object = d i; graph = e i }

-- ---- a statement that is put in

abbrev pub quad_of : TermId → TermId → TermId → Option TermId → Quad
quad_of s p o g = record { subject = s; predicate = p; object = o; graph = g }

record KeptText (texts : List (List ℕ)) (text : List ℕ) (id : TermId) : Type 0 where
  within : id.index < length texts
  is : text_at texts id ≡ text

kept_text : (old mid new : List (List ℕ)) (text : List ℕ) (id : TermId) → Interns old text id.index mid → Grows mid new → KeptText new text id
kept_text old mid new text id i g =
    let l = within-Interns old mid text id.index i in
    record { within = kept_index mid new id g l; is = text_at-Grows mid new id g l ∙ text_at-Interns old mid text id i }

-- the four parts, one after another
pub quad_kept : (a b d e f : List (List ℕ)) (q : TextQuad) (s p o : TermId) (g : Option TermId) (x y z : List ℕ) → x ≡ q.subject → y ≡ q.predicate → z ≡ q.object → Interns a x s.index b → Interns b y p.index d → Interns d z o.index e → Grows e f → IsGraphAt f q.graph g → IsQuadAt f q (quad_of s p o g)
quad_kept a b d e f q s p o g x y z ex ey ez is ip io w h =
    let w2 = Grows-trans d e f (Grows-Interns d e z o.index io) w in
    let w3 = Grows-trans b d f (Grows-Interns b d y p.index ip) w2 in
    let ks = kept_text a b f x s is w3 in
    let kp = kept_text b d f y p ip w2 in
    let ko = kept_text d e f z o io w in
    let ts : text_at f s ≡ q.subject = ks.is ∙ ex in
    let tp : text_at f p ≡ q.predicate = kp.is ∙ ey in
    let to : text_at f o ≡ q.object = ko.is ∙ ez in
    let tg : option_map (text_at f) g ≡ q.graph = h.0 in (
      record { subject = ks.within; predicate = kp.within; object = ko.within; graph = h.1 },
      λ i. record { subject = ts i; predicate = tp i; object = to i; graph = tg i },
    )

-- ---- a line that is kept

known_with : (old new : List (List ℕ)) (quads : List Quad) (quad : Quad) → Grows old new → All (IsKnown old) quads → IsKnown new quad → All (IsKnown new) (quads ++ quad ∷ [])
known_with old new quads quad g a k = All-push (IsKnown new) quads quad (All-weaker (IsKnown old) (IsKnown new) (λ q l. IsKnown-Grows old new q g l) quads a) k

-- a statement that was said, with its numbers
pub line_kept : (line : List ℕ) (old new : List (List ℕ)) (quads all : List Quad) (quad : Quad) (text : TextQuad) → Grows old new → All (IsKnown old) quads → IsQuadAt new text quad → SaysSo line (said.Statement text) → SameElements all (quads ++ quad ∷ []) → KeepsLine line new quads all
line_kept line old new quads all quad text g a k s same =
    let known = known_with old new quads quad g a k.0 in
    let last : map (quad_texts new) (quads ++ quad ∷ []) ≡ map (quad_texts new) quads ++ text_quad s.0 ∷ [] =
    map-append (quad_texts new) quads (quad ∷ []) ∙ ap (λ (t : TextQuad). map (quad_texts new) quads ++ t ∷ []) (k.1 ∙ s.2) in
    record {
      said = Some s.0;
      says = s.1;
      known = All-same_elements (IsKnown new) all (quads ++ quad ∷ []) same known;
      same = subst (SameElements (map (quad_texts new) all)) last (SameElements-map (quad_texts new) all (quads ++ quad ∷ []) same);
    }

-- one that is too much
pub line_fault : (line : List ℕ) (at : ℕ) (old new : List (List ℕ)) (quads : List Quad) (quad : Quad) (text : TextQuad) → Grows old new → AllDiffer new → All (IsKnown old) quads → IsQuadAt new text quad → SaysSo line (said.Statement text) → (e : NqFault) → AreTooMany (quads ++ quad ∷ []) e → IsLineFault line at new quads e
line_fault line at old new quads quad text g d a k s (At n) h = absurd h
line_fault line at old new quads quad text g d a k s (TooManyStatements n) h = (h.0, record { statement = s.0; says = s.1; quad = quad; differ = d; known = known_with old new quads quad g a k.0; is = k.1 ∙ s.2; more = h.1 })
line_fault line at old new quads quad text g d a k s (TooManyBlanks n) h = absurd h
line_fault line at old new quads quad text g d a k s Memory h = tt

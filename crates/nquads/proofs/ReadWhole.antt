-- What is read of a text, and why it is not, from its kept statements.
use Rattle.std.proofs.Common.{◌≡◌, ℕ, List, map, Contains, sym, ◌∙◌, arith}
use Rattle.std.proofs.lemmas.List.Elements.{All-contains}
use Rattle.base_types.specs.Sets.{AllDiffer}
use Rattle.base_types.proofs.Lists.{Contains-map, Contains-from_map, SameElements-map, SameElements-trans}
use Rattle.term_store.specs.declared.statements.Quad.{Quad}
use Rattle.nquads.specs.Terms.{Statement}
use Rattle.nquads.specs.Spelling.{text_quad}
use Rattle.nquads.specs.Stored.{quad_texts, IsKnown}
use Rattle.nquads.specs.Reading.{StandsInText, HasMoreStatements}
use Rattle.nquads.specs.declared.fault.NqFault.{NqFault}
use Rattle.nquads.specs.declared.fault.NqFault.TheVariants.{At, TooManyStatements, TooManyBlanks, Memory}
use Rattle.nquads.specs.Internal.Storing.{HasMoreQuads, IsSet, IsSetFault, KeepsText, IsReadOf, IsReadFault, IsTextFault}
use Rattle.nquads.proofs.ReadingElements.{All-from_contains}
use Rattle.nquads.proofs.Choices.{choose, zip_length, zip_differ, zip_all}
use Rattle.nquads.proofs.StoringLemmas.{All-same_elements}
use Rattle.nquads.proofs.StoredLemmas.{one_quad}
use Rattle.nquads.proofs.CountedBlanks.{few_blanks, more_blanks}

-- a text that is kept, as a set
pub read_of : (bytes : List ℕ) (texts : List (List ℕ)) (all quads : List Quad) → KeepsText bytes texts all → IsSet texts all quads → IsReadOf bytes texts quads
read_of bytes texts all quads k s =
    let same = SameElements-trans (map (quad_texts texts) quads) (map (quad_texts texts) all) (map text_quad k.dataset) (SameElements-map (quad_texts texts) quads all s.same) k.same in
    record {
      known = All-same_elements (IsKnown texts) quads all s.same k.known;
      dataset = k.dataset;
      says = k.says;
      same = same;
      few = s.few;
      few_blanks = few_blanks bytes texts quads k.dataset s.ids k.says same s.ids_same s.few_ids;
    }

-- why a text is not kept is why it is not read
pub text_not_read : (bytes : List ℕ) (e : NqFault) → IsTextFault bytes e → IsReadFault bytes e
text_not_read bytes (At n) f = f
text_not_read bytes (TooManyStatements n) f = f
text_not_read bytes (TooManyBlanks n) f = absurd f
text_not_read bytes Memory f = tt

abbrev IsSaid : List ℕ → List (List ℕ) → Quad → Statement → Type 0
IsSaid bytes texts q s = IsKnown texts q × (text_quad s ≡ quad_texts texts q) × StandsInText bytes s

more_statements : (bytes : List ℕ) (texts : List (List ℕ)) (all : List Quad) → AllDiffer texts → KeepsText bytes texts all → HasMoreQuads all 20000 → HasMoreStatements bytes 20000
more_statements bytes texts all d k m =
    let c = choose (IsSaid bytes texts) m.some (All-from_contains (λ q. (s : Statement) × IsSaid bytes texts q s) m.some said) in
    let size = zip_length (IsSaid bytes texts) m.some c.0 c.1 in
    let many = m.more in
    record {
      some = c.0;
      differ = zip_differ (IsSaid bytes texts) (λ p q s a b. one_quad texts d p q a.0 b.0 (sym a.1 ∙ b.1)) m.some c.0 c.1 m.differ;
      more = omega (arith, size, many);
      stand = zip_all (IsSaid bytes texts) (StandsInText bytes) (λ q s a. a.2) m.some c.0 c.1;
    }
  where
    said : (q : Quad) → Contains m.some q → (s : Statement) × IsSaid bytes texts q s
    said q n =
        let there = All-contains (Contains all) m.some q m.among n in
        let r = Contains-from_map text_quad k.dataset (quad_texts texts q) ((k.same (quad_texts texts q)).0 (Contains-map (quad_texts texts) all q there)) in
        (r.0, (All-contains (IsKnown texts) all q k.known there, r.2, (k.says).statements r.0 r.1))

-- nor is one whose statements are no set
pub set_not_read : (bytes : List ℕ) (texts : List (List ℕ)) (all : List Quad) → AllDiffer texts → KeepsText bytes texts all → (e : NqFault) → IsSetFault texts all e → IsReadFault bytes e
set_not_read bytes texts all d k (At n) f = absurd f
set_not_read bytes texts all d k (TooManyStatements n) f = (f.0, more_statements bytes texts all d k f.1)
set_not_read bytes texts all d k (TooManyBlanks n) f = (f.0, more_blanks bytes texts all k.dataset d k.known k.says k.same f.1)
set_not_read bytes texts all d k Memory f = tt

-- The line of a spelled statement is the statement's line, and a sort of all lines, with equal
-- neighbours dropped, gives the canonical lines.
use Rattle.std.proofs.Common.{◌≡◌, ℕ, List, [], ◌∷◌, ◌++◌, map, refl, sym, ap, ◌∙◌, Option, Some, None, append_assoc, append-nil, option_map, ◌+◌, ◌<◌, length, get_or, take, codes}
use Rattle.std.specs.List.{concat}
use Rattle.std.specs.List.Retain.{IsFiltered, DiffersFromLast}
use Rattle.std.specs.List.Sorted.{IsPermutation, IsSorted}
use Rattle.std.specs.Str.{bytes_eq}
use Rattle.std.specs.Cmp.Lexicographic.{slice_cmp}
use Rattle.std.specs.Ordering.{nat_cmp}
use Rattle.std.proofs.lemmas.List.Filters.{dedup_is}
use Rattle.std.proofs.lemmas.List.{take_more}
use Rattle.base_types.specs.Order.{sorted_set}
use Rattle.base_types.specs.Sets.{SameElements}
use Rattle.base_types.proofs.Lists.{SameElements-map}
use Rattle.base_types.proofs.Rising.{rising-dedup, rising-free}
use Rattle.nquads.specs.Terms.{Term, iri, literal, blank, Statement}
use Rattle.nquads.specs.Spelling.{spelling, blank_text, text_quad}
use Rattle.nquads.specs.Lines.{term_text, graph_text, line, line_text, canonical_lines}
use Rattle.nquads.specs.Internal.TextLines.{part_text, graph_part_text, text_line}
use Rattle.nquads.specs.declared.quads.TextQuad.{TextQuad}

module _ (label : List ℕ → List ℕ) where
  part_text-spelling : (t : Term) → part_text label (spelling t) ≡ term_text (λ b. label (blank_text b)) t
  part_text-spelling (iri text) = refl
  part_text-spelling (literal text datatype language) = refl
  part_text-spelling (blank b) = refl

  graph_part_text-spelling : (g : Option Term) → graph_part_text label (option_map spelling g) ≡ graph_text (λ b. label (blank_text b)) g
  graph_part_text-spelling None = refl
  graph_part_text-spelling (Some g) = ap (λ t. t ++ codes " ") (part_text-spelling g)

  -- the line of a statement's texts is the statement's line
  pub text_line-spelled : (s : Statement) → text_line label (text_quad s) ≡ line (λ b. label (blank_text b)) s
  text_line-spelled s = rw (part_text-spelling s.subject, part_text-spelling s.object, graph_part_text-spelling s.graph) refl

  text_lines-spelled : (q : List Statement) → map (text_line label) (map text_quad q) ≡ map (line (λ b. label (blank_text b))) q
  text_lines-spelled [] = refl
  text_lines-spelled (s ∷ ss) = let first = text_line-spelled s in let rest = text_lines-spelled ss in λ i. first i ∷ rest i

  rising-text_lines : (quads : List TextQuad) (q : List Statement) → SameElements quads (map text_quad q) → sorted_set (map (text_line label) quads) ≡ canonical_lines (λ b. label (blank_text b)) q
  rising-text_lines quads q same =
      rising-free (map (text_line label) quads) (map (text_line label) (map text_quad q)) (SameElements-map (text_line label) quads (map text_quad q) same)
      ∙ ap sorted_set (text_lines-spelled q)

  -- what a sort of all lines leaves, with equal neighbours dropped
  pub kept-canonical : (quads : List TextQuad) (lines up kept : List (List ℕ)) (q : List Statement) → lines ≡ map (text_line label) quads → IsPermutation lines up → IsSorted (slice_cmp nat_cmp) up → IsFiltered (DiffersFromLast bytes_eq) [] up kept → SameElements quads (map text_quad q) → kept ≡ canonical_lines (λ b. label (blank_text b)) q
  kept-canonical quads lines up kept q made moved sorted filtered same =
      dedup_is bytes_eq up kept filtered ∙ rising-dedup lines up moved sorted ∙ ap sorted_set made ∙ rising-text_lines quads q same

-- a text at the end of joined texts
pub concat-push : (lines : List (List ℕ)) (l : List ℕ) → concat (lines ++ l ∷ []) ≡ concat lines ++ l
concat-push [] l = append-nil l
concat-push (m ∷ ms) l = ap (λ t. m ++ t) (concat-push ms l) ∙ sym (append_assoc m (concat ms) l)

-- the same for the next text of a list
pub concat-more : (lines : List (List ℕ)) (i : ℕ) (l : List ℕ) → i < length lines → l ≡ get_or lines i l → concat (take (i + 1) lines) ≡ concat (take i lines) ++ l
concat-more lines i l in' is = ap concat (take_more lines i l in' ∙ ap (λ m. take i lines ++ m ∷ []) (sym is)) ∙ concat-push (take i lines) l

-- a line, put together piece by piece
pub assembled : (label : List ℕ → List ℕ) (quad : TextQuad) (n p a b c d e f g h : List ℕ) → n ≡ [] → a ≡ n ++ part_text label quad.subject → b ≡ a ++ codes " " → p ≡ quad.predicate → c ≡ b ++ p → d ≡ c ++ codes " " → e ≡ d ++ part_text label quad.object → f ≡ e ++ codes " " → g ≡ f ++ graph_part_text label quad.graph → h ≡ g ++ codes ".\n" → h ≡ text_line label quad
assembled label quad n p a b c d e f g h en ea eb ep ec ed ee ef eg eh = rw (eh, eg, ef, ee, ed, ec, ep, eb, ea, en) (simp append_assoc)

-- the same, where each part comes with the space behind it
pub assembled-parts : (s p o g n s' p' o' g' a b c d e h : List ℕ) → n ≡ [] → a ≡ n ++ s' → s' ≡ s ++ codes " " → b ≡ a ++ p' → p' ≡ p → c ≡ b ++ codes " " → d ≡ c ++ o' → o' ≡ o ++ codes " " → e ≡ d ++ g' → g' ≡ g → h ≡ e ++ codes ".\n" → h ≡ line_text s p o g
assembled-parts s p o g n s' p' o' g' a b c d e h en ea es eb ep ec ed eo ee eg eh = rw (eh, ee, eg, ed, eo, ec, eb, ep, ea, es, en) (simp append_assoc)

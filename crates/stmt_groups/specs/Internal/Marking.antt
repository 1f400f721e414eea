-- What marking answers in the numbers of a store.
use Rattle.std.specs.Prelude.{◌≡◌, ◌⊎◌, ◌↔◌, ℕ, List, [], true, All, Contains, Option, Some, None, Result, Ok, Err, map}
use Rattle.std.specs.Cmp.Lexicographic.{slice_cmp}
use Rattle.std.specs.Ordering.{nat_cmp, ord_min}
use Rattle.base_types.specs.Order.{is_upto}
use Rattle.base_types.specs.Sets.{HasExactly}
use Rattle.term_store.specs.declared.statements.Quad.{Quad}
use Rattle.stmt_groups.specs.declared.fault.PartFault.{PartFault}
use Rattle.stmt_groups.specs.declared.fault.PartFault.TheVariants.{NotPart, Memory}
use Rattle.stmt_groups.specs.declared.marking.Mark.{Mark}
use Rattle.stmt_groups.specs.Parts.{AreParts, IsMarked, IsStray, Parts, marked_quads}
use Rattle.stmt_groups.specs.Internal.Shown.{shown_text}

-- the new list has what the old one has, and the elements of which P holds
abbrev pub Gains : List Quad → List Quad → (Quad → Type 0) → Type 0
Gains old new P = (q : Quad) → Contains new q ↔ (Contains old q ⊎ P q)

-- the lesser of a text and one that was kept, where one was
abbrev pub lesser_of : Option (List ℕ) → List ℕ → List ℕ
lesser_of None text = text
lesser_of (Some kept) text = ord_min (slice_cmp nat_cmp) kept text

-- the least of the texts, where there is one
abbrev pub IsLeastOf : List (List ℕ) → Option (List ℕ) → Type 0
IsLeastOf texts None = texts ≡ []
IsLeastOf texts (Some text) = Contains texts text × All (λ t. is_upto text t ≡ true) texts

-- the mark says what its statement is among these parts
abbrev pub IsMarkIn : Parts Quad → Mark → Type 0
IsMarkIn p m = IsMarked p m.quad m.mandatory m.chosen

-- the statements that are out of place, and the least of their texts
pub record IsLeastStray (texts : List (List ℕ)) (p : Parts Quad) (text : List ℕ) : Type 0 where
  pub strays : List Quad
  pub exact : HasExactly strays (IsStray p)
  pub least : IsLeastOf (map (shown_text texts) strays) (Some text)

-- the marks of the whole, in its order, or the least text of what is out of place
abbrev pub MarksNumbers : List (List ℕ) → Parts Quad → Result (List Mark) PartFault → Type 0
MarksNumbers texts p (Ok marks) =
    (marked_quads marks ≡ p.whole) × All (IsMarkIn p) marks × AreParts p
MarksNumbers texts p (Err (NotPart text)) = IsLeastStray texts p text
MarksNumbers texts p (Err Memory) = Unit {0}

-- A dataset and two parts of it, what marks say of its statements, and which statements are out of
-- place. Data Integrity ECDSA Cryptosuites 1.0, canonicalizeAndGroup.
use Rattle.std.specs.Prelude.{◌≡◌, ◌⊎◌, ◌↔◌, ◌++◌, ℕ, List, Bool, true, All, Contains, Result, Ok, Err, codes, map}
use Rattle.base_types.specs.Order.{is_upto}
use Rattle.base_types.specs.Sets.{SameElements}
use Rattle.term_store.specs.declared.statements.Quad.{Quad}
use Rattle.nquads.specs.Terms.{IsStatement, Statement}
use Rattle.nquads.specs.Spelling.{text_quad}
use Rattle.nquads.specs.Lines.{line}
use Rattle.nquads.specs.Stored.{quad_texts}
use Rattle.stmt_groups.specs.declared.fault.PartFault.{PartFault}
use Rattle.stmt_groups.specs.declared.fault.PartFault.TheVariants.{NotPart, Memory}
use Rattle.stmt_groups.specs.declared.marking.Mark.{Mark}

-- ---- parts

-- A list that stands for a set, the part of it that is mandatory, and the part that is chosen to be
-- shown. Over any kind of element, so that one definition serves statements and the numbers by
-- which a store has them.
pub record Parts (X : Type 0) : Type 0 where
  pub whole : List X
  pub mandatory : List X
  pub chosen : List X

-- these three lists
abbrev pub parts_of : {X : Type 0} → List X → List X → List X → Parts X
parts_of whole mandatory chosen =
    record { whole = whole; mandatory = mandatory; chosen = chosen }

-- Both parts are parts of the whole, and what is mandatory is chosen.
pub record AreParts {X : Type 0} (p : Parts X) : Type 0 where
  pub mandatory_in_whole : All (Contains p.whole) p.mandatory
  pub chosen_in_whole : All (Contains p.whole) p.chosen
  pub mandatory_chosen : All (Contains p.chosen) p.mandatory

-- the element stands in the first list and not in the second
abbrev pub IsMissing : {X : Type 0} → List X → List X → X → Type 0
IsMissing part whole x = Contains part x × (Contains whole x → ⊥)

-- The element is out of place: one of the parts has it and the whole does not, or it is mandatory
-- and not chosen.
abbrev pub IsStray : {X : Type 0} → Parts X → X → Type 0
IsStray p x =
    IsMissing p.mandatory p.whole x
    ⊎ (IsMissing p.chosen p.whole x ⊎ IsMissing p.mandatory p.chosen x)

-- ---- statements of a store

-- Statements by the numbers of a store stand for a dataset: they have the texts of its statements,
-- and these are well formed.
pub record StandFor (texts : List (List ℕ)) (quads : List Quad) (q : List Statement) : Type 0 where
  pub same : SameElements (map (quad_texts texts) quads) (map text_quad q)
  pub well_formed : All IsStatement q

-- each of the three lists stands for the one of these parts
pub record StandForParts (texts : List (List ℕ)) (numbers : Parts Quad) (p : Parts Statement)
    : Type 0 where
  pub whole : StandFor texts numbers.whole p.whole
  pub mandatory : StandFor texts numbers.mandatory p.mandatory
  pub chosen : StandFor texts numbers.chosen p.chosen

-- ---- marks

-- The tests say of the element whether it is mandatory, and whether it is chosen.
pub record IsMarked {X : Type 0} (p : Parts X) (x : X) (mandatory chosen : Bool) : Type 0 where
  pub is_mandatory : (mandatory ≡ true) ↔ Contains p.mandatory x
  pub is_chosen : (chosen ≡ true) ↔ Contains p.chosen x

-- the statements that are marked, by their numbers
abbrev pub marked_quads : List Mark → List Quad
marked_quads marks = map (λ (m : Mark). m.quad) marks

-- The mark is of the statement, and says what it is.
pub record IsMarkOf (texts : List (List ℕ)) (p : Parts Statement) (s : Statement) (m : Mark)
    : Type 0 where
  pub spelled : quad_texts texts m.quad ≡ text_quad s
  pub says : IsMarked p s m.mandatory m.chosen

-- Each mark is of a statement of the whole, and each statement of the whole has one.
pub record AreMarks (texts : List (List ℕ)) (p : Parts Statement) (marks : List Mark)
    : Type 0 where
  pub each : (m : Mark) → Contains marks m
      → (s : Statement) × Contains p.whole s × IsMarkOf texts p s m
  pub every : (s : Statement) → Contains p.whole s
      → (m : Mark) × Contains marks m × IsMarkOf texts p s m

-- ---- what is out of place

-- The text is that of the statement: its line, in which each blank node is `_:x`, without the LF.
-- RDF Canonicalization, the canonical form of N-Quads
abbrev pub IsTextOf : Statement → List ℕ → Type 0
IsTextOf s text = text ++ codes "\n" ≡ line (λ b. codes "x") s

-- It is the text of a statement that is out of place.
pub record IsStrayText (p : Parts Statement) (text : List ℕ) : Type 0 where
  pub statement : Statement
  pub stray : IsStray p statement
  pub text_is : IsTextOf statement text

-- It is the least of the texts of which P holds, in code-point order.
pub record IsLeast (P : List ℕ → Type 0) (text : List ℕ) : Type 0 where
  pub one_of : P text
  pub least : (other : List ℕ) → P other → is_upto text other ≡ true

-- ---- outcomes

-- Each outcome has its own case, and the cases exclude one another; out of memory is free.
abbrev pub MarksParts : List (List ℕ) → Parts Statement → Result (List Mark) PartFault → Type 0
MarksParts texts p (Ok marks) = AreMarks texts p marks × AreParts p
MarksParts texts p (Err (NotPart text)) = IsLeast (IsStrayText p) text
MarksParts texts p (Err Memory) = Unit {0}

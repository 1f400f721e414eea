-- Marked lines by blank node.
use Rattle.std.specs.Prelude.{◌≡◌, ◌==◌, ◌≤◌, ℕ, suc, true, List, [], ◌∷◌, Contains, map, filter, if◌then◌else◌}
use Rattle.std.specs.List.{concat, AllByRecursion}
use Rattle.std.specs.List.Sorted.{IsStrictlySortedBy}
use Rattle.std.specs.Ordering.{nat_cmp}
use Rattle.base_types.specs.Order.{is_upto}
use Rattle.base_types.specs.Sets.{HasExactly}
use Rattle.term_store.specs.declared.store.TermId.{TermId}
use Rattle.nquads.specs.declared.hashes.BlankHash.{BlankHash}
use Rattle.rdfc_first.specs.declared.mentions.MentionLine.{MentionLine}

-- a blank node, by its number, with a hash
abbrev pub blank_hash : TermId → List ℕ → BlankHash
blank_hash blank hash = record { blank = blank; hash = hash }

-- the lines of one blank node
abbrev pub lines_for : TermId → List MentionLine → List (List ℕ)
lines_for blank lines =
    map (λ (m : MentionLine). m.line)
    (filter (λ (m : MentionLine). m.blank.index == blank.index) lines)

-- it is a blank node that has lines, with the digest of these
abbrev pub IsHashOf : (List ℕ → List ℕ) → List MentionLine → BlankHash → Type 0
IsHashOf digest lines h =
    Contains (map (λ (m : MentionLine). m.blank) lines) h.blank
    × (h.hash ≡ digest (concat (lines_for h.blank lines)))

-- Each blank node that has lines, with the digest of these, in the order of the numbers.
pub record AreHashesOf (digest : List ℕ → List ℕ) (lines : List MentionLine)
    (hashes : List BlankHash) : Type 0 where
  pub rise : IsStrictlySortedBy nat_cmp (map (λ (h : BlankHash). h.blank.index) hashes)
  pub exact : HasExactly hashes (IsHashOf digest lines)

-- of two lines the first is of a blank node that comes before, or they are of one and in order
pub record IsUptoLine (first second : MentionLine) : Type 0 where
  pub blanks : first.blank.index ≤ second.blank.index
  pub lines : first.blank.index ≡ second.blank.index → is_upto first.line second.line ≡ true

-- each line is up to those after it
abbrev pub InBlankOrder : List MentionLine → Type 0
InBlankOrder [] = Unit {0}
InBlankOrder (m ∷ ms) = AllByRecursion (IsUptoLine m) ms × InBlankOrder ms

-- how many of the first lines are those of the blank node
abbrev pub run_of : TermId → List MentionLine → ℕ
run_of blank [] = 0
run_of blank (m ∷ ms) = if m.blank.index == blank.index then suc (run_of blank ms) else 0

-- JSON Pointers: the tokens that a text spells, and the first byte where it leaves the grammar.
-- RFC 6901, section 3.
use Rattle.std.specs.Prelude.{◌≡◌, ◌≤◌, ℕ, List, [], ◌∷◌, map, drop, Bool, true, false, not, ◌==◌, ◌||◌, ◌&&◌, Result, Ok, Err}
use Rattle.json_tree.specs.declared.place.Step.TheVariants.{Key}
use Rattle.json_tree.specs.Places.{pointer_of}
use Rattle.pointer_select.specs.declared.fault.PointerFault.{PointerFault}
use Rattle.pointer_select.specs.declared.fault.PointerFault.TheVariants.{BadPointer, Memory}

-- The text of a pointer with these tokens: each after a `/`, with `~` as `~0` and `/` as `~1`.
abbrev pub pointer_with : List (List ℕ) → List ℕ
pointer_with tokens = pointer_of (map Key tokens)

-- whether a text begins with `0` or `1`
abbrev pub ends_escape : List ℕ → Bool
ends_escape [] = false
ends_escape (c ∷ cs) = c == 48 || c == 49

-- whether a text begins with a `~` that neither `0` nor `1` follows
abbrev pub is_bad_escape : List ℕ → Bool
is_bad_escape [] = false
is_bad_escape (c ∷ cs) = c == 126 && not (ends_escape cs)

-- whether a text begins with another character than `/`
abbrev pub begins_otherwise : List ℕ → Bool
begins_otherwise [] = false
begins_otherwise (c ∷ cs) = not (c == 47)

-- A text leaves the grammar at a byte: at the first, where it is no `/`, and at each `~` that
-- neither `0` nor `1` follows.
pub data LeavesAt (text : List ℕ) (at : ℕ) : Type 0 where
  start : at ≡ 0 → begins_otherwise text ≡ true → LeavesAt text at
  escape : is_bad_escape (drop at text) ≡ true → LeavesAt text at

-- The first byte at which it does.
pub record LeavesFirstAt (text : List ℕ) (at : ℕ) : Type 0 where
  pub leaves : LeavesAt text at
  pub first : (other : ℕ) → LeavesAt text other → at ≤ other

-- Each outcome of reading a pointer has its own case, and the cases exclude one another; out of
-- memory is free.
abbrev pub ReadsPointer : List ℕ → Result (List (List ℕ)) PointerFault → Type 0
ReadsPointer text (Ok tokens) = text ≡ pointer_with tokens
ReadsPointer text (Err (BadPointer at)) = LeavesFirstAt text at
ReadsPointer text (Err Memory) = Unit {0}

-- The lines of a text from left to right, and what the code tells of one line.
use Rattle.std.specs.Prelude.{◌≡◌, ◌==◌, ℕ, List, [], ◌∷◌, Option, Some, None, if◌then◌else◌}
use Rattle.nquads.specs.Terms.{Statement}
use Rattle.nquads.specs.Spelling.{text_quad}
use Rattle.nquads.specs.Reading.{Says, is_line_end}
use Rattle.nquads.specs.declared.line.Said.{Said}
use Rattle.nquads.specs.declared.line.Said.TheVariants as said

-- the bytes before the first LF or CR
abbrev pub first_line : List ℕ → List ℕ
first_line [] = []
first_line (c ∷ cs) = if is_line_end c then [] else c ∷ first_line cs

-- that and what follows it
abbrev pub line_tail : List ℕ → List ℕ
line_tail [] = []
line_tail (c ∷ cs) = if is_line_end c then c ∷ cs else line_tail cs

-- what follows an LF in front
abbrev pub past_feed : List ℕ → List ℕ
past_feed [] = []
past_feed (c ∷ cs) = if c == 10 then cs else c ∷ cs

-- what follows the end of a line, where it has one
abbrev pub past_line_end : List ℕ → Option (List ℕ)
past_line_end [] = None
past_line_end (c ∷ cs) = if c == 13 then Some (past_feed cs) else Some cs

-- what follows the first line and its end
abbrev pub after_line : List ℕ → Option (List ℕ)
after_line text = past_line_end (line_tail text)

-- what was told is what the line was read as
abbrev pub IsSaid : Option (Option Statement) → Said → Type 0
IsSaid None said.Bad = Unit {0}
IsSaid (Some None) said.Nothing = Unit {0}
IsSaid (Some (Some s)) (said.Statement quad) = quad ≡ text_quad s
IsSaid x y = ⊥

-- what was told is what the line says
abbrev pub SaysSo : List ℕ → Said → Type 0
SaysSo line said.Bad = (x : Option Statement) → Says line x → ⊥
SaysSo line said.Nothing = Says line None
SaysSo line (said.Statement quad) = (s : Statement) × Says line (Some s) × (quad ≡ text_quad s)

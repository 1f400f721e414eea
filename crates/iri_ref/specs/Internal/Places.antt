-- Where a text is split, as a number of bytes.
use Rattle.std.specs.Prelude.{ℕ, List, [], ◌∷◌, ◌==◌, Option, None, suc, option_map, position}

-- the place of the first colon after the first character
abbrev pub colon_place : List ℕ → Option ℕ
colon_place [] = None
colon_place (b ∷ bs) = option_map suc (position (λ c. c == 58) bs)

-- Noncharacters byte by byte, and plain IRIs in the grammar of IRIs.
use Rattle.std.proofs.Common.{◌≡◌, ℕ, ◌+◌, ◌<◌, true, false, ◌||◌, List, [], ◌∷◌, length, get_or, drop, sym, ap, ◌∙◌, add-one, drop-cons}
use Rattle.ld_rdf.specs.Plain.{is_noncharacter_first, has_noncharacter}

-- a text that begins with a noncharacter holds one
pub noncharacter_here : (xs : List ℕ) → is_noncharacter_first xs ≡ true → has_noncharacter xs ≡ true
noncharacter_here [] h = absurd (cc)
noncharacter_here (x ∷ xs) h = rw h

-- past a byte where none begins it holds one exactly where the rest does
pub noncharacter_later : (xs : List ℕ) (at : ℕ) → at < length xs → is_noncharacter_first (drop at xs) ≡ false → has_noncharacter (drop at xs) ≡ has_noncharacter (drop (at + 1) xs)
noncharacter_later xs at within h =
    let split : drop at xs ≡ get_or xs at 0 ∷ drop (at + 1) xs = rw (add-one, drop-cons xs at 0) in
    let first : is_noncharacter_first (get_or xs at 0 ∷ drop (at + 1) xs) ≡ false = ap is_noncharacter_first (sym split) ∙ h in
    ap has_noncharacter split ∙ ap (λ b. b || has_noncharacter (drop (at + 1) xs)) first

pub ruleset noncharacter_steps = (noncharacter_here, noncharacter_later)

-- A character past ASCII is written as it is: none of its bytes is escaped.
use Rattle.std.proofs.Common.{◌≡◌, ◌≢◌, ℕ, ◌≤◌, List, [], ◌∷◌, refl, ap, arith, Bool, true, false, ltb, encode_utf8}
use Rattle.std.specs.List.{flat_map, AllByRecursion}
use Rattle.std.proofs.lemmas.Bool.Decides.{nat_tests}
use lib.Utf8.{encode}
use Rattle.base_types.proofs.Utf8.{encode-wide, encode-narrow}
use Rattle.nquads.specs.Spelling.{escape}

-- a byte that is no control, quote, backslash or U+007F is written as it is
pub escape-other : (c : ℕ) → 32 ≤ c → c ≢ 34 → c ≢ 92 → c ≢ 127 → escape c ≡ c ∷ []
escape-other c a b d e = grind (arith, nat_tests)

-- so are bytes past ASCII
pub escapes-other : (bytes : List ℕ) → AllByRecursion (λ c. 128 ≤ c) bytes → flat_map escape bytes ≡ bytes
escapes-other [] all = refl
escapes-other (c ∷ cs) all = rw (escape-other c (omega arith) (omega arith) (omega arith) (omega arith)) (ap (λ xs. c ∷ xs) (escapes-other cs all.1))

-- so is a character that is none of these
pub escape-encode : (c : ℕ) → 32 ≤ c → c ≢ 34 → c ≢ 92 → c ≢ 127 → flat_map escape (encode_utf8 c) ≡ encode_utf8 c
escape-encode c a b d e = go (ltb c 128) refl
  where
    go : (t : Bool) → ltb c 128 ≡ t → flat_map escape (encode c) ≡ encode c
    go true f = rw (encode-narrow c f, escape-other c a b d e) refl
    go false f = escapes-other (encode c) (encode-wide c f)

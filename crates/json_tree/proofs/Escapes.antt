-- A character past ASCII is written as it is: none of its bytes is escaped.
use Rattle.std.proofs.Common.{◌≡◌, ◌≢◌, ℕ, ◌≤◌, List, [], ◌∷◌, refl, ap, arith, Bool, true, false, ltb, encode_utf8}
use Rattle.std.specs.List.{flat_map, AllByRecursion}
use Rattle.std.proofs.lemmas.Bool.Decides.{nat_tests}
use lib.Utf8.{encode}
use Rattle.json_tree.specs.Places.{escaped}
use Rattle.base_types.proofs.Utf8.{encode-wide, encode-narrow}

-- a character that is neither `~` nor `/` stands for itself
pub escaped-other : (c : ℕ) → c ≢ 126 → c ≢ 47 → escaped c ≡ c ∷ []
escaped-other c a b = grind (arith, nat_tests)

-- bytes of 128 and above stand for themselves
pub escaped-others : (bytes : List ℕ) → AllByRecursion (λ c. 128 ≤ c) bytes → flat_map escaped bytes ≡ bytes
escaped-others [] all = refl
escaped-others (c ∷ cs) all = rw (escaped-other c (omega arith) (omega arith)) (ap (λ xs. c ∷ xs) (escaped-others cs all.1))

-- the UTF-8 of a character that is neither `~` nor `/` stands for itself
pub escaped-encode : (c : ℕ) → c ≢ 126 → c ≢ 47 → flat_map escaped (encode_utf8 c) ≡ encode_utf8 c
escaped-encode c a b = go (ltb c 128) refl
  where
    go : (t : Bool) → ltb c 128 ≡ t → flat_map escaped (encode c) ≡ encode c
    go true f = rw (encode-narrow c f, escaped-other c a b) refl
    go false f = escaped-others (encode c) (encode-wide c f)

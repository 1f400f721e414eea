-- The five parts of a list.
use Rattle.std.proofs.Common.{◌≡◌, List, [], ◌∷◌, length, get_or, Some, None, refl, arith}
use Rattle.cbor_core.specs.declared.item.Item.{Item}
use Rattle.proof_cbor.specs.Internal.Reading.{five_items}

-- a list of length five is its items at the five places
pub five_is : (xs : List Item) (a b c d e : Item) → length xs ≡ 5 → a ≡ get_or xs 0 a → b ≡ get_or xs 1 b → c ≡ get_or xs 2 c → d ≡ get_or xs 3 d → e ≡ get_or xs 4 e → five_items xs ≡ Some (a, b, c, d, e)
five_is [] a b c d e n ea eb ec ed ee = absurd (omega arith)
five_is (p ∷ []) a b c d e n ea eb ec ed ee = absurd (omega arith)
five_is (p ∷ q ∷ []) a b c d e n ea eb ec ed ee = absurd (omega arith)
five_is (p ∷ q ∷ r ∷ []) a b c d e n ea eb ec ed ee = absurd (omega arith)
five_is (p ∷ q ∷ r ∷ s ∷ []) a b c d e n ea eb ec ed ee = absurd (omega arith)
five_is (p ∷ q ∷ r ∷ s ∷ t ∷ []) a b c d e n ea eb ec ed ee = cc
five_is (p ∷ q ∷ r ∷ s ∷ t ∷ u ∷ xs) a b c d e n ea eb ec ed ee = absurd (omega arith)

-- a list of any other length is no five items
pub five_not : (xs : List Item) → (length xs ≡ 5 → ⊥) → five_items xs ≡ None
five_not [] n = refl
five_not (p ∷ []) n = refl
five_not (p ∷ q ∷ []) n = refl
five_not (p ∷ q ∷ r ∷ []) n = refl
five_not (p ∷ q ∷ r ∷ s ∷ []) n = refl
five_not (p ∷ q ∷ r ∷ s ∷ t ∷ []) n = absurd (n refl)
five_not (p ∷ q ∷ r ∷ s ∷ t ∷ u ∷ xs) n = refl

pub ruleset five_steps = (five_is, five_not)

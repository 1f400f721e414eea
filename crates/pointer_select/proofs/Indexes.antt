-- The element that a token names, by its index in the present order.
use Rattle.std.proofs.Common.{◌≡◌, ◌<◌, ◌+◌, ◌^◌, ℕ, zero, suc, List, [], ◌∷◌, length, slice_get, Bool, true, false, if◌then◌else◌, Some, None, refl, sym, ap, ◌∙◌, arith, decimal}
use Rattle.std.specs.Str.{bytes_eq}
use Rattle.std.proofs.lemmas.Fmt.{decimal_injective}
use Rattle.base_types.proofs.Orders.{bytes_eq-same, bytes_eq-false}
use Rattle.json_tree.specs.declared.tree.Tree.{Tree}
use Rattle.json_tree.specs.declared.tree.Item.{Item}
use Rattle.pointer_select.specs.Naming.{element_from}

named_here : (n : ℕ) (token : List ℕ) (i : Item Tree) (is : List (Item Tree)) → bytes_eq (decimal n) token ≡ true → element_from n token (i ∷ is) ≡ Some i
named_here n token i is h = ap (λ (b : Bool). if b then Some i else element_from (n + 1) token is) h

named_later : (n : ℕ) (token : List ℕ) (i : Item Tree) (is : List (Item Tree)) → bytes_eq (decimal n) token ≡ false → element_from n token (i ∷ is) ≡ element_from (n + 1) token is
named_later n token i is h = ap (λ (b : Bool). if b then Some i else element_from (n + 1) token is) h

-- a decimal index names the element that stands there
pub element-decimal : (n k : ℕ) (items : List (Item Tree)) → n + length items < 2 ^ 64 → n + k < 2 ^ 64 → element_from n (decimal (n + k)) items ≡ slice_get items k
element-decimal n k [] short small = refl
element-decimal n zero (i ∷ is) short small =
    let e : n ≡ n + 0 = omega arith in
    named_here n (decimal (n + 0)) i is (bytes_eq-same (decimal n) (decimal (n + 0)) (ap decimal e))
element-decimal n (suc k) (i ∷ is) short small =
    let e : n + suc k ≡ (n + 1) + k = omega arith in
    let other : bytes_eq (decimal n) (decimal (n + suc k)) ≡ false = bytes_eq-false (decimal n) (decimal (n + suc k)) (λ same. let one : n ≡ n + suc k = decimal_injective n (n + suc k) (omega arith) (omega arith) same in omega arith) in
    named_later n (decimal (n + suc k)) i is other ∙ ap (λ (m : ℕ). element_from (n + 1) (decimal m) is) e ∙ element-decimal (n + 1) k is (omega arith) (omega arith)

-- a token that is no decimal index names none
pub element-none : (n : ℕ) (token : List ℕ) (items : List (Item Tree)) → n + length items < 2 ^ 64 → ((m : ℕ) → m < 2 ^ 64 → token ≡ decimal m → ⊥) → element_from n token items ≡ None
element-none n token [] short none = refl
element-none n token (i ∷ is) short none =
    named_later n token i is (bytes_eq-false (decimal n) token (λ same. none n (omega arith) (sym same)))
    ∙ element-none (n + 1) token is (omega arith) none

-- Lists whose indexes rise, in std's words on numbers.
use Rattle.std.proofs.Common.{◌≡◌, ℕ, true, Bool, ◌==◌, nat_lt, List, ap, sym, ◌∙◌, arith}
use Rattle.std.specs.Ordering.{nat_cmp, is_lt, eq_by_cmp}
use Rattle.std.proofs.lemmas.Bool.Decides.{nat_tests}
use Rattle.base_types.proofs.Numbers.{nat_lt-cmp}
use Rattle.json_tree.specs.declared.tree.Tree.{Tree}
use Rattle.json_tree.specs.declared.tree.Item.{Item}
use Rattle.json_tree.specs.Trees.{each_next}

-- equal numbers are those that compare equal
pub index_ties : (x y : ℕ) → (x == y) ≡ eq_by_cmp nat_cmp x y
index_ties x y = grind (arith, nat_tests)

-- indexes that rise, by std's comparison
pub indexes_rise : (items : List (Item Tree)) → each_next (λ i j. nat_lt i.at j.at) items ≡ true → each_next (λ i j. is_lt (nat_cmp i.at j.at)) items ≡ true
indexes_rise items h = ap (λ (test : Item Tree → Item Tree → Bool). each_next test items) (λ k i j. sym (nat_lt-cmp i.at j.at) k) ∙ h

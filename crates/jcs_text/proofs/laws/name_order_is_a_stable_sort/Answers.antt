use Rattle.json_tree.specs.declared.tree.Tree.{Tree}
use Rattle.json_tree.specs.declared.tree.Member.{Member}
use Rattle.jcs_text.proofs.NameOrders.{is_earlier, sorted-in_order, order-ordered, order-stable, order-permutation}
use Rattle.jcs_text.proofs.laws.name_order_is_a_stable_sort.Goals as goal

pub returns : goal.returns
returns c = record {
  moves = λ ms. order-permutation (λ (m : Member Tree). m.key) ms;
  sorted = λ ms. sorted-in_order (is_earlier (λ (m : Member Tree). m.key)) _ (order-ordered (λ (m : Member Tree). m.key) ms);
  stable = λ ms. order-stable (λ (m : Member Tree). m.key) ms;
}

use Rattle.std.proofs.Common.{◌≡◌, ◌==◌, ℕ, List, true, ◌∷◌, Some, option_map, find, refl, ◌∙◌, arith}
use Rattle.std.proofs.lemmas.Bool.Decides.{nat_tests}
use Rattle.json_tree.specs.declared.tree.Tree.{Tree}
use Rattle.json_tree.specs.declared.tree.Item.{Item}
use Rattle.json_tree.specs.declared.tree.Member.{Member}
use Rattle.json_tree.specs.declared.place.Step.TheVariants.{Key, At}
use Rattle.json_tree.specs.Places.{value_of}
use Rattle.json_tree.specs.Trees.{element, new_member}
use Rattle.json_tree.proofs.Kept.{look-one}
use Rattle.base_types.proofs.Orders.{bytes_eq-same}
use Rattle.json_tree.proofs.TreeLemmas.{child_of-Object-Key, child_of-List-At}
use Rattle.json_tree.proofs.laws.the_first_stands_at_a_step.Goals as goal

first_member : (key : List ℕ) (value : Tree) (others : List (Member Tree)) → value_of key (new_member key value ∷ others) ≡ Some value
first_member key value others = rw (bytes_eq-same key key refl) refl

first_element : (at : ℕ) (value : Tree) (others : List (Item Tree)) → option_map (λ i. i.value) (find (λ i. i.at == at) (element at value ∷ others)) ≡ Some value
first_element at value others = let same : (at == at) ≡ true = grind (arith, nat_tests) in rw same refl

pub returns-clause-member : goal.returns-clause-member
returns-clause-member c = λ key value others. look-one _ (Key key) ∙ child_of-Object-Key _ key ∙ first_member key value others

pub returns-clause-element : goal.returns-clause-element
returns-clause-element c = λ at value others. look-one _ (At at) ∙ child_of-List-At _ at ∙ first_element at value others

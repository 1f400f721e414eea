use Rattle.std.proofs.Common.{[], ◌∷◌, codes, option_map, ap, sym, ◌∙◌}
use Rattle.json_tree.specs.declared.tree.Item.{Item}
use Rattle.json_tree.specs.declared.tree.Tree.{Tree}
use Rattle.json_tree.specs.declared.place.Step.TheVariants.{Key, At}
use Rattle.json_tree.specs.Places.{below}
use Rattle.json_tree.proofs.TreeLemmas.{child_of-Object-Key, child_of-List-At}
use Rattle.pointer_select.proofs.Names.{next_named, list_step, object_step}
use Rattle.pointer_select.proofs.Rows.{first_of_two, second_of_two, four_of_two, zero_one_of_two, dash_of_two, last_named, last_nothing}
use Rattle.pointer_select.proofs.laws.worked_places.Goals as goal

pub returns-clause-element : goal.returns-clause-element
returns-clause-element c =
    next_named _ _ (codes "foo") (codes "1" ∷ []) (Key (codes "foo")) (sym (object_step _ (codes "foo"))) (child_of-Object-Key _ (codes "foo"))
    ∙ ap (below (Key (codes "foo"))) (last_named _ _ (codes "1") (At 1) (list_step _ (codes "1") ∙ ap (option_map (λ (i : Item Tree). At i.at)) (second_of_two _ _)) (child_of-List-At _ 1))

pub returns-clause-slash : goal.returns-clause-slash
returns-clause-slash c = last_named _ _ (codes "a/b") (Key (codes "a/b")) (object_step _ (codes "a/b")) (child_of-Object-Key _ (codes "a/b"))

pub returns-clause-present : goal.returns-clause-present
returns-clause-present c =
    next_named _ _ (codes "a") (codes "1" ∷ []) (Key (codes "a")) (sym (object_step _ (codes "a"))) (child_of-Object-Key _ (codes "a"))
    ∙ ap (below (Key (codes "a"))) (last_named _ _ (codes "1") (At 4) (list_step _ (codes "1") ∙ ap (option_map (λ (i : Item Tree). At i.at)) (second_of_two _ _)) (child_of-List-At _ 4))

pub returns-clause-first : goal.returns-clause-first
returns-clause-first c =
    next_named _ _ (codes "a") (codes "0" ∷ []) (Key (codes "a")) (sym (object_step _ (codes "a"))) (child_of-Object-Key _ (codes "a"))
    ∙ ap (below (Key (codes "a"))) (last_named _ _ (codes "0") (At 1) (list_step _ (codes "0") ∙ ap (option_map (λ (i : Item Tree). At i.at)) (first_of_two _ _)) (child_of-List-At _ 1))

pub returns-clause-not_original : goal.returns-clause-not_original
returns-clause-not_original c =
    next_named _ _ (codes "a") (codes "4" ∷ []) (Key (codes "a")) (sym (object_step _ (codes "a"))) (child_of-Object-Key _ (codes "a"))
    ∙ ap (below (Key (codes "a"))) (last_nothing _ (codes "4") (list_step _ (codes "4") ∙ ap (option_map (λ (i : Item Tree). At i.at)) (four_of_two _ _)))

pub returns-clause-leading_zero : goal.returns-clause-leading_zero
returns-clause-leading_zero c =
    next_named _ _ (codes "a") (codes "01" ∷ []) (Key (codes "a")) (sym (object_step _ (codes "a"))) (child_of-Object-Key _ (codes "a"))
    ∙ ap (below (Key (codes "a"))) (last_nothing _ (codes "01") (list_step _ (codes "01") ∙ ap (option_map (λ (i : Item Tree). At i.at)) (zero_one_of_two _ _)))

pub returns-clause-past_the_end : goal.returns-clause-past_the_end
returns-clause-past_the_end c =
    next_named _ _ (codes "a") (codes "-" ∷ []) (Key (codes "a")) (sym (object_step _ (codes "a"))) (child_of-Object-Key _ (codes "a"))
    ∙ ap (below (Key (codes "a"))) (last_nothing _ (codes "-") (list_step _ (codes "-") ∙ ap (option_map (λ (i : Item Tree). At i.at)) (dash_of_two _ _)))

pub returns-clause-number_as_name : goal.returns-clause-number_as_name
returns-clause-number_as_name c = last_named _ _ (codes "0") (Key (codes "0")) (object_step _ (codes "0")) (child_of-Object-Key _ (codes "0"))

use Rattle.std.proofs.Common.{[], ◌∷◌, Some, codes, option_map, option_and_then, refl, ap, ◌∙◌}
use Rattle.json_tree.specs.declared.tree.Tree.TheVariants as v
use Rattle.json_tree.specs.declared.place.Step.TheVariants.{Key, At}
use Rattle.json_tree.specs.Places.{look}
use Rattle.json_tree.specs.Levels.{level_of, level_in}
use Rattle.json_tree.proofs.Kept.{look-one}
use Rattle.json_tree.proofs.TreeLemmas.{child_of-Object-Key, child_of-Object-At, child_of-List-At, child_of-List-Key}
use Rattle.json_tree.proofs.Equations.{misplaced-Null, misplaced-Text, misplaced-Version, misplaced-List, misplaced-Object, renumbered-List, renumbered-Text, renumbered-Version}
use Rattle.json_tree.proofs.laws.worked_tree.Goals as goal

pub returns-clause-by_index : goal.returns-clause-by_index
returns-clause-by_index c =
    ap (option_and_then (look (At 7 ∷ At 4 ∷ []))) (child_of-Object-Key _ (codes "a/b"))
    ∙ ap (option_and_then (look (At 4 ∷ []))) (child_of-List-At _ 7) ∙ look-one _ (At 4) ∙ child_of-List-At _ 4

pub returns-clause-not_by_position : goal.returns-clause-not_by_position
returns-clause-not_by_position c =
    ap (option_and_then (look (At 1 ∷ []))) (child_of-Object-Key _ (codes "a/b")) ∙ look-one _ (At 1) ∙ child_of-List-At _ 1

pub returns-clause-name_in_list : goal.returns-clause-name_in_list
returns-clause-name_in_list c =
    ap (option_and_then (look (Key (codes "7") ∷ []))) (child_of-Object-Key _ (codes "a/b")) ∙ look-one _ (Key (codes "7")) ∙ child_of-List-Key _ (codes "7")

pub returns-clause-index_in_object : goal.returns-clause-index_in_object
returns-clause-index_in_object c = look-one _ (At 0) ∙ child_of-Object-At _ 0

pub returns-clause-level : goal.returns-clause-level
returns-clause-level c =
    ap (option_map level_of) (look-one _ (Key (codes "a/b")) ∙ child_of-Object-Key _ (codes "a/b")) ∙ ap (λ y. Some (level_in y)) (v.outs-List _)

pub returns-clause-misplaced : goal.returns-clause-misplaced
returns-clause-misplaced c = rw (misplaced-Object, misplaced-Version, misplaced-List, misplaced-Null, misplaced-List, misplaced-Text, misplaced-Version) refl

pub returns-clause-numbered : goal.returns-clause-numbered
returns-clause-numbered c = rw (renumbered-List, renumbered-Text, renumbered-Version) refl

pub returns-clause-no_member : goal.returns-clause-no_member
returns-clause-no_member c = look-one _ (Key (codes "a")) ∙ child_of-Object-Key _ (codes "a")

-- A tree and a place of worked rows.
use Rattle.std.specs.Prelude.{List, [], ◌∷◌, codes}
use Rattle.json_tree.specs.declared.tree.Tree.{Tree}
use Rattle.json_tree.specs.declared.tree.Tree.TheVariants as v
use Rattle.json_tree.specs.declared.place.Step.{Step}
use Rattle.json_tree.specs.declared.place.Step.TheVariants.{Key}
use Rattle.json_tree.specs.Trees.{element, new_member}

-- A list that is left of a longer one, in an object: its elements had the indexes 1 and 4.
abbrev pub left_elements : Tree
left_elements = v.Object (
    new_member (codes "0") v.Null
    ∷ new_member (codes "a")
    (v.List (element 1 (v.Text (codes "m")) ∷ element 4 (v.Text (codes "n")) ∷ [])) ∷ [])

-- A place with two names, as that of a value in an object in an object.
abbrev pub pointed_place : List Step
pointed_place = Key (codes "a") ∷ Key (codes "b") ∷ []

-- The first misplaced version number in a list's elements, and in an object's members.
use Rattle.std.specs.Prelude.{List, map, false, Option}
use Rattle.json_tree.specs.declared.tree.Tree.{Tree}
use Rattle.json_tree.specs.declared.tree.Item.{Item}
use Rattle.json_tree.specs.declared.tree.Member.{Member}
use Rattle.json_tree.specs.declared.place.Step.{Step}
use Rattle.json_tree.specs.declared.place.Step.TheVariants.{Key, At}
use Rattle.json_tree.specs.Places.{first_of, below, misplaced, is_version_key}

-- the first place in a list's elements, and in an object's members
abbrev pub first_in_items : List (Item Tree) → Option (List Step)
first_in_items items = first_of (map (λ i. below (At i.at) (misplaced i.value false)) items)

abbrev pub first_in_members : List (Member Tree) → Option (List Step)
first_in_members members =
    first_of (map (λ m. below (Key m.key) (misplaced m.value (is_version_key m.key))) members)

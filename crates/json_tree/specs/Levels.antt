-- One level of a tree, and the level that stands at a place: what a place tells of a tree without
-- what is inside.
use Rattle.std.specs.Prelude.{List, map, Option, option_map}
use Rattle.json_tree.specs.declared.tree.Tree.{Tree, out-Tree}
use Rattle.json_tree.specs.declared.tree.Tree.TheOpen.{Tree-F}
use Rattle.json_tree.specs.declared.place.Step.{Step}
use Rattle.json_tree.specs.Places.{look}

-- One level: null, a boolean, a number, a text, the indexes of a list's elements or the names of an
-- object's members, with nothing of what is inside them.
abbrev pub Level : Type 0
Level = Tree-F (Unit {0})

-- what is inside left out
abbrev pub level_in : Tree-F Tree → Level
level_in Tree-F.Null = Tree-F.Null
level_in (Tree-F.Bool b) = Tree-F.Bool b
level_in (Tree-F.Whole z) = Tree-F.Whole z
level_in Tree-F.Version = Tree-F.Version
level_in (Tree-F.Text text) = Tree-F.Text text
level_in (Tree-F.List items) = Tree-F.List (map (λ i. record { at = i.at; value = tt }) items)
level_in (Tree-F.Object members) =
    Tree-F.Object (map (λ m. record { key = m.key; value = tt }) members)

-- The level at a tree's root.
abbrev pub level_of : Tree → Level
level_of t = level_in (out-Tree t)

-- The level that stands at a place.
abbrev pub level_at : List Step → Tree → Option Level
level_at place t = option_map level_of (look place t)

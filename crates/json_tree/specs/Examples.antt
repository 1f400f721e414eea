-- Trees of worked rows.
use Rattle.std.specs.Prelude.{pos, [], ◌∷◌, codes}
use Rattle.json_tree.specs.declared.tree.Tree.{Tree}
use Rattle.json_tree.specs.declared.tree.Tree.TheVariants as v
use Rattle.json_tree.specs.Trees.{element, new_member}

-- The example document of RFC 6901, section 5, with its members in the byte order of their names.
abbrev pub rfc_document : Tree
rfc_document = v.Object (
    new_member [] (v.Whole (pos 0))
    ∷ new_member (codes " ") (v.Whole (pos 7))
    ∷ new_member (codes "a/b") (v.Whole (pos 1))
    ∷ new_member (codes "c%d") (v.Whole (pos 2))
    ∷ new_member (codes "e^f") (v.Whole (pos 3))
    ∷ new_member (codes "foo")
    (v.List (element 0 (v.Text (codes "bar")) ∷ element 1 (v.Text (codes "baz")) ∷ []))
    ∷ new_member (codes "g|h") (v.Whole (pos 4))
    ∷ new_member (codes "i\\j") (v.Whole (pos 5))
    ∷ new_member (codes "k\"l") (v.Whole (pos 6))
    ∷ new_member (codes "m~n") (v.Whole (pos 8)) ∷ [])

-- Elements that are left of a longer list: those that had the indexes 4 and 9.
abbrev pub part_of_list : Tree
part_of_list = v.List (element 4 (v.Text (codes "x")) ∷ element 9 v.Version ∷ [])

-- Version numbers: one under `@version`, two that are misplaced.
abbrev pub part_of_document : Tree
part_of_document = v.Object (
    new_member (codes "@version") v.Version
    ∷ new_member (codes "a/b") (v.List (element 3 v.Null ∷ element 7 part_of_list ∷ []))
    ∷ new_member (codes "m~n") v.Version ∷ [])

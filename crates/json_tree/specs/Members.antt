-- Objects with their members changed: one taken out, one put in.
use Rattle.std.specs.Prelude.{ℕ, List, [], ◌∷◌, not, filter, if◌then◌else◌}
use Rattle.std.specs.Str.{bytes_eq}
use Rattle.json_tree.specs.declared.tree.Tree.{Tree, out-Tree}
use Rattle.json_tree.specs.declared.tree.Tree.TheOpen.{Tree-F}
use Rattle.json_tree.specs.declared.tree.Tree.TheVariants as v
use Rattle.json_tree.specs.declared.tree.Member.{Member}
use Rattle.json_tree.specs.Trees.{new_member, is_before}

-- an object with its members changed, and any other tree as it is
abbrev pub with_members_in : (List (Member Tree) → List (Member Tree)) → Tree → Tree-F Tree → Tree
with_members_in change t (Tree-F.Object members) = v.Object (change members)
with_members_in change t other = t

abbrev pub with_members : (List (Member Tree) → List (Member Tree)) → Tree → Tree
with_members change t = with_members_in change t (out-Tree t)

-- members without those of that name
abbrev pub without_key : List ℕ → List (Member Tree) → List (Member Tree)
without_key key members = filter (λ m. not (bytes_eq m.key key)) members

-- An object without the member of that name, and any other tree as it is.
abbrev pub without : List ℕ → Tree → Tree
without key t = with_members (without_key key) t

-- members with one more, at its place in the byte order of names; it takes the place of one of its
-- name
abbrev pub put_member : Member Tree → List (Member Tree) → List (Member Tree)
put_member m [] = m ∷ []
put_member m (n ∷ ns) =
    if is_before m.key n.key then m ∷ n ∷ ns
    else (if bytes_eq m.key n.key then m ∷ ns else n ∷ put_member m ns)

-- An object with a member of that name and value, and any other tree as it is.
abbrev pub with_member : List ℕ → Tree → Tree → Tree
with_member key value t = with_members (put_member (new_member key value)) t

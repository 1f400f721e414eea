-- Objects with a member whose value is still to come, and trees that are printed as they are.
use Rattle.std.specs.Prelude.{◌≡◌, zero, suc, Bool, true, false, ◌||◌, if◌then◌else◌, ℕ, List, [], ◌∷◌}
use Rattle.std.specs.Str.{bytes_eq}
use Rattle.json_tree.specs.declared.tree.Tree.{Tree}
use Rattle.json_tree.specs.declared.tree.Tree.TheVariants as v
use Rattle.json_tree.specs.declared.tree.Member.{Member}
use Rattle.json_tree.specs.Trees.{new_member, holds_version, is_before, is_in_range, is_lawful}
use Rattle.vc_session.specs.declared.draft.Slot.{Slot}
use Rattle.vc_session.specs.declared.draft.Draft.{Draft}

-- where a member of that name stands, or would stand, among names that rise
abbrev pub place_of : List ℕ → List (Member Tree) → ℕ
place_of key [] = 0
place_of key (m ∷ ms) =
    if is_before key m.key || bytes_eq key m.key then 0 else suc (place_of key ms)

-- a member stands at that index and has that name
abbrev pub is_named : List (Member Tree) → ℕ → List ℕ → Bool
is_named [] n key = false
is_named (m ∷ ms) zero key = bytes_eq m.key key
is_named (m ∷ ms) (suc n) key = is_named ms n key

-- the members with another value at that index
abbrev pub with_value_at : List (Member Tree) → ℕ → Tree → List (Member Tree)
with_value_at [] n value = []
with_value_at (m ∷ ms) zero value = new_member m.key value ∷ ms
with_value_at (m ∷ ms) (suc n) value = m ∷ with_value_at ms n value

-- the object of a slot, with this value
abbrev pub object_with : Slot → Tree → Tree
object_with s value = v.Object (with_value_at s.members.items s.at value)

-- the document of a draft, with this proof value
abbrev pub document_with : Draft → List ℕ → Tree
document_with d value = object_with d.document (object_with d.options (v.Text value))

-- a tree is an object
pub record IsObject (t : Tree) : Type 0 where
  pub members : List (Member Tree)
  pub is : t ≡ v.Object members

-- a tree that `print` writes as it is: lawful, in range, and without a version number
pub record IsPrintable (t : Tree) : Type 0 where
  pub lawful : is_lawful t ≡ true
  pub in_range : is_in_range t ≡ true
  pub whole : holds_version t ≡ false

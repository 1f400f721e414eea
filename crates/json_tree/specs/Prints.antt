-- The JSON value that a tree stands for, and its text. RFC 8259, section 3.
use Rattle.std.specs.Prelude.{ℕ, List, [], ◌∷◌, map, codes}
use Rattle.std.specs.Fmt.{signed_decimal}
use Rattle.json.specs.Json as json
use Rattle.json.specs.Print.{print}
use Rattle.json.specs.Tree.{json_tokens}
use Rattle.serde_json.specs.Data.{Data, null, boolean, number, float, string, array, object, Members, no_members, member}
use Rattle.serde_json.specs.Find.{of_integer}
use Rattle.serde_json.specs.View.{items_of}
use Rattle.json_tree.specs.declared.printing.TheConstants.{VERSION}
use Rattle.json_tree.specs.declared.tree.Tree.{Tree, fold-Tree}
use Rattle.json_tree.specs.declared.tree.Tree.TheOpen.{Tree-F}
use Rattle.json_tree.specs.declared.tree.Item.{Item}
use Rattle.json_tree.specs.declared.tree.Member.{Member}

-- the members in their order
abbrev pub members_data : List (Member Data) → Members
members_data [] = no_members
members_data (m ∷ ms) = member m.key m.value (members_data ms)

-- one level, with each value inside already seen as its JSON value
abbrev pub data_step : Tree-F Data → Data
data_step Tree-F.Null = null
data_step (Tree-F.Bool b) = boolean b
data_step (Tree-F.Whole z) = number (of_integer z)
data_step Tree-F.Version = number (float VERSION)
data_step (Tree-F.Text t) = string t
data_step (Tree-F.List items) = array (items_of (map (λ i. i.value) items))
data_step (Tree-F.Object members) = object (members_data members)

-- The JSON value of a tree: the indexes of elements are left out, and `Version` is 1.1.
abbrev pub data_of : Tree → Data
data_of = fold-Tree Data data_step

-- ---- the text

-- elements and members as the grammar's
abbrev pub json_items : List (Item json.Json) → json.Items
json_items [] = json.no_items
json_items (i ∷ is) = json.item i.value (json_items is)

abbrev pub json_members : List (Member json.Json) → json.Members
json_members [] = json.no_members
json_members (m ∷ ms) = json.member m.key m.value (json_members ms)

-- one level, with each value inside already seen as its JSON text's grammar
abbrev pub json_step : Tree-F json.Json → json.Json
json_step Tree-F.Null = json.null
json_step (Tree-F.Bool b) = json.boolean b
json_step (Tree-F.Whole z) = json.number (signed_decimal z)
json_step Tree-F.Version = json.number (codes "1.1")
json_step (Tree-F.Text t) = json.string t
json_step (Tree-F.List items) = json.array (json_items items)
json_step (Tree-F.Object members) = json.object (json_members members)

-- A tree as JSON: whole numbers in decimal, `Version` as `1.1`, and the indexes of elements
-- left out.
abbrev pub json_of : Tree → json.Json
json_of = fold-Tree json.Json json_step

-- The compact JSON text of a tree: its tokens with no space between them. RFC 8259, section 2.
abbrev pub compact_of : Tree → List ℕ
compact_of t = print (json_tokens (json_of t))

-- One equation for each variant of a tree, for the folds over trees: range, nesting, indexes, and misplaced
-- version numbers.
use Rattle.std.proofs.Common.{◌≡◌, ℕ, suc, ℤ, Bool, true, false, List, [], map, Option, Some, None, if◌then◌else◌, sym, ap, ◌∙◌}
use Rattle.std.specs.List.{list_all, list_any}
use Rattle.std.proofs.lemmas.List.Folds.{list_all-map}
use Rattle.std.specs.Fmt.{signed_decimal}
use Rattle.std.specs.Prelude.{codes}
use Rattle.json.specs.Json as json
use Rattle.serde_json.specs.Data.{Data, null, boolean, number, float, string, array, object}
use Rattle.serde_json.specs.Find.{of_integer}
use Rattle.serde_json.specs.View.{items_of}
use Rattle.json_tree.specs.declared.printing.TheConstants.{VERSION}
use Rattle.json_tree.specs.declared.tree.Tree.{Tree, fold-roll-Tree}
use Rattle.json_tree.specs.declared.tree.Tree.TheOpen.{Tree-F}
use Rattle.json_tree.specs.declared.tree.Tree.TheVariants as v
use Rattle.json_tree.specs.declared.tree.Item.{Item}
use Rattle.json_tree.specs.declared.tree.Member.{Member}
use Rattle.json_tree.specs.declared.place.Step.{Step}
use Rattle.json_tree.specs.declared.place.Step.TheVariants.{Key, At}
use Rattle.json_tree.specs.Trees.{is_64_bits, range_step, is_in_range, greatest, levels_step, levels_of, numbered, renumber_step, renumbered, element, new_member, version_step, holds_version}
use Rattle.json_tree.specs.Prints.{members_data, data_step, data_of, json_items, json_members, json_step, json_of}
use Rattle.json_tree.specs.Internal.Writes.{item_json, member_json}
use Rattle.json_tree.specs.Places.{first_of, below, is_version_key, misplaced_step, misplaced}
use Rattle.json_tree.specs.Internal.Misplaced.{first_in_items, first_in_members}
use Rattle.base_types.proofs.Lists.{map-map, list_any-map}

-- a member with its value's JSON value
abbrev pub datum : Member Tree → Member Data
datum m = record { key = m.key; value = data_of m.value }

-- ---- is_in_range

-- null is in range
pub is_in_range-Null : is_in_range v.Null ≡ true
is_in_range-Null = ap is_in_range (sym v.rolls-Null) ∙ fold-roll-Tree Bool range_step Tree-F.Null

-- a truth value is in range
pub is_in_range-Bool : (b : Bool) → is_in_range (v.Bool b) ≡ true
is_in_range-Bool b = ap is_in_range (sym (v.rolls-Bool b)) ∙ fold-roll-Tree Bool range_step (Tree-F.Bool b)

-- a whole number is in range where 64 bits hold it, with a sign or without
pub is_in_range-Whole : (z : ℤ) → is_in_range (v.Whole z) ≡ is_64_bits z
is_in_range-Whole z = ap is_in_range (sym (v.rolls-Whole z)) ∙ fold-roll-Tree Bool range_step (Tree-F.Whole z)

-- the version number is in range
pub is_in_range-Version : is_in_range v.Version ≡ true
is_in_range-Version = ap is_in_range (sym v.rolls-Version) ∙ fold-roll-Tree Bool range_step Tree-F.Version

-- a text is in range
pub is_in_range-Text : (text : List ℕ) → is_in_range (v.Text text) ≡ true
is_in_range-Text text = ap is_in_range (sym (v.rolls-Text text)) ∙ fold-roll-Tree Bool range_step (Tree-F.Text text)

-- a list is in range where each element is
pub is_in_range-List : (items : List (Item Tree)) → is_in_range (v.List items) ≡ list_all (λ i. is_in_range i.value) items
is_in_range-List items =
    ap is_in_range (sym (v.rolls-List items)) ∙ fold-roll-Tree Bool range_step (Tree-F.List items)
    ∙ list_all-map (λ (i : Item Bool). i.value) (λ (i : Item Tree). record { at = i.at; value = is_in_range i.value }) items

-- an object is in range where each member's value is
pub is_in_range-Object : (members : List (Member Tree)) → is_in_range (v.Object members) ≡ list_all (λ m. is_in_range m.value) members
is_in_range-Object members =
    ap is_in_range (sym (v.rolls-Object members)) ∙ fold-roll-Tree Bool range_step (Tree-F.Object members)
    ∙ list_all-map (λ (m : Member Bool). m.value) (λ (m : Member Tree). record { key = m.key; value = is_in_range m.value }) members

-- ---- levels_of

-- null has no levels
pub levels_of-Null : levels_of v.Null ≡ 0
levels_of-Null = ap levels_of (sym v.rolls-Null) ∙ fold-roll-Tree ℕ levels_step Tree-F.Null

-- a truth value has no levels
pub levels_of-Bool : (b : Bool) → levels_of (v.Bool b) ≡ 0
levels_of-Bool b = ap levels_of (sym (v.rolls-Bool b)) ∙ fold-roll-Tree ℕ levels_step (Tree-F.Bool b)

-- a whole number has no levels
pub levels_of-Whole : (z : ℤ) → levels_of (v.Whole z) ≡ 0
levels_of-Whole z = ap levels_of (sym (v.rolls-Whole z)) ∙ fold-roll-Tree ℕ levels_step (Tree-F.Whole z)

-- the version number has no levels
pub levels_of-Version : levels_of v.Version ≡ 0
levels_of-Version = ap levels_of (sym v.rolls-Version) ∙ fold-roll-Tree ℕ levels_step Tree-F.Version

-- a text has no levels
pub levels_of-Text : (text : List ℕ) → levels_of (v.Text text) ≡ 0
levels_of-Text text = ap levels_of (sym (v.rolls-Text text)) ∙ fold-roll-Tree ℕ levels_step (Tree-F.Text text)

-- a list has one level more than its deepest element
pub levels_of-List : (items : List (Item Tree)) → levels_of (v.List items) ≡ suc (greatest (map (λ i. levels_of i.value) items))
levels_of-List items =
    ap levels_of (sym (v.rolls-List items)) ∙ fold-roll-Tree ℕ levels_step (Tree-F.List items)
    ∙ ap (λ ns. suc (greatest ns)) (map-map (λ (i : Item ℕ). i.value) (λ (i : Item Tree). record { at = i.at; value = levels_of i.value }) items)

-- an object has one level more than the deepest of its values
pub levels_of-Object : (members : List (Member Tree)) → levels_of (v.Object members) ≡ suc (greatest (map (λ m. levels_of m.value) members))
levels_of-Object members =
    ap levels_of (sym (v.rolls-Object members)) ∙ fold-roll-Tree ℕ levels_step (Tree-F.Object members)
    ∙ ap (λ ns. suc (greatest ns)) (map-map (λ (m : Member ℕ). m.value) (λ (m : Member Tree). record { key = m.key; value = levels_of m.value }) members)

-- ---- renumbered

-- null has no indexes to number anew
pub renumbered-Null : renumbered v.Null ≡ v.Null
renumbered-Null = ap renumbered (sym v.rolls-Null) ∙ fold-roll-Tree Tree renumber_step Tree-F.Null

-- a truth value has no indexes to number anew
pub renumbered-Bool : (b : Bool) → renumbered (v.Bool b) ≡ v.Bool b
renumbered-Bool b = ap renumbered (sym (v.rolls-Bool b)) ∙ fold-roll-Tree Tree renumber_step (Tree-F.Bool b)

-- a whole number has no indexes to number anew
pub renumbered-Whole : (z : ℤ) → renumbered (v.Whole z) ≡ v.Whole z
renumbered-Whole z = ap renumbered (sym (v.rolls-Whole z)) ∙ fold-roll-Tree Tree renumber_step (Tree-F.Whole z)

-- the version number has no indexes to number anew
pub renumbered-Version : renumbered v.Version ≡ v.Version
renumbered-Version = ap renumbered (sym v.rolls-Version) ∙ fold-roll-Tree Tree renumber_step Tree-F.Version

-- a text has no indexes to number anew
pub renumbered-Text : (text : List ℕ) → renumbered (v.Text text) ≡ v.Text text
renumbered-Text text = ap renumbered (sym (v.rolls-Text text)) ∙ fold-roll-Tree Tree renumber_step (Tree-F.Text text)

-- a list is numbered from 0, with each element numbered anew
pub renumbered-List : (items : List (Item Tree)) → renumbered (v.List items) ≡ v.List (numbered 0 (map (λ i. element i.at (renumbered i.value)) items))
renumbered-List items = ap renumbered (sym (v.rolls-List items)) ∙ fold-roll-Tree Tree renumber_step (Tree-F.List items)

-- an object keeps its names, and each value is numbered anew
pub renumbered-Object : (members : List (Member Tree)) → renumbered (v.Object members) ≡ v.Object (map (λ m. new_member m.key (renumbered m.value)) members)
renumbered-Object members = ap renumbered (sym (v.rolls-Object members)) ∙ fold-roll-Tree Tree renumber_step (Tree-F.Object members)

-- ---- misplaced

-- in null nothing is misplaced
pub misplaced-Null : (named : Bool) → misplaced v.Null named ≡ None
misplaced-Null named = ap (λ u. misplaced u named) (sym v.rolls-Null) ∙ ap (λ f. f named) (fold-roll-Tree (Bool → Option (List Step)) misplaced_step Tree-F.Null)

-- in a truth value nothing is misplaced
pub misplaced-Bool : (b : Bool) (named : Bool) → misplaced (v.Bool b) named ≡ None
misplaced-Bool b named = ap (λ u. misplaced u named) (sym (v.rolls-Bool b)) ∙ ap (λ f. f named) (fold-roll-Tree (Bool → Option (List Step)) misplaced_step (Tree-F.Bool b))

-- in a whole number nothing is misplaced
pub misplaced-Whole : (z : ℤ) (named : Bool) → misplaced (v.Whole z) named ≡ None
misplaced-Whole z named = ap (λ u. misplaced u named) (sym (v.rolls-Whole z)) ∙ ap (λ f. f named) (fold-roll-Tree (Bool → Option (List Step)) misplaced_step (Tree-F.Whole z))

-- a version number is misplaced unless it is the value of a member `@version`
pub misplaced-Version : (named : Bool) → misplaced v.Version named ≡ (if named then None else Some [])
misplaced-Version named = ap (λ u. misplaced u named) (sym v.rolls-Version) ∙ ap (λ f. f named) (fold-roll-Tree (Bool → Option (List Step)) misplaced_step Tree-F.Version)

-- in a text nothing is misplaced
pub misplaced-Text : (text : List ℕ) (named : Bool) → misplaced (v.Text text) named ≡ None
misplaced-Text text named = ap (λ u. misplaced u named) (sym (v.rolls-Text text)) ∙ ap (λ f. f named) (fold-roll-Tree (Bool → Option (List Step)) misplaced_step (Tree-F.Text text))

-- what is misplaced first in a list is the first in its elements
pub misplaced-List : (items : List (Item Tree)) (named : Bool) → misplaced (v.List items) named ≡ first_in_items items
misplaced-List items named =
    ap (λ u. misplaced u named) (sym (v.rolls-List items)) ∙ ap (λ f. f named) (fold-roll-Tree (Bool → Option (List Step)) misplaced_step (Tree-F.List items))
    ∙ ap first_of (map-map (λ (i : Item (Bool → Option (List Step))). below (At i.at) (i.value false)) (λ (i : Item Tree). record { at = i.at; value = misplaced i.value }) items)

-- what is misplaced first in an object is the first in its members
pub misplaced-Object : (members : List (Member Tree)) (named : Bool) → misplaced (v.Object members) named ≡ first_in_members members
misplaced-Object members named =
    ap (λ u. misplaced u named) (sym (v.rolls-Object members)) ∙ ap (λ f. f named) (fold-roll-Tree (Bool → Option (List Step)) misplaced_step (Tree-F.Object members))
    ∙ ap first_of (map-map (λ (m : Member (Bool → Option (List Step))). below (Key m.key) (m.value (is_version_key m.key))) (λ (m : Member Tree). record { key = m.key; value = misplaced m.value }) members)

-- ---- holds_version

-- null holds no version number
pub holds_version-Null : holds_version v.Null ≡ false
holds_version-Null = ap holds_version (sym v.rolls-Null) ∙ fold-roll-Tree Bool version_step Tree-F.Null

-- a truth value holds no version number
pub holds_version-Bool : (b : Bool) → holds_version (v.Bool b) ≡ false
holds_version-Bool b = ap holds_version (sym (v.rolls-Bool b)) ∙ fold-roll-Tree Bool version_step (Tree-F.Bool b)

-- a whole number holds no version number
pub holds_version-Whole : (z : ℤ) → holds_version (v.Whole z) ≡ false
holds_version-Whole z = ap holds_version (sym (v.rolls-Whole z)) ∙ fold-roll-Tree Bool version_step (Tree-F.Whole z)

-- the version number holds one
pub holds_version-Version : holds_version v.Version ≡ true
holds_version-Version = ap holds_version (sym v.rolls-Version) ∙ fold-roll-Tree Bool version_step Tree-F.Version

-- a text holds no version number
pub holds_version-Text : (text : List ℕ) → holds_version (v.Text text) ≡ false
holds_version-Text text = ap holds_version (sym (v.rolls-Text text)) ∙ fold-roll-Tree Bool version_step (Tree-F.Text text)

-- a list holds a version number where some element does
pub holds_version-List : (items : List (Item Tree)) → holds_version (v.List items) ≡ list_any (λ i. holds_version i.value) items
holds_version-List items =
    ap holds_version (sym (v.rolls-List items)) ∙ fold-roll-Tree Bool version_step (Tree-F.List items)
    ∙ list_any-map (λ (i : Item Bool). i.value) (λ (i : Item Tree). record { at = i.at; value = holds_version i.value }) items

-- an object holds a version number where some member's value does
pub holds_version-Object : (members : List (Member Tree)) → holds_version (v.Object members) ≡ list_any (λ m. holds_version m.value) members
holds_version-Object members =
    ap holds_version (sym (v.rolls-Object members)) ∙ fold-roll-Tree Bool version_step (Tree-F.Object members)
    ∙ list_any-map (λ (m : Member Bool). m.value) (λ (m : Member Tree). record { key = m.key; value = holds_version m.value }) members

-- ---- data_of

-- the JSON value of null
pub data_of-Null : data_of v.Null ≡ null
data_of-Null = ap data_of (sym v.rolls-Null) ∙ fold-roll-Tree Data data_step Tree-F.Null

-- the JSON value of a truth value
pub data_of-Bool : (b : Bool) → data_of (v.Bool b) ≡ boolean b
data_of-Bool b = ap data_of (sym (v.rolls-Bool b)) ∙ fold-roll-Tree Data data_step (Tree-F.Bool b)

-- the JSON value of a whole number is that integer
pub data_of-Whole : (z : ℤ) → data_of (v.Whole z) ≡ number (of_integer z)
data_of-Whole z = ap data_of (sym (v.rolls-Whole z)) ∙ fold-roll-Tree Data data_step (Tree-F.Whole z)

-- the JSON value of the version number is the float 1.1
pub data_of-Version : data_of v.Version ≡ number (float VERSION)
data_of-Version = ap data_of (sym v.rolls-Version) ∙ fold-roll-Tree Data data_step Tree-F.Version

-- the JSON value of a text is that string
pub data_of-Text : (text : List ℕ) → data_of (v.Text text) ≡ string text
data_of-Text text = ap data_of (sym (v.rolls-Text text)) ∙ fold-roll-Tree Data data_step (Tree-F.Text text)

-- the JSON value of a list is the array of its elements' values
pub data_of-List : (items : List (Item Tree)) → data_of (v.List items) ≡ array (items_of (map (λ i. data_of i.value) items))
data_of-List items =
    ap data_of (sym (v.rolls-List items)) ∙ fold-roll-Tree Data data_step (Tree-F.List items)
    ∙ ap (λ ds. array (items_of ds)) (map-map (λ (i : Item Data). i.value) (λ (i : Item Tree). record { at = i.at; value = data_of i.value }) items)

-- the JSON value of an object has its members, each with its value
pub data_of-Object : (members : List (Member Tree)) → data_of (v.Object members) ≡ object (members_data (map datum members))
data_of-Object members = ap data_of (sym (v.rolls-Object members)) ∙ fold-roll-Tree Data data_step (Tree-F.Object members)

-- ---- json_of

-- null is printed as null
pub json_of-Null : json_of v.Null ≡ json.null
json_of-Null = ap json_of (sym v.rolls-Null) ∙ fold-roll-Tree json.Json json_step Tree-F.Null

-- a truth value is printed as itself
pub json_of-Bool : (b : Bool) → json_of (v.Bool b) ≡ json.boolean b
json_of-Bool b = ap json_of (sym (v.rolls-Bool b)) ∙ fold-roll-Tree json.Json json_step (Tree-F.Bool b)

-- a whole number is printed in decimal, with its sign
pub json_of-Whole : (z : ℤ) → json_of (v.Whole z) ≡ json.number (signed_decimal z)
json_of-Whole z = ap json_of (sym (v.rolls-Whole z)) ∙ fold-roll-Tree json.Json json_step (Tree-F.Whole z)

-- the version number is printed as `1.1`
pub json_of-Version : json_of v.Version ≡ json.number (codes "1.1")
json_of-Version = ap json_of (sym v.rolls-Version) ∙ fold-roll-Tree json.Json json_step Tree-F.Version

-- a text is printed as a string
pub json_of-Text : (text : List ℕ) → json_of (v.Text text) ≡ json.string text
json_of-Text text = ap json_of (sym (v.rolls-Text text)) ∙ fold-roll-Tree json.Json json_step (Tree-F.Text text)

-- a list is printed as an array of its elements
pub json_of-List : (items : List (Item Tree)) → json_of (v.List items) ≡ json.array (json_items (map item_json items))
json_of-List items = ap json_of (sym (v.rolls-List items)) ∙ fold-roll-Tree json.Json json_step (Tree-F.List items)

-- an object is printed as an object with its members
pub json_of-Object : (members : List (Member Tree)) → json_of (v.Object members) ≡ json.object (json_members (map member_json members))
json_of-Object members = ap json_of (sym (v.rolls-Object members)) ∙ fold-roll-Tree json.Json json_step (Tree-F.Object members)

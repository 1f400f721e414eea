-- One equation for each variant of a tree, for each definition by cases on it.
use Rattle.std.proofs.Common.{◌≡◌, ℕ, ℤ, Bool, true, ◌&&◌, ◌==◌, nat_lt, List, [], map, Option, Some, None, option_map, option_and_then, find, refl, sym, ap, ◌∙◌}
use Rattle.std.specs.List.{list_all}
use Rattle.std.proofs.lemmas.List.Folds.{list_all-map}
use Rattle.json_tree.specs.declared.tree.Tree.{Tree, fold-roll-Tree, out-Tree, roll-Tree, roll-out-Tree}
use Rattle.json_tree.specs.declared.tree.Tree.TheOpen.{Tree-F}
use Rattle.json_tree.specs.declared.tree.Tree.TheVariants as v
use Rattle.json_tree.specs.declared.tree.Item.{Item}
use Rattle.json_tree.specs.declared.tree.Member.{Member}
use Rattle.json_tree.specs.declared.place.Step.{Step}
use Rattle.json_tree.specs.declared.place.Step.TheVariants.{Key, At}
use Rattle.json_tree.specs.Trees.{each_next, is_before, lawful_step, is_lawful, AreLawful}
use Rattle.json_tree.specs.Places.{value_of, child_in, child_of, look, text_in, text_of, items_in, items_of, members_in, members_of, names_in, names_at}
use Rattle.json_tree.proofs.Rising.{left_of, right_of}
use Rattle.base_types.proofs.Searching.{each_next-map}

-- ---- is_lawful

-- null is lawful
pub is_lawful-Null : is_lawful v.Null ≡ true
is_lawful-Null = ap is_lawful (sym v.rolls-Null) ∙ fold-roll-Tree Bool lawful_step Tree-F.Null

-- a boolean is lawful
pub is_lawful-Bool : (b : Bool) → is_lawful (v.Bool b) ≡ true
is_lawful-Bool b = ap is_lawful (sym (v.rolls-Bool b)) ∙ fold-roll-Tree Bool lawful_step (Tree-F.Bool b)

-- a whole number is lawful
pub is_lawful-Whole : (z : ℤ) → is_lawful (v.Whole z) ≡ true
is_lawful-Whole z = ap is_lawful (sym (v.rolls-Whole z)) ∙ fold-roll-Tree Bool lawful_step (Tree-F.Whole z)

-- a version number is lawful
pub is_lawful-Version : is_lawful v.Version ≡ true
is_lawful-Version = ap is_lawful (sym v.rolls-Version) ∙ fold-roll-Tree Bool lawful_step Tree-F.Version

-- a text is lawful
pub is_lawful-Text : (text : List ℕ) → is_lawful (v.Text text) ≡ true
is_lawful-Text text = ap is_lawful (sym (v.rolls-Text text)) ∙ fold-roll-Tree Bool lawful_step (Tree-F.Text text)

-- a list is lawful where its indexes rise and its elements are lawful
pub is_lawful-List : (items : List (Item Tree)) → is_lawful (v.List items) ≡ (each_next (λ i j. nat_lt i.at j.at) items && list_all (λ i. is_lawful i.value) items)
is_lawful-List items =
    let seen : Item Tree → Item Bool = λ i. record { at = i.at; value = is_lawful i.value } in
    let rising : each_next (λ i j. nat_lt i.at j.at) (map seen items) ≡ each_next (λ i j. nat_lt i.at j.at) items = each_next-map seen (λ i j. nat_lt i.at j.at) items in
    let all : list_all (λ (i : Item Bool). i.value) (map seen items) ≡ list_all (λ i. is_lawful i.value) items = list_all-map (λ (i : Item Bool). i.value) seen items in
    ap is_lawful (sym (v.rolls-List items)) ∙ fold-roll-Tree Bool lawful_step (Tree-F.List items) ∙ (λ k. rising k && all k)

-- an object is lawful where its names rise and its values are lawful
pub is_lawful-Object : (members : List (Member Tree)) → is_lawful (v.Object members) ≡ (each_next (λ m n. is_before m.key n.key) members && list_all (λ m. is_lawful m.value) members)
is_lawful-Object members =
    let seen : Member Tree → Member Bool = λ m. record { key = m.key; value = is_lawful m.value } in
    let rising : each_next (λ m n. is_before m.key n.key) (map seen members) ≡ each_next (λ m n. is_before m.key n.key) members = each_next-map seen (λ m n. is_before m.key n.key) members in
    let all : list_all (λ (m : Member Bool). m.value) (map seen members) ≡ list_all (λ m. is_lawful m.value) members = list_all-map (λ (m : Member Bool). m.value) seen members in
    ap is_lawful (sym (v.rolls-Object members)) ∙ fold-roll-Tree Bool lawful_step (Tree-F.Object members) ∙ (λ k. rising k && all k)

-- the names of a lawful object rise
pub members_rise : (t : Tree) (members : List (Member Tree)) → is_lawful t ≡ true → t ≡ v.Object members → each_next (λ m n. is_before m.key n.key) members ≡ true
members_rise t members lawful is = left_of _ _ (sym (is_lawful-Object members) ∙ ap is_lawful (sym is) ∙ lawful)

-- the values of a lawful object are lawful
pub members_lawful : (t : Tree) (members : List (Member Tree)) → is_lawful t ≡ true → t ≡ v.Object members → list_all (λ m. is_lawful m.value) members ≡ true
members_lawful t members lawful is = right_of _ _ (sym (is_lawful-Object members) ∙ ap is_lawful (sym is) ∙ lawful)

-- members that are a lawful object's rise, and their values are lawful
pub lawful_members : (t : Tree) (members seen : List (Member Tree)) → is_lawful t ≡ true → t ≡ v.Object members → seen ≡ members → AreLawful seen
lawful_members t members seen lawful is same = record {
  rising = ap (each_next (λ m n. is_before m.key n.key)) same ∙ members_rise t members lawful is;
  values = ap (list_all (λ m. is_lawful m.value)) same ∙ members_lawful t members lawful is;
}

-- the indexes of a lawful list rise
pub items_rise : (t : Tree) (items : List (Item Tree)) → is_lawful t ≡ true → t ≡ v.List items → each_next (λ i j. nat_lt i.at j.at) items ≡ true
items_rise t items lawful is = left_of _ _ (sym (is_lawful-List items) ∙ ap is_lawful (sym is) ∙ lawful)

-- the elements of a lawful list are lawful
pub items_lawful : (t : Tree) (items : List (Item Tree)) → is_lawful t ≡ true → t ≡ v.List items → list_all (λ i. is_lawful i.value) items ≡ true
items_lawful t items lawful is = right_of _ _ (sym (is_lawful-List items) ∙ ap is_lawful (sym is) ∙ lawful)

-- ---- child_of

-- nothing stands below null
pub child_of-Null : (step : Step) → child_of v.Null step ≡ None
child_of-Null step = ap (λ x. child_in x step) v.outs-Null

-- nothing stands below a boolean
pub child_of-Bool : (b : Bool) (step : Step) → child_of (v.Bool b) step ≡ None
child_of-Bool b step = ap (λ x. child_in x step) (v.outs-Bool b)

-- nothing stands below a whole number
pub child_of-Whole : (z : ℤ) (step : Step) → child_of (v.Whole z) step ≡ None
child_of-Whole z step = ap (λ x. child_in x step) (v.outs-Whole z)

-- nothing stands below a version number
pub child_of-Version : (step : Step) → child_of v.Version step ≡ None
child_of-Version step = ap (λ x. child_in x step) v.outs-Version

-- nothing stands below a text
pub child_of-Text : (text : List ℕ) (step : Step) → child_of (v.Text text) step ≡ None
child_of-Text text step = ap (λ x. child_in x step) (v.outs-Text text)

-- at an index of a list stands the first element with that index
pub child_of-List-At : (items : List (Item Tree)) (at : ℕ) → child_of (v.List items) (At at) ≡ option_map (λ i. i.value) (find (λ i. i.at == at) items)
child_of-List-At items at = ap (λ x. child_in x (At at)) (v.outs-List items)

-- a list has nothing at a name
pub child_of-List-Key : (items : List (Item Tree)) (key : List ℕ) → child_of (v.List items) (Key key) ≡ None
child_of-List-Key items key = ap (λ x. child_in x (Key key)) (v.outs-List items)

-- at a name of an object stands the value of its member of that name
pub child_of-Object-Key : (members : List (Member Tree)) (key : List ℕ) → child_of (v.Object members) (Key key) ≡ value_of key members
child_of-Object-Key members key = ap (λ x. child_in x (Key key)) (v.outs-Object members)

-- an object has nothing at an index
pub child_of-Object-At : (members : List (Member Tree)) (at : ℕ) → child_of (v.Object members) (At at) ≡ None
child_of-Object-At members at = ap (λ x. child_in x (At at)) (v.outs-Object members)

-- ---- names_at, text_of and members_of

-- null has no names
pub names_at-Null : names_at [] v.Null ≡ None
names_at-Null = ap names_in v.outs-Null

-- a boolean has no names
pub names_at-Bool : (b : Bool) → names_at [] (v.Bool b) ≡ None
names_at-Bool b = ap names_in (v.outs-Bool b)

-- a whole number has no names
pub names_at-Whole : (z : ℤ) → names_at [] (v.Whole z) ≡ None
names_at-Whole z = ap names_in (v.outs-Whole z)

-- a version number has no names
pub names_at-Version : names_at [] v.Version ≡ None
names_at-Version = ap names_in v.outs-Version

-- a text has no names
pub names_at-Text : (text : List ℕ) → names_at [] (v.Text text) ≡ None
names_at-Text text = ap names_in (v.outs-Text text)

-- a list has no names
pub names_at-List : (items : List (Item Tree)) → names_at [] (v.List items) ≡ None
names_at-List items = ap names_in (v.outs-List items)

-- the names of an object are its members'
pub names_at-Object : (members : List (Member Tree)) → names_at [] (v.Object members) ≡ Some (map (λ m. m.key) members)
names_at-Object members = ap names_in (v.outs-Object members)

-- a text has itself as its text
pub text_of-Text : (text : List ℕ) → text_of (v.Text text) ≡ Some text
text_of-Text text = ap text_in (v.outs-Text text)

-- an object has its members
pub members_of-Object : (members : List (Member Tree)) → members_of (v.Object members) ≡ Some members
members_of-Object members = ap members_in (v.outs-Object members)

-- a tree that has a text is this text, and one that has members is an object of them
is_text : (x : Tree-F Tree) (text : List ℕ) → text_in x ≡ Some text → x ≡ Tree-F.Text text
is_text Tree-F.Null text h = absurd (cc)
is_text (Tree-F.Bool b) text h = absurd (cc)
is_text (Tree-F.Whole z) text h = absurd (cc)
is_text Tree-F.Version text h = absurd (cc)
is_text (Tree-F.Text s) text h = cc
is_text (Tree-F.List items) text h = absurd (cc)
is_text (Tree-F.Object members) text h = absurd (cc)

-- a tree that has a text is this text
pub text_of-Some : (t : Tree) (text : List ℕ) → text_of t ≡ Some text → t ≡ v.Text text
text_of-Some t text h = sym (roll-out-Tree t) ∙ ap roll-Tree (is_text (out-Tree t) text h) ∙ v.rolls-Text text

is_object : (x : Tree-F Tree) (members : List (Member Tree)) → members_in x ≡ Some members → x ≡ Tree-F.Object members
is_object Tree-F.Null members h = absurd (cc)
is_object (Tree-F.Bool b) members h = absurd (cc)
is_object (Tree-F.Whole z) members h = absurd (cc)
is_object Tree-F.Version members h = absurd (cc)
is_object (Tree-F.Text s) members h = absurd (cc)
is_object (Tree-F.List items) members h = absurd (cc)
is_object (Tree-F.Object ms) members h = cc

-- a tree that has members is the object of them
pub members_of-Some : (t : Tree) (members : List (Member Tree)) → members_of t ≡ Some members → t ≡ v.Object members
members_of-Some t members h = sym (roll-out-Tree t) ∙ ap roll-Tree (is_object (out-Tree t) members h) ∙ v.rolls-Object members

-- a member stands at its name
child_of_members : (x : Tree-F Tree) (key : List ℕ) → child_in x (Key key) ≡ option_and_then (value_of key) (members_in x)
child_of_members Tree-F.Null key = refl
child_of_members (Tree-F.Bool b) key = refl
child_of_members (Tree-F.Whole z) key = refl
child_of_members Tree-F.Version key = refl
child_of_members (Tree-F.Text s) key = refl
child_of_members (Tree-F.List items) key = refl
child_of_members (Tree-F.Object ms) key = refl

-- what stands at a name is the value of the member of that name, where the tree has members
pub child_of-members : (t : Tree) (key : List ℕ) → child_of t (Key key) ≡ option_and_then (value_of key) (members_of t)
child_of-members t key = child_of_members (out-Tree t) key

-- an element stands at its index
child_of_items : (x : Tree-F Tree) (at : ℕ) → child_in x (At at) ≡ option_and_then (λ items. option_map (λ i. i.value) (find (λ i. i.at == at) items)) (items_in x)
child_of_items Tree-F.Null at = refl
child_of_items (Tree-F.Bool b) at = refl
child_of_items (Tree-F.Whole z) at = refl
child_of_items Tree-F.Version at = refl
child_of_items (Tree-F.Text s) at = refl
child_of_items (Tree-F.List items) at = refl
child_of_items (Tree-F.Object ms) at = refl

-- what stands at an index is the first element with that index, where the tree has elements
pub child_of-items : (t : Tree) (at : ℕ) → child_of t (At at) ≡ option_and_then (λ items. option_map (λ i. i.value) (find (λ i. i.at == at) items)) (items_of t)
child_of-items t at = child_of_items (out-Tree t) at

-- the names are those of the members
names_of_members : (x : Tree-F Tree) → names_in x ≡ option_map (λ members. map (λ m. m.key) members) (members_in x)
names_of_members Tree-F.Null = refl
names_of_members (Tree-F.Bool b) = refl
names_of_members (Tree-F.Whole z) = refl
names_of_members Tree-F.Version = refl
names_of_members (Tree-F.Text s) = refl
names_of_members (Tree-F.List items) = refl
names_of_members (Tree-F.Object ms) = refl

-- a tree's names are those of its members, where it has members
pub names_at-members : (t : Tree) → names_at [] t ≡ option_map (λ members. map (λ m. m.key) members) (members_of t)
names_at-members t = names_of_members (out-Tree t)

-- no further step leads where one stands
pub look_nothing : (o : Option Tree) → option_and_then (look []) o ≡ o
look_nothing None = refl
look_nothing (Some t) = refl

-- What stands in a tree that is lawful, or well formed, is so too.
use Rattle.std.proofs.Common.{◌≡◌, ℕ, Bool, true, false, ◌==◌, List, [], ◌∷◌, Option, Some, None, option_map, option_and_then, find, refl, sym, ap, ◌∙◌, subst, inl, inr}
use Rattle.std.specs.List.{list_all}
use Rattle.std.specs.Option.{option_copied, IfSome}
use Rattle.std.proofs.lemmas.Bool.{cases_Bool, and_parts}
use Rattle.std.proofs.lemmas.Option.{same_Some, option_and_then_some}
use denote.Ref.{Bor}
use Rattle.json_tree.specs.declared.tree.Tree.{Tree, out-Tree, roll-Tree, roll-out-Tree}
use Rattle.json_tree.specs.declared.tree.Tree.TheOpen.{Tree-F}
use Rattle.json_tree.specs.declared.tree.Tree.TheVariants as v
use Rattle.json_tree.specs.declared.tree.Item.{Item}
use Rattle.json_tree.specs.declared.tree.Member.{Member}
use Rattle.json_tree.specs.declared.place.Step.{Step}
use Rattle.json_tree.specs.declared.place.Step.TheVariants.{Key, At}
use Rattle.json_tree.specs.Trees.{is_lawful, is_in_range}
use Rattle.json_tree.specs.Places.{value_of, members_of, items_of, below, or_else, child_in, child_of, look, misplaced, is_version_key}
use Rattle.json_tree.specs.Internal.Misplaced.{first_in_items, first_in_members}
use Rattle.json_tree.specs.WellFormed.{IsWellFormed}
use Rattle.json_tree.proofs.Induction.{Each}
use Rattle.json_tree.proofs.TreeLemmas.{is_lawful-List, is_lawful-Object, child_of-Object-Key, child_of-List-At, child_of-members, child_of-items}
use Rattle.json_tree.proofs.Equations.{is_in_range-List, is_in_range-Object, misplaced-Null, misplaced-Bool, misplaced-Whole, misplaced-Version, misplaced-Text, misplaced-List, misplaced-Object}

-- ---- what was found is one of the list

-- the value that was found has what each has
pub found_has : {X : Type 0} (P : Tree → Type 0) (value : X → Tree) (test : X → Bool) (xs : List X) (u : Tree) → Each (λ x. P (value x)) xs → option_map value (find test xs) ≡ Some u → P u
found_has P value test [] u all h = absurd (cc)
found_has P value test (x ∷ xs) u all h = elim (cases_Bool (test x)) [
  | inl yes' ↦
      let here : option_map value (find test (x ∷ xs)) ≡ Some (value x) = rw yes' refl in
      subst P (same_Some (value x) u (sym here ∙ h)) all.0
  | inr no' ↦
      let later : option_map value (find test (x ∷ xs)) ≡ option_map value (find test xs) = rw no' refl in
      found_has P value test xs u all.1 (sym later ∙ h)
]

-- a test that all pass holds of each
pub each_passes : {X : Type 0} (test : X → Bool) (xs : List X) → list_all test xs ≡ true → Each (λ x. test x ≡ true) xs
each_passes test [] h = tt
each_passes test (x ∷ xs) h = let both = and_parts (test x) _ h in (both.0, each_passes test xs both.1)

-- ---- a value inside

-- a tree that opens as a list is that list
pub is_list : (t : Tree) (items : List (Item Tree)) → out-Tree t ≡ Tree-F.List items → t ≡ v.List items
is_list t items e = sym (roll-out-Tree t) ∙ ap roll-Tree e ∙ v.rolls-List items

-- a tree that opens as an object is that object
pub is_object : (t : Tree) (members : List (Member Tree)) → out-Tree t ≡ Tree-F.Object members → t ≡ v.Object members
is_object t members e = sym (roll-out-Tree t) ∙ ap roll-Tree e ∙ v.rolls-Object members

-- what each element or member has, the child has
pub child_has : (P : Tree → Type 0) (t u : Tree) (s : Step) → ((items : List (Item Tree)) → t ≡ v.List items → Each (λ (i : Item Tree). P i.value) items) → ((members : List (Member Tree)) → t ≡ v.Object members → Each (λ (m : Member Tree). P m.value) members) → child_of t s ≡ Some u → P u
child_has P t u s lists objects h = by_level (out-Tree t) refl s h
  where
    by_level : (y : Tree-F Tree) → out-Tree t ≡ y → (s : Step) → child_in y s ≡ Some u → P u
    by_level Tree-F.Null e s h = absurd (cc)
    by_level (Tree-F.Bool b) e s h = absurd (cc)
    by_level (Tree-F.Whole z) e s h = absurd (cc)
    by_level Tree-F.Version e s h = absurd (cc)
    by_level (Tree-F.Text text) e s h = absurd (cc)
    by_level (Tree-F.List items) e (At at) h = found_has P (λ (i : Item Tree). i.value) (λ i. i.at == at) items u (lists items (is_list t items e)) h
    by_level (Tree-F.List items) e (Key key) h = absurd (cc)
    by_level (Tree-F.Object members) e (Key key) h = found_has P (λ (m : Member Tree). m.value) _ members u (objects members (is_object t members e)) h
    by_level (Tree-F.Object members) e (At at) h = absurd (cc)

-- what a child has, all that stands at places has
pub look_has : (P : Tree → Type 0) → ((t u : Tree) (s : Step) → P t → child_of t s ≡ Some u → P u) → (steps : List Step) (t u : Tree) → P t → look steps t ≡ Some u → P u
look_has P keeps [] t u p h = subst P (same_Some t u h) p
look_has P keeps (s ∷ ss) t u p h = option_and_then_some (look ss) (child_of t s) u h (λ x there further. look_has P keeps ss x u (keeps t x s p there) further)

-- ---- lawful

-- the elements of a lawful list are lawful, each
pub lawful_items : (items : List (Item Tree)) → is_lawful (v.List items) ≡ true → Each (λ (i : Item Tree). is_lawful i.value ≡ true) items
lawful_items items h = each_passes (λ i. is_lawful i.value) items (and_parts _ _ (sym (is_lawful-List items) ∙ h)).1

-- the values of a lawful object are lawful, each
pub lawful_values : (members : List (Member Tree)) → is_lawful (v.Object members) ≡ true → Each (λ (m : Member Tree). is_lawful m.value ≡ true) members
lawful_values members h = each_passes (λ m. is_lawful m.value) members (and_parts _ _ (sym (is_lawful-Object members) ∙ h)).1

-- a child of a lawful tree is lawful
pub child_lawful : (t u : Tree) (s : Step) → is_lawful t ≡ true → child_of t s ≡ Some u → is_lawful u ≡ true
child_lawful t u s lawful h =
    child_has (λ t. is_lawful t ≡ true) t u s (λ items is. lawful_items items (sym (ap is_lawful is) ∙ lawful)) (λ members is. lawful_values members (sym (ap is_lawful is) ∙ lawful)) h

-- what stands at a place of a lawful tree is lawful
pub look_lawful : (steps : List Step) (t u : Tree) → is_lawful t ≡ true → look steps t ≡ Some u → is_lawful u ≡ true
look_lawful = look_has (λ t. is_lawful t ≡ true) child_lawful

-- ---- well formed

-- a version number that may stand nowhere but inside may stand at the root too
pub versions_inside : (t : Tree) (named : Bool) → misplaced t named ≡ None → misplaced t true ≡ None
versions_inside t true h = h
versions_inside t false h = by_level (out-Tree t) refl
  where
    by_level : (y : Tree-F Tree) → out-Tree t ≡ y → misplaced t true ≡ None
    by_level Tree-F.Null e = ap (λ u. misplaced u true) (sym (roll-out-Tree t) ∙ ap roll-Tree e ∙ v.rolls-Null) ∙ misplaced-Null true
    by_level (Tree-F.Bool b) e = ap (λ u. misplaced u true) (sym (roll-out-Tree t) ∙ ap roll-Tree e ∙ v.rolls-Bool b) ∙ misplaced-Bool b true
    by_level (Tree-F.Whole z) e = ap (λ u. misplaced u true) (sym (roll-out-Tree t) ∙ ap roll-Tree e ∙ v.rolls-Whole z) ∙ misplaced-Whole z true
    by_level Tree-F.Version e = ap (λ u. misplaced u true) (sym (roll-out-Tree t) ∙ ap roll-Tree e ∙ v.rolls-Version) ∙ misplaced-Version true
    by_level (Tree-F.Text text) e = ap (λ u. misplaced u true) (sym (roll-out-Tree t) ∙ ap roll-Tree e ∙ v.rolls-Text text) ∙ misplaced-Text text true
    by_level (Tree-F.List items) e =
        let is = is_list t items e in
        ap (λ u. misplaced u true) is ∙ misplaced-List items true ∙ sym (misplaced-List items false) ∙ sym (ap (λ u. misplaced u false) is) ∙ h
    by_level (Tree-F.Object members) e =
        let is = is_object t members e in
        ap (λ u. misplaced u true) is ∙ misplaced-Object members true ∙ sym (misplaced-Object members false) ∙ sym (ap (λ u. misplaced u false) is) ∙ h

-- nothing misplaced in the whole: nothing below the first step
pub none_first : (o later : Option (List Step)) (s : Step) → or_else (below s o) later ≡ None → o ≡ None
none_first (Some p) later s h = absurd (cc)
none_first None later s h = refl

-- nothing misplaced in the whole: nothing later
pub none_later : (o later : Option (List Step)) (s : Step) → or_else (below s o) later ≡ None → later ≡ None
none_later (Some p) later s h = absurd (cc)
none_later None later s h = h

each_item : (items : List (Item Tree)) → list_all (λ i. is_lawful i.value) items ≡ true → list_all (λ i. is_in_range i.value) items ≡ true → first_in_items items ≡ None → Each (λ (i : Item Tree). IsWellFormed i.value) items
each_item [] lawful ranged none = tt
each_item (i ∷ is) lawful ranged none =
    let l = and_parts (is_lawful i.value) _ lawful in
    let r = and_parts (is_in_range i.value) _ ranged in
    let here = none_first (misplaced i.value false) (first_in_items is) (At i.at) none in
    let one : IsWellFormed i.value = record { lawful = l.0; in_range = r.0; versions = versions_inside i.value false here } in
    (one, each_item is l.1 r.1 (none_later (misplaced i.value false) (first_in_items is) (At i.at) none))

each_member : (members : List (Member Tree)) → list_all (λ m. is_lawful m.value) members ≡ true → list_all (λ m. is_in_range m.value) members ≡ true → first_in_members members ≡ None → Each (λ (m : Member Tree). IsWellFormed m.value) members
each_member [] lawful ranged none = tt
each_member (m ∷ ms) lawful ranged none =
    let l = and_parts (is_lawful m.value) _ lawful in
    let r = and_parts (is_in_range m.value) _ ranged in
    let here = none_first (misplaced m.value (is_version_key m.key)) (first_in_members ms) (Key m.key) none in
    let one : IsWellFormed m.value = record { lawful = l.0; in_range = r.0; versions = versions_inside m.value (is_version_key m.key) here } in
    (one, each_member ms l.1 r.1 (none_later (misplaced m.value (is_version_key m.key)) (first_in_members ms) (Key m.key) none))

-- the elements of a well-formed list are well formed
pub well_formed_items : (items : List (Item Tree)) → IsWellFormed (v.List items) → Each (λ (i : Item Tree). IsWellFormed i.value) items
well_formed_items items w =
    each_item items (and_parts _ _ (sym (is_lawful-List items) ∙ w.lawful)).1 (sym (is_in_range-List items) ∙ w.in_range) (sym (misplaced-List items true) ∙ w.versions)

-- the values of a well-formed object are well formed
pub well_formed_values : (members : List (Member Tree)) → IsWellFormed (v.Object members) → Each (λ (m : Member Tree). IsWellFormed m.value) members
well_formed_values members w =
    each_member members (and_parts _ _ (sym (is_lawful-Object members) ∙ w.lawful)).1 (sym (is_in_range-Object members) ∙ w.in_range) (sym (misplaced-Object members true) ∙ w.versions)

-- a child of a well-formed tree is well formed
pub child_well_formed : (t u : Tree) (s : Step) → IsWellFormed t → child_of t s ≡ Some u → IsWellFormed u
child_well_formed t u s w h = child_has IsWellFormed t u s (λ items is. well_formed_items items (subst IsWellFormed is w)) (λ members is. well_formed_values members (subst IsWellFormed is w)) h

-- what stands at a place of a well-formed tree is well formed
pub look_well_formed : (steps : List Step) (t u : Tree) → IsWellFormed t → look steps t ≡ Some u → IsWellFormed u
look_well_formed = look_has IsWellFormed child_well_formed

-- ---- what a look-up answers

-- where it answers a tree, that is what was looked for
pub answer_has : (r : Option (Bor Tree)) (o : Option Tree) (P : Tree → Type 0) → option_copied r ≡ o → ((u : Tree) → o ≡ Some u → P u) → IfSome r (λ t. P t.now)
answer_has None o P is all = tt
answer_has (Some x) o P is all = all x.now (sym is)

-- one step alone
pub look-one : (t : Tree) (s : Step) → look (s ∷ []) t ≡ child_of t s
look-one t s = look_nothing (child_of t s)
  where
    look_nothing : (o : Option Tree) → option_and_then (look []) o ≡ o
    look_nothing None = refl
    look_nothing (Some u) = refl

-- the member of a key that a step names is what stands one step below
pub key_child : (r : Option Tree) (t : Tree) (s : Step) (members seen : List (Member Tree)) (key text : List ℕ) → r ≡ value_of text seen → seen ≡ members → text ≡ key → t ≡ v.Object members → s ≡ Key key → r ≡ child_of t s
key_child r t s members seen key text is same spelled of step =
    is ∙ ap (value_of text) same ∙ ap (λ (k : List ℕ). value_of k members) spelled ∙ sym (child_of-Object-Key members key) ∙ ap (λ u. child_of u (Key key)) (sym of) ∙ ap (child_of t) (sym step)

-- the element of an index that a step names is what stands one step below
pub at_child : (r : Option Tree) (t : Tree) (s : Step) (items seen : List (Item Tree)) (at : ℕ) → r ≡ option_map (λ i. i.value) (find (λ i. i.at == at) seen) → seen ≡ items → t ≡ v.List items → s ≡ At at → r ≡ child_of t s
at_child r t s items seen at is same of step =
    is ∙ ap (λ is. option_map (λ i. i.value) (find (λ i. i.at == at) is)) same ∙ sym (child_of-List-At items at) ∙ ap (λ u. child_of u (At at)) (sym of) ∙ ap (child_of t) (sym step)

-- the value at a name among a tree's members is what stands there in the tree
pub key_of_members : (r : Option Tree) (t : Tree) (members : List (Member Tree)) (key : List ℕ) → r ≡ value_of key members → members_of t ≡ Some members → r ≡ child_of t (Key key)
key_of_members r t members key is of = is ∙ sym (child_of-members t key ∙ ap (option_and_then (value_of key)) of)

-- the element at an index among a tree's elements is what stands there in the tree
pub at_of_items : (r : Option Tree) (t : Tree) (items : List (Item Tree)) (at : ℕ) → r ≡ option_map (λ i. i.value) (find (λ i. i.at == at) items) → items_of t ≡ Some items → r ≡ child_of t (At at)
at_of_items r t items at is of = is ∙ sym (child_of-items t at ∙ ap (option_and_then (λ is. option_map (λ i. i.value) (find (λ i. i.at == at) is))) of)

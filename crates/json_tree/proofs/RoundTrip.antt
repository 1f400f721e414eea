-- What is printed reads as the tree with its lists renumbered.
use Rattle.std.proofs.Common.{◌≡◌, ◌≤◌, ℕ, ℤ, suc, ◌+◌, pos, negsuc, true, false, Bool, is_none, List, [], ◌∷◌, map, Some, None, Option, Ok, refl, sym, ap, ◌∙◌, arith}
use Rattle.std.specs.Str.{IsUtf8}
use Rattle.serde_json.specs.Data.{depth, items_depth, members_depth}
use Rattle.serde_json.specs.Find.{as_integer, of_integer}
use Rattle.serde_json.specs.View.{items_of}
use Rattle.serde_json.specs.Read as json
use Rattle.json.specs.Token.{Token}
use Rattle.json.specs.Lex.{tokens}
use Rattle.json.specs.Print.{print}
use Rattle.json.specs.Tree.{json_tokens}
use Rattle.json_tree.specs.declared.tree.Tree.{Tree}
use Rattle.json_tree.specs.declared.tree.Tree.TheVariants as v
use Rattle.json_tree.specs.declared.tree.Item.{Item}
use Rattle.json_tree.specs.declared.tree.Member.{Member}
use Rattle.json_tree.specs.declared.place.Step.{Step}
use Rattle.json_tree.specs.declared.place.Step.TheVariants.{Key, At}
use Rattle.json_tree.specs.Trees.{tree_of, elements_of, entries_of, element, new_member, whole_or_version, greatest, levels_of, nesting_of, nesting_limit, numbered, renumbered}
use Rattle.json_tree.specs.Places.{misplaced, is_placed, is_version_key}
use Rattle.json_tree.specs.Internal.Misplaced.{first_in_items, first_in_members}
use Rattle.json_tree.specs.WellFormed.{IsWellFormed}
use Rattle.json_tree.specs.Prints.{data_of, members_data, json_of}
use Rattle.json_tree.specs.Reads.{Reads}
use Rattle.json_tree.proofs.Induction.{Each, by_cases}
use Rattle.json_tree.proofs.Compact.{read_back}
use Rattle.json_tree.proofs.Depths.{levels_of-tree_of}
use Rattle.json_tree.proofs.Equations.{data_of-Null, data_of-Bool, data_of-Whole, data_of-Version, data_of-Text, data_of-List, data_of-Object, renumbered-Null, renumbered-Bool, renumbered-Whole, renumbered-Version, renumbered-Text, renumbered-List, renumbered-Object, levels_of-Null, levels_of-Bool, levels_of-Whole, levels_of-Version, levels_of-Text, levels_of-List, levels_of-Object, misplaced-List, misplaced-Object, datum}
use Rattle.json_tree.proofs.Kept.{none_first, none_later}
use Rattle.base_types.proofs.Options.{is_none-true}

-- ---- the value of a tree is that of the tree renumbered

abbrev ReadsBack : Tree → Type 0
ReadsBack t = tree_of (data_of t) ≡ renumbered t

whole_back : (z : ℤ) → whole_or_version (as_integer (of_integer z)) ≡ v.Whole z
whole_back (pos n) = refl
whole_back (negsuc n) = refl

items_back : (n : ℕ) (is : List (Item Tree)) → Each (λ (i : Item Tree). ReadsBack i.value) is → elements_of n (items_of (map (λ i. data_of i.value) is)) ≡ numbered n (map (λ i. element i.at (renumbered i.value)) is)
items_back n [] e = refl
items_back n (i ∷ is) e = rw (e.0, items_back (n + 1) is e.1) refl

members_back : (ms : List (Member Tree)) → Each (λ (m : Member Tree). ReadsBack m.value) ms → entries_of (members_data (map datum ms)) ≡ map (λ m. new_member m.key (renumbered m.value)) ms
members_back [] e = refl
members_back (m ∷ ms) e = rw (e.0, members_back ms e.1) refl

-- the value of a tree reads as the tree renumbered
pub tree_of-data_of : (t : Tree) → tree_of (data_of t) ≡ renumbered t
tree_of-data_of = by_cases ReadsBack record {
  null = ap tree_of data_of-Null ∙ sym renumbered-Null;
  boolean = λ b. ap tree_of (data_of-Bool b) ∙ sym (renumbered-Bool b);
  whole = λ z. ap tree_of (data_of-Whole z) ∙ whole_back z ∙ sym (renumbered-Whole z);
  version = ap tree_of data_of-Version ∙ sym renumbered-Version;
  text = λ s. ap tree_of (data_of-Text s) ∙ sym (renumbered-Text s);
  items = λ is e. ap tree_of (data_of-List is) ∙ ap v.List (items_back 0 is e) ∙ sym (renumbered-List is);
  members = λ ms e. ap tree_of (data_of-Object ms) ∙ ap v.Object (members_back ms e) ∙ sym (renumbered-Object ms);
}

-- ---- the nesting stays

abbrev HasDepth : Tree → Type 0
HasDepth t = depth (data_of t) ≡ levels_of t

depth_whole : (z : ℤ) → HasDepth (v.Whole z)
depth_whole z = ap depth (data_of-Whole z) ∙ sym (levels_of-Whole z)

depth_items : (is : List (Item Tree)) → Each (λ (i : Item Tree). HasDepth i.value) is → items_depth (items_of (map (λ i. data_of i.value) is)) ≡ greatest (map (λ i. levels_of i.value) is)
depth_items [] e = refl
depth_items (i ∷ is) e = rw (e.0, depth_items is e.1) refl

depth_members : (ms : List (Member Tree)) → Each (λ (m : Member Tree). HasDepth m.value) ms → members_depth (members_data (map datum ms)) ≡ greatest (map (λ m. levels_of m.value) ms)
depth_members [] e = refl
depth_members (m ∷ ms) e = rw (e.0, depth_members ms e.1) refl

-- the value of a tree nests as many levels as the tree has
pub depth-data_of : (t : Tree) → depth (data_of t) ≡ levels_of t
depth-data_of = by_cases HasDepth record {
  null = ap depth data_of-Null ∙ sym levels_of-Null;
  boolean = λ b. ap depth (data_of-Bool b) ∙ sym (levels_of-Bool b);
  whole = depth_whole;
  version = ap depth data_of-Version ∙ sym levels_of-Version;
  text = λ s. ap depth (data_of-Text s) ∙ sym (levels_of-Text s);
  items = λ is e. ap depth (data_of-List is) ∙ ap suc (depth_items is e) ∙ sym (levels_of-List is);
  members = λ ms e. ap depth (data_of-Object ms) ∙ ap suc (depth_members ms e) ∙ sym (levels_of-Object ms);
}

-- ---- what is misplaced in the renumbered tree is misplaced in the tree

abbrev StaysPlaced : Tree → Type 0
StaysPlaced t = (named : Bool) → misplaced t named ≡ None → misplaced (renumbered t) named ≡ None

items_stay : (n : ℕ) (is : List (Item Tree)) → Each (λ (i : Item Tree). StaysPlaced i.value) is → first_in_items is ≡ None → first_in_items (numbered n (map (λ i. element i.at (renumbered i.value)) is)) ≡ None
items_stay n [] e h = refl
items_stay n (i ∷ is) e h =
    let here : misplaced (renumbered i.value) false ≡ None = e.0 false (none_first (misplaced i.value false) (first_in_items is) (At i.at) h) in
    rw here (items_stay (n + 1) is e.1 (none_later (misplaced i.value false) (first_in_items is) (At i.at) h))

members_stay : (ms : List (Member Tree)) → Each (λ (m : Member Tree). StaysPlaced m.value) ms → first_in_members ms ≡ None → first_in_members (map (λ m. new_member m.key (renumbered m.value)) ms) ≡ None
members_stay [] e h = refl
members_stay (m ∷ ms) e h =
    let named : Bool = is_version_key m.key in
    let here : misplaced (renumbered m.value) (is_version_key m.key) ≡ None = e.0 (is_version_key m.key) (none_first (misplaced m.value (is_version_key m.key)) (first_in_members ms) (Key m.key) h) in
    rw here (members_stay ms e.1 (none_later (misplaced m.value (is_version_key m.key)) (first_in_members ms) (Key m.key) h))

-- to number a tree anew misplaces nothing
pub misplaced-renumbered : (t : Tree) (named : Bool) → misplaced t named ≡ None → misplaced (renumbered t) named ≡ None
misplaced-renumbered = by_cases StaysPlaced record {
  null = λ named h. ap (λ t. misplaced t named) renumbered-Null ∙ h;
  boolean = λ b named h. ap (λ t. misplaced t named) (renumbered-Bool b) ∙ h;
  whole = λ z named h. ap (λ t. misplaced t named) (renumbered-Whole z) ∙ h;
  version = λ named h. ap (λ t. misplaced t named) renumbered-Version ∙ h;
  text = λ s named h. ap (λ t. misplaced t named) (renumbered-Text s) ∙ h;
  items = λ is e named h. ap (λ t. misplaced t named) (renumbered-List is) ∙ misplaced-List _ named ∙ items_stay 0 is e (sym (misplaced-List is named) ∙ h);
  members = λ ms e named h. ap (λ t. misplaced t named) (renumbered-Object ms) ∙ misplaced-Object _ named ∙ members_stay ms e (sym (misplaced-Object ms named) ∙ h);
}

-- ---- together

-- a tree numbered anew has as many levels
pub levels_of-renumbered : (t : Tree) → levels_of (renumbered t) ≡ levels_of t
levels_of-renumbered t = ap levels_of (sym (tree_of-data_of t)) ∙ levels_of-tree_of (data_of t) ∙ depth-data_of t

-- what is printed reads as the tree renumbered
pub round_trip : (t : Tree) (bytes : List ℕ) (printed : List Token) → bytes ≡ print printed → tokens (print printed) ≡ printed → IsUtf8 (print printed) → printed ≡ json_tokens (json_of t) → IsWellFormed t → nesting_of t ≤ nesting_limit → is_placed t ≡ true → Reads bytes (Ok (renumbered t))
round_trip t bytes printed same back utf8 made well shallow placed =
    let fits : levels_of t ≤ json.max_depth = omega arith in
    let spelled : json.read bytes ≡ Some (data_of t) = read_back t bytes (ap tokens same ∙ back ∙ made) well.lawful well.in_range fits in (
      record { value = data_of t; spelled = (rw same utf8, spelled); is = sym (tree_of-data_of t) },
      rw (levels_of-renumbered t) shallow,
      misplaced-renumbered t false (is_none-true (misplaced t false) placed),
    )

-- The compact text of a tree reads as its JSON value; without a version number it is what `serde_json` writes.
use Rattle.std.proofs.Common.{◌≡◌, ◌≤◌, ℕ, ℤ, suc, pos, negsuc, true, false, List, [], ◌∷◌, ◌++◌, map, Option, Some, Less, Greater, option_map, option_and_then, append-nil, append_assoc, refl, sym, ap, ◌∙◌, arith}
use Rattle.std.specs.Prelude.{codes}
use Rattle.std.specs.List.{list_all, list_any}
use Rattle.std.specs.Fmt.{signed_decimal}
use Rattle.std.specs.Ordering.{nat_cmp, ordering_reverse}
use Rattle.std.specs.Cmp.Lexicographic.{slice_cmp, nat_list_cmp_total}
use Rattle.std.proofs.lemmas.Bool.{and_parts, and_from, or_parts, true≢false}
use Rattle.std.proofs.lemmas.Bool.Decides.{nat_tests}
use lib.Ieee.{of_bits}
use Rattle.json.specs.Json as json
use Rattle.json.specs.Token.{Token}
use Rattle.json.specs.Print.{print}
use Rattle.json.specs.Lex.{tokens}
use Rattle.json.specs.Tree as jsons
use Rattle.json.proofs.Printed.Trees.{value-json_tokens}
use Rattle.serde_json.specs.Data.{Data, number, float, array, object, member, put}
use Rattle.serde_json.specs.Find.{of_integer}
use Rattle.serde_json.specs.View.{items_of}
use Rattle.serde_json.specs.Read as reader
use Rattle.serde_json.specs.Written.{outline, items_outline, members_outline, compact_text}
use Rattle.serde_json.proofs.Numbers.{number_of-decimal, number_of-negative}
use Rattle.serde_json.proofs.OnLiterals.{serde_json_on_literals}
use Rattle.serde_json.proofs.Texts.{print-outline}
use Rattle.json_tree.specs.declared.printing.TheConstants.{VERSION}
use Rattle.json_tree.specs.declared.tree.Tree.{Tree}
use Rattle.json_tree.specs.declared.tree.Item.{Item}
use Rattle.json_tree.specs.declared.tree.Member.{Member}
use Rattle.json_tree.specs.Trees.{is_before, is_lawful, is_in_range, is_64_bits, greatest, levels_of, holds_version}
use Rattle.json_tree.specs.Prints.{data_of, members_data, json_of, json_items, json_members, compact_of}
use Rattle.json_tree.specs.Internal.Writes.{item_json, member_json}
use Rattle.json_tree.proofs.Induction.{Each, by_cases}
use Rattle.json_tree.proofs.Rising.{NamesRise}
use Rattle.json_tree.proofs.TreeLemmas.{is_lawful-List, is_lawful-Object}
use Rattle.json_tree.proofs.Equations.{is_in_range-Whole, is_in_range-List, is_in_range-Object, holds_version-Version, holds_version-List, holds_version-Object, levels_of-Null, levels_of-Bool, levels_of-Whole, levels_of-Version, levels_of-Text, levels_of-List, levels_of-Object, data_of-Null, data_of-Bool, data_of-Whole, data_of-Version, data_of-Text, data_of-List, data_of-Object, json_of-Null, json_of-Bool, json_of-Whole, json_of-Version, json_of-Text, json_of-List, json_of-Object, datum}
use Rattle.base_types.proofs.Searching.{each_next-tail, is_less}

-- ---- its depth is the tree's

abbrev HasDepth : Tree → Type 0
HasDepth t = jsons.depth (json_of t) ≡ levels_of t

depth_items : (is : List (Item Tree)) → Each (λ (i : Item Tree). HasDepth i.value) is → jsons.items_depth (json_items (map item_json is)) ≡ greatest (map (λ i. levels_of i.value) is)
depth_items [] e = refl
depth_items (i ∷ is) e = rw (e.0, depth_items is e.1) refl

depth_members : (ms : List (Member Tree)) → Each (λ (m : Member Tree). HasDepth m.value) ms → jsons.members_depth (json_members (map member_json ms)) ≡ greatest (map (λ m. levels_of m.value) ms)
depth_members [] e = refl
depth_members (m ∷ ms) e = rw (e.0, depth_members ms e.1) refl

-- the JSON of a tree nests as the tree does
pub depth-json_of : (t : Tree) → jsons.depth (json_of t) ≡ levels_of t
depth-json_of = by_cases HasDepth record {
  null = ap jsons.depth json_of-Null ∙ sym levels_of-Null;
  boolean = λ b. ap jsons.depth (json_of-Bool b) ∙ sym (levels_of-Bool b);
  whole = λ z. ap jsons.depth (json_of-Whole z) ∙ sym (levels_of-Whole z);
  version = ap jsons.depth json_of-Version ∙ sym levels_of-Version;
  text = λ s. ap jsons.depth (json_of-Text s) ∙ sym (levels_of-Text s);
  items = λ is e. ap jsons.depth (json_of-List is) ∙ ap suc (depth_items is e) ∙ sym (levels_of-List is);
  members = λ ms e. ap jsons.depth (json_of-Object ms) ∙ ap suc (depth_members ms e) ∙ sym (levels_of-Object ms);
}

-- ---- its numbers

number_back : (z : ℤ) → is_64_bits z ≡ true → reader.number_of (signed_decimal z) ≡ Some (of_integer z)
number_back (pos n) within = number_of-decimal n (grind (arith, nat_tests))
number_back (negsuc n) within = number_of-negative n (grind (arith, nat_tests))

version_back : reader.number_of (codes "1.1") ≡ Some (float VERSION)
unfolding serde_json_on_literals of_bits
version_back = refl

-- ---- its value is the tree's, where names rise

abbrev IsValue : Tree → Type 0
IsValue t = is_lawful t ≡ true → is_in_range t ≡ true → reader.of_json (json_of t) ≡ Some (data_of t)

first_before : (m n : Member Tree) (ns : List (Member Tree)) → NamesRise (n ∷ (ns ++ m ∷ [])) → slice_cmp nat_cmp n.key m.key ≡ Less
first_before m n [] rise = is_less _ (and_parts (is_before n.key m.key) true rise).0
first_before m n (p ∷ ps) rise =
    let both = and_parts (is_before n.key p.key) _ rise in
    nat_list_cmp_total.trans n.key p.key m.key (is_less _ both.0) (first_before m p ps both.1)

rise_front : (xs ys : List (Member Tree)) → NamesRise (xs ++ ys) → NamesRise xs
rise_front [] ys rise = refl
rise_front (x ∷ []) ys rise = refl
rise_front (x ∷ (y ∷ zs)) ys rise =
    let both = and_parts (is_before x.key y.key) _ rise in
    and_from (is_before x.key y.key) _ both.0 (rise_front (y ∷ zs) ys both.1)

-- a name that comes after all others goes to the end
put_last : (m : Member Tree) (ms : List (Member Tree)) → NamesRise (ms ++ m ∷ []) → put m.key (data_of m.value) (members_data (map datum ms)) ≡ members_data (map datum (ms ++ m ∷ []))
put_last m [] rise = refl
put_last m (n ∷ ns) rise =
    let before : slice_cmp nat_cmp n.key m.key ≡ Less = first_before m n ns rise in
    let later : slice_cmp nat_cmp m.key n.key ≡ Greater = nat_list_cmp_total.antisymm m.key n.key ∙ ap ordering_reverse before in
    rw later (ap (member n.key (data_of n.value)) (put_last m ns (each_next-tail (λ a b. is_before a.key b.key) n (ns ++ m ∷ []) rise)))

items_value : (is : List (Item Tree)) → Each (λ (i : Item Tree). IsValue i.value) is → list_all (λ i. is_lawful i.value) is ≡ true → list_all (λ i. is_in_range i.value) is ≡ true → reader.of_items (json_items (map item_json is)) ≡ Some (items_of (map (λ i. data_of i.value) is))
items_value [] e lawful ranged = refl
items_value (i ∷ is) e lawful ranged =
    let l = and_parts (is_lawful i.value) _ lawful in
    let r = and_parts (is_in_range i.value) _ ranged in
    rw (e.0 l.0 r.0, items_value is e.1 l.1 r.1) refl

members_value : (seen ms : List (Member Tree)) → Each (λ (m : Member Tree). IsValue m.value) ms → NamesRise (seen ++ ms) → list_all (λ m. is_lawful m.value) ms ≡ true → list_all (λ m. is_in_range m.value) ms ≡ true → reader.of_members (json_members (map member_json ms)) (members_data (map datum seen)) ≡ Some (members_data (map datum (seen ++ ms)))
members_value seen [] e rise lawful ranged = ap (λ ns. Some (members_data (map datum ns))) (sym (append-nil seen))
members_value seen (m ∷ ms) e rise lawful ranged =
    let l = and_parts (is_lawful m.value) _ lawful in
    let r = and_parts (is_in_range m.value) _ ranged in
    let joined : (seen ++ m ∷ []) ++ ms ≡ seen ++ (m ∷ ms) = append_assoc seen (m ∷ []) ms in
    let rises : NamesRise ((seen ++ m ∷ []) ++ ms) = rw joined rise in
    let here : put m.key (data_of m.value) (members_data (map datum seen)) ≡ members_data (map datum (seen ++ m ∷ [])) = put_last m seen (rise_front (seen ++ m ∷ []) ms rises) in
    ap (option_and_then (λ d. reader.of_members (json_members (map member_json ms)) (put m.key d (members_data (map datum seen))))) (e.0 l.0 r.0)
    ∙ ap (reader.of_members (json_members (map member_json ms))) here ∙ members_value (seen ++ m ∷ []) ms e.1 rises l.1 r.1 ∙ ap (λ ns. Some (members_data (map datum ns))) joined

-- the JSON of a tree has the tree's value
pub of_json-json_of : (t : Tree) → is_lawful t ≡ true → is_in_range t ≡ true → reader.of_json (json_of t) ≡ Some (data_of t)
of_json-json_of = by_cases IsValue record {
  null = λ lawful ranged. ap reader.of_json json_of-Null ∙ ap Some (sym data_of-Null);
  boolean = λ b lawful ranged. ap reader.of_json (json_of-Bool b) ∙ ap Some (sym (data_of-Bool b));
  whole = λ z lawful ranged. ap reader.of_json (json_of-Whole z) ∙ ap (option_map number) (number_back z (sym (is_in_range-Whole z) ∙ ranged)) ∙ ap Some (sym (data_of-Whole z));
  version = λ lawful ranged. ap reader.of_json json_of-Version ∙ ap (option_map number) version_back ∙ ap Some (sym data_of-Version);
  text = λ s lawful ranged. ap reader.of_json (json_of-Text s) ∙ ap Some (sym (data_of-Text s));
  items = λ is e lawful ranged. ap reader.of_json (json_of-List is) ∙ ap (option_map array) (items_value is e (and_parts _ _ (sym (is_lawful-List is) ∙ lawful)).1 (sym (is_in_range-List is) ∙ ranged)) ∙ ap Some (sym (data_of-List is));
  members = λ ms e lawful ranged. let l = and_parts _ _ (sym (is_lawful-Object ms) ∙ lawful) in ap reader.of_json (json_of-Object ms) ∙ ap (option_map object) (members_value [] ms e l.0 l.1 (sym (is_in_range-Object ms) ∙ ranged)) ∙ ap Some (sym (data_of-Object ms));
}

whole : Option (json.Json × List Token) → Option Data
whole r = option_and_then reader.of_json (option_and_then (λ p. json.if_last p.0 p.1) r)

-- a text with the tokens of a tree reads as the tree's value
pub read_back : (t : Tree) (bytes : List ℕ) → tokens bytes ≡ jsons.json_tokens (json_of t) → is_lawful t ≡ true → is_in_range t ≡ true → levels_of t ≤ reader.max_depth → reader.read bytes ≡ Some (data_of t)
unfolding whole
read_back t bytes same lawful ranged shallow =
    let fits : jsons.depth (json_of t) ≤ reader.max_depth = rw (depth-json_of t) shallow in
    ap whole (ap (json.value reader.max_depth) (same ∙ sym (append-nil _)) ∙ value-json_tokens (json_of t) reader.max_depth [] fits) ∙ of_json-json_of t lawful ranged

-- ---- without a version number

abbrev IsOutline : Tree → Type 0
IsOutline t = holds_version t ≡ false → json_of t ≡ outline (data_of t)

outline_whole : (z : ℤ) → json.number (signed_decimal z) ≡ outline (number (of_integer z))
outline_whole (pos n) = refl
outline_whole (negsuc n) = refl

outline_items : (is : List (Item Tree)) → Each (λ (i : Item Tree). IsOutline i.value) is → list_any (λ i. holds_version i.value) is ≡ false → json_items (map item_json is) ≡ items_outline (items_of (map (λ i. data_of i.value) is))
outline_items [] e none = refl
outline_items (i ∷ is) e none = let p = or_parts (holds_version i.value) _ none in rw (e.0 p.0, outline_items is e.1 p.1) refl

outline_members : (ms : List (Member Tree)) → Each (λ (m : Member Tree). IsOutline m.value) ms → list_any (λ m. holds_version m.value) ms ≡ false → json_members (map member_json ms) ≡ members_outline (members_data (map datum ms))
outline_members [] e none = refl
outline_members (m ∷ ms) e none = let p = or_parts (holds_version m.value) _ none in rw (e.0 p.0, outline_members ms e.1 p.1) refl

outline_of : (t : Tree) → holds_version t ≡ false → json_of t ≡ outline (data_of t)
outline_of = by_cases IsOutline record {
  null = λ none. json_of-Null ∙ ap outline (sym data_of-Null);
  boolean = λ b none. json_of-Bool b ∙ ap outline (sym (data_of-Bool b));
  whole = λ z none. json_of-Whole z ∙ outline_whole z ∙ ap outline (sym (data_of-Whole z));
  version = λ none. absurd (true≢false (sym holds_version-Version ∙ none));
  text = λ s none. json_of-Text s ∙ ap outline (sym (data_of-Text s));
  items = λ is e none. json_of-List is ∙ ap json.array (outline_items is e (sym (holds_version-List is) ∙ none)) ∙ ap outline (sym (data_of-List is));
  members = λ ms e none. json_of-Object ms ∙ ap json.object (outline_members ms e (sym (holds_version-Object ms) ∙ none)) ∙ ap outline (sym (data_of-Object ms));
}

-- the compact text is what `serde_json` writes
pub compact_of-whole : (t : Tree) → holds_version t ≡ false → compact_of t ≡ compact_text (data_of t)
compact_of-whole t none = ap (λ j. print (jsons.json_tokens j)) (outline_of t none) ∙ print-outline (data_of t)

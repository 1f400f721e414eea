-- The canonical text of a tree reads as the tree with its lists renumbered: the reader puts the members of each object
-- back into the byte order of their names.
use Rattle.std.proofs.Common.{◌≡◌, ◌≤◌, ℕ, ℤ, suc, max, Bool, true, false, cond, List, [], ◌∷◌, ◌++◌, map, flat_map, Option, Some, None, Ok, Less, Equal, Greater, option_map, option_and_then, codes, append-nil, append_assoc, refl, sym, ap, ap₂, ◌∙◌, subst, arith, IsUtf8}
use Rattle.std.specs.Fmt.{signed_decimal}
use Rattle.std.specs.List.{AllByRecursion, list_all}
use Rattle.std.specs.List.Sorted.{IsStrictlySortedBy}
use Rattle.std.specs.Ordering.{nat_cmp, is_lt, ordering_reverse, match_ordering}
use Rattle.std.specs.Cmp.Lexicographic.{slice_cmp, nat_list_cmp_total}
use Rattle.std.proofs.lemmas.Bool.{and_parts}
use Rattle.json.specs.Json as json
use Rattle.json.specs.Lex.{tokens}
use Rattle.json.specs.Print.{print}
use Rattle.json.specs.Token.{Token}
use Rattle.json.specs.Tree as jsons
use Rattle.json.proofs.Printed.Trees.{value-json_tokens}
use Rattle.serde_json.specs.Data.{Data, item, Members, no_members, member, array, object, put}
use Rattle.serde_json.specs.Read as reader
use Rattle.base_types.specs.Order.{is_before, each_next}
use Rattle.base_types.proofs.Orders.{by_cmp}
use Rattle.base_types.proofs.Searching.{each_next-map, strict_from_next}
use Rattle.json_tree.specs.declared.tree.Tree.{Tree, fold-Tree, fold-roll-Tree}
use Rattle.json_tree.specs.declared.tree.Tree.TheOpen.{Tree-F}
use Rattle.json_tree.specs.declared.tree.Tree.TheVariants as v
use Rattle.json_tree.specs.declared.tree.Item.{Item}
use Rattle.json_tree.specs.declared.tree.Member.{Member}
use Rattle.json_tree.specs.Internal.Writes.{item_json, member_json}
use Rattle.json_tree.specs.Prints.{data_of, json_of, json_items, json_members}
use Rattle.json_tree.specs.Reads.{Reads}
use Rattle.json_tree.specs.Trees.{greatest, is_lawful, is_in_range, levels_of, nesting_of, nesting_limit, holds_version, renumbered}
use Rattle.json_tree.specs.WellFormed.{IsWellFormed}
use Rattle.json_tree.proofs.Compact.{of_json-json_of}
use Rattle.json_tree.proofs.Equations.{levels_of-Null, levels_of-Bool, levels_of-Whole, levels_of-Version, levels_of-Text, levels_of-List, levels_of-Object, json_of-Null, json_of-Bool, json_of-Whole, json_of-Version, json_of-Text, json_of-List, json_of-Object}
use Rattle.json_tree.proofs.Induction.{Each, by_cases}
use Rattle.json_tree.proofs.RoundTrip.{tree_of-data_of, levels_of-renumbered, misplaced-renumbered}
use Rattle.json_tree.proofs.TreeLemmas.{is_lawful-List, is_lawful-Object}
use Rattle.json_tree.proofs.Versionless.{misplaced-whole}
use Rattle.jcs_text.specs.Canonical.{is_upto_by_units, put_by_name, in_name_order}
use Rattle.jcs_text.specs.Internal.Writing.{tokens_of, item_tokens, member_tokens}
use Rattle.jcs_text.proofs.Equations.{tokens_of-Null, tokens_of-Bool, tokens_of-Whole, tokens_of-Version, tokens_of-Text, tokens_of-List, tokens_of-Object}
use Rattle.jcs_text.proofs.NameOrders.{order-all, order-map}

-- ---- a tree's JSON, the members of each object in the order of their names

-- the name of a member
abbrev pub key_of : {X : Type 0} → Member X → List ℕ
key_of m = m.key

abbrev order_step : Tree-F json.Json → json.Json
order_step Tree-F.Null = json.null
order_step (Tree-F.Bool b) = json.boolean b
order_step (Tree-F.Whole z) = json.number (signed_decimal z)
order_step Tree-F.Version = json.number (codes "1.1")
order_step (Tree-F.Text s) = json.string s
order_step (Tree-F.List items) = json.array (json_items items)
order_step (Tree-F.Object members) = json.object (json_members (in_name_order key_of members))

-- as `json_of`, but for that order
abbrev pub ordered_json : Tree → json.Json
ordered_json = fold-Tree json.Json order_step

abbrev item_ordered : Item Tree → Item json.Json
item_ordered i = record { at = i.at; value = ordered_json i.value }

abbrev member_ordered : Member Tree → Member json.Json
member_ordered m = record { key = m.key; value = ordered_json m.value }

ordered_json-Null : ordered_json v.Null ≡ json.null
ordered_json-Null = ap ordered_json (sym v.rolls-Null) ∙ fold-roll-Tree json.Json order_step Tree-F.Null

ordered_json-Bool : (b : Bool) → ordered_json (v.Bool b) ≡ json.boolean b
ordered_json-Bool b = ap ordered_json (sym (v.rolls-Bool b)) ∙ fold-roll-Tree json.Json order_step (Tree-F.Bool b)

ordered_json-Whole : (z : ℤ) → ordered_json (v.Whole z) ≡ json.number (signed_decimal z)
ordered_json-Whole z = ap ordered_json (sym (v.rolls-Whole z)) ∙ fold-roll-Tree json.Json order_step (Tree-F.Whole z)

ordered_json-Version : ordered_json v.Version ≡ json.number (codes "1.1")
ordered_json-Version = ap ordered_json (sym v.rolls-Version) ∙ fold-roll-Tree json.Json order_step Tree-F.Version

ordered_json-Text : (s : List ℕ) → ordered_json (v.Text s) ≡ json.string s
ordered_json-Text s = ap ordered_json (sym (v.rolls-Text s)) ∙ fold-roll-Tree json.Json order_step (Tree-F.Text s)

ordered_json-List : (is : List (Item Tree)) → ordered_json (v.List is) ≡ json.array (json_items (map item_ordered is))
ordered_json-List is = ap ordered_json (sym (v.rolls-List is)) ∙ fold-roll-Tree json.Json order_step (Tree-F.List is)

ordered_json-Object : (ms : List (Member Tree)) → ordered_json (v.Object ms) ≡ json.object (json_members (in_name_order key_of (map member_ordered ms)))
ordered_json-Object ms = ap ordered_json (sym (v.rolls-Object ms)) ∙ fold-roll-Tree json.Json order_step (Tree-F.Object ms)

-- ---- its tokens are the tree's

abbrev HasTokens : Tree → Type 0
HasTokens t = tokens_of t ≡ jsons.json_tokens (ordered_json t)

tokens_items : (is : List (Item Tree)) → Each (λ (i : Item Tree). HasTokens i.value) is → flat_map item_tokens is ++ Token.end_array ∷ [] ≡ jsons.items_tokens (json_items (map item_ordered is))
tokens_items [] e = refl
tokens_items (i ∷ is) e = append_assoc (item_tokens i) (flat_map item_tokens is) (Token.end_array ∷ []) ∙ ap₂ (λ ts us. ts ++ us) e.0 (tokens_items is e.1)

tokens_members : (ms : List (Member Tree)) → AllByRecursion (λ (m : Member Tree). HasTokens m.value) ms → flat_map member_tokens ms ++ Token.end_object ∷ [] ≡ jsons.members_tokens (json_members (map member_ordered ms))
tokens_members [] all = refl
tokens_members (m ∷ ms) all = ap (λ ts. Token.key m.key ∷ ts) (append_assoc (tokens_of m.value) (flat_map member_tokens ms) (Token.end_object ∷ []) ∙ ap₂ (λ ts us. ts ++ us) all.0 (tokens_members ms all.1))

all_of : (P : Tree → Type 0) (ms : List (Member Tree)) → Each (λ (m : Member Tree). P m.value) ms → AllByRecursion (λ (m : Member Tree). P m.value) ms
all_of P [] e = tt
all_of P (m ∷ ms) e = (e.0, all_of P ms e.1)

tokens_object : (ms : List (Member Tree)) → Each (λ (m : Member Tree). HasTokens m.value) ms → flat_map member_tokens (in_name_order key_of ms) ++ Token.end_object ∷ [] ≡ jsons.members_tokens (json_members (in_name_order key_of (map member_ordered ms)))
tokens_object ms e =
    tokens_members (in_name_order key_of ms) (order-all (λ (m : Member Tree). m.key) (λ (m : Member Tree). HasTokens m.value) ms (all_of HasTokens ms e))
    ∙ ap (λ ns. jsons.members_tokens (json_members ns)) (sym (order-map member_ordered (λ (m : Member json.Json). m.key) ms))

-- the tokens of a tree are those of its JSON in that order
pub tokens-ordered : (t : Tree) → tokens_of t ≡ jsons.json_tokens (ordered_json t)
tokens-ordered = by_cases HasTokens record {
  null = tokens_of-Null ∙ ap jsons.json_tokens (sym ordered_json-Null);
  boolean = λ b. tokens_of-Bool b ∙ ap jsons.json_tokens (sym (ordered_json-Bool b));
  whole = λ z. tokens_of-Whole z ∙ ap jsons.json_tokens (sym (ordered_json-Whole z));
  version = tokens_of-Version ∙ ap jsons.json_tokens (sym ordered_json-Version);
  text = λ s. tokens_of-Text s ∙ ap jsons.json_tokens (sym (ordered_json-Text s));
  items = λ is e. tokens_of-List is ∙ ap (λ ts. Token.begin_array ∷ ts) (tokens_items is e) ∙ ap jsons.json_tokens (sym (ordered_json-List is));
  members = λ ms e. tokens_of-Object ms ∙ ap (λ ts. Token.begin_object ∷ ts) (tokens_object ms e) ∙ ap jsons.json_tokens (sym (ordered_json-Object ms));
}

-- ---- its depth is the tree's

depth_put : (m : Member json.Json) (ns : List (Member json.Json)) → jsons.members_depth (json_members (put_by_name key_of m ns)) ≡ max (jsons.depth m.value) (jsons.members_depth (json_members ns))
depth_put m [] = refl
depth_put m (n ∷ ns) =
    let later : max (jsons.depth n.value) (jsons.members_depth (json_members (put_by_name key_of m ns))) ≡ max (jsons.depth m.value) (max (jsons.depth n.value) (jsons.members_depth (json_members ns))) =
    ap (max (jsons.depth n.value)) (depth_put m ns) ∙ omega arith in
    elim (is_upto_by_units m.key n.key) as (λ t. jsons.members_depth (json_members (cond t (m ∷ (n ∷ ns)) (n ∷ put_by_name key_of m ns))) ≡ max (jsons.depth m.value) (max (jsons.depth n.value) (jsons.members_depth (json_members ns)))) [ true ↦ refl | false ↦ later ]

depth_order : (ms : List (Member json.Json)) → jsons.members_depth (json_members (in_name_order key_of ms)) ≡ jsons.members_depth (json_members ms)
depth_order [] = refl
depth_order (m ∷ ms) = depth_put m (in_name_order key_of ms) ∙ ap (max (jsons.depth m.value)) (depth_order ms)

abbrev HasDepth : Tree → Type 0
HasDepth t = jsons.depth (ordered_json t) ≡ levels_of t

depth_items : (is : List (Item Tree)) → Each (λ (i : Item Tree). HasDepth i.value) is → jsons.items_depth (json_items (map item_ordered is)) ≡ greatest (map (λ i. levels_of i.value) is)
depth_items [] e = refl
depth_items (i ∷ is) e = ap₂ max e.0 (depth_items is e.1)

depth_members : (ms : List (Member Tree)) → Each (λ (m : Member Tree). HasDepth m.value) ms → jsons.members_depth (json_members (map member_ordered ms)) ≡ greatest (map (λ m. levels_of m.value) ms)
depth_members [] e = refl
depth_members (m ∷ ms) e = ap₂ max e.0 (depth_members ms e.1)

-- it nests as the tree does
pub depth-ordered : (t : Tree) → jsons.depth (ordered_json t) ≡ levels_of t
depth-ordered = by_cases HasDepth record {
  null = ap jsons.depth ordered_json-Null ∙ sym levels_of-Null;
  boolean = λ b. ap jsons.depth (ordered_json-Bool b) ∙ sym (levels_of-Bool b);
  whole = λ z. ap jsons.depth (ordered_json-Whole z) ∙ sym (levels_of-Whole z);
  version = ap jsons.depth ordered_json-Version ∙ sym levels_of-Version;
  text = λ s. ap jsons.depth (ordered_json-Text s) ∙ sym (levels_of-Text s);
  items = λ is e. ap jsons.depth (ordered_json-List is) ∙ ap suc (depth_items is e) ∙ sym (levels_of-List is);
  members = λ ms e. ap jsons.depth (ordered_json-Object ms) ∙ ap suc (depth_order (map member_ordered ms) ∙ depth_members ms e) ∙ sym (levels_of-Object ms);
}

-- ---- the reader keeps members in the byte order of their names, in whatever order they come

put_Less : (k l : List ℕ) (d e : Data) (ms : Members) → slice_cmp nat_cmp k l ≡ Less → put k d (member l e ms) ≡ member k d (member l e ms)
put_Less k l d e ms h = ap (λ o. match_ordering o (member k d (member l e ms)) (member l d ms) (member l e (put k d ms))) h

put_Equal : (k l : List ℕ) (d e : Data) (ms : Members) → slice_cmp nat_cmp k l ≡ Equal → put k d (member l e ms) ≡ member l d ms
put_Equal k l d e ms h = ap (λ o. match_ordering o (member k d (member l e ms)) (member l d ms) (member l e (put k d ms))) h

put_Greater : (k l : List ℕ) (d e : Data) (ms : Members) → slice_cmp nat_cmp k l ≡ Greater → put k d (member l e ms) ≡ member l e (put k d ms)
put_Greater k l d e ms h = ap (λ o. match_ordering o (member k d (member l e ms)) (member l d ms) (member l e (put k d ms))) h

turned : (k l : List ℕ) → slice_cmp nat_cmp k l ≡ Less → slice_cmp nat_cmp l k ≡ Greater
turned k l h = nat_list_cmp_total.antisymm l k ∙ ap ordering_reverse h

turned_back : (k l : List ℕ) → slice_cmp nat_cmp k l ≡ Greater → slice_cmp nat_cmp l k ≡ Less
turned_back k l h = nat_list_cmp_total.antisymm l k ∙ ap ordering_reverse h

-- members of two names may be put in either before the other
put_swap : (k l : List ℕ) (d e : Data) (ms : Members) → slice_cmp nat_cmp k l ≡ Less → put k d (put l e ms) ≡ put l e (put k d ms)
put_swap k l d e no_members less = put_Less k l d e no_members less ∙ sym (put_Greater l k e d no_members (turned k l less))
put_swap k l d e (member m c ms) less =
    let above : slice_cmp nat_cmp l k ≡ Greater = turned k l less in
    by_cmp (put k d (put l e (member m c ms)) ≡ put l e (put k d (member m c ms))) k m
    (λ below.
    let after : put l e (put k d (member m c ms)) ≡ member k d (put l e (member m c ms)) = ap (put l e) (put_Less k m d c ms below) ∙ put_Greater l k e d (member m c ms) above in
    let before : put k d (put l e (member m c ms)) ≡ member k d (put l e (member m c ms)) =
    by_cmp (put k d (put l e (member m c ms)) ≡ member k d (put l e (member m c ms))) l m
    (λ h. ap (put k d) (put_Less l m e c ms h) ∙ put_Less k l d e (member m c ms) less ∙ ap (member k d) (sym (put_Less l m e c ms h)))
    (λ h. ap (put k d) (put_Equal l m e c ms h) ∙ put_Less k m d e ms below ∙ ap (member k d) (sym (put_Equal l m e c ms h)))
    (λ h. ap (put k d) (put_Greater l m e c ms h) ∙ put_Less k m d c (put l e ms) below ∙ ap (member k d) (sym (put_Greater l m e c ms h))) in
    before ∙ sym after)
    (λ tied.
    let past : slice_cmp nat_cmp l m ≡ Greater = turned m l (sym (nat_list_cmp_total.congr k m l tied) ∙ less) in
    ap (put k d) (put_Greater l m e c ms past) ∙ put_Equal k m d c (put l e ms) tied ∙ sym (ap (put l e) (put_Equal k m d c ms tied) ∙ put_Greater l m e d ms past))
    (λ over.
    let past : slice_cmp nat_cmp l m ≡ Greater = turned m l (nat_list_cmp_total.trans m k l (turned_back k m over) less) in
    ap (put k d) (put_Greater l m e c ms past) ∙ put_Greater k m d c (put l e ms) over ∙ ap (member m c) (put_swap k l d e ms less)
    ∙ sym (ap (put l e) (put_Greater k m d c ms over) ∙ put_Greater l m e c (put k d ms) past))

swapped : (rest : json.Members) (k l : List ℕ) (found : Members) (o p : Option Data) → slice_cmp nat_cmp k l ≡ Less
    → option_and_then (λ e. option_and_then (λ d. reader.of_members rest (put k d (put l e found))) o) p ≡ option_and_then (λ d. option_and_then (λ e. reader.of_members rest (put l e (put k d found))) p) o
swapped rest k l found None None less = refl
swapped rest k l found None (Some e) less = refl
swapped rest k l found (Some d) None less = refl
swapped rest k l found (Some d) (Some e) less = ap (reader.of_members rest) (put_swap k l d e found less)

-- chains of one first step agree where all that may follow does
then_same : (f g : Data → Option Members) (o : Option Data) → ((d : Data) → f d ≡ g d) → option_and_then f o ≡ option_and_then g o
then_same f g None same = refl
then_same f g (Some d) same = same d

-- a member whose name comes before all others may go to its place
read_put : (m : Member json.Json) (ns : List (Member json.Json)) (found : Members) → AllByRecursion (λ (n : Member json.Json). slice_cmp nat_cmp m.key n.key ≡ Less) ns → reader.of_members (json_members (put_by_name key_of m ns)) found ≡ reader.of_members (json_members (m ∷ ns)) found
read_put m [] found all = refl
read_put m (n ∷ ns) found all =
    let later : reader.of_members (json_members (n ∷ put_by_name key_of m ns)) found ≡ reader.of_members (json_members (m ∷ (n ∷ ns))) found =
    then_same (λ e. reader.of_members (json_members (put_by_name key_of m ns)) (put n.key e found)) (λ e. reader.of_members (json_members (m ∷ ns)) (put n.key e found)) (reader.of_json n.value) (λ e. read_put m ns (put n.key e found) all.1)
    ∙ swapped (json_members ns) m.key n.key found (reader.of_json m.value) (reader.of_json n.value) all.0 in
    elim (is_upto_by_units m.key n.key) as (λ t. reader.of_members (json_members (cond t (m ∷ (n ∷ ns)) (n ∷ put_by_name key_of m ns))) found ≡ reader.of_members (json_members (m ∷ (n ∷ ns))) found) [ true ↦ refl | false ↦ later ]

keys_above : (k : List ℕ) (ms : List (Member json.Json)) → AllByRecursion (λ l. slice_cmp nat_cmp k l ≡ Less) (map key_of ms) → AllByRecursion (λ (m : Member json.Json). slice_cmp nat_cmp k m.key ≡ Less) ms
keys_above k [] all = tt
keys_above k (m ∷ ms) all = (all.0, keys_above k ms all.1)

-- members whose names rise read alike in the order of their code units
read_order : (ms : List (Member json.Json)) (found : Members) → IsStrictlySortedBy (slice_cmp nat_cmp) (map key_of ms) → reader.of_members (json_members (in_name_order key_of ms)) found ≡ reader.of_members (json_members ms) found
unfolding IsStrictlySortedBy
read_order [] found rise = refl
read_order (m ∷ ms) found rise =
    read_put m (in_name_order key_of ms) found (order-all (λ (n : Member json.Json). n.key) (λ (n : Member json.Json). slice_cmp nat_cmp m.key n.key ≡ Less) ms (keys_above m.key ms rise.0))
    ∙ then_same (λ d. reader.of_members (json_members (in_name_order key_of ms)) (put m.key d found)) (λ d. reader.of_members (json_members ms) (put m.key d found)) (reader.of_json m.value) (λ d. read_order ms (put m.key d found) rise.1)

keys_ordered : (ms : List (Member Tree)) → map key_of (map member_ordered ms) ≡ map key_of ms
keys_ordered [] = refl
keys_ordered (m ∷ ms) = ap (λ ks. m.key ∷ ks) (keys_ordered ms)

names_strict : (ms : List (Member Tree)) → each_next (λ m n. is_before m.key n.key) ms ≡ true → IsStrictlySortedBy (slice_cmp nat_cmp) (map key_of (map member_ordered ms))
names_strict ms rise = subst (IsStrictlySortedBy (slice_cmp nat_cmp)) (sym (keys_ordered ms)) (strict_from_next nat_list_cmp_total (map key_of ms) (each_next-map key_of (λ k l. is_lt (slice_cmp nat_cmp k l)) ms ∙ rise))

-- ---- its value is the tree's

abbrev HasValue : Tree → Type 0
HasValue t = is_lawful t ≡ true → reader.of_json (ordered_json t) ≡ reader.of_json (json_of t)

value_items : (is : List (Item Tree)) → Each (λ (i : Item Tree). HasValue i.value) is → list_all (λ i. is_lawful i.value) is ≡ true → reader.of_items (json_items (map item_ordered is)) ≡ reader.of_items (json_items (map item_json is))
value_items [] e lawful = refl
value_items (i ∷ is) e lawful =
    let l = and_parts (is_lawful i.value) _ lawful in
    ap₂ (λ js d. option_and_then (λ x. option_map (item x) js) d) (value_items is e.1 l.1) (e.0 l.0)

value_members : (ms : List (Member Tree)) (found : Members) → Each (λ (m : Member Tree). HasValue m.value) ms → list_all (λ m. is_lawful m.value) ms ≡ true → reader.of_members (json_members (map member_ordered ms)) found ≡ reader.of_members (json_members (map member_json ms)) found
value_members [] found e lawful = refl
value_members (m ∷ ms) found e lawful =
    let l = and_parts (is_lawful m.value) _ lawful in
    ap (option_and_then (λ d. reader.of_members (json_members (map member_ordered ms)) (put m.key d found))) (e.0 l.0)
    ∙ then_same (λ d. reader.of_members (json_members (map member_ordered ms)) (put m.key d found)) (λ d. reader.of_members (json_members (map member_json ms)) (put m.key d found)) (reader.of_json (json_of m.value)) (λ d. value_members ms (put m.key d found) e.1 l.1)

value_object : (ms : List (Member Tree)) → Each (λ (m : Member Tree). HasValue m.value) ms → is_lawful (v.Object ms) ≡ true → reader.of_members (json_members (in_name_order key_of (map member_ordered ms))) no_members ≡ reader.of_members (json_members (map member_json ms)) no_members
value_object ms e lawful =
    let l = and_parts _ _ (sym (is_lawful-Object ms) ∙ lawful) in
    read_order (map member_ordered ms) no_members (names_strict ms l.0) ∙ value_members ms no_members e l.1

-- a lawful tree's JSON reads alike in the order of names and in byte order
pub of_json-ordered : (t : Tree) → is_lawful t ≡ true → reader.of_json (ordered_json t) ≡ reader.of_json (json_of t)
of_json-ordered = by_cases HasValue record {
  null = λ lawful. ap reader.of_json (ordered_json-Null ∙ sym json_of-Null);
  boolean = λ b lawful. ap reader.of_json (ordered_json-Bool b ∙ sym (json_of-Bool b));
  whole = λ z lawful. ap reader.of_json (ordered_json-Whole z ∙ sym (json_of-Whole z));
  version = λ lawful. ap reader.of_json (ordered_json-Version ∙ sym json_of-Version);
  text = λ s lawful. ap reader.of_json (ordered_json-Text s ∙ sym (json_of-Text s));
  items = λ is e lawful. ap reader.of_json (ordered_json-List is) ∙ ap (option_map array) (value_items is e (and_parts _ _ (sym (is_lawful-List is) ∙ lawful)).1) ∙ ap reader.of_json (sym (json_of-List is));
  members = λ ms e lawful. ap reader.of_json (ordered_json-Object ms) ∙ ap (option_map object) (value_object ms e lawful) ∙ ap reader.of_json (sym (json_of-Object ms));
}

-- ---- the whole text

abbrev whole : Option (json.Json × List Token) → Option Data
whole r = option_and_then reader.of_json (option_and_then (λ p. json.if_last p.0 p.1) r)

-- a text with the tokens of a tree reads as the tree's value
pub read_value : (t : Tree) (bytes : List ℕ) → tokens bytes ≡ tokens_of t → is_lawful t ≡ true → is_in_range t ≡ true → levels_of t ≤ reader.max_depth → reader.read bytes ≡ Some (data_of t)
read_value t bytes same lawful ranged shallow =
    let fits : jsons.depth (ordered_json t) ≤ reader.max_depth = rw (depth-ordered t) shallow in
    ap whole (ap (json.value reader.max_depth) (same ∙ tokens-ordered t ∙ sym (append-nil _)) ∙ value-json_tokens (ordered_json t) reader.max_depth [] fits)
    ∙ of_json-ordered t lawful ∙ of_json-json_of t lawful ranged

-- so the text of a well-formed tree without a version number reads as the tree renumbered
pub read_back : (t : Tree) (text : List ℕ) (printed : List Token) → holds_version t ≡ false → text ≡ print printed → tokens (print printed) ≡ printed → IsUtf8 (print printed) → printed ≡ tokens_of t → IsWellFormed t → nesting_of t ≤ nesting_limit → Reads text (Ok (renumbered t))
read_back t text printed none same back utf8 made well shallow =
    let fits : levels_of t ≤ reader.max_depth = omega arith in
    let spelled : reader.read text ≡ Some (data_of t) = read_value t text (ap tokens same ∙ back ∙ made) well.lawful well.in_range fits in (
      record { value = data_of t; spelled = (rw same utf8, spelled); is = sym (tree_of-data_of t) },
      rw (levels_of-renumbered t) shallow,
      misplaced-renumbered t false (misplaced-whole t none false),
    )

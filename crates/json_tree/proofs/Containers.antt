-- Lists and objects made of the elements and members that were read.
use Rattle.std.proofs.Common.{◌≡◌, ℕ, ◌+◌, true, nat_lt, List, [], ◌∷◌, ◌++◌, map, String, string_bytes, string_cmp, Vec, BTreeMap, append-nil, refl, sym, ap, ◌∙◌, arith}
use Rattle.std.specs.declared.alloc.Global.{Global}
use Rattle.std.specs.List.{list_all}
use Rattle.std.specs.Ordering.{is_lt}
use Rattle.std.specs.List.Sorted.{IsStrictlySortedBy}
use Rattle.std.specs.Map.{keys_of}
use Rattle.std.proofs.lemmas.Bool.Decides.{nat_tests}
use Rattle.serde_json.specs.Data.{array, object, Items, no_items, item, Members}
use Rattle.serde_json.specs.View.{view, items_view, members_view}
use Rattle.serde_json.specs.declared.value.Value.{Value}
use Rattle.serde_json.specs.declared.value.Value.TheVariants as reader
use Rattle.serde_json.proofs.Views.{view-Array, view-Object}
use Rattle.json_tree.specs.declared.tree.Tree.{Tree}
use Rattle.json_tree.specs.declared.tree.Tree.TheVariants as v
use Rattle.json_tree.specs.declared.tree.Item.{Item}
use Rattle.json_tree.specs.declared.tree.Member.{Member}
use Rattle.json_tree.specs.Trees.{elements_of, entries_of, each_next, is_before, is_lawful, is_in_range}
use Rattle.json_tree.specs.Internal.Reading.{IsTreeOf, AreElementsOf, AreEntriesOf}
use Rattle.json_tree.proofs.Rising.{NamesRise}
use Rattle.json_tree.proofs.TreeLemmas.{is_lawful-List, is_lawful-Object}
use Rattle.json_tree.proofs.Equations.{is_in_range-List, is_in_range-Object}
use Rattle.std.proofs.lemmas.Bool.{and_from}

-- the indexes of what is read rise
pub elements_rise : (n : ℕ) (ds : Items) → each_next (λ i j. nat_lt i.at j.at) (elements_of n ds) ≡ true
elements_rise n no_items = refl
elements_rise n (item d no_items) = refl
elements_rise n (item d (item e ds)) =
    let next : nat_lt n (n + 1) ≡ true = grind (arith, nat_tests) in
    and_from (nat_lt n (n + 1)) _ next (elements_rise (n + 1) (item e ds))

-- the names of a map's members rise
pub entries_rise : (es : List (String Global × Value)) → IsStrictlySortedBy string_cmp (keys_of es) → NamesRise (entries_of (members_view es))
unfolding IsStrictlySortedBy
entries_rise [] s = refl
entries_rise (a ∷ []) s = refl
entries_rise (a ∷ (b ∷ es)) s = and_from (is_before (string_bytes a.0) (string_bytes b.0)) _ (ap is_lt s.0.0) (entries_rise (b ∷ es) s.1)

-- elements made of an array's values make a list, which is the array's tree
pub list_made : (ds : Items) (es : List (Item Tree)) → AreElementsOf ds es → IsTreeOf (array ds) (v.List es)
list_made ds es made = record {
  is = ap v.List made.is;
  lawful = is_lawful-List es ∙ and_from _ _ (ap (each_next (λ i j. nat_lt i.at j.at)) made.is ∙ elements_rise 0 ds) made.lawful;
  in_range = is_in_range-List es ∙ made.in_range;
}

-- members made of an object's entries make an object, which is the object's tree
pub object_made : (ms : Members) (members : List (Member Tree)) → AreEntriesOf ms members → IsTreeOf (object ms) (v.Object members)
object_made ms members made = record {
  is = ap v.Object made.is;
  lawful = is_lawful-Object members ∙ and_from _ _ made.rising made.lawful;
  in_range = is_in_range-Object members ∙ made.in_range;
}

-- the same of a value of the reader's
pub list_read : (value : Value) (items : Vec Value Global) (values : List Value) (es : List (Item Tree)) → value ≡ reader.Array items → values ≡ items.items → AreElementsOf (items_view values) es → IsTreeOf (view value) (v.List es)
list_read value items values es is same made = rw (is, view-Array, ← same) (list_made (items_view values) es made)

-- the same of an object of the reader's
pub object_read : (value : Value) (map : BTreeMap (String Global) Value) (members : List (Member Tree)) → value ≡ reader.Object map → AreEntriesOf (members_view map.entries) members → IsTreeOf (view value) (v.Object members)
object_read value map members is made = rw (is, view-Object) (object_made (members_view map.entries) members made)

-- at the end of a map nothing is left to read
pub entries_made : (es left : List (String Global × Value)) (members : List (Member Tree)) → entries_of (members_view es) ≡ members ++ entries_of (members_view left) → left ≡ [] → IsStrictlySortedBy string_cmp (keys_of es) → list_all (λ m. is_lawful m.value) members ≡ true → list_all (λ m. is_in_range m.value) members ≡ true → AreEntriesOf (members_view es) members
entries_made es left members read none sorted lawful in_range =
    let is : members ≡ entries_of (members_view es) = sym (read ∙ ap (λ l. members ++ entries_of (members_view l)) none ∙ append-nil members) in
    record { is = is; rising = ap (each_next (λ m n. is_before m.key n.key)) is ∙ entries_rise es sorted; lawful = lawful; in_range = in_range }

-- What printing writes, token by token.
use Rattle.std.proofs.Common.{◌≡◌, ◌≤◌, ℕ, ◌<◌, ◌+◌, suc, zero, ℤ, true, Bool, List, [], ◌∷◌, map, length, get_or, drop, ◌++◌, append_assoc, drop_of_length-le, refl, sym, ap, ◌∙◌, arith}
use Rattle.std.specs.List.{list_all}
use Rattle.json.specs.Token.{Token}
use Rattle.json.specs.Tree.{json_tokens, items_tokens, members_tokens}
use Rattle.std.specs.Prelude.{codes}
use Rattle.json.specs.Written.{Written}
use Rattle.json.specs.Word.{after_number}
use Rattle.json.specs.Print.{IsNumber, print}
use Rattle.base_types.proofs.Lists.{drop-next}
use Rattle.json_tree.specs.Internal.Writes.{HasWritten, item_json, member_json}
use Rattle.json_tree.specs.declared.tree.Tree.{Tree, the_lemmas}
use Rattle.json_tree.specs.declared.tree.Tree.TheVariants as v
use Rattle.json_tree.specs.declared.tree.Item.{Item}
use Rattle.json_tree.specs.declared.tree.Member.{Member}
use Rattle.json_tree.specs.Trees.{is_in_range, is_64_bits}
use Rattle.json_tree.specs.Prints.{json_of, json_items, json_members, compact_of}
use Rattle.json_tree.proofs.Rising.{left_of, right_of}
use Rattle.json_tree.proofs.Equations.{is_in_range-Whole, is_in_range-List, is_in_range-Object, json_of-Null, json_of-Bool, json_of-Whole, json_of-Version, json_of-Text, json_of-List, json_of-Object}

-- ---- what is asked of each value inside

-- what all elements pass, the one at a place passes
pub passes_at : {X : Type 0} (test : X → Bool) (xs : List X) (k : ℕ) (x : X) → list_all test xs ≡ true → k < length xs → x ≡ get_or xs k x → test x ≡ true
passes_at test [] k x all l is = absurd (omega arith)
passes_at test (y ∷ ys) zero x all l is = ap test is ∙ left_of (test y) _ all
passes_at test (y ∷ ys) (suc k) x all l is = passes_at test ys k x (right_of (test y) _ all) (omega arith) is

-- where all elements are in range, the one at a place is
pub item_is_in_range : (items : List (Item Tree)) (k : ℕ) (i : Item Tree) → list_all (λ i. is_in_range i.value) items ≡ true → k < length items → i ≡ get_or items k i → is_in_range i.value ≡ true
item_is_in_range items k i all l is = passes_at (λ i. is_in_range i.value) items k i all l is

-- where all members' values are in range, that of the one at a place is
pub member_is_in_range : (members : List (Member Tree)) (k : ℕ) (m : Member Tree) → list_all (λ m. is_in_range m.value) members ≡ true → k < length members → m ≡ get_or members k m → is_in_range m.value ≡ true
member_is_in_range members k m all l is = passes_at (λ m. is_in_range m.value) members k m all l is

-- the elements of a list that is in range are in range
pub items_are_in_range : (t : Tree) (items seen : List (Item Tree)) → is_in_range t ≡ true → t ≡ v.List items → seen ≡ items → list_all (λ i. is_in_range i.value) seen ≡ true
items_are_in_range t items seen ranged is same = ap (list_all (λ i. is_in_range i.value)) same ∙ sym (is_in_range-List items) ∙ ap is_in_range (sym is) ∙ ranged

-- the members' values of an object that is in range are in range
pub members_are_in_range : (t : Tree) (members seen : List (Member Tree)) → is_in_range t ≡ true → t ≡ v.Object members → seen ≡ members → list_all (λ m. is_in_range m.value) seen ≡ true
members_are_in_range t members seen ranged is same = ap (list_all (λ m. is_in_range m.value)) same ∙ sym (is_in_range-Object members) ∙ ap is_in_range (sym is) ∙ ranged

-- 64 bits hold a whole number that is in range, with a sign or without
pub number_is_in_range : (t : Tree) (z : ℤ) → is_in_range t ≡ true → t ≡ v.Whole z → is_64_bits z ≡ true
number_is_in_range t z ranged is = sym (is_in_range-Whole z) ∙ ap is_in_range (sym is) ∙ ranged

-- the version's text is a number of RFC 8259
pub version_number : IsNumber (codes "1.1")
unfolding after_number
version_number = refl

-- ---- one turn of each loop

-- what is written and what is left to write, with one element more
pub items_next : (items : List (Item Tree)) (k next : ℕ) (i : Item Tree) (old new whole : List Token) → old ++ items_tokens (json_items (map item_json (drop k items))) ≡ whole → next ≡ k + 1 → k < length items → i ≡ get_or items k i → new ≡ old ++ json_tokens (json_of i.value) → new ++ items_tokens (json_items (map item_json (drop next items))) ≡ whole
items_next items k next i old new whole so is within here more =
    let rest = items_tokens (json_items (map item_json (drop (k + 1) items))) in
    rw (is, more) (append_assoc old (json_tokens (json_of i.value)) rest
    ∙ ap (λ js. old ++ items_tokens (json_items (map item_json js))) (sym (drop-next items k i within here)) ∙ so)

-- and with one member more: its name, and then its value
pub members_next : (members : List (Member Tree)) (k next : ℕ) (m : Member Tree) (old named new whole : List Token) → old ++ members_tokens (json_members (map member_json (drop k members))) ≡ whole → next ≡ k + 1 → k < length members → m ≡ get_or members k m → named ≡ old ++ Token.key m.key ∷ [] → new ≡ named ++ json_tokens (json_of m.value) → new ++ members_tokens (json_members (map member_json (drop next members))) ≡ whole
members_next members k next m old named new whole so is within here first more =
    let rest = members_tokens (json_members (map member_json (drop (k + 1) members))) in
    rw (is, more, first) (append_assoc (old ++ Token.key m.key ∷ []) (json_tokens (json_of m.value)) rest ∙ append_assoc old (Token.key m.key ∷ []) (json_tokens (json_of m.value) ++ rest)
    ∙ ap (λ js. old ++ members_tokens (json_members (map member_json js))) (sym (drop-next members k m within here)) ∙ so)

-- ---- the whole of a list and of an object

-- a list between its brackets
pub items_written : (items : List (Item Tree)) (k : ℕ) (old opened done closed : Written) → opened.tokens ≡ old.tokens ++ Token.begin_array ∷ [] → opened.before ≡ old.before → done.tokens ++ items_tokens (json_items (map item_json (drop k items))) ≡ opened.tokens ++ items_tokens (json_items (map item_json items)) → done.before ≡ opened.before → length items ≤ k → closed.tokens ≡ done.tokens ++ Token.end_array ∷ [] → closed.before ≡ done.before → HasWritten old closed (Token.begin_array ∷ items_tokens (json_items (map item_json items)))
items_written items k old opened done closed opens same so kept at_end closes last =
    let none : drop k items ≡ [] = drop_of_length-le items at_end in
    record {
      written = closes ∙ ap (λ is. done.tokens ++ items_tokens (json_items (map item_json is))) (sym none) ∙ so
          ∙ ap (λ ts. ts ++ items_tokens (json_items (map item_json items))) opens ∙ append_assoc old.tokens (Token.begin_array ∷ []) _;
      before = last ∙ kept ∙ same;
    }

-- an object between its braces
pub members_written : (members : List (Member Tree)) (k : ℕ) (old opened done closed : Written) → opened.tokens ≡ old.tokens ++ Token.begin_object ∷ [] → opened.before ≡ old.before → done.tokens ++ members_tokens (json_members (map member_json (drop k members))) ≡ opened.tokens ++ members_tokens (json_members (map member_json members)) → done.before ≡ opened.before → length members ≤ k → closed.tokens ≡ done.tokens ++ Token.end_object ∷ [] → closed.before ≡ done.before → HasWritten old closed (Token.begin_object ∷ members_tokens (json_members (map member_json members)))
members_written members k old opened done closed opens same so kept at_end closes last =
    let none : drop k members ≡ [] = drop_of_length-le members at_end in
    record {
      written = closes ∙ ap (λ ms. done.tokens ++ members_tokens (json_members (map member_json ms))) (sym none) ∙ so
          ∙ ap (λ ts. ts ++ members_tokens (json_members (map member_json members))) opens ∙ append_assoc old.tokens (Token.begin_object ∷ []) _;
      before = last ∙ kept ∙ same;
    }

pub ruleset print_steps = (
  the_lemmas,
  item_is_in_range,
  member_is_in_range,
  items_are_in_range,
  members_are_in_range,
  number_is_in_range,
  version_number,
  json_of-Null,
  json_of-Bool,
  json_of-Whole,
  json_of-Version,
  json_of-Text,
  json_of-List,
  json_of-Object,
)

-- ---- the whole text

-- what the writer held before was nothing, so all is the tree's
pub printed_whole : (t : Tree) (bytes : List ℕ) (opened closed : Written) → opened.before ≡ [] → opened.tokens ≡ [] → HasWritten opened closed (json_tokens (json_of t)) → bytes ≡ closed.before ++ print closed.tokens → bytes ≡ compact_of t
printed_whole t bytes opened closed nothing none w is =
    let same : closed.tokens ≡ json_tokens (json_of t) = w.written ∙ ap (λ ts. ts ++ json_tokens (json_of t)) none in
    is ∙ ap (λ bs. bs ++ print closed.tokens) (w.before ∙ nothing) ∙ ap print same

-- and so are the tokens
pub printed_tokens : (t : Tree) (opened closed : Written) → opened.tokens ≡ [] → HasWritten opened closed (json_tokens (json_of t)) → closed.tokens ≡ json_tokens (json_of t)
printed_tokens t opened closed none w = w.written ∙ ap (λ ts. ts ++ json_tokens (json_of t)) none

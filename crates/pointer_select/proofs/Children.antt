-- The child to which a step leads, by its index in the present order.
use Rattle.std.proofs.Common.{◌≡◌, ◌<◌, ℕ, ℤ, zero, suc, Bool, true, false, ◌==◌, nat_lt, cond, List, [], ◌∷◌, map, length, get_or, Option, Some, None, find, Equal, refl, sym, ap, ◌∙◌, subst, arith, inl, inr}
use Rattle.std.specs.Str.{bytes_eq}
use Rattle.std.specs.Ordering.{nat_cmp, is_eq}
use Rattle.std.specs.Cmp.Lexicographic.{slice_cmp}
use Rattle.std.specs.List.{HoldsAt}
use Rattle.std.proofs.lemmas.Bool.{cases_Bool, and_parts}
use Rattle.std.proofs.lemmas.Bool.Decides.{nat_tests}
use Rattle.std.proofs.lemmas.Map.Lookups.{exact_unsigned}
use Rattle.std.proofs.lemmas.Map.Text.{is_eq-slice_cmp}
use Rattle.std.proofs.lemmas.Option.{none-some}
use Rattle.base_types.proofs.Orders.{bytes_eq-same, bytes_eq-true, bytes_eq-false, bytes_eq-differ, is_before-differs}
use Rattle.base_types.proofs.Searching.{each_next-tail}
use Rattle.json_tree.specs.declared.tree.Tree.{Tree}
use Rattle.json_tree.specs.declared.tree.Tree.TheVariants as v
use Rattle.json_tree.specs.declared.tree.Item.{Item}
use Rattle.json_tree.specs.declared.tree.Member.{Member}
use Rattle.json_tree.specs.declared.place.Step.{Step}
use Rattle.json_tree.specs.declared.place.Step.TheVariants.{Key, At}
use Rattle.json_tree.specs.Trees.{each_next, element, new_member}
use Rattle.json_tree.proofs.Rising.{NamesRise, first_is_before}
use Rattle.pointer_select.specs.Internal.Parts.{steps_in, steps_of, StandsOnly}

-- ---- members

abbrev key_steps : List (Member Tree) → List Step
key_steps members = map (λ m. Key m.key) members

other_way : (a b : List ℕ) → bytes_eq a b ≡ false → bytes_eq b a ≡ false
other_way a b h = bytes_eq-false b a (λ e. bytes_eq-differ a b h (sym e))

-- no member has the name
pub no_member : (key : List ℕ) (members : List (Member Tree)) → find (λ m. bytes_eq m.key key) members ≡ None → StandsOnly (Key key) (key_steps members) None
no_member key [] h = tt
no_member key (m ∷ ms) h = elim (cases_Bool (bytes_eq m.key key)) [
  | inl this ↦ absurd (none-some m (sym h ∙ ap (λ (b : Bool). cond b (Some m) (find (λ m. bytes_eq m.key key) ms)) this))
  | inr other ↦ (other_way m.key key other, no_member key ms (sym (ap (λ (b : Bool). cond b (Some m) (find (λ m. bytes_eq m.key key) ms)) other) ∙ h))
]

later_members : (m : Member Tree) (ms : List (Member Tree)) → ((k : ℕ) (d : Member Tree) → k < length ms → bytes_eq m.key (get_or ms k d).key ≡ false) → StandsOnly (Key m.key) (key_steps ms) None
later_members m [] h = tt
later_members m (n ∷ ns) h = (h 0 n (omega arith), later_members m ns (λ k d l. h (suc k) d (omega arith)))

member_at : (ms : List (Member Tree)) (k : ℕ) (d : Member Tree) → NamesRise ms → k < length ms → StandsOnly (Key (get_or ms k d).key) (key_steps ms) (Some k)
member_at [] k d rise within = absurd (omega arith)
member_at (m ∷ ms) zero d rise within = (bytes_eq-same m.key m.key refl, later_members m ms (λ k e l. is_before-differs m.key (get_or ms k e).key (first_is_before m ms k e rise l)))
member_at (m ∷ ms) (suc k) d rise within = (other_way m.key (get_or ms k d).key (is_before-differs m.key (get_or ms k d).key (first_is_before m ms k d rise (omega arith))), member_at ms k d (each_next-tail _ m ms rise) (omega arith))

-- the member at which the search ends
pub the_member : (ms : List (Member Tree)) (key : List ℕ) (at : ℕ) → NamesRise ms → at < length ms → HoldsAt (λ m. slice_cmp nat_cmp m.key key ≡ Equal) ms at → StandsOnly (Key key) (key_steps ms) (Some at)
the_member ms key at rise within equal =
    let d = new_member [] v.Null in
    let same : (get_or ms at d).key ≡ key = bytes_eq-true (get_or ms at d).key key (sym (is_eq-slice_cmp (get_or ms at d).key key) ∙ ap is_eq (equal d)) in
    subst (λ (k : List ℕ). StandsOnly (Key k) (key_steps ms) (Some at)) same (member_at ms at d rise within)

-- ---- elements

abbrev at_steps : List (Item Tree) → List Step
at_steps items = map (λ i. At i.at) items

abbrev pub IndexesRise : List (Item Tree) → Type 0
IndexesRise items = each_next (λ i j. nat_lt i.at j.at) items ≡ true

number_other : (a b : ℕ) → nat_lt a b ≡ true → (a == b) ≡ false
number_other a b h = grind (arith, nat_tests)

number_back : (a b : ℕ) → (a == b) ≡ false → (b == a) ≡ false
number_back a b h = grind (arith, nat_tests)

number_further : (a b c : ℕ) → nat_lt a b ≡ true → nat_lt b c ≡ true → nat_lt a c ≡ true
number_further a b c g h = grind (arith, nat_tests)

number_itself : (a : ℕ) → (a == a) ≡ true
number_itself a = grind (arith, nat_tests)

-- no element has the index
pub no_element : (at : ℕ) (items : List (Item Tree)) → find (λ i. i.at == at) items ≡ None → StandsOnly (At at) (at_steps items) None
no_element at [] h = tt
no_element at (i ∷ is) h = elim (cases_Bool (i.at == at)) [
  | inl this ↦ absurd (none-some i (sym h ∙ ap (λ (b : Bool). cond b (Some i) (find (λ i. i.at == at) is)) this))
  | inr other ↦ (number_back i.at at other, no_element at is (sym (ap (λ (b : Bool). cond b (Some i) (find (λ i. i.at == at) is)) other) ∙ h))
]

first_element : (i : Item Tree) (is : List (Item Tree)) (k : ℕ) (d : Item Tree) → IndexesRise (i ∷ is) → k < length is → nat_lt i.at (get_or is k d).at ≡ true
first_element i [] k d rise within = absurd (omega arith)
first_element i (j ∷ js) zero d rise within = (and_parts (nat_lt i.at j.at) _ rise).0
first_element i (j ∷ js) (suc k) d rise within =
    let both = and_parts (nat_lt i.at j.at) _ rise in
    number_further i.at j.at (get_or js k d).at both.0 (first_element j js k d both.1 (omega arith))

later_elements : (i : Item Tree) (is : List (Item Tree)) → ((k : ℕ) (d : Item Tree) → k < length is → (i.at == (get_or is k d).at) ≡ false) → StandsOnly (At i.at) (at_steps is) None
later_elements i [] h = tt
later_elements i (j ∷ js) h = (h 0 j (omega arith), later_elements i js (λ k d l. h (suc k) d (omega arith)))

element_at : (is : List (Item Tree)) (k : ℕ) (d : Item Tree) → IndexesRise is → k < length is → StandsOnly (At (get_or is k d).at) (at_steps is) (Some k)
element_at [] k d rise within = absurd (omega arith)
element_at (i ∷ is) zero d rise within = (number_itself i.at, later_elements i is (λ k e l. number_other i.at (get_or is k e).at (first_element i is k e rise l)))
element_at (i ∷ is) (suc k) d rise within = (number_back i.at (get_or is k d).at (number_other i.at (get_or is k d).at (first_element i is k d rise (omega arith))), element_at is k d (each_next-tail _ i is rise) (omega arith))

-- the element at which the search ends
pub the_element : (is : List (Item Tree)) (at k : ℕ) → IndexesRise is → k < length is → HoldsAt (λ i. nat_cmp i.at at ≡ Equal) is k → StandsOnly (At at) (at_steps is) (Some k)
the_element is at k rise within equal =
    let d = element 0 v.Null in
    let same : (get_or is k d).at ≡ at = exact_unsigned (get_or is k d).at at (equal d) in
    subst (λ (n : ℕ). StandsOnly (At n) (at_steps is) (Some k)) same (element_at is k d rise within)

-- ---- children

none_of_keys : (at : ℕ) (members : List (Member Tree)) → StandsOnly (At at) (key_steps members) None
none_of_keys at [] = tt
none_of_keys at (m ∷ ms) = (refl, none_of_keys at ms)

none_of_indexes : (key : List ℕ) (items : List (Item Tree)) → StandsOnly (Key key) (at_steps items) None
none_of_indexes key [] = tt
none_of_indexes key (i ∷ is) = (refl, none_of_indexes key is)

-- of an object
pub object_child : (t : Tree) (members seen : List (Member Tree)) (s : Step) (key text : List ℕ) (r : Option ℕ) → StandsOnly (Key text) (map (λ m. Key m.key) seen) r → seen ≡ members → text ≡ key → t ≡ v.Object members → s ≡ Key key → StandsOnly s (steps_of t) r
object_child t members seen s key text r h same spelled is step =
    let steps : key_steps seen ≡ steps_of t = ap key_steps same ∙ sym (ap steps_in (v.outs-Object members)) ∙ ap steps_of (sym is) in
    subst (λ ss. StandsOnly s ss r) steps (subst (λ (q : Step). StandsOnly q (key_steps seen) r) (ap Key spelled ∙ sym step) h)

-- an index leads nowhere in an object
pub object_no_child : (t : Tree) (members : List (Member Tree)) (s : Step) (at : ℕ) → t ≡ v.Object members → s ≡ At at → StandsOnly s (steps_of t) None
object_no_child t members s at is step =
    let steps : key_steps members ≡ steps_of t = sym (ap steps_in (v.outs-Object members)) ∙ ap steps_of (sym is) in
    subst (λ ss. StandsOnly s ss None) steps (subst (λ (q : Step). StandsOnly q (key_steps members) None) (sym step) (none_of_keys at members))

-- of a list
pub list_child : (t : Tree) (items seen : List (Item Tree)) (s : Step) (at : ℕ) (r : Option ℕ) → StandsOnly (At at) (map (λ i. At i.at) seen) r → seen ≡ items → t ≡ v.List items → s ≡ At at → StandsOnly s (steps_of t) r
list_child t items seen s at r h same is step =
    let steps : at_steps seen ≡ steps_of t = ap at_steps same ∙ sym (ap steps_in (v.outs-List items)) ∙ ap steps_of (sym is) in
    subst (λ ss. StandsOnly s ss r) steps (subst (λ (q : Step). StandsOnly q (at_steps seen) r) (sym step) h)

-- a name leads nowhere in a list
pub list_no_child : (t : Tree) (items : List (Item Tree)) (s : Step) (key : List ℕ) → t ≡ v.List items → s ≡ Key key → StandsOnly s (steps_of t) None
list_no_child t items s key is step =
    let steps : at_steps items ≡ steps_of t = sym (ap steps_in (v.outs-List items)) ∙ ap steps_of (sym is) in
    subst (λ ss. StandsOnly s ss None) steps (subst (λ (q : Step). StandsOnly q (at_steps items) None) (sym step) (none_of_indexes key items))

-- of what contains nothing
pub null_child : (t : Tree) (s : Step) → t ≡ v.Null → StandsOnly s (steps_of t) None
null_child t s is = subst (λ ss. StandsOnly s ss None) (sym (ap steps_in v.outs-Null) ∙ ap steps_of (sym is)) tt

-- of a boolean
pub bool_child : (t : Tree) (s : Step) (b : Bool) → t ≡ v.Bool b → StandsOnly s (steps_of t) None
bool_child t s b is = subst (λ ss. StandsOnly s ss None) (sym (ap steps_in (v.outs-Bool b)) ∙ ap steps_of (sym is)) tt

-- of a whole number
pub whole_child : (t : Tree) (s : Step) (z : ℤ) → t ≡ v.Whole z → StandsOnly s (steps_of t) None
whole_child t s z is = subst (λ ss. StandsOnly s ss None) (sym (ap steps_in (v.outs-Whole z)) ∙ ap steps_of (sym is)) tt

-- of a version number
pub version_child : (t : Tree) (s : Step) → t ≡ v.Version → StandsOnly s (steps_of t) None
version_child t s is = subst (λ ss. StandsOnly s ss None) (sym (ap steps_in v.outs-Version) ∙ ap steps_of (sym is)) tt

-- of a text
pub text_child : (t : Tree) (s : Step) (text : List ℕ) → t ≡ v.Text text → StandsOnly s (steps_of t) None
text_child t s text is = subst (λ ss. StandsOnly s ss None) (sym (ap steps_in (v.outs-Text text)) ∙ ap steps_of (sym is)) tt

pub ruleset children = (object_child, object_no_child, list_child, list_no_child, null_child, bool_child, whole_child, version_child, text_child)

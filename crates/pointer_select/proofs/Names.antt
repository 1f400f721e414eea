-- The step that a token names, and the place that tokens name, one token after the other.
use Rattle.std.proofs.Common.{◌≡◌, ◌<◌, ◌≤◌, ◌+◌, ◌^◌, ℕ, zero, suc, List, [], ◌∷◌, ◌++◌, map, length, drop, take, get_or, slice_get, Bool, true, false, nat_lt, cond, if◌then◌else◌, Option, Some, None, option_map, option_and_then, find, is_none, refl, sym, ap, ◌∙◌, subst, append_assoc, append-nil, arith, inl, inr, decimal}
use Rattle.std.specs.Str.{bytes_eq}
use Rattle.std.specs.Option.{IfSome}
use Rattle.std.specs.List.{position_or_len}
use Rattle.std.proofs.lemmas.Bool.{cases_Bool}
use Rattle.std.proofs.lemmas.Bool.Decides.{nat_tests}
use Rattle.std.proofs.lemmas.List.Sums.{position_or_len_is}
use Rattle.std.proofs.lemmas.Option.{same_Some, none-some}
use Rattle.base_types.proofs.Lists.{drop-next}
use Rattle.base_types.proofs.Orders.{bytes_eq-true}
use Rattle.base_types.proofs.Searching.{each_next-tail}
use Rattle.json_tree.specs.declared.tree.Tree.{Tree}
use Rattle.json_tree.specs.declared.tree.Tree.TheVariants as v
use Rattle.json_tree.specs.declared.tree.Item.{Item}
use Rattle.json_tree.specs.declared.tree.Member.{Member}
use Rattle.json_tree.specs.declared.place.Place.{Place}
use Rattle.json_tree.specs.declared.place.Step.{Step}
use Rattle.json_tree.specs.declared.place.Step.TheVariants.{Key, At}
use Rattle.json_tree.specs.Misplaced.{step_cmp}
use Rattle.json_tree.specs.Places.{below, child_of, value_of}
use Rattle.json_tree.specs.Trees.{is_lawful}
use Rattle.json_tree.proofs.Branches.{Branch, of_item, branches_in, branches_of, at_step, step_eq, StepsRise, child_of-branches, lawful_branches}
use Rattle.json_tree.proofs.StepOrder.{step_eq-itself, precedes-differs, first_comes_before, found_after, at_step-first, at_step-later}
use Rattle.json_tree.proofs.TreeLemmas.{child_of-Object-Key}
use Rattle.std.specs.Ordering.{is_lt}
use Rattle.pointer_select.specs.declared.naming.Child.{Child}
use Rattle.pointer_select.specs.Internal.Reading.{IsIndex}
use Rattle.pointer_select.specs.Naming.{element_from, step_in, step_of, place_of, first_missing}
use Rattle.pointer_select.proofs.Indexes.{element-decimal, element-none}

-- ---- members

key_found : (token : List ℕ) (members : List (Member Tree)) (u : Tree) → value_of token members ≡ Some u → option_map (λ (m : Member Tree). Key m.key) (find (λ m. bytes_eq m.key token) members) ≡ Some (Key token)
key_found token [] u h = absurd (cc)
key_found token (m ∷ ms) u h = elim (cases_Bool (bytes_eq m.key token)) [
  | inl this ↦
      ap (λ (b : Bool). option_map (λ (m : Member Tree). Key m.key) (cond b (Some m) (find (λ m. bytes_eq m.key token) ms))) this
      ∙ ap (λ k. Some (Key k)) (bytes_eq-true m.key token this)
  | inr other ↦
      ap (λ (b : Bool). option_map (λ (m : Member Tree). Key m.key) (cond b (Some m) (find (λ m. bytes_eq m.key token) ms))) other
      ∙ key_found token ms u (sym (ap (λ (b : Bool). option_map (λ (m : Member Tree). m.value) (cond b (Some m) (find (λ m. bytes_eq m.key token) ms))) other) ∙ h)
]

key_absent : (o : Option (Member Tree)) → option_map (λ (m : Member Tree). m.value) o ≡ None → option_map (λ (m : Member Tree). Key m.key) o ≡ None
key_absent None h = refl
key_absent (Some m) h = absurd (none-some m.value (sym h))

-- the step to the member of a name
pub object_step : (members : List (Member Tree)) (token : List ℕ) → step_of (v.Object members) token ≡ option_map (λ (m : Member Tree). Key m.key) (find (λ m. bytes_eq m.key token) members)
object_step members token = ap (λ y. step_in y token) (v.outs-Object members)

-- a member of the token's name is what it names
pub names_member : (t : Tree) (members seen : List (Member Tree)) (token key : List ℕ) (u : Tree) → t ≡ v.Object members → seen ≡ members → Some u ≡ value_of token seen → key ≡ token → Some (Key key) ≡ step_of t token
names_member t members seen token key u is same there spelled =
    ap (λ k. Some (Key k)) spelled
    ∙ sym (key_found token members u (ap (value_of token) (sym same) ∙ sym there))
    ∙ sym (object_step members token) ∙ ap (λ w. step_of w token) (sym is)

-- and stands at the step
pub stands_member : (t : Tree) (members seen : List (Member Tree)) (token key : List ℕ) (u : Tree) → t ≡ v.Object members → seen ≡ members → Some u ≡ value_of token seen → key ≡ token → child_of t (Key key) ≡ Some u
stands_member t members seen token key u is same there spelled =
    ap (λ w. child_of w (Key key)) is ∙ child_of-Object-Key members key ∙ ap (λ k. value_of k members) spelled ∙ ap (value_of token) (sym same) ∙ sym there

-- where there is none of that name it names nothing
pub names_no_member : (t : Tree) (members seen : List (Member Tree)) (token : List ℕ) → t ≡ v.Object members → seen ≡ members → None ≡ value_of token seen → None ≡ step_of t token
names_no_member t members seen token is same none =
    sym (key_absent (find (λ m. bytes_eq m.key token) members) (ap (value_of token) (sym same) ∙ sym none))
    ∙ sym (object_step members token) ∙ ap (λ w. step_of w token) (sym is)

-- ---- elements

-- the step to the element at an index
pub list_step : (items : List (Item Tree)) (token : List ℕ) → step_of (v.List items) token ≡ option_map (λ (i : Item Tree). At i.at) (element_from 0 token items)
list_step items token = ap (λ y. step_in y token) (v.outs-List items)

-- what an index that was read says of the token
pub token_is : (token : List ℕ) (o : Option ℕ) (n : ℕ) → IsIndex token o → o ≡ Some n → token ≡ decimal n
token_is token o n h is = subst (IsIndex token) is h

-- a token that is no index is no decimal of 64 bits
pub token_is_none : (token : List ℕ) (o : Option ℕ) → IsIndex token o → o ≡ None → (n : ℕ) → n < 2 ^ 64 → token ≡ decimal n → ⊥
token_is_none token o h is = subst (IsIndex token) is h

-- what stands at an index
pub there_is : (items : List (Item Tree)) (n : ℕ) (i : Item Tree) → n < length items → i ≡ get_or items n i → Some i ≡ slice_get items n
there_is [] n i within is = absurd (omega arith)
there_is (x ∷ xs) zero i within is = ap Some is
there_is (x ∷ xs) (suc n) i within is = there_is xs n i (omega arith) is

-- past the end stands nothing
pub there_is_none : (items : List (Item Tree)) (n : ℕ) → length items ≤ n → None ≡ slice_get items n
there_is_none [] n past = refl
there_is_none (x ∷ xs) zero past = absurd (omega arith)
there_is_none (x ∷ xs) (suc n) past = there_is_none xs n (omega arith)

-- the element at the index, or none, is what the token names
pub element_at : (items : List (Item Tree)) (token : List ℕ) (n : ℕ) → length items < 2 ^ 64 → n < 2 ^ 64 → token ≡ decimal n → slice_get items n ≡ element_from 0 token items
element_at items token n short small is =
    let e : 0 + n ≡ n = omega arith in
    sym (element-decimal 0 n items (omega arith) (omega arith)) ∙ ap (λ (m : ℕ). element_from 0 (decimal m) items) e ∙ ap (λ s. element_from 0 s items) (sym is)

-- a token that is no index names none
pub element_nowhere : (items : List (Item Tree)) (token : List ℕ) → length items < 2 ^ 64 → ((n : ℕ) → n < 2 ^ 64 → token ≡ decimal n → ⊥) → None ≡ element_from 0 token items
element_nowhere items token short none = sym (element-none 0 token items (omega arith) none)

-- the step to the element that a token names
pub names_element : (t : Tree) (items seen : List (Item Tree)) (token : List ℕ) (i : Item Tree) → t ≡ v.List items → seen ≡ items → Some i ≡ element_from 0 token seen → Some (At i.at) ≡ step_of t token
names_element t items seen token i is same there =
    ap (option_map (λ (i : Item Tree). At i.at)) (there ∙ ap (element_from 0 token) same)
    ∙ sym (list_step items token) ∙ ap (λ w. step_of w token) (sym is)

-- where a token names no element it names no step
pub names_no_element : (t : Tree) (items seen : List (Item Tree)) (token : List ℕ) → t ≡ v.List items → seen ≡ items → None ≡ element_from 0 token seen → None ≡ step_of t token
names_no_element t items seen token is same none =
    ap (option_map (λ (i : Item Tree). At i.at)) (none ∙ ap (element_from 0 token) same)
    ∙ sym (list_step items token) ∙ ap (λ w. step_of w token) (sym is)

at_named : (n : ℕ) (token : List ℕ) (items : List (Item Tree)) (i : Item Tree) → StepsRise (map of_item items) → element_from n token items ≡ Some i → at_step (At i.at) (map of_item items) ≡ Some i.value
at_named n token [] i rise h = absurd (cc)
at_named n token (x ∷ xs) i rise h = elim (cases_Bool (bytes_eq (decimal n) token)) [
  | inl this ↦
      let same : x ≡ i = same_Some x i (sym (ap (λ (b : Bool). if b then Some x else element_from (n + 1) token xs) this) ∙ h) in
      at_step-first (of_item x) (map of_item xs) (At i.at) (ap (λ (j : Item Tree). step_eq (At j.at) (At i.at)) same ∙ step_eq-itself (At i.at)) ∙ ap (λ (j : Item Tree). Some j.value) same
  | inr other ↦
      let later = at_named (n + 1) token xs i (each_next-tail (λ (b c : Branch). is_lt (step_cmp b.step c.step)) (of_item x) (map of_item xs) rise) (sym (ap (λ (b : Bool). if b then Some x else element_from (n + 1) token xs) other) ∙ h) in
      let after = found_after (At x.at) (At i.at) (map of_item xs) i.value (first_comes_before (of_item x) (map of_item xs) rise) later in
      at_step-later (of_item x) (map of_item xs) (At i.at) (precedes-differs (At x.at) (At i.at) after) ∙ later
]

-- in a lawful list the element that a token names stands at its step
pub stands_element : (t : Tree) (items seen : List (Item Tree)) (token : List ℕ) (i : Item Tree) → is_lawful t ≡ true → t ≡ v.List items → seen ≡ items → Some i ≡ element_from 0 token seen → child_of t (At i.at) ≡ Some i.value
stands_element t items seen token i lawful is same there =
    let opened : branches_of t ≡ map of_item items = ap branches_of is ∙ ap branches_in (v.outs-List items) in
    let rise = subst StepsRise opened (lawful_branches t lawful).0 in
    child_of-branches t (At i.at) ∙ ap (at_step (At i.at)) opened
    ∙ at_named 0 token items i rise (ap (element_from 0 token) (sym same) ∙ sym there)

-- ---- one token more

abbrev pub from_here : List Step → Option (List Step) → Option (List Step)
from_here done o = option_map (λ ss. done ++ ss) o

further : (done : List Step) (step : Step) (o : Option (List Step)) → from_here done (below step o) ≡ from_here (done ++ step ∷ []) o
further done step None = refl
further done step (Some ss) = ap Some (sym (append_assoc done (step ∷ []) ss))

-- the place that a token and those after it name
pub next_named : (here u : Tree) (token : List ℕ) (tokens : List (List ℕ)) (step : Step) → Some step ≡ step_of here token → child_of here step ≡ Some u → place_of (token ∷ tokens) here ≡ below step (place_of tokens u)
next_named here u token tokens step named there =
    ap (option_and_then (λ (s : Step). below s (option_and_then (place_of tokens) (child_of here s)))) (sym named)
    ∙ ap (λ o. below step (option_and_then (place_of tokens) o)) there

-- what is said of the child that was found
pub child_step : (o : Option Child) (c : Child) (step : Option Step) → o ≡ Some c → option_map (λ (k : Child). k.step) o ≡ step → Some c.step ≡ step
child_step o c step is h = ap (option_map (λ (k : Child). k.step)) (sym is) ∙ h

-- the child that was found stands at its step
pub child_there : (o : Option Child) (c : Child) (here : Tree) → o ≡ Some c → IfSome o (λ (k : Child). child_of here k.step ≡ Some k.value.now) → child_of here c.step ≡ Some c.value.now
child_there o c here is h = subst (λ (o : Option Child). IfSome o (λ (k : Child). child_of here k.step ≡ Some k.value.now)) is h

-- a step more on the way
pub place_more : (o : Option (List Step)) (done more : List Step) (tokens : List (List ℕ)) (k : ℕ) (here u : Tree) (token : List ℕ) (step : Step) → o ≡ from_here done (place_of (drop k tokens) here) → k < length tokens → token ≡ get_or tokens k token → Some step ≡ step_of here token → child_of here step ≡ Some u → more ≡ done ++ step ∷ [] → o ≡ from_here more (place_of (drop (k + 1) tokens) u)
place_more o done more tokens k here u token step is within which named there longer =
    is ∙ ap (λ ts. from_here done (place_of ts here)) (drop-next tokens k token within which)
    ∙ ap (from_here done) (next_named here u token (drop (k + 1) tokens) step named there)
    ∙ further done step (place_of (drop (k + 1) tokens) u)
    ∙ ap (λ ss. from_here ss (place_of (drop (k + 1) tokens) u)) (sym longer)

-- no step on
pub place_none : (o : Option (List Step)) (done : List Step) (tokens : List (List ℕ)) (k : ℕ) (here : Tree) (token : List ℕ) → o ≡ from_here done (place_of (drop k tokens) here) → k < length tokens → token ≡ get_or tokens k token → None ≡ step_of here token → None ≡ o
place_none o done tokens k here token is within which none =
    sym (is ∙ ap (λ ts. from_here done (place_of ts here)) (drop-next tokens k token within which)
    ∙ ap (λ s. from_here done (option_and_then (λ (s : Step). below s (option_and_then (place_of (drop (k + 1) tokens)) (child_of here s))) s)) (sym none))

-- the end of the way
pub place_done : (o : Option (List Step)) (done : List Step) (rest : List (List ℕ)) (here : Tree) → o ≡ from_here done (place_of rest here) → rest ≡ [] → Some done ≡ o
place_done o done rest here is none =
    sym (is ∙ ap (λ ts. from_here done (place_of ts here)) none ∙ ap Some (append-nil done))

-- ---- the first pointer that names nothing

named_before : {X Y : Type 0} (f : X → Option Y) (xs : List X) (k : ℕ) (ys : List Y) (j : ℕ) (d : X) → map f (take k xs) ≡ map Some ys → j < k → j < length xs → is_none (f (get_or xs j d)) ≡ false
named_before f [] k ys j d h low short = absurd (omega arith)
named_before f (x ∷ xs) zero ys j d h low short = absurd (omega arith)
named_before f (x ∷ xs) (suc k) [] j d h low short = absurd (cc)
named_before f (x ∷ xs) (suc k) (y ∷ ys) zero d h low short = let this : f x ≡ Some y = cc in ap is_none this
named_before f (x ∷ xs) (suc k) (y ∷ ys) (suc j) d h low short = let rest : map f (take k xs) ≡ map Some ys = cc in named_before f xs k ys j d rest (omega arith) (omega arith)

-- the pointers before it name places, and it names none
pub missing_first : (pointers : List (List (List ℕ))) (t : Tree) (k : ℕ) (places : List (List Step)) (tokens : List (List ℕ)) → map (λ ts. place_of ts t) (take k pointers) ≡ map Some places → k < length pointers → tokens ≡ get_or pointers k tokens → None ≡ place_of tokens t → first_missing pointers t ≡ Some k
missing_first pointers t k places tokens before within which none =
    let test = λ (ts : List (List ℕ)). is_none (place_of ts t) in
    let at : position_or_len test pointers ≡ k = position_or_len_is test pointers k tokens (omega arith) (λ j low. named_before (λ ts. place_of ts t) pointers k places j tokens before low (omega arith)) (λ l. ap test (sym which) ∙ ap is_none (sym none)) in
    let inside : nat_lt k (length pointers) ≡ true = grind (arith, nat_tests) in
    ap (λ (m : ℕ). cond (nat_lt m (length pointers)) (Some m) None) at ∙ ap (λ (b : Bool). cond b (Some k) None) inside

-- of no place there are no steps
pub no_steps : (o : Option Place) (named : Option (List Step)) → o ≡ None → option_map (λ (p : Place). p.steps) o ≡ named → None ≡ named
no_steps o named is h = ap (option_map (λ (p : Place). p.steps)) (sym is) ∙ h

pub ruleset named = (names_member, stands_member, names_no_member, names_element, names_no_element, stands_element)

pub ruleset walked = (place_more, place_none, place_done)

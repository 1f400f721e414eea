-- A pointer names a place that leads somewhere, and in a tree whose elements are numbered from 0 it is
-- the JSON Pointer of this place.
use Rattle.std.proofs.Common.{◌≡◌, ◌≢◌, ◌<◌, ◌+◌, ◌%◌, ◌^◌, ℕ, Bool, true, nat_lt, cond, if◌then◌else◌, List, [], ◌∷◌, ◌++◌, map, Option, Some, None, option_map, option_and_then, find, refl, sym, ap, ◌∙◌, arith, decimal, inl, inr}
use Rattle.std.specs.List.{flat_map}
use Rattle.std.specs.Str.{bytes_eq}
use Rattle.std.proofs.lemmas.Bool.{cases_Bool, and_parts}
use Rattle.std.proofs.lemmas.Bool.Decides.{nat_tests}
use Rattle.std.proofs.lemmas.Fmt.{decimal_by_steps}
use Rattle.std.proofs.lemmas.List.Concat.{flat_map-append}
use Rattle.std.proofs.lemmas.Option.{same_Some, none-some, option_and_then_some}
use Rattle.base_types.proofs.Orders.{bytes_eq-true}
use Rattle.base_types.proofs.Options.{option_map-Some}
use Rattle.json_tree.specs.declared.tree.Tree.{Tree, out-Tree}
use Rattle.json_tree.specs.declared.tree.Tree.TheOpen.{Tree-F}
use Rattle.json_tree.specs.declared.tree.Tree.TheVariants as v
use Rattle.json_tree.specs.declared.tree.Item.{Item}
use Rattle.json_tree.specs.declared.tree.Member.{Member}
use Rattle.json_tree.specs.declared.place.Step.{Step}
use Rattle.json_tree.specs.declared.place.Step.TheVariants.{Key, At}
use Rattle.json_tree.specs.Places.{below, child_of, look, items_in, items_of, members_in, members_of, escaped, token_of, pointer_of, is_word_step, has_word_indexes}
use Rattle.json_tree.specs.Trees.{element, new_member, numbered, renumbered}
use Rattle.json_tree.proofs.Equations.{renumbered-List, renumbered-Object}
use Rattle.json_tree.proofs.Escapes.{escaped-other}
use Rattle.json_tree.proofs.Induction.{Each}
use Rattle.json_tree.proofs.Kept.{child_has, is_list}
use Rattle.json_tree.proofs.Sameness.{List-injective, Object-injective}
use Rattle.json_tree.proofs.OnePointer.{below_word}
use Rattle.pointer_select.specs.Naming.{element_from, step_in, step_of, place_of}
use Rattle.pointer_select.specs.Pointers.{pointer_with}

-- ---- digits

one_digit : (c : ℕ) → c ≢ 126 → c ≢ 47 → flat_map escaped (c ∷ []) ≡ c ∷ []
one_digit c a b = ap (λ e. e ++ []) (escaped-other c a b)

plain_decimal : (n : ℕ) → n < 2 ^ 64 → flat_map escaped (decimal n) ≡ decimal n
plain_decimal = decimal_by_steps (λ n ds. flat_map escaped ds ≡ ds)
    (λ n small. one_digit (48 + n) (λ e. omega arith) (λ e. omega arith))
    (λ n ds great before. flat_map-append escaped ds ((48 + n % 10) ∷ []) ∙ ap (λ xs. xs ++ flat_map escaped ((48 + n % 10) ∷ [])) before ∙ ap (λ ys. ds ++ ys) (one_digit (48 + n % 10) (λ e. omega arith) (λ e. omega arith)))

-- ---- numbered from 0

abbrev IsNumbered : Tree → Type 0
IsNumbered t = renumbered t ≡ t

both_parts : {X : Type 0} (x y : X) (xs ys : List X) → x ∷ xs ≡ y ∷ ys → (x ≡ y) × (xs ≡ ys)
both_parts x y xs ys e = (cc, cc)

numbered_each : (n : ℕ) (items : List (Item Tree)) → numbered n (map (λ i. element i.at (renumbered i.value)) items) ≡ items → Each (λ (i : Item Tree). IsNumbered i.value) items
numbered_each n [] e = tt
numbered_each n (i ∷ is) e =
    let parts = both_parts (element n (renumbered i.value)) i (numbered (n + 1) (map (λ i. element i.at (renumbered i.value)) is)) is e in
    (ap (λ (j : Item Tree). j.value) parts.0, numbered_each (n + 1) is parts.1)

numbered_at : (n : ℕ) (token : List ℕ) (items : List (Item Tree)) (i : Item Tree) → numbered n (map (λ i. element i.at (renumbered i.value)) items) ≡ items → element_from n token items ≡ Some i → token ≡ decimal i.at
numbered_at n token [] i e h = absurd (cc)
numbered_at n token (x ∷ xs) i e h =
    let parts = both_parts (element n (renumbered x.value)) x (numbered (n + 1) (map (λ i. element i.at (renumbered i.value)) xs)) xs e in
    elim (cases_Bool (bytes_eq (decimal n) token)) [
      | inl this ↦
          let same : x ≡ i = same_Some x i (sym (ap (λ (b : Bool). if b then Some x else element_from (n + 1) token xs) this) ∙ h) in
          sym (bytes_eq-true (decimal n) token this) ∙ ap (λ (j : Item Tree). decimal j.at) (parts.0 ∙ same)
      | inr other ↦ numbered_at (n + 1) token xs i parts.1 (sym (ap (λ (b : Bool). if b then Some x else element_from (n + 1) token xs) other) ∙ h)
    ]

numbered_members : (members : List (Member Tree)) → map (λ m. new_member m.key (renumbered m.value)) members ≡ members → Each (λ (m : Member Tree). IsNumbered m.value) members
numbered_members [] e = tt
numbered_members (m ∷ ms) e =
    let parts = both_parts (new_member m.key (renumbered m.value)) m (map (λ m. new_member m.key (renumbered m.value)) ms) ms e in
    (ap (λ (n : Member Tree). n.value) parts.0, numbered_members ms parts.1)

items_numbered : (t : Tree) (items : List (Item Tree)) → IsNumbered t → t ≡ v.List items → numbered 0 (map (λ i. element i.at (renumbered i.value)) items) ≡ items
items_numbered t items h is = List-injective _ items (sym (renumbered-List items) ∙ ap renumbered (sym is) ∙ h ∙ is)

child_numbered : (t u : Tree) (s : Step) → IsNumbered t → child_of t s ≡ Some u → IsNumbered u
child_numbered t u s h there =
    child_has IsNumbered t u s (λ items is. numbered_each 0 items (items_numbered t items h is))
    (λ members is. numbered_members members (Object-injective _ members (sym (renumbered-Object members) ∙ ap renumbered (sym is) ∙ h ∙ is))) there

-- ---- one token

found_passes : (key : List ℕ) (members : List (Member Tree)) (m : Member Tree) → find (λ m. bytes_eq m.key key) members ≡ Some m → bytes_eq m.key key ≡ true
found_passes key [] m h = absurd (cc)
found_passes key (x ∷ xs) m h = elim (cases_Bool (bytes_eq x.key key)) [
  | inl this ↦
      let same : x ≡ m = same_Some x m (sym (ap (λ (b : Bool). cond b (Some x) (find (λ m. bytes_eq m.key key) xs)) this) ∙ h) in
      ap (λ (n : Member Tree). bytes_eq n.key key) (sym same) ∙ this
  | inr other ↦ found_passes key xs m (sym (ap (λ (b : Bool). cond b (Some x) (find (λ m. bytes_eq m.key key) xs)) other) ∙ h)
]

spelled_in : (t : Tree) (y : Tree-F Tree) (token : List ℕ) (s : Step) → out-Tree t ≡ y → IsNumbered t → step_in y token ≡ Some s → is_word_step s ≡ true → token_of s ≡ flat_map escaped token
spelled_in t Tree-F.Null token s e n h w = absurd (none-some s h)
spelled_in t (Tree-F.Bool b) token s e n h w = absurd (none-some s h)
spelled_in t (Tree-F.Whole z) token s e n h w = absurd (none-some s h)
spelled_in t Tree-F.Version token s e n h w = absurd (none-some s h)
spelled_in t (Tree-F.Text text) token s e n h w = absurd (none-some s h)
spelled_in t (Tree-F.List items) token s e n h w =
    let found = option_map-Some (λ (i : Item Tree). At i.at) (element_from 0 token items) s h in
    let i = found.0 in
    let spelled = numbered_at 0 token items i (items_numbered t items n (is_list t items e)) found.1 in
    let small = below_word i.at (ap is_word_step found.2 ∙ w) in
    ap token_of (sym found.2) ∙ sym (plain_decimal i.at small) ∙ ap (flat_map escaped) (sym spelled)
spelled_in t (Tree-F.Object members) token s e n h w =
    let found = option_map-Some (λ (m : Member Tree). Key m.key) (find (λ m. bytes_eq m.key token) members) s h in
    ap token_of (sym found.2) ∙ ap (flat_map escaped) (bytes_eq-true found.0.key token (found_passes token members found.0 found.1))

-- ---- all tokens

-- a pointer names a place that leads somewhere
pub leads : (tokens : List (List ℕ)) (t : Tree) (place : List Step) → place_of tokens t ≡ Some place → look place t ≡ None → ⊥
leads [] t place h none = none-some t (sym (ap (λ p. look p t) (same_Some [] place h) ∙ none))
leads (token ∷ tokens) t place h none =
    option_and_then_some (λ (s : Step). below s (option_and_then (place_of tokens) (child_of t s))) (step_of t token) place h (λ s named further.
    let rest = option_map-Some (λ ss. s ∷ ss) (option_and_then (place_of tokens) (child_of t s)) place further in
    option_and_then_some (place_of tokens) (child_of t s) rest.0 rest.1 (λ u there onward.
    leads tokens u rest.0 onward (sym (ap (option_and_then (look rest.0)) there) ∙ ap (λ p. look p t) rest.2 ∙ none)))

-- and is the JSON Pointer of this place
pub spells_place : (tokens : List (List ℕ)) (t : Tree) (place : List Step) → renumbered t ≡ t → has_word_indexes place ≡ true → place_of tokens t ≡ Some place → pointer_of place ≡ pointer_with tokens
spells_place [] t place n w h = sym (ap pointer_of (same_Some [] place h))
spells_place (token ∷ tokens) t place n w h =
    option_and_then_some (λ (s : Step). below s (option_and_then (place_of tokens) (child_of t s))) (step_of t token) place h (λ s named further.
    let rest = option_map-Some (λ ss. s ∷ ss) (option_and_then (place_of tokens) (child_of t s)) place further in
    let words = and_parts (is_word_step s) (has_word_indexes rest.0) (ap has_word_indexes rest.2 ∙ w) in
    option_and_then_some (place_of tokens) (child_of t s) rest.0 rest.1 (λ u there onward.
    ap pointer_of (sym rest.2)
    ∙ ap (λ ds. 47 ∷ (ds ++ pointer_of rest.0)) (spelled_in t (out-Tree t) token s refl n named words.0)
    ∙ ap (λ ds. 47 ∷ (flat_map escaped token ++ ds)) (spells_place tokens u rest.0 (child_numbered t u s n there) words.1 onward)))

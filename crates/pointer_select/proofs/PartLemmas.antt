-- What is made level by level is the tree restricted to the kept places.
use Rattle.std.proofs.Common.{◌≡◌, ◌<◌, ◌≤◌, ◌+◌, ℕ, ℤ, zero, suc, Bool, true, false, not, ◌&&◌, ◌||◌, List, [], ◌∷◌, ◌++◌, map, length, drop, get_or, slice_get, Some, None, if◌then◌else◌, nat_lt, Result, Ok, Err, IfOk, refl, sym, ap, ◌∙◌, arith, append-nil, append_assoc, inl, inr}
use Rattle.std.specs.List.{list_any, list_all}
use Rattle.std.proofs.lemmas.Bool.{cases_Bool, true≢false, and_parts}
use Rattle.std.proofs.lemmas.Bool.Decides.{nat_tests}
use Rattle.std.proofs.lemmas.Option.{none-some}
use Rattle.std.proofs.lemmas.List.{drop_all, length-map, get_or-map, get_or_default}
use denote.Ref.{Bor}
use Rattle.base_types.specs.declared.memory.Memory.{Memory}
use Rattle.base_types.proofs.Lists.{drop-next}
use Rattle.json_tree.specs.declared.tree.Tree.{Tree, the_lemmas}
use Rattle.json_tree.specs.declared.tree.Tree.TheVariants as v
use Rattle.json_tree.specs.declared.tree.Item.{Item}
use Rattle.json_tree.specs.declared.tree.Member.{Member}
use Rattle.json_tree.specs.declared.place.Step.{Step}
use Rattle.json_tree.specs.declared.place.Step.TheVariants.{Key, At}
use Rattle.json_tree.specs.Trees.{is_lawful, element, new_member}
use Rattle.json_tree.proofs.TreeLemmas.{items_lawful, members_lawful}
use Rattle.pointer_select.specs.Kept.{is_kept_name}
use Rattle.pointer_select.specs.Internal.Parts.{Test, below_step, items_that, members_that, restricted, after_steps, is_none_left, one_ends, keeps, steps_in, steps_of, slices, groups_now, item_value, member_value, with_item_value, with_member_value, item_part, member_part, parts_of}
use Rattle.pointer_select.proofs.Keeping.{is_some_left, all_kept}
use Rattle.pointer_select.proofs.Restricted.{seen_item, seen_member, restricted-Null, restricted-Bool, restricted-Whole, restricted-Version, restricted-Text, restricted-List, restricted-Object, restricted-all}

-- ---- one child

none_or_some : (places : List (List Step)) → is_none_left places ≡ not (is_some_left places)
none_or_some [] = refl
none_or_some (p ∷ ps) = refl

and_true : (b : Bool) → (b && true) ≡ b
and_true true = refl
and_true false = refl

-- where none ends here, what leads below a child decides
abbrev Group : List (List Step) → Step → List (List Step)
Group places s = after_steps s places

at_passes : (places : List (List Step)) (at : ℕ) → one_ends places ≡ false → keeps places (At at ∷ []) ≡ is_some_left (Group places (At at))
at_passes places at ends = ap (λ (b : Bool). b || (is_some_left (Group places (At at)) && true)) ends ∙ and_true (is_some_left (Group places (At at)))

at_below : (places : List (List Step)) (at : ℕ) → one_ends places ≡ false → is_some_left (Group places (At at)) ≡ true → below_step (At at) (keeps places) ≡ keeps (Group places (At at))
at_below places at ends some = λ k place. (ap (λ (b : Bool). b || (is_some_left (Group places (At at)) && keeps (Group places (At at)) place)) ends ∙ ap (λ (b : Bool). b && keeps (Group places (At at)) place) some) k

key_passes : (places : List (List Step)) (key : List ℕ) → one_ends places ≡ false → is_kept_name key ≡ false → keeps places (Key key ∷ []) ≡ is_some_left (Group places (Key key))
key_passes places key ends other = ap (λ (b : Bool). b || (one_ends places || (is_some_left (Group places (Key key)) && true))) other ∙ ap (λ (b : Bool). b || (is_some_left (Group places (Key key)) && true)) ends ∙ and_true (is_some_left (Group places (Key key)))

key_below : (places : List (List Step)) (key : List ℕ) → one_ends places ≡ false → is_kept_name key ≡ false → is_some_left (Group places (Key key)) ≡ true → below_step (Key key) (keeps places) ≡ keeps (Group places (Key key))
key_below places key ends other some = λ k place. (ap (λ (b : Bool). b || (one_ends places || (is_some_left (Group places (Key key)) && keeps (Group places (Key key)) place))) other ∙ ap (λ (b : Bool). b || (is_some_left (Group places (Key key)) && keeps (Group places (Key key)) place)) ends ∙ ap (λ (b : Bool). b && keeps (Group places (Key key)) place) some) k

name_passes : (places : List (List Step)) (key : List ℕ) (place : List Step) → is_kept_name key ≡ true → keeps places (Key key ∷ place) ≡ true
name_passes places key place name = ap (λ (b : Bool). b || (one_ends places || (is_some_left (Group places (Key key)) && keeps (Group places (Key key)) place))) name

-- ---- elements

items_made : (places : List (List Step)) → one_ends places ≡ false → (items : List (Item Tree)) → parts_of item_part (map (Group places) (map (λ i. At i.at) items)) items ≡ items_that (map seen_item items) (keeps places)
items_made places ends [] = refl
items_made places ends (i ∷ is) =
    let group = Group places (At i.at) in
    let more = items_made places ends is in
    let rest = items_that (map seen_item is) (keeps places) in
    let value = restricted i.value (below_step (At i.at) (keeps places)) in
    elim (cases_Bool (is_some_left group)) [
      | inl some ↦
          ap (λ (b : Bool). with_item_value i (if b then None else Some (restricted i.value (keeps group))) ++ parts_of item_part (map (Group places) (map (λ i. At i.at) is)) is) (none_or_some group ∙ ap not some)
          ∙ (λ k. element i.at (restricted i.value (sym (at_below places i.at ends some) k)) ∷ more k)
          ∙ sym (ap (λ (b : Bool). if b then element i.at value ∷ rest else rest) (at_passes places i.at ends ∙ some))
      | inr none ↦
          ap (λ (b : Bool). with_item_value i (if b then None else Some (restricted i.value (keeps group))) ++ parts_of item_part (map (Group places) (map (λ i. At i.at) is)) is) (none_or_some group ∙ ap not none)
          ∙ more
          ∙ sym (ap (λ (b : Bool). if b then element i.at value ∷ rest else rest) (at_passes places i.at ends ∙ none))
    ]

-- ---- members

members_made : (places : List (List Step)) → one_ends places ≡ false → (members : List (Member Tree)) → parts_of member_part (map (Group places) (map (λ m. Key m.key) members)) members ≡ members_that (map seen_member members) (keeps places)
members_made places ends [] = refl
members_made places ends (m ∷ ms) =
    let group = Group places (Key m.key) in
    let more = members_made places ends ms in
    let parts = parts_of member_part (map (Group places) (map (λ m. Key m.key) ms)) ms in
    let rest = members_that (map seen_member ms) (keeps places) in
    let value = restricted m.value (below_step (Key m.key) (keeps places)) in
    let made = λ (b c : Bool). with_member_value m (if b then Some m.value else (if c then None else Some (restricted m.value (keeps group)))) ++ parts in
    elim (cases_Bool (is_kept_name m.key)) [
      | inl name ↦
          let whole : value ≡ m.value = ap (restricted m.value) (λ k place. name_passes places m.key place name k) ∙ restricted-all m.value in
          ap (λ (b : Bool). made b (is_none_left group)) name
          ∙ (λ k. new_member m.key (sym whole k) ∷ more k)
          ∙ sym (ap (λ (b : Bool). if b then new_member m.key value ∷ rest else rest) (name_passes places m.key [] name))
      | inr other ↦ elim (cases_Bool (is_some_left group)) [
        | inl some ↦
            ap (λ (b : Bool). made b (is_none_left group)) other ∙ ap (made false) (none_or_some group ∙ ap not some)
            ∙ (λ k. new_member m.key (restricted m.value (sym (key_below places m.key ends other some) k)) ∷ more k)
            ∙ sym (ap (λ (b : Bool). if b then new_member m.key value ∷ rest else rest) (key_passes places m.key ends other ∙ some))
        | inr none ↦
            ap (λ (b : Bool). made b (is_none_left group)) other ∙ ap (made false) (none_or_some group ∙ ap not none)
            ∙ more
            ∙ sym (ap (λ (b : Bool). if b then new_member m.key value ∷ rest else rest) (key_passes places m.key ends other ∙ none))
      ]
    ]

-- ---- a tree

ends_seen : (pointed : List (Bor (List Step))) → list_any (λ s. is_none_left s.now) pointed ≡ one_ends (slices pointed)
ends_seen [] = refl
ends_seen (p ∷ ps) = ap (λ (b : Bool). is_none_left p.now || b) (ends_seen ps)

-- where a place ends here the tree is whole
pub whole_made : (t : Tree) (pointed : List (Bor (List Step))) (b : Bool) → b ≡ list_any (λ s. is_none_left s.now) pointed → b ≡ true → t ≡ restricted t (keeps (slices pointed))
whole_made t pointed b is yes' =
    let ends : one_ends (slices pointed) ≡ true = sym (ends_seen pointed) ∙ sym is ∙ yes' in
    sym (ap (restricted t) (λ k place. all_kept (slices pointed) ends place k) ∙ restricted-all t)

-- and so is its copy
pub copy_made : (r : Result Tree Memory) (t : Tree) (pointed : List (Bor (List Step))) → IfOk r (λ u. u ≡ t) → true ≡ list_any (λ s. is_none_left s.now) pointed → IfOk r (λ part. part ≡ restricted t (keeps (slices pointed)))
copy_made (Ok u) t pointed same ends = same ∙ whole_made t pointed true ends refl
copy_made (Err e) t pointed same ends = tt

-- of a list
pub list_made : (t : Tree) (items seen : List (Item Tree)) (pointed : List (Bor (List Step))) (b : Bool) (groups : List (List (List Step))) (part : List (Item Tree)) → b ≡ list_any (λ s. is_none_left s.now) pointed → b ≡ false → t ≡ v.List items → seen ≡ items → groups ≡ map (λ s. after_steps s (slices pointed)) (steps_of t) → part ≡ parts_of item_part groups seen → v.List part ≡ restricted t (keeps (slices pointed))
list_made t items seen pointed b groups part told no' is same grouped made =
    let ends : one_ends (slices pointed) ≡ false = sym (ends_seen pointed) ∙ sym told ∙ no' in
    let steps : steps_of t ≡ map (λ i. At i.at) items = ap steps_of is ∙ ap steps_in (v.outs-List items) in
    ap v.List (made ∙ ap (parts_of item_part groups) same ∙ ap (λ gs. parts_of item_part gs items) (grouped ∙ ap (map (Group (slices pointed))) steps) ∙ items_made (slices pointed) ends items)
    ∙ sym (restricted-List items (keeps (slices pointed))) ∙ ap (λ u. restricted u (keeps (slices pointed))) (sym is)

-- of an object
pub object_made : (t : Tree) (members seen : List (Member Tree)) (pointed : List (Bor (List Step))) (b : Bool) (groups : List (List (List Step))) (part : List (Member Tree)) → b ≡ list_any (λ s. is_none_left s.now) pointed → b ≡ false → t ≡ v.Object members → seen ≡ members → groups ≡ map (λ s. after_steps s (slices pointed)) (steps_of t) → part ≡ parts_of member_part groups seen → v.Object part ≡ restricted t (keeps (slices pointed))
object_made t members seen pointed b groups part told no' is same grouped made =
    let ends : one_ends (slices pointed) ≡ false = sym (ends_seen pointed) ∙ sym told ∙ no' in
    let steps : steps_of t ≡ map (λ m. Key m.key) members = ap steps_of is ∙ ap steps_in (v.outs-Object members) in
    ap v.Object (made ∙ ap (parts_of member_part groups) same ∙ ap (λ gs. parts_of member_part gs members) (grouped ∙ ap (map (Group (slices pointed))) steps) ∙ members_made (slices pointed) ends members)
    ∙ sym (restricted-Object members (keeps (slices pointed))) ∙ ap (λ u. restricted u (keeps (slices pointed))) (sym is)

-- null is as it was
pub null_made : (t : Tree) (keep : Test) → t ≡ v.Null → t ≡ restricted t keep
null_made t keep is = is ∙ sym (restricted-Null keep) ∙ ap (λ u. restricted u keep) (sym is)

-- a boolean is as it was
pub bool_made : (t : Tree) (keep : Test) (b : Bool) → t ≡ v.Bool b → t ≡ restricted t keep
bool_made t keep b is = is ∙ sym (restricted-Bool b keep) ∙ ap (λ u. restricted u keep) (sym is)

-- a whole number is as it was
pub number_made : (t : Tree) (keep : Test) (z : ℤ) → t ≡ v.Whole z → t ≡ restricted t keep
number_made t keep z is = is ∙ sym (restricted-Whole z keep) ∙ ap (λ u. restricted u keep) (sym is)

-- a version number is as it was
pub version_made : (t : Tree) (keep : Test) → t ≡ v.Version → t ≡ restricted t keep
version_made t keep is = is ∙ sym (restricted-Version keep) ∙ ap (λ u. restricted u keep) (sym is)

-- a text is as it was
pub text_made : (t : Tree) (keep : Test) (text : List ℕ) → t ≡ v.Text text → t ≡ restricted t keep
text_made t keep text is = is ∙ sym (restricted-Text text keep) ∙ ap (λ u. restricted u keep) (sym is)

-- as many groups as children
pub list_count : (t : Tree) (items seen : List (Item Tree)) (n : ℕ) → t ≡ v.List items → seen ≡ items → n ≡ length seen → n ≡ length (steps_of t)
list_count t items seen n is same counted =
    counted ∙ ap length same ∙ sym (length-map items (λ i. At i.at)) ∙ ap length (sym (ap steps_in (v.outs-List items)) ∙ ap steps_of (sym is))

-- as many groups as members
pub object_count : (t : Tree) (members seen : List (Member Tree)) (n : ℕ) → t ≡ v.Object members → seen ≡ members → n ≡ length seen → n ≡ length (steps_of t)
object_count t members seen n is same counted =
    counted ∙ ap length same ∙ sym (length-map members (λ m. Key m.key)) ∙ ap length (sym (ap steps_in (v.outs-Object members)) ∙ ap steps_of (sym is))

-- ---- the loops

-- one more
pub parts_more : {A B : Type 0} (part : List (List Step) → A → List B) (gs : List (List (List Step))) (xs : List A) (k : ℕ) (g : List (List Step)) (x : A) (whole done new : List B) → whole ≡ done ++ parts_of part (drop k gs) (drop k xs) → k < length gs → k < length xs → g ≡ get_or gs k g → x ≡ get_or xs k x → new ≡ done ++ part g x → whole ≡ new ++ parts_of part (drop (k + 1) gs) (drop (k + 1) xs)
parts_more part gs xs k g x whole done new is within inside there here longer =
    is ∙ (λ j. done ++ parts_of part (drop-next gs k g within there j) (drop-next xs k x inside here j))
    ∙ sym (append_assoc done (part g x) (parts_of part (drop (k + 1) gs) (drop (k + 1) xs)))
    ∙ ap (λ ys. ys ++ parts_of part (drop (k + 1) gs) (drop (k + 1) xs)) (sym longer)

no_parts : {A B : Type 0} (part : List (List Step) → A → List B) (gs : List (List (List Step))) → parts_of part gs [] ≡ []
no_parts part [] = refl
no_parts part (g ∷ gs) = refl

-- the end
pub parts_end : {A B : Type 0} (part : List (List Step) → A → List B) (gs : List (List (List Step))) (xs : List A) (k : ℕ) (whole done : List B) → whole ≡ done ++ parts_of part gs (drop k xs) → length xs ≤ k → done ≡ whole
parts_end part gs xs k whole done is past =
    sym (is ∙ ap (λ ys. done ++ parts_of part gs ys) (drop_all k xs past) ∙ ap (λ zs. done ++ zs) (no_parts part gs) ∙ append-nil done)

-- the end of the groups
pub groups_end : {A B : Type 0} (part : List (List Step) → A → List B) (gs : List (List (List Step))) (xs : List A) (whole done : List B) → whole ≡ done ++ parts_of part gs xs → gs ≡ [] → done ≡ whole
groups_end part gs xs whole done is none =
    sym (is ∙ ap (λ hs. done ++ parts_of part hs xs) none ∙ append-nil done)

-- ---- a turn of a loop, with the group that stands at the index

group_there : (groups : List (List (Bor (List Step)))) (k : ℕ) (g : List (Bor (List Step))) → true ≡ nat_lt k (length groups) → g ≡ get_or groups k g → (k < length (groups_now groups)) × (slices g ≡ get_or (groups_now groups) k (slices g))
group_there groups k g inside is =
    let within : k < length groups = grind (arith, nat_tests) in
    (omega (arith, length-map groups slices), ap slices is ∙ sym (get_or-map slices groups k g (slices g) within))

no_group : (groups : List (List (Bor (List Step)))) (k : ℕ) → None ≡ slice_get groups k → drop k (groups_now groups) ≡ []
no_group [] zero h = refl
no_group [] (suc k) h = refl
no_group (x ∷ xs) zero h = absurd (none-some x h)
no_group (x ∷ xs) (suc k) h = no_group xs k h

some_lead : (g : List (Bor (List Step))) (empty : Bool) → (g ≡ [] → empty ≡ true) → empty ≡ false → is_none_left (slices g) ≡ false
some_lead [] empty told no' = absurd (true≢false (sym (told refl) ∙ no'))
some_lead (x ∷ xs) empty told no' = refl

-- an element stays
pub item_stays : (items : List (Item Tree)) (groups : List (List (Bor (List Step)))) (k : ℕ) (d e : Item Tree) (g s : List (Bor (List Step))) (empty : Bool) (value : Tree) (whole done new : List (Item Tree)) → whole ≡ done ++ parts_of item_part (drop k (groups_now groups)) (drop k items) → k < length items → true ≡ nat_lt k (length groups) → g ≡ get_or groups k g → (g ≡ [] → empty ≡ true) → empty ≡ false → s ≡ g → value ≡ restricted (get_or items k d).value (keeps (slices s)) → new ≡ done ++ element (get_or items k e).at value ∷ [] → whole ≡ new ++ parts_of item_part (drop (k + 1) (groups_now groups)) (drop (k + 1) items)
item_stays items groups k d e g s empty value whole done new is inside short there told no' same made longer =
    let i = get_or items k d in
    let group = group_there groups k g short there in
    let some = some_lead g empty told no' in
    let stays : Some value ≡ item_value (slices g) i = ap Some (made ∙ ap (λ ps. restricted i.value (keeps (slices ps))) same) ∙ sym (ap (λ (b : Bool). if b then None else Some (restricted i.value (keeps (slices g)))) some) in
    parts_more item_part (groups_now groups) items k (slices g) i whole done new is group.0 inside group.1 (get_or_default items k d i inside)
    (longer ∙ ap (λ (j : Item Tree). done ++ element j.at value ∷ []) (get_or_default items k e d inside) ∙ ap (λ o. done ++ with_item_value i o) stays)

-- an element is left out
pub item_goes : (items : List (Item Tree)) (groups : List (List (Bor (List Step)))) (k : ℕ) (g : List (Bor (List Step))) (whole done new : List (Item Tree)) → whole ≡ done ++ parts_of item_part (drop k (groups_now groups)) (drop k items) → k < length items → true ≡ nat_lt k (length groups) → g ≡ get_or groups k g → g ≡ [] → new ≡ done → whole ≡ new ++ parts_of item_part (drop (k + 1) (groups_now groups)) (drop (k + 1) items)
item_goes items groups k g whole done new is inside short there none as_was =
    let d = element 0 v.Null in
    let i = get_or items k d in
    let group = group_there groups k g short there in
    let goes : None ≡ item_value (slices g) i = sym (ap (λ ps. item_value (slices ps) i) none) in
    parts_more item_part (groups_now groups) items k (slices g) i whole done new is group.0 inside group.1 (get_or_default items k d i inside)
    (as_was ∙ sym (append-nil done) ∙ ap (λ o. done ++ with_item_value i o) goes)

named_as : (members : List (Member Tree)) (k : ℕ) (d : Member Tree) (text : List ℕ) (b c : Bool) → b ≡ is_kept_name text → text ≡ (get_or members k d).key → b ≡ c → is_kept_name (get_or members k d).key ≡ c
named_as members k d text b c told name is = ap is_kept_name (sym name) ∙ sym told ∙ is

-- a member with a kept name stays whole
pub member_kept : (members : List (Member Tree)) (groups : List (List (Bor (List Step)))) (k : ℕ) (d e f : Member Tree) (g : List (Bor (List Step))) (text : List ℕ) (b : Bool) (value : Tree) (whole done new : List (Member Tree)) → whole ≡ done ++ parts_of member_part (drop k (groups_now groups)) (drop k members) → k < length members → true ≡ nat_lt k (length groups) → g ≡ get_or groups k g → b ≡ is_kept_name text → text ≡ (get_or members k d).key → b ≡ true → value ≡ (get_or members k e).value → new ≡ done ++ new_member (get_or members k f).key value ∷ [] → whole ≡ new ++ parts_of member_part (drop (k + 1) (groups_now groups)) (drop (k + 1) members)
member_kept members groups k d e f g text b value whole done new is inside short there told named kept made longer =
    let m = get_or members k d in
    let group = group_there groups k g short there in
    let name = named_as members k d text b true told named kept in
    let stays : Some value ≡ member_value (slices g) m = ap Some (made ∙ ap (λ (n : Member Tree). n.value) (get_or_default members k e d inside)) ∙ sym (ap (λ (b : Bool). if b then Some m.value else (if is_none_left (slices g) then None else Some (restricted m.value (keeps (slices g))))) name) in
    parts_more member_part (groups_now groups) members k (slices g) m whole done new is group.0 inside group.1 (get_or_default members k d m inside)
    (longer ∙ ap (λ (n : Member Tree). done ++ new_member n.key value ∷ []) (get_or_default members k f d inside) ∙ ap (λ o. done ++ with_member_value m o) stays)

-- another member stays
pub member_stays : (members : List (Member Tree)) (groups : List (List (Bor (List Step)))) (k : ℕ) (d e f : Member Tree) (g s : List (Bor (List Step))) (text : List ℕ) (b empty : Bool) (value : Tree) (whole done new : List (Member Tree)) → whole ≡ done ++ parts_of member_part (drop k (groups_now groups)) (drop k members) → k < length members → true ≡ nat_lt k (length groups) → g ≡ get_or groups k g → b ≡ is_kept_name text → text ≡ (get_or members k d).key → b ≡ false → (g ≡ [] → empty ≡ true) → empty ≡ false → s ≡ g → value ≡ restricted (get_or members k e).value (keeps (slices s)) → new ≡ done ++ new_member (get_or members k f).key value ∷ [] → whole ≡ new ++ parts_of member_part (drop (k + 1) (groups_now groups)) (drop (k + 1) members)
member_stays members groups k d e f g s text b empty value whole done new is inside short there told named other bare no' same made longer =
    let m = get_or members k d in
    let group = group_there groups k g short there in
    let name = named_as members k d text b false told named other in
    let some = some_lead g empty bare no' in
    let stays : Some value ≡ member_value (slices g) m =
    ap Some (made ∙ ap (λ (n : Member Tree). restricted n.value (keeps (slices s))) (get_or_default members k e d inside) ∙ ap (λ ps. restricted m.value (keeps (slices ps))) same)
    ∙ sym (ap (λ (b : Bool). if b then Some m.value else (if is_none_left (slices g) then None else Some (restricted m.value (keeps (slices g))))) name ∙ ap (λ (b : Bool). if b then None else Some (restricted m.value (keeps (slices g)))) some) in
    parts_more member_part (groups_now groups) members k (slices g) m whole done new is group.0 inside group.1 (get_or_default members k d m inside)
    (longer ∙ ap (λ (n : Member Tree). done ++ new_member n.key value ∷ []) (get_or_default members k f d inside) ∙ ap (λ o. done ++ with_member_value m o) stays)

-- a member is left out
pub member_goes : (members : List (Member Tree)) (groups : List (List (Bor (List Step)))) (k : ℕ) (d : Member Tree) (g : List (Bor (List Step))) (text : List ℕ) (b : Bool) (whole done new : List (Member Tree)) → whole ≡ done ++ parts_of member_part (drop k (groups_now groups)) (drop k members) → k < length members → true ≡ nat_lt k (length groups) → g ≡ get_or groups k g → b ≡ is_kept_name text → text ≡ (get_or members k d).key → b ≡ false → g ≡ [] → new ≡ done → whole ≡ new ++ parts_of member_part (drop (k + 1) (groups_now groups)) (drop (k + 1) members)
member_goes members groups k d g text b whole done new is inside short there told named other none as_was =
    let m = get_or members k d in
    let group = group_there groups k g short there in
    let name = named_as members k d text b false told named other in
    let goes : None ≡ member_value (slices g) m = sym (ap (λ (b : Bool). if b then Some m.value else (if is_none_left (slices g) then None else Some (restricted m.value (keeps (slices g))))) name ∙ ap (λ ps. if is_none_left (slices ps) then None else Some (restricted m.value (keeps (slices ps)))) none) in
    parts_more member_part (groups_now groups) members k (slices g) m whole done new is group.0 inside group.1 (get_or_default members k d m inside)
    (as_was ∙ sym (append-nil done) ∙ ap (λ o. done ++ with_member_value m o) goes)

-- no group is left
pub groups_over : {A B : Type 0} (part : List (List Step) → A → List B) (groups : List (List (Bor (List Step)))) (xs : List A) (k : ℕ) (whole done : List B) → whole ≡ done ++ parts_of part (drop k (groups_now groups)) (drop k xs) → None ≡ slice_get groups k → done ≡ whole
groups_over part groups xs k whole done is none = groups_end part (drop k (groups_now groups)) (drop k xs) whole done is (no_group groups k none)

-- ---- lawful

-- the elements of a lawful list
pub items_fine : (t : Tree) (items seen : List (Item Tree)) → is_lawful t ≡ true → t ≡ v.List items → seen ≡ items → list_all (λ i. is_lawful i.value) seen ≡ true
items_fine t items seen lawful is same = ap (list_all (λ i. is_lawful i.value)) same ∙ items_lawful t items lawful is

-- the members of a lawful object
pub members_fine : (t : Tree) (members seen : List (Member Tree)) → is_lawful t ≡ true → t ≡ v.Object members → seen ≡ members → list_all (λ m. is_lawful m.value) seen ≡ true
members_fine t members seen lawful is same = ap (list_all (λ m. is_lawful m.value)) same ∙ members_lawful t members lawful is

-- one of them
pub item_fine : (items : List (Item Tree)) (k : ℕ) (i : Item Tree) → list_all (λ i. is_lawful i.value) items ≡ true → k < length items → i ≡ get_or items k i → is_lawful i.value ≡ true
item_fine [] k i all inside here = absurd (omega arith)
item_fine (x ∷ xs) zero i all inside here = ap (λ (j : Item Tree). is_lawful j.value) here ∙ (and_parts (is_lawful x.value) _ all).0
item_fine (x ∷ xs) (suc k) i all inside here = item_fine xs k i (and_parts (is_lawful x.value) _ all).1 (omega arith) here

-- and of these
pub member_fine : (members : List (Member Tree)) (k : ℕ) (m : Member Tree) → list_all (λ m. is_lawful m.value) members ≡ true → k < length members → m ≡ get_or members k m → is_lawful m.value ≡ true
member_fine [] k m all inside here = absurd (omega arith)
member_fine (x ∷ xs) zero m all inside here = ap (λ (n : Member Tree). is_lawful n.value) here ∙ (and_parts (is_lawful x.value) _ all).0
member_fine (x ∷ xs) (suc k) m all inside here = member_fine xs k m (and_parts (is_lawful x.value) _ all).1 (omega arith) here

pub ruleset making = (the_lemmas, item_fine, member_fine, whole_made, list_made, object_made, null_made, bool_made, number_made, version_made, text_made, list_count, object_count, items_fine, members_fine, groups_over)

-- What look-up finds in objects with a member put in or taken out.
use Rattle.std.proofs.Common.{◌≡◌, ℕ, false, List, [], ◌∷◌, Option, Some, None, option_map, option_and_then, refl, sym, ap, ◌∙◌}
use Rattle.std.specs.Str.{bytes_eq}
use Rattle.base_types.proofs.Orders.{bytes_eq-true, bytes_eq-same, bytes_eq-false, bytes_eq-differ}
use Rattle.json_tree.specs.declared.tree.Tree.{Tree}
use Rattle.json_tree.specs.declared.tree.Tree.TheVariants as v
use Rattle.json_tree.specs.declared.tree.Member.{Member}
use Rattle.json_tree.specs.declared.place.Step.{Step}
use Rattle.json_tree.specs.declared.place.Step.TheVariants.{Key}
use Rattle.json_tree.specs.Trees.{new_member}
use Rattle.json_tree.specs.Places.{members_of, value_of, child_of, look}
use Rattle.json_tree.specs.Members.{with_members, without_key, without, put_member, with_member}
use Rattle.json_tree.proofs.TreeLemmas.{child_of-members, members_of-Some}
use Rattle.json_tree.proofs.Kept.{look-one}
use Rattle.json_tree.proofs.MemberChanges.{members_of-with_members, with_members-Object, by_place, value-this, value-other, value_gone, value_stays, value_put, value_under_put, without-it, without-other, without_absent}

-- a name below an object that was changed
child_of_changed : (change : List (Member Tree) → List (Member Tree)) (name : List ℕ) (t : Tree) → child_of (with_members change t) (Key name) ≡ option_and_then (value_of name) (option_map change (members_of t))
child_of_changed change name t = child_of-members (with_members change t) name ∙ ap (option_and_then (value_of name)) (members_of-with_members change t)

-- a change that leaves what stands at a name in an object's members leaves it in a tree
child_stays : (change : List (Member Tree) → List (Member Tree)) (name : List ℕ) (t : Tree) → ((ms : List (Member Tree)) → value_of name (change ms) ≡ value_of name ms) → child_of (with_members change t) (Key name) ≡ child_of t (Key name)
child_stays change name t stays = child_of_changed change name t ∙ go (members_of t) ∙ sym (child_of-members t name)
  where
    go : (o : Option (List (Member Tree))) → option_and_then (value_of name) (option_map change o) ≡ option_and_then (value_of name) o
    go None = refl
    go (Some ms) = stays ms

-- ---- a member put in

-- the value that was put in stands at its name
pub put_stands : (key : List ℕ) (value t : Tree) (ms : List (Member Tree)) → members_of t ≡ Some ms → look (Key key ∷ []) (with_member key value t) ≡ Some value
put_stands key value t ms is =
    let m = new_member key value in
    look-one (with_member key value t) (Key key) ∙ child_of_changed (put_member m) key t ∙ ap (λ o. option_and_then (value_of key) (option_map (put_member m) o)) is ∙ value_put m ms

-- and whatever is not under that name stays
pub put_leaves_others : (key other : List ℕ) (value t : Tree) (steps : List Step) → (key ≡ other → ⊥) → look (Key other ∷ steps) (with_member key value t) ≡ look (Key other ∷ steps) t
put_leaves_others key other value t steps apart =
    let m = new_member key value in
    ap (option_and_then (look steps)) (child_stays (put_member m) other t (λ ms. value_under_put other m ms (bytes_eq-false key other apart)))

-- ---- a member taken out

-- nothing stands at or under a name that was taken out
pub taken_gone : (key : List ℕ) (t : Tree) (steps : List Step) → look (Key key ∷ steps) (without key t) ≡ None
taken_gone key t steps = ap (option_and_then (look steps)) (child_of_changed (without_key key) key t ∙ go (members_of t))
  where
    go : (o : Option (List (Member Tree))) → option_and_then (value_of key) (option_map (without_key key) o) ≡ None
    go None = refl
    go (Some ms) = value_gone key ms

-- and whatever is not under that name stays
pub taken_leaves_others : (key other : List ℕ) (t : Tree) (steps : List Step) → (key ≡ other → ⊥) → look (Key other ∷ steps) (without key t) ≡ look (Key other ∷ steps) t
taken_leaves_others key other t steps apart =
    ap (option_and_then (look steps)) (child_stays (without_key key) other t (λ ms. value_stays key other ms (λ e. apart (sym e))))

-- what was put in where none stood is taken out again
put_taken : (m : Member Tree) (ms : List (Member Tree)) → value_of m.key ms ≡ None → without_key m.key (put_member m ms) ≡ ms
put_taken m [] none = without-it m.key m [] (bytes_eq-same m.key m.key refl)
put_taken m (n ∷ ns) none =
    by_place (λ ks. without_key m.key ks ≡ n ∷ ns) m n ns
    (λ h. without-it m.key m (n ∷ ns) (bytes_eq-same m.key m.key refl) ∙ without_absent m.key (n ∷ ns) none)
    (λ e. let found = value-this m.key n ns (bytes_eq-same n.key m.key (sym (bytes_eq-true m.key n.key e))) in absurd (cc))
    (λ h e.
    let differs : bytes_eq n.key m.key ≡ false = bytes_eq-false n.key m.key (λ s. bytes_eq-differ m.key n.key e (sym s)) in
    without-other m.key n (put_member m ns) differs ∙ ap (λ ks. n ∷ ks) (put_taken m ns (sym (value-other m.key n ns differs) ∙ none)))

-- so a member that was put in where none stood is taken out again
pub put_undone : (key : List ℕ) (value t : Tree) (ms : List (Member Tree)) → members_of t ≡ Some ms → look (Key key ∷ []) t ≡ None → without key (with_member key value t) ≡ t
put_undone key value t ms of none =
    let m = new_member key value in
    let is : t ≡ v.Object ms = members_of-Some t ms of in
    let absent : value_of key ms ≡ None = sym (child_of-members t key ∙ ap (option_and_then (value_of key)) of) ∙ sym (look-one t (Key key)) ∙ none in
    ap (without key) (ap (with_member key value) is ∙ with_members-Object (put_member m) ms) ∙ with_members-Object (without_key key) (put_member m ms) ∙ ap v.Object (put_taken m ms absent) ∙ sym is

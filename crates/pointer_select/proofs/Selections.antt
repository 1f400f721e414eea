-- What a selection is: it is there, there is one, it keeps the conditions of trees.
use Rattle.std.proofs.Common.{◌≡◌, ◌≤◌, ◌+◌, ℕ, ℤ, suc, Bool, true, false, List, [], ◌∷◌, ◌++◌, map, Option, Some, None, option_map, option_and_then, position, is_none, Contains, cond, nat_lt, length, Result, Ok, Err, refl, sym, ap, ◌∙◌, subst, arith, inl, inr}
use Rattle.std.specs.List.{position_or_len}
use Rattle.std.proofs.lemmas.Bool.Decides.{nat_tests}
use Rattle.base_types.proofs.Lists.{Contains-here, Contains-there, Contains-cons_cases, Contains-nil}
use Rattle.base_types.proofs.Options.{is_none-true}
use Rattle.std.proofs.lemmas.Bool.{cases_Bool, true≢false}
use Rattle.std.proofs.lemmas.List.{append-nil}
use Rattle.std.proofs.lemmas.Option.{same_Some, none-some}
use Rattle.json_tree.specs.declared.tree.Tree.{Tree, out-Tree, roll-Tree, roll-out-Tree}
use Rattle.json_tree.specs.declared.tree.Tree.TheOpen.{Tree-F}
use Rattle.json_tree.specs.declared.tree.Tree.TheVariants as v
use Rattle.json_tree.specs.declared.place.Place.{Place}
use Rattle.json_tree.specs.declared.place.Step.{Step}
use Rattle.json_tree.specs.Levels.{Level}
use Rattle.json_tree.specs.Places.{look, misplaced, is_placed}
use Rattle.json_tree.specs.Trees.{is_lawful, is_in_range, nesting_of}
use Rattle.json_tree.specs.WellFormed.{IsWellFormed}
use Rattle.json_tree.proofs.Everywhere.{in_range-places}
use Rattle.json_tree.proofs.Kept.{look_lawful}
use Rattle.json_tree.proofs.LeastMisplaced.{none_misplaced, finds_least}
use Rattle.json_tree.proofs.Outcomes.{look-append}
use Rattle.pointer_select.specs.declared.fault.SelectFault.{SelectFault}
use Rattle.pointer_select.specs.declared.fault.SelectFault.TheVariants.{Missing, Memory}
use Rattle.pointer_select.specs.Internal.Parts.{Test, restricted, keeps}
use Rattle.pointer_select.specs.Kept.{IsKept}
use Rattle.pointer_select.specs.Naming.{place_of, first_missing}
use Rattle.pointer_select.specs.Selection.{kind_in, kind_at, IsRestrictedTo, IsSelection, Selects}
use Rattle.pointer_select.proofs.Keeping.{is_some_left, keeps_any, any_kept, kept_any, keeps_test, keeps_above}
use Rattle.pointer_select.proofs.Restricted.{kind_restricted, look_restricted, look_left_out, restricted_lawful}
use Rattle.pointer_select.proofs.Nesting.{nests_less}
use Rattle.pointer_select.proofs.SameKinds.{one_of_kinds}

-- ---- it is there

kinds : (keep : Test) (o : Option Tree) → option_map (λ u. kind_in (out-Tree u)) (option_map (λ u. restricted u keep) o) ≡ option_map (λ u. kind_in (out-Tree u)) o
kinds keep None = refl
kinds keep (Some u) = ap Some (kind_restricted u keep)

fails : (places : List (List Step)) (place : List Step) → (IsKept places place → ⊥) → keeps_any places place ≡ false
fails places place left_out = elim (cases_Bool (keeps_any places place)) [
  | inl kept ↦ absurd (left_out (any_kept places place kept))
  | inr other ↦ other
]

-- the restricted tree is the tree restricted to the kept places
pub restricts : (t : Tree) (places : List (List Step)) → is_lawful t ≡ true → is_some_left places ≡ true → IsRestrictedTo (IsKept places) t (restricted t (keeps places))
restricts t places lawful some = record {
  lawful = restricted_lawful t lawful (keeps places);
  kept = λ place k. ap (option_map (λ u. kind_in (out-Tree u))) (look_restricted place t (keeps places) (keeps_above places) (keeps_test place places some ∙ kept_any places place k)) ∙ kinds _ (look place t);
  left_out = λ place out. look_left_out place t (keeps places) refl (keeps_test place places some ∙ fails places place out);
}

some_places : {X : Type 0} (f : X → Option (List Step)) (xs : List X) (places : List (List Step)) → map f xs ≡ map Some places → (xs ≡ [] → ⊥) → is_some_left places ≡ true
some_places f [] places h some = absurd (some refl)
some_places f (x ∷ xs) [] h some = absurd (cc)
some_places f (x ∷ xs) (p ∷ ps) h some = refl

-- and the selection by pointers that name these places
pub selected : (pointers : List (List (List ℕ))) (t part : Tree) (places seen : List (List Step)) → is_lawful t ≡ true → (pointers ≡ [] → ⊥) → map (λ tokens. place_of tokens t) pointers ≡ map Some places → seen ≡ places → part ≡ restricted t (keeps seen) → IsSelection pointers t part
selected pointers t part places seen lawful some named same is = record {
  places = places;
  are_places = named;
  restricts = subst (IsRestrictedTo (IsKept places) t) (sym (is ∙ ap (λ ps. restricted t (keeps ps)) same)) (restricts t places lawful (some_places (λ tokens. place_of tokens t) pointers places named some));
}

-- ---- there is one

look_none : (place : List Step) (t : Tree) → look place t ≡ None → kind_at place t ≡ None
look_none place t h = ap (option_map (λ u. kind_in (out-Tree u))) h

same_kind : (places : List (List Step)) (t a b : Tree) → IsRestrictedTo (IsKept places) t a → IsRestrictedTo (IsKept places) t b → (place : List Step) → kind_at place a ≡ kind_at place b
same_kind places t a b p q place = elim (cases_Bool (keeps_any places place)) [
  | inl kept ↦ let k = any_kept places place kept in p.kept place k ∙ sym (q.kept place k)
  | inr other ↦
      let out : IsKept places place → ⊥ = λ k. true≢false (sym (kept_any places place k) ∙ other) in
      look_none place a (p.left_out place out) ∙ sym (look_none place b (q.left_out place out))
]

-- of a tree restricted to kept places
pub one_part : (places : List (List Step)) (t a b : Tree) → IsRestrictedTo (IsKept places) t a → IsRestrictedTo (IsKept places) t b → a ≡ b
one_part places t a b p q = one_of_kinds a b p.lawful q.lawful (same_kind places t a b p q)

-- restricted again it is as it was
pub again_same : (places : List (List Step)) (t part again : Tree) → IsRestrictedTo (IsKept places) t part → IsRestrictedTo (IsKept places) part again → again ≡ part
again_same places t part again p q = one_part places part again part q record { lawful = p.lawful; kept = λ place k. refl; left_out = p.left_out }

some_list : (ps qs : List (List Step)) → map Some ps ≡ map Some qs → ps ≡ qs
some_list [] [] h = refl
some_list [] (q ∷ qs) h = absurd (cc)
some_list (p ∷ ps) [] h = absurd (cc)
some_list (p ∷ ps) (q ∷ qs) h =
    let head : p ≡ q = cc in
    let more : map Some ps ≡ map Some qs = cc in
    (λ k. head k ∷ some_list ps qs more k)

one_selection : (pointers : List (List (List ℕ))) (t a b : Tree) → IsSelection pointers t a → IsSelection pointers t b → a ≡ b
one_selection pointers t a b p q =
    let same : p.places ≡ q.places = some_list p.places q.places (sym p.are_places ∙ q.are_places) in
    one_part q.places t a b (subst (λ ps. IsRestrictedTo (IsKept ps) t a) same p.restricts) q.restricts

-- a selection has the root, so some pointer
has_root : (t part : Tree) → IsSelection [] t part → ⊥
has_root t part s =
    let none : keeps_any s.places [] ≡ false = no_places s.places s.are_places in
    none-some part (sym (s.restricts.left_out [] (λ k. true≢false (sym (kept_any s.places [] k) ∙ none))))
  where
    no_places : (places : List (List Step)) → [] ≡ map Some places → keeps_any places [] ≡ false
    no_places [] h = refl
    no_places (p ∷ ps) h = absurd (cc)

all_pass : {X Y : Type 0} (f : X → Option Y) (xs : List X) (ys : List Y) → map f xs ≡ map Some ys → position_or_len (λ x. is_none (f x)) xs ≡ length xs
all_pass f [] ys h = refl
all_pass f (x ∷ xs) [] h = absurd (cc)
all_pass f (x ∷ xs) (y ∷ ys) h =
    let this : f x ≡ Some y = cc in
    let more : map f xs ≡ map Some ys = cc in
    let rest : position_or_len (λ x. is_none (f x)) xs ≡ length xs = all_pass f xs ys more in
    let longer : 1 + position_or_len (λ x. is_none (f x)) xs ≡ suc (length xs) = omega arith in
    rw this longer

all_named : {X Y : Type 0} (f : X → Option Y) (xs : List X) (ys : List Y) → map f xs ≡ map Some ys → position (λ x. is_none (f x)) xs ≡ None
all_named f xs ys h =
    let len : position_or_len (λ x. is_none (f x)) xs ≡ length xs = all_pass f xs ys h in
    let past : nat_lt (position_or_len (λ x. is_none (f x)) xs) (length xs) ≡ false = grind (arith, nat_tests) in
    ap (λ (b : Bool). cond b (Some (position_or_len (λ x. is_none (f x)) xs)) None) past

-- ---- what a part keeps

Contains-left : {X : Type 0} (xs ys : List X) (x : X) → Contains xs x → Contains (xs ++ ys) x
Contains-left [] ys x c = absurd (Contains-nil x c)
Contains-left (z ∷ zs) ys x c = elim (Contains-cons_cases z zs x c) [
  | inl this ↦ subst (λ y. Contains (z ∷ zs ++ ys) y) this (Contains-here z (zs ++ ys))
  | inr later ↦ Contains-there z (zs ++ ys) x (Contains-left zs ys x later)
]

-- more places keep more
pub more_kept : (places others : List (List Step)) (place : List Step) → IsKept places place → IsKept (places ++ others) place
more_kept places others place k = record { pointed = k.pointed; one_of = Contains-left places others k.pointed k.one_of; kept = k.kept }

-- the kind of a value that contains nothing tells the value
version_kind : (y : Tree-F Tree) → kind_in y ≡ Tree-F.Version → y ≡ Tree-F.Version
version_kind Tree-F.Null h = absurd (cc)
version_kind (Tree-F.Bool b) h = absurd (cc)
version_kind (Tree-F.Whole z) h = absurd (cc)
version_kind Tree-F.Version h = refl
version_kind (Tree-F.Text text) h = absurd (cc)
version_kind (Tree-F.List items) h = absurd (cc)
version_kind (Tree-F.Object members) h = absurd (cc)

whole_kind : (y : Tree-F Tree) (z : ℤ) → kind_in y ≡ Tree-F.Whole z → y ≡ Tree-F.Whole z
whole_kind Tree-F.Null z h = absurd (cc)
whole_kind (Tree-F.Bool b) z h = absurd (cc)
whole_kind (Tree-F.Whole w) z h = let same : w ≡ z = cc in ap Tree-F.Whole same
whole_kind Tree-F.Version z h = absurd (cc)
whole_kind (Tree-F.Text text) z h = absurd (cc)
whole_kind (Tree-F.List items) z h = absurd (cc)
whole_kind (Tree-F.Object members) z h = absurd (cc)

-- what stands in a part has the kind of what stood there
kind_stands : (places : List (List Step)) (t part : Tree) → IsRestrictedTo (IsKept places) t part → (place : List Step) (u : Tree) → look place part ≡ Some u → kind_at place t ≡ Some (kind_in (out-Tree u))
kind_stands places t part r place u h = elim (cases_Bool (keeps_any places place)) [
  | inl kept ↦ sym (r.kept place (any_kept places place kept)) ∙ ap (option_map (λ u. kind_in (out-Tree u))) h
  | inr other ↦ absurd (none-some u (sym (r.left_out place (λ k. true≢false (sym (kept_any places place k) ∙ other))) ∙ h))
]

stands_by : (o : Option Tree) (k : Level) (w : Tree) → ((y : Tree-F Tree) → kind_in y ≡ k → roll-Tree y ≡ w) → option_map (λ u. kind_in (out-Tree u)) o ≡ Some k → o ≡ Some w
stands_by None k w told h = absurd (none-some k h)
stands_by (Some u) k w told h = ap Some (sym (roll-out-Tree u) ∙ told (out-Tree u) (same_Some (kind_in (out-Tree u)) k h))

version_stands : (places : List (List Step)) (t part : Tree) → IsRestrictedTo (IsKept places) t part → (place : List Step) → look place part ≡ Some v.Version → look place t ≡ Some v.Version
version_stands places t part r place h = stands_by (look place t) Tree-F.Version v.Version (λ y k. ap roll-Tree (version_kind y k) ∙ v.rolls-Version) (kind_stands places t part r place v.Version h ∙ ap (λ y. Some (kind_in y)) v.outs-Version)

whole_stands : (places : List (List Step)) (t part : Tree) → IsRestrictedTo (IsKept places) t part → (place : List Step) (z : ℤ) → look place part ≡ Some (v.Whole z) → look place t ≡ Some (v.Whole z)
whole_stands places t part r place z h = stands_by (look place t) (Tree-F.Whole z) (v.Whole z) (λ y k. ap roll-Tree (whole_kind y z k) ∙ v.rolls-Whole z) (kind_stands places t part r place (v.Whole z) h ∙ ap (λ y. Some (kind_in y)) (v.outs-Whole z))

-- no version number is misplaced in it that was not
pub part_versions : (places : List (List Step)) (t part : Tree) (named : Bool) → IsRestrictedTo (IsKept places) t part → misplaced t named ≡ None → misplaced part named ≡ None
part_versions places t part named r none = go (misplaced part named) refl
  where
    go : (o : Option (List Step)) → misplaced part named ≡ o → o ≡ None
    go None e = refl
    go (Some place) e =
        let l = finds_least part named place r.lawful e in
        absurd (none_misplaced t named place none record { stands = version_stands places t part r place l.misplaced.stands; not_named = l.misplaced.not_named })

-- its whole numbers are in range
pub part_in_range : (places : List (List Step)) (t part : Tree) → IsRestrictedTo (IsKept places) t part → is_lawful t ≡ true → is_in_range t ≡ true → is_in_range part ≡ true
part_in_range places t part r lawful fits = (in_range-places part r.lawful).1 (λ place z h. (in_range-places t lawful).0 fits place z (whole_stands places t part r place z h))

-- it is well formed where the tree was
pub part_well_formed : (places : List (List Step)) (t part : Tree) → IsRestrictedTo (IsKept places) t part → IsWellFormed t → IsWellFormed part
part_well_formed places t part r w = record {
  lawful = r.lawful;
  in_range = part_in_range places t part r w.lawful w.in_range;
  versions = part_versions places t part true r w.versions;
}

-- ---- what is pointed at is whole

kept_below : (places : List (List Step)) (place more : List Step) → Contains places place → IsKept places (place ++ more)
kept_below places place more c = record { pointed = place; one_of = c; kept = inr (inl record { rest = more; goes_on = refl }) }

at_place : (place : List Step) (t part : Tree) → ((more : List Step) → kind_at (place ++ more) part ≡ kind_at (place ++ more) t) → kind_at place part ≡ kind_at place t
at_place place t part same = subst (λ p. kind_at p part ≡ kind_at p t) (append-nil place) (same [])

both_looked : (place : List Step) (t part : Tree) → is_lawful t ≡ true → is_lawful part ≡ true → ((more : List Step) → kind_at (place ++ more) part ≡ kind_at (place ++ more) t) → (a b : Option Tree) → look place part ≡ a → look place t ≡ b → a ≡ b
both_looked place t part fine lawful same None None e f = refl
both_looked place t part fine lawful same None (Some u) e f = absurd (none-some (kind_in (out-Tree u)) (sym (ap (option_map (λ u. kind_in (out-Tree u))) e) ∙ at_place place t part same ∙ ap (option_map (λ u. kind_in (out-Tree u))) f))
both_looked place t part fine lawful same (Some w) None e f = absurd (none-some (kind_in (out-Tree w)) (sym (ap (option_map (λ u. kind_in (out-Tree u))) f) ∙ sym (at_place place t part same) ∙ ap (option_map (λ u. kind_in (out-Tree u))) e))
both_looked place t part fine lawful same (Some w) (Some u) e f =
    let below : (more : List Step) → kind_at more w ≡ kind_at more u = λ more.
    ap (option_map (λ u. kind_in (out-Tree u))) (sym (look-append place more part ∙ ap (option_and_then (look more)) e))
    ∙ same more
    ∙ ap (option_map (λ u. kind_in (out-Tree u))) (look-append place more t ∙ ap (option_and_then (look more)) f) in
    ap Some (one_of_kinds w u (look_lawful place part w lawful e) (look_lawful place t u fine f) below)

-- what stands at a pointed place is what stood there
pub pointed_whole : (places : List (List Step)) (t part : Tree) (place : List Step) → is_lawful t ≡ true → IsRestrictedTo (IsKept places) t part → Contains places place → look place part ≡ look place t
pointed_whole places t part place fine r c = both_looked place t part fine r.lawful (λ more. r.kept (place ++ more) (kept_below places place more c)) (look place part) (look place t) refl refl

-- ---- one outcome

-- pointers and a tree have one outcome
pub one_outcome : (pointers : List (List (List ℕ))) (t : Tree) (r s : Result (Option Tree) SelectFault) → Selects pointers t r → Selects pointers t s → (r ≡ Err Memory → ⊥) → (s ≡ Err Memory → ⊥) → r ≡ s
one_outcome pointers t (Err Memory) s a b m n = absurd (m refl)
one_outcome pointers t (Ok None) (Err Memory) a b m n = absurd (n refl)
one_outcome pointers t (Ok (Some p)) (Err Memory) a b m n = absurd (n refl)
one_outcome pointers t (Err (Missing i)) (Err Memory) a b m n = absurd (n refl)
one_outcome pointers t (Ok None) (Ok None) a b m n = refl
one_outcome pointers t (Ok None) (Ok (Some q)) a b m n = absurd (has_root t q (subst (λ ps. IsSelection ps t q) a b))
one_outcome pointers t (Ok None) (Err (Missing j)) a b m n = absurd (none-some j (ap (λ ps. first_missing ps t) (sym a) ∙ b))
one_outcome pointers t (Ok (Some p)) (Ok None) a b m n = absurd (has_root t p (subst (λ ps. IsSelection ps t p) b a))
one_outcome pointers t (Ok (Some p)) (Ok (Some q)) a b m n = ap (λ u. Ok (Some u)) (one_selection pointers t p q a b)
one_outcome pointers t (Ok (Some p)) (Err (Missing j)) a b m n = absurd (none-some j (sym (all_named (λ tokens. place_of tokens t) pointers a.places a.are_places) ∙ b))
one_outcome pointers t (Err (Missing i)) (Ok None) a b m n = absurd (none-some i (ap (λ ps. first_missing ps t) (sym b) ∙ a))
one_outcome pointers t (Err (Missing i)) (Ok (Some q)) a b m n = absurd (none-some i (sym (all_named (λ tokens. place_of tokens t) pointers b.places b.are_places) ∙ a))
one_outcome pointers t (Err (Missing i)) (Err (Missing j)) a b m n = ap (λ (k : ℕ). Err (Missing k)) (same_Some i j (sym a ∙ b))

-- ---- what `select` answers

-- the places' steps that are passed on
pub passed_on : (pointers : List (List (List ℕ))) (t part : Tree) (places : List Place) (pointed seen : List (List Step)) → is_lawful t ≡ true → (pointers ≡ [] → ⊥) → map (λ tokens. place_of tokens t) pointers ≡ map Some (map (λ (p : Place). p.steps) places) → pointed ≡ map (λ (p : Place). p.steps) places → seen ≡ pointed → part ≡ restricted t (keeps seen) → IsSelection pointers t part
passed_on pointers t part places pointed seen lawful some named steps same is =
    selected pointers t part (map (λ (p : Place). p.steps) places) seen lawful some named (same ∙ steps) is

-- a selection keeps the conditions of trees
pub stays_well_formed : (pointers : List (List (List ℕ))) (t part : Tree) → IsSelection pointers t part → IsWellFormed t → IsWellFormed part
stays_well_formed pointers t part s w = part_well_formed s.places t part s.restricts w

-- and version numbers where they may stand
pub stays_placed : (pointers : List (List (List ℕ))) (t part : Tree) → IsSelection pointers t part → is_placed t ≡ true → is_placed part ≡ true
stays_placed pointers t part s h = ap is_none (part_versions s.places t part false s.restricts (is_none-true (misplaced t false) h))

-- and nests no deeper
pub stays_shallow : (t part : Tree) (places : List (List Step)) → part ≡ restricted t (keeps places) → nesting_of part ≤ nesting_of t
stays_shallow t part places is = subst (λ u. nesting_of u ≤ nesting_of t) (sym is) (nests_less t (keeps places))

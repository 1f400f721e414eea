-- Which keys a map has after an entry was put into it.
use Rattle.std.proofs.Common.{◌≡◌, ◌≢◌, ℕ, Bool, true, false, cond, List, [], ◌∷◌, Option, Some, refl, sym, ap, ◌∙◌, arith}
use Rattle.std.specs.Prelude.{is_some}
use Rattle.std.specs.List.{AllByRecursion}
use Rattle.std.specs.Ordering.{nat_cmp, is_eq, match_ordering}
use Rattle.std.specs.declared.cmp.Ordering.{Ordering}
use Rattle.std.specs.declared.cmp.Ordering.TheVariants.{Less, Equal, Greater}
use Rattle.std.specs.Map.{lookup}
use Rattle.std.specs.BTreeMap.{is_at, insert_entry}
use Rattle.std.proofs.lemmas.Bool.{false≢true}
use Rattle.std.proofs.lemmas.Bool.Decides.{nat_tests}
use Rattle.cbor_core.specs.declared.item.Item.{Item}

-- the entries, put one after another each at its place by key among those before
abbrev pub put_all : List (ℕ × Item) → List (ℕ × Item) → List (ℕ × Item)
put_all done [] = done
put_all done (entry ∷ entries) = put_all (insert_entry nat_cmp done entry.0 entry.1) entries

-- whether a map has the key
abbrev pub has : ℕ → List (ℕ × Item) → Bool
has key entries = is_some (lookup (is_at (nat_cmp key)) entries)

-- a map has none of the keys of these entries
abbrev pub Fresh : List (ℕ × Item) → List (ℕ × Item) → Type 0
Fresh done entries = AllByRecursion (λ (e : ℕ × Item). has e.0 done ≡ false) entries

abbrev pub AllBut : ℕ → List (ℕ × Item) → Type 0
AllBut key entries = AllByRecursion (λ (e : ℕ × Item). e.0 ≢ key) entries

at_itself : (k : ℕ) → is_eq (nat_cmp k k) ≡ true
at_itself k = grind (arith, nat_tests)

at_other : (j k : ℕ) → j ≢ k → is_eq (nat_cmp j k) ≡ false
at_other j k ne = grind (arith, nat_tests)

some_either : (t : Bool) (x y : Item) (o p : Option Item) → is_some o ≡ is_some p → is_some (cond t (Some x) o) ≡ is_some (cond t (Some y) p)
some_either true x y o p h = refl
some_either false x y o p h = h

put_other_by : (o : Ordering) (j k : ℕ) (v : Item) (e : ℕ × Item) (es more : List (ℕ × Item)) → j ≢ k → has j more ≡ has j es → has j (match_ordering o ((k, v) ∷ (e ∷ es)) ((e.0, v) ∷ es) (e ∷ more)) ≡ has j (e ∷ es)
put_other_by Less j k v e es more ne ih = rw (at_other j k ne) refl
put_other_by Equal j k v e es more ne ih = some_either (is_eq (nat_cmp j e.0)) v e.1 (lookup (is_at (nat_cmp j)) es) (lookup (is_at (nat_cmp j)) es) refl
put_other_by Greater j k v e es more ne ih = some_either (is_eq (nat_cmp j e.0)) e.1 e.1 (lookup (is_at (nat_cmp j)) more) (lookup (is_at (nat_cmp j)) es) ih

-- to put an entry in changes nothing at another key
pub has_put_other : (j k : ℕ) (v : Item) (es : List (ℕ × Item)) → j ≢ k → has j (insert_entry nat_cmp es k v) ≡ has j es
has_put_other j k v [] ne = rw (at_other j k ne) refl
has_put_other j k v (e ∷ es) ne = put_other_by (nat_cmp k e.0) j k v e es (insert_entry nat_cmp es k v) ne (has_put_other j k v es ne)

put_same_by : (o : Ordering) (k : ℕ) (v : Item) (e : ℕ × Item) (es more : List (ℕ × Item)) → nat_cmp k e.0 ≡ o → has k more ≡ true → has k (match_ordering o ((k, v) ∷ (e ∷ es)) ((e.0, v) ∷ es) (e ∷ more)) ≡ true
put_same_by Less k v e es more is ih = rw (at_itself k) refl
put_same_by Equal k v e es more is ih = rw is refl
put_same_by Greater k v e es more is ih = rw is ih

-- a map has the key of the entry that was put in
pub has_put_same : (k : ℕ) (v : Item) (es : List (ℕ × Item)) → has k (insert_entry nat_cmp es k v) ≡ true
has_put_same k v [] = rw (at_itself k) refl
has_put_same k v (e ∷ es) = put_same_by (nat_cmp k e.0) k v e es (insert_entry nat_cmp es k v) refl (has_put_same k v es)

-- entries whose keys are new after one was put were new before, and have other keys
differs : (j k : ℕ) (v : Item) (done : List (ℕ × Item)) → has j (insert_entry nat_cmp done k v) ≡ false → j ≢ k
differs j k v done h e = false≢true (sym h ∙ ap (λ (i : ℕ). has i (insert_entry nat_cmp done k v)) e ∙ has_put_same k v done)

-- keys that are new after an entry was put in were new before, and are not that entry's
pub fresh_before : (k : ℕ) (v : Item) (done entries : List (ℕ × Item)) → Fresh (insert_entry nat_cmp done k v) entries → Fresh done entries × AllBut k entries
fresh_before k v done [] h = (tt, tt)
fresh_before k v done (e ∷ es) h =
    let ne = differs e.0 k v done h.0 in
    let rest = fresh_before k v done es h.1 in
    ((sym (has_put_other e.0 k v done ne) ∙ h.0, rest.0), (ne, rest.1))

-- keys that are new to a map, and differ from one put in, are new after it as well
pub fresh_after : (k : ℕ) (v : Item) (done entries : List (ℕ × Item)) → Fresh done entries → AllBut k entries → Fresh (insert_entry nat_cmp done k v) entries
fresh_after k v done [] h ne = tt
fresh_after k v done (e ∷ es) h ne = (has_put_other e.0 k v done ne.0 ∙ h.0, fresh_after k v done es h.1 ne.1)

-- nothing is in the empty map
pub fresh_at_first : (entries : List (ℕ × Item)) → Fresh [] entries
fresh_at_first [] = tt
fresh_at_first (e ∷ es) = (refl, fresh_at_first es)

-- a key that entries have not when they are put was not there, and none of them has it
pub lacks_before : (k : ℕ) (es done : List (ℕ × Item)) → has k (put_all done es) ≡ false → (has k done ≡ false) × AllBut k es
lacks_before k [] done h = (h, tt)
lacks_before k (e ∷ es) done h =
    let rest = lacks_before k es (insert_entry nat_cmp done e.0 e.1) h in
    let other = differs k e.0 e.1 done rest.0 in
    (sym (has_put_other k e.0 e.1 done other) ∙ rest.0, ((λ same. other (sym same)), rest.1))

-- a map that lacks a key still does when entries of other keys are put in
pub lacks_after : (k : ℕ) (es done : List (ℕ × Item)) → has k done ≡ false → AllBut k es → has k (put_all done es) ≡ false
lacks_after k [] done h all = h
lacks_after k (e ∷ es) done h all = lacks_after k es (insert_entry nat_cmp done e.0 e.1) (has_put_other k e.0 e.1 done (λ same. all.0 (sym same)) ∙ h) all.1

-- A map holds the entries that were put, by rising key, and no other list is that map.
use Rattle.std.proofs.Common.{◌≡◌, ℕ, suc, ◌^◌, ◌<◌, true, false, ltb, List, [], ◌∷◌, ◌++◌, length, map, refl, sym, ap, subst, ◌∙◌, arith, inl, inr}
use Rattle.std.specs.Prelude.{◌⊎◌, Contains}
use Rattle.std.specs.List.{list_all}
use Rattle.std.specs.Ordering.{nat_cmp, match_ordering}
use Rattle.std.specs.declared.cmp.Ordering.{Ordering}
use Rattle.std.specs.declared.cmp.Ordering.TheVariants.{Less, Equal, Greater}
use Rattle.std.specs.BTreeMap.{insert_entry}
use Rattle.std.proofs.lemmas.Bool.{true≢false, lt-ltb}
use Rattle.std.proofs.lemmas.Cmp.{ranked}
use Rattle.base_types.specs.Order.{rise}
use Rattle.base_types.specs.Sets.{SameElements}
use Rattle.base_types.proofs.Lists.{Contains-here, Contains-there, Contains-cons_cases, Contains-nil, AllByRecursion-contains, SameElements-trans, SameElements-sym, SameElements-map}
use Rattle.cbor_core.specs.declared.item.Item.{Item}
use Rattle.cbor_core.specs.declared.item.Item.TheVariants as v
use Rattle.cbor_core.specs.declared.item.Pair.{Pair}
use Rattle.cbor_core.specs.Grammar.{head_of, EncodesEntries, EncodesMap, IsMapOf, KeysDiffer, pairs_of}
use Rattle.cbor_core.proofs.Keys.{put_all, has, Fresh, fresh_after, fresh_at_first}
use Rattle.cbor_core.proofs.Lawful.{Above, Rising, entries_of, same_pairs, rising_from}

-- ---- an entry at its place by key

above_put_by : (o : Ordering) (low k : ℕ) (value : Item) (e : ℕ × Item) (es more : List (ℕ × Item)) → low < k → Above low (e ∷ es) → Above low more → Above low (match_ordering o ((k, value) ∷ (e ∷ es)) ((e.0, value) ∷ es) (e ∷ more))
above_put_by Less low k value e es more lt a ih = (lt, a)
above_put_by Equal low k value e es more lt a ih = (a.0, a.1)
above_put_by Greater low k value e es more lt a ih = (a.0, ih)

above_put : (low k : ℕ) (value : Item) (es : List (ℕ × Item)) → low < k → Above low es → Above low (insert_entry nat_cmp es k value)
above_put low k value [] lt a = (lt, tt)
above_put low k value (e ∷ es) lt a = above_put_by (nat_cmp k e.0) low k value e es (insert_entry nat_cmp es k value) lt a (above_put low k value es lt a.1)

above_lower : (k j : ℕ) (es : List (ℕ × Item)) → k < j → Above j es → Above k es
above_lower k j [] lt a = tt
above_lower k j (e ∷ es) lt a = (omega (arith, a.0), above_lower k j es lt a.1)

rising_put_by : (o : Ordering) (k : ℕ) (value : Item) (e : ℕ × Item) (es : List (ℕ × Item)) → o ≡ nat_cmp k e.0 → Rising (e ∷ es) → Rising (insert_entry nat_cmp es k value)
    → Rising (match_ordering o ((k, value) ∷ (e ∷ es)) ((e.0, value) ∷ es) (e ∷ insert_entry nat_cmp es k value))
rising_put_by Less k value e es is r ih = let lt = ranked k e.0 Less is in ((lt, above_lower k e.0 es lt r.0), r)
rising_put_by Equal k value e es is r ih = (r.0, r.1)
rising_put_by Greater k value e es is r ih = (above_put e.0 k value es (ranked k e.0 Greater is) r.0, ih)

rising_put : (k : ℕ) (value : Item) (es : List (ℕ × Item)) → Rising es → Rising (insert_entry nat_cmp es k value)
rising_put k value [] r = (tt, tt)
rising_put k value (e ∷ es) r = rising_put_by (nat_cmp k e.0) k value e es refl r (rising_put k value es r.1)

-- entries that are put among rising ones rise
pub rising_all : (es done : List (ℕ × Item)) → Rising done → Rising (put_all done es)
rising_all [] done r = r
rising_all (e ∷ es) done r = rising_all es (insert_entry nat_cmp done e.0 e.1) (rising_put e.0 e.1 done r)

-- ---- the pairs of entries

abbrev key_of : Pair Item → ℕ
key_of p = p.key

above_rise : (k : ℕ) (es : List (ℕ × Item)) → Above k es → list_all (ltb k) (map key_of (pairs_of es)) ≡ true
above_rise k [] a = refl
above_rise k (e ∷ es) a = rw (lt-ltb k e.0 a.0) (above_rise k es a.1)

-- the pairs of rising entries have keys that rise
pub rising_rise : (es : List (ℕ × Item)) → Rising es → rise (map key_of (pairs_of es)) ≡ true
rising_rise [] r = refl
rising_rise (e ∷ es) r = rw (above_rise e.0 es r.0) (rising_rise es r.1)

-- ---- which entries are there

here_put_by : (o : Ordering) (k : ℕ) (value : Item) (e : ℕ × Item) (es more : List (ℕ × Item)) → nat_cmp k e.0 ≡ o → has k (e ∷ es) ≡ false → (has k es ≡ false → Contains more (k, value))
    → Contains (match_ordering o ((k, value) ∷ (e ∷ es)) ((e.0, value) ∷ es) (e ∷ more)) (k, value)
here_put_by Less k value e es more is h ih = Contains-here (k, value) (e ∷ es)
here_put_by Equal k value e es more is h ih = absurd (true≢false (rw is at h))
here_put_by Greater k value e es more is h ih = Contains-there e more (k, value) (ih (rw is at h))

here_put : (k : ℕ) (value : Item) (es : List (ℕ × Item)) → has k es ≡ false → Contains (insert_entry nat_cmp es k value) (k, value)
here_put k value [] h = Contains-here (k, value) []
here_put k value (e ∷ es) h = here_put_by (nat_cmp k e.0) k value e es (insert_entry nat_cmp es k value) refl h (λ g. here_put k value es g)

old_put_by : (o : Ordering) (k : ℕ) (value : Item) (e : ℕ × Item) (es more : List (ℕ × Item)) (x : ℕ × Item) → nat_cmp k e.0 ≡ o → has k (e ∷ es) ≡ false → (has k es ≡ false → Contains es x → Contains more x) → Contains (e ∷ es) x
    → Contains (match_ordering o ((k, value) ∷ (e ∷ es)) ((e.0, value) ∷ es) (e ∷ more)) x
old_put_by Less k value e es more x is h ih c = Contains-there (k, value) (e ∷ es) x c
old_put_by Equal k value e es more x is h ih c = absurd (true≢false (rw is at h))
old_put_by Greater k value e es more x is h ih c = elim (Contains-cons_cases e es x c) [
  | inl same ↦ subst (Contains (e ∷ more)) same (Contains-here e more)
  | inr d ↦ Contains-there e more x (ih (rw is at h) d)
]

old_put : (k : ℕ) (value : Item) (es : List (ℕ × Item)) (x : ℕ × Item) → has k es ≡ false → Contains es x → Contains (insert_entry nat_cmp es k value) x
old_put k value [] x h c = absurd (Contains-nil x c)
old_put k value (e ∷ es) x h c = old_put_by (nat_cmp k e.0) k value e es (insert_entry nat_cmp es k value) x refl h (λ g d. old_put k value es x g d) c

from_put_by : (o : Ordering) (k : ℕ) (value : Item) (e : ℕ × Item) (es more : List (ℕ × Item)) (x : ℕ × Item) → nat_cmp k e.0 ≡ o → has k (e ∷ es) ≡ false → (has k es ≡ false → Contains more x → ((k, value) ≡ x) ⊎ Contains es x)
    → Contains (match_ordering o ((k, value) ∷ (e ∷ es)) ((e.0, value) ∷ es) (e ∷ more)) x → ((k, value) ≡ x) ⊎ Contains (e ∷ es) x
from_put_by Less k value e es more x is h ih c = Contains-cons_cases (k, value) (e ∷ es) x c
from_put_by Equal k value e es more x is h ih c = absurd (true≢false (rw is at h))
from_put_by Greater k value e es more x is h ih c = elim (Contains-cons_cases e more x c) [
  | inl same ↦ inr (subst (Contains (e ∷ es)) same (Contains-here e es))
  | inr d ↦ elim (ih (rw is at h) d) [
    | inl same ↦ inl same
    | inr f ↦ inr (Contains-there e es x f)
  ]
]

from_put : (k : ℕ) (value : Item) (es : List (ℕ × Item)) (x : ℕ × Item) → has k es ≡ false → Contains (insert_entry nat_cmp es k value) x → ((k, value) ≡ x) ⊎ Contains es x
from_put k value [] x h c = Contains-cons_cases (k, value) [] x c
from_put k value (e ∷ es) x h c = from_put_by (nat_cmp k e.0) k value e es (insert_entry nat_cmp es k value) x refl h (λ g d. from_put k value es x g d) c

all_there : (es done : List (ℕ × Item)) → KeysDiffer es → Fresh done es → (x : ℕ × Item) → Contains done x ⊎ Contains es x → Contains (put_all done es) x
all_there [] done d h x (inl c) = c
all_there [] done d h x (inr c) = absurd (Contains-nil x c)
all_there (e ∷ es) done d h x (inl c) = all_there es (insert_entry nat_cmp done e.0 e.1) d.1 (fresh_after e.0 e.1 done es h.1 d.0) x (inl (old_put e.0 e.1 done x h.0 c))
all_there (e ∷ es) done d h x (inr c) = elim (Contains-cons_cases e es x c) [
  | inl same ↦ all_there es (insert_entry nat_cmp done e.0 e.1) d.1 (fresh_after e.0 e.1 done es h.1 d.0) x (inl (subst (Contains (insert_entry nat_cmp done e.0 e.1)) same (here_put e.0 e.1 done h.0)))
  | inr f ↦ all_there es (insert_entry nat_cmp done e.0 e.1) d.1 (fresh_after e.0 e.1 done es h.1 d.0) x (inr f)
]

none_else : (es done : List (ℕ × Item)) → KeysDiffer es → Fresh done es → (x : ℕ × Item) → Contains (put_all done es) x → Contains done x ⊎ Contains es x
none_else [] done d h x c = inl c
none_else (e ∷ es) done d h x c = elim (none_else es (insert_entry nat_cmp done e.0 e.1) d.1 (fresh_after e.0 e.1 done es h.1 d.0) x c) [
  | inl f ↦ elim (from_put e.0 e.1 done x h.0 f) [
    | inl same ↦ inr (subst (Contains (e ∷ es)) same (Contains-here e es))
    | inr g ↦ inl g
  ]
  | inr f ↦ inr (Contains-there e es x f)
]

same_all : (es : List (ℕ × Item)) → KeysDiffer es → SameElements es (put_all [] es)
same_all es d x = (
  (λ c. all_there es [] d (fresh_at_first es) x (inr c)),
  (λ c. elim (none_else es [] d (fresh_at_first es) x c) [
    | inl f ↦ absurd (Contains-nil x f)
    | inr f ↦ f
  ]),
)

-- ---- rising entries are given by what is there

first_same : (e f : ℕ × Item) (es fs : List (ℕ × Item)) → Above e.0 es → Above f.0 fs → Contains (f ∷ fs) e → Contains (e ∷ es) f → e ≡ f
first_same e f es fs a b there here = elim (Contains-cons_cases f fs e there) [
  | inl same ↦ sym same
  | inr c ↦ elim (Contains-cons_cases e es f here) [
    | inl same ↦ same
    | inr d ↦
        let less = AllByRecursion-contains (λ (x : ℕ × Item). f.0 < x.0) fs e b c in
        let more = AllByRecursion-contains (λ (x : ℕ × Item). e.0 < x.0) es f a d in
        absurd (omega (arith, less, more))
  ]
]

in_tail : (e : ℕ × Item) (es fs : List (ℕ × Item)) → Above e.0 es → (x : ℕ × Item) → Contains es x → Contains (e ∷ fs) x → Contains fs x
in_tail e es fs a x c there = elim (Contains-cons_cases e fs x there) [
  | inl same ↦
      let less = AllByRecursion-contains (λ (y : ℕ × Item). e.0 < y.0) es x a c in
      absurd (omega (arith, less, ap (λ (y : ℕ × Item). y.0) same))
  | inr d ↦ d
]

rising_unique : (es fs : List (ℕ × Item)) → Rising es → Rising fs → SameElements es fs → es ≡ fs
rising_unique [] [] r t same = refl
rising_unique [] (f ∷ fs) r t same = absurd (Contains-nil f ((same f).1 (Contains-here f fs)))
rising_unique (e ∷ es) [] r t same = absurd (Contains-nil e ((same e).0 (Contains-here e es)))
rising_unique (e ∷ es) (f ∷ fs) r t same =
    let first : e ≡ f = first_same e f es fs r.0 t.0 ((same e).0 (Contains-here e es)) ((same f).1 (Contains-here f fs)) in
    let above : Above e.0 fs = subst (λ (x : ℕ × Item). Above x.0 fs) (sym first) t.0 in
    let alike : SameElements (e ∷ es) (e ∷ fs) = subst (λ (x : ℕ × Item). SameElements (e ∷ es) (x ∷ fs)) (sym first) same in
    let rest : SameElements es fs = λ x. ((λ c. in_tail e es fs r.0 x c ((alike x).0 (Contains-there e es x c))), (λ c. in_tail e fs es above x c ((alike x).1 (Contains-there e fs x c)))) in
    let tails : es ≡ fs = rising_unique es fs r.1 t.1 rest in
    cc

-- ---- the map of entries

entry_of : Pair Item → ℕ × Item
entry_of p = (p.key, p.value)

entries_map : (ps : List (Pair Item)) → map entry_of ps ≡ entries_of ps
unfolding entries_of entry_of
entries_map [] = refl
entries_map (p ∷ ps) = ap (λ (z : List (ℕ × Item)). (p.key, p.value) ∷ z) (entries_map ps)

entries_back : (es : List (ℕ × Item)) → map entry_of (pairs_of es) ≡ es
unfolding entry_of
entries_back [] = refl
entries_back (e ∷ es) = ap (λ (z : List (ℕ × Item)). e ∷ z) (entries_back es)

-- what the map of entries is when these are put one after another
pub map_is_put : (es : List (ℕ × Item)) (ps : List (Pair Item)) → IsMapOf es ps → ps ≡ pairs_of (put_all [] es)
map_is_put es ps m =
    let mapped : SameElements (map entry_of (pairs_of es)) (map entry_of ps) = SameElements-map entry_of (pairs_of es) ps m.1 in
    let alike : SameElements es (entries_of ps) = subst (λ (z : List (ℕ × Item)). SameElements z (entries_of ps)) (entries_back es) (subst (SameElements (map entry_of (pairs_of es))) (entries_map ps) mapped) in
    let same : SameElements (entries_of ps) (put_all [] es) = SameElements-trans (entries_of ps) es (put_all [] es) (SameElements-sym es (entries_of ps) alike) (same_all es m.0) in
    let one : entries_of ps ≡ put_all [] es = rising_unique (entries_of ps) (put_all [] es) (rising_from ps m.2) (rising_all es [] tt) same in
    sym (same_pairs ps) ∙ ap pairs_of one

-- entries that are put one after another are the map of these entries
pub put_is_map : (es : List (ℕ × Item)) → KeysDiffer es → IsMapOf es (pairs_of (put_all [] es))
put_is_map es d = (d, SameElements-map (λ (e : ℕ × Item). record { key = e.0; value = e.1 }) es (put_all [] es) (same_all es d), rising_rise (put_all [] es) (rising_all es [] tt))

-- the bytes of a map whose entries are put one after another
abbrev pub EncodesPut : (Item → ℕ → List ℕ → Type 0) → Item → ℕ → List ℕ → Type 0
EncodesPut spells item count bytes = (entries : List (ℕ × Item)) × (n : ℕ) × (rest : List ℕ) × (item ≡ v.Map (pairs_of (put_all [] entries))) × KeysDiffer entries × (length entries < 2 ^ 64) × EncodesEntries spells entries n rest × (count ≡ suc n) × (bytes ≡ head_of 5 (length entries) ++ rest)

-- a map is spelled so where its entries are put one after another
pub by_put : (spells : Item → ℕ → List ℕ → Type 0) (item : Item) (count : ℕ) (bytes : List ℕ) → EncodesMap spells item count bytes → EncodesPut spells item count bytes
by_put spells item count bytes s = (s.0, s.2, s.3, s.4 ∙ ap (λ (ps : List (Pair Item)). v.Map ps) (map_is_put s.0 s.1 s.5), s.5.0, s.6, s.7, s.8, s.9)

-- and entries that are put one after another spell a map
pub from_put_all : (spells : Item → ℕ → List ℕ → Type 0) (item : Item) (count : ℕ) (bytes : List ℕ) → EncodesPut spells item count bytes → EncodesMap spells item count bytes
from_put_all spells item count bytes s = (s.0, pairs_of (put_all [] s.0), s.1, s.2, s.3, put_is_map s.0 s.4, s.5, s.6, s.7, s.8)

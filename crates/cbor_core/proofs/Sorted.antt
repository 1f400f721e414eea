-- What is spelled may be written: its maps have rising keys, and it keeps the limits.
use Rattle.std.proofs.Common.{◌≡◌, ℕ, zero, suc, ◌+◌, ◌≤◌, Bool, true, false, List, [], ◌∷◌, refl, sym, ap, subst, ◌∙◌, arith, inl, inr}
use Rattle.std.specs.List.{list_all, AllByRecursion}
use Rattle.std.specs.Ordering.{nat_cmp, match_ordering}
use Rattle.std.specs.declared.cmp.Ordering.{Ordering}
use Rattle.std.specs.declared.cmp.Ordering.TheVariants.{Less, Equal, Greater}
use Rattle.std.specs.BTreeMap.{insert_entry}
use Rattle.std.proofs.lemmas.Bool.{true≢false}
use Rattle.cbor_core.specs.declared.item.Item.{Item, fold-roll-Item}
use Rattle.cbor_core.specs.declared.item.Item.TheOpen.{Item-F}
use Rattle.cbor_core.specs.declared.item.Item.TheVariants as v
use Rattle.cbor_core.specs.declared.item.Pair.{Pair}
use Rattle.cbor_core.specs.Grammar.{EncodesFlat, EncodesEach, EncodesEntries, EncodesList, EncodesMap, Encodes, KeysDiffer, pairs_of}
use Rattle.cbor_core.specs.Writing.{sum_over, largest_over, nesting_step, item_nesting, count_of, keys_rise_step, keys_rise}
use Rattle.cbor_core.proofs.Keys.{put_all, has, Fresh, fresh_after, fresh_at_first}
use Rattle.cbor_core.proofs.Maps.{by_put, rising_all, rising_rise}
use Rattle.cbor_core.proofs.Lawful.{nesting-List, nesting-Map, count-Whole, count-Blob, count-Text, count-List, count-Map, rise-List, rise-Map}

-- ---- an entry at its place by key

sum_put_by : (f : ℕ × Item → ℕ) (o : Ordering) (k : ℕ) (value : Item) (e : ℕ × Item) (es more : List (ℕ × Item)) → nat_cmp k e.0 ≡ o → has k (e ∷ es) ≡ false → (has k es ≡ false → sum_over f more ≡ f (k, value) + sum_over f es)
    → sum_over f (match_ordering o ((k, value) ∷ (e ∷ es)) ((e.0, value) ∷ es) (e ∷ more)) ≡ f (k, value) + (f e + sum_over f es)
sum_put_by f Less k value e es more is h ih = refl
sum_put_by f Equal k value e es more is h ih = absurd (true≢false (rw is at h))
sum_put_by f Greater k value e es more is h ih = omega (arith, ih (rw is at h))

sum_put : (f : ℕ × Item → ℕ) (k : ℕ) (value : Item) (es : List (ℕ × Item)) → has k es ≡ false → sum_over f (insert_entry nat_cmp es k value) ≡ f (k, value) + sum_over f es
sum_put f k value [] h = refl
sum_put f k value (e ∷ es) h = sum_put_by f (nat_cmp k e.0) k value e es (insert_entry nat_cmp es k value) refl h (λ g. sum_put f k value es g)

sum_all : (f : ℕ × Item → ℕ) (es done : List (ℕ × Item)) → KeysDiffer es → Fresh done es → sum_over f (put_all done es) ≡ sum_over f done + sum_over f es
sum_all f [] done d h = omega arith
sum_all f (e ∷ es) done d h =
    let rest = sum_all f es (insert_entry nat_cmp done e.0 e.1) d.1 (fresh_after e.0 e.1 done es h.1 d.0) in
    let here : sum_over f (insert_entry nat_cmp done e.0 e.1) ≡ f e + sum_over f done = sum_put f e.0 e.1 done h.0 in
    rest ∙ rw here (omega arith)

-- what holds of each value
abbrev Values : (Item → Type 0) → List (ℕ × Item) → Type 0
Values P entries = AllByRecursion (λ (e : ℕ × Item). P e.1) entries

module _ (P : Item → Type 0) where
  values_put_by : (o : Ordering) (k : ℕ) (value : Item) (e : ℕ × Item) (es more : List (ℕ × Item)) → P value → Values P (e ∷ es) → Values P more → Values P (match_ordering o ((k, value) ∷ (e ∷ es)) ((e.0, value) ∷ es) (e ∷ more))
  values_put_by Less k value e es more p a ih = (p, a)
  values_put_by Equal k value e es more p a ih = (p, a.1)
  values_put_by Greater k value e es more p a ih = (a.0, ih)

  values_put : (k : ℕ) (value : Item) (es : List (ℕ × Item)) → P value → Values P es → Values P (insert_entry nat_cmp es k value)
  values_put k value [] p a = (p, tt)
  values_put k value (e ∷ es) p a = values_put_by (nat_cmp k e.0) k value e es (insert_entry nat_cmp es k value) p a (values_put k value es p a.1)

  values_all : (es done : List (ℕ × Item)) → Values P done → Values P es → Values P (put_all done es)
  values_all [] done d a = d
  values_all (e ∷ es) done d a = values_all es (insert_entry nat_cmp done e.0 e.1) (values_put e.0 e.1 done a.0 d) a.1

-- ---- the pairs of entries

-- what is kept of an item that is spelled
pub record Kept (levels : ℕ) (item : Item) (count : ℕ) : Type 0 where
  pub nesting : item_nesting item ≤ levels
  pub counted : count_of item ≡ count
  pub keys : keys_rise item ≡ true

abbrev Inner : ℕ → Item → Type 0
Inner levels item = (item_nesting item ≤ levels) × (keys_rise item ≡ true)

pairs_nest : (levels : ℕ) (es : List (ℕ × Item)) → Values (Inner levels) es → largest_over (λ (p : Pair Item). item_nesting p.value) (pairs_of es) ≤ levels
pairs_nest levels [] a = omega arith
pairs_nest levels (e ∷ es) a = let rest = pairs_nest levels es a.1 in omega (arith, a.0.0, rest)

pairs_rise : (levels : ℕ) (es : List (ℕ × Item)) → Values (Inner levels) es → list_all (λ (p : Pair Item). keys_rise p.value) (pairs_of es) ≡ true
pairs_rise levels [] a = refl
pairs_rise levels (e ∷ es) a = rw a.0.1 (pairs_rise levels es a.1)

pairs_count : (es : List (ℕ × Item)) → sum_over (λ (p : Pair Item). suc (count_of p.value)) (pairs_of es) ≡ sum_over (λ (e : ℕ × Item). suc (count_of e.1)) es
pairs_count [] = refl
pairs_count (e ∷ es) = ap (λ (z : ℕ). suc (count_of e.1) + z) (pairs_count es)

-- ---- each kind of item

-- a whole number does not nest
pub nesting-Whole : (n : ℕ) → item_nesting (v.Whole n) ≡ 0
nesting-Whole n = ap item_nesting (sym (v.rolls-Whole n)) ∙ fold-roll-Item ℕ nesting_step (Item-F.Whole n)

-- a byte string does not nest
pub nesting-Blob : (bytes : List ℕ) → item_nesting (v.Blob bytes) ≡ 0
nesting-Blob bytes = ap item_nesting (sym (v.rolls-Blob bytes)) ∙ fold-roll-Item ℕ nesting_step (Item-F.Blob bytes)

-- a text does not nest
pub nesting-Text : (bytes : List ℕ) → item_nesting (v.Text bytes) ≡ 0
nesting-Text bytes = ap item_nesting (sym (v.rolls-Text bytes)) ∙ fold-roll-Item ℕ nesting_step (Item-F.Text bytes)

-- a whole number has no keys, so they rise
pub rise-Whole : (n : ℕ) → keys_rise (v.Whole n) ≡ true
rise-Whole n = ap keys_rise (sym (v.rolls-Whole n)) ∙ fold-roll-Item Bool keys_rise_step (Item-F.Whole n)

-- a byte string has no keys, so they rise
pub rise-Blob : (bytes : List ℕ) → keys_rise (v.Blob bytes) ≡ true
rise-Blob bytes = ap keys_rise (sym (v.rolls-Blob bytes)) ∙ fold-roll-Item Bool keys_rise_step (Item-F.Blob bytes)

-- a text has no keys, so they rise
pub rise-Text : (bytes : List ℕ) → keys_rise (v.Text bytes) ≡ true
rise-Text bytes = ap keys_rise (sym (v.rolls-Text bytes)) ∙ fold-roll-Item Bool keys_rise_step (Item-F.Text bytes)

flat_kept : (levels : ℕ) (item : Item) (count : ℕ) (bytes : List ℕ) → count ≡ 1 → EncodesFlat item bytes → Kept levels item count
flat_kept levels item count bytes one (inl s) = subst (λ (i : Item). Kept levels i count) (sym s.1) (record { nesting = omega (arith, nesting-Whole s.0); counted = count-Whole s.0 ∙ sym one; keys = rise-Whole s.0 })
flat_kept levels item count bytes one (inr (inl s)) = subst (λ (i : Item). Kept levels i count) (sym s.1) (record { nesting = omega (arith, nesting-Blob s.0); counted = count-Blob s.0 ∙ sym one; keys = rise-Blob s.0 })
flat_kept levels item count bytes one (inr (inr s)) = subst (λ (i : Item). Kept levels i count) (sym s.1) (record { nesting = omega (arith, nesting-Text s.0); counted = count-Text s.0 ∙ sym one; keys = rise-Text s.0 })

abbrev Keeps : ℕ → Type 0
Keeps levels = (item : Item) (count : ℕ) (bytes : List ℕ) → Encodes levels item count bytes → Kept levels item count

module _ (levels : ℕ) (keeps : Keeps levels) where
  each_kept : (is : List Item) (count : ℕ) (bytes : List ℕ) → EncodesEach (Encodes levels) is count bytes → (largest_over item_nesting is ≤ levels) × (sum_over count_of is ≡ count) × (list_all keys_rise is ≡ true)
  each_kept [] count bytes s = (omega arith, sym s.0, refl)
  each_kept (i ∷ is) count bytes s =
      let first = keeps i s.0 s.2 s.4 in
      let rest = each_kept is s.1 s.3 s.5 in
      (omega (arith, first.nesting, rest.0), omega (arith, first.counted, rest.1, s.6), rw first.keys rest.2)

  entries_kept : (es : List (ℕ × Item)) (count : ℕ) (bytes : List ℕ) → EncodesEntries (Encodes levels) es count bytes → Values (Inner levels) es × (sum_over (λ (e : ℕ × Item). suc (count_of e.1)) es ≡ count)
  entries_kept [] count bytes s = (tt, sym s.0)
  entries_kept (e ∷ es) count bytes s =
      let first = keeps e.1 s.0 s.3 s.6 in
      let rest = entries_kept es s.1 s.4 s.7 in
      (((first.nesting, first.keys), rest.0), omega (arith, first.counted, rest.1, s.8))

  list_kept : (item : Item) (count : ℕ) (bytes : List ℕ) → EncodesList (Encodes levels) item count bytes → Kept (suc levels) item count
  list_kept item count bytes s =
      let is = s.0 in
      let each = each_kept is s.1 s.2 s.5 in
      subst (λ (i : Item). Kept (suc levels) i count) (sym s.3) (record { nesting = omega (arith, nesting-List is, each.0); counted = count-List is ∙ ap suc each.1 ∙ sym s.6; keys = rise-List is ∙ each.2 })

  map_kept : (item : Item) (count : ℕ) (bytes : List ℕ) → EncodesMap (Encodes levels) item count bytes → Kept (suc levels) item count
  map_kept item count bytes t =
      let s = by_put (Encodes levels) item count bytes t in
      let es = put_all [] s.0 in
      let each = entries_kept s.0 s.1 s.2 s.6 in
      let values : Values (Inner levels) es = values_all (Inner levels) s.0 [] tt each.0 in
      let number = sum_all (λ (e : ℕ × Item). suc (count_of e.1)) s.0 [] s.4 (fresh_at_first s.0) in
      let count_is : sum_over (λ (p : Pair Item). suc (count_of p.value)) (pairs_of es) ≡ s.1 = pairs_count es ∙ number ∙ omega (arith, each.1) in
      subst (λ (i : Item). Kept (suc levels) i count) (sym s.3) (record {
        nesting = omega (arith, nesting-Map (pairs_of es), pairs_nest levels es values);
        counted = count-Map (pairs_of es) ∙ ap suc count_is ∙ sym s.7;
        keys = rise-Map (pairs_of es) ∙ rw (rising_rise es (rising_all s.0 [] tt), pairs_rise levels es values) refl;
      })

-- an item that is spelled keeps to the levels and the count, and its keys rise
pub kept : (levels : ℕ) → Keeps levels
unfolding Encodes
kept zero item count bytes s = flat_kept 0 item count bytes s.1 s.0
kept (suc levels) item count bytes (inl s) = flat_kept (suc levels) item count bytes s.1 s.0
kept (suc levels) item count bytes (inr (inl s)) = list_kept levels (kept levels) item count bytes s
kept (suc levels) item count bytes (inr (inr s)) = map_kept levels (kept levels) item count bytes s

-- The spelling of an item that may be written spells it.
use Rattle.std.proofs.Common.{◌≡◌, ◌≢◌, ℕ, zero, suc, ◌^◌, ◌≤◌, ◌<◌, Bool, true, ltb, List, [], ◌∷◌, ◌++◌, length, map, refl, sym, ap, subst, ◌∙◌, append_assoc, arith, inl, inr}
use Rattle.std.specs.Prelude.{◌&&◌}
use Rattle.std.specs.List.{flat_map, list_all, AllByRecursion}
use Rattle.std.specs.Str.{IsUtf8, is_utf8}
use Rattle.std.proofs.lemmas.Str.{IsUtf8-from_is_utf8}
use Rattle.std.proofs.lemmas.Bool.{and_parts, ltb-true}
use Rattle.std.proofs.lemmas.List.{length-map}
use Rattle.std.proofs.lemmas.List.Folds.{list_all-map}
use Rattle.cbor_core.specs.declared.item.Item.{Item, fold-roll-Item, ind-Item, roll-Item, map-Item}
use Rattle.cbor_core.specs.declared.item.Item.TheOpen.{Item-F}
use Rattle.cbor_core.specs.declared.item.Item.TheVariants as v
use Rattle.cbor_core.specs.declared.item.Pair.{Pair}
use Rattle.cbor_core.specs.Grammar.{head_of, EncodesFlat, EncodesEach, EncodesEntries, Encodes, KeysDiffer, pairs_of}
use Rattle.cbor_core.specs.Writing.{sum_over, largest_over, encoding_of, nesting_step, item_nesting, count_step, count_of, keys_rise_step, keys_rise, fits_step, fits}
use Rattle.base_types.specs.Order.{rise}
use Rattle.base_types.specs.Sets.{SameElements}
use Rattle.base_types.proofs.Lists.{SameElements-refl}
use Rattle.cbor_core.proofs.Writes.{seen, sum_over-map, largest_over-map, spelling-Whole, spelling-Blob, spelling-Text, spelling-List, spelling-Map}

-- ---- induction on items

pub record Cases (P : Item → Type 0) : Type 0 where
  pub whole : (n : ℕ) → P (v.Whole n)
  pub blob : (bytes : List ℕ) → P (v.Blob bytes)
  pub text : (bytes : List ℕ) → P (v.Text bytes)
  pub items : (is : List Item) → AllByRecursion P is → P (v.List is)
  pub pairs : (ps : List (Pair Item)) → AllByRecursion (λ (p : Pair Item). P p.value) ps → P (v.Map ps)

module _ (P : Item → Type 0) where
  items_such : (is : List ((t : Item) × P t)) → AllByRecursion P (map (λ (e : (t : Item) × P t). e.0) is)
  items_such [] = tt
  items_such (i ∷ is) = (i.1, items_such is)

  pairs_such : (ps : List (Pair ((t : Item) × P t))) → AllByRecursion (λ (p : Pair Item). P p.value) (map (λ (p : Pair ((t : Item) × P t)). record { key = p.key; value = p.value.0 }) ps)
  pairs_such [] = tt
  pairs_such (p ∷ ps) = (p.value.1, pairs_such ps)

  at_level : Cases P → (y : Item-F ((t : Item) × P t)) → P (roll-Item (map-Item ((t : Item) × P t) Item (λ e. e.0) y))
  at_level cs (Item-F.Whole n) = subst P (sym (v.rolls-Whole n)) (cs.whole n)
  at_level cs (Item-F.Blob bytes) = subst P (sym (v.rolls-Blob bytes)) (cs.blob bytes)
  at_level cs (Item-F.Text bytes) = subst P (sym (v.rolls-Text bytes)) (cs.text bytes)
  at_level cs (Item-F.List is) = subst P (sym (v.rolls-List _)) (cs.items _ (items_such is))
  at_level cs (Item-F.Map ps) = subst P (sym (v.rolls-Map _)) (cs.pairs _ (pairs_such ps))

  pub by_cases : Cases P → (t : Item) → P t
  by_cases cs = ind-Item P (λ x y is. subst (λ z. P (roll-Item z)) is (at_level cs y))

-- ---- one level of each definition

-- a list nests one level deeper than the deepest of its items
pub nesting-List : (is : List Item) → item_nesting (v.List is) ≡ suc (largest_over item_nesting is)
nesting-List is = ap item_nesting (sym (v.rolls-List is)) ∙ fold-roll-Item ℕ nesting_step (Item-F.List is) ∙ ap suc (largest_over-map (λ (n : ℕ). n) item_nesting is)

-- a map nests one level deeper than the deepest of its values
pub nesting-Map : (ps : List (Pair Item)) → item_nesting (v.Map ps) ≡ suc (largest_over (λ p. item_nesting p.value) ps)
unfolding seen
nesting-Map ps = ap item_nesting (sym (v.rolls-Map ps)) ∙ fold-roll-Item ℕ nesting_step (Item-F.Map ps) ∙ ap suc (largest_over-map (λ (p : Pair ℕ). p.value) (seen item_nesting) ps)

-- a whole number is one item
pub count-Whole : (n : ℕ) → count_of (v.Whole n) ≡ 1
count-Whole n = ap count_of (sym (v.rolls-Whole n)) ∙ fold-roll-Item ℕ count_step (Item-F.Whole n)

-- a byte string is one item
pub count-Blob : (bytes : List ℕ) → count_of (v.Blob bytes) ≡ 1
count-Blob bytes = ap count_of (sym (v.rolls-Blob bytes)) ∙ fold-roll-Item ℕ count_step (Item-F.Blob bytes)

-- a text is one item
pub count-Text : (bytes : List ℕ) → count_of (v.Text bytes) ≡ 1
count-Text bytes = ap count_of (sym (v.rolls-Text bytes)) ∙ fold-roll-Item ℕ count_step (Item-F.Text bytes)

-- a list is one item more than its items are together
pub count-List : (is : List Item) → count_of (v.List is) ≡ suc (sum_over count_of is)
count-List is = ap count_of (sym (v.rolls-List is)) ∙ fold-roll-Item ℕ count_step (Item-F.List is) ∙ ap suc (sum_over-map (λ (n : ℕ). n) count_of is)

-- a map is one item, and one for each key, and those of its values
pub count-Map : (ps : List (Pair Item)) → count_of (v.Map ps) ≡ suc (sum_over (λ p. suc (count_of p.value)) ps)
unfolding seen
count-Map ps = ap count_of (sym (v.rolls-Map ps)) ∙ fold-roll-Item ℕ count_step (Item-F.Map ps) ∙ ap suc (sum_over-map (λ (p : Pair ℕ). suc p.value) (seen count_of) ps)

-- the keys in a list rise where those in each of its items do
pub rise-List : (is : List Item) → keys_rise (v.List is) ≡ list_all keys_rise is
rise-List is = ap keys_rise (sym (v.rolls-List is)) ∙ fold-roll-Item Bool keys_rise_step (Item-F.List is) ∙ list_all-map (λ (b : Bool). b) keys_rise is

keys_seen : {X : Type 0} (g : Item → X) (ps : List (Pair Item)) → map (λ (p : Pair X). p.key) (map (seen g) ps) ≡ map (λ (p : Pair Item). p.key) ps
unfolding seen
keys_seen g [] = refl
keys_seen g (p ∷ ps) = ap (λ (z : List ℕ). p.key ∷ z) (keys_seen g ps)

-- the keys in a map rise where its own do and those in each value do
pub rise-Map : (ps : List (Pair Item)) → keys_rise (v.Map ps) ≡ (rise (map (λ (p : Pair Item). p.key) ps) && list_all (λ (p : Pair Item). keys_rise p.value) ps)
unfolding seen
rise-Map ps = ap keys_rise (sym (v.rolls-Map ps)) ∙ fold-roll-Item Bool keys_rise_step (Item-F.Map ps) ∙ rw (keys_seen keys_rise ps, list_all-map (λ (p : Pair Bool). p.value) (seen keys_rise) ps) refl

of-Whole : (n : ℕ) → fits (v.Whole n) ≡ true → n < 2 ^ 64
of-Whole n h = ltb-true n (2 ^ 64) (sym (ap fits (sym (v.rolls-Whole n)) ∙ fold-roll-Item Bool fits_step (Item-F.Whole n)) ∙ h)

of-Blob : (bytes : List ℕ) → fits (v.Blob bytes) ≡ true → length bytes < 2 ^ 64
of-Blob bytes h = ltb-true (length bytes) (2 ^ 64) (sym (ap fits (sym (v.rolls-Blob bytes)) ∙ fold-roll-Item Bool fits_step (Item-F.Blob bytes)) ∙ h)

of-Text : (bytes : List ℕ) → fits (v.Text bytes) ≡ true → IsUtf8 bytes × (length bytes < 2 ^ 64)
of-Text bytes h =
    let p = and_parts (is_utf8 bytes) (ltb (length bytes) (2 ^ 64)) (sym (ap fits (sym (v.rolls-Text bytes)) ∙ fold-roll-Item Bool fits_step (Item-F.Text bytes)) ∙ h) in
    (IsUtf8-from_is_utf8 bytes p.0, ltb-true (length bytes) (2 ^ 64) p.1)

-- a list that fits has a count of 64 bits, and items that fit
pub of-List : (is : List Item) → fits (v.List is) ≡ true → (length is < 2 ^ 64) × (list_all fits is ≡ true)
of-List is h =
    let e : fits (v.List is) ≡ (ltb (length is) (2 ^ 64) && list_all fits is) = ap fits (sym (v.rolls-List is)) ∙ fold-roll-Item Bool fits_step (Item-F.List is) ∙ rw (length-map is fits, list_all-map (λ (b : Bool). b) fits is) refl in
    let p = and_parts (ltb (length is) (2 ^ 64)) (list_all fits is) (sym e ∙ h) in
    (ltb-true (length is) (2 ^ 64) p.0, p.1)

of-Map : (ps : List (Pair Item)) → fits (v.Map ps) ≡ true → (length ps < 2 ^ 64) × (list_all (λ (p : Pair Item). ltb p.key (2 ^ 64) && fits p.value) ps ≡ true)
unfolding seen
of-Map ps h =
    let all = list_all (λ (p : Pair Item). ltb p.key (2 ^ 64) && fits p.value) ps in
    let e : fits (v.Map ps) ≡ (ltb (length ps) (2 ^ 64) && all) = ap fits (sym (v.rolls-Map ps)) ∙ fold-roll-Item Bool fits_step (Item-F.Map ps) ∙ rw (length-map ps (seen fits), list_all-map (λ (p : Pair Bool). ltb p.key (2 ^ 64) && p.value) (seen fits) ps) refl in
    let p = and_parts (ltb (length ps) (2 ^ 64)) all (sym e ∙ h) in
    (ltb-true (length ps) (2 ^ 64) p.0, p.1)

-- ---- entries whose keys rise

unfoldable pub entries_of : List (Pair Item) → List (ℕ × Item)
entries_of [] = []
entries_of (p ∷ ps) = (p.key, p.value) ∷ entries_of ps

-- entries that come of pairs give these pairs
pub same_pairs : (ps : List (Pair Item)) → pairs_of (entries_of ps) ≡ ps
unfolding entries_of
same_pairs [] = refl
same_pairs (p ∷ ps) = ap (λ (z : List (Pair Item)). p ∷ z) (same_pairs ps)

same_length : (ps : List (Pair Item)) → length (entries_of ps) ≡ length ps
unfolding entries_of
same_length [] = refl
same_length (p ∷ ps) = ap suc (same_length ps)

abbrev pub Above : ℕ → List (ℕ × Item) → Type 0
Above key entries = AllByRecursion (λ (e : ℕ × Item). key < e.0) entries

abbrev pub Rising : List (ℕ × Item) → Type 0
Rising [] = Unit {0}
Rising (e ∷ es) = Above e.0 es × Rising es

above_from : (k : ℕ) (ps : List (Pair Item)) → list_all (ltb k) (map (λ (p : Pair Item). p.key) ps) ≡ true → Above k (entries_of ps)
unfolding entries_of
above_from k [] h = tt
above_from k (p ∷ ps) h =
    let a = and_parts (ltb k p.key) (list_all (ltb k) (map (λ (q : Pair Item). q.key) ps)) h in
    (ltb-true k p.key a.0, above_from k ps a.1)

-- pairs whose keys rise give entries that rise
pub rising_from : (ps : List (Pair Item)) → rise (map (λ (p : Pair Item). p.key) ps) ≡ true → Rising (entries_of ps)
unfolding entries_of
rising_from [] h = tt
rising_from (p ∷ ps) h =
    let a = and_parts (list_all (ltb p.key) (map (λ (q : Pair Item). q.key) ps)) (rise (map (λ (q : Pair Item). q.key) ps)) h in
    (above_from p.key ps a.0, rising_from ps a.1)

others_differ : (k : ℕ) (es : List (ℕ × Item)) → Above k es → AllByRecursion (λ (e : ℕ × Item). e.0 ≢ k) es
others_differ k [] h = tt
others_differ k (e ∷ es) h = ((λ same. absurd (omega (arith, h.0, same))), others_differ k es h.1)

keys_differ : (es : List (ℕ × Item)) → Rising es → KeysDiffer es
keys_differ [] h = tt
keys_differ (e ∷ es) h = (others_differ e.0 es h.0, keys_differ es h.1)

-- ---- what is written is spelled so

abbrev Spelled : Item → Type 0
Spelled item = (levels : ℕ) → item_nesting item ≤ levels → keys_rise item ≡ true → fits item ≡ true → Encodes levels item (count_of item) (encoding_of item)

flat_spells : (levels : ℕ) (item : Item) (count : ℕ) (bytes : List ℕ) → count ≡ 1 → EncodesFlat item bytes → Encodes levels item count bytes
unfolding Encodes
flat_spells zero item count bytes one s = (s, one)
flat_spells (suc levels) item count bytes one s = inl (s, one)

each_spelled : (levels : ℕ) (is : List Item) → AllByRecursion Spelled is → largest_over item_nesting is ≤ levels → list_all keys_rise is ≡ true → list_all fits is ≡ true → EncodesEach (Encodes levels) is (sum_over count_of is) (flat_map encoding_of is)
each_spelled levels [] e n r f = (refl, refl)
each_spelled levels (i ∷ is) e n r f =
    let rs = and_parts (keys_rise i) (list_all keys_rise is) r in
    let fs = and_parts (fits i) (list_all fits is) f in
    let first : item_nesting i ≤ levels = omega arith in
    let others : largest_over item_nesting is ≤ levels = omega arith in
    (count_of i, sum_over count_of is, encoding_of i, flat_map encoding_of is, e.0 levels first rs.0 fs.0, each_spelled levels is e.1 others rs.1 fs.1, refl, refl)

entries_spelled : (levels : ℕ) (ps : List (Pair Item)) → AllByRecursion (λ (p : Pair Item). Spelled p.value) ps → largest_over (λ (p : Pair Item). item_nesting p.value) ps ≤ levels → list_all (λ (p : Pair Item). keys_rise p.value) ps ≡ true → list_all (λ (p : Pair Item). ltb p.key (2 ^ 64) && fits p.value) ps ≡ true
    → EncodesEntries (Encodes levels) (entries_of ps) (sum_over (λ (p : Pair Item). suc (count_of p.value)) ps) (flat_map (λ (p : Pair Item). head_of 0 p.key ++ encoding_of p.value) ps)
unfolding entries_of
entries_spelled levels [] e n r f = (refl, refl)
entries_spelled levels (p ∷ ps) e n r f =
    let rs = and_parts (keys_rise p.value) (list_all (λ (q : Pair Item). keys_rise q.value) ps) r in
    let fs = and_parts (ltb p.key (2 ^ 64) && fits p.value) (list_all (λ (q : Pair Item). ltb q.key (2 ^ 64) && fits q.value) ps) f in
    let gs = and_parts (ltb p.key (2 ^ 64)) (fits p.value) fs.0 in
    let first : item_nesting p.value ≤ levels = omega arith in
    let others : largest_over (λ (q : Pair Item). item_nesting q.value) ps ≤ levels = omega arith in
    let rest = flat_map (λ (q : Pair Item). head_of 0 q.key ++ encoding_of q.value) ps in
    let more = sum_over (λ (q : Pair Item). suc (count_of q.value)) ps in (
      count_of p.value,
      more,
      head_of 0 p.key,
      encoding_of p.value,
      rest,
      (ltb-true p.key (2 ^ 64) gs.0, refl),
      e.0 levels first rs.0 gs.1,
      entries_spelled levels ps e.1 others rs.1 fs.1,
      omega arith,
      append_assoc (head_of 0 p.key) (encoding_of p.value) rest,
    )

list_spelled : (is : List Item) → AllByRecursion Spelled is → Spelled (v.List is)
unfolding Encodes
list_spelled is e zero n r f = absurd (omega (arith, nesting-List is))
list_spelled is e (suc levels) n r f =
    let o = of-List is f in
    let within : largest_over item_nesting is ≤ levels = omega (arith, nesting-List is) in
    inr (inl (is, sum_over count_of is, flat_map encoding_of is, refl, o.0, each_spelled levels is e within (sym (rise-List is) ∙ r) o.1, count-List is, spelling-List is))

map_spelled : (ps : List (Pair Item)) → AllByRecursion (λ (p : Pair Item). Spelled p.value) ps → Spelled (v.Map ps)
unfolding Encodes
map_spelled ps e zero n r f = absurd (omega (arith, nesting-Map ps))
map_spelled ps e (suc levels) n r f =
    let o = of-Map ps f in
    let a = and_parts (rise (map (λ (p : Pair Item). p.key) ps)) (list_all (λ (p : Pair Item). keys_rise p.value) ps) (sym (rise-Map ps) ∙ r) in
    let rising = rising_from ps a.0 in
    let within : largest_over (λ (p : Pair Item). item_nesting p.value) ps ≤ levels = omega (arith, nesting-Map ps) in
    let same : SameElements (pairs_of (entries_of ps)) ps = subst (λ (qs : List (Pair Item)). SameElements qs ps) (sym (same_pairs ps)) (SameElements-refl ps) in
    let long : length (entries_of ps) < 2 ^ 64 = omega (arith, same_length ps, o.0) in
    let text : encoding_of (v.Map ps) ≡ head_of 5 (length (entries_of ps)) ++ flat_map (λ (p : Pair Item). head_of 0 p.key ++ encoding_of p.value) ps = rw (same_length ps) (spelling-Map ps) in
    inr (inr (entries_of ps, ps, sum_over (λ (p : Pair Item). suc (count_of p.value)) ps, flat_map (λ (p : Pair Item). head_of 0 p.key ++ encoding_of p.value) ps, refl, (keys_differ (entries_of ps) rising, same, a.0), long, entries_spelled levels ps e within a.1 o.1, count-Map ps, text))

-- an item that fits, with keys that rise, is spelled by its encoding
pub spelled : (item : Item) → Spelled item
spelled = by_cases Spelled record {
  whole = λ n levels nest r f. flat_spells levels (v.Whole n) _ _ (count-Whole n) (inl (n, refl, (of-Whole n f, spelling-Whole n)));
  blob = λ bytes levels nest r f. flat_spells levels (v.Blob bytes) _ _ (count-Blob bytes) (inr (inl (bytes, refl, (of-Blob bytes f, spelling-Blob bytes))));
  text = λ bytes levels nest r f. let o = of-Text bytes f in flat_spells levels (v.Text bytes) _ _ (count-Text bytes) (inr (inr (bytes, refl, o.0, (o.1, spelling-Text bytes))));
  items = list_spelled;
  pairs = map_spelled;
}

-- what a writer puts behind nothing spells the item, when it nests at most four levels
pub is_spelled : (item : Item) (out start : List ℕ) → start ≡ [] → out ≡ start ++ encoding_of item → fits item ≡ true → keys_rise item ≡ true → item_nesting item ≤ 4 → Encodes 4 item (count_of item) out
is_spelled item out start none is f r n = subst (λ (z : List ℕ). Encodes 4 item (count_of item) z) (sym (is ∙ ap (λ (z : List ℕ). z ++ encoding_of item) none)) (spelled item 4 n r f)

-- One step of each reader, in the form of the goals of the code that reads.
use Rattle.std.proofs.Common.{◌≡◌, ◌≢◌, ℕ, zero, suc, ◌+◌, ◌-◌, ◌/◌, ◌≤◌, ◌<◌, Bool, true, false, cond, eqb, ltb, List, [], ◌∷◌, ◌++◌, length, get_or, map, Result, Ok, Err, refl, sym, ap, subst, ◌∙◌, append_assoc, arith}
use Rattle.std.specs.Prelude.{is_some}
use Rattle.std.specs.Ordering.{nat_cmp}
use Rattle.std.specs.Map.{lookup}
use Rattle.std.specs.BTreeMap.{is_at, insert_entry}
use Rattle.std.specs.Str.{IsUtf8, is_utf8}
use Rattle.std.proofs.lemmas.Str.{IsUtf8-from_is_utf8, is_utf8-from_IsUtf8}
use Rattle.std.proofs.lemmas.Bool.{ne_eqb, false_from_ne_true}
use Rattle.cbor_core.specs.declared.fault.CborFault.{CborFault}
use Rattle.cbor_core.specs.declared.fault.CborFault.TheVariants as f
use Rattle.cbor_core.specs.declared.item.Item.{Item}
use Rattle.cbor_core.specs.declared.item.Pair.{Pair}
use Rattle.cbor_core.specs.Grammar.{pairs_of}
use Rattle.cbor_core.specs.Internal.Results.{◌>>=◌, Fails}
use Rattle.cbor_core.proofs.Outcomes.{fails_on}
use Rattle.cbor_core.specs.Internal.Reading.{is_memory, Reader, start_of, items_at, key_at, entries_at, flat_at, list_at, map_at, item_at}

-- ---- texts

-- bytes that are not UTF-8 fail the test for it
pub text_refused : (bytes : List ℕ) → ¬ (IsUtf8 bytes) → is_utf8 bytes ≡ false
text_refused bytes h = false_from_ne_true (is_utf8 bytes) (λ e. h (IsUtf8-from_is_utf8 bytes e))

pub ruleset text_steps = (text_refused, is_utf8-from_IsUtf8)

-- ---- a fault goes through what follows

fails_same : {A : Type 0} (e : CborFault) (r s : Result A CborFault) → r ≡ s → Fails is_memory e r → Fails is_memory e s
fails_same e r s same h = subst (λ x. Fails is_memory e x) same h

-- ---- the items of a list

module _ (inner : Reader) (done : List Item) (count i left : ℕ) (bytes : List ℕ) (whole : Result (List Item × ℕ × List ℕ) CborFault) where
  pub items_more : (x : Item) (after : ℕ) (rest : List ℕ) → i < count → inner left bytes ≡ Ok (x, after, rest) → items_at inner done (count - i) left bytes ≡ whole
      → items_at inner (done ++ x ∷ []) (count - (i + 1)) after rest ≡ whole
  unfolding items_at
  items_more x after rest lt h so_far =
      let k : count - i ≡ suc (count - (i + 1)) = omega arith in
      let one : items_at inner done (count - i) left bytes ≡ items_at inner (done ++ x ∷ []) (count - (i + 1)) after rest = rw (k, h) refl in
      sym one ∙ so_far

  pub items_fail : (e : CborFault) → i < count → Fails is_memory e (inner left bytes) → items_at inner done (count - i) left bytes ≡ whole → Fails is_memory e whole
  unfolding items_at
  items_fail e lt h so_far =
      let k : count - i ≡ suc (count - (i + 1)) = omega arith in
      let one : items_at inner done (count - i) left bytes ≡ (inner left bytes >>= λ x. items_at inner (done ++ x.0 ∷ []) (count - (i + 1)) x.1 x.2) = rw k refl in
      fails_same e _ _ (sym one ∙ so_far) (fails_on is_memory e (inner left bytes) (λ x. items_at inner (done ++ x.0 ∷ []) (count - (i + 1)) x.1 x.2) h)

  pub items_done : count ≤ i → items_at inner done (count - i) left bytes ≡ whole → whole ≡ Ok (done, left, bytes)
  unfolding items_at
  items_done le so_far =
      let k : count - i ≡ 0 = omega arith in
      let one : items_at inner done (count - i) left bytes ≡ Ok (done, left, bytes) = rw k refl in
      sym so_far ∙ one

pub ruleset items_steps = (items_more, items_fail, items_done)

-- ---- the entries of a map

module _ (total : ℕ) (inner : Reader) (done : List (ℕ × Item)) (count i left : ℕ) (bytes : List ℕ) (whole : Result (List (ℕ × Item) × ℕ × List ℕ) CborFault) where
  pub entries_more : (key : ℕ) (behind : List ℕ) (x : Item) (after : ℕ) (rest : List ℕ) → i < count → key_at total left bytes ≡ Ok (key, behind) → is_some (lookup (is_at (nat_cmp key)) done) ≡ false
      → inner (left - 1) behind ≡ Ok (x, after, rest) → entries_at total inner done (count - i) left bytes ≡ whole
      → entries_at total inner (insert_entry nat_cmp done key x) (count - (i + 1)) after rest ≡ whole
  unfolding entries_at
  entries_more key behind x after rest lt k fresh h so_far =
      let n : count - i ≡ suc (count - (i + 1)) = omega arith in
      let one : entries_at total inner done (count - i) left bytes ≡ entries_at total inner (insert_entry nat_cmp done key x) (count - (i + 1)) after rest = rw (n, k, fresh, h) refl in
      sym one ∙ so_far

  pub entries_key_fails : (e : CborFault) → i < count → Fails is_memory e (key_at total left bytes) → entries_at total inner done (count - i) left bytes ≡ whole → Fails is_memory e whole
  unfolding entries_at
  entries_key_fails e lt h so_far =
      let n : count - i ≡ suc (count - (i + 1)) = omega arith in
      let go : ℕ × List ℕ → Result (List (ℕ × Item) × ℕ × List ℕ) CborFault = λ k. cond (is_some (lookup (is_at (nat_cmp k.0)) done)) (Err (f.RepeatedKey (start_of total bytes))) (inner (left - 1) k.1 >>= λ x. entries_at total inner (insert_entry nat_cmp done k.0 x.0) (count - (i + 1)) x.1 x.2) in
      let one : entries_at total inner done (count - i) left bytes ≡ (key_at total left bytes >>= go) = rw n refl in
      fails_same e _ _ (sym one ∙ so_far) (fails_on is_memory e (key_at total left bytes) go h)

  pub entries_repeated : (key : ℕ) (behind : List ℕ) → i < count → key_at total left bytes ≡ Ok (key, behind) → is_some (lookup (is_at (nat_cmp key)) done) ≡ true
      → entries_at total inner done (count - i) left bytes ≡ whole → whole ≡ Err (f.RepeatedKey (start_of total bytes))
  unfolding entries_at
  entries_repeated key behind lt k known so_far =
      let n : count - i ≡ suc (count - (i + 1)) = omega arith in
      let one : entries_at total inner done (count - i) left bytes ≡ Err (f.RepeatedKey (start_of total bytes)) = rw (n, k, known) refl in
      sym so_far ∙ one

  pub entries_value_fails : (e : CborFault) (key : ℕ) (behind : List ℕ) → i < count → key_at total left bytes ≡ Ok (key, behind) → is_some (lookup (is_at (nat_cmp key)) done) ≡ false
      → Fails is_memory e (inner (left - 1) behind) → entries_at total inner done (count - i) left bytes ≡ whole → Fails is_memory e whole
  unfolding entries_at
  entries_value_fails e key behind lt k fresh h so_far =
      let n : count - i ≡ suc (count - (i + 1)) = omega arith in
      let go : Item × ℕ × List ℕ → Result (List (ℕ × Item) × ℕ × List ℕ) CborFault = λ x. entries_at total inner (insert_entry nat_cmp done key x.0) (count - (i + 1)) x.1 x.2 in
      let one : entries_at total inner done (count - i) left bytes ≡ (inner (left - 1) behind >>= go) = rw (n, k, fresh) refl in
      fails_same e _ _ (sym one ∙ so_far) (fails_on is_memory e (inner (left - 1) behind) go h)

  pub entries_done : count ≤ i → entries_at total inner done (count - i) left bytes ≡ whole → whole ≡ Ok (done, left, bytes)
  unfolding entries_at
  entries_done le so_far =
      let k : count - i ≡ 0 = omega arith in
      let one : entries_at total inner done (count - i) left bytes ≡ Ok (done, left, bytes) = rw k refl in
      sym so_far ∙ one

pub ruleset entries_steps = (entries_more, entries_key_fails, entries_repeated, entries_value_fails, entries_done)

-- ---- the pairs of a map

-- to put the next pair behind those that are done leaves all pairs the same
pub pairs_more : (done : List (Pair Item)) (key : ℕ) (value : Item) (entries : List (ℕ × Item)) (whole : List (Pair Item)) → done ++ pairs_of ((key, value) ∷ entries) ≡ whole → (done ++ (record { key = key; value = value }) ∷ []) ++ pairs_of entries ≡ whole
pairs_more done key value entries whole h = append_assoc done ((record { key = key; value = value }) ∷ []) (pairs_of entries) ∙ h

pub ruleset pairs_steps = (pairs_more, append_assoc)

-- ---- one item, whose first byte is get_or bytes 0 0

module _ (total left : ℕ) (some : 0 < left) where
  left_some : eqb left 0 ≡ false
  left_some = ne_eqb left 0 (omega arith)

  pub item_as_list : (bytes : List ℕ) (levels : ℕ) → 0 < length bytes → 0 < levels → get_or bytes 0 0 / 32 ≡ 4 → item_at total levels left bytes ≡ list_at total (item_at total (levels - 1)) (left - 1) bytes
  unfolding item_at
  item_as_list [] levels has pos m = absurd (omega arith)
  item_as_list (b ∷ bytes) zero has pos m = absurd (omega arith)
  item_as_list (b ∷ bytes) (suc n) has pos m = let k : suc n - 1 ≡ n = omega arith in rw (k, left_some, m) refl

  pub item_as_map : (bytes : List ℕ) (levels : ℕ) → 0 < length bytes → 0 < levels → get_or bytes 0 0 / 32 ≡ 5 → item_at total levels left bytes ≡ map_at total (item_at total (levels - 1)) (left - 1) bytes
  unfolding item_at
  item_as_map [] levels has pos m = absurd (omega arith)
  item_as_map (b ∷ bytes) zero has pos m = absurd (omega arith)
  item_as_map (b ∷ bytes) (suc n) has pos m = let k : suc n - 1 ≡ n = omega arith in rw (k, left_some, m) refl

  pub item_as_flat : (bytes : List ℕ) (levels : ℕ) → 0 < length bytes → (0 < levels → get_or bytes 0 0 / 32 ≢ 4) → (0 < levels → get_or bytes 0 0 / 32 ≢ 5) → item_at total levels left bytes ≡ flat_at total (get_or bytes 0 0 / 32) (left - 1) bytes
  unfolding item_at
  item_as_flat [] levels has n4 n5 = absurd (omega arith)
  item_as_flat (b ∷ bytes) zero has n4 n5 = rw left_some refl
  item_as_flat (b ∷ bytes) (suc n) has n4 n5 =
      let m4 : eqb (b / 32) 4 ≡ false = ne_eqb (b / 32) 4 (n4 (omega arith)) in
      let m5 : eqb (b / 32) 5 ≡ false = ne_eqb (b / 32) 5 (n5 (omega arith)) in
      rw (left_some, m4, m5) refl

-- where no byte is left an item is cut short
pub item_at_end : (total levels left : ℕ) (bytes : List ℕ) → length bytes < 1 → item_at total levels left bytes ≡ Err (f.Truncated total)
unfolding item_at
item_at_end total zero left [] is = refl
item_at_end total (suc n) left [] is = refl
item_at_end total levels left (b ∷ bytes) is = absurd (omega arith)

-- where bytes are left and no item more may begin, the next is one too many
pub item_too_many : (total levels left : ℕ) (bytes : List ℕ) → 0 < length bytes → left ≡ 0 → item_at total levels left bytes ≡ Err f.TooMany
unfolding item_at
item_too_many total levels left [] has none = absurd (omega arith)
item_too_many total zero left (b ∷ bytes) has none = rw none refl
item_too_many total (suc n) left (b ∷ bytes) has none = rw none refl

pub ruleset item_steps = (item_as_list, item_as_map, item_as_flat, item_at_end, item_too_many)

-- What is read is spelled by the bytes that were taken.
use Rattle.std.proofs.Common.{◌≡◌, ℕ, zero, suc, ◌+◌, ◌-◌, ◌/◌, ◌^◌, ◌≤◌, ◌<◌, cond, eqb, ltb, List, [], ◌∷◌, ◌++◌, length, get_or, take, drop, Result, Ok, Err, refl, sym, ap, subst, ◌∙◌, append_assoc, arith, inl, inr}
use Rattle.std.specs.Prelude.{◌⊎◌}
use Rattle.std.specs.Ordering.{nat_cmp}
use Rattle.std.specs.BTreeMap.{insert_entry}
use Rattle.std.specs.Str.{is_utf8}
use Rattle.std.proofs.lemmas.Str.{IsUtf8-from_is_utf8}
use Rattle.std.proofs.lemmas.Bool.{ltb-false, eqb-true, eqb-false}
use Rattle.std.proofs.lemmas.List.{take-append-drop, length-take, append-nil}
use Rattle.base_types.proofs.Options.{took}
use Rattle.cbor_core.specs.declared.fault.CborFault.{CborFault}
use Rattle.cbor_core.specs.declared.fault.CborFault.TheVariants as f
use Rattle.cbor_core.specs.declared.item.Item.{Item}
use Rattle.cbor_core.specs.declared.item.Item.TheVariants as v
use Rattle.cbor_core.specs.Grammar.{IsBytes, head_of, IsHead, IsString, EncodesFlat, EncodesEach, EncodesEntries, EncodesList, EncodesMap, Encodes, KeysDiffer, pairs_of}
use Rattle.cbor_core.specs.Internal.Results.{◌>>=◌}
use Rattle.cbor_core.specs.Internal.Reading.{Reader, start_of, argument_at, string_at, whole_at, blob_at, text_string_at, flat_at, items_at, list_at, key_at, entries_at, map_at, item_at}
use Rattle.cbor_core.proofs.Arguments.{IsBytes-drop, argument_takes}
use Rattle.cbor_core.proofs.Outcomes.{same_ok, passed, passed_true, went_on}
use Rattle.cbor_core.proofs.Maps.{from_put_all}
use Rattle.cbor_core.proofs.Keys.{put_all, has, Fresh, fresh_before}

-- ---- strings

pub record Str (bytes content rest : List ℕ) : Type 0 where
  pub spelled : IsString (get_or bytes 0 0 / 32) content (head_of (get_or bytes 0 0 / 32) (length content) ++ content)
  pub parts : bytes ≡ (head_of (get_or bytes 0 0 / 32) (length content) ++ content) ++ rest
  fits : IsBytes rest

-- what the reader of strings gave was spelled at the front of the bytes
pub string_takes : (total : ℕ) (bytes content rest : List ℕ) → IsBytes bytes → string_at total bytes ≡ Ok (content, rest) → Str bytes content rest
unfolding string_at
string_takes total bytes content rest h e =
    let a = went_on (argument_at total bytes) (λ n. cond (ltb (length n.1) n.0) (Err (f.Truncated total)) (Ok (take n.0 n.1, drop n.0 n.1))) (content, rest) e in
    let n = a.0 in
    let head = argument_takes total bytes n.0 n.1 h a.1 in
    let p = passed (ltb (length n.1) n.0) (f.Truncated total) (Ok (take n.0 n.1, drop n.0 n.1)) (content, rest) a.2 in
    let enough : n.0 ≤ length n.1 = ltb-false (length n.1) n.0 p.0 in
    let len : length (take n.0 n.1) ≡ n.0 = omega (arith, length-take n.0 n.1) in
    let m = get_or bytes 0 0 / 32 in
    let parts : bytes ≡ (head_of m (length (take n.0 n.1)) ++ take n.0 n.1) ++ drop n.0 n.1 =
    rw (len, append_assoc (head_of m n.0) (take n.0 n.1) (drop n.0 n.1), take-append-drop n.0 n.1) head.parts in
    let below : length (take n.0 n.1) < 2 ^ 64 = omega (arith, head.below) in
    subst (λ (q : List ℕ × List ℕ). Str bytes q.0 q.1) (same_ok (take n.0 n.1, drop n.0 n.1) (content, rest) p.1)
    (record { spelled = (below, refl); parts = parts; fits = IsBytes-drop n.0 n.1 head.fits })

-- ---- an item without items in it

record Flat (left : ℕ) (bytes : List ℕ) (item : Item) (after : ℕ) (rest : List ℕ) : Type 0 where
  text : List ℕ
  spelled : EncodesFlat item text
  parts : bytes ≡ text ++ rest
  same : after ≡ left
  fits : IsBytes rest

whole_takes : (total left : ℕ) (bytes : List ℕ) (item : Item) (after : ℕ) (rest : List ℕ) → get_or bytes 0 0 / 32 ≡ 0 → IsBytes bytes → whole_at total left bytes ≡ Ok (item, after, rest) → Flat left bytes item after rest
unfolding whole_at
whole_takes total left bytes item after rest m h e =
    let a = went_on (argument_at total bytes) (λ n. Ok (v.Whole n.0, left, n.1)) (item, after, rest) e in
    let head = argument_takes total bytes a.0.0 a.0.1 h a.1 in
    let parts : bytes ≡ head_of 0 a.0.0 ++ a.0.1 = subst (λ (k : ℕ). bytes ≡ head_of k a.0.0 ++ a.0.1) m head.parts in
    subst (λ (q : Item × ℕ × List ℕ). Flat left bytes q.0 q.1 q.2) (same_ok (v.Whole a.0.0, left, a.0.1) (item, after, rest) a.2)
    (record { text = head_of 0 a.0.0; spelled = inl (a.0.0, refl, (head.below, refl)); parts = parts; same = refl; fits = head.fits })

blob_takes : (total left : ℕ) (bytes : List ℕ) (item : Item) (after : ℕ) (rest : List ℕ) → get_or bytes 0 0 / 32 ≡ 2 → IsBytes bytes → blob_at total left bytes ≡ Ok (item, after, rest) → Flat left bytes item after rest
unfolding blob_at
blob_takes total left bytes item after rest m h e =
    let a = went_on (string_at total bytes) (λ s. Ok (v.Blob s.0, left, s.1)) (item, after, rest) e in
    let t = string_takes total bytes a.0.0 a.0.1 h a.1 in
    let text = head_of 2 (length a.0.0) ++ a.0.0 in
    let parts : bytes ≡ text ++ a.0.1 = subst (λ (k : ℕ). bytes ≡ (head_of k (length a.0.0) ++ a.0.0) ++ a.0.1) m t.parts in
    subst (λ (q : Item × ℕ × List ℕ). Flat left bytes q.0 q.1 q.2) (same_ok (v.Blob a.0.0, left, a.0.1) (item, after, rest) a.2)
    (record { text = text; spelled = inr (inl (a.0.0, refl, (t.spelled.0, refl))); parts = parts; same = refl; fits = t.fits })

text_takes : (total left : ℕ) (bytes : List ℕ) (item : Item) (after : ℕ) (rest : List ℕ) → get_or bytes 0 0 / 32 ≡ 3 → IsBytes bytes → text_string_at total left bytes ≡ Ok (item, after, rest) → Flat left bytes item after rest
unfolding text_string_at
text_takes total left bytes item after rest m h e =
    let a = went_on (string_at total bytes) (λ s. cond (is_utf8 s.0) (Ok (v.Text s.0, left, s.1)) (Err (f.Forbidden (start_of total bytes)))) (item, after, rest) e in
    let t = string_takes total bytes a.0.0 a.0.1 h a.1 in
    let p = passed_true (is_utf8 a.0.0) (f.Forbidden (start_of total bytes)) (Ok (v.Text a.0.0, left, a.0.1)) (item, after, rest) a.2 in
    let text = head_of 3 (length a.0.0) ++ a.0.0 in
    let parts : bytes ≡ text ++ a.0.1 = subst (λ (k : ℕ). bytes ≡ (head_of k (length a.0.0) ++ a.0.0) ++ a.0.1) m t.parts in
    subst (λ (q : Item × ℕ × List ℕ). Flat left bytes q.0 q.1 q.2) (same_ok (v.Text a.0.0, left, a.0.1) (item, after, rest) p.1)
    (record { text = text; spelled = inr (inr (a.0.0, refl, IsUtf8-from_is_utf8 a.0.0 p.0, (t.spelled.0, refl))); parts = parts; same = refl; fits = t.fits })

flat_takes : (total left : ℕ) (bytes : List ℕ) (item : Item) (after : ℕ) (rest : List ℕ) → IsBytes bytes → flat_at total (get_or bytes 0 0 / 32) left bytes ≡ Ok (item, after, rest) → Flat left bytes item after rest
unfolding flat_at
flat_takes total left bytes item after rest h e =
    let m = get_or bytes 0 0 / 32 in
    let other : Result (Item × ℕ × List ℕ) CborFault = Err (f.Forbidden (start_of total bytes)) in
    elim (took (eqb m 0) (whole_at total left bytes) (cond (eqb m 2) (blob_at total left bytes) (cond (eqb m 3) (text_string_at total left bytes) other)) (Ok (item, after, rest)) e) [
      | inl p ↦ whole_takes total left bytes item after rest (eqb-true m 0 p.0) h p.1
      | inr p ↦ elim (took (eqb m 2) (blob_at total left bytes) (cond (eqb m 3) (text_string_at total left bytes) other) (Ok (item, after, rest)) p.1) [
        | inl q ↦ blob_takes total left bytes item after rest (eqb-true m 2 q.0) h q.1
        | inr q ↦ let r = passed_true (eqb m 3) (f.Forbidden (start_of total bytes)) (text_string_at total left bytes) (item, after, rest) q.1 in text_takes total left bytes item after rest (eqb-true m 3 r.0) h r.1
      ]
    ]

-- ---- items inside a list or a map

-- what an item took from the bytes and from the count
pub record Took (spells : Item → ℕ → List ℕ → Type 0) (left : ℕ) (bytes : List ℕ) (item : Item) (after : ℕ) (rest : List ℕ) : Type 0 where
  pub count : ℕ
  pub text : List ℕ
  pub spelled : spells item count text
  pub parts : bytes ≡ text ++ rest
  pub spent : left ≡ after + count
  pub fits : IsBytes rest

abbrev pub Takes : Reader → (Item → ℕ → List ℕ → Type 0) → Type 0
Takes inner spells = (left : ℕ) (bytes : List ℕ) (item : Item) (after : ℕ) (rest : List ℕ) → IsBytes bytes → inner left bytes ≡ Ok (item, after, rest) → Took spells left bytes item after rest

record TookEach (spells : Item → ℕ → List ℕ → Type 0) (done : List Item) (n left : ℕ) (bytes : List ℕ) (all : List Item) (after : ℕ) (rest : List ℕ) : Type 0 where
  items : List Item
  count : ℕ
  text : List ℕ
  spelled : EncodesEach spells items count text
  number : length items ≡ n
  whole : all ≡ done ++ items
  parts : bytes ≡ text ++ rest
  spent : left ≡ after + count
  fits : IsBytes rest

module _ (total : ℕ) (inner : Reader) (spells : Item → ℕ → List ℕ → Type 0) (takes : Takes inner spells) where
  items_take : (n : ℕ) (done : List Item) (left : ℕ) (bytes : List ℕ) (all : List Item) (after : ℕ) (rest : List ℕ) → IsBytes bytes → items_at inner done n left bytes ≡ Ok (all, after, rest) → TookEach spells done n left bytes all after rest
  unfolding items_at
  items_take zero done left bytes all after rest h e =
      subst (λ (q : List Item × ℕ × List ℕ). TookEach spells done 0 left bytes q.0 q.1 q.2) (same_ok (done, left, bytes) (all, after, rest) e)
      (record { items = []; count = 0; text = []; spelled = (refl, refl); number = refl; whole = sym (append-nil done); parts = refl; spent = omega arith; fits = h })
  items_take (suc n) done left bytes all after rest h e =
      let a = went_on (inner left bytes) (λ x. items_at inner (done ++ x.0 ∷ []) n x.1 x.2) (all, after, rest) e in
      let x = a.0 in
      let t = takes left bytes x.0 x.1 x.2 h a.1 in
      let r = items_take n (done ++ x.0 ∷ []) x.1 x.2 all after rest t.fits a.2 in
      record {
        items = x.0 ∷ r.items;
        count = t.count + r.count;
        text = t.text ++ r.text;
        spelled = (t.count, r.count, t.text, r.text, t.spelled, r.spelled, refl, refl);
        number = ap suc r.number;
        whole = r.whole ∙ append_assoc done (x.0 ∷ []) r.items;
        parts = t.parts ∙ ap (λ (z : List ℕ). t.text ++ z) r.parts ∙ sym (append_assoc t.text r.text rest);
        spent = omega (arith, t.spent, r.spent);
        fits = r.fits;
      }

  record TookList (left : ℕ) (bytes : List ℕ) (item : Item) (after : ℕ) (rest : List ℕ) : Type 0 where
    count : ℕ
    text : List ℕ
    spelled : EncodesList spells item (suc count) text ⊎ EncodesMap spells item (suc count) text
    parts : bytes ≡ text ++ rest
    spent : left ≡ after + count
    fits : IsBytes rest

  list_takes : (left : ℕ) (bytes : List ℕ) (item : Item) (after : ℕ) (rest : List ℕ) → get_or bytes 0 0 / 32 ≡ 4 → IsBytes bytes → list_at total inner left bytes ≡ Ok (item, after, rest) → TookList left bytes item after rest
  unfolding list_at
  list_takes left bytes item after rest m h e =
      let a = went_on (argument_at total bytes) (λ n. items_at inner [] n.0 left n.1 >>= λ xs. Ok (v.List xs.0, xs.1, xs.2)) (item, after, rest) e in
      let b = went_on (items_at inner [] a.0.0 left a.0.1) (λ xs. Ok (v.List xs.0, xs.1, xs.2)) (item, after, rest) a.2 in
      let head = argument_takes total bytes a.0.0 a.0.1 h a.1 in
      let t = items_take a.0.0 [] left a.0.1 b.0.0 b.0.1 b.0.2 head.fits b.1 in
      let parts0 : bytes ≡ head_of 4 a.0.0 ++ a.0.1 = subst (λ (k : ℕ). bytes ≡ head_of k a.0.0 ++ a.0.1) m head.parts in
      let parts : bytes ≡ (head_of 4 (length t.items) ++ t.text) ++ b.0.2 = rw (t.number, append_assoc (head_of 4 a.0.0) t.text b.0.2, ← t.parts) parts0 in
      let below : length t.items < 2 ^ 64 = omega (arith, t.number, head.below) in
      subst (λ (q : Item × ℕ × List ℕ). TookList left bytes q.0 q.1 q.2) (same_ok (v.List b.0.0, b.0.1, b.0.2) (item, after, rest) b.2)
      (record {
        count = t.count;
        text = head_of 4 (length t.items) ++ t.text;
        spelled = inl (t.items, t.count, t.text, ap (λ (is : List Item). v.List is) t.whole, below, t.spelled, refl, refl);
        parts = parts;
        spent = t.spent;
        fits = t.fits;
      })

  -- a key is an item
  pub record Key (left : ℕ) (bytes : List ℕ) (key : ℕ) (rest : List ℕ) : Type 0 where
    pub text : List ℕ
    pub spelled : IsHead 0 key text
    pub parts : bytes ≡ text ++ rest
    pub some : 0 < left
    pub fits : IsBytes rest

  pub key_takes : (left : ℕ) (bytes : List ℕ) (key : ℕ) (rest : List ℕ) → IsBytes bytes → key_at total left bytes ≡ Ok (key, rest) → Key left bytes key rest
  unfolding key_at
  key_takes left [] key rest h e = absurd cc
  key_takes left (b ∷ bytes) key rest h e =
      let p = passed (eqb left 0) f.TooMany (cond (eqb (b / 32) 0) (argument_at total (b ∷ bytes)) (Err (f.Forbidden (start_of total (b ∷ bytes))))) (key, rest) e in
      let q = passed_true (eqb (b / 32) 0) (f.Forbidden (start_of total (b ∷ bytes))) (argument_at total (b ∷ bytes)) (key, rest) p.1 in
      let head = argument_takes total (b ∷ bytes) key rest h q.1 in
      let ne = eqb-false left 0 p.0 in
      let m : b / 32 ≡ 0 = eqb-true (b / 32) 0 q.0 in
      record { text = head_of 0 key; spelled = (head.below, refl); parts = subst (λ (k : ℕ). b ∷ bytes ≡ head_of k key ++ rest) m head.parts; some = omega arith; fits = head.fits }

  record TookEntries (done : List (ℕ × Item)) (n left : ℕ) (bytes : List ℕ) (all : List (ℕ × Item)) (after : ℕ) (rest : List ℕ) : Type 0 where
    entries : List (ℕ × Item)
    count : ℕ
    text : List ℕ
    spelled : EncodesEntries spells entries count text
    number : length entries ≡ n
    whole : all ≡ put_all done entries
    fresh : Fresh done entries
    differ : KeysDiffer entries
    parts : bytes ≡ text ++ rest
    spent : left ≡ after + count
    fits : IsBytes rest

  entries_take : (n : ℕ) (done : List (ℕ × Item)) (left : ℕ) (bytes : List ℕ) (all : List (ℕ × Item)) (after : ℕ) (rest : List ℕ) → IsBytes bytes → entries_at total inner done n left bytes ≡ Ok (all, after, rest) → TookEntries done n left bytes all after rest
  unfolding entries_at
  entries_take zero done left bytes all after rest h e =
      subst (λ (q : List (ℕ × Item) × ℕ × List ℕ). TookEntries done 0 left bytes q.0 q.1 q.2) (same_ok (done, left, bytes) (all, after, rest) e)
      (record { entries = []; count = 0; text = []; spelled = (refl, refl); number = refl; whole = refl; fresh = tt; differ = tt; parts = refl; spent = omega arith; fits = h })
  entries_take (suc n) done left bytes all after rest h e =
      let value : ℕ × List ℕ → Result (List (ℕ × Item) × ℕ × List ℕ) CborFault = λ k. inner (left - 1) k.1 >>= λ x. entries_at total inner (insert_entry nat_cmp done k.0 x.0) n x.1 x.2 in
      let a = went_on (key_at total left bytes) (λ k. cond (has k.0 done) (Err (f.RepeatedKey (start_of total bytes))) (value k)) (all, after, rest) e in
      let key = a.0.0 in
      let k = key_takes left bytes key a.0.1 h a.1 in
      let p = passed (has key done) (f.RepeatedKey (start_of total bytes)) (value a.0) (all, after, rest) a.2 in
      let b = went_on (inner (left - 1) a.0.1) (λ x. entries_at total inner (insert_entry nat_cmp done key x.0) n x.1 x.2) (all, after, rest) p.1 in
      let x = b.0 in
      let t = takes (left - 1) a.0.1 x.0 x.1 x.2 k.fits b.1 in
      let r = entries_take n (insert_entry nat_cmp done key x.0) x.1 x.2 all after rest t.fits b.2 in
      let before = fresh_before key x.0 done r.entries r.fresh in
      record {
        entries = (key, x.0) ∷ r.entries;
        count = suc (t.count + r.count);
        text = k.text ++ (t.text ++ r.text);
        spelled = (t.count, r.count, k.text, t.text, r.text, k.spelled, t.spelled, r.spelled, refl, refl);
        number = ap suc r.number;
        whole = r.whole;
        fresh = (p.0, before.0);
        differ = (before.1, r.differ);
        parts = k.parts ∙ ap (λ (z : List ℕ). k.text ++ z) (t.parts ∙ ap (λ (z : List ℕ). t.text ++ z) r.parts ∙ sym (append_assoc t.text r.text rest)) ∙ sym (append_assoc k.text (t.text ++ r.text) rest);
        spent = omega (arith, t.spent, r.spent, k.some);
        fits = r.fits;
      }

  map_takes : (left : ℕ) (bytes : List ℕ) (item : Item) (after : ℕ) (rest : List ℕ) → get_or bytes 0 0 / 32 ≡ 5 → IsBytes bytes → map_at total inner left bytes ≡ Ok (item, after, rest) → TookList left bytes item after rest
  unfolding map_at
  map_takes left bytes item after rest m h e =
      let a = went_on (argument_at total bytes) (λ n. entries_at total inner [] n.0 left n.1 >>= λ es. Ok (v.Map (pairs_of es.0), es.1, es.2)) (item, after, rest) e in
      let b = went_on (entries_at total inner [] a.0.0 left a.0.1) (λ es. Ok (v.Map (pairs_of es.0), es.1, es.2)) (item, after, rest) a.2 in
      let head = argument_takes total bytes a.0.0 a.0.1 h a.1 in
      let t = entries_take a.0.0 [] left a.0.1 b.0.0 b.0.1 b.0.2 head.fits b.1 in
      let parts0 : bytes ≡ head_of 5 a.0.0 ++ a.0.1 = subst (λ (k : ℕ). bytes ≡ head_of k a.0.0 ++ a.0.1) m head.parts in
      let parts : bytes ≡ (head_of 5 (length t.entries) ++ t.text) ++ b.0.2 = rw (t.number, append_assoc (head_of 5 a.0.0) t.text b.0.2, ← t.parts) parts0 in
      let below : length t.entries < 2 ^ 64 = omega (arith, t.number, head.below) in
      subst (λ (q : Item × ℕ × List ℕ). TookList left bytes q.0 q.1 q.2) (same_ok (v.Map (pairs_of b.0.0), b.0.1, b.0.2) (item, after, rest) b.2)
      (record {
        count = t.count;
        text = head_of 5 (length t.entries) ++ t.text;
        spelled = inr (from_put_all spells _ _ _ (t.entries, t.count, t.text, ap (λ (es : List (ℕ × Item)). v.Map (pairs_of es)) t.whole, t.differ, below, t.spelled, refl, refl));
        parts = parts;
        spent = t.spent;
        fits = t.fits;
      })

-- ---- an item

flat_took : (levels left : ℕ) (bytes : List ℕ) (item : Item) (after : ℕ) (rest : List ℕ) → 0 < left → Flat (left - 1) bytes item after rest → Took (Encodes levels) left bytes item after rest
unfolding Encodes
flat_took zero left bytes item after rest some t = record { count = 1; text = t.text; spelled = (t.spelled, refl); parts = t.parts; spent = omega (arith, t.same); fits = t.fits }
flat_took (suc levels) left bytes item after rest some t = record { count = 1; text = t.text; spelled = inl (t.spelled, refl); parts = t.parts; spent = omega (arith, t.same); fits = t.fits }

-- what the reader of items gave was spelled at the front of the bytes
pub item_takes : (total levels : ℕ) → Takes (item_at total levels) (Encodes levels)
unfolding item_at Encodes
item_takes total zero left [] item after rest h e = absurd cc
item_takes total (suc levels) left [] item after rest h e = absurd cc
item_takes total zero left (b ∷ bytes) item after rest h e =
    let p = passed (eqb left 0) f.TooMany (flat_at total (b / 32) (left - 1) (b ∷ bytes)) (item, after, rest) e in
    let ne = eqb-false left 0 p.0 in
    let some : 0 < left = omega arith in
    flat_took zero left (b ∷ bytes) item after rest some (flat_takes total (left - 1) (b ∷ bytes) item after rest h p.1)
item_takes total (suc levels) left (b ∷ bytes) item after rest h e =
    let whole = b ∷ bytes in
    let asList : Result (Item × ℕ × List ℕ) CborFault = list_at total (item_at total levels) (left - 1) whole in
    let asMap : Result (Item × ℕ × List ℕ) CborFault = map_at total (item_at total levels) (left - 1) whole in
    let asFlat : Result (Item × ℕ × List ℕ) CborFault = flat_at total (b / 32) (left - 1) whole in
    let p = passed (eqb left 0) f.TooMany (cond (eqb (b / 32) 4) asList (cond (eqb (b / 32) 5) asMap asFlat)) (item, after, rest) e in
    let ne = eqb-false left 0 p.0 in
    let some : 0 < left = omega arith in
    elim (took (eqb (b / 32) 4) asList (cond (eqb (b / 32) 5) asMap asFlat) (Ok (item, after, rest)) p.1) [
      | inl q ↦
          let t = list_takes total (item_at total levels) (Encodes levels) (item_takes total levels) (left - 1) whole item after rest (eqb-true (b / 32) 4 q.0) h q.1 in
          record { count = suc t.count; text = t.text; spelled = inr t.spelled; parts = t.parts; spent = omega (arith, t.spent); fits = t.fits }
      | inr q ↦ elim (took (eqb (b / 32) 5) asMap asFlat (Ok (item, after, rest)) q.1) [
        | inl r ↦
            let t = map_takes total (item_at total levels) (Encodes levels) (item_takes total levels) (left - 1) whole item after rest (eqb-true (b / 32) 5 r.0) h r.1 in
            record { count = suc t.count; text = t.text; spelled = inr t.spelled; parts = t.parts; spent = omega (arith, t.spent); fits = t.fits }
        | inr r ↦ flat_took (suc levels) left whole item after rest some (flat_takes total (left - 1) whole item after rest h r.1)
      ]
    ]

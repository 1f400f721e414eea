-- An item, and a whole input, is refused by the relation exactly where reading ends with this fault.
use Rattle.std.proofs.Common.{◌≡◌, ℕ, zero, suc, ◌-◌, ◌/◌, ◌%◌, ◌<◌, true, false, ltb, List, [], ◌∷◌, ◌++◌, length, get_or, Ok, Err, refl, sym, ap, subst, ◌∙◌, append_assoc, arith, inl, inr}
use Rattle.std.specs.Prelude.{◌⊎◌, ◌&&◌}
use Rattle.std.proofs.lemmas.Bool.{cases_Bool, lt-ltb, le-ltb}
use Rattle.cbor_core.specs.declared.fault.CborFault.{CborFault}
use Rattle.cbor_core.specs.declared.fault.CborFault.TheVariants as f
use Rattle.cbor_core.specs.declared.item.Item.{Item}
use Rattle.cbor_core.specs.declared.item.Item.TheVariants as v
use Rattle.cbor_core.specs.Grammar.{IsBytes, head_of, Encodes, pairs_of}
use Rattle.cbor_core.specs.Refusals.{Rest, IsBehind, IsBehindHead, RefusesHead, is_item, RefusesString, RefusesFlat, RefusesEach, RefusesEntries, RefusesInside, RefusesItem}
use Rattle.cbor_core.specs.Internal.Results.{◌>>=◌}
use Rattle.cbor_core.specs.Internal.Reading.{Reader, start_of, argument_at, whole_at, flat_at, items_at, entries_at, list_at, map_at, item_at}
use Rattle.cbor_core.proofs.Outcomes.{same_err, stopped}
use Rattle.cbor_core.proofs.Arguments.{head_first}
use Rattle.cbor_core.proofs.Again.{Again, item_again}
use Rattle.cbor_core.proofs.Found.{Takes, item_takes}
use Rattle.cbor_core.proofs.ReadingLoops.{item_as_flat, item_as_list, item_as_map}
use Rattle.cbor_core.proofs.Refusing.{EndsAt, RefusedSo, StopsSo, rest_at, start_is, Kinds, kinds, head_read, head_again, argument_stops, item_head_refused, item_at_end, item_at_full, as_whole, as_blob, as_text, as_list, as_map, as_none, flat_is_blob, flat_is_text, string_refused, string_stops, blob_refused, blob_stops, text_refused_cut, text_refused_whole, text_stops, each_refused, each_stops, ends_behind}
use Rattle.cbor_core.proofs.RefusingMaps.{entries_refuse, entries_refusal}

-- ---- what the relation refuses, reading does

-- how the bytes begin
record Begun (major : ℕ) (rest : Rest) : Type 0 where
  some : 0 < rest.left
  full : 0 < length rest.bytes
  is : get_or rest.bytes 0 0 / 32 ≡ major

begun : (major n : ℕ) (rest back : Rest) (more : List ℕ) → IsBehind rest 1 (head_of major n ++ more) back → Begun major rest
begun major n rest back more b =
    let first = head_first major n (more ++ back.bytes) in
    let bytes : rest.bytes ≡ head_of major n ++ (more ++ back.bytes) = b.bytes ∙ append_assoc (head_of major n) more back.bytes in
    record { some = omega (arith, b.left); full = rw bytes first.0; is = rw bytes first.1 }

begun_head : (major n : ℕ) (rest back : Rest) → IsBehindHead major n rest back → Begun major rest
begun_head major n rest back s =
    let first = head_first major n back.bytes in
    record { some = omega (arith, s.1.left); full = rw s.1.bytes first.0; is = rw s.1.bytes first.1 }

module _ (total levels : ℕ) (rest : Rest) (e : CborFault) where
  by_flat : (major : ℕ) → major < 4 → Begun major rest → flat_at total major (rest.left - 1) rest.bytes ≡ Err e → item_at total levels rest.left rest.bytes ≡ Err e
  by_flat major lt b h =
      let is = b.is in
      item_as_flat total rest.left b.some rest.bytes levels b.full (λ _ e. absurd (omega (arith, is, e))) (λ _ e. absurd (omega (arith, is, e))) ∙ rw is h

  flat_refused : EndsAt total rest → RefusesFlat rest e → item_at total levels rest.left rest.bytes ≡ Err e
  flat_refused ends (inl s) =
      by_flat 2 (omega arith) (begun_head 2 s.0 rest s.1 s.2) (flat_is_blob total (rest.left - 1) rest.bytes ∙ blob_refused total (rest.left - 1) rest.bytes e (string_refused total 2 rest e ends s))
  flat_refused ends (inr (inl s)) =
      by_flat 3 (omega arith) (begun_head 3 s.0 rest s.1 s.2) (flat_is_text total (rest.left - 1) rest.bytes ∙ text_refused_cut total (rest.left - 1) rest.bytes e (string_refused total 3 rest e ends s))
  flat_refused ends (inr (inr s)) =
      let b : IsBehind rest 1 (head_of 3 (length s.0) ++ s.0) s.2 = subst (λ (z : List ℕ). IsBehind rest 1 z s.2) s.3.1 s.4 in
      by_flat 3 (omega arith) (begun 3 (length s.0) rest s.2 s.0 b) (flat_is_text total (rest.left - 1) rest.bytes ∙ text_refused_whole total (rest.left - 1) rest e ends s)

list_refused : (total : ℕ) (inner : Reader) (spells : Item → ℕ → List ℕ → Type 0) (Refuses : Rest → CborFault → Type 0) → Again inner spells → RefusedSo total inner Refuses → (n : ℕ) (rest back : Rest) (e : CborFault) → EndsAt total rest
    → IsBehindHead 4 n rest back → RefusesEach Refuses spells n back e → list_at total inner back.left rest.bytes ≡ Err e
unfolding list_at
list_refused total inner spells Refuses again so n rest back e ends b s =
    rw (head_again total 4 n rest back b, each_refused total inner spells Refuses again so s.0 n s.1 s.2 back s.3 [] e (ends_behind total rest back 1 (head_of 4 n) ends b.1) s.4 s.5 s.6 s.7) refl

map_refused : (total : ℕ) (inner : Reader) (spells : Item → ℕ → List ℕ → Type 0) (Refuses : Rest → CborFault → Type 0) → Again inner spells → RefusedSo total inner Refuses → (n : ℕ) (rest back : Rest) (e : CborFault) → EndsAt total rest
    → IsBehindHead 5 n rest back → RefusesEntries Refuses spells n back e → map_at total inner back.left rest.bytes ≡ Err e
unfolding map_at
map_refused total inner spells Refuses again so n rest back e ends b s =
    rw (head_again total 5 n rest back b, entries_refuse total inner spells Refuses again so n back e (ends_behind total rest back 1 (head_of 5 n) ends b.1) s) refl

inside_refused : (total levels : ℕ) → RefusedSo total (item_at total levels) (RefusesItem levels) → (rest : Rest) (e : CborFault) → EndsAt total rest → RefusesInside (RefusesItem levels) (Encodes levels) rest e → item_at total (suc levels) rest.left rest.bytes ≡ Err e
inside_refused total levels so rest e ends s =
    let n = s.0 in
    let back = s.1 in
    let k : suc levels - 1 ≡ levels = omega arith in
    elim (s.2) [
      | inl r ↦
          let b = begun_head 4 n rest back r.0 in
          let less : rest.left - 1 ≡ back.left = omega (arith, r.0.1.left) in
          item_as_list total rest.left b.some rest.bytes (suc levels) b.full (omega arith) b.is ∙ rw (k, less) (list_refused total (item_at total levels) (Encodes levels) (RefusesItem levels) (item_again total levels) so n rest back e ends r.0 r.1)
      | inr r ↦
          let b = begun_head 5 n rest back r.0 in
          let less : rest.left - 1 ≡ back.left = omega (arith, r.0.1.left) in
          item_as_map total rest.left b.some rest.bytes (suc levels) b.full (omega arith) b.is ∙ rw (k, less) (map_refused total (item_at total levels) (Encodes levels) (RefusesItem levels) (item_again total levels) so n rest back e ends r.0 r.1)
    ]

-- the reader of items refuses what the specification refuses, with the same fault
pub item_refused : (total levels : ℕ) → RefusedSo total (item_at total levels) (RefusesItem levels)
unfolding RefusesItem
item_refused total zero rest e ends (inl s) = item_head_refused total 0 rest.left rest.at rest.bytes e ends s
item_refused total zero rest e ends (inr s) = flat_refused total 0 rest e ends s
item_refused total (suc levels) rest e ends (inl s) = item_head_refused total (suc levels) rest.left rest.at rest.bytes e ends s
item_refused total (suc levels) rest e ends (inr (inl s)) = flat_refused total (suc levels) rest e ends s
item_refused total (suc levels) rest e ends (inr (inr s)) = inside_refused total levels (item_refused total levels) rest e ends s

-- ---- what reading refuses, the relation does

whole_stops : (total left : ℕ) (bytes : List ℕ) (e : CborFault) → whole_at total left bytes ≡ Err e → argument_at total bytes ≡ Err e
unfolding whole_at
whole_stops total left bytes e h = elim (stopped (argument_at total bytes) (λ n. Ok (v.Whole n.0, left, n.1)) e h) [
  | inl p ↦ p
  | inr p ↦ absurd (cc p.2)
]

module _ (total left at b : ℕ) (bytes : List ℕ) (e : CborFault) (ends : EndsAt total (rest_at left at (b ∷ bytes))) (some : 0 < left) (h : IsBytes (b ∷ bytes)) where
  head_stops : (levels : ℕ) → is_item levels (b / 32) ≡ true → argument_at total (b ∷ bytes) ≡ Err e → RefusesHead (is_item levels) left at (b ∷ bytes) e
  head_stops levels kind stops = elim (argument_stops total at b bytes e ends stops) [
    | inl r ↦
        let not_begun : (is_item levels (b / 32) && ltb (b % 32) 28) ≡ false = rw (kind, le-ltb (b % 32) 28 r.0) refl in
        inr (inl (some, not_begun, r.1))
    | inr r ↦
        let may : (is_item levels (b / 32) && ltb (b % 32) 28) ≡ true = rw (kind, lt-ltb (b % 32) 28 r.0) refl in
        inr (inr (some, may, r.1))
  ]

  module _ (inner : Reader) (spells : Item → ℕ → List ℕ → Type 0) (Refuses : Rest → CborFault → Type 0) (takes : Takes inner spells) (so : StopsSo total inner Refuses) where
    list_stops : b / 32 ≡ 4 → list_at total inner (left - 1) (b ∷ bytes) ≡ Err e → (argument_at total (b ∷ bytes) ≡ Err e) ⊎ RefusesInside Refuses spells (rest_at left at (b ∷ bytes)) e
    unfolding list_at
    list_stops m stops = elim (stopped (argument_at total (b ∷ bytes)) (λ n. items_at inner [] n.0 (left - 1) n.1 >>= λ xs. Ok (v.List xs.0, xs.1, xs.2)) e stops) [
      | inl p ↦ inl p
      | inr p ↦ elim (stopped (items_at inner [] p.0.0 (left - 1) p.0.1) (λ xs. Ok (v.List xs.0, xs.1, xs.2)) e p.2) [
        | inl q ↦
            let r = head_read total left at b p.0.0 bytes p.0.1 ends some h p.1 in
            let less : left - 1 ≡ r.back.left = omega (arith, r.left) in
            let fits : IsBytes r.back.bytes = subst IsBytes (sym r.bytes) r.fits in
            let here : items_at inner [] p.0.0 r.back.left r.back.bytes ≡ Err e = rw (← less, r.bytes) q in
            let is : IsBehindHead 4 p.0.0 (rest_at left at (b ∷ bytes)) r.back = subst (λ (k : ℕ). IsBehindHead k p.0.0 (rest_at left at (b ∷ bytes)) r.back) m r.is in
            inr (p.0.0, r.back, inl (is, each_stops total inner spells Refuses takes so p.0.0 [] r.back e r.ends fits here))
        | inr q ↦ absurd (cc q.2)
      ]
    ]

    map_stops : b / 32 ≡ 5 → map_at total inner (left - 1) (b ∷ bytes) ≡ Err e → (argument_at total (b ∷ bytes) ≡ Err e) ⊎ RefusesInside Refuses spells (rest_at left at (b ∷ bytes)) e
    unfolding map_at
    map_stops m stops = elim (stopped (argument_at total (b ∷ bytes)) (λ n. entries_at total inner [] n.0 (left - 1) n.1 >>= λ es. Ok (v.Map (pairs_of es.0), es.1, es.2)) e stops) [
      | inl p ↦ inl p
      | inr p ↦ elim (stopped (entries_at total inner [] p.0.0 (left - 1) p.0.1) (λ es. Ok (v.Map (pairs_of es.0), es.1, es.2)) e p.2) [
        | inl q ↦
            let r = head_read total left at b p.0.0 bytes p.0.1 ends some h p.1 in
            let less : left - 1 ≡ r.back.left = omega (arith, r.left) in
            let fits : IsBytes r.back.bytes = subst IsBytes (sym r.bytes) r.fits in
            let here : entries_at total inner [] p.0.0 r.back.left r.back.bytes ≡ Err e = rw (← less, r.bytes) q in
            let is : IsBehindHead 5 p.0.0 (rest_at left at (b ∷ bytes)) r.back = subst (λ (k : ℕ). IsBehindHead k p.0.0 (rest_at left at (b ∷ bytes)) r.back) m r.is in
            inr (p.0.0, r.back, inr (is, entries_refusal total inner spells Refuses takes so p.0.0 r.back e r.ends fits here))
        | inr q ↦ absurd (cc q.2)
      ]
    ]

-- what the item at the front may be refused for
abbrev Stopped : ℕ → ℕ → Rest → CborFault → Type 0
Stopped levels inside rest e =
    RefusesHead (is_item levels) rest.left rest.at rest.bytes e
    ⊎ (RefusesFlat rest e ⊎ ((0 < levels) × RefusesInside (RefusesItem inside) (Encodes inside) rest e))

module _ (total levels inside : ℕ) (is : levels - 1 ≡ inside) (so : 0 < levels → StopsSo total (item_at total inside) (RefusesItem inside)) where
  kind_stops : (left at b : ℕ) (bytes : List ℕ) (e : CborFault) → EndsAt total (rest_at left at (b ∷ bytes)) → 0 < left → IsBytes (b ∷ bytes) → is_item levels (b / 32) ≡ true → Kinds levels (b / 32)
      → item_at total levels left (b ∷ bytes) ≡ Err e → Stopped levels inside (rest_at left at (b ∷ bytes)) e
  kind_stops left at b bytes e ends some h kind (inl m) stops =
      let whole = sym (as_whole total left some b bytes levels m) ∙ stops in
      inl (head_stops total left at b bytes e ends some h levels kind (whole_stops total (left - 1) (b ∷ bytes) e whole))
  kind_stops left at b bytes e ends some h kind (inr (inl m)) stops =
      let blob = blob_stops total (left - 1) (b ∷ bytes) e (sym (as_blob total left some b bytes levels m) ∙ stops) in
      elim (string_stops total left at b bytes e ends some h blob) [
        | inl p ↦ inl (head_stops total left at b bytes e ends some h levels kind p)
        | inr p ↦ inr (inl (inl (subst (λ (k : ℕ). RefusesString k (rest_at left at (b ∷ bytes)) e) m p)))
      ]
  kind_stops left at b bytes e ends some h kind (inr (inr (inl m))) stops =
      elim (text_stops total left at b bytes e ends some m h (sym (as_text total left some b bytes levels m) ∙ stops)) [
        | inl q ↦ elim (string_stops total left at b bytes e ends some h q) [
          | inl p ↦ inl (head_stops total left at b bytes e ends some h levels kind p)
          | inr p ↦ inr (inl (inr (inl (subst (λ (k : ℕ). RefusesString k (rest_at left at (b ∷ bytes)) e) m p))))
        ]
        | inr q ↦ inr (inl (inr (inr q)))
      ]
  kind_stops left at b bytes e ends some h kind (inr (inr (inr (inl m)))) stops =
      let list = rw is at (sym (as_list total left some b bytes levels m.0 m.1) ∙ stops) in
      elim (list_stops total left at b bytes e ends some h (item_at total inside) (Encodes inside) (RefusesItem inside) (item_takes total inside) (so m.0) m.1 list) [
        | inl p ↦ inl (head_stops total left at b bytes e ends some h levels kind p)
        | inr p ↦ inr (inr (m.0, p))
      ]
  kind_stops left at b bytes e ends some h kind (inr (inr (inr (inr m)))) stops =
      let map = rw is at (sym (as_map total left some b bytes levels m.0 m.1) ∙ stops) in
      elim (map_stops total left at b bytes e ends some h (item_at total inside) (Encodes inside) (RefusesItem inside) (item_takes total inside) (so m.0) m.1 map) [
        | inl p ↦ inl (head_stops total left at b bytes e ends some h levels kind p)
        | inr p ↦ inr (inr (m.0, p))
      ]

  at_stops : (left at : ℕ) (bytes : List ℕ) (e : CborFault) → EndsAt total (rest_at left at bytes) → IsBytes bytes → item_at total levels left bytes ≡ Err e → Stopped levels inside (rest_at left at bytes) e
  at_stops left at [] e ends h stops = inl (sym (same_err (f.Truncated total) e (sym (item_at_end total levels left) ∙ stops)) ∙ ap (λ (n : ℕ). f.Truncated n) (omega (arith, ends)))
  at_stops zero at (b ∷ bytes) e ends h stops = inl (inl (refl, sym (same_err f.TooMany e (sym (item_at_full total levels b bytes) ∙ stops))))
  at_stops (suc left) at (b ∷ bytes) e ends h stops = elim (cases_Bool (is_item levels (b / 32))) [
    | inl kind ↦ kind_stops (suc left) at b bytes e ends (omega arith) h kind (kinds levels (b / 32) kind) stops
    | inr none ↦
        let not_begun : (is_item levels (b / 32) && ltb (b % 32) 28) ≡ false = rw none refl in
        let same = same_err (f.Forbidden (start_of total (b ∷ bytes))) e (sym (as_none total (suc left) (omega arith) b bytes levels none) ∙ stops) in
        inl (inr (inl (omega arith, not_begun, sym same ∙ ap (λ (n : ℕ). f.Forbidden n) (start_is total at b bytes ends))))
  ]

-- what the reader of items refuses, the specification refuses with the same fault
pub item_stops : (total levels : ℕ) → StopsSo total (item_at total levels) (RefusesItem levels)
unfolding RefusesItem
item_stops total zero rest e ends h stops =
    elim (at_stops total 0 0 (omega arith) (λ lt. absurd (omega (arith, lt))) rest.left rest.at rest.bytes e ends h stops) [
      | inl r ↦ inl r
      | inr (inl r) ↦ inr r
      | inr (inr r) ↦ absurd (omega (arith, r.0))
    ]
item_stops total (suc levels) rest e ends h stops =
    elim (at_stops total (suc levels) levels (omega arith) (λ _. item_stops total levels) rest.left rest.at rest.bytes e ends h stops) [
      | inl r ↦ inl r
      | inr (inl r) ↦ inr (inl r)
      | inr (inr r) ↦ inr (inr r.1)
    ]

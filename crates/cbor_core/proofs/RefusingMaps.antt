-- An entry of a map is refused by the relation exactly where reading ends with this fault.
use Rattle.std.proofs.Common.{◌≡◌, ℕ, zero, suc, ◌+◌, ◌-◌, ◌/◌, ◌%◌, ◌≤◌, ◌<◌, true, false, cond, eqb, ltb, List, [], ◌∷◌, ◌++◌, length, Result, Ok, Err, refl, sym, ap, ◌∙◌, append_assoc, arith, inl, inr}
use Rattle.std.specs.Prelude.{◌⊎◌, ◌&&◌}
use Rattle.std.specs.Ordering.{nat_cmp}
use Rattle.std.specs.BTreeMap.{insert_entry}
use Rattle.std.proofs.lemmas.Bool.{cases_Bool, ltb-false, lt-ltb, le-ltb, eqb-true, eqb-false, ne_eqb, and_parts, true≢false}
use Rattle.std.proofs.lemmas.List.{length-append}
use Rattle.base_types.proofs.Options.{took}
use Rattle.cbor_core.specs.declared.fault.CborFault.{CborFault}
use Rattle.cbor_core.specs.declared.fault.CborFault.TheVariants as f
use Rattle.cbor_core.specs.declared.item.Item.{Item}
use Rattle.cbor_core.specs.Grammar.{IsBytes, head_of, EncodesEntries, KeysDiffer}
use Rattle.cbor_core.specs.Refusals.{Rest, IsBehind, IsBehindHead, RefusesHead, is_key, RefusesEntry, RefusesEntries}
use Rattle.cbor_core.specs.Internal.Results.{◌>>=◌}
use Rattle.cbor_core.specs.Internal.Reading.{Reader, start_of, argument_at, key_at, entries_at}
use Rattle.cbor_core.proofs.Outcomes.{same_err, stopped}
use Rattle.cbor_core.proofs.Keys.{put_all, has, Fresh, fresh_before, fresh_after, fresh_at_first, lacks_before, lacks_after}
use Rattle.cbor_core.proofs.Again.{Again, key_again}
use Rattle.cbor_core.proofs.Found.{Takes, key_takes}
use Rattle.cbor_core.proofs.Refusing.{EndsAt, RefusedSo, StopsSo, rest_at, behind_none, behind_then, ends_behind, start_is, argument_refused, argument_indefinite, argument_stops}

-- ---- a key

key_head_refused : (total left at : ℕ) (bytes : List ℕ) (e : CborFault) → total ≡ at + length bytes → RefusesHead is_key left at bytes e → key_at total left bytes ≡ Err e
unfolding key_at
key_head_refused total left at [] e is s = rw (s, is) (ap (λ (n : ℕ). Err (f.Truncated n)) (omega arith))
key_head_refused total left at (b ∷ bytes) e is (inl s) = rw (s.0, s.1) refl
key_head_refused total left at (b ∷ bytes) e is (inr (inl s)) =
    let some : eqb left 0 ≡ false = ne_eqb left 0 (λ z. absurd (omega (arith, s.0))) in
    elim (cases_Bool (eqb (b / 32) 0)) [
      | inl k ↦
          let code : 28 ≤ b % 32 = ltb-false (b % 32) 28 (rw k at s.1) in
          rw (some, k, s.2) (argument_indefinite total at b bytes is code)
      | inr k ↦ rw (some, k, s.2, start_is total at b bytes is) refl
    ]
key_head_refused total left at (b ∷ bytes) e is (inr (inr s)) =
    let some : eqb left 0 ≡ false = ne_eqb left 0 (λ z. absurd (omega (arith, s.0))) in
    let p = and_parts (eqb (b / 32) 0) (ltb (b % 32) 28) s.1 in
    rw (some, p.0) (argument_refused total at b bytes e is s.2)

key_stops : (total left at : ℕ) (bytes : List ℕ) (e : CborFault) → total ≡ at + length bytes → key_at total left bytes ≡ Err e → RefusesHead is_key left at bytes e
unfolding key_at
key_stops total left at [] e is h = sym (same_err (f.Truncated total) e h) ∙ ap (λ (n : ℕ). f.Truncated n) (omega (arith, is))
key_stops total left at (b ∷ bytes) e is h =
    let other : Result (ℕ × List ℕ) CborFault = Err (f.Forbidden (start_of total (b ∷ bytes))) in
    let key : Result (ℕ × List ℕ) CborFault = cond (eqb (b / 32) 0) (argument_at total (b ∷ bytes)) other in
    elim (took (eqb left 0) (Err f.TooMany) key (Err e) h) [
      | inl p ↦ inl (eqb-true left 0 p.0, sym (same_err f.TooMany e p.1))
      | inr p ↦
          let zero_not = eqb-false left 0 p.0 in
          let some : 0 < left = omega (arith, zero_not) in
          elim (took (eqb (b / 32) 0) (argument_at total (b ∷ bytes)) other (Err e) p.1) [
            | inl q ↦ elim (argument_stops total at b bytes e is q.1) [
              | inl r ↦
                  let not_begun : (eqb (b / 32) 0 && ltb (b % 32) 28) ≡ false = rw (q.0, le-ltb (b % 32) 28 r.0) refl in
                  inr (inl (some, not_begun, r.1))
              | inr r ↦
                  let begun : (eqb (b / 32) 0 && ltb (b % 32) 28) ≡ true = rw (q.0, lt-ltb (b % 32) 28 r.0) refl in
                  inr (inr (some, begun, r.1))
            ]
            | inr q ↦
                let not_begun : (eqb (b / 32) 0 && ltb (b % 32) 28) ≡ false = rw q.0 refl in
                inr (inl (some, not_begun, sym (same_err (f.Forbidden (start_of total (b ∷ bytes))) e q.1) ∙ ap (λ (n : ℕ). f.Forbidden n) (start_is total at b bytes is)))
          ]
    ]

-- ---- an entry behind those of a map

module _ (total : ℕ) (inner : Reader) (spells : Item → ℕ → List ℕ → Type 0) (Refuses : Rest → CborFault → Type 0) where
  -- an entry is refused where the map is there already
  EntryStops : List (ℕ × Item) → Rest → CborFault → Type 0
  EntryStops done rest e =
      RefusesHead is_key rest.left rest.at rest.bytes e
      ⊎ ((key : ℕ) × (back : Rest) × IsBehindHead 0 key rest back × (((has key done ≡ true) × (e ≡ f.RepeatedKey rest.at)) ⊎ ((has key done ≡ false) × Refuses back e)))

  to_stops : (entries : List (ℕ × Item)) (rest : Rest) (e : CborFault) → RefusesEntry Refuses entries rest e → EntryStops (put_all [] entries) rest e
  unfolding EntryStops
  to_stops entries rest e (inl s) = inl s
  to_stops entries rest e (inr s) = inr (
    s.0,
    s.1,
    s.2,
    elim (s.3) [
      | inl r ↦ elim (cases_Bool (has s.0 (put_all [] entries))) [
        | inl t ↦ inl (t, r.1)
        | inr t ↦ absurd (r.0 (lacks_before s.0 entries [] t).1)
      ]
      | inr r ↦ inr (lacks_after s.0 entries [] refl r.0, r.1)
    ],
  )

  from_stops : (entries : List (ℕ × Item)) (rest : Rest) (e : CborFault) → EntryStops (put_all [] entries) rest e → RefusesEntry Refuses entries rest e
  unfolding EntryStops
  from_stops entries rest e (inl s) = inl s
  from_stops entries rest e (inr s) = inr (
    s.0,
    s.1,
    s.2,
    elim (s.3) [
      | inl r ↦ inl ((λ lacks. true≢false (sym r.0 ∙ lacks_after s.0 entries [] refl lacks)), r.1)
      | inr r ↦ inr ((lacks_before s.0 entries [] r.0).1, r.1)
    ],
  )

  entry_refused : RefusedSo total inner Refuses → (k : ℕ) (done : List (ℕ × Item)) (rest : Rest) (e : CborFault) → EndsAt total rest → EntryStops done rest e → entries_at total inner done (suc k) rest.left rest.bytes ≡ Err e
  unfolding EntryStops entries_at
  entry_refused so k done rest e ends (inl s) = rw (key_head_refused total rest.left rest.at rest.bytes e ends s) refl
  entry_refused so k done rest e ends (inr s) =
      let key = s.0 in
      let back = s.1 in
      let some : 0 < rest.left = omega (arith, s.2.1.left) in
      let read : key_at total rest.left rest.bytes ≡ Ok (key, back.bytes) = ap (key_at total rest.left) s.2.1.bytes ∙ key_again total rest.left key (head_of 0 key) back.bytes (s.2.0, refl) some in
      let start : start_of total rest.bytes ≡ rest.at = omega (arith, ends) in
      let less : rest.left - 1 ≡ back.left = omega (arith, s.2.1.left) in
      elim (s.3) [
        | inl r ↦ rw (read, r.0, r.1, start) refl
        | inr r ↦ rw (read, r.0, less, so back e (ends_behind total rest back 1 (head_of 0 key) ends s.2.1) r.1) refl
      ]

  entries_refused : Again inner spells → RefusedSo total inner Refuses → (entries : List (ℕ × Item)) (n count : ℕ) (front : List ℕ) (rest back : Rest) (done : List (ℕ × Item)) (e : CborFault)
      → EndsAt total rest → length entries < n → KeysDiffer entries → Fresh done entries → EncodesEntries spells entries count front → IsBehind rest count front back → EntryStops (put_all done entries) back e
      → entries_at total inner done n rest.left rest.bytes ≡ Err e
  unfolding entries_at
  entries_refused again so entries zero count front rest back done e ends lt d fr s b r = absurd (omega arith)
  entries_refused again so [] (suc n) count front rest back done e ends lt d fr s b r =
      let left : rest.left ≡ back.left = omega (arith, b.left, s.0) in
      let bytes : rest.bytes ≡ back.bytes = b.bytes ∙ ap (λ (z : List ℕ). z ++ back.bytes) s.1 in
      rw (left, bytes) (entry_refused so n done back e (ends_behind total rest back count front ends b) r)
  entries_refused again so (entry ∷ entries) (suc n) count front rest back done e ends lt d fr s b r =
      let m = s.0 in
      let key = s.2 in
      let first = s.3 in
      let more = s.4 in
      let cnt : count ≡ suc (m + s.1) = s.8 in
      let behind = first ++ (more ++ back.bytes) in
      let bytes : rest.bytes ≡ key ++ behind = b.bytes ∙ ap (λ (z : List ℕ). z ++ back.bytes) s.9 ∙ append_assoc key (first ++ more) back.bytes ∙ ap (λ (z : List ℕ). key ++ z) (append_assoc first more back.bytes) in
      let read : key_at total rest.left rest.bytes ≡ Ok (entry.0, behind) = ap (key_at total rest.left) bytes ∙ key_again total rest.left entry.0 key behind s.5 (omega (arith, b.left, cnt)) in
      let one : inner (rest.left - 1) behind ≡ Ok (entry.1, rest.left - 1 - m, more ++ back.bytes) = again (rest.left - 1) entry.1 m first (more ++ back.bytes) s.6 (omega (arith, b.left, cnt)) in
      let mid : Rest = rest_at (rest.left - 1 - m) (rest.at + length (key ++ first)) (more ++ back.bytes) in
      let to_mid : IsBehind rest (suc m) (key ++ first) mid = record { left = omega (arith, b.left, cnt); at = refl; bytes = bytes ∙ sym (append_assoc key first (more ++ back.bytes)) } in
      let long : length front ≡ length (key ++ first) + length more = ap length s.9 ∙ omega (arith, length-append key (first ++ more), length-append first more, length-append key first) in
      let on : IsBehind mid s.1 more back = record { left = omega (arith, b.left, cnt); at = omega (arith, b.at, long); bytes = refl } in
      rw (read, fr.0, one) (entries_refused again so entries n s.1 more mid back (insert_entry nat_cmp done entry.0 entry.1) e (ends_behind total rest mid (suc m) (key ++ first) ends to_mid) (omega arith) d.1 (fresh_after entry.0 entry.1 done entries fr.1 d.0) s.7 on r)

  record StoppedIn (done : List (ℕ × Item)) (n : ℕ) (rest : Rest) (e : CborFault) : Type 0 where
    entries : List (ℕ × Item)
    count : ℕ
    front : List ℕ
    back : Rest
    fewer : length entries < n
    differ : KeysDiffer entries
    fresh : Fresh done entries
    spelled : EncodesEntries spells entries count front
    behind : IsBehind rest count front back
    stops : EntryStops (put_all done entries) back e

  stopped_here : (done : List (ℕ × Item)) (n : ℕ) (rest : Rest) (e : CborFault) → EntryStops done rest e → StoppedIn done (suc n) rest e
  stopped_here done n rest e s = record { entries = []; count = 0; front = []; back = rest; fewer = omega arith; differ = tt; fresh = tt; spelled = (refl, refl); behind = behind_none rest; stops = s }

  entries_stop : Takes inner spells → StopsSo total inner Refuses → (n : ℕ) (done : List (ℕ × Item)) (rest : Rest) (e : CborFault) → EndsAt total rest → IsBytes rest.bytes
      → entries_at total inner done n rest.left rest.bytes ≡ Err e → StoppedIn done n rest e
  unfolding entries_at EntryStops
  entries_stop takes so zero done rest e ends h stops = absurd (cc stops)
  entries_stop takes so (suc n) done rest e ends h stops =
      let value : ℕ × List ℕ → Result (List (ℕ × Item) × ℕ × List ℕ) CborFault = λ k. inner (rest.left - 1) k.1 >>= λ x. entries_at total inner (insert_entry nat_cmp done k.0 x.0) n x.1 x.2 in
      elim (stopped (key_at total rest.left rest.bytes) (λ k. cond (has k.0 done) (Err (f.RepeatedKey (start_of total rest.bytes))) (value k)) e stops) [
        | inl p ↦ stopped_here done n rest e (inl (key_stops total rest.left rest.at rest.bytes e ends p))
        | inr p ↦
            let key = p.0.0 in
            let behind = p.0.1 in
            let k = key_takes total inner spells takes rest.left rest.bytes key behind h p.1 in
            let text = head_of 0 key in
            let next : Rest = rest_at (rest.left - 1) (rest.at + length text) behind in
            let parts : rest.bytes ≡ text ++ behind = k.parts ∙ ap (λ (z : List ℕ). z ++ behind) k.spelled.1 in
            let some : 0 < rest.left = k.some in
            let to_next : IsBehind rest 1 text next = record { left = omega (arith, some); at = refl; bytes = parts } in
            let ends_next = ends_behind total rest next 1 text ends to_next in
            elim (took (has key done) (Err (f.RepeatedKey (start_of total rest.bytes))) (value p.0) (Err e) p.2) [
              | inl q ↦
                  let start : start_of total rest.bytes ≡ rest.at = omega (arith, ends) in
                  stopped_here done n rest e (inr (key, next, (k.spelled.0, to_next), inl (q.0, sym (same_err (f.RepeatedKey (start_of total rest.bytes)) e q.1) ∙ ap (λ (i : ℕ). f.RepeatedKey i) start)))
              | inr q ↦ elim (stopped (inner (rest.left - 1) behind) (λ x. entries_at total inner (insert_entry nat_cmp done key x.0) n x.1 x.2) e q.1) [
                | inl r ↦ stopped_here done n rest e (inr (key, next, (k.spelled.0, to_next), inr (q.0, so next e ends_next k.fits r)))
                | inr r ↦
                    let x = r.0 in
                    let t = takes (rest.left - 1) behind x.0 x.1 x.2 k.fits r.1 in
                    let mid : Rest = rest_at x.1 (next.at + length t.text) x.2 in
                    let to_mid : IsBehind next t.count t.text mid = record { left = t.spent; at = refl; bytes = t.parts } in
                    let m = entries_stop takes so n (insert_entry nat_cmp done key x.0) mid e (ends_behind total next mid t.count t.text ends_next to_mid) t.fits r.2 in
                    let fresh = fresh_before key x.0 done m.entries m.fresh in
                    let whole : IsBehind rest (1 + (t.count + m.count)) (text ++ (t.text ++ m.front)) m.back = behind_then rest next m.back 1 (t.count + m.count) text (t.text ++ m.front) to_next (behind_then next mid m.back t.count m.count t.text m.front to_mid m.behind) in
                    record {
                      entries = (key, x.0) ∷ m.entries;
                      count = suc (t.count + m.count);
                      front = text ++ (t.text ++ m.front);
                      back = m.back;
                      fewer = omega (arith, m.fewer);
                      differ = (fresh.1, m.differ);
                      fresh = (q.0, fresh.0);
                      spelled = (t.count, m.count, text, t.text, m.front, (k.spelled.0, refl), t.spelled, m.spelled, refl, refl);
                      behind = record { left = omega (arith, whole.left); at = whole.at; bytes = whole.bytes };
                      stops = m.stops;
                    }
              ]
            ]
      ]

  pub entries_refuse : Again inner spells → RefusedSo total inner Refuses → (n : ℕ) (rest : Rest) (e : CborFault) → EndsAt total rest → RefusesEntries Refuses spells n rest e → entries_at total inner [] n rest.left rest.bytes ≡ Err e
  entries_refuse again so n rest e ends s =
      entries_refused again so s.0 n s.1 s.2 rest s.3 [] e ends s.4 s.5 (fresh_at_first s.0) s.6 s.7 (to_stops s.0 s.3 e s.8)

  pub entries_refusal : Takes inner spells → StopsSo total inner Refuses → (n : ℕ) (rest : Rest) (e : CborFault) → EndsAt total rest → IsBytes rest.bytes → entries_at total inner [] n rest.left rest.bytes ≡ Err e → RefusesEntries Refuses spells n rest e
  entries_refusal takes so n rest e ends h stops =
      let m = entries_stop takes so n [] rest e ends h stops in
      (m.entries, m.count, m.front, m.back, m.fewer, m.differ, m.spelled, m.behind, from_stops m.entries m.back e m.stops)

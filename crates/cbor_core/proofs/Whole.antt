-- The laws of reading a whole input.
use Rattle.std.proofs.Common.{◌≡◌, ◌≢◌, ℕ, ◌+◌, ◌-◌, ◌≤◌, ◌<◌, Bool, true, false, cond, eqb, List, [], ◌++◌, length, take, drop, Result, Ok, Err, refl, sym, ap, subst, ◌∙◌, append_assoc, arith, inl, inr}
use Rattle.std.specs.Prelude.{IfOk}
use Rattle.std.proofs.lemmas.Bool.{eqb-true, eqb-false, ne_eqb}
use Rattle.std.proofs.lemmas.List.{append-nil, take-append-drop, length-append, length-drop, nil_from_length, append_cancel_right}
use Rattle.base_types.proofs.Options.{took}
use Rattle.cbor_core.specs.declared.fault.CborFault.{CborFault}
use Rattle.cbor_core.specs.declared.fault.CborFault.TheVariants as f
use Rattle.cbor_core.specs.declared.item.Item.{Item}
use Rattle.cbor_core.specs.Grammar.{IsBytes, Encodes}
use Rattle.cbor_core.specs.Internal.Results.{Gives, Unless}
use Rattle.cbor_core.specs.Internal.Reading.{is_memory, start_of, item_at, reading}
use Rattle.cbor_core.proofs.Outcomes.{ended, went_on, same_ok, same_err, stopped}
use Rattle.cbor_core.specs.Refusals.{UnlessMemory, RefusesItem, IsRefused, input_of, ReadsAs, IsFinal}
use Rattle.cbor_core.proofs.RefusingItems.{item_refused, item_stops}
use Rattle.cbor_core.proofs.MoreBytes.{item_stays}
use Rattle.cbor_core.proofs.Found.{item_takes}
use Rattle.cbor_core.specs.Writing.{item_nesting, count_of, keys_rise}
use Rattle.cbor_core.proofs.Again.{item_again}
use Rattle.cbor_core.proofs.Sorted.{kept}

abbrev pub IsFound : List ℕ → Item → Type 0
IsFound bytes item = (count : ℕ) × (count ≤ 100000) × Encodes 4 item count bytes

found : (bytes : List ℕ) (item : Item) → IsBytes bytes → reading bytes ≡ Ok item → IsFound bytes item
unfolding reading
found bytes item h e =
    let a = went_on (item_at (length bytes) 4 100000 bytes) (λ x. cond (eqb (length x.2) 0) (Ok x.0) (Err (f.Trailing (start_of (length bytes) x.2)))) item e in
    let x = a.0 in
    let t = item_takes (length bytes) 4 100000 bytes x.0 x.1 x.2 h a.1 in
    let p = ended (eqb (length x.2) 0) (f.Trailing (start_of (length bytes) x.2)) x.0 item a.2 in
    let none : x.2 ≡ [] = nil_from_length x.2 (eqb-true (length x.2) 0 p.0) in
    let parts : bytes ≡ t.text = t.parts ∙ ap (λ (z : List ℕ). t.text ++ z) none ∙ append-nil t.text in
    (t.count, omega (arith, t.spent), subst (λ (z : List ℕ). Encodes 4 item t.count z) (sym parts) (subst (λ (i : Item). Encodes 4 i t.count t.text) p.1 t.spelled))

-- the count of the item itself
found_spelled : (bytes : List ℕ) (item : Item) → IsFound bytes item → Encodes 4 item (count_of item) bytes
found_spelled bytes item s = subst (λ (n : ℕ). Encodes 4 item n bytes) (sym (kept 4 item s.0 bytes s.2).counted) s.2

by_found : (bytes : List ℕ) (result : Result Item CborFault) (P : Item → Type 0) → ((item : Item) → IsFound bytes item → P item) → IsBytes bytes → Gives is_memory (λ x. x) result (reading bytes) → IfOk result P
by_found bytes (Ok item) P p h g = p item (found bytes item h g)
by_found bytes (Err e) P p h g = tt

-- the keys in an item that was read rise
pub keys_by : (bytes : List ℕ) (result : Result Item CborFault) → IsBytes bytes → Gives is_memory (λ x. x) result (reading bytes) → IfOk result (λ (item : Item). keys_rise item ≡ true)
keys_by bytes result = by_found bytes result (λ (item : Item). keys_rise item ≡ true) (λ item s. (kept 4 item s.0 bytes s.2).keys)

-- an item that was read nests at most four levels
pub nesting_by : (bytes : List ℕ) (result : Result Item CborFault) → IsBytes bytes → Gives is_memory (λ x. x) result (reading bytes) → IfOk result (λ (item : Item). item_nesting item ≤ 4)
nesting_by bytes result = by_found bytes result (λ (item : Item). item_nesting item ≤ 4) (λ item s. (kept 4 item s.0 bytes s.2).nesting)

-- an item that was read has at most 100,000 items in all
pub count_by : (bytes : List ℕ) (result : Result Item CborFault) → IsBytes bytes → Gives is_memory (λ x. x) result (reading bytes) → IfOk result (λ (item : Item). count_of item ≤ 100000)
count_by bytes result = by_found bytes result (λ (item : Item). count_of item ≤ 100000) (λ item s. subst (λ (n : ℕ). n ≤ 100000) (sym (kept 4 item s.0 bytes s.2).counted) s.1)

-- an item that was read is spelled by the input
pub found_by : (bytes : List ℕ) (result : Result Item CborFault) → IsBytes bytes → Gives is_memory (λ x. x) result (reading bytes) → IfOk result (λ (item : Item). Encodes 4 item (count_of item) bytes)
found_by bytes result = by_found bytes result (λ (item : Item). Encodes 4 item (count_of item) bytes) (found_spelled bytes)

-- what begins with the spelling of an item
front : (bytes text rest : List ℕ) (item : Item) (count : ℕ) → count ≤ 100000 → Encodes 4 item count text → bytes ≡ text ++ rest → reading bytes ≡ cond (eqb (length rest) 0) (Ok item) (Err (f.Trailing (start_of (length bytes) rest)))
unfolding reading
front bytes text rest item count le s e =
    let one : item_at (length bytes) 4 100000 bytes ≡ Ok (item, 100000 - count, rest) = ap (item_at (length bytes) 4 100000) e ∙ item_again (length bytes) 4 100000 item count text rest s le in
    rw one refl

-- an input that spells an item reads as that item
pub read_again : (bytes : List ℕ) (item : Item) (count : ℕ) → count ≤ 100000 → Encodes 4 item count bytes → reading bytes ≡ Ok item
read_again bytes item count le s = front bytes bytes [] item count le s (sym (append-nil bytes))

-- an input that spells an item and goes on is refused at the first byte behind it
pub read_trailing : (bytes : List ℕ) (item : Item) (count n : ℕ) → n < length bytes → count ≤ 100000 → Encodes 4 item count (take n bytes) → reading bytes ≡ Err (f.Trailing n)
read_trailing bytes item count n lt le s =
    let some : eqb (length (drop n bytes)) 0 ≡ false = ne_eqb _ _ (λ e. absurd (omega (arith, length-drop n bytes))) in
    let place : start_of (length bytes) (drop n bytes) ≡ n = omega (arith, length-drop n bytes) in
    front bytes (take n bytes) (drop n bytes) item count le s (sym (take-append-drop n bytes)) ∙ rw (some, place) refl

-- two spellings at the front of the same bytes
pub one_item : (levels m n : ℕ) (i j : Item) (a b x y : List ℕ) → Encodes levels i m a → Encodes levels j n b → a ++ x ≡ b ++ y → (a ≡ b) × (i ≡ j) × (m ≡ n) × (x ≡ y)
one_item levels m n i j a b x y s t e =
    let first = item_again 0 levels (m + n) i m a x s (omega arith) in
    let second = item_again 0 levels (m + n) j n b y t (omega arith) in
    let both = same_ok (i, (m + n) - m, x) (j, (m + n) - n, y) (sym first ∙ ap (item_at 0 levels (m + n)) e ∙ second) in
    let rest : x ≡ y = ap (λ (q : Item × ℕ × List ℕ). q.2) both in
    let left : (m + n) - m ≡ (m + n) - n = ap (λ (q : Item × ℕ × List ℕ). q.1) both in
    (append_cancel_right a b x (e ∙ ap (λ (z : List ℕ). b ++ z) (sym rest)), ap (λ (q : Item × ℕ × List ℕ). q.0) both, omega arith, rest)

-- ---- what is refused

-- an input that is refused reads as its fault
pub refused_read : (bytes : List ℕ) (e : CborFault) → IsRefused bytes e → reading bytes ≡ Err e
unfolding reading
refused_read bytes e (inl r) = rw (item_refused (length bytes) 4 (input_of bytes) e (omega arith) r) refl
refused_read bytes e (inr t) =
    let back = t.3 in
    let some : eqb (length back) 0 ≡ false = ne_eqb _ _ (λ z. absurd (omega (arith, t.7, z))) in
    let place : start_of (length bytes) back ≡ length t.2 = omega (arith, ap length t.6, length-append t.2 back) in
    front bytes t.2 back t.0 t.1 t.4 t.5 t.6 ∙ rw (some, place, t.8) refl

-- an input that reads as a fault is refused with it
pub read_refused : (bytes : List ℕ) (e : CborFault) → IsBytes bytes → reading bytes ≡ Err e → IsRefused bytes e
unfolding reading
read_refused bytes e h stops =
    let last : Item × ℕ × List ℕ → Result Item CborFault = λ x. cond (eqb (length x.2) 0) (Ok x.0) (Err (f.Trailing (start_of (length bytes) x.2))) in
    elim (stopped (item_at (length bytes) 4 100000 bytes) last e stops) [
      | inl p ↦ inl (item_stops (length bytes) 4 (input_of bytes) e (omega arith) h p)
      | inr p ↦
          let x = p.0 in
          let t = item_takes (length bytes) 4 100000 bytes x.0 x.1 x.2 h p.1 in
          let whole : Result Item CborFault = Ok x.0 in
          elim (took (eqb (length x.2) 0) whole (Err (f.Trailing (start_of (length bytes) x.2))) (Err e) p.2) [
            | inl q ↦ absurd (cc q.1)
            | inr q ↦
                let some = eqb-false (length x.2) 0 q.0 in
                let place : start_of (length bytes) x.2 ≡ length t.text = omega (arith, ap length t.parts, length-append t.text x.2) in
                inr (x.0, t.count, t.text, x.2, omega (arith, t.spent), t.spelled, t.parts, omega (arith, some), sym (same_err (f.Trailing (start_of (length bytes) x.2)) e q.1) ∙ ap (λ (n : ℕ). f.Trailing n) place)
          ]
    ]

-- an input reads as the outcome that the specification gives it
pub read_as : (bytes : List ℕ) (outcome : Result Item CborFault) → ReadsAs bytes outcome → reading bytes ≡ outcome
read_as bytes (Ok item) s = read_again bytes item s.0 s.1 s.2
read_as bytes (Err e) s = refused_read bytes e s

-- what an input reads as is its outcome in the specification
pub reads_as : (bytes : List ℕ) (outcome : Result Item CborFault) → IsBytes bytes → reading bytes ≡ outcome → ReadsAs bytes outcome
reads_as bytes (Ok item) h e = found bytes item h e
reads_as bytes (Err d) h e = read_refused bytes d h e

-- an input has one outcome
pub one_outcome : (bytes : List ℕ) (r s : Result Item CborFault) → ReadsAs bytes r → ReadsAs bytes s → r ≡ s
one_outcome bytes r s x y = sym (read_as bytes r x) ∙ read_as bytes s y

-- and it has one
pub some_outcome : (bytes : List ℕ) → IsBytes bytes → (r : Result Item CborFault) × ReadsAs bytes r
some_outcome bytes h = (reading bytes, reads_as bytes (reading bytes) h refl)

-- ---- what a call answers

not_memory : (e : CborFault) → e ≢ f.Memory → is_memory e ≡ false
not_memory f.Memory ne = absurd (ne refl)
not_memory (f.Truncated n) ne = refl
not_memory (f.NotShortest n) ne = refl
not_memory (f.Forbidden n) ne = refl
not_memory (f.RepeatedKey n) ne = refl
not_memory (f.Trailing n) ne = refl
not_memory f.TooMany ne = refl

-- a call that gives what reading does answers as reading, unless memory ran out
pub gives_reading : (result read : Result Item CborFault) → Gives is_memory (λ x. x) result read → result ≢ Err f.Memory → read ≡ result
gives_reading (Ok x) read g ne = g
gives_reading (Err e) read g ne = subst (λ (b : Bool). Unless b (read ≡ Err e)) (not_memory e (λ same. ne (λ i. Err (same i)))) g

-- what a call that did not run out of memory gives is the outcome of its input
pub reads_by : (bytes : List ℕ) (result : Result Item CborFault) → IsBytes bytes → Gives is_memory (λ x. x) result (reading bytes) → result ≢ Err f.Memory → ReadsAs bytes result
reads_by bytes result h g ne = reads_as bytes result h (gives_reading result (reading bytes) g ne)

-- a call gives the outcome of its input, unless it runs out of memory
pub exact_by : (bytes : List ℕ) (result outcome : Result Item CborFault) → ReadsAs bytes outcome → Gives is_memory (λ x. x) result (reading bytes) → UnlessMemory f.Memory outcome result
exact_by bytes result outcome s g ne = sym (gives_reading result (reading bytes) g ne) ∙ read_as bytes outcome s

-- ---- what follows an input

final_is : (e : CborFault) (n : ℕ) → IsFinal e → e ≡ f.Truncated n → ⊥
final_is e n final is = subst IsFinal is final

final_not : (e : CborFault) (n : ℕ) → IsFinal e → e ≡ f.Trailing n → ⊥
final_not e n final is = subst IsFinal is final

-- a final refusal stays whatever follows
pub final_stays : (bytes more : List ℕ) (e : CborFault) → IsFinal e → IsRefused bytes e → IsRefused (bytes ++ more) e
final_stays bytes more e final (inl r) = elim (item_stays 4 (input_of bytes) e r) [
  | inl t ↦ absurd (final_is e (0 + length bytes) final t)
  | inr t ↦ inl (t more)
]
final_stays bytes more e final (inr t) = absurd (final_not e (length t.2) final t.8)

-- a proper front of an item's bytes is cut at its end
pub front_refused : (item : Item) (count : ℕ) (front more : List ℕ) → IsBytes front → count ≤ 100000 → Encodes 4 item count (front ++ more) → 0 < length more → IsRefused front (f.Truncated (length front))
front_refused item count front more h le s some =
    let whole : (front ++ more) ++ [] ≡ front ++ more = append-nil (front ++ more) in
    by_outcome (reading front) refl
  where
    shorter : (other : Item) (n : ℕ) (text rest : List ℕ) → Encodes 4 other n text → front ≡ text ++ rest → ⊥
    shorter other n text rest t e =
        let all : text ++ (rest ++ more) ≡ (front ++ more) ++ [] = sym (append_assoc text rest more) ∙ ap (λ (z : List ℕ). z ++ more) (sym e) ∙ sym (append-nil (front ++ more)) in
        let one = one_item 4 n count other item text (front ++ more) (rest ++ more) [] t s all in
        omega (arith, ap length one.3, length-append rest more, some)

    by_outcome : (r : Result Item CborFault) → reading front ≡ r → IsRefused front (f.Truncated (length front))
    by_outcome (Ok other) e =
        let o = found front other h e in
        absurd (shorter other o.0 front [] o.2 (sym (append-nil front)))
    by_outcome (Err d) e = elim (read_refused front d h e) [
      | inl r ↦ elim (item_stays 4 (input_of front) d r) [
        | inl t ↦ let end : 0 + length front ≡ length front = omega arith in inl (subst (λ (c : CborFault). RefusesItem 4 (input_of front) c) (t ∙ ap (λ (n : ℕ). f.Truncated n) end) r)
        | inr t ↦ absurd (let both = sym (read_again (front ++ more) item count le s) ∙ refused_read (front ++ more) d (inl (t more)) in cc)
      ]
      | inr t ↦ absurd (shorter t.0 t.1 t.2 t.3 t.5 t.6)
    ]

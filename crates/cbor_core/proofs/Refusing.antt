-- An input is refused by the relation exactly where reading ends with this fault.
use Rattle.std.proofs.Common.{◌≡◌, ◌≢◌, ℕ, zero, suc, ◌+◌, ◌-◌, ◌/◌, ◌%◌, ◌^◌, ◌≤◌, ◌<◌, true, false, cond, eqb, ltb, List, [], ◌∷◌, ◌++◌, length, take, drop, Result, Ok, Err, refl, sym, ap, subst, ◌∙◌, append_assoc, arith, inl, inr}
use Rattle.std.specs.Prelude.{◌⊎◌, ◌&&◌, ◌||◌}
use Rattle.std.specs.Int.{Width, w8, w16, w32, w64, byte_len, from_be_bytes}
use Rattle.std.specs.Str.{IsUtf8, is_utf8}
use Rattle.std.proofs.lemmas.Str.{is_utf8-from_IsUtf8}
use Rattle.std.proofs.lemmas.Bool.{ltb-true, ltb-false, lt-ltb, le-ltb, eqb-true, eqb-false, ne_eqb, or_parts, or_cases, cases_Bool, and_parts, false≢true}
use Rattle.std.proofs.lemmas.List.{length-append}
use Rattle.base_types.proofs.Options.{took}
use Rattle.cbor_core.specs.declared.fault.CborFault.{CborFault}
use Rattle.cbor_core.specs.declared.fault.CborFault.TheVariants as f
use Rattle.cbor_core.specs.declared.item.Item.{Item}
use Rattle.cbor_core.specs.declared.item.Item.TheVariants as v
use Rattle.cbor_core.specs.Grammar.{IsBytes, head_of, EncodesEach}
use Rattle.cbor_core.specs.Refusals.{Rest, IsBehind, IsBehindHead, RefusesWidth, RefusesArgument, RefusesHead, is_item, RefusesString, RefusesText, RefusesEach}
use Rattle.cbor_core.specs.Internal.Reading.{Reader, start_of, byte_at, wide_at, argument_at, string_at, whole_at, blob_at, text_string_at, flat_at, items_at, list_at, map_at, item_at}
use Rattle.cbor_core.proofs.Outcomes.{same_err, stopped}
use Rattle.cbor_core.proofs.Arguments.{argument_takes, argument_again}
use Rattle.cbor_core.proofs.Again.{Again, string_again}
use Rattle.cbor_core.proofs.Found.{Takes, string_takes}
use Rattle.cbor_core.proofs.ReadingLoops.{text_refused, item_as_list, item_as_map, item_as_flat}

-- the rest ends where the input of so many bytes does
abbrev pub EndsAt : ℕ → Rest → Type 0
EndsAt total rest = total ≡ rest.at + length rest.bytes

-- ---- an argument

wide_refused : (total : ℕ) (w : Width) (least at : ℕ) (bytes : List ℕ) (e : CborFault) → total ≡ suc at + length bytes → RefusesWidth w least at bytes e → wide_at total at w least bytes ≡ Err e
wide_refused total w least at bytes e is (inl s) = rw (lt-ltb (length bytes) (byte_len w) s.0, s.1, is) refl
wide_refused total w least at bytes e is (inr s) = rw (le-ltb (length bytes) (byte_len w) s.0, lt-ltb (from_be_bytes w (take (byte_len w) bytes)) least s.1, s.2) refl

wide_stops : (total : ℕ) (w : Width) (least at : ℕ) (bytes : List ℕ) (e : CborFault) → total ≡ suc at + length bytes → wide_at total at w least bytes ≡ Err e → RefusesWidth w least at bytes e
wide_stops total w least at bytes e is h =
    let number = from_be_bytes w (take (byte_len w) bytes) in
    let rest : Result (ℕ × List ℕ) CborFault = Ok (number, drop (byte_len w) bytes) in
    elim (took (ltb (length bytes) (byte_len w)) (Err (f.Truncated total)) (cond (ltb number least) (Err (f.NotShortest at)) rest) (Err e) h) [
      | inl p ↦ inl (ltb-true (length bytes) (byte_len w) p.0, sym (same_err (f.Truncated total) e p.1) ∙ ap (λ (n : ℕ). f.Truncated n) is)
      | inr p ↦ elim (took (ltb number least) (Err (f.NotShortest at)) rest (Err e) p.1) [
        | inl q ↦ inr (ltb-false (length bytes) (byte_len w) p.0, ltb-true number least q.0, sym (same_err (f.NotShortest at) e q.1))
        | inr q ↦ absurd (cc q.1)
      ]
    ]

byte_refused : (total at : ℕ) (bytes : List ℕ) (e : CborFault) → total ≡ suc at + length bytes → RefusesWidth w8 24 at bytes e → byte_at total at bytes ≡ Err e
byte_refused total at [] e is (inl s) = rw (s.1, is) refl
byte_refused total at [] e is (inr s) = absurd (omega (arith, s.0))
byte_refused total at (b ∷ bytes) e is (inl s) = absurd (omega (arith, s.0))
byte_refused total at (b ∷ bytes) e is (inr s) = let lt : b < 24 = omega (arith, s.1) in rw (lt-ltb b 24 lt, s.2) refl

byte_stops : (total at : ℕ) (bytes : List ℕ) (e : CborFault) → total ≡ suc at + length bytes → byte_at total at bytes ≡ Err e → RefusesWidth w8 24 at bytes e
byte_stops total at [] e is h = inl (omega arith, sym (same_err (f.Truncated total) e h) ∙ ap (λ (n : ℕ). f.Truncated n) is)
byte_stops total at (b ∷ bytes) e is h =
    let rest : Result (ℕ × List ℕ) CborFault = Ok (b, bytes) in
    elim (took (ltb b 24) (Err (f.NotShortest at)) rest (Err e) h) [
      | inl p ↦ let lt : b < 24 = ltb-true b 24 p.0 in inr (omega arith, lt, sym (same_err (f.NotShortest at) e p.1))
      | inr p ↦ absurd (cc p.1)
    ]

-- the place where bytes begin, from the length of the whole input
pub start_is : (total at b : ℕ) (bytes : List ℕ) → total ≡ at + suc (length bytes) → start_of total (b ∷ bytes) ≡ at
start_is total at b bytes is = omega (arith, is)

-- the reader refuses an argument that is refused, with the same fault
pub argument_refused : (total at b : ℕ) (bytes : List ℕ) (e : CborFault) → total ≡ at + suc (length bytes) → RefusesArgument (b % 32) at bytes e → argument_at total (b ∷ bytes) ≡ Err e
unfolding argument_at
argument_refused total at b bytes e is (inl s) = rw (s.0, start_is total at b bytes is) (byte_refused total at bytes e (omega (arith, is)) s.1)
argument_refused total at b bytes e is (inr (inl s)) = rw (s.0, start_is total at b bytes is) (wide_refused total w16 (2 ^ 8) at bytes e (omega (arith, is)) s.1)
argument_refused total at b bytes e is (inr (inr (inl s))) = rw (s.0, start_is total at b bytes is) (wide_refused total w32 (2 ^ 16) at bytes e (omega (arith, is)) s.1)
argument_refused total at b bytes e is (inr (inr (inr s))) = rw (s.0, start_is total at b bytes is) (wide_refused total w64 (2 ^ 32) at bytes e (omega (arith, is)) s.1)

-- a first byte with a code of 28 or more is refused as forbidden
pub argument_indefinite : (total at b : ℕ) (bytes : List ℕ) → total ≡ at + suc (length bytes) → 28 ≤ b % 32 → argument_at total (b ∷ bytes) ≡ Err (f.Forbidden at)
unfolding argument_at
argument_indefinite total at b bytes is le =
    rw (le-ltb (b % 32) 24 (omega arith), ne_eqb (b % 32) 24 (λ e. absurd (omega arith)), ne_eqb (b % 32) 25 (λ e. absurd (omega arith)), ne_eqb (b % 32) 26 (λ e. absurd (omega arith)), ne_eqb (b % 32) 27 (λ e. absurd (omega arith)), start_is total at b bytes is) refl

-- what an argument that was not read shows
abbrev pub ArgumentStops : ℕ → ℕ → List ℕ → CborFault → Type 0
ArgumentStops at b bytes e = ((28 ≤ b % 32) × (e ≡ f.Forbidden at)) ⊎ ((b % 32 < 28) × RefusesArgument (b % 32) at bytes e)

-- where the reader of arguments stops, the code is forbidden or the argument is refused
pub argument_stops : (total at b : ℕ) (bytes : List ℕ) (e : CborFault) → total ≡ at + suc (length bytes) → argument_at total (b ∷ bytes) ≡ Err e → ArgumentStops at b bytes e
unfolding argument_at
argument_stops total at b bytes e is h =
    let start = start_is total at b bytes is in
    let next : total ≡ suc at + length bytes = omega (arith, is) in
    let h1 = rw start at h in
    let small : Result (ℕ × List ℕ) CborFault = Ok (b % 32, bytes) in
    let byte : Result (ℕ × List ℕ) CborFault = byte_at total at bytes in
    let two : Result (ℕ × List ℕ) CborFault = wide_at total at w16 (2 ^ 8) bytes in
    let four : Result (ℕ × List ℕ) CborFault = wide_at total at w32 (2 ^ 16) bytes in
    let eight : Result (ℕ × List ℕ) CborFault = wide_at total at w64 (2 ^ 32) bytes in
    let c27 : Result (ℕ × List ℕ) CborFault = cond (eqb (b % 32) 27) eight (Err (f.Forbidden at)) in
    let c26 : Result (ℕ × List ℕ) CborFault = cond (eqb (b % 32) 26) four c27 in
    let c25 : Result (ℕ × List ℕ) CborFault = cond (eqb (b % 32) 25) two c26 in
    let c24 : Result (ℕ × List ℕ) CborFault = cond (eqb (b % 32) 24) byte c25 in
    elim (took (ltb (b % 32) 24) small c24 (Err e) h1) [
      | inl p ↦ absurd (cc p.1)
      | inr p ↦ elim (took (eqb (b % 32) 24) byte c25 (Err e) p.1) [
        | inl q ↦ let code : b % 32 ≡ 24 = eqb-true (b % 32) 24 q.0 in inr (omega arith, inl (code, byte_stops total at bytes e next q.1))
        | inr q ↦ elim (took (eqb (b % 32) 25) two c26 (Err e) q.1) [
          | inl r ↦ let code : b % 32 ≡ 25 = eqb-true (b % 32) 25 r.0 in inr (omega arith, inr (inl (code, wide_stops total w16 (2 ^ 8) at bytes e next r.1)))
          | inr r ↦ elim (took (eqb (b % 32) 26) four c27 (Err e) r.1) [
            | inl s ↦ let code : b % 32 ≡ 26 = eqb-true (b % 32) 26 s.0 in inr (omega arith, inr (inr (inl (code, wide_stops total w32 (2 ^ 16) at bytes e next s.1))))
            | inr s ↦ elim (took (eqb (b % 32) 27) eight (Err (f.Forbidden at)) (Err e) s.1) [
              | inl u ↦ let code : b % 32 ≡ 27 = eqb-true (b % 32) 27 u.0 in inr (omega arith, inr (inr (inr (code, wide_stops total w64 (2 ^ 32) at bytes e next u.1))))
              | inr u ↦
                  let n0 = ltb-false (b % 32) 24 p.0 in
                  let n1 = eqb-false (b % 32) 24 q.0 in
                  let n2 = eqb-false (b % 32) 25 r.0 in
                  let n3 = eqb-false (b % 32) 26 s.0 in
                  let n4 = eqb-false (b % 32) 27 u.0 in
                  inl (omega arith, sym (same_err (f.Forbidden at) e u.1))
            ]
          ]
        ]
      ]
    ]

-- ---- a head

-- the kinds of items that may stand
abbrev pub Kinds : ℕ → ℕ → Type 0
Kinds levels m = (m ≡ 0) ⊎ ((m ≡ 2) ⊎ ((m ≡ 3) ⊎ (((0 < levels) × (m ≡ 4)) ⊎ ((0 < levels) × (m ≡ 5)))))

-- a major type that an item may have is one of these
pub kinds : (levels m : ℕ) → is_item levels m ≡ true → Kinds levels m
kinds levels m h = elim (or_cases (eqb m 0) (eqb m 2 || (eqb m 3 || (ltb 0 levels && (eqb m 4 || eqb m 5)))) h) [
  | inl a ↦ inl (eqb-true m 0 a)
  | inr a ↦ elim (or_cases (eqb m 2) (eqb m 3 || (ltb 0 levels && (eqb m 4 || eqb m 5))) a) [
    | inl b ↦ inr (inl (eqb-true m 2 b))
    | inr b ↦ elim (or_cases (eqb m 3) (ltb 0 levels && (eqb m 4 || eqb m 5)) b) [
      | inl c ↦ inr (inr (inl (eqb-true m 3 c)))
      | inr c ↦
          let p = and_parts (ltb 0 levels) (eqb m 4 || eqb m 5) c in
          elim (or_cases (eqb m 4) (eqb m 5) p.1) [
            | inl d ↦ inr (inr (inr (inl (ltb-true 0 levels p.0, eqb-true m 4 d))))
            | inr d ↦ inr (inr (inr (inr (ltb-true 0 levels p.0, eqb-true m 5 d))))
          ]
    ]
  ]
]

-- the kinds of items that may not stand
record NoKind (levels m : ℕ) : Type 0 where
  whole : m ≢ 0
  blob : m ≢ 2
  text : m ≢ 3
  list : 0 < levels → m ≢ 4
  map : 0 < levels → m ≢ 5

no_kind : (levels m : ℕ) → is_item levels m ≡ false → NoKind levels m
no_kind levels m h =
    let a = or_parts (eqb m 0) (eqb m 2 || (eqb m 3 || (ltb 0 levels && (eqb m 4 || eqb m 5)))) h in
    let b = or_parts (eqb m 2) (eqb m 3 || (ltb 0 levels && (eqb m 4 || eqb m 5))) a.1 in
    let c = or_parts (eqb m 3) (ltb 0 levels && (eqb m 4 || eqb m 5)) b.1 in
    record {
      whole = eqb-false m 0 a.0;
      blob = eqb-false m 2 b.0;
      text = eqb-false m 3 c.0;
      list = λ lt e. false≢true (sym c.1 ∙ rw (lt-ltb 0 levels lt, e) refl);
      map = λ lt e. false≢true (sym c.1 ∙ rw (lt-ltb 0 levels lt, e) refl);
    }

flat_none : (total major left : ℕ) (bytes : List ℕ) → major ≢ 0 → major ≢ 2 → major ≢ 3 → flat_at total major left bytes ≡ Err (f.Forbidden (start_of total bytes))
unfolding flat_at
flat_none total major left bytes n0 n2 n3 = rw (ne_eqb major 0 n0, ne_eqb major 2 n2, ne_eqb major 3 n3) refl

flat_is_whole : (total left : ℕ) (bytes : List ℕ) → flat_at total 0 left bytes ≡ whole_at total left bytes
unfolding flat_at
flat_is_whole total left bytes = refl

-- an item of major type 2 is read as a byte string
pub flat_is_blob : (total left : ℕ) (bytes : List ℕ) → flat_at total 2 left bytes ≡ blob_at total left bytes
unfolding flat_at
flat_is_blob total left bytes = refl

-- an item of major type 3 is read as a text
pub flat_is_text : (total left : ℕ) (bytes : List ℕ) → flat_at total 3 left bytes ≡ text_string_at total left bytes
unfolding flat_at
flat_is_text total left bytes = refl

-- each kind of item begins with its head
module _ (total left : ℕ) (bytes : List ℕ) (e : CborFault) (stops : argument_at total bytes ≡ Err e) where
  whole_at_head : whole_at total left bytes ≡ Err e
  unfolding whole_at
  whole_at_head = rw stops refl

  string_at_head : string_at total bytes ≡ Err e
  unfolding string_at
  string_at_head = rw stops refl

  blob_at_head : blob_at total left bytes ≡ Err e
  unfolding blob_at
  blob_at_head = rw string_at_head refl

  text_at_head : text_string_at total left bytes ≡ Err e
  unfolding text_string_at
  text_at_head = rw string_at_head refl

  list_at_head : (inner : Reader) → list_at total inner left bytes ≡ Err e
  unfolding list_at
  list_at_head inner = rw stops refl

  map_at_head : (inner : Reader) → map_at total inner left bytes ≡ Err e
  unfolding map_at
  map_at_head inner = rw stops refl

-- an item whose argument stops
module _ (total left : ℕ) (some : 0 < left) (b : ℕ) (bytes : List ℕ) (levels : ℕ) where
  pub as_whole : b / 32 ≡ 0 → item_at total levels left (b ∷ bytes) ≡ whole_at total (left - 1) (b ∷ bytes)
  as_whole m = item_as_flat total left some (b ∷ bytes) levels (omega arith) (λ _ e. absurd (omega arith)) (λ _ e. absurd (omega arith)) ∙ rw m (flat_is_whole total (left - 1) (b ∷ bytes))

  pub as_blob : b / 32 ≡ 2 → item_at total levels left (b ∷ bytes) ≡ blob_at total (left - 1) (b ∷ bytes)
  as_blob m = item_as_flat total left some (b ∷ bytes) levels (omega arith) (λ _ e. absurd (omega arith)) (λ _ e. absurd (omega arith)) ∙ rw m (flat_is_blob total (left - 1) (b ∷ bytes))

  pub as_text : b / 32 ≡ 3 → item_at total levels left (b ∷ bytes) ≡ text_string_at total (left - 1) (b ∷ bytes)
  as_text m = item_as_flat total left some (b ∷ bytes) levels (omega arith) (λ _ e. absurd (omega arith)) (λ _ e. absurd (omega arith)) ∙ rw m (flat_is_text total (left - 1) (b ∷ bytes))

  pub as_list : 0 < levels → b / 32 ≡ 4 → item_at total levels left (b ∷ bytes) ≡ list_at total (item_at total (levels - 1)) (left - 1) (b ∷ bytes)
  as_list pos m = item_as_list total left some (b ∷ bytes) levels (omega arith) pos m

  pub as_map : 0 < levels → b / 32 ≡ 5 → item_at total levels left (b ∷ bytes) ≡ map_at total (item_at total (levels - 1)) (left - 1) (b ∷ bytes)
  as_map pos m = item_as_map total left some (b ∷ bytes) levels (omega arith) pos m

  pub as_none : is_item levels (b / 32) ≡ false → item_at total levels left (b ∷ bytes) ≡ Err (f.Forbidden (start_of total (b ∷ bytes)))
  as_none h =
      let n = no_kind levels (b / 32) h in
      item_as_flat total left some (b ∷ bytes) levels (omega arith) n.list n.map ∙ flat_none total (b / 32) (left - 1) (b ∷ bytes) n.whole n.blob n.text

  at_head : (e : CborFault) → is_item levels (b / 32) ≡ true → argument_at total (b ∷ bytes) ≡ Err e → item_at total levels left (b ∷ bytes) ≡ Err e
  at_head e kind stops = elim (kinds levels (b / 32) kind) [
    | inl m ↦ as_whole m ∙ whole_at_head total (left - 1) (b ∷ bytes) e stops
    | inr (inl m) ↦ as_blob m ∙ blob_at_head total (left - 1) (b ∷ bytes) e stops
    | inr (inr (inl m)) ↦ as_text m ∙ text_at_head total (left - 1) (b ∷ bytes) e stops
    | inr (inr (inr (inl m))) ↦ as_list m.0 m.1 ∙ list_at_head total (left - 1) (b ∷ bytes) e stops (item_at total (levels - 1))
    | inr (inr (inr (inr m))) ↦ as_map m.0 m.1 ∙ map_at_head total (left - 1) (b ∷ bytes) e stops (item_at total (levels - 1))
  ]

-- at the end of the input an item is cut short
pub item_at_end : (total levels left : ℕ) → item_at total levels left [] ≡ Err (f.Truncated total)
unfolding item_at
item_at_end total zero left = refl
item_at_end total (suc n) left = refl

-- where no item more may begin, the next is one too many
pub item_at_full : (total levels b : ℕ) (bytes : List ℕ) → item_at total levels 0 (b ∷ bytes) ≡ Err f.TooMany
unfolding item_at
item_at_full total zero b bytes = refl
item_at_full total (suc n) b bytes = refl

-- what begins a refused argument
wide_code : (code at : ℕ) (bytes : List ℕ) (e : CborFault) → RefusesArgument code at bytes e → code < 28
wide_code code at bytes e (inl s) = omega (arith, s.0)
wide_code code at bytes e (inr (inl s)) = omega (arith, s.0)
wide_code code at bytes e (inr (inr (inl s))) = omega (arith, s.0)
wide_code code at bytes e (inr (inr (inr s))) = omega (arith, s.0)

-- a head of an item that is refused
pub item_head_refused : (total levels left at : ℕ) (bytes : List ℕ) (e : CborFault) → total ≡ at + length bytes → RefusesHead (is_item levels) left at bytes e → item_at total levels left bytes ≡ Err e
item_head_refused total levels left at [] e is s = item_at_end total levels left ∙ rw (s, is) (ap (λ (n : ℕ). Err (f.Truncated n)) (omega arith))
item_head_refused total levels left at (b ∷ bytes) e is (inl s) = rw (s.0, s.1) (item_at_full total levels b bytes)
item_head_refused total levels left at (b ∷ bytes) e is (inr (inl s)) =
    let here : total ≡ at + suc (length bytes) = is in
    elim (cases_Bool (is_item levels (b / 32))) [
      | inl yes_kind ↦
          let code : 28 ≤ b % 32 = ltb-false (b % 32) 28 (rw yes_kind at s.1) in
          rw s.2 (at_head total left s.0 b bytes levels (f.Forbidden at) yes_kind (argument_indefinite total at b bytes here code))
      | inr no_kind_is ↦ rw (s.2, ← start_is total at b bytes here) (as_none total left s.0 b bytes levels no_kind_is)
    ]
item_head_refused total levels left at (b ∷ bytes) e is (inr (inr s)) =
    let p = and_parts (is_item levels (b / 32)) (ltb (b % 32) 28) s.1 in
    at_head total left s.0 b bytes levels e p.0 (argument_refused total at b bytes e is s.2)

-- ---- what is left behind a front

abbrev pub rest_at : ℕ → ℕ → List ℕ → Rest
rest_at left at bytes = record { left = left; at = at; bytes = bytes }

-- behind an empty front without items nothing has changed
pub behind_none : (rest : Rest) → IsBehind rest 0 [] rest
behind_none rest = record { left = omega arith; at = omega arith; bytes = refl }

-- behind one front and then another is behind both together
pub behind_then : (rest mid back : Rest) (m n : ℕ) (front more : List ℕ) → IsBehind rest m front mid → IsBehind mid n more back → IsBehind rest (m + n) (front ++ more) back
behind_then rest mid back m n front more a b = record {
  left = omega (arith, a.left, b.left);
  at = omega (arith, a.at, b.at, length-append front more);
  bytes = a.bytes ∙ ap (λ (z : List ℕ). front ++ z) b.bytes ∙ sym (append_assoc front more back.bytes);
}

-- what is left behind a front ends where the whole input does
pub ends_behind : (total : ℕ) (rest back : Rest) (count : ℕ) (front : List ℕ) → EndsAt total rest → IsBehind rest count front back → EndsAt total back
ends_behind total rest back count front ends b =
    let long : length rest.bytes ≡ length front + length back.bytes = ap length b.bytes ∙ length-append front back.bytes in
    omega (arith, ends, b.at, long)

-- what follows a head that was read
pub record HeadRead (total major n : ℕ) (rest : Rest) (behind : List ℕ) : Type 0 where
  pub back : Rest
  pub left : rest.left ≡ suc back.left
  pub bytes : back.bytes ≡ behind
  pub is : IsBehindHead major n rest back
  pub ends : EndsAt total back
  pub fits : IsBytes behind

-- an argument that was read has its head before what is left
pub head_read : (total left at b n : ℕ) (bytes behind : List ℕ) → EndsAt total (rest_at left at (b ∷ bytes)) → 0 < left → IsBytes (b ∷ bytes) → argument_at total (b ∷ bytes) ≡ Ok (n, behind) → HeadRead total (b / 32) n (rest_at left at (b ∷ bytes)) behind
head_read total left at b n bytes behind ends some h e =
    let head = argument_takes total (b ∷ bytes) n behind h e in
    let back : Rest = rest_at (left - 1) (at + length (head_of (b / 32) n)) behind in
    let is : IsBehind (rest_at left at (b ∷ bytes)) 1 (head_of (b / 32) n) back = record { left = omega arith; at = refl; bytes = head.parts } in
    record { back = back; left = omega arith; bytes = refl; is = (head.below, is); ends = ends_behind total (rest_at left at (b ∷ bytes)) back 1 (head_of (b / 32) n) ends is; fits = head.fits }

-- a head that the relation goes by is read
pub head_again : (total major n : ℕ) (rest back : Rest) → IsBehindHead major n rest back → argument_at total rest.bytes ≡ Ok (n, back.bytes)
head_again total major n rest back s = ap (argument_at total) s.1.bytes ∙ argument_again total major n back.bytes s.0

-- ---- strings

-- the reader refuses a string that is cut short, with the same fault
pub string_refused : (total major : ℕ) (rest : Rest) (e : CborFault) → EndsAt total rest → RefusesString major rest e → string_at total rest.bytes ≡ Err e
unfolding string_at
string_refused total major rest e ends s =
    let n = s.0 in
    let back = s.1 in
    let end = ends_behind total rest back 1 (head_of major n) ends s.2.1 in
    rw (head_again total major n rest back s.2, lt-ltb (length back.bytes) n s.3, s.4) (ap (λ (k : ℕ). Err (f.Truncated k)) end)

-- where the reader of strings stops, it stops at the argument or the string is cut short
pub string_stops : (total left at b : ℕ) (bytes : List ℕ) (e : CborFault) → EndsAt total (rest_at left at (b ∷ bytes)) → 0 < left → IsBytes (b ∷ bytes) → string_at total (b ∷ bytes) ≡ Err e
    → (argument_at total (b ∷ bytes) ≡ Err e) ⊎ RefusesString (b / 32) (rest_at left at (b ∷ bytes)) e
unfolding string_at
string_stops total left at b bytes e ends some h stops =
    elim (stopped (argument_at total (b ∷ bytes)) (λ n. cond (ltb (length n.1) n.0) (Err (f.Truncated total)) (Ok (take n.0 n.1, drop n.0 n.1))) e stops) [
      | inl p ↦ inl p
      | inr p ↦
          let n = p.0 in
          let whole : Result (List ℕ × List ℕ) CborFault = Ok (take n.0 n.1, drop n.0 n.1) in
          let r = head_read total left at b n.0 bytes n.1 ends some h p.1 in
          elim (took (ltb (length n.1) n.0) (Err (f.Truncated total)) whole (Err e) p.2) [
            | inl q ↦
                let cut : length r.back.bytes < n.0 = subst (λ (z : List ℕ). length z < n.0) (sym r.bytes) (ltb-true (length n.1) n.0 q.0) in
                inr (n.0, r.back, r.is, cut, sym (same_err (f.Truncated total) e q.1) ∙ ap (λ (k : ℕ). f.Truncated k) r.ends)
            | inr q ↦ absurd (cc q.1)
          ]
    ]

-- where the string is refused, the byte string is refused with the same fault
pub blob_refused : (total left : ℕ) (bytes : List ℕ) (e : CborFault) → string_at total bytes ≡ Err e → blob_at total left bytes ≡ Err e
unfolding blob_at
blob_refused total left bytes e h = rw h refl

-- where the string is refused, the text is refused with the same fault
pub text_refused_cut : (total left : ℕ) (bytes : List ℕ) (e : CborFault) → string_at total bytes ≡ Err e → text_string_at total left bytes ≡ Err e
unfolding text_string_at
text_refused_cut total left bytes e h = rw h refl

-- where a byte string is refused, its string is refused with the same fault
pub blob_stops : (total left : ℕ) (bytes : List ℕ) (e : CborFault) → blob_at total left bytes ≡ Err e → string_at total bytes ≡ Err e
unfolding blob_at
blob_stops total left bytes e h = elim (stopped (string_at total bytes) (λ s. Ok (v.Blob s.0, left, s.1)) e h) [
  | inl p ↦ p
  | inr p ↦ absurd (cc p.2)
]

-- the reader refuses a text that is all there and not UTF-8
pub text_refused_whole : (total left : ℕ) (rest : Rest) (e : CborFault) → EndsAt total rest → RefusesText rest e → text_string_at total left rest.bytes ≡ Err e
unfolding text_string_at
text_refused_whole total left rest e ends s =
    let content = s.0 in
    let back = s.2 in
    let bytes : rest.bytes ≡ (head_of 3 (length content) ++ content) ++ back.bytes = s.4.bytes ∙ ap (λ (z : List ℕ). z ++ back.bytes) s.3.1 in
    let read : string_at total rest.bytes ≡ Ok (content, back.bytes) = ap (string_at total) bytes ∙ string_again total 3 content back.bytes s.3.0 in
    let start : start_of total rest.bytes ≡ rest.at = omega (arith, ends) in
    rw (read, text_refused content s.5, start, s.6) refl

-- where a text is refused, its string is refused, or it is all there and not UTF-8
pub text_stops : (total left at b : ℕ) (bytes : List ℕ) (e : CborFault) → EndsAt total (rest_at left at (b ∷ bytes)) → 0 < left → b / 32 ≡ 3 → IsBytes (b ∷ bytes) → text_string_at total (left - 1) (b ∷ bytes) ≡ Err e
    → (string_at total (b ∷ bytes) ≡ Err e) ⊎ RefusesText (rest_at left at (b ∷ bytes)) e
unfolding text_string_at
text_stops total left at b bytes e ends some m h stops =
    elim (stopped (string_at total (b ∷ bytes)) (λ s. cond (is_utf8 s.0) (Ok (v.Text s.0, left - 1, s.1)) (Err (f.Forbidden (start_of total (b ∷ bytes))))) e stops) [
      | inl p ↦ inl p
      | inr p ↦
          let s = p.0 in
          let whole : Result (Item × ℕ × List ℕ) CborFault = Ok (v.Text s.0, left - 1, s.1) in
          let t = string_takes total (b ∷ bytes) s.0 s.1 h p.1 in
          elim (took (is_utf8 s.0) whole (Err (f.Forbidden (start_of total (b ∷ bytes)))) (Err e) p.2) [
            | inl q ↦ absurd (cc q.1)
            | inr q ↦
                let front = head_of 3 (length s.0) ++ s.0 in
                let parts : b ∷ bytes ≡ front ++ s.1 = subst (λ (k : ℕ). b ∷ bytes ≡ (head_of k (length s.0) ++ s.0) ++ s.1) m t.parts in
                let back : Rest = rest_at (left - 1) (at + length front) s.1 in
                let is : IsBehind (rest_at left at (b ∷ bytes)) 1 front back = record { left = omega arith; at = refl; bytes = parts } in
                let start : start_of total (b ∷ bytes) ≡ at = start_is total at b bytes ends in
                let bad : IsUtf8 s.0 → ⊥ = λ u. false≢true (sym q.0 ∙ is_utf8-from_IsUtf8 s.0 u) in
                inr (s.0, front, back, (t.spelled.0, refl), is, bad, sym (same_err (f.Forbidden (start_of total (b ∷ bytes))) e q.1) ∙ ap (λ (k : ℕ). f.Forbidden k) start)
          ]
    ]

-- ---- items in a list

abbrev pub RefusedSo : ℕ → Reader → (Rest → CborFault → Type 0) → Type 0
RefusedSo total inner Refuses = (rest : Rest) (e : CborFault) → EndsAt total rest → Refuses rest e → inner rest.left rest.bytes ≡ Err e

abbrev pub StopsSo : ℕ → Reader → (Rest → CborFault → Type 0) → Type 0
StopsSo total inner Refuses = (rest : Rest) (e : CborFault) → EndsAt total rest → IsBytes rest.bytes → inner rest.left rest.bytes ≡ Err e → Refuses rest e

module _ (total : ℕ) (inner : Reader) (spells : Item → ℕ → List ℕ → Type 0) (Refuses : Rest → CborFault → Type 0) where
  pub each_refused : Again inner spells → RefusedSo total inner Refuses → (items : List Item) (n count : ℕ) (front : List ℕ) (rest back : Rest) (done : List Item) (e : CborFault)
      → EndsAt total rest → length items < n → EncodesEach spells items count front → IsBehind rest count front back → Refuses back e
      → items_at inner done n rest.left rest.bytes ≡ Err e
  unfolding items_at
  each_refused again so items zero count front rest back done e ends lt s b r = absurd (omega arith)
  each_refused again so [] (suc n) count front rest back done e ends lt s b r =
      let left : rest.left ≡ back.left = omega (arith, b.left, s.0) in
      let bytes : rest.bytes ≡ back.bytes = b.bytes ∙ ap (λ (z : List ℕ). z ++ back.bytes) s.1 in
      rw (left, bytes, so back e (ends_behind total rest back count front ends b) r) refl
  each_refused again so (item ∷ items) (suc n) count front rest back done e ends lt s b r =
      let m = s.0 in
      let first = s.2 in
      let more = s.3 in
      let cnt : count ≡ m + s.1 = s.6 in
      let bytes : rest.bytes ≡ first ++ (more ++ back.bytes) = b.bytes ∙ ap (λ (z : List ℕ). z ++ back.bytes) s.7 ∙ append_assoc first more back.bytes in
      let enough : m ≤ rest.left = omega (arith, b.left, cnt) in
      let mid : Rest = rest_at (rest.left - m) (rest.at + length first) (more ++ back.bytes) in
      let one : inner rest.left rest.bytes ≡ Ok (item, rest.left - m, more ++ back.bytes) = ap (inner rest.left) bytes ∙ again rest.left item m first (more ++ back.bytes) s.4 enough in
      let to_mid : IsBehind rest m first mid = record { left = omega arith; at = refl; bytes = bytes } in
      let long : length front ≡ length first + length more = ap length s.7 ∙ length-append first more in
      let on : IsBehind mid s.1 more back = record { left = omega (arith, b.left, cnt); at = omega (arith, b.at, long); bytes = refl } in
      rw one (each_refused again so items n s.1 more mid back (done ++ item ∷ []) e (ends_behind total rest mid m first ends to_mid) (omega arith) s.5 on r)

  pub each_stops : Takes inner spells → StopsSo total inner Refuses → (n : ℕ) (done : List Item) (rest : Rest) (e : CborFault) → EndsAt total rest → IsBytes rest.bytes
      → items_at inner done n rest.left rest.bytes ≡ Err e → RefusesEach Refuses spells n rest e
  unfolding items_at
  each_stops takes so zero done rest e ends h stops = absurd (cc stops)
  each_stops takes so (suc n) done rest e ends h stops = elim (stopped (inner rest.left rest.bytes) (λ x. items_at inner (done ++ x.0 ∷ []) n x.1 x.2) e stops) [
    | inl p ↦ ([], 0, [], rest, omega arith, (refl, refl), behind_none rest, so rest e ends h p)
    | inr p ↦
        let x = p.0 in
        let t = takes rest.left rest.bytes x.0 x.1 x.2 h p.1 in
        let mid : Rest = rest_at x.1 (rest.at + length t.text) x.2 in
        let to_mid : IsBehind rest t.count t.text mid = record { left = t.spent; at = refl; bytes = t.parts } in
        let r = each_stops takes so n (done ++ x.0 ∷ []) mid e (ends_behind total rest mid t.count t.text ends to_mid) t.fits p.2 in
        (x.0 ∷ r.0, t.count + r.1, t.text ++ r.2, r.3, omega (arith, r.4), (t.count, r.1, t.text, r.2, t.spelled, r.5, refl, refl), behind_then rest mid r.3 t.count r.1 t.text r.2 to_mid r.6, r.7)
  ]

-- A head that is read is the head of what was read, and the head of a number is read as this number.
use Rattle.std.proofs.Common.{◌≡◌, ℕ, suc, ◌+◌, ◌*◌, ◌/◌, ◌%◌, ◌^◌, ◌≤◌, ◌<◌, false, cond, eqb, ltb, List, [], ◌∷◌, ◌++◌, length, get_or, take, drop, Result, Ok, Err, refl, sym, ap, subst, arith, inl, inr}
use Rattle.std.specs.Int.{Width, w16, w32, w64, byte_len, from_be_bytes, to_be_bytes}
use Rattle.std.proofs.lemmas.Bool.{cases_lt, ltb-true, ltb-false, eqb-true, lt-ltb, le-ltb}
use Rattle.std.proofs.lemmas.List.{take_at, drop_at, take-append-drop, length-append, length-take, get_or-drop, get_or-take, get_or_past}
use Rattle.std.proofs.lemmas.Nat.{be_bytes_2, be_bytes_4, be_bytes_8, from_be_bytes-to_be_bytes_2, from_be_bytes-to_be_bytes_4, from_be_bytes-to_be_bytes_8}
use Rattle.base_types.proofs.Options.{took}
use Rattle.cbor_core.specs.declared.fault.CborFault.{CborFault}
use Rattle.cbor_core.specs.declared.fault.CborFault.TheVariants as f
use Rattle.cbor_core.specs.Grammar.{IsBytes, head_of}
use Rattle.cbor_core.specs.Internal.Reading.{start_of, byte_at, wide_at, argument_at}
use Rattle.cbor_core.proofs.Outcomes.{same_ok, passed}

-- behind the first of some bytes stand bytes
pub IsBytes-tail : (b : ℕ) (bytes : List ℕ) → IsBytes (b ∷ bytes) → IsBytes bytes
IsBytes-tail b bytes h i = h (suc i)

-- what is left when some bytes are dropped are bytes
pub IsBytes-drop : (n : ℕ) (bytes : List ℕ) → IsBytes bytes → IsBytes (drop n bytes)
IsBytes-drop n bytes h i = rw get_or-drop (h (n + i))

-- so many of the first bytes are bytes
pub IsBytes-take : (n : ℕ) (bytes : List ℕ) → IsBytes bytes → IsBytes (take n bytes)
IsBytes-take n bytes h i = elim (cases_lt i n) [
  | inl lt ↦ rw (get_or-take n bytes i 0 lt) (h i)
  | inr le ↦ rw (get_or_past (take n bytes) i 0 (omega (arith, length-take n bytes))) (omega arith)
]

-- ---- the five forms of a head

module _ (major n : ℕ) where
  head_small : n < 24 → head_of major n ≡ (major * 32 + n) ∷ []
  unfolding head_of
  head_small a = rw (lt-ltb n 24 a) refl

  head_byte : 24 ≤ n → n < 2 ^ 8 → head_of major n ≡ (major * 32 + 24) ∷ n ∷ []
  unfolding head_of
  head_byte a b = rw (le-ltb n 24 a, lt-ltb n (2 ^ 8) b) refl

  head_two : 2 ^ 8 ≤ n → n < 2 ^ 16 → head_of major n ≡ (major * 32 + 25) ∷ to_be_bytes w16 n
  unfolding head_of
  head_two a b = let a1 : 24 ≤ n = omega arith in rw (le-ltb n 24 a1, le-ltb n (2 ^ 8) a, lt-ltb n (2 ^ 16) b) refl

  head_four : 2 ^ 16 ≤ n → n < 2 ^ 32 → head_of major n ≡ (major * 32 + 26) ∷ to_be_bytes w32 n
  unfolding head_of
  head_four a b = let a1 : 24 ≤ n = omega arith in let a2 : 2 ^ 8 ≤ n = omega arith in rw (le-ltb n 24 a1, le-ltb n (2 ^ 8) a2, le-ltb n (2 ^ 16) a, lt-ltb n (2 ^ 32) b) refl

  head_eight : 2 ^ 32 ≤ n → head_of major n ≡ (major * 32 + 27) ∷ to_be_bytes w64 n
  unfolding head_of
  head_eight a = let a1 : 24 ≤ n = omega arith in let a2 : 2 ^ 8 ≤ n = omega arith in let a3 : 2 ^ 16 ≤ n = omega arith in rw (le-ltb n 24 a1, le-ltb n (2 ^ 8) a2, le-ltb n (2 ^ 16) a3, le-ltb n (2 ^ 32) a) refl

-- ---- numbers in several bytes

pub record Holds (w : Width) (limit : ℕ) : Type 0 where
  pub long : (n : ℕ) → length (to_be_bytes w n) ≡ byte_len w
  pub written : (bytes : List ℕ) → length bytes ≡ byte_len w → IsBytes bytes → to_be_bytes w (from_be_bytes w bytes) ≡ bytes
  pub read : (n : ℕ) → n < limit → from_be_bytes w (to_be_bytes w n) ≡ n
  pub small : (bytes : List ℕ) → IsBytes bytes → from_be_bytes w bytes < limit

holds16 : Holds w16 (2 ^ 16)
holds16 = record { long = λ n. refl; written = λ bytes len h. be_bytes_2 bytes _ len h refl; read = λ n lt. from_be_bytes-to_be_bytes_2 n lt; small = λ bytes h. omega (arith, h 0, h 1) }

holds32 : Holds w32 (2 ^ 32)
holds32 = record { long = λ n. refl; written = λ bytes len h. be_bytes_4 bytes _ len h refl; read = λ n lt. from_be_bytes-to_be_bytes_4 n lt; small = λ bytes h. omega (arith, h 0, h 1, h 2, h 3) }

holds64 : Holds w64 (2 ^ 64)
holds64 = record { long = λ n. refl; written = λ bytes len h. be_bytes_8 bytes _ len h refl; read = λ n lt. from_be_bytes-to_be_bytes_8 n lt; small = λ bytes h. omega (arith, h 0, h 1, h 2, h 3, h 4, h 5, h 6, h 7) }

-- what an argument in several bytes took
record Wide (w : Width) (limit least : ℕ) (bytes : List ℕ) (n : ℕ) (rest : List ℕ) : Type 0 where
  above : least ≤ n
  below : n < limit
  parts : bytes ≡ to_be_bytes w n ++ rest
  fits : IsBytes rest

wide_takes : (w : Width) (limit least total at : ℕ) (bytes : List ℕ) (n : ℕ) (rest : List ℕ) → Holds w limit → IsBytes bytes → wide_at total at w least bytes ≡ Ok (n, rest) → Wide w limit least bytes n rest
wide_takes w limit least total at bytes n rest holds h e =
    let number = from_be_bytes w (take (byte_len w) bytes) in
    let long = passed (ltb (length bytes) (byte_len w)) (f.Truncated total) (cond (ltb number least) (Err (f.NotShortest at)) (Ok (number, drop (byte_len w) bytes))) (n, rest) e in
    let large = passed (ltb number least) (f.NotShortest at) (Ok (number, drop (byte_len w) bytes)) (n, rest) long.1 in
    let len : byte_len w ≤ length bytes = ltb-false (length bytes) (byte_len w) long.0 in
    let same = same_ok (number, drop (byte_len w) bytes) (n, rest) large.1 in
    let front : to_be_bytes w number ≡ take (byte_len w) bytes = holds.written (take (byte_len w) bytes) (omega (arith, length-take (byte_len w) bytes)) (IsBytes-take (byte_len w) bytes h) in
    subst (λ (p : ℕ × List ℕ). Wide w limit least bytes p.0 p.1) same (record {
      above = ltb-false number least large.0;
      below = holds.small (take (byte_len w) bytes) (IsBytes-take (byte_len w) bytes h);
      parts = rw front (sym (take-append-drop (byte_len w) bytes));
      fits = IsBytes-drop (byte_len w) bytes h;
    })

wide_again : (w : Width) (limit least total at n : ℕ) (rest : List ℕ) → Holds w limit → least ≤ n → n < limit → wide_at total at w least (to_be_bytes w n ++ rest) ≡ Ok (n, rest)
wide_again w limit least total at n rest holds above below =
    let long : ltb (length (to_be_bytes w n ++ rest)) (byte_len w) ≡ false = le-ltb _ _ (omega (arith, holds.long n, length-append (to_be_bytes w n) rest)) in
    let large : ltb n least ≡ false = le-ltb n least above in
    rw (long, take_at (to_be_bytes w n) rest (byte_len w) (holds.long n), drop_at (to_be_bytes w n) rest (byte_len w) (holds.long n), holds.read n below, large) refl

-- ---- reading a head

-- what a head took from the front of the bytes
pub record Head (bytes : List ℕ) (n : ℕ) (rest : List ℕ) : Type 0 where
  pub below : n < 2 ^ 64
  pub parts : bytes ≡ head_of (get_or bytes 0 0 / 32) n ++ rest
  pub fits : IsBytes rest

byte_takes : (total at : ℕ) (bytes : List ℕ) (n : ℕ) (rest : List ℕ) → byte_at total at bytes ≡ Ok (n, rest) → (24 ≤ n) × (bytes ≡ n ∷ rest)
byte_takes total at [] n rest e = absurd cc
byte_takes total at (b ∷ bytes) n rest e =
    let p = passed (ltb b 24) (f.NotShortest at) (Ok (b, bytes)) (n, rest) e in
    let le : 24 ≤ b = ltb-false b 24 p.0 in
    subst (λ (q : ℕ × List ℕ). (24 ≤ q.0) × (b ∷ bytes ≡ q.0 ∷ q.1)) (same_ok (b, bytes) (n, rest) p.1) (le, refl)

first_is : (b code : ℕ) → b % 32 ≡ code → b / 32 * 32 + code ≡ b
first_is b code e = omega arith

-- what the reader of arguments gave was spelled at the front, in the shortest head
pub argument_takes : (total : ℕ) (bytes : List ℕ) (n : ℕ) (rest : List ℕ) → IsBytes bytes → argument_at total bytes ≡ Ok (n, rest) → Head bytes n rest
unfolding argument_at
argument_takes total [] n rest h e = absurd cc
argument_takes total (b ∷ bytes) n rest h e =
    let at = start_of total (b ∷ bytes) in
    let tail : IsBytes bytes = IsBytes-tail b bytes h in
    let byte : Result (ℕ × List ℕ) CborFault = byte_at total at bytes in
    let two : Result (ℕ × List ℕ) CborFault = wide_at total at w16 (2 ^ 8) bytes in
    let four : Result (ℕ × List ℕ) CborFault = wide_at total at w32 (2 ^ 16) bytes in
    let eight : Result (ℕ × List ℕ) CborFault = wide_at total at w64 (2 ^ 32) bytes in
    let c27 : Result (ℕ × List ℕ) CborFault = cond (eqb (b % 32) 27) eight (Err (f.Forbidden at)) in
    let c26 : Result (ℕ × List ℕ) CborFault = cond (eqb (b % 32) 26) four c27 in
    let c25 : Result (ℕ × List ℕ) CborFault = cond (eqb (b % 32) 25) two c26 in
    let c24 : Result (ℕ × List ℕ) CborFault = cond (eqb (b % 32) 24) byte c25 in
    elim (took (ltb (b % 32) 24) (Ok (b % 32, bytes)) c24 (Ok (n, rest)) e) [
      | inl p ↦
          let lt : b % 32 < 24 = ltb-true (b % 32) 24 p.0 in
          let same = same_ok (b % 32, bytes) (n, rest) p.1 in
          subst (λ (q : ℕ × List ℕ). Head (b ∷ bytes) q.0 q.1) same (record { below = omega arith; parts = rw (head_small (b / 32) (b % 32) lt, first_is b (b % 32) refl) refl; fits = tail })
      | inr p ↦ elim (took (eqb (b % 32) 24) byte c25 (Ok (n, rest)) p.1) [
        | inl q ↦
            let code : b % 32 ≡ 24 = eqb-true (b % 32) 24 q.0 in
            let t = byte_takes total at bytes n rest q.1 in
            let lt : n < 2 ^ 8 = subst (λ (bs : List ℕ). get_or bs 0 0 < 256) t.1 (tail 0) in
            let rest_fits : IsBytes rest = IsBytes-tail n rest (subst IsBytes t.1 tail) in
            record { below = omega arith; parts = rw (head_byte (b / 32) n t.0 lt, first_is b 24 code, t.1) refl; fits = rest_fits }
        | inr q ↦ elim (took (eqb (b % 32) 25) two c26 (Ok (n, rest)) q.1) [
          | inl r ↦
              let code : b % 32 ≡ 25 = eqb-true (b % 32) 25 r.0 in
              let t = wide_takes w16 (2 ^ 16) (2 ^ 8) total at bytes n rest holds16 tail r.1 in
              record { below = omega (arith, t.below); parts = rw (head_two (b / 32) n t.above t.below, first_is b 25 code) (ap (λ (bs : List ℕ). b ∷ bs) t.parts); fits = t.fits }
          | inr r ↦ elim (took (eqb (b % 32) 26) four c27 (Ok (n, rest)) r.1) [
            | inl s ↦
                let code : b % 32 ≡ 26 = eqb-true (b % 32) 26 s.0 in
                let t = wide_takes w32 (2 ^ 32) (2 ^ 16) total at bytes n rest holds32 tail s.1 in
                record { below = omega (arith, t.below); parts = rw (head_four (b / 32) n t.above t.below, first_is b 26 code) (ap (λ (bs : List ℕ). b ∷ bs) t.parts); fits = t.fits }
            | inr s ↦ elim (took (eqb (b % 32) 27) eight (Err (f.Forbidden at)) (Ok (n, rest)) s.1) [
              | inl u ↦
                  let code : b % 32 ≡ 27 = eqb-true (b % 32) 27 u.0 in
                  let t = wide_takes w64 (2 ^ 64) (2 ^ 32) total at bytes n rest holds64 tail u.1 in
                  record { below = t.below; parts = rw (head_eight (b / 32) n t.above, first_is b 27 code) (ap (λ (bs : List ℕ). b ∷ bs) t.parts); fits = t.fits }
              | inr u ↦ absurd (cc u.1)
            ]
          ]
        ]
      ]
    ]

-- ---- the head of a number is read

code_of : (major code : ℕ) → code < 32 → (major * 32 + code) % 32 ≡ code
code_of major code lt = omega arith

-- the argument of a shortest head reads as the number it was made of
pub argument_again : (total major n : ℕ) (rest : List ℕ) → n < 2 ^ 64 → argument_at total (head_of major n ++ rest) ≡ Ok (n, rest)
unfolding argument_at
argument_again total major n rest lt = elim (cases_lt n 24) [
  | inl a ↦ rw (head_small major n a, code_of major n (omega arith), lt-ltb n 24 a) refl
  | inr a ↦ elim (cases_lt n (2 ^ 8)) [
    | inl b ↦ rw (head_byte major n a b, code_of major 24 (omega arith), le-ltb n 24 a) refl
    | inr b ↦ elim (cases_lt n (2 ^ 16)) [
      | inl c ↦ rw (head_two major n b c, code_of major 25 (omega arith)) (wide_again w16 (2 ^ 16) (2 ^ 8) total _ n rest holds16 b c)
      | inr c ↦ elim (cases_lt n (2 ^ 32)) [
        | inl d ↦ rw (head_four major n c d, code_of major 26 (omega arith)) (wide_again w32 (2 ^ 32) (2 ^ 16) total _ n rest holds32 c d)
        | inr d ↦ rw (head_eight major n d, code_of major 27 (omega arith)) (wide_again w64 (2 ^ 64) (2 ^ 32) total _ n rest holds64 d lt)
      ]
    ]
  ]
]

div_of : (major code : ℕ) → code < 32 → (major * 32 + code) / 32 ≡ major
div_of major code lt = omega arith

-- a head is not empty, and its first byte has the major type
pub head_first : (major n : ℕ) (rest : List ℕ) → (0 < length (head_of major n ++ rest)) × (get_or (head_of major n ++ rest) 0 0 / 32 ≡ major)
head_first major n rest = elim (cases_lt n 24) [
  | inl a ↦ rw (head_small major n a) (omega arith, div_of major n (omega arith))
  | inr a ↦ elim (cases_lt n (2 ^ 8)) [
    | inl b ↦ rw (head_byte major n a b) (omega arith, div_of major 24 (omega arith))
    | inr b ↦ elim (cases_lt n (2 ^ 16)) [
      | inl c ↦ rw (head_two major n b c) (omega arith, div_of major 25 (omega arith))
      | inr c ↦ elim (cases_lt n (2 ^ 32)) [
        | inl d ↦ rw (head_four major n c d) (omega arith, div_of major 26 (omega arith))
        | inr d ↦ rw (head_eight major n d) (omega arith, div_of major 27 (omega arith))
      ]
    ]
  ]
]

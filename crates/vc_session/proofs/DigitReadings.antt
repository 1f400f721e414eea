-- Hexadecimal digits as they are read.
use Rattle.std.proofs.Common.{◌≡◌, ◌↔◌, ℕ, ◌*◌, Bool, false, IsTrue, Result, Ok, Err, List, length, sym, ap, ◌∙◌, arith}
use Rattle.hex.specs.declared.error.FromHexError.{FromHexError}
use Rattle.hex.specs.Hex.{decode_sized, encode_lower, lower_digits}
use Rattle.hex.proofs.HexLemmas.{length-encode_with, decode_of-ok, decode_sized-encode_lower, decode_sized-ok, decode_sized-twice}
use Rattle.vc_session.specs.HexDigits.{AreDigits}

-- the digits of bytes are decoded to them
pub digits_read : (count : ℕ) (digits bytes : List ℕ) → AreDigits count digits bytes → decode_sized digits count ≡ Ok bytes
digits_read count digits bytes d = ap (λ (s : List ℕ). decode_sized s count) d.are ∙ decode_sized-encode_lower bytes count d.long d.each_a_byte

-- what is not decoded is the digits of no bytes
pub no_digits : (count : ℕ) (digits : List ℕ) (r : Result (List ℕ) FromHexError) (e : FromHexError) → r ≡ decode_sized digits count → r ≡ Err e → (bytes : List ℕ) → AreDigits count digits bytes → ⊥
no_digits count digits r e is h = λ bytes d. let read = digits_read count digits bytes d in absurd (cc)

-- digits that are not in lower case are the digits of no bytes
pub other_digits : (count : ℕ) (digits bytes : List ℕ) (r : Result (List ℕ) FromHexError) (b : Bool) → r ≡ decode_sized digits count → r ≡ Ok bytes → IsTrue b ↔ (digits ≡ encode_lower bytes) → b ≡ false → (others : List ℕ) → AreDigits count digits others → ⊥
other_digits count digits bytes r b is h written unlike = λ others d.
    let read = digits_read count digits others d in
    let same : others ≡ bytes = cc in
    let holds : IsTrue b = written.1 (d.are ∙ ap encode_lower same) in
    absurd (cc)

-- what is decoded and written again alike is the digits of the bytes
pub are_digits : (count : ℕ) (digits bytes : List ℕ) → decode_sized digits count ≡ Ok bytes → digits ≡ encode_lower bytes → AreDigits count digits bytes
are_digits count digits bytes h e =
    let long = decode_sized-ok digits count bytes h in
    let read = decode_of-ok digits bytes (sym (decode_sized-twice digits count long) ∙ h) in
    record { are = e; long = omega (arith, long, read.2); each_a_byte = read.3 }

-- they are the digits of no other bytes
pub digits_once : (count : ℕ) (digits bytes others : List ℕ) → AreDigits count digits bytes → AreDigits count digits others → bytes ≡ others
digits_once count digits bytes others d e =
    let read = digits_read count digits bytes d in
    let again = digits_read count digits others e in
    cc

-- there are two digits for each byte
pub length-digits : (count : ℕ) (digits bytes : List ℕ) → AreDigits count digits bytes → length digits ≡ 2 * count
length-digits count digits bytes d =
    omega (arith, ap (λ (s : List ℕ). length s) d.are, length-encode_with lower_digits bytes, d.long)

pub ruleset readings = (no_digits, other_digits, are_digits)

-- What contracts see of the arrays that hold a digest or its digits, and back.
use Rattle.std.specs.Prelude.{◌≡◌, ◌==◌, ℕ, List, length, if◌then◌else◌}
use Rattle.std.proofs.Common.{ap}
use Rattle.digest_mac.specs.declared.values.Bytes.{Bytes}
use Rattle.digest_mac.specs.declared.values.Bytes.TheVariants.{Of32, Of48}
use Rattle.digest_mac.specs.declared.values.Digits.{Digits}
use Rattle.digest_mac.specs.declared.values.Digits.TheVariants.{Of64, Of96}

-- the bytes of a digest
abbrev pub bytes_of : Bytes → List ℕ
bytes_of (Of32 bytes) = bytes
bytes_of (Of48 bytes) = bytes

-- how many bytes the array has
abbrev pub count_of_bytes : Bytes → ℕ
count_of_bytes (Of32 bytes) = 32
count_of_bytes (Of48 bytes) = 48

-- the array of a digest, which its length tells
abbrev pub bytes_from : List ℕ → Bytes
bytes_from bytes = if length bytes == 32 then Of32 bytes else Of48 bytes

-- the bytes of a digest give its array back
pub bytes_from-bytes_of : (bytes : Bytes) → length (bytes_of bytes) ≡ count_of_bytes bytes
    → bytes_from (bytes_of bytes) ≡ bytes
bytes_from-bytes_of (Of32 bytes) sized = ap (λ n. if n == 32 then Of32 bytes else Of48 bytes) sized
bytes_from-bytes_of (Of48 bytes) sized = ap (λ n. if n == 32 then Of32 bytes else Of48 bytes) sized

-- the codes of the digits
abbrev pub digits_of : Digits → List ℕ
digits_of (Of64 digits) = digits
digits_of (Of96 digits) = digits

-- how many digits the array has
abbrev pub count_of_digits : Digits → ℕ
count_of_digits (Of64 digits) = 64
count_of_digits (Of96 digits) = 96

-- the array of digits, which their number tells
abbrev pub digits_from : List ℕ → Digits
digits_from digits = if length digits == 64 then Of64 digits else Of96 digits

-- the codes of the digits give their array back
pub digits_from-digits_of : (digits : Digits) → length (digits_of digits) ≡ count_of_digits digits
    → digits_from (digits_of digits) ≡ digits
digits_from-digits_of (Of64 digits) sized =
    ap (λ n. if n == 64 then Of64 digits else Of96 digits) sized
digits_from-digits_of (Of96 digits) sized =
    ap (λ n. if n == 64 then Of64 digits else Of96 digits) sized

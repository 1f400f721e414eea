-- Bytes as hexadecimal digits.
use Rattle.std.specs.Prelude.{◌≡◌, ℕ, List, length}
use Rattle.hex.specs.Hex.{IsBytes, encode_lower}

-- these are the digits of so many bytes, in lower case. RFC 4648, 8
pub record AreDigits (count : ℕ) (digits bytes : List ℕ) : Type 0 where
  pub are : digits ≡ encode_lower bytes
  pub long : length bytes ≡ count
  pub each_a_byte : IsBytes bytes

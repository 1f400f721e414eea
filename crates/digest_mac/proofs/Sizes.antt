-- How long digests are, and that their digits are ASCII.
use Rattle.std.proofs.Common.{◌≡◌, ◌*◌, ◌≤◌, ℕ, Bool, true, ◌&&◌, ltb, List, [], ◌∷◌, length, refl, ap, ◌∙◌, arith, ltb-true}
use Rattle.std.proofs.lemmas.Bool.{and_parts}
use Rattle.std.specs.Str.{IsAscii}
use Rattle.std.proofs.lemmas.Str.Ascii.{IsAscii-cons, IsAscii-nil}
use Rattle.sha2.proofs.Facts256.{length-sha256}
use Rattle.sha2.proofs.Facts512.{length-sha384}
use Rattle.hex.specs.Hex.{encode_lower, lower_digits}
use Rattle.hex.proofs.HexLemmas.{length-encode_with, IsAscii-encode_with}
use Rattle.digest_mac.specs.Digests.{block_size, digest, digest_size, digits}
use Rattle.digest_mac.specs.declared.hash.Hash.{Hash}
use Rattle.digest_mac.specs.declared.hash.Hash.TheVariants.{Sha256, Sha384}

-- a digest has as many bytes as its hash says
pub length-digest : (hash : Hash) (bytes : List ℕ) → length (digest hash bytes) ≡ digest_size hash
unfolding digest
length-digest Sha256 bytes = length-sha256 bytes
length-digest Sha384 bytes = length-sha384 bytes

-- and twice as many digits
pub length-digits : (hash : Hash) (bytes : List ℕ) → length (digits hash bytes) ≡ 2 * digest_size hash
unfolding digits
length-digits hash bytes =
    length-encode_with lower_digits (digest hash bytes) ∙ ap (λ (n : ℕ). 2 * n) (length-digest hash bytes)

-- a digest is no longer than a block
pub digest_size-le : (hash : Hash) → digest_size hash ≤ block_size hash
digest_size-le Sha256 = omega arith
digest_size-le Sha384 = omega arith

-- no block is longer than that of SHA-384
pub block_size-le : (hash : Hash) → block_size hash ≤ 128
block_size-le Sha256 = omega arith
block_size-le Sha384 = omega arith

-- whether each code is of an ASCII character
abbrev all_ascii : List ℕ → Bool
all_ascii [] = true
all_ascii (x ∷ xs) = ltb x 128 && all_ascii xs

-- then the text is ASCII
IsAscii-all_ascii : (xs : List ℕ) → all_ascii xs ≡ true → IsAscii xs
IsAscii-all_ascii [] h = IsAscii-nil
IsAscii-all_ascii (x ∷ xs) h =
    let parts = and_parts (ltb x 128) (all_ascii xs) h in
    IsAscii-cons x xs (ltb-true x 128 parts.0) (IsAscii-all_ascii xs parts.1)

-- the digits of bytes are ASCII
pub IsAscii-encode_lower : (bytes : List ℕ) → IsAscii (encode_lower bytes)
IsAscii-encode_lower bytes = IsAscii-encode_with lower_digits bytes (IsAscii-all_ascii lower_digits refl)

-- so is what is equal to them
pub ascii_digits : (digits bytes : List ℕ) → digits ≡ encode_lower bytes → IsAscii digits
ascii_digits digits bytes is = rw is (IsAscii-encode_lower bytes)

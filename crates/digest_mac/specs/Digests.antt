-- Digests of bytes by either hash, their hexadecimal digits, and the keyed digest made of them.
use Rattle.std.specs.Prelude.{ℕ, ◌-◌, ◌++◌, List, length, leb, map, replicate, bit_xor, if◌then◌else◌}
use Rattle.sha2.specs.Sha256.{sha256}
use Rattle.sha2.specs.Sha512.{sha384}
use Rattle.hex.specs.Hex.{encode_lower}
use Rattle.digest_mac.specs.declared.hash.Hash.{Hash}
use Rattle.digest_mac.specs.declared.hash.Hash.TheVariants.{Sha256, Sha384}

-- the SHA-256 digest of bytes in lower-case hexadecimal digits. FIPS 180-4, 6.2
unfoldable pub sha256_digits : List ℕ → List ℕ
sha256_digits bytes = encode_lower (sha256 bytes)

-- the length of a digest, in bytes. FIPS 180-4, figure 1
abbrev pub digest_size : Hash → ℕ
digest_size Sha256 = 32
digest_size Sha384 = 48

-- the length of the blocks that a hash works on, in bytes. FIPS 180-4, figure 1
abbrev pub block_size : Hash → ℕ
block_size Sha256 = 64
block_size Sha384 = 128

-- the digest of bytes. FIPS 180-4, 6.2 and 6.5
unfoldable pub digest : Hash → List ℕ → List ℕ
digest Sha256 bytes = sha256 bytes
digest Sha384 bytes = sha384 bytes

-- the digest in lower-case hexadecimal digits
unfoldable pub digits : Hash → List ℕ → List ℕ
digits hash bytes = encode_lower (digest hash bytes)

-- the key as long as it may be: itself, or its digest where it is longer than a block. RFC 2104, 2
unfoldable pub short_key : Hash → List ℕ → List ℕ
short_key hash key = if leb (length key) (block_size hash) then key else digest hash key

-- the key with zeros after it, a block long, and each byte combined with the same byte by exclusive
-- or. RFC 2104, 2, steps 1, 2 and 5
unfoldable pub padded_key : Hash → List ℕ → ℕ → List ℕ
padded_key hash key byte =
    map (bit_xor byte)
    (short_key hash key ++ replicate (block_size hash - length (short_key hash key)) 0)

-- the keyed digest of a text. RFC 2104, 2: H(K XOR opad, H(K XOR ipad, text))
unfoldable pub keyed_digest : Hash → List ℕ → List ℕ → List ℕ
keyed_digest hash key text =
    digest hash (padded_key hash key 0x5C ++ digest hash (padded_key hash key 0x36 ++ text))

-- The labels of bytes: how long they are, and that different bytes have different ones.
use Rattle.std.proofs.Common.{◌≡◌, ◌+◌, ◌*◌, ◌/◌, ◌%◌, ◌^◌, ◌<◌, ℕ, zero, suc, List, [], ◌∷◌, ◌++◌, length, take, drop, refl, sym, ap, subst, ◌∙◌, arith}
use Rattle.std.specs.Prelude.{slice_index}
use Rattle.std.specs.Int.{byte_at, bytes_high_first, to_be_bytes, w32, w64}
use Rattle.std.proofs.lemmas.List.{append-nil, take-append-drop}
use Rattle.std.specs.declared.result.Result.{Result}
use Rattle.std.specs.declared.result.Result.TheVariants.{Ok}
use Rattle.base64.specs.Engines.{url_safe_no_pad}
use Rattle.base64.specs.GeneralPurpose.{IsBytes, encode_of, decode_of}
use Rattle.base64.specs.Rfc4648.{encode_symbols}
use Rattle.base64.proofs.EngineFacts.{decode_of-encode_of, front_bytes}
use Rattle.base64.specs.declared.decode.DecodeError.{DecodeError}
use Rattle.base64.proofs.RoundTrip.{length-encode_symbols}
use Rattle.sha2.specs.Sha256.{sha256, digest_bytes as words_of_32}
use Rattle.sha2.specs.Sha512.{sha384, final_hash, initial_hash_384, digest_bytes as words_of_64}
use Rattle.digest_mac.specs.Digests.{digest, digest_size, keyed_digest}
use Rattle.digest_mac.specs.Labels.{multibase_text}
use Rattle.digest_mac.specs.declared.hash.Hash.{Hash}
use Rattle.digest_mac.specs.declared.hash.Hash.TheVariants.{Sha256, Sha384}
use Rattle.digest_mac.proofs.Sizes.{length-digest}

-- ---- how long a label is

-- a label is one longer than the base64url of its bytes
pub length-multibase_text : (bytes : List ℕ) → length (multibase_text bytes) ≡ 1 + (4 * length bytes + 2) / 3
length-multibase_text bytes =
    omega (
      arith,
      ap (λ (symbols : List ℕ). length symbols) (append-nil (encode_symbols url_safe_no_pad.encode_table bytes)),
      length-encode_symbols url_safe_no_pad.encode_table bytes,
    )

-- a keyed digest has as many bytes as its hash says
pub length-keyed_digest : (hash : Hash) (key text : List ℕ) → length (keyed_digest hash key text) ≡ digest_size hash
unfolding keyed_digest
length-keyed_digest hash key text = length-digest hash _

-- so its label is one longer than that many bytes in base64url
pub length-keyed_label : (hash : Hash) (key text : List ℕ)
    → length (multibase_text (keyed_digest hash key text)) ≡ 1 + (4 * digest_size hash + 2) / 3
length-keyed_label hash key text =
    length-multibase_text (keyed_digest hash key text)
    ∙ ap (λ (n : ℕ). 1 + (4 * n + 2) / 3) (length-keyed_digest hash key text)

-- ---- a digest is bytes

-- bytes after bytes
bytes_joined : (one other : List ℕ) → IsBytes one → IsBytes other → IsBytes (one ++ other)
bytes_joined [] other a b i = b i
bytes_joined (x ∷ one) other a b zero = a 0
bytes_joined (x ∷ one) other a b (suc i) = bytes_joined one other (λ (k : ℕ). a (suc k)) b i

-- what is left of a division by 256
mod_below : (number : ℕ) → number % 256 < 256
mod_below number = omega arith

-- a byte of a number
byte_below : (place number : ℕ) → byte_at place number < 256
byte_below zero number = omega arith
byte_below (suc place) number = mod_below (number / 256 ^ suc place)

-- the bytes of a number
number_bytes : (count number : ℕ) → IsBytes (bytes_high_first count number)
number_bytes zero number i = omega arith
number_bytes (suc count) number zero = byte_below count number
number_bytes (suc count) number (suc i) = number_bytes count number i

-- the bytes of words of 32 bits
bytes_of_32 : (words : List ℕ) (count : ℕ) → IsBytes (words_of_32 words count)
unfolding words_of_32
bytes_of_32 words zero = λ i. omega arith
bytes_of_32 words (suc count) =
    bytes_joined (words_of_32 words count) (to_be_bytes w32 (slice_index words count)) (bytes_of_32 words count)
    (number_bytes 4 (slice_index words count))

-- the bytes of words of 64 bits
bytes_of_64 : (words : List ℕ) (count : ℕ) → IsBytes (words_of_64 words count)
unfolding words_of_64
bytes_of_64 words zero = λ i. omega arith
bytes_of_64 words (suc count) =
    bytes_joined (words_of_64 words count) (to_be_bytes w64 (slice_index words count)) (bytes_of_64 words count)
    (number_bytes 8 (slice_index words count))

-- a digest is bytes
pub bytes-digest : (hash : Hash) (text : List ℕ) → IsBytes (digest hash text)
unfolding digest sha256 sha384
bytes-digest Sha256 text = bytes_of_32 _ 8
bytes-digest Sha384 text =
    let words : List ℕ = final_hash initial_hash_384 text in
    let bytes : List ℕ = words_of_64 words 8 in
    front_bytes (take 48 bytes) (drop 48 bytes) (subst IsBytes (sym (take-append-drop 48 bytes)) (bytes_of_64 words 8))

-- so is a keyed digest
pub bytes-keyed_digest : (hash : Hash) (key text : List ℕ) → IsBytes (keyed_digest hash key text)
unfolding keyed_digest
bytes-keyed_digest hash key text = bytes-digest hash _

-- ---- different bytes have different labels

-- the base64url of bytes, read again
read_again : (bytes : List ℕ) → IsBytes bytes → decode_of url_safe_no_pad (encode_of url_safe_no_pad bytes) ≡ Ok bytes
read_again bytes are = decode_of-encode_of url_safe_no_pad bytes refl are

-- what follows the first letter
abbrev behind_first : List ℕ → List ℕ
behind_first [] = []
behind_first (c ∷ text) = text

-- equal answers hold equal bytes
same_bytes : (one other : List ℕ) (answer : Result (List ℕ) DecodeError) → answer ≡ Ok one → answer ≡ Ok other → one ≡ other
same_bytes one other answer a b = cc (a, b)

-- equal labels are of equal bytes
pub multibase_text-injective : (one other : List ℕ) → IsBytes one → IsBytes other
    → multibase_text one ≡ multibase_text other → one ≡ other
multibase_text-injective one other a b same =
    let inner : encode_of url_safe_no_pad one ≡ encode_of url_safe_no_pad other = ap behind_first same in
    same_bytes one other (decode_of url_safe_no_pad (encode_of url_safe_no_pad one)) (read_again one a)
    (ap (λ (symbols : List ℕ). decode_of url_safe_no_pad symbols) inner ∙ read_again other b)

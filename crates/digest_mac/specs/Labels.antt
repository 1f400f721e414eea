-- The labels of blank nodes that digests make: of a digest, and of a canonical number under a key.
use Rattle.std.specs.Prelude.{ℕ, List, ◌∷◌, ◌++◌, codes, decimal}
use Rattle.base64.specs.Engines.{url_safe_no_pad}
use Rattle.base64.specs.GeneralPurpose.{encode_of}
use Rattle.digest_mac.specs.Digests.{keyed_digest}
use Rattle.digest_mac.specs.declared.hash.Hash.{Hash}

-- the text of bytes: `u`, and base64url without padding (RFC 4648, section 5; Controlled
-- Identifiers 1.0, 2.4)
abbrev pub multibase_text : List ℕ → List ℕ
multibase_text bytes = 117 ∷ encode_of url_safe_no_pad bytes

-- the digest for a canonical number: the keyed digest of its identifier, `c14n` and the number,
-- without `_:`. Data Integrity ECDSA Cryptosuites 1.0, createHmacIdLabelMapFunction
unfoldable pub hmac_digest : Hash → List ℕ → ℕ → List ℕ
hmac_digest hash key number = keyed_digest hash key (codes "c14n" ++ decimal number)

-- the label for a canonical number, which is that of its digest
unfoldable pub hmac_label : Hash → List ℕ → ℕ → List ℕ
hmac_label hash key number = multibase_text (hmac_digest hash key number)

-- The device that signs by HMAC: each of its keys is made of one root and the key's name, and it
-- draws the names of fresh keys and fresh secrets from a key stream of ChaCha20.
use Rattle.std.specs.Prelude.{ℕ, ◌==◌, ◌&&◌, false, List, [], ◌∷◌, ◌++◌, Some, None}
use Rattle.std.specs.List.{starts_with}
use Rattle.std.specs.Str.{bytes_eq}
use Rattle.rand_core.specs.Steps.{fill_via_u32}
use Rattle.rand_chacha.specs.ChaCha.{ChaCha, next_word, of_seed}
use Rattle.digest_mac.specs.Digests.{keyed_digest}
use Rattle.digest_mac.specs.declared.hash.Hash.TheVariants.{Sha256}
use Rattle.key_device.specs.declared.keys.KeyName.{KeyName}
use Rattle.key_device.specs.declared.keys.Signature.{Signature}
use Rattle.key_device.specs.Devices.{Acceptance, Ownership, DeviceMeaning}

-- what a device by HMAC holds: the root of its keys, and a key stream of ChaCha20 with the place of
-- its next word
pub record HmacState : Type 0 where
  pub root : List ℕ
  pub generator : ChaCha

-- a device with this root, at the start of the key stream of this seed
abbrev pub device_of : List ℕ → List ℕ → HmacState
device_of root seed = record { root = root; generator = of_seed seed }

-- whether the device owns the key with this name, which is so where it begins with two zero bytes
abbrev pub owns_name : Ownership
owns_name name = starts_with ◌==◌ name.bytes (0 ∷ 0 ∷ [])

-- the secret key of a name: HMAC-SHA256 under the root of the name's bytes. RFC 2104, 2
abbrev pub secret_key : List ℕ → KeyName → List ℕ
secret_key root name = keyed_digest Sha256 root name.bytes

-- the signature on bytes: HMAC-SHA256 under the secret key of a 0 and the bytes, and then of a 1
-- and the bytes. RFC 2104, 2
unfoldable pub hmac_signature : List ℕ → KeyName → List ℕ → Signature
hmac_signature root name bytes = record {
  bytes = keyed_digest Sha256 (secret_key root name) (0 ∷ bytes)
      ++ keyed_digest Sha256 (secret_key root name) (1 ∷ bytes);
}

-- exactly that signature is accepted, and only under a name that is owned
abbrev pub hmac_accepts : List ℕ → Acceptance
hmac_accepts root name bytes signature =
    owns_name name && bytes_eq signature.bytes (hmac_signature root name bytes).bytes

-- the next 32 bytes of the key stream, which are 8 words, the low byte of each first, and the
-- stream behind them. ChaCha20 has 10 double rounds. RFC 8439, 2.3 and 2.4
unfoldable pub fresh_bytes : ChaCha → List ℕ × ChaCha
fresh_bytes generator = fill_via_u32 (next_word 10) 32 generator

-- the device after a draw
abbrev pub after_draw : HmacState → HmacState
after_draw d = record d { generator = (fresh_bytes d.generator).1 }

-- the name of the fresh key with these bytes: 0, 0 and 1 stand before them
unfoldable pub fresh_name : List ℕ → KeyName
fresh_name bytes = record { bytes = 0 ∷ 0 ∷ 1 ∷ bytes }

-- what a device by HMAC means: it tells no log, but the secret that it gives next, and counts no
-- fault
abbrev pub hmac_meaning : HmacState → DeviceMeaning
hmac_meaning d = record {
  accepts = hmac_accepts d.root;
  owns = owns_name;
  log = None;
  next_secret = Some (fresh_bytes d.generator).0;
  faults = 0;
  exact = false;
}

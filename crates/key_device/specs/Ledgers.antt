-- The ledger device: it accepts just what it signed, and numbers its signatures, keys and secrets.
use Rattle.std.specs.Prelude.{◌≡◌, ◌<◌, ◌≤◌, ◌+◌, ℕ, Bool, true, false, ◌&&◌, List, ◌∷◌, ◌++◌, Some, length, replicate}
use Rattle.std.proofs.Common.{get_or}
use Rattle.std.specs.List.{list_any, list_all}
use Rattle.std.specs.Int.{w64, to_be_bytes}
use Rattle.std.specs.Str.{bytes_eq}
use Rattle.base_types.specs.Counts.{one_more}
use Rattle.key_device.specs.declared.keys.KeyName.{KeyName}
use Rattle.key_device.specs.declared.keys.Signature.{Signature}
use Rattle.key_device.specs.declared.device.SignedEntry.{SignedEntry}
use Rattle.key_device.specs.Devices.{Acceptance, Ownership, DeviceMeaning}

-- the keys that a ledger owns, what it signed, in order, and how many secrets it gave
pub record Ledger : Type 0 where
  pub keys : List KeyName
  pub log : List SignedEntry
  pub secrets : ℕ

-- whether the key is one of these
abbrev pub has_key : List KeyName → Ownership
has_key keys key = list_any (λ k. bytes_eq key.bytes k.bytes) keys

-- whether the entry is this key, these bytes and this signature
abbrev pub is_entry : KeyName → List ℕ → Signature → SignedEntry → Bool
is_entry key bytes signature e =
    bytes_eq key.bytes e.key.bytes
    && (bytes_eq bytes e.bytes && bytes_eq signature.bytes e.signature.bytes)

-- whether this key, these bytes and this signature stand together in one of the entries
abbrev pub has_entry : List SignedEntry → Acceptance
has_entry entries key bytes signature = list_any (is_entry key bytes signature) entries

-- whether the key of each entry is one of these
abbrev pub has_keys_of : List KeyName → List SignedEntry → Bool
has_keys_of keys entries = list_all (λ e. has_key keys e.key) entries

-- so many zero bytes, and then the number in 8 bytes, big-endian
abbrev pub number_after : ℕ → ℕ → List ℕ
number_after zeros n = replicate zeros 0 ++ to_be_bytes w64 n

-- the n-th signature: 56 zero bytes and n
unfoldable pub numbered_signature : ℕ → Signature
numbered_signature n = record { bytes = number_after 56 n }

-- the key with number n: the bytes 0 and 1, 25 zero bytes and n
unfoldable pub numbered_key : ℕ → KeyName
numbered_key n = record { bytes = 0 ∷ 1 ∷ number_after 25 n }

-- the n-th secret: 24 zero bytes and n
unfoldable pub numbered_secret : ℕ → List ℕ
numbered_secret n = number_after 24 n

-- what a ledger means: it accepts what stands in its log, tells its log and its next secret, counts
-- no fault, and is exact where it owns the keys of its log
abbrev pub ledger_meaning : Ledger → DeviceMeaning
ledger_meaning d = record {
  accepts = has_entry d.log;
  owns = has_key d.keys;
  log = Some d.log;
  next_secret = Some (numbered_secret (one_more d.secrets));
  faults = 0;
  exact = has_keys_of d.keys d.log;
}

-- the first entry has the first signature, and so on
abbrev pub IsNumbered : List SignedEntry → Type 0
IsNumbered entries =
    (i : ℕ) (d : SignedEntry) → i < length entries
    → (get_or entries i d).signature ≡ numbered_signature (i + 1)

-- what a ledger keeps true: it owns each key of its log, and its signatures are numbered in order
pub record IsKept (keys : List KeyName) (entries : List SignedEntry) : Type 0 where
  pub owns_each : has_keys_of keys entries ≡ true
  pub in_order : IsNumbered entries

-- n is the least number from 1 whose key is not owned
pub record IsNextFree (owns : Ownership) (n : ℕ) : Type 0 where
  pub from_one : 1 ≤ n
  pub free : owns (numbered_key n) ≡ false
  pub least : (m : ℕ) → 1 ≤ m → m < n → owns (numbered_key m) ≡ true

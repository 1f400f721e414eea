-- The signature of a device by HMAC: its two halves, who owns it and what is accepted.
use Rattle.std.proofs.Common.{◌≡◌, ◌↔◌, ℕ, List, [], ◌∷◌, ◌++◌, length, take, drop, replicate, true, IsTrue, refl, ap, ◌∙◌}
use Rattle.std.proofs.lemmas.Bool.{and_from, and_parts}
use Rattle.std.proofs.lemmas.Bool.Decides.{Decides-eqb}
use Rattle.std.proofs.lemmas.List.{append-nil, drop_at, take_at}
use Rattle.std.proofs.lemmas.Slice.Eq.{starts_is}
use Rattle.base_types.proofs.Orders.{bytes_eq-same, bytes_eq-true}
use Rattle.digest_mac.specs.Digests.{keyed_digest}
use Rattle.digest_mac.specs.declared.hash.Hash.TheVariants.{Sha256}
use Rattle.digest_mac.proofs.Labels.{length-keyed_digest}
use Rattle.key_device.specs.declared.keys.KeyName.{KeyName}
use Rattle.key_device.specs.declared.keys.Signature.{Signature}
use Rattle.key_device.specs.HmacDevices.{owns_name, hmac_signature, hmac_accepts}

-- what is equal to a keyed digest has 32 bytes
pub half_length : (key text half : List ℕ) → half ≡ keyed_digest Sha256 key text → length half ≡ 32
half_length key text half is = ap (λ (l : List ℕ). length l) is ∙ length-keyed_digest Sha256 key text

-- 32 bytes in front of 32 zeros, and then others in the zeros' place, are the first and the others
pub halves_joined : (first second front back : List ℕ) → length first ≡ 32 → front ≡ first → back ≡ second
    → take 32 (front ++ replicate 32 0) ++ (back ++ drop 32 (drop 32 (front ++ replicate 32 0))) ≡ first ++ second
halves_joined first second front back long f b =
    rw (f, b, take_at first (replicate 32 0) 32 long, drop_at first (replicate 32 0) 32 long)
    (ap (λ (l : List ℕ). first ++ l) (append-nil second))

-- the signature under a name that is owned is accepted
pub accepts-own : (root bytes : List ℕ) (name : KeyName) (s : Signature) → owns_name name ≡ true
    → s ≡ hmac_signature root name bytes → hmac_accepts root name bytes s ≡ true
accepts-own root bytes name s owned is =
    and_from _ _ owned
    (bytes_eq-same s.bytes (hmac_signature root name bytes).bytes (ap (λ (x : Signature). x.bytes) is))

-- nothing else is
pub accepts-only : (root bytes : List ℕ) (name : KeyName) (s : Signature) → hmac_accepts root name bytes s ≡ true
    → (owns_name name ≡ true) × (s ≡ hmac_signature root name bytes)
accepts-only root bytes name s h =
    let parts = and_parts (owns_name name) _ h in
    let same : s.bytes ≡ (hmac_signature root name bytes).bytes = bytes_eq-true s.bytes (hmac_signature root name bytes).bytes parts.1 in
    (parts.0, (λ i. record { bytes = same i }))

-- a name that is owned is two zero bytes and what follows
pub owns_name-begins : (name : KeyName) → IsTrue (owns_name name) ↔ ((rest : List ℕ) × (name.bytes ≡ 0 ∷ 0 ∷ rest))
owns_name-begins name =
    let is = starts_is Decides-eqb name.bytes (0 ∷ 0 ∷ []) (owns_name name) refl in
    ((λ h. (drop 2 name.bytes, is.0 h)), (λ r. is.1 r.0 r.1))

pub ruleset halves = (half_length)

pub ruleset accepting = (accepts-own)

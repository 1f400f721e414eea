-- What a key device means to its callers: what it accepts, which keys it owns and what it signed.
use Rattle.std.specs.Prelude.{◌≡◌, ◌↔◌, ℕ, Bool, true, List, [], ◌∷◌, ◌++◌, Option, Some, Contains, IsTrue, IfSome}
use Rattle.base_types.specs.Counts.{HasRisen}
use Rattle.key_device.specs.declared.keys.KeyName.{KeyName}
use Rattle.key_device.specs.declared.keys.Signature.{Signature}
use Rattle.key_device.specs.declared.device.SignedEntry.{SignedEntry}

-- which signatures on which bytes pass as made under which key
abbrev pub Acceptance : Type 0
Acceptance = KeyName → List ℕ → Signature → Bool

-- under which keys a device can sign
abbrev pub Ownership : Type 0
Ownership = KeyName → Bool

-- What a device means at one moment: what it accepts; which keys it owns; its log, which is what it
-- signed, in order, where it tells that; the secret that it gives next, where it tells that; how
-- many faults it counted; and whether it is exact: it accepts what it logged, and its fresh keys
-- are new.
pub record DeviceMeaning : Type 0 where
  pub accepts : Acceptance
  pub owns : Ownership
  pub log : Option (List SignedEntry)
  pub next_secret : Option (List ℕ)
  pub faults : ℕ
  pub exact : Bool

-- a key, the bytes signed under it, and the signature
abbrev pub log_entry : KeyName → List ℕ → Signature → SignedEntry
log_entry key bytes signature = record { key = key; bytes = bytes; signature = signature }

-- exactly what was accepted before is accepted after
abbrev pub AcceptsSame : DeviceMeaning → DeviceMeaning → Type 0
AcceptsSame before after =
    (key : KeyName) (bytes : List ℕ) (s : Signature)
    → after.accepts key bytes s ≡ before.accepts key bytes s

-- what was accepted before is accepted after
abbrev pub StillAccepts : DeviceMeaning → DeviceMeaning → Type 0
StillAccepts before after =
    (key : KeyName) (bytes : List ℕ) (s : Signature)
    → before.accepts key bytes s ≡ true → after.accepts key bytes s ≡ true

-- exactly the keys that were owned before are owned after
abbrev pub OwnsSame : DeviceMeaning → DeviceMeaning → Type 0
OwnsSame before after = (key : KeyName) → after.owns key ≡ before.owns key

-- the keys that were owned before are owned after
abbrev pub StillOwns : DeviceMeaning → DeviceMeaning → Type 0
StillOwns before after = (key : KeyName) → before.owns key ≡ true → after.owns key ≡ true

-- a call that neither signs nor makes a key: acceptance, ownership, the log and exactness stay
pub record MeansSame (before after : DeviceMeaning) : Type 0 where
  pub acceptance : AcceptsSame before after
  pub ownership : OwnsSame before after
  pub log : after.log ≡ before.log
  pub exactness : after.exact ≡ before.exact

-- a fault was counted from one moment to the other
abbrev pub CountsFault : DeviceMeaning → DeviceMeaning → Type 0
CountsFault before after = HasRisen before.faults after.faults

-- where the log was told before, it is told after, and has this one entry more, at its end
abbrev pub GrewBy : SignedEntry → DeviceMeaning → DeviceMeaning → Type 0
GrewBy e before after = IfSome before.log (λ entries. after.log ≡ Some (entries ++ e ∷ []))

-- the secret is the one that the device told to come next, where it told one
abbrev pub IsSecretTold : DeviceMeaning → List ℕ → Type 0
IsSecretTold device secret = IfSome device.next_secret (λ told. secret ≡ told)

-- exactly what stands in the log is accepted
abbrev pub AcceptsExactly : List SignedEntry → Acceptance → Type 0
AcceptsExactly entries accepts =
    (key : KeyName) (bytes : List ℕ) (s : Signature)
    → IsTrue (accepts key bytes s) ↔ Contains entries (log_entry key bytes s)

-- each key in the log is owned
abbrev pub OwnsEach : List SignedEntry → Ownership → Type 0
OwnsEach entries owns = (e : SignedEntry) → Contains entries e → owns e.key ≡ true

-- the log is told, exactly what stands in it is accepted, and each key in it is owned
pub record MeansItsLog (device : DeviceMeaning) : Type 0 where
  pub entries : List SignedEntry
  pub told : device.log ≡ Some entries
  pub accepted : AcceptsExactly entries device.accepts
  pub owned : OwnsEach entries device.owns

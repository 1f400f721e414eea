-- What is asked of a device and of the history of its records, in their own words, so that a yes
-- names one record of the history.
use Rattle.std.specs.Prelude.{◌≡◌, ◌⊎◌, ℕ, true, List, All, Contains, map}
use Rattle.key_device.specs.declared.keys.KeyName.{KeyName}
use Rattle.key_device.specs.declared.keys.Signature.{Signature}
use Rattle.key_device.specs.Devices.{DeviceMeaning}
use Rattle.stmt_groups.specs.declared.types.BaseRecord.{BaseRecord}
use Rattle.stmt_groups.specs.Records.{Signing, signing, history_signings, HasLines}
use Rattle.stmt_groups.specs.Proofs.{VerifyData}
use Rattle.stmt_groups.specs.Soundness.{KeysServeOnce, NoTextsCollide}

-- the key is the issuer's, or the statement key of a record
abbrev pub IsInUse : List BaseRecord → KeyName → KeyName → Type 0
IsInUse history issuer key = (key ≡ issuer) ⊎ Contains (map (λ (r : BaseRecord). r.key) history) key

-- No forgery. The device owns the keys in use; what it accepts under a key that it owns, it signed;
-- and what it signed under a key in use, it signed for a record of the history.
pub record NoForgery (device : DeviceMeaning) (history : List BaseRecord) (issuer : KeyName)
    : Type 0 where
  pub owns : (key : KeyName) → IsInUse history issuer key → device.owns key ≡ true
  pub signings : List Signing
  pub it_signed : (key : KeyName) (bytes : List ℕ) (s : Signature) → device.owns key ≡ true
      → device.accepts key bytes s ≡ true → Contains signings (signing key bytes)
  pub for_a_record : (x : Signing) → Contains signings x → IsInUse history issuer x.key
      → Contains (history_signings history) x

-- All premises of a yes: the texts of the records are lines; there is no forgery; each key has one
-- use; and the digests of the texts that are compared do not collide.
pub record PremisesHold (device : DeviceMeaning) (history : List BaseRecord) (v : VerifyData)
    : Type 0 where
  pub have_lines : All HasLines history
  pub no_forgery : NoForgery device history v.issuer
  pub keys : KeysServeOnce history v.issuer
  pub texts : NoTextsCollide history v

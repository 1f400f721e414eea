-- That an exact device means its log: a ledger, and one that fails over an exact one. These are
-- lemmas, of which nothing need be believed; they stand here since a law of a trait cites `specs`
-- alone.
use Rattle.std.specs.Prelude.{◌≡◌, ℕ, true, List, Contains}
use Rattle.std.specs.Str.{bytes_eq}
use Rattle.std.proofs.Common.{ap, refl, ◌∙◌}
use Rattle.std.proofs.lemmas.Bool.{and_from, and_parts}
use Rattle.std.proofs.lemmas.List.Elements.{All-get_or}
use Rattle.std.proofs.lemmas.List.Folds.{list_any_at}
use Rattle.std.proofs.lemmas.List.Sums.{AllPass-from_list_all}
use Rattle.std.proofs.lemmas.Map.Views.{Contains-from_any}
use Rattle.base_types.proofs.Orders.{bytes_eq-same, bytes_eq-true}
use Rattle.key_device.specs.declared.keys.KeyName.{KeyName}
use Rattle.key_device.specs.declared.keys.Signature.{Signature}
use Rattle.key_device.specs.declared.device.SignedEntry.{SignedEntry}
use Rattle.key_device.specs.Devices.{DeviceMeaning, MeansItsLog, log_entry}
use Rattle.key_device.specs.FailingDevices.{FailingState, failing_meaning}
use Rattle.key_device.specs.Ledgers.{Ledger, has_key, has_entry, is_entry, ledger_meaning}

abbrev key_of : List ℕ → KeyName
key_of bytes = record { bytes = bytes }

abbrev signature_of : List ℕ → Signature
signature_of bytes = record { bytes = bytes }

same_parts : (x y : SignedEntry) → x.key ≡ y.key → x.bytes ≡ y.bytes → x.signature ≡ y.signature
    → x ≡ y
same_parts x y p q r =
    ap (λ (k : KeyName). log_entry k x.bytes x.signature) p
    ∙ ap (λ (b : List ℕ). log_entry y.key b x.signature) q
    ∙ ap (λ (t : Signature). log_entry y.key y.bytes t) r

-- an entry that passes as x is x
same_entry : (x y : SignedEntry) → is_entry x.key x.bytes x.signature y ≡ true → x ≡ y
same_entry x y p =
    let parts = and_parts _ _ p in
    let rest = and_parts (bytes_eq x.bytes y.bytes) _ parts.1 in
    same_parts x y (ap key_of (bytes_eq-true x.key.bytes y.key.bytes parts.0))
    (bytes_eq-true x.bytes y.bytes rest.0)
    (ap signature_of (bytes_eq-true x.signature.bytes y.signature.bytes rest.1))

-- an entry passes as itself
pub is_entry-itself : (key : KeyName) (bytes : List ℕ) (signature : Signature)
    → is_entry key bytes signature (log_entry key bytes signature) ≡ true
is_entry-itself key bytes signature =
    and_from _ _ (bytes_eq-same key.bytes key.bytes refl)
    (and_from _ _ (bytes_eq-same bytes bytes refl)
    (bytes_eq-same signature.bytes signature.bytes refl))

-- what is accepted stands in the log
pub found_entry :
    (entries : List SignedEntry) (key : KeyName) (bytes : List ℕ) (signature : Signature)
    → has_entry entries key bytes signature ≡ true
    → Contains entries (log_entry key bytes signature)
found_entry entries key bytes signature =
    Contains-from_any {eq = λ x y. is_entry x.key x.bytes x.signature y} same_entry
    (log_entry key bytes signature) entries

-- what stands in the log is accepted
found : (entries : List SignedEntry) (key : KeyName) (bytes : List ℕ) (signature : Signature)
    → Contains entries (log_entry key bytes signature)
    → has_entry entries key bytes signature ≡ true
found entries key bytes signature c =
    list_any_at (is_entry key bytes signature) entries c.0 (log_entry key bytes signature) c.1
    (rw c.2 (is_entry-itself key bytes signature))

-- a ledger that owns the keys of its log accepts exactly what stands in it
pub ledger_means_its_log : (d : Ledger) → (ledger_meaning d).exact ≡ true
    → MeansItsLog (ledger_meaning d)
ledger_means_its_log d all = record {
  entries = d.log;
  told = refl;
  accepted = λ key bytes signature.
      (found_entry d.log key bytes signature, found d.log key bytes signature);
  owned = λ e c. rw (← c.2)
      (All-get_or (λ x. has_key d.keys x.key ≡ true) d.log c.0 e c.1
      (AllPass-from_list_all (λ x. has_key d.keys x.key) d.log all));
}

-- a device that fails over one which means its log means the same log
pub failing_means_its_log : {D : Type 0} (means : D → DeviceMeaning) (d : FailingState D)
    → MeansItsLog (means d.inner) → MeansItsLog (failing_meaning means d)
failing_means_its_log means d log = record {
  entries = log.entries;
  told = log.told;
  accepted = log.accepted;
  owned = log.owned;
}

-- What no good proof has.
use Rattle.std.proofs.Common.{◌≡◌, ◌≢◌, ◌<◌, ℕ, false, true, List, [], ◌∷◌, Contains, length, refl, ap, arith}
use Rattle.std.specs.List.{AllZip}
use Rattle.std.specs.Str.{bytes_eq}
use Rattle.std.proofs.lemmas.Bool.{false≢true}
use Rattle.std.proofs.lemmas.List.Elements.{All-contains}
use Rattle.base_types.proofs.Orders.{bytes_eq-true}
use Rattle.key_device.specs.declared.keys.KeyName.{KeyName}
use Rattle.key_device.specs.declared.keys.Signature.{Signature}
use Rattle.key_device.specs.Devices.{Acceptance}
use Rattle.stmt_groups.specs.Datasets.{dataset_lines}
use Rattle.stmt_groups.specs.Proofs.{VerifyData, IsGood, non_mandatory_lines}

-- an index past the lines
pub index_over : (accepts : Acceptance) (v : VerifyData) → Contains v.proof.indexes (length (dataset_lines v.document)) → IsGood accepts v → ⊥
index_over accepts v c g =
    let below : length (dataset_lines v.document) < length (dataset_lines v.document) = All-contains (λ i. i < length (dataset_lines v.document)) v.proof.indexes (length (dataset_lines v.document)) g.below c in
    absurd (omega arith)

-- a device that accepts nothing
pub never_good : (v : VerifyData) → IsGood (λ key bytes s. false) v → ⊥
never_good v g = false≢true g.base_signature

first_accepted : (p : KeyName → List ℕ → Signature → Type 0) (k : KeyName) (ls : List (List ℕ)) (ss : List Signature) → ls ≢ [] → AllZip (λ l s. p k l s) ls ss → (l : List ℕ) × (s : Signature) × p k l s
first_accepted p k [] ss some z = absurd (some refl)
first_accepted p k (l ∷ ls) [] some z = absurd z
first_accepted p k (l ∷ ls) (s ∷ ss) some z = (l, s, z.0)

-- a device that accepts under the issuer's key alone
pub statement_key_accepted : (v : VerifyData) → non_mandatory_lines v ≢ [] → IsGood (λ key bytes s. bytes_eq key.bytes v.issuer.bytes) v → v.proof.key ≡ v.issuer
statement_key_accepted v some g =
    let w = first_accepted (λ key bytes s. bytes_eq key.bytes v.issuer.bytes ≡ true) v.proof.key (non_mandatory_lines v) v.proof.signatures some g.statement_signatures in
    ap (λ (b : List ℕ). record { bytes = b }) (bytes_eq-true v.proof.key.bytes v.issuer.bytes w.2)

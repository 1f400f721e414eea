-- What is signed by a hash: it tells the hash, and by SHA-256 it is what is signed without one.
use Rattle.std.proofs.Common.{◌≡◌, ℕ, ◌+◌, List, [], ◌∷◌, ◌++◌, length, map, Contains, refl, sym, ap, ◌∙◌, subst, arith, length-append}
use Rattle.std.specs.Prelude.{◌↔◌}
use Rattle.std.specs.List.{concat}
use Rattle.std.proofs.lemmas.List.Elements.{All-contains, All-head, All-tail}
use Rattle.base_types.proofs.Lists.{same_fronts}
use Rattle.digest_mac.specs.Digests.{digest, digest_size}
use Rattle.digest_mac.specs.declared.hash.Hash.{Hash}
use Rattle.digest_mac.specs.declared.hash.Hash.TheVariants.{Sha256, Sha384}
use Rattle.digest_mac.proofs.Sizes.{length-digest}
use Rattle.key_device.specs.declared.keys.KeyName.{KeyName}
use Rattle.key_device.specs.Devices.{Acceptance}
use Rattle.stmt_groups.specs.declared.types.BaseRecord.{BaseRecord}
use Rattle.stmt_groups.specs.ByHash.{AreBy, HaveSizedKeys, IsCoveredBy, IsGoodBy, IsKeySized, NamesOneBy, NoCollisionBy, checked_by, sign_data_by, signings_for, signings_for_all, verify_bytes_by}
use Rattle.stmt_groups.specs.Datasets.{dataset_lines}
use Rattle.stmt_groups.specs.Proofs.{IsGood, VerifyData, checked_signings, mandatory_lines, non_mandatory_lines, verify_bytes}
use Rattle.stmt_groups.specs.Records.{Signing, history_signings, record_signings, sign_data, signing}
use Rattle.stmt_groups.specs.Soundness.{IsCovered, NamesOne, NoCollision}

-- ---- bytes that are signed tell their hash

sized : (hash : Hash) (options : List (List ℕ)) (key : KeyName) (mandatory : List (List ℕ)) → IsKeySized key → length (sign_data_by hash options key mandatory) ≡ digest_size hash + (35 + digest_size hash)
sized hash options key mandatory long =
    let first = length-digest hash (concat options) in
    let second = length-digest hash (concat mandatory) in
    let rest : length (key.bytes ++ digest hash (concat mandatory)) ≡ 35 + digest_size hash = length-append key.bytes (digest hash (concat mandatory)) ∙ (λ i. long i + second i) in
    length-append (digest hash (concat options)) (key.bytes ++ digest hash (concat mandatory)) ∙ (λ i. first i + rest i)

same_hash : (g h : Hash) → digest_size g + (35 + digest_size g) ≡ digest_size h + (35 + digest_size h) → g ≡ h
same_hash Sha256 Sha256 e = refl
same_hash Sha256 Sha384 e = absurd (omega arith)
same_hash Sha384 Sha256 e = absurd (omega arith)
same_hash Sha384 Sha384 e = refl

-- the hash, the key and both digests
pub told : (g h : Hash) (o p : List (List ℕ)) (k l : KeyName) (m n : List (List ℕ)) → IsKeySized k → IsKeySized l → sign_data_by g o k m ≡ sign_data_by h p l n → (g ≡ h) × (k ≡ l) × (digest g (concat o) ≡ digest h (concat p)) × (digest g (concat m) ≡ digest h (concat n))
told g h o p k l m n long far e =
    let hash : g ≡ h = same_hash g h (sym (sized g o k m long) ∙ ap length e ∙ sized h p l n far) in
    let size : length (digest g (concat o)) ≡ length (digest h (concat p)) = length-digest g (concat o) ∙ ap digest_size hash ∙ sym (length-digest h (concat p)) in
    let first = same_fronts (digest g (concat o)) (digest h (concat p)) (k.bytes ++ digest g (concat m)) (l.bytes ++ digest h (concat n)) size e in
    let second = same_fronts k.bytes l.bytes (digest g (concat m)) (digest h (concat n)) (long ∙ sym far) first.1 in
    let key : k ≡ l = (λ i. record { bytes = second.0 i }) in
    (hash, key, first.0, second.1)

-- ---- by SHA-256

-- the bytes
pub signed_by_sha256 : (options : List (List ℕ)) (key : KeyName) (mandatory : List (List ℕ)) → sign_data_by Sha256 options key mandatory ≡ sign_data options key mandatory
unfolding digest
signed_by_sha256 options key mandatory = refl

signings_by_sha256 : (r : BaseRecord) → r.hash ≡ Sha256 → signings_for r ≡ record_signings r
signings_by_sha256 r by =
    let bytes : sign_data_by r.hash r.options r.key r.mandatory ≡ sign_data r.options r.key r.mandatory = ap (λ (h : Hash). sign_data_by h r.options r.key r.mandatory) by ∙ signed_by_sha256 r.options r.key r.mandatory in
    ap (λ (b : List ℕ). map (signing r.key) r.others ++ signing r.issuer b ∷ []) bytes

-- what all records stand for
pub history_by_sha256 : (history : List BaseRecord) → AreBy Sha256 history → signings_for_all history ≡ history_signings history
history_by_sha256 [] by = refl
history_by_sha256 (r ∷ rs) by =
    let is_by : BaseRecord → Type 0 = λ s. s.hash ≡ Sha256 in
    let first = signings_by_sha256 r (All-head is_by r rs by) in
    let rest = history_by_sha256 rs (All-tail is_by r rs by) in
    λ i. first i ++ rest i

-- what is checked
pub checked_by_sha256 : (v : VerifyData) → checked_by Sha256 v ≡ checked_signings v
checked_by_sha256 v =
    ap (λ (b : List ℕ). signing v.issuer b ∷ map (signing v.proof.key) (non_mandatory_lines v)) (signed_by_sha256 (dataset_lines v.options) v.proof.key (mandatory_lines v))

accepted_same : (accepts : Acceptance) (v : VerifyData) → accepts v.issuer (verify_bytes_by Sha256 v) v.proof.signature ≡ accepts v.issuer (verify_bytes v) v.proof.signature
accepted_same accepts v = ap (λ (b : List ℕ). accepts v.issuer b v.proof.signature) (signed_by_sha256 (dataset_lines v.options) v.proof.key (mandatory_lines v))

-- a good proof
pub good_by_sha256 : (accepts : Acceptance) (v : VerifyData) → IsGood accepts v ↔ IsGoodBy Sha256 accepts v
good_by_sha256 accepts v = (
  λ g. record {
    not_empty = g.not_empty;
    below = g.below;
    counts = g.counts;
    base_signature = accepted_same accepts v ∙ g.base_signature;
    statement_signatures = g.statement_signatures;
  },
  λ g. record {
    not_empty = g.not_empty;
    below = g.below;
    counts = g.counts;
    base_signature = sym (accepted_same accepts v) ∙ g.base_signature;
    statement_signatures = g.statement_signatures;
  },
)

no_collision : (first second : List (List ℕ)) → NoCollision first second → NoCollisionBy Sha256 first second
unfolding digest
no_collision first second n = n

no_collision_by : (hash : Hash) (first second : List (List ℕ)) → hash ≡ Sha256 → NoCollision first second → NoCollisionBy hash first second
no_collision_by hash first second is n = subst (λ (h : Hash). NoCollisionBy h first second) (sym is) (no_collision first second n)

-- what covers
pub covered_by_sha256 : (history : List BaseRecord) (accepts : Acceptance) (v : VerifyData) → AreBy Sha256 history → HaveSizedKeys history → IsKeySized v.proof.key → IsCovered history accepts v → IsCoveredBy Sha256 history accepts v
covered_by_sha256 history accepts v by keys key h =
    let is_by : BaseRecord → Type 0 = λ r. r.hash ≡ Sha256 in
    record {
      have_lines = h.have_lines;
      have_keys = keys;
      has_key = key;
      was_signed = λ x s c a.
          subst (λ (xs : List Signing). Contains xs x) (sym (history_by_sha256 history by))
          (h.was_signed x s (subst (λ (xs : List Signing). Contains xs x) (checked_by_sha256 v) c) a);
      keys = h.keys;
      texts = record {
        options = λ r c i k. no_collision_by r.hash r.options (dataset_lines v.options) (All-contains is_by history r by c) (h.texts.options r c i k);
        mandatory = λ r c i k. no_collision_by r.hash r.mandatory (mandatory_lines v) (All-contains is_by history r by c) (h.texts.mandatory r c i k);
      };
    }

-- what is named by a hash is named without
pub named_without : (hash : Hash) (history : List BaseRecord) (v : VerifyData) → NamesOneBy hash history v → NamesOne history v
named_without hash history v n = record { one = n.one; only = n.only; holds = n.holds }

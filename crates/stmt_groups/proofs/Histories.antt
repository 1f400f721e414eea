-- What stands in the signings of a history, and which record a key names.
use Rattle.std.proofs.Common.{◌≡◌, ℕ, ◌<◌, List, [], ◌∷◌, ◌++◌, length, map, flat_map, get_or, Contains, Some, slice_get, inl, inr, refl, sym, ap, ◌∙◌, subst, arith, length-append}
use Rattle.std.specs.Prelude.{◌⊎◌}
use Rattle.std.specs.List.{concat}
use Rattle.std.proofs.Math.ListN.{get_or-map}
use Rattle.std.proofs.lemmas.List.{length-map}
use Rattle.std.proofs.lemmas.Bool.{cases_order}
use Rattle.std.proofs.lemmas.Option.{get_or_from_slice_get, slice_get-get_or, slice_get_within}
use Rattle.std.proofs.lemmas.List.Elements.{Contains-append_cases, Contains-push_cases}
use Rattle.sha2.specs.Sha256.{sha256}
use Rattle.sha2.proofs.Facts256.{length-sha256}
use Rattle.base_types.specs.Sets.{AllDiffer}
use Rattle.base_types.proofs.Lists.{Contains-here, Contains-there, Contains-nil, Contains-from_map, same_fronts}
use Rattle.key_device.specs.declared.keys.KeyName.{KeyName}
use Rattle.stmt_groups.specs.declared.types.BaseRecord.{BaseRecord}
use Rattle.stmt_groups.specs.Records.{Signing, signing, record_signings, history_signings, sign_data}

-- ---- where a signing comes from

-- a signing is of another line of a record, or of its sign data
pub record Origin (history : List BaseRecord) (x : Signing) : Type 0 where
  pub by : BaseRecord
  pub stands : Contains history by
  pub signs : ((l : List ℕ) × Contains by.others l × (signing by.key l ≡ x))
      ⊎ (signing by.issuer (sign_data by.options by.key by.mandatory) ≡ x)

signs_of : (r : BaseRecord) (x : Signing) → Contains (record_signings r) x → ((l : List ℕ) × Contains r.others l × (signing r.key l ≡ x)) ⊎ (signing r.issuer (sign_data r.options r.key r.mandatory) ≡ x)
signs_of r x c = elim (Contains-push_cases (map (signing r.key) r.others) (signing r.issuer (sign_data r.options r.key r.mandatory)) x c) [
  | inl d ↦ inl (Contains-from_map (signing r.key) r.others x d)
  | inr e ↦ inr e
]

-- where a signing of a history comes from
pub origin : (history : List BaseRecord) (x : Signing) → Contains (history_signings history) x → Origin history x
origin [] x c = absurd (Contains-nil x c)
origin (r ∷ rs) x c = elim (Contains-append_cases (record_signings r) (flat_map record_signings rs) x c) [
  | inl d ↦ record { by = r; stands = Contains-here r rs; signs = signs_of r x d }
  | inr d ↦
      let o = origin rs x d in
      record { by = o.by; stands = Contains-there r rs o.by o.stands; signs = o.signs }
]

-- signings that are one have one key
pub same_key : (k l : KeyName) (xs ys : List ℕ) → signing k xs ≡ signing l ys → k ≡ l
same_key k l xs ys e = ap (λ (x : Signing). x.key) e

-- and the same bytes
pub same_bytes : (k l : KeyName) (xs ys : List ℕ) → signing k xs ≡ signing l ys → xs ≡ ys
same_bytes k l xs ys e = ap (λ (x : Signing). x.bytes) e

-- ---- sign data names its parts

-- equal sign data has equal digests and one key
pub sign_data_parts : (o p : List (List ℕ)) (k l : KeyName) (m n : List (List ℕ)) → sign_data o k m ≡ sign_data p l n → (sha256 (concat o) ≡ sha256 (concat p)) × (k ≡ l) × (sha256 (concat m) ≡ sha256 (concat n))
sign_data_parts o p k l m n e =
    let first = same_fronts (sha256 (concat o)) (sha256 (concat p)) (k.bytes ++ sha256 (concat m)) (l.bytes ++ sha256 (concat n)) (length-sha256 (concat o) ∙ sym (length-sha256 (concat p))) e in
    let one = length-sha256 (concat m) in
    let two = length-sha256 (concat n) in
    let tails : length (k.bytes ++ sha256 (concat m)) ≡ length (l.bytes ++ sha256 (concat n)) = ap length first.1 in
    let long : length k.bytes ≡ length l.bytes = omega (arith, length-append k.bytes (sha256 (concat m)), length-append l.bytes (sha256 (concat n))) in
    let second = same_fronts k.bytes l.bytes (sha256 (concat m)) (sha256 (concat n)) long first.1 in
    let key : k ≡ l = (λ i. record { bytes = second.0 i }) in
    (first.0, key, second.1)

-- ---- a key stands at one place only

apart : (history : List BaseRecord) → AllDiffer (map (λ (r : BaseRecord). r.key) history) → (i j : ℕ) (r s : BaseRecord) → slice_get history i ≡ Some r → slice_get history j ≡ Some s → r.key ≡ s.key → i < j → ⊥
apart history differ i j r s here there same less =
    let within : j < length history = slice_get_within history j s there in
    let long : length (map (λ (t : BaseRecord). t.key) history) ≡ length history = length-map history (λ (t : BaseRecord). t.key) in
    let one : get_or (map (λ (t : BaseRecord). t.key) history) i (r.key) ≡ r.key = get_or-map (λ (t : BaseRecord). t.key) history i r ∙ ap (λ (t : BaseRecord). t.key) (get_or_from_slice_get history i r r here) in
    let two : get_or (map (λ (t : BaseRecord). t.key) history) j r.key ≡ s.key = get_or-map (λ (t : BaseRecord). t.key) history j r ∙ ap (λ (t : BaseRecord). t.key) (get_or_from_slice_get history j s r there) in
    differ i j r.key less (omega arith) (one ∙ same ∙ sym two)

-- records with one key stand at one place
pub one_place : (history : List BaseRecord) → AllDiffer (map (λ (r : BaseRecord). r.key) history) → (i j : ℕ) (r s : BaseRecord) → slice_get history i ≡ Some r → slice_get history j ≡ Some s → r.key ≡ s.key → i ≡ j
one_place history differ i j r s here there same = elim (cases_order i j) [
  | inl e ↦ e
  | inr unequal ↦ elim unequal [
    | inl less ↦ absurd (apart history differ i j r s here there same less)
    | inr more ↦ absurd (apart history differ j i s r there here (sym same) more)
  ]
]

-- a place of a record
pub place_of : (history : List BaseRecord) (r : BaseRecord) → Contains history r → (i : ℕ) × (slice_get history i ≡ Some r)
place_of history r c = (c.0, slice_get-get_or history c.0 r c.1 ∙ ap Some c.2)

-- records with one key are one
pub one_record : (history : List BaseRecord) → AllDiffer (map (λ (r : BaseRecord). r.key) history) → (r s : BaseRecord) → Contains history r → Contains history s → r.key ≡ s.key → r ≡ s
one_record history differ r s c d same =
    let here = place_of history r c in
    let there = place_of history s d in
    let place : here.0 ≡ there.0 = one_place history differ here.0 there.0 r s here.1 there.1 same in
    let both : slice_get history there.0 ≡ Some r = subst (λ (i : ℕ). slice_get history i ≡ Some r) place here.1 in
    sym (get_or_from_slice_get history there.0 r r both) ∙ get_or_from_slice_get history there.0 s r there.1

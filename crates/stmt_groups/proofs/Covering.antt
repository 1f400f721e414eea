-- What covers: a record that holds, no record where nothing is accepted, and a history whose premises hold.
use Rattle.std.proofs.Common.{◌≡◌, ◌≢◌, ◌<◌, ℕ, false, true, List, [], ◌∷◌, map, All, Contains, inl, inr, refl, sym, ap, ◌∙◌, subst, arith, Some}
use Rattle.std.specs.List.{concat}
use Rattle.std.proofs.lemmas.Bool.{false≢true}
use Rattle.std.proofs.lemmas.Option.{slice_get_within}
use Rattle.std.proofs.lemmas.List.Elements.{All-cons, All-nil, All-contains, Contains-append_left, Contains-append_right}
use Rattle.base_types.proofs.Lists.{Contains-here, Contains-nil, Contains-cons_cases, Contains-from_map, Contains-map, same_some}
use Rattle.key_device.specs.declared.device.SignedEntry.{SignedEntry}
use Rattle.key_device.specs.declared.keys.KeyName.{KeyName}
use Rattle.key_device.specs.declared.keys.Signature.{Signature}
use Rattle.key_device.specs.Devices.{Acceptance, DeviceMeaning, MeansItsLog, log_entry}
use Rattle.nquads.proofs.ReadingElements.{AllDiffer-nil, AllDiffer-cons}
use Rattle.stmt_groups.specs.declared.types.BaseRecord.{BaseRecord}
use Rattle.stmt_groups.specs.Datasets.{dataset_lines}
use Rattle.stmt_groups.specs.Premises.{IsInUse, NoForgery, PremisesHold}
use Rattle.stmt_groups.specs.Proofs.{VerifyData, IsGood, checked_signings, mandatory_lines, non_mandatory_lines, verify_bytes}
use Rattle.stmt_groups.specs.Records.{Signing, signing, history_signings, record_signings, sign_data, HasLines}
use Rattle.stmt_groups.specs.Soundness.{IsCovered, NamesOne}
use Rattle.stmt_groups.proofs.Naming.{base_origin, base_key}

-- ---- a record that holds

module _ (r : BaseRecord) (accepts : Acceptance) (v : VerifyData) (issuer : v.issuer ≡ r.issuer) (key : v.proof.key ≡ r.key) (mandatory : mandatory_lines v ≡ r.mandatory) (others : All (Contains r.others) (non_mandatory_lines v)) (options : dataset_lines v.options ≡ r.options) where
  only_one : (s : BaseRecord) → Contains (r ∷ []) s → s ≡ r
  only_one s c = elim (Contains-cons_cases r [] s c) [
    | inl e ↦ sym e
    | inr d ↦ absurd (Contains-nil s d)
  ]

  in_all : (x : Signing) → Contains (record_signings r) x → Contains (history_signings (r ∷ [])) x
  in_all x c = Contains-append_left (record_signings r) [] x c

  abbrev base : Signing
  base = signing r.issuer (sign_data r.options r.key r.mandatory)

  base_stands : Contains (history_signings (r ∷ [])) (signing v.issuer (verify_bytes v))
  base_stands =
      let own = in_all base (Contains-append_right (map (signing r.key) r.others) (base ∷ []) base (Contains-here base [])) in
      subst (Contains (history_signings (r ∷ []))) (λ i. signing (sym issuer i) (sign_data (sym options i) (sym key i) (sym mandatory i))) own

  line_stands : (l : List ℕ) → Contains (non_mandatory_lines v) l → Contains (history_signings (r ∷ [])) (signing v.proof.key l)
  line_stands l c =
      let line = All-contains (Contains r.others) (non_mandatory_lines v) l others c in
      let own = Contains-append_left (map (signing r.key) r.others) (base ∷ []) (signing r.key l) (Contains-map (signing r.key) r.others l line) in
      subst (Contains (history_signings (r ∷ []))) (ap (λ k. signing k l) (sym key)) (in_all (signing r.key l) own)

  checked_stand : (x : Signing) → Contains (checked_signings v) x → Contains (history_signings (r ∷ [])) x
  checked_stand x c = elim (Contains-cons_cases (signing v.issuer (verify_bytes v)) (map (signing v.proof.key) (non_mandatory_lines v)) x c) [
    | inl e ↦ subst (Contains (history_signings (r ∷ []))) e base_stands
    | inr d ↦
        let w = Contains-from_map (signing v.proof.key) (non_mandatory_lines v) x d in
        subst (Contains (history_signings (r ∷ []))) w.2 (line_stands w.0 w.1)
  ]

  pub record_covers : HasLines r → r.key ≢ r.issuer → IsCovered (r ∷ []) accepts v
  record_covers are apart = record {
    have_lines = All-cons HasLines r [] are (All-nil HasLines);
    was_signed = λ x s c _. checked_stand x c;
    keys = record {
      differ = AllDiffer-cons r.key [] (Contains-nil r.key) AllDiffer-nil;
      no_issuer = λ s t c d e. apart (ap (λ (x : BaseRecord). x.key) (sym (only_one s c)) ∙ e ∙ ap (λ (x : BaseRecord). x.issuer) (only_one t d));
      not_this_issuer = λ s c e. apart (ap (λ (x : BaseRecord). x.key) (sym (only_one s c)) ∙ e ∙ issuer);
    };
    texts = record {
      options = λ s c i k e. ap (λ (x : BaseRecord). concat x.options) (only_one s c) ∙ ap concat (sym options);
      mandatory = λ s c i k e. ap (λ (x : BaseRecord). concat x.mandatory) (only_one s c) ∙ ap concat (sym mandatory);
    };
  }

-- ---- no record

-- no records cover what is verified where nothing is accepted
pub none_covers : (v : VerifyData) → IsCovered [] (λ key bytes s. false) v
none_covers v = record {
  have_lines = All-nil HasLines;
  was_signed = λ x s c a. absurd (false≢true a);
  keys = record {
    differ = AllDiffer-nil;
    no_issuer = λ r s c d e. Contains-nil r c;
    not_this_issuer = λ r c e. Contains-nil r c;
  };
  texts = record {
    options = λ r c i k e. absurd (Contains-nil r c);
    mandatory = λ r c i k e. absurd (Contains-nil r c);
  };
}

-- and name none
pub none_names : (v : VerifyData) → NamesOne [] v → ⊥
none_names v n =
    let within : n.only.place < 0 = slice_get_within [] n.only.place n.one n.only.stands in
    absurd (omega arith)

-- ---- a history whose premises hold

module _ (device : DeviceMeaning) (history : List BaseRecord) (v : VerifyData) (g : IsGood device.accepts v) (p : PremisesHold device history v) where
  was_signed_under : (key : KeyName) (bytes : List ℕ) (s : Signature) → IsInUse history v.issuer key → device.accepts key bytes s ≡ true → Contains (history_signings history) (signing key bytes)
  was_signed_under key bytes s uses a =
      p.no_forgery.for_a_record (signing key bytes) (p.no_forgery.it_signed key bytes s (p.no_forgery.owns key uses) a) uses

  statement_key_in_use : IsInUse history v.issuer v.proof.key
  statement_key_in_use =
      let o = base_origin history v p.keys (was_signed_under v.issuer (verify_bytes v) v.proof.signature (inl refl) g.base_signature) in
      inr (subst (Contains (map (λ (r : BaseRecord). r.key) history)) (base_key history v o) (Contains-map (λ (r : BaseRecord). r.key) history o.by o.stands))

  key_in_use : (x : Signing) → Contains (checked_signings v) x → IsInUse history v.issuer x.key
  key_in_use x c = elim (Contains-cons_cases (signing v.issuer (verify_bytes v)) (map (signing v.proof.key) (non_mandatory_lines v)) x c) [
    | inl e ↦ inl (sym (ap (λ (y : Signing). y.key) e))
    | inr d ↦
        let w = Contains-from_map (signing v.proof.key) (non_mandatory_lines v) x d in
        subst (IsInUse history v.issuer) (ap (λ (y : Signing). y.key) w.2) statement_key_in_use
  ]

  pub premises_cover : IsCovered history device.accepts v
  premises_cover = record {
    have_lines = p.have_lines;
    was_signed = λ x s c a. was_signed_under x.key x.bytes s (key_in_use x c) a;
    keys = p.keys;
    texts = p.texts;
  }

-- ---- an exact device

-- what an entry of a log signs
abbrev pub entry_signing : SignedEntry → Signing
entry_signing e = signing e.key e.bytes

-- an exact device forges nothing
pub exact_forges_nothing : (device : DeviceMeaning) (history : List BaseRecord) (issuer : KeyName) (entries : List SignedEntry) → device.log ≡ Some entries → MeansItsLog device → ((key : KeyName) → IsInUse history issuer key → device.owns key ≡ true) → ((e : SignedEntry) → Contains entries e → IsInUse history issuer e.key → Contains (history_signings history) (signing e.key e.bytes)) → NoForgery device history issuer
exact_forges_nothing device history issuer entries told m owns made = record {
  owns = owns;
  signings = map entry_signing m.entries;
  it_signed = λ key bytes s own a. Contains-map entry_signing m.entries (log_entry key bytes s) ((m.accepted key bytes s).0 a);
  for_a_record = λ x c uses.
      let w = Contains-from_map entry_signing m.entries x c in
      let same : m.entries ≡ entries = same_some device.log m.entries entries m.told told in
      subst (Contains (history_signings history)) w.2 (made w.0 (subst (λ (xs : List SignedEntry). Contains xs w.0) same w.1) (subst (IsInUse history issuer) (sym (ap (λ (y : Signing). y.key) w.2)) uses));
}

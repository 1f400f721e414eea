-- A record covers by its hash what it holds of.
use Rattle.std.proofs.Common.{◌≡◌, ◌≢◌, ℕ, List, [], ◌∷◌, map, All, Contains, inl, inr, sym, ap, ◌∙◌, subst}
use Rattle.std.specs.List.{concat}
use Rattle.std.proofs.lemmas.List.Elements.{All-cons, All-contains, All-nil, Contains-append_left, Contains-append_right}
use Rattle.base_types.proofs.Lists.{Contains-cons_cases, Contains-from_map, Contains-here, Contains-map, Contains-nil}
use Rattle.key_device.specs.declared.keys.KeyName.{KeyName}
use Rattle.key_device.specs.Devices.{Acceptance}
use Rattle.nquads.proofs.ReadingElements.{AllDiffer-cons, AllDiffer-nil}
use Rattle.stmt_groups.specs.declared.types.BaseRecord.{BaseRecord}
use Rattle.stmt_groups.specs.ByHash.{IsCoveredBy, IsKeySized, bytes_signed_for, checked_by, sign_data_by, signings_for, signings_for_all, verify_bytes_by}
use Rattle.stmt_groups.specs.Datasets.{dataset_lines}
use Rattle.stmt_groups.specs.Proofs.{VerifyData, mandatory_lines, non_mandatory_lines}
use Rattle.stmt_groups.specs.Records.{HasLines, Signing, signing}

module _ (r : BaseRecord) (accepts : Acceptance) (v : VerifyData) (issuer : v.issuer ≡ r.issuer) (key : v.proof.key ≡ r.key) (mandatory : mandatory_lines v ≡ r.mandatory) (others : All (Contains r.others) (non_mandatory_lines v)) (options : dataset_lines v.options ≡ r.options) where
  only_one : (s : BaseRecord) → Contains (r ∷ []) s → s ≡ r
  only_one s c = elim (Contains-cons_cases r [] s c) [
    | inl e ↦ sym e
    | inr d ↦ absurd (Contains-nil s d)
  ]

  in_all : (x : Signing) → Contains (signings_for r) x → Contains (signings_for_all (r ∷ [])) x
  in_all x c = Contains-append_left (signings_for r) [] x c

  abbrev base : Signing
  base = signing r.issuer (bytes_signed_for r)

  base_stands : Contains (signings_for_all (r ∷ [])) (signing v.issuer (verify_bytes_by r.hash v))
  base_stands =
      let own = in_all base (Contains-append_right (map (signing r.key) r.others) (base ∷ []) base (Contains-here base [])) in
      subst (Contains (signings_for_all (r ∷ []))) (λ i. signing (sym issuer i) (sign_data_by r.hash (sym options i) (sym key i) (sym mandatory i))) own

  line_stands : (l : List ℕ) → Contains (non_mandatory_lines v) l → Contains (signings_for_all (r ∷ [])) (signing v.proof.key l)
  line_stands l c =
      let line = All-contains (Contains r.others) (non_mandatory_lines v) l others c in
      let own = Contains-append_left (map (signing r.key) r.others) (base ∷ []) (signing r.key l) (Contains-map (signing r.key) r.others l line) in
      subst (Contains (signings_for_all (r ∷ []))) (ap (λ (k : KeyName). signing k l) (sym key)) (in_all (signing r.key l) own)

  checked_stand : (x : Signing) → Contains (checked_by r.hash v) x → Contains (signings_for_all (r ∷ [])) x
  checked_stand x c = elim (Contains-cons_cases (signing v.issuer (verify_bytes_by r.hash v)) (map (signing v.proof.key) (non_mandatory_lines v)) x c) [
    | inl e ↦ subst (Contains (signings_for_all (r ∷ []))) e base_stands
    | inr d ↦
        let w = Contains-from_map (signing v.proof.key) (non_mandatory_lines v) x d in
        subst (Contains (signings_for_all (r ∷ []))) w.2 (line_stands w.0 w.1)
  ]

  pub record_covers_by : HasLines r → IsKeySized r.key → r.key ≢ r.issuer → IsCoveredBy r.hash (r ∷ []) accepts v
  record_covers_by are sized apart = record {
    have_lines = All-cons HasLines r [] are (All-nil HasLines);
    have_keys = All-cons (λ (s : BaseRecord). IsKeySized s.key) r [] sized (All-nil (λ (s : BaseRecord). IsKeySized s.key));
    has_key = subst IsKeySized (sym key) sized;
    was_signed = λ x s c _. checked_stand x c;
    keys = record {
      differ = AllDiffer-cons r.key [] (Contains-nil r.key) AllDiffer-nil;
      no_issuer = λ s t c d e. apart (ap (λ (x : BaseRecord). x.key) (sym (only_one s c)) ∙ e ∙ ap (λ (x : BaseRecord). x.issuer) (only_one t d));
      not_this_issuer = λ s c e. apart (ap (λ (x : BaseRecord). x.key) (sym (only_one s c)) ∙ e ∙ issuer);
    };
    texts = record {
      options = λ s c i k e. ap (λ (x : BaseRecord). concat x.options) (only_one s c) ∙ ap concat (sym options);
      mandatory = λ s c i k e. ap (λ (x : BaseRecord). concat x.mandatory) (only_one s c) ∙ ap concat (sym mandatory);
    };
  }

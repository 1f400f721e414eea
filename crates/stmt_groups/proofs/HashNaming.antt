-- A proof that is good by a hash names one record of a history that covers it, and that is by this hash.
use Rattle.std.proofs.Common.{◌≡◌, ℕ, true, List, [], ◌∷◌, map, flat_map, All, Contains, inl, inr, sym, ap, ◌∙◌, subst}
use Rattle.std.specs.Prelude.{◌⊎◌}
use Rattle.std.specs.List.{concat}
use Rattle.std.proofs.lemmas.List.Elements.{All-contains, Contains-append_cases, Contains-push_cases}
use Rattle.base_types.proofs.Lists.{Contains-from_map, Contains-here, Contains-map, Contains-nil, Contains-there}
use Rattle.digest_mac.specs.Digests.{digest}
use Rattle.digest_mac.specs.declared.hash.Hash.{Hash}
use Rattle.key_device.specs.Devices.{Acceptance}
use Rattle.nquads.specs.Lines.{IsLine}
use Rattle.nquads.proofs.ReadingDatasets.{canonical_lines_are_lines}
use Rattle.nquads.proofs.ReadingElements.{All-from_contains}
use Rattle.nquads.proofs.ReadingLines.{one_split}
use Rattle.stmt_groups.specs.declared.types.BaseRecord.{BaseRecord}
use Rattle.stmt_groups.specs.ByHash.{IsCoveredBy, IsGoodBy, IsKeySized, NamesOneBy, bytes_signed_for, signings_for, signings_for_all, verify_bytes_by}
use Rattle.stmt_groups.specs.Datasets.{IsLabelled, dataset_lines}
use Rattle.stmt_groups.specs.Lines.{AreLines}
use Rattle.stmt_groups.specs.Proofs.{VerifyData, mandatory_lines, non_mandatory_lines}
use Rattle.stmt_groups.specs.Records.{HasLines, Signing, signing}
use Rattle.stmt_groups.specs.Soundness.{IsOnlyRecord, KeysServeOnce}
use Rattle.stmt_groups.proofs.HashLemmas.{told}
use Rattle.stmt_groups.proofs.Histories.{one_place, one_record, place_of, same_bytes, same_key}
use Rattle.stmt_groups.proofs.LineLemmas.{lines_at-All}
use Rattle.stmt_groups.proofs.Naming.{partner}

-- ---- where a signing comes from

-- a signing is of another line of a record, or of what its issuer key signs
record Origin (history : List BaseRecord) (x : Signing) : Type 0 where
  pub by : BaseRecord
  pub stands : Contains history by
  pub signs : ((l : List ℕ) × Contains by.others l × (signing by.key l ≡ x))
      ⊎ (signing by.issuer (bytes_signed_for by) ≡ x)

signs_of : (r : BaseRecord) (x : Signing) → Contains (signings_for r) x → ((l : List ℕ) × Contains r.others l × (signing r.key l ≡ x)) ⊎ (signing r.issuer (bytes_signed_for r) ≡ x)
signs_of r x c = elim (Contains-push_cases (map (signing r.key) r.others) (signing r.issuer (bytes_signed_for r)) x c) [
  | inl d ↦ inl (Contains-from_map (signing r.key) r.others x d)
  | inr e ↦ inr e
]

origin : (history : List BaseRecord) (x : Signing) → Contains (signings_for_all history) x → Origin history x
origin [] x c = absurd (Contains-nil x c)
origin (r ∷ rs) x c = elim (Contains-append_cases (signings_for r) (flat_map signings_for rs) x c) [
  | inl d ↦ record { by = r; stands = Contains-here r rs; signs = signs_of r x d }
  | inr d ↦
      let o = origin rs x d in
      record { by = o.by; stands = Contains-there r rs o.by o.stands; signs = o.signs }
]

-- ---- the record

-- the record whose issuer signed what is verified
record BaseOrigin (hash : Hash) (history : List BaseRecord) (v : VerifyData) : Type 0 where
  pub by : BaseRecord
  pub stands : Contains history by
  pub issuer_is : by.issuer ≡ v.issuer
  pub signs : bytes_signed_for by ≡ verify_bytes_by hash v

base_origin : (hash : Hash) (history : List BaseRecord) (v : VerifyData) → KeysServeOnce history v.issuer → Contains (signings_for_all history) (signing v.issuer (verify_bytes_by hash v)) → BaseOrigin hash history v
base_origin hash history v keys c =
    let o = origin history (signing v.issuer (verify_bytes_by hash v)) c in
    elim o.signs [
      | inl w ↦ absurd (keys.not_this_issuer o.by o.stands (same_key o.by.key v.issuer _ _ w.2))
      | inr e ↦ record {
        by = o.by;
        stands = o.stands;
        issuer_is = same_key o.by.issuer v.issuer _ _ e;
        signs = same_bytes o.by.issuer v.issuer _ _ e;
      }
    ]

module _ (hash : Hash) (history : List BaseRecord) (accepts : Acceptance) (v : VerifyData) (g : IsGoodBy hash accepts v) (h : IsCoveredBy hash history accepts v) where
  abbrev base : Signing
  base = signing v.issuer (verify_bytes_by hash v)

  the_origin : BaseOrigin hash history v
  the_origin =
      base_origin hash history v h.keys
      (h.was_signed base v.proof.signature (Contains-here base (map (signing v.proof.key) (non_mandatory_lines v))) g.base_signature)

  -- what the signed bytes tell of its record
  parts : (o : BaseOrigin hash history v)
      → (o.by.hash ≡ hash) × (o.by.key ≡ v.proof.key) × (digest o.by.hash (concat o.by.options) ≡ digest hash (concat (dataset_lines v.options))) × (digest o.by.hash (concat o.by.mandatory) ≡ digest hash (concat (mandatory_lines v)))
  parts o =
      told o.by.hash hash o.by.options (dataset_lines v.options) o.by.key v.proof.key o.by.mandatory (mandatory_lines v)
      (All-contains (λ (r : BaseRecord). IsKeySized r.key) history o.by h.have_keys o.stands) h.has_key o.signs

  options_are : (o : BaseOrigin hash history v) → AreLines (dataset_lines v.options) → o.by.options ≡ dataset_lines v.options
  options_are o are =
      let p = parts o in
      let same : digest o.by.hash (concat o.by.options) ≡ digest o.by.hash (concat (dataset_lines v.options)) = p.2 ∙ ap (λ (f : Hash). digest f (concat (dataset_lines v.options))) (sym p.0) in
      one_split o.by.options (dataset_lines v.options) (All-contains HasLines history o.by h.have_lines o.stands).options are
      (h.texts.options o.by o.stands o.issuer_is p.1 same)

  mandatory_are : (o : BaseOrigin hash history v) → AreLines (dataset_lines v.document) → o.by.mandatory ≡ mandatory_lines v
  mandatory_are o are =
      let p = parts o in
      let same : digest o.by.hash (concat o.by.mandatory) ≡ digest o.by.hash (concat (mandatory_lines v)) = p.3 ∙ ap (λ (f : Hash). digest f (concat (mandatory_lines v))) (sym p.0) in
      one_split o.by.mandatory (mandatory_lines v) (All-contains HasLines history o.by h.have_lines o.stands).mandatory
      (lines_at-All IsLine v.proof.indexes 0 (dataset_lines v.document) are)
      (h.texts.mandatory o.by o.stands o.issuer_is p.1 same)

  -- a line that is not mandatory was signed with a record of the history
  line_signed : (l : List ℕ) → Contains (non_mandatory_lines v) l → Contains (signings_for_all history) (signing v.proof.key l)
  line_signed l c =
      let s = partner (λ k t. accepts v.proof.key k t ≡ true) (non_mandatory_lines v) v.proof.signatures l g.statement_signatures c in
      h.was_signed (signing v.proof.key l) s.0 (Contains-there base (map (signing v.proof.key) (non_mandatory_lines v)) (signing v.proof.key l) (Contains-map (signing v.proof.key) (non_mandatory_lines v) l c)) s.1

  -- each other line is one of the other lines of the record
  others_stand : (o : BaseOrigin hash history v) → All (Contains o.by.others) (non_mandatory_lines v)
  others_stand o =
      All-from_contains (Contains o.by.others) (non_mandatory_lines v)
      (λ l c.
      let key : o.by.key ≡ v.proof.key = (parts o).1 in
      let p = origin history (signing v.proof.key l) (line_signed l c) in
      elim p.signs [
        | inl w ↦
            let mine : p.by.key ≡ o.by.key = same_key p.by.key v.proof.key _ _ w.2 ∙ sym key in
            let same : p.by ≡ o.by = one_record history h.keys.differ p.by o.by p.stands o.stands mine in
            let line : w.0 ≡ l = same_bytes p.by.key v.proof.key _ _ w.2 in
            subst (Contains o.by.others) line (subst (λ (r : BaseRecord). Contains r.others w.0) same w.1)
        | inr e ↦ absurd (h.keys.no_issuer o.by p.by o.stands p.stands (key ∙ sym (same_key p.by.issuer v.proof.key _ _ e)))
      ])

  only_one : (o : BaseOrigin hash history v) → IsOnlyRecord history v.issuer v.proof.key o.by
  only_one o =
      let key : o.by.key ≡ v.proof.key = (parts o).1 in
      let here = place_of history o.by o.stands in
      record {
        place = here.0;
        stands = here.1;
        issuer_is = o.issuer_is;
        key_is = key;
        only = λ other s there _ same. one_place history h.keys.differ other here.0 s o.by there here.1 (same ∙ sym key);
      }

  pub covered_by_names_one : IsLabelled v.document → IsLabelled v.options → NamesOneBy hash history v
  covered_by_names_one document options =
      let o = the_origin in
      let option_lines : AreLines (dataset_lines v.options) = canonical_lines_are_lines v.options.label v.options.statements options.well_formed options.in_grammar in
      let document_lines : AreLines (dataset_lines v.document) = canonical_lines_are_lines v.document.label v.document.statements document.well_formed document.in_grammar in
      record {
        one = o.by;
        only = only_one o;
        hash_is = (parts o).0;
        holds = record {
          document_labels = document;
          options_labels = options;
          mandatory = sym (mandatory_are o document_lines);
          others = others_stand o;
          options_lines = sym (options_are o option_lines);
        };
      }

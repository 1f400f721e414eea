-- A good proof that a history covers names one record of it.
use Rattle.std.proofs.Common.{◌≡◌, ℕ, true, List, [], ◌∷◌, map, All, Contains, inl, inr, sym, ap, ◌∙◌, subst, slice_get}
use Rattle.std.specs.List.{AllZip}
use Rattle.std.proofs.lemmas.List.Elements.{All-contains}
use Rattle.base_types.proofs.Lists.{Contains-here, Contains-there, Contains-map, Contains-nil, Contains-cons_cases, same_some}
use Rattle.key_device.specs.Devices.{Acceptance}
use Rattle.nquads.specs.Lines.{IsLine}
use Rattle.nquads.proofs.ReadingElements.{All-from_contains}
use Rattle.nquads.proofs.ReadingDatasets.{canonical_lines_are_lines}
use Rattle.nquads.proofs.ReadingLines.{one_split}
use Rattle.stmt_groups.specs.declared.types.BaseRecord.{BaseRecord}
use Rattle.stmt_groups.specs.Lines.{AreLines}
use Rattle.stmt_groups.specs.Datasets.{IsLabelled, dataset_lines}
use Rattle.stmt_groups.specs.Records.{Signing, signing, history_signings, sign_data, HasLines}
use Rattle.stmt_groups.specs.Proofs.{VerifyData, IsGood, mandatory_lines, non_mandatory_lines, verify_bytes}
use Rattle.stmt_groups.specs.Soundness.{KeysServeOnce, IsCovered, IsOnlyRecord, NamesOne}
use Rattle.stmt_groups.proofs.LineLemmas.{lines_at-All}
use Rattle.stmt_groups.proofs.Histories.{origin, same_key, same_bytes, sign_data_parts, one_place, place_of, one_record}

-- the record whose issuer signed the sign data of what is verified
pub record BaseOrigin (history : List BaseRecord) (v : VerifyData) : Type 0 where
  pub by : BaseRecord
  pub stands : Contains history by
  pub issuer_is : by.issuer ≡ v.issuer
  pub signs : sign_data by.options by.key by.mandatory ≡ verify_bytes v

-- sign data that was signed under the issuer's key is of a record, where no statement key is that key
pub base_origin : (history : List BaseRecord) (v : VerifyData) → KeysServeOnce history v.issuer → Contains (history_signings history) (signing v.issuer (verify_bytes v)) → BaseOrigin history v
base_origin history v keys c =
    let o = origin history (signing v.issuer (verify_bytes v)) c in
    elim o.signs [
      | inl w ↦ absurd (keys.not_this_issuer o.by o.stands (same_key o.by.key v.issuer _ _ w.2))
      | inr e ↦ record {
        by = o.by;
        stands = o.stands;
        issuer_is = same_key o.by.issuer v.issuer _ _ e;
        signs = same_bytes o.by.issuer v.issuer _ _ e;
      }
    ]

-- its statement key is that of the proof
pub base_key : (history : List BaseRecord) (v : VerifyData) (o : BaseOrigin history v) → o.by.key ≡ v.proof.key
base_key history v o =
    (sign_data_parts o.by.options (dataset_lines v.options) o.by.key v.proof.key o.by.mandatory (mandatory_lines v) o.signs).1

-- of two lists that are paired, each element of the first has a partner
pub partner : {X Y : Type 0} (R : X → Y → Type 0) (xs : List X) (ys : List Y) (x : X) → AllZip R xs ys → Contains xs x → (y : Y) × R x y
partner R [] ys x z c = absurd (Contains-nil x c)
partner R (a ∷ xs) [] x z c = absurd z
partner R (a ∷ xs) (b ∷ ys) x z c = elim (Contains-cons_cases a xs x c) [
  | inl e ↦ (b, subst (λ w. R w b) e z.0)
  | inr d ↦ partner R xs ys x z.1 d
]

module _ (history : List BaseRecord) (accepts : Acceptance) (v : VerifyData) (g : IsGood accepts v) (h : IsCovered history accepts v) where
  abbrev base : Signing
  base = signing v.issuer (verify_bytes v)

  pub the_origin : BaseOrigin history v
  the_origin =
      base_origin history v h.keys
      (h.was_signed base v.proof.signature (Contains-here base (map (signing v.proof.key) (non_mandatory_lines v))) g.base_signature)

  options_are : (o : BaseOrigin history v) → AreLines (dataset_lines v.options) → o.by.options ≡ dataset_lines v.options
  options_are o are =
      let parts = sign_data_parts o.by.options (dataset_lines v.options) o.by.key v.proof.key o.by.mandatory (mandatory_lines v) o.signs in
      one_split o.by.options (dataset_lines v.options) (All-contains HasLines history o.by h.have_lines o.stands).options are
      (h.texts.options o.by o.stands o.issuer_is parts.1 parts.0)

  mandatory_are : (o : BaseOrigin history v) → AreLines (dataset_lines v.document) → o.by.mandatory ≡ mandatory_lines v
  mandatory_are o are =
      let parts = sign_data_parts o.by.options (dataset_lines v.options) o.by.key v.proof.key o.by.mandatory (mandatory_lines v) o.signs in
      one_split o.by.mandatory (mandatory_lines v) (All-contains HasLines history o.by h.have_lines o.stands).mandatory
      (lines_at-All IsLine v.proof.indexes 0 (dataset_lines v.document) are)
      (h.texts.mandatory o.by o.stands o.issuer_is parts.1 parts.2)

  -- a line that is not mandatory was signed with a record of the history
  line_signed : (l : List ℕ) → Contains (non_mandatory_lines v) l → Contains (history_signings history) (signing v.proof.key l)
  line_signed l c =
      let s = partner (λ k t. accepts v.proof.key k t ≡ true) (non_mandatory_lines v) v.proof.signatures l g.statement_signatures c in
      h.was_signed (signing v.proof.key l) s.0 (Contains-there base (map (signing v.proof.key) (non_mandatory_lines v)) (signing v.proof.key l) (Contains-map (signing v.proof.key) (non_mandatory_lines v) l c)) s.1

  -- each other line is one of the other lines of the record
  others_stand : (o : BaseOrigin history v) → All (Contains o.by.others) (non_mandatory_lines v)
  others_stand o =
      All-from_contains (Contains o.by.others) (non_mandatory_lines v)
      (λ l c.
      let key : o.by.key ≡ v.proof.key = base_key history v o in
      let p = origin history (signing v.proof.key l) (line_signed l c) in
      elim p.signs [
        | inl w ↦
            let mine : p.by.key ≡ o.by.key = same_key p.by.key v.proof.key _ _ w.2 ∙ sym key in
            let same : p.by ≡ o.by = one_record history h.keys.differ p.by o.by p.stands o.stands mine in
            let line : w.0 ≡ l = same_bytes p.by.key v.proof.key _ _ w.2 in
            subst (Contains o.by.others) line (subst (λ (r : BaseRecord). Contains r.others w.0) same w.1)
        | inr e ↦ absurd (h.keys.no_issuer o.by p.by o.stands p.stands (key ∙ sym (same_key p.by.issuer v.proof.key _ _ e)))
      ])

  only_one : (o : BaseOrigin history v) → IsOnlyRecord history v.issuer v.proof.key o.by
  only_one o =
      let key : o.by.key ≡ v.proof.key = base_key history v o in
      let here = place_of history o.by o.stands in
      record {
        place = here.0;
        stands = here.1;
        issuer_is = o.issuer_is;
        key_is = key;
        only = λ other s there _ same. one_place history h.keys.differ other here.0 s o.by there here.1 (same ∙ sym key);
      }

  pub covered_names_one : IsLabelled v.document → IsLabelled v.options → NamesOne history v
  covered_names_one document options =
      let o = the_origin in
      let option_lines : AreLines (dataset_lines v.options) = canonical_lines_are_lines v.options.label v.options.statements options.well_formed options.in_grammar in
      let document_lines : AreLines (dataset_lines v.document) = canonical_lines_are_lines v.document.label v.document.statements document.well_formed document.in_grammar in
      record {
        one = o.by;
        only = only_one o;
        holds = record {
          document_labels = document;
          options_labels = options;
          mandatory = sym (mandatory_are o document_lines);
          others = others_stand o;
          options_lines = sym (options_are o option_lines);
        };
      }

-- two named records are one
pub one_named : (history : List BaseRecord) (v : VerifyData) (m n : NamesOne history v) → m.one ≡ n.one
one_named history v m n =
    let place : m.only.place ≡ n.only.place = n.only.only m.only.place m.one m.only.stands m.only.issuer_is m.only.key_is in
    same_some (slice_get history m.only.place) m.one n.one m.only.stands (ap (slice_get history) place ∙ n.only.stands)

-- What holds of the record of an issue reveals a part of what was issued.
use Rattle.std.proofs.Common.{◌≡◌, ℕ, Bool, true, false, List, [], ◌∷◌, map, flat_map, All, Contains, inl, inr, refl, sym, ap, ◌∙◌, subst, if◌then◌else◌}
use Rattle.std.specs.List.{concat}
use Rattle.std.specs.Str.{bytes_eq}
use Rattle.std.proofs.lemmas.List.Elements.{All-contains, Contains-append_left, Contains-append_cases}
use Rattle.base_types.proofs.Lists.{Contains-here, Contains-there, Contains-map, Contains-from_map, Contains-nil, Contains-cons_cases, SameElements-refl}
use Rattle.base_types.proofs.Orders.{bytes_eq-true, bytes_eq-differ}
use Rattle.nquads.specs.Terms.{Blank, by_label, IsStatement, Statement}
use Rattle.nquads.specs.Renaming.{Same, StandsIn, blanks_of, rename}
use Rattle.nquads.specs.Lines.{HasLabels, canonical_lines, line, with_labels}
use Rattle.nquads.proofs.ReadingBlanks.{blanks_of-rename, from_blanks_in, rename-rename, to_blanks_in}
use Rattle.nquads.proofs.ReadingDatasets.{canonical_lines_are_lines, to_canonical_lines, from_canonical_lines}
use Rattle.nquads.proofs.ReadingElements.{All-from_contains, from_rising, to_rising}
use Rattle.nquads.proofs.ReadingLines.{line_one_reading, statement_from_renamed}
use Rattle.nquads.proofs.ReadingRenamings.{Same-from_one_to_one}
use Rattle.nquads.proofs.ReadingSame.{text_determines_dataset}
use Rattle.nquads.proofs.ReadingTerms.{label_blank}
use Rattle.stmt_groups.specs.declared.types.BaseRecord.{BaseRecord}
use Rattle.stmt_groups.specs.Lines.{AreLines, lines_at, other_lines}
use Rattle.stmt_groups.specs.Datasets.{LabelledDataset, IsLabelled, IsAt, IsElsewhere, dataset_lines}
use Rattle.stmt_groups.specs.Records.{HasLines, IsRecord}
use Rattle.stmt_groups.specs.Soundness.{Holds, Reveals}
use Rattle.stmt_groups.proofs.LineLemmas.{lines_are_split}

-- ---- a blank node by its label

-- the first of these blank nodes with the label, or else another
abbrev pub with_label : (Blank → List ℕ) → List Blank → List ℕ → Blank → Blank
with_label g [] l b = b
with_label g (a ∷ bs) l b = if bytes_eq (g a) l then a else with_label g bs l b

first_or_later : (g : Blank → List ℕ) (a : Blank) (bs : List Blank) (l : List ℕ) (b : Blank) (t : Bool) → (t ≡ true → g a ≡ l) → (t ≡ false → (g (with_label g bs l b) ≡ l) × Contains bs (with_label g bs l b))
    → (g (if t then a else with_label g bs l b) ≡ l) × Contains (a ∷ bs) (if t then a else with_label g bs l b)
first_or_later g a bs l b true p q = (p refl, Contains-here a bs)
first_or_later g a bs l b false p q = ((q refl).0, Contains-there a bs (with_label g bs l b) (q refl).1)

-- where one of them has the label, it is found
pub with_label-found : (g : Blank → List ℕ) (bs : List Blank) (l : List ℕ) (b a : Blank) → Contains bs a → g a ≡ l → (g (with_label g bs l b) ≡ l) × Contains bs (with_label g bs l b)
with_label-found g [] l b a c e = absurd (Contains-nil a c)
with_label-found g (x ∷ xs) l b a c e =
    first_or_later g x xs l b (bytes_eq (g x) l) (bytes_eq-true (g x) l)
    (λ p. with_label-found g xs l b a (elim (Contains-cons_cases x xs a c) [
      | inl k ↦ absurd (bytes_eq-differ (g x) l p (ap g k ∙ e))
      | inr d ↦ d
    ]) e)

-- ---- lines of statements

-- ---- one renaming, by the labels

module _ (issued document : LabelledDataset) (i : IsLabelled issued) (d : IsLabelled document) where
  -- a blank node goes to the issued one with its label
  abbrev pub renaming : Blank → Blank
  renaming b = with_label issued.label (flat_map blanks_of issued.statements) (document.label b) b

  one_reading : (s t : Statement) → Contains document.statements s → Contains issued.statements t → line document.label s ≡ line issued.label t → with_labels document.label s ≡ with_labels issued.label t
  one_reading s t m n e =
      line_one_reading document.label issued.label s t
      (All-contains IsStatement document.statements s d.well_formed m) (All-contains IsStatement issued.statements t i.well_formed n)
      (All-contains (HasLabels document.label) document.statements s d.in_grammar m) (All-contains (HasLabels issued.label) issued.statements t i.in_grammar n) e

  keeps_label : (s t : Statement) → Contains document.statements s → Contains issued.statements t → line document.label s ≡ line issued.label t → (b : Blank) → Contains (blanks_of s) b → (issued.label (renaming b) ≡ document.label b) × StandsIn issued.statements (renaming b)
  keeps_label s t m n e b c =
      let same : map (label_blank document.label) (blanks_of s) ≡ map (label_blank issued.label) (blanks_of t) =
      sym (blanks_of-rename (label_blank document.label) s) ∙ ap blanks_of (one_reading s t m n e) ∙ blanks_of-rename (label_blank issued.label) t in
      let r = Contains-from_map (label_blank issued.label) (blanks_of t) (label_blank document.label b) (subst (λ z. Contains z (label_blank document.label b)) same (Contains-map (label_blank document.label) (blanks_of s) b c)) in
      with_label-found issued.label (flat_map blanks_of issued.statements) (document.label b) b r.0 (to_blanks_in issued.statements t r.0 n r.1) (ap (λ (z : Blank). z.name) r.2)

  -- a statement with the line of an issued one goes to it
  pub goes_to : (s t : Statement) → Contains document.statements s → Contains issued.statements t → line document.label s ≡ line issued.label t → rename renaming s ≡ t
  goes_to s t m n e =
      let labels : rename (label_blank issued.label) (rename renaming s) ≡ with_labels document.label s =
      rename-rename (label_blank issued.label) renaming (label_blank document.label) s (λ b c. ap (λ (l : List ℕ). record { kind = by_label; name = l }) (keeps_label s t m n e b c).0) in
      statement_from_renamed (label_blank issued.label) (rename renaming s) t
      (λ a b x y k.
      let r = Contains-from_map renaming (blanks_of s) a (subst (λ z. Contains z a) (blanks_of-rename renaming s) x) in
      let stands : StandsIn issued.statements a = subst (StandsIn issued.statements) r.2 (keeps_label s t m n e r.0 r.1).1 in
      i.differ a b stands (to_blanks_in issued.statements t b n y) (ap (λ (z : Blank). z.name) k))
      (labels ∙ one_reading s t m n e)

-- ---- the record of an issue

module _ (issued issued_options : LabelledDataset) (mandatory : List Statement) (r : BaseRecord) (made : IsRecord issued issued_options mandatory r) where
  part_keeps : (P : Statement → Type 0) → All P issued.statements → All P mandatory
  part_keeps P all =
      All-from_contains P mandatory
      (λ s c. All-contains P issued.statements s all (All-contains (Contains issued.statements) mandatory s made.split.part c))

  rest_keeps : (P : Statement → Type 0) → All P issued.statements → All P made.others
  rest_keeps P all = All-from_contains P made.others (λ s c. All-contains P issued.statements s all ((made.split.rest s).0 c).0)

  -- its texts are lines
  pub record_has_lines : HasLines r
  record_has_lines = record {
    options = subst AreLines (sym made.options_lines) (canonical_lines_are_lines issued_options.label issued_options.statements made.options_labels.well_formed made.options_labels.in_grammar);
    mandatory = subst AreLines (sym made.mandatory_lines) (canonical_lines_are_lines issued.label mandatory (part_keeps IsStatement made.document_labels.well_formed) (part_keeps (HasLabels issued.label) made.document_labels.in_grammar));
    others = subst AreLines (sym made.other_lines) (canonical_lines_are_lines issued.label made.others (rest_keeps IsStatement made.document_labels.well_formed) (rest_keeps (HasLabels issued.label) made.document_labels.in_grammar));
  }

  module _ (document options : LabelledDataset) (indexes : List ℕ) (h : Holds r document options indexes) where
    -- the options are the issued ones
    pub options_same : Same options.statements issued_options.statements
    options_same =
        text_determines_dataset options.label issued_options.label options.statements issued_options.statements
        h.options_labels.well_formed made.options_labels.well_formed h.options_labels.in_grammar made.options_labels.in_grammar h.options_labels.differ made.options_labels.differ
        (ap concat (h.options_lines ∙ made.options_lines))

    abbrev sends : Blank → Blank
    sends = renaming issued document made.document_labels h.document_labels

    sent_to : (s t : Statement) → Contains document.statements s → Contains issued.statements t → line document.label s ≡ line issued.label t → rename sends s ≡ t
    sent_to = goes_to issued document made.document_labels h.document_labels

    at_indexes : (s : Statement) → IsAt indexes document s → (t : Statement) × Contains mandatory t × Contains issued.statements t × (line issued.label t ≡ line document.label s)
    at_indexes s at =
        let w = from_canonical_lines issued.label mandatory (line document.label s) (subst (λ ls. Contains ls (line document.label s)) (h.mandatory ∙ made.mandatory_lines) at.1) in
        (w.0, w.1, All-contains (Contains issued.statements) mandatory w.0 made.split.part w.1, w.2)

    elsewhere : (s : Statement) → IsElsewhere indexes document s → (t : Statement) × Contains made.others t × (line issued.label t ≡ line document.label s)
    elsewhere s at =
        from_canonical_lines issued.label made.others (line document.label s)
        (subst (λ ls. Contains ls (line document.label s)) made.other_lines (All-contains (Contains r.others) (other_lines indexes (dataset_lines document)) (line document.label s) h.others at.1))

    issued_of : (s : Statement) → Contains document.statements s → (t : Statement) × Contains issued.statements t × (line document.label s ≡ line issued.label t)
    issued_of s m =
        elim (Contains-append_cases (lines_at indexes (dataset_lines document)) (other_lines indexes (dataset_lines document)) (line document.label s) ((lines_are_split indexes (dataset_lines document) (line document.label s)).1 (to_canonical_lines document.label document.statements s m))) [
          | inl c ↦ let w = at_indexes s (m, c) in (w.0, w.2, sym w.3)
          | inr c ↦ let w = elsewhere s (m, c) in (w.0, ((made.split.rest w.0).0 w.1).0, sym w.2)
        ]

    sends_label : (b : Blank) → StandsIn document.statements b → issued.label (sends b) ≡ document.label b
    sends_label b c =
        let w = from_blanks_in document.statements b c in
        let t = issued_of w.statement w.within in
        (keeps_label issued document made.document_labels h.document_labels w.statement t.0 w.within t.1 t.2 b w.blank_node).0

    to_mandatory : (t : Statement) → Contains mandatory t → (s : Statement) × IsAt indexes document s × (rename sends s ≡ t)
    to_mandatory t c =
        let listed : Contains (lines_at indexes (dataset_lines document)) (line issued.label t) =
        subst (λ ls. Contains ls (line issued.label t)) (sym (h.mandatory ∙ made.mandatory_lines)) (to_canonical_lines issued.label mandatory t c) in
        let here : Contains (dataset_lines document) (line issued.label t) =
        (lines_are_split indexes (dataset_lines document) (line issued.label t)).0 (Contains-append_left (lines_at indexes (dataset_lines document)) (other_lines indexes (dataset_lines document)) (line issued.label t) listed) in
        let w = from_canonical_lines document.label document.statements (line issued.label t) here in (
          w.0,
          (w.1, subst (Contains (lines_at indexes (dataset_lines document))) (sym w.2) listed),
          sent_to w.0 t w.1 (All-contains (Contains issued.statements) mandatory t made.split.part c) w.2,
        )

    from_mandatory : (t : Statement) → (s : Statement) × IsAt indexes document s × (rename sends s ≡ t) → Contains mandatory t
    from_mandatory t w =
        let u = at_indexes w.0 w.1 in
        subst (Contains mandatory) (sym (sent_to w.0 u.0 w.1.0 u.2 (sym u.3)) ∙ w.2) u.1

    -- the document reveals a part of the issued one
    pub document_reveals : Reveals document indexes issued.statements mandatory
    document_reveals = record {
      renaming = sends;
      one_to_one = λ a b x y e. h.document_labels.differ a b x y (sym (sends_label a x) ∙ ap issued.label e ∙ sends_label b y);
      exactly_mandatory = λ t. (to_mandatory t, from_mandatory t);
      others_issued = λ s at.
          let w = elsewhere s at in
          let rest = (made.split.rest w.0).0 w.1 in
          let same : rename sends s ≡ w.0 = sent_to s w.0 at.0 rest.0 (sym w.2) in
          (subst (Contains issued.statements) (sym same) rest.0, λ c. rest.1 (subst (Contains mandatory) same c));
    }

-- ---- what a revealed part is

-- it lies between the mandatory and the issued statements, up to blank nodes
pub lies_between : (document : LabelledDataset) (indexes : List ℕ) (issued mandatory : List Statement) → Reveals document indexes issued mandatory → All (Contains issued) mandatory → (part : List Statement) × Same document.statements part × All (Contains issued) part × All (Contains part) mandatory
lies_between document indexes issued mandatory r within =
    let part : List Statement = map (rename r.renaming) document.statements in (
      part,
      Same-from_one_to_one r.renaming document.statements part r.one_to_one (SameElements-refl part),
      All-from_contains (Contains issued) part (λ t c.
          let w = Contains-from_map (rename r.renaming) document.statements t c in
          let l = line document.label w.0 in
          elim (Contains-append_cases (lines_at indexes (dataset_lines document)) (other_lines indexes (dataset_lines document)) l ((lines_are_split indexes (dataset_lines document) l).1 (to_canonical_lines document.label document.statements w.0 w.1))) [
            | inl d ↦ All-contains (Contains issued) mandatory t within ((r.exactly_mandatory t).1 (w.0, (w.1, d), w.2))
            | inr d ↦ subst (Contains issued) w.2 (r.others_issued w.0 (w.1, d)).0
          ]),
      All-from_contains (Contains part) mandatory (λ t c.
          let w = (r.exactly_mandatory t).0 c in
          subst (Contains part) w.2 (Contains-map (rename r.renaming) document.statements w.0 w.1.0)),
    )

-- The labels of a run's blank nodes: each is that of its number in the run.
use Rattle.std.proofs.Common.{◌≡◌, ℕ, suc, ◌+◌, List, [], ◌∷◌, ◌++◌, map, length, true, false, refl, sym, ap, subst, ◌∙◌, arith, append-nil, append_assoc}
use Rattle.std.specs.Prelude.{Contains}
use Rattle.std.proofs.lemmas.List.{map-append, length-append, length-map}
use Rattle.std.proofs.lemmas.List.Elements.{Contains-append_left}
use Rattle.std.proofs.lemmas.List.Sorted.{IsPermutation-middle}
use Rattle.std.proofs.lemmas.Bool.{false_from_ne_true}
use Rattle.base_types.specs.Sets.{AllDiffer}
use Rattle.base_types.proofs.Lists.{map-map}
use Rattle.digest_mac.specs.Digests.{digits}
use Rattle.digest_mac.specs.Labels.{hmac_label}
use Rattle.digest_mac.specs.declared.hash.Hash.{Hash}
use Rattle.term_store.specs.Store.{text_at}
use Rattle.nquads.specs.Terms.{Blank, Statement}
use Rattle.nquads.specs.Spelling.{blank_text}
use Rattle.nquads.specs.Texts.{label}
use Rattle.nquads.specs.Stored.{labels_by_text}
use Rattle.nquads.specs.declared.labels.TextLabel.{TextLabel}
use Rattle.nquads.specs.declared.numbers.Label.{Label}
use Rattle.nquads.proofs.ReadingElements.{AllDiffer-head}
use Rattle.rdfc_ndegree.specs.Issuers.{has, number}
use Rattle.rdfc_ndegree.specs.Table.{numbers_below}
use Rattle.rdfc_ndegree.specs.declared.limits.Limits.{Limits}
use Rattle.rdfc_ndegree.proofs.Membership.{has-from_contains, Contains-from_has, number-append, number-new}
use Rattle.rdfc_ndegree.proofs.Permutations.{map-agree, Each-from_contains, AllDiffer-permutation}
use Rattle.rdfc_ndegree.proofs.Labels.{issuer-differs}
use Rattle.rdfc_ndegree.proofs.Lawful.{nodes-lawful}
use Rattle.rdfc_canon.specs.Canon.{AnswersRun, nodes, canonical_labels}
use Rattle.rdfc_canon.specs.declared.canon.Canon.{Canon}
use Rattle.hmac_labels.specs.Labels.{AreHmacLabels, run_labels}
use Rattle.hmac_labels.specs.declared.labelling.HmacLabels.{HmacLabels}

-- labels of the same blank nodes with the same texts are the same
same_labels : (xs ys : List TextLabel) → map (λ (l : TextLabel). l.blank) xs ≡ map (λ (l : TextLabel). l.blank) ys
    → map (λ (l : TextLabel). l.text) xs ≡ map (λ (l : TextLabel). l.text) ys → xs ≡ ys
same_labels [] [] b t = refl
same_labels [] (y ∷ ys) b t = absurd (cc b)
same_labels (x ∷ xs) [] b t = absurd (cc b)
same_labels (x ∷ xs) (y ∷ ys) b t =
    let blank : x.blank ≡ y.blank = cc b in
    let text : x.text ≡ y.text = cc t in
    let rest : xs ≡ ys = same_labels xs ys (cc b) (cc t) in
    λ i. label (blank i) (text i) ∷ rest i

module _ (hash : Hash) (q : List Statement) where
  -- the numbers of an issuer's nodes, in its order
  abbrev its_numbers : List Blank → List ℕ
  its_numbers d = map (number (nodes hash q) d) d

  numbers-next : (d : List Blank) (b : Blank) → (Contains d b → ⊥) → its_numbers d ≡ numbers_below (length d)
      → its_numbers (d ++ b ∷ []) ≡ numbers_below (length (d ++ b ∷ []))
  numbers-next d b new e =
      let lawful = nodes-lawful (digits hash) q in
      let alone : has (nodes hash q) d b ≡ false =
      false_from_ne_true (has (nodes hash q) d b) (λ h. new (Contains-from_has (nodes hash q) lawful d b h)) in
      let before : map (number (nodes hash q) (d ++ b ∷ [])) d ≡ its_numbers d =
      map-agree (λ x. has (nodes hash q) d x ≡ true) (number (nodes hash q) (d ++ b ∷ [])) (number (nodes hash q) d)
      (λ x h. number-append (nodes hash q) d (b ∷ []) x h) d
      (Each-from_contains (λ x. has (nodes hash q) d x ≡ true) d (λ x k. has-from_contains (nodes hash q) lawful d x k)) in
      let last : number (nodes hash q) (d ++ b ∷ []) b ≡ length d = number-new (nodes hash q) lawful d b alone in
      let whole = length-append d (b ∷ []) in
      let long : length (d ++ b ∷ []) ≡ suc (length d) = omega arith in
      map-append (number (nodes hash q) (d ++ b ∷ [])) d (b ∷ []) ∙ (λ i. (before ∙ e) i ++ last i ∷ [])
      ∙ ap numbers_below (sym long)

  apart : (xs : List Blank) (x : Blank) (ys : List Blank) → AllDiffer (xs ++ x ∷ ys) → Contains xs x → ⊥
  apart xs x ys a k =
      AllDiffer-head x (xs ++ ys) (AllDiffer-permutation (xs ++ x ∷ ys) (x ∷ (xs ++ ys)) (IsPermutation-middle xs x ys) a)
      (Contains-append_left xs ys x k)

  numbers-rest : (d rest : List Blank) → AllDiffer (d ++ rest) → its_numbers d ≡ numbers_below (length d)
      → its_numbers (d ++ rest) ≡ numbers_below (length (d ++ rest))
  numbers-rest d [] a e = subst (λ xs. its_numbers xs ≡ numbers_below (length xs)) (sym (append-nil d)) e
  numbers-rest d (b ∷ bs) a e =
      let moved : (d ++ b ∷ []) ++ bs ≡ d ++ b ∷ bs = append_assoc d (b ∷ []) bs in
      subst (λ xs. its_numbers xs ≡ numbers_below (length xs)) moved
      (numbers-rest (d ++ b ∷ []) bs (subst AllDiffer (sym moved) a) (numbers-next d b (apart d b bs a) e))

  -- the nodes of an issuer have the numbers from 0 on
  numbers-all : (d : List Blank) → AllDiffer d → its_numbers d ≡ numbers_below (length d)
  numbers-all d a = numbers-rest [] d a refl

  -- the labels by number are those of the run's blank nodes
  pub run-labels : (key : List ℕ) (texts : List (List ℕ)) (issuer : List Blank) (canonical : List Label) (given : HmacLabels)
      → AllDiffer issuer → labels_by_text texts canonical ≡ canonical_labels hash q issuer
      → AreHmacLabels hash key canonical given
      → labels_by_text texts given.labels ≡ run_labels hash key q issuer
  run-labels key texts issuer canonical given differ are made =
      let blanks : (ls : List Label) → map (λ (l : TextLabel). l.blank) (labels_by_text texts ls) ≡ map (text_at texts) (map (λ (l : Label). l.blank) ls) =
      λ ls. map-map (λ (l : TextLabel). l.blank) (λ (l : Label). label (text_at texts l.blank) l.text) ls
      ∙ sym (map-map (text_at texts) (λ (l : Label). l.blank) ls) in
      let long : length canonical ≡ length issuer =
      sym (length-map canonical (λ (l : Label). label (text_at texts l.blank) l.text)) ∙ ap length are
      ∙ length-map issuer _ in
      same_labels (labels_by_text texts given.labels) (run_labels hash key q issuer)
      (blanks given.labels ∙ ap (map (text_at texts)) made.blanks ∙ sym (blanks canonical)
      ∙ ap (map (λ (l : TextLabel). l.blank)) are ∙ map-map (λ (l : TextLabel). l.blank) _ issuer
      ∙ sym (map-map (λ (l : TextLabel). l.blank) _ issuer))
      (map-map (λ (l : TextLabel). l.text) (λ (l : Label). label (text_at texts l.blank) l.text) given.labels ∙ made.texts
      ∙ ap (λ n. map (hmac_label hash key) (numbers_below n)) long
      ∙ ap (map (hmac_label hash key)) (sym (numbers-all issuer differ))
      ∙ map-map (hmac_label hash key) (number (nodes hash q) issuer) issuer
      ∙ sym (map-map (λ (l : TextLabel). l.text) _ issuer))

-- so are those of canonical labels that a run gives
pub follow-run : (hash : Hash) (key : List ℕ) (texts : List (List ℕ)) (q : List Statement) (limits : Limits) (c : Canon)
    (given : HmacLabels) (a : AnswersRun hash texts q limits c) → AreHmacLabels hash key c.labels given
    → labels_by_text texts given.labels ≡ run_labels hash key q a.run.issuer
follow-run hash key texts q limits c given a made =
    run-labels hash q key texts a.run.issuer c.labels given
    (issuer-differs (nodes-lawful (digits hash) q) a.run a.is_run) a.labels_are made

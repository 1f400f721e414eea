-- Canonical identifiers are labels that differ, so a canonical text is that of one dataset, up to blank nodes.
use Rattle.std.proofs.Common.{◌≡◌, ℕ, ◌+◌, ◌-◌, ◌^◌, ◌<◌, ◌≤◌, ◌%◌, ◌==◌, List, [], ◌∷◌, ◌++◌, length, All, true, false, codes, decimal, drop, refl, sym, ap, ◌∙◌, arith}
use Rattle.std.specs.List.{AllByRecursion}
use Rattle.std.proofs.lemmas.Bool.{false≢true, false_from_ne_true, eqb-false}
use Rattle.std.proofs.lemmas.Bool.Decides.{nat_tests}
use Rattle.std.proofs.lemmas.Fmt.{decimal_by_steps, decimal_injective}
use Rattle.std.proofs.lemmas.List.Elements.{All-from_recursion}
use Rattle.nquads.specs.Terms.{Blank, Statement, IsStatement, IsDataset, IsLabel, is_label_character}
use Rattle.nquads.specs.Renaming.{Same, StandsIn}
use Rattle.nquads.specs.Lines.{canonical_text, HasLabels, LabelsDiffer}
use Rattle.nquads.proofs.ReadingBlanks.{to_blanks_in}
use Rattle.nquads.proofs.ReadingElements.{All-from_contains}
use Rattle.nquads.proofs.ReadingSame.{text_determines_dataset}
use Rattle.rdfc_ndegree.specs.Issuers.{has, number, canonical_id}
use Rattle.rdfc_ndegree.specs.Datasets.{nodes_of}
use Rattle.rdfc_ndegree.specs.Run.{RunOutcome, IsRun, IsCanonicalIssuer}
use Rattle.rdfc_ndegree.proofs.Labels.{issuer-covers}
use Rattle.rdfc_ndegree.proofs.Lawful.{nodes-lawful, blanks-all}
use Rattle.rdfc_ndegree.proofs.Membership.{has-from_contains, number-below, number-once}
use Rattle.rdfc_ndegree.proofs.Permutations.{Each-append}
use Rattle.rdfc_ndegree.proofs.Renamed.{Same-HasLabels, Same-MeetsTie, Same-canonical_text}
use Rattle.rdfc_ndegree.proofs.RunAgree.{labels-unique, tie-exactly}

-- ---- an identifier is a label

-- a character that may stand anywhere in a label
abbrev IsInner : ℕ → Type 0
IsInner c = (is_label_character c ≡ true) × ((c == 46) ≡ false)

digit-inner : (n : ℕ) → n < 10 → IsInner (48 + n)
digit-inner n lt = (grind (arith, nat_tests), grind (arith, nat_tests))

digits-inner : (n : ℕ) → n < 2 ^ 64 → AllByRecursion IsInner (decimal n)
digits-inner = decimal_by_steps (λ n ds. AllByRecursion IsInner ds) (λ n lt. (digit-inner n lt, tt))
    (λ n ds le all. Each-append IsInner ds ((48 + n % 10) ∷ []) all (digit-inner (n % 10) (omega arith), tt))

-- a canonical identifier is a label
pub identifier-label : (n : ℕ) → n < 2 ^ 64 → IsLabel (codes "c14n" ++ decimal n)
identifier-label n lt =
    let text = codes "c14n" ++ decimal n in
    let each : AllByRecursion IsInner text = ((refl, refl), ((refl, refl), ((refl, refl), ((refl, refl), digits-inner n lt)))) in
    let all : All IsInner text = All-from_recursion IsInner text each in
    record {
      not_empty = λ e. let none = ap length e in absurd (omega arith);
      characters = λ k d in'. (all k d in').0;
      first = (eqb-false 99 45 refl, eqb-false 99 46 refl);
      last = λ e. eqb-false _ 46 (all (length text - 1) 0 (omega arith)).1 e;
    }

-- ---- the labels of a run

module _ (digest : List ℕ → List ℕ) (q : List Statement) (r : RunOutcome Blank) (d : IsRun (nodes_of digest q) r) (few : length r.issuer ≤ 2 ^ 64) where
  issued-to : (b : Blank) → StandsIn q b → has (nodes_of digest q) r.issuer b ≡ true
  issued-to b k = has-from_contains (nodes_of digest q) (nodes-lawful digest q) r.issuer b (issuer-covers (nodes-lawful digest q) r b d ((blanks-all q b).0 k))

  small : (b : Blank) → StandsIn q b → number (nodes_of digest q) r.issuer b < 2 ^ 64
  small b k = let below = number-below (nodes_of digest q) r.issuer b (issued-to b k) in omega arith

  pub run-labels : All (HasLabels (canonical_id (nodes_of digest q) r.issuer)) q
  run-labels = All-from_contains (HasLabels (canonical_id (nodes_of digest q) r.issuer)) q (λ s m b k.
      identifier-label (number (nodes_of digest q) r.issuer b) (small b (to_blanks_in q s b m k)))

  pub run-differ : LabelsDiffer (canonical_id (nodes_of digest q) r.issuer) q
  run-differ a b k l e =
      number-once (nodes_of digest q) (nodes-lawful digest q) r.issuer a b (issued-to a k) (issued-to b l)
      (decimal_injective (number (nodes_of digest q) r.issuer a) (number (nodes_of digest q) r.issuer b) (small a k) (small b l) (after_prefix e))
    where
      after_prefix : {xs ys : List ℕ} → codes "c14n" ++ xs ≡ codes "c14n" ++ ys → xs ≡ ys
      after_prefix e = ap (drop 4) e

-- ---- one text, one dataset

-- runs with one canonical text are of datasets that are the same up to blank nodes
pub text-same : (digest : List ℕ → List ℕ) (q p : List Statement) (r s : RunOutcome Blank) → All IsStatement q → All IsStatement p → length r.issuer ≤ 2 ^ 64 → length s.issuer ≤ 2 ^ 64 → IsRun (nodes_of digest q) r → IsRun (nodes_of digest p) s
    → canonical_text (canonical_id (nodes_of digest q) r.issuer) q ≡ canonical_text (canonical_id (nodes_of digest p) s.issuer) p → Same q p
text-same digest q p r s i j few few' d e is =
    text_determines_dataset (canonical_id (nodes_of digest q) r.issuer) (canonical_id (nodes_of digest p) s.issuer) q p i j
    (run-labels digest q r d few) (run-labels digest p s e few') (run-differ digest q r d few) (run-differ digest p s e few') is

-- without a tie, datasets that are the same up to blank nodes have one canonical text
pub same-text : (digest : List ℕ → List ℕ) (q p : List Statement) (r s : RunOutcome Blank) → IsDataset q → IsDataset p → IsRun (nodes_of digest q) r → IsRun (nodes_of digest p) s → r.tie ≡ false → Same q p
    → canonical_text (canonical_id (nodes_of digest q) r.issuer) q ≡ canonical_text (canonical_id (nodes_of digest p) s.issuer) p
same-text digest q p r s i j d e none same =
    let l : IsCanonicalIssuer (nodes_of digest q) r.issuer = record { run = r; is_run = d; no_tie = none; is = refl } in
    let meets : s.tie ≡ true → ⊥ = λ t. false≢true (sym none ∙ (tie-exactly d).1 ((Same-MeetsTie digest q p same i j).1 ((tie-exactly e).0 t))) in
    let m : IsCanonicalIssuer (nodes_of digest p) s.issuer = record { run = s; is_run = e; no_tie = false_from_ne_true s.tie meets; is = refl } in
    sym (Same-canonical_text digest q p same i j r.issuer l)
    ∙ ap (λ c. canonical_text (canonical_id (nodes_of digest p) c) p) (labels-unique (Same-HasLabels digest q p same i j r.issuer l) m)

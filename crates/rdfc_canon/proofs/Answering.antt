-- What a run over the table of a dataset says of the dataset.
use Rattle.std.proofs.Common.{◌≡◌, ◌↔◌, ℕ, List, [], map, All, Contains, true, false, refl, sym, ap, ◌∙◌, subst, ⊎_elim, ◌⊎◌}
use Rattle.std.proofs.lemmas.List.Elements.{All-weaker}
use Rattle.base_types.specs.Sets.{AllDiffer}
use Rattle.base_types.proofs.Lists.{Contains-nil, Contains-map, Contains-from_map}
use Rattle.digest_mac.specs.Digests.{digits}
use Rattle.digest_mac.specs.declared.hash.Hash.{Hash}
use Rattle.nquads.specs.Terms.{Blank, Statement}
use Rattle.nquads.specs.Renaming.{StandsIn}
use Rattle.nquads.specs.Spelling.{blank_text}
use Rattle.nquads.specs.Lines.{canonical_lines}
use Rattle.nquads.specs.Texts.{label_in}
use Rattle.nquads.specs.Stored.{labels_by_text}
use Rattle.nquads.specs.declared.hashes.BlankHash.{BlankHash}
use Rattle.nquads.proofs.ReadingTerms.{blank_text_one_reading}
use Rattle.nquads.proofs.ReadingElements.{AllDiffer-map}
use Rattle.rdfc_ndegree.specs.Internal.Evaluations.{IsFaultOf}
use Rattle.rdfc_ndegree.specs.Issuers.{canonical_id}
use Rattle.rdfc_ndegree.specs.Run.{RunOutcome, IsRun, MeetsTie, WorkOver}
use Rattle.rdfc_ndegree.specs.Table.{IsClosed, names_of, table_nodes}
use Rattle.rdfc_ndegree.specs.TableOf.{IsTableWith, first_names}
use Rattle.rdfc_ndegree.specs.declared.limits.CanonFault.{CanonFault}
use Rattle.rdfc_ndegree.specs.declared.limits.Limits.{Limits}
use Rattle.rdfc_ndegree.specs.Table.{NodeRow}
use Rattle.rdfc_ndegree.proofs.Labels.{issuer-differs, issuer-covers, issuer-only}
use Rattle.rdfc_ndegree.proofs.Lawful.{nodes-lawful, blanks-all}
use Rattle.rdfc_ndegree.proofs.RunAgree.{runs-agree, tie-exactly}
use Rattle.rdfc_ndegree.proofs.RunCarry.{result_f}
use Rattle.rdfc_ndegree.proofs.TableCarry.{at, table-lawful, table-IsRun, table-issuer, table-WorkOver}
use Rattle.rdfc_canon.specs.Canon.{nodes, canonical_labels, canonical_ids, NameAll, AnswersRun}
use Rattle.rdfc_canon.specs.Internal.Form.{IsCanon}
use Rattle.rdfc_canon.specs.Internal.Labelling.{all_labels}
use Rattle.rdfc_canon.specs.Internal.Numbering.{AnswersNumbers}
use Rattle.rdfc_canon.specs.declared.canon.Canon.{Canon}
use Rattle.rdfc_ndegree.proofs.ProgressLaws.{same_fault}
use Rattle.rdfc_canon.proofs.Labels.{labels-made, labels-blanks, labels-length, numbered, label_in-is, lines-agree}

-- ---- the labels of a run

module _ (hash : Hash) (q : List Statement) (r : RunOutcome Blank) (d : IsRun (nodes hash q) r) where
  covers : (b : Blank) → StandsIn q b → Contains r.issuer b
  covers b k = issuer-covers (nodes-lawful (digits hash) q) r b d ((blanks-all q b).0 k)

  only : (b : Blank) → Contains r.issuer b → StandsIn q b
  only b k = (blanks-all q b).1 (issuer-only (nodes-lawful (digits hash) q) r b d k)

  differs : AllDiffer r.issuer
  differs = issuer-differs (nodes-lawful (digits hash) q) r d

  pub run-names : NameAll q (canonical_labels hash q r.issuer)
  run-names =
      let blanks = labels-blanks hash q r.issuer in
      record {
        each = λ b. (
          (λ k. subst (λ ts. Contains ts (blank_text b)) (sym blanks) (Contains-map blank_text r.issuer b (covers b k))),
          (λ k. let from = Contains-from_map blank_text r.issuer (blank_text b) (subst (λ ts. Contains ts (blank_text b)) blanks k) in
              subst (StandsIn q) (blank_text_one_reading from.0 b from.2) (only from.0 from.1)),
        );
        once = subst AllDiffer (sym blanks) (AllDiffer-map blank_text r.issuer (λ x y k l e. blank_text_one_reading x y e) differs);
        numbered = numbered hash q [] r.issuer differs refl ∙ ap canonical_ids (sym (labels-length hash q r.issuer));
      }

  pub run-lines : canonical_lines (label_in (canonical_labels hash q r.issuer)) q ≡ canonical_lines (canonical_id (nodes hash q) r.issuer) q
  run-lines = lines-agree hash q (label_in (canonical_labels hash q r.issuer)) (canonical_id (nodes hash q) r.issuer) (λ b k. label_in-is hash q r.issuer b (covers b k))

-- ---- from the table

-- the nodes of a table of a dataset stand in the dataset
pub all-stand : (hash : Hash) (q : List Statement) (names : List (List ℕ)) (rows : List NodeRow) (t : IsTableWith hash q names [] rows) → All (StandsIn q) t.nodes
all-stand hash q names rows t = All-weaker (λ b. StandsIn q b ⊎ Contains [] b) (StandsIn q) (λ b e. ⊎_elim (λ k. k) (λ k. absurd (Contains-nil b k)) e) t.nodes t.each

module _ (hash : Hash) (q : List Statement) (names : List (List ℕ)) (rows : List NodeRow) (t : IsTableWith hash q names [] rows) where
  pub run-there : (r : RunOutcome ℕ) → IsRun (table_nodes hash rows) r → IsRun (nodes hash q) (result_f (at t.nodes) r)
  run-there = table-IsRun hash q t.nodes rows t.table (all-stand hash q names rows t)

  pub work-there : (n : ℕ) → WorkOver (table_nodes hash rows) n → WorkOver (nodes hash q) n
  work-there = table-WorkOver hash q t.nodes rows t.table (all-stand hash q names rows t)

  pub labels-there : (texts : List (List ℕ)) → AllDiffer texts → (firsts : List BlankHash) → names_of rows ≡ first_names texts firsts → IsClosed rows → (r : RunOutcome ℕ) → IsRun (table_nodes hash rows) r → labels_by_text texts (all_labels firsts [] r.issuer) ≡ canonical_labels hash q (map (at t.nodes) r.issuer)
  labels-there texts differ firsts named closed r d =
      labels-made hash q texts differ firsts t.nodes rows t.table named r.issuer (issuer-differs (table-lawful hash rows closed) r d) (table-issuer hash q t.nodes rows t.table (all-stand hash q names rows t) r d)

-- What `canonicalise` has at hand: a run over the table, its labels, and lines under them.
pub record Answered (hash : Hash) (texts : List (List ℕ)) (q : List Statement) (firsts : List BlankHash) (rows : List NodeRow) (limits : Limits) (c : Canon) : Type 0 where
  pub issuer : List ℕ
  pub differ : AllDiffer texts
  pub table : IsTableWith hash q (first_names texts firsts) [] rows
  pub names : names_of rows ≡ first_names texts firsts
  pub closed : IsClosed rows
  pub numbers : AnswersNumbers (table_nodes hash rows) limits issuer c.tie c.work
  pub labels_are : c.labels ≡ all_labels firsts [] issuer
  pub lines_are : c.lines ≡ canonical_lines (label_in (labels_by_text texts c.labels)) q

module _ {hash : Hash} {texts : List (List ℕ)} {q : List Statement} {firsts : List BlankHash} {rows : List NodeRow} {limits : Limits} {c : Canon} (a : Answered hash texts q firsts rows limits c) where
  abbrev its_run : RunOutcome Blank
  its_run = result_f (at a.table.nodes) a.numbers.run

  is_run : IsRun (nodes hash q) its_run
  is_run = run-there hash q (first_names texts firsts) rows a.table a.numbers.run a.numbers.is_run

  labels_are : labels_by_text texts c.labels ≡ canonical_labels hash q its_run.issuer
  labels_are = ap (labels_by_text texts) (a.labels_are ∙ ap (all_labels firsts []) a.numbers.issuer_is) ∙ labels-there hash q (first_names texts firsts) rows a.table texts a.differ firsts a.names a.closed a.numbers.run a.numbers.is_run

  answers-run : AnswersRun hash texts q limits c
  answers-run = record {
    run = its_run;
    is_run = is_run;
    labels_are = labels_are;
    lines_are = a.lines_are ∙ ap (λ ls. canonical_lines (label_in ls) q) labels_are ∙ run-lines hash q its_run is_run;
    tie_is = a.numbers.tie_is;
    work_is = a.numbers.work_is;
    within_work = a.numbers.within_work;
  }

  answers-names : NameAll q (labels_by_text texts c.labels)
  answers-names = subst (NameAll q) (sym labels_are) (run-names hash q its_run is_run)

  answers-tie : (c.tie ≡ true) ↔ MeetsTie (nodes hash q)
  answers-tie =
      let exactly = tie-exactly is_run in
      ((λ e. exactly.0 (sym a.numbers.tie_is ∙ e)), (λ m. a.numbers.tie_is ∙ exactly.1 m))

  answers-every : c.tie ≡ false → (r : RunOutcome Blank) → IsRun (nodes hash q) r → labels_by_text texts c.labels ≡ canonical_labels hash q r.issuer
  answers-every e r d = labels_are ∙ ap (canonical_labels hash q) ((runs-agree is_run d).1 (sym a.numbers.tie_is ∙ e))

  -- the answer, with its four clauses
  pub is-canon : IsCanon hash texts q limits c
  is-canon = record { answers = answers-run; names = answers-names; tie = answers-tie; every = answers-every }

-- a limit that a run over the table exceeds, a run over the dataset exceeds
pub fault-carried : (hash : Hash) (q : List Statement) (names : List (List ℕ)) (rows : List NodeRow) (limits : Limits) (e : CanonFault) → IsTableWith hash q names [] rows → IsFaultOf limits (WorkOver (table_nodes hash rows)) e → IsFaultOf limits (WorkOver (nodes hash q)) e
fault-carried hash q names rows limits e t h = same_fault refl (work-there hash q names rows t) e h

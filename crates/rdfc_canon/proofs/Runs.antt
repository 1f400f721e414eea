-- The groups of a run: the start, a step and the end, and how a fault in mid-run is one of a whole run.
use Rattle.std.proofs.Common.{◌≡◌, ℕ, ◌+◌, ◌<◌, ◌≤◌, List, [], ◌∷◌, map, length, get_or, drop, All, Contains, Bool, false, ◌||◌, refl, sym, ap, ◌∙◌, subst, arith, drop_of_length-le}
use Rattle.std.proofs.Math.Bool.{or-false, or_assoc}
use Rattle.std.proofs.lemmas.List.Elements.{All-drop}
use Rattle.digest_mac.specs.declared.hash.Hash.{Hash}
use Rattle.rdfc_ndegree.specs.Nodes.{Nodes}
use Rattle.rdfc_ndegree.specs.Internal.Nodes.{AreNodes}
use Rattle.rdfc_ndegree.specs.Groups.{Group}
use Rattle.rdfc_ndegree.specs.NDegree.{Outcome}
use Rattle.rdfc_ndegree.proofs.Lack.{AreListed}
use Rattle.rdfc_ndegree.specs.Internal.Evaluations.{IsFaultOf}
use Rattle.rdfc_ndegree.specs.Table.{group_in}
use Rattle.rdfc_ndegree.specs.Run.{alone, first_groups, lacking, take_issuers, work_of, results_tie, RunOutcome, run_end, run_more, Rounds, IsRun, WorkOver}
use Rattle.rdfc_ndegree.specs.Table.{table_nodes}
use Rattle.rdfc_ndegree.specs.declared.limits.CanonFault.{CanonFault}
use Rattle.rdfc_ndegree.specs.declared.limits.Limits.{Limits}
use Rattle.rdfc_ndegree.specs.declared.limits.Meter.{Meter}
use Rattle.rdfc_ndegree.specs.declared.related.NodeGroup.{NodeGroup}
use Rattle.rdfc_ndegree.specs.Table.{NodeRow}
use Rattle.rdfc_ndegree.proofs.Exists.{in_hash_order, rounds-exist}
use Rattle.rdfc_ndegree.proofs.Loops.{Counting, counting-start, counting-turn}
use Rattle.rdfc_ndegree.proofs.Rows.{groups-rows}
use Rattle.rdfc_ndegree.proofs.ProgressLaws.{same_fault}
use Rattle.rdfc_canon.specs.Internal.Numbering.{AnswersRound, AnswersNumbers, HashesOver}
use Rattle.rdfc_ndegree.specs.Internal.Issuing.{issue_numbers}
use Rattle.rdfc_canon.proofs.Namings.{alone-named}
use Rattle.base_types.proofs.Lists.{drop-next}
use Rattle.rdfc_ndegree.specs.Internal.Progress.{spending_of}

-- a result with earlier groups in front: their tie and their work
abbrev pub run_after : {B : Type 0} → Bool → ℕ → RunOutcome B → RunOutcome B
run_after tie work r = record { issuer = r.issuer; tie = tie || r.tie; work = work + r.work }

-- In the run, the groups `rest` are left, with this canonical issuer and tie so far.
pub record Running {B : Type 0} (v : Nodes B) (c : List B) (tie : Bool) (rest : List (Group B)) (spent : ℕ) : Type 0 where
  pub goes_on : (r : RunOutcome B) → Rounds v c rest r → IsRun v (run_after tie spent r)

module _ {B : Type 0} (v : Nodes B) where
  adding-none : (r : RunOutcome B) → r ≡ run_after false 0 r
  adding-none r =
      let w : r.work ≡ 0 + r.work = omega arith in
      λ i. record { issuer = r.issuer; tie = r.tie; work = w i }

  adding-more : (tie tied : Bool) (spent next : ℕ) (os : List (Outcome B)) (r : RunOutcome B) → tied ≡ results_tie os → next ≡ spent + work_of os → run_after tie spent (run_more os r) ≡ run_after (tie || tied) next r
  adding-more tie tied spent next os r is new =
      let t = sym (or_assoc tie (results_tie os) r.tie) ∙ ap (λ b. (tie || b) || r.tie) (sym is) in
      let w : spent + (work_of os + r.work) ≡ next + r.work = omega arith in
      λ i. record { issuer = r.issuer; tie = t i; work = w i }

  pub running-start : (c : List B) (gs : List (Group B)) → c ≡ alone (first_groups v) → gs ≡ first_groups v → Running v c false gs 0
  running-start c gs begun all = record {
    goes_on = λ r d. subst (IsRun v) (adding-none r) (record { rounds = subst (λ hs. Rounds v (alone (first_groups v)) hs r) all (subst (λ e. Rounds v e gs r) begun d) });
  }

  pub running-turn : {c d : List B} {tie tied : Bool} {g : Group B} {gs : List (Group B)} {spent next : ℕ} → Running v c tie (g ∷ gs) spent → AnswersRound v c g.members d tied (spending_of spent next) → Running v d (tie || tied) gs next
  running-turn {tie = tie} {tied = tied} {gs = gs} {spent = spent} {next = next} w a =
      record {
        goes_on = λ r k.
            subst (IsRun v) (adding-more tie tied spent next a.outcomes r a.tie_is a.spent)
            (w.goes_on (run_more a.outcomes r) record { outcomes = a.outcomes; sorted = a.sorted; rest = r; hashed = a.hashed; order = a.order; in_order = a.in_order; goes_on = subst (λ e. Rounds v e gs r) a.issuer_is k; is = refl });
      }

  pub running-end : (limits : Limits) {c : List B} {tie : Bool} {spent : ℕ} → Running v c tie [] spent → spent ≤ limits.work → AnswersNumbers v limits c tie spent
  running-end limits {c = c} {tie = tie} {spent = spent} w fits =
      record {
        run = run_after tie spent (run_end c);
        is_run = w.goes_on (run_end c) refl;
        issuer_is = refl;
        tie_is = sym (or-false tie);
        work_is = omega arith;
        within_work = omega arith;
      }

module _ {B : Type 0} {v : Nodes B} (laws : AreNodes v) where
  pub running-over : {c : List B} {tie : Bool} {g : Group B} {gs : List (Group B)} {spent : ℕ} → ((h : Group B) → Contains gs h → AreListed v h.members) → Running v c tie (g ∷ gs) spent
      → (n : ℕ) → HashesOver v c (lacking v c g.members) spent n → WorkOver v n
  running-over {c = c} {tie = tie} {g = g} {gs = gs} {spent = spent} listed w n d =
      let sorted = in_hash_order d.outcomes in
      let rest = rounds-exist laws (take_issuers v c sorted.0) gs listed in
      let over : n < spent + work_of d.outcomes = d.over in
      record {
        run = run_after tie spent (run_more d.outcomes rest.0);
        is_run = w.goes_on (run_more d.outcomes rest.0) record { outcomes = d.outcomes; sorted = sorted.0; rest = rest.0; hashed = d.hashed; order = sorted.1; in_order = sorted.2; goes_on = rest.1; is = refl };
        over = omega arith;
      }

-- ---- with what the program has at hand

-- the loop over the groups `rest`
pub record InRunLoop (algorithm : Hash) (rows : List NodeRow) (c : List ℕ) (tie : Bool) (rest : List NodeGroup) (before meter : Meter) : Type 0 where
  pub counting : Counting before meter
  pub running : Running (table_nodes algorithm rows) c tie (map group_in rest) meter.spent

module _ (algorithm : Hash) (rows : List NodeRow) where
  pub run-start : (c : List ℕ) (gs : List NodeGroup) (meter : Meter) → meter.spent ≡ 0 → c ≡ issue_numbers [] (alone (map group_in gs)) → map group_in gs ≡ first_groups (table_nodes algorithm rows) → InRunLoop algorithm rows c false gs meter meter
  run-start c gs meter none begun all = record {
    counting = counting-start meter;
    running =
        subst (λ s. Running (table_nodes algorithm rows) c false (map group_in gs) s) (sym none)
        (running-start (table_nodes algorithm rows) c (map group_in gs) (begun ∙ alone-named algorithm rows (map group_in gs) all) all);
  }

  pub run-turn : (gs : List NodeGroup) (k : ℕ) (g : NodeGroup) {c : List ℕ} {tie : Bool} {before meter : Meter} (d : List ℕ) (tied : Bool) (next : Meter) → k < length gs → g ≡ get_or gs k g
      → InRunLoop algorithm rows c tie (drop k gs) before meter → AnswersRound (table_nodes algorithm rows) c g.members d tied (spending_of meter.spent next.spent)
      → next.limits ≡ meter.limits → (meter.spent ≤ meter.limits.work → next.spent ≤ meter.limits.work)
      → InRunLoop algorithm rows d (tie || tied) (drop (k + 1) gs) before next
  run-turn gs k g {c = c} {tie = tie} {before = before} {meter = meter} d tied next lt is w a same kept = record {
    counting = let sum = a.spent in counting-turn w.counting same (omega arith) kept;
    running =
        running-turn (table_nodes algorithm rows)
        (subst (λ r. Running (table_nodes algorithm rows) c tie (map group_in r) meter.spent) (drop-next gs k g lt is) w.running) a;
  }

  pub run-fault : AreNodes (table_nodes algorithm rows) → (gs : List NodeGroup) (k : ℕ) (g : NodeGroup) {c : List ℕ} {tie : Bool} {before meter : Meter} → k < length gs → g ≡ get_or gs k g
      → All (λ (h : NodeGroup). All (λ m. m < length rows) h.members) gs → InRunLoop algorithm rows c tie (drop k gs) before meter → (e : CanonFault)
      → IsFaultOf meter.limits (HashesOver (table_nodes algorithm rows) c (lacking (table_nodes algorithm rows) c g.members) meter.spent) e
      → IsFaultOf before.limits (WorkOver (table_nodes algorithm rows)) e
  run-fault laws gs k g {c = c} {tie = tie} {before = before} {meter = meter} lt is all w e h =
      let here : Running (table_nodes algorithm rows) c tie (group_in g ∷ map group_in (drop (k + 1) gs)) meter.spent =
      subst (λ r. Running (table_nodes algorithm rows) c tie (map group_in r) meter.spent) (drop-next gs k g lt is) w.running in
      let listed = groups-rows algorithm rows (drop (k + 1) gs) (All-drop (λ (x : NodeGroup). All (λ m. m < length rows) x.members) (k + 1) gs all) in
      same_fault w.counting.limits (λ n d. running-over laws listed here n d) e h

  pub run-finish : (gs : List NodeGroup) (k : ℕ) {c : List ℕ} {tie : Bool} {before meter : Meter} → length gs ≤ k → before.spent ≡ 0 → InRunLoop algorithm rows c tie (drop k gs) before meter
      → AnswersNumbers (table_nodes algorithm rows) before.limits c tie meter.spent
  run-finish gs k {c = c} {tie = tie} {before = before} {meter = meter} past none w =
      let fits : before.spent ≤ before.limits.work = omega arith in
      running-end (table_nodes algorithm rows) before.limits (subst (λ r. Running (table_nodes algorithm rows) c tie (map group_in r) meter.spent) (drop_of_length-le gs past) w.running) (w.counting.kept fits)

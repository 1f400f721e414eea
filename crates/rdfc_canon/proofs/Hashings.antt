-- The calls of a group's members: the start, a step and the end, and how a fault in mid-run is one of all calls.
use Rattle.std.proofs.Common.{◌≡◌, ℕ, ◌+◌, ◌<◌, ◌≤◌, List, [], ◌∷◌, ◌++◌, length, get_or, drop, All, Bool, true, false, ◌==◌, not, cond, refl, sym, ap, ◌∙◌, subst, arith, append-nil, append_assoc, drop_of_length-le, Option, Some, None, Result, Err, if◌then◌else◌}
use Rattle.std.specs.List.{AllZip, list_any}
use Rattle.std.specs.List.Sorted.{IsPermutation, IsSortedByKey}
use Rattle.std.specs.Option.{is_some}
use Rattle.std.proofs.lemmas.List.Elements.{All-drop}
use Rattle.base_types.proofs.Orders.{text_cmp}
use Rattle.digest_mac.specs.declared.hash.Hash.{Hash}
use Rattle.rdfc_ndegree.specs.Nodes.{Nodes}
use Rattle.rdfc_ndegree.specs.Internal.Nodes.{AreNodes}
use Rattle.rdfc_ndegree.specs.Issuers.{has}
use Rattle.rdfc_ndegree.specs.NDegree.{Outcome}
use Rattle.rdfc_ndegree.proofs.Lack.{AreListed}
use Rattle.rdfc_ndegree.specs.Answers.{answer, Spending, AnswersCall, CallOver}
use Rattle.rdfc_ndegree.specs.Internal.Evaluations.{IsFaultOf}
use Rattle.rdfc_ndegree.specs.Run.{lacking, work_of}
use Rattle.rdfc_ndegree.specs.Table.{table_nodes}
use Rattle.rdfc_ndegree.specs.declared.limits.CanonFault.{CanonFault}
use Rattle.rdfc_ndegree.specs.declared.limits.CanonFault.TheVariants as fault
use Rattle.rdfc_ndegree.specs.declared.limits.Limits.{Limits}
use Rattle.rdfc_ndegree.specs.declared.limits.Meter.{Meter}
use Rattle.rdfc_ndegree.specs.declared.path.NodePath.{NodePath}
use Rattle.rdfc_ndegree.specs.Table.{NodeRow}
use Rattle.rdfc_ndegree.proofs.Membership.{AllZip-append}
use Rattle.rdfc_ndegree.proofs.Permutations.{AllZip-permutation}
use Rattle.rdfc_ndegree.proofs.Exists.{results-exist, lacking-listed}
use Rattle.rdfc_ndegree.proofs.Loops.{Counting, counting-turn}
use Rattle.rdfc_ndegree.proofs.Rows.{rows-listed}
use Rattle.rdfc_ndegree.proofs.ProgressLaws.{same_fault}
use Rattle.rdfc_ndegree.proofs.Tables.{table-has}
use Rattle.rdfc_ndegree.proofs.Walks.{drop-next}
use Rattle.rdfc_ndegree.proofs.RunCarry.{results_tie-permuted}
use Rattle.rdfc_canon.specs.Internal.Numbering.{HashesAlone, IsPathOf, AnswersHashes, AnswersRound, HashesOver, issue_paths, neighbours_tie}
use Rattle.rdfc_canon.proofs.Namings.{name_each-take}
use Rattle.rdfc_canon.proofs.Sorting.{Up-from_sorted, order-from_Up, neighbours-results}
use Rattle.rdfc_ndegree.specs.Internal.Progress.{spending_of}

-- In the calls of a group's members, the members `rest` are left, with these paths so far.
pub record Hashing (v : Nodes ℕ) (c members : List ℕ) (paths : List NodePath) (rest : List ℕ) (old spent : ℕ) : Type 0 where
  pub done : List (Outcome ℕ)
  pub goes_on : (os : List (Outcome ℕ)) → AllZip (HashesAlone v c) (lacking v c rest) os → AllZip (HashesAlone v c) (lacking v c members) (done ++ os)
  pub paths_are : AllZip IsPathOf paths done
  pub spent_is : spent ≡ old + work_of done

-- the work of two lists of outcomes is the sum
pub work_of-append : (os ps : List (Outcome ℕ)) → work_of (os ++ ps) ≡ work_of os + work_of ps
work_of-append [] ps = omega arith
work_of-append (o ∷ os) ps = let rest : work_of (os ++ ps) ≡ work_of os + work_of ps = work_of-append os ps in omega arith

module _ (v : Nodes ℕ) (c : List ℕ) where
  lacking-new : (m : ℕ) (ms : List ℕ) → has v c m ≡ false → lacking v c (m ∷ ms) ≡ m ∷ lacking v c ms
  lacking-new m ms e = ap (λ b. cond (not b) (m ∷ lacking v c ms) (lacking v c ms)) e

  lacking-old : (m : ℕ) (ms : List ℕ) → has v c m ≡ true → lacking v c (m ∷ ms) ≡ lacking v c ms
  lacking-old m ms e = ap (λ b. cond (not b) (m ∷ lacking v c ms) (lacking v c ms)) e

  pub hashing-start : (members : List ℕ) (spent : ℕ) → Hashing v c members [] members spent spent
  hashing-start members spent = record { done = []; goes_on = λ os z. z; paths_are = tt; spent_is = omega arith }

  pub hashing-skip : {members rest : List ℕ} {paths : List NodePath} {m old spent : ℕ} → has v c m ≡ true → Hashing v c members paths (m ∷ rest) old spent → Hashing v c members paths rest old spent
  hashing-skip {members = members} {rest = rest} {m = m} e w = record {
    done = w.done;
    goes_on = λ os z. w.goes_on os (subst (λ ns. AllZip (HashesAlone v c) ns os) (sym (lacking-old m rest e)) z);
    paths_are = w.paths_are;
    spent_is = w.spent_is;
  }

  -- a call that answered goes to the end
  goes_further : {members rest : List ℕ} {paths : List NodePath} {m old spent : ℕ} → has v c m ≡ false → (w : Hashing v c members paths (m ∷ rest) old spent) → (o : Outcome ℕ) → HashesAlone v c m o
      → (os : List (Outcome ℕ)) → AllZip (HashesAlone v c) (lacking v c rest) os → AllZip (HashesAlone v c) (lacking v c members) (w.done ++ o ∷ os)
  goes_further {rest = rest} {m = m} e w o h os z = w.goes_on (o ∷ os) (subst (λ ns. AllZip (HashesAlone v c) ns (o ∷ os)) (sym (lacking-new m rest e)) (h, z))

  pub hashing-turn : {members rest : List ℕ} {paths : List NodePath} {m old spent : ℕ} (path : NodePath) (next : ℕ) → has v c m ≡ false → Hashing v c members paths (m ∷ rest) old spent
      → AnswersCall v c m (m ∷ []) (answer path.hash path.issuer path.tie) (spending_of spent next) → Hashing v c members (paths ++ path ∷ []) rest old next
  hashing-turn {members = members} {rest = rest} {paths = paths} {m = m} {old = old} {spent = spent} path next e w a =
      let work : work_of (w.done ++ a.outcome ∷ []) ≡ work_of w.done + (a.outcome.work + 0) = work_of-append w.done (a.outcome ∷ []) in
      let before : spent ≡ old + work_of w.done = w.spent_is in
      let after : next ≡ spent + a.outcome.work = a.spent in
      record {
        done = w.done ++ a.outcome ∷ [];
        goes_on = λ os z. subst (AllZip (HashesAlone v c) (lacking v c members)) (sym (append_assoc w.done (a.outcome ∷ []) os)) (goes_further e w a.outcome a.call os z);
        paths_are = AllZip-append IsPathOf paths (path ∷ []) w.done (a.outcome ∷ []) w.paths_are (record { hash = a.hash_is; issuer = a.issuer_is; tie = a.tie_is }, tt);
        spent_is = omega arith;
      }

  pub hashing-end : {members : List ℕ} {paths : List NodePath} {old spent : ℕ} → Hashing v c members paths [] old spent → AnswersHashes v c (lacking v c members) paths (spending_of old spent)
  hashing-end {members = members} w = record {
    outcomes = w.done;
    hashed = subst (AllZip (HashesAlone v c) (lacking v c members)) (append-nil w.done) (w.goes_on [] tt);
    paths_are = w.paths_are;
    spent = w.spent_is;
  }

  pub hashing-over : AreNodes v → {members rest : List ℕ} {paths : List NodePath} {m old spent : ℕ} → has v c m ≡ false → Hashing v c members paths (m ∷ rest) old spent → AreListed v rest
      → (n : ℕ) → CallOver v c m (m ∷ []) spent n → HashesOver v c (lacking v c members) old n
  hashing-over laws {rest = rest} {old = old} {spent = spent} e w listed n d =
      let later = results-exist laws c (lacking v c rest) (lacking-listed laws c rest listed) in
      let work : work_of (w.done ++ d.outcome ∷ later.0) ≡ work_of w.done + (d.outcome.work + work_of later.0) = work_of-append w.done (d.outcome ∷ later.0) in
      let before : spent ≡ old + work_of w.done = w.spent_is in
      let over : n < spent + d.outcome.work = d.over in
      record { outcomes = w.done ++ d.outcome ∷ later.0; hashed = goes_further e w d.outcome d.call later.0 later.1; over = omega arith }

-- ---- with what the program has at hand

-- what the clauses of a call say of its fault
pub fault-of : {A : Type 0} (r : Result A CanonFault) (e : CanonFault) (limits : Limits) (over : ℕ → Type 0) → r ≡ Err e
    → ((n : ℕ) → r ≡ Err (fault.TooMuchWork n) → (n ≡ limits.work) × over n) → IsFaultOf limits over e
fault-of r (fault.TooMuchWork n) limits over is w = w n is
fault-of r fault.Memory limits over is w = tt

-- the loop over the members `rest`
pub record InHashLoop (algorithm : Hash) (rows : List NodeRow) (c members : List ℕ) (paths : List NodePath) (rest : List ℕ) (before meter : Meter) : Type 0 where
  pub counting : Counting before meter
  pub hashing : Hashing (table_nodes algorithm rows) c members paths rest before.spent meter.spent

module _ (algorithm : Hash) (rows : List NodeRow) where
  none_if : (b : Bool) (k : ℕ) → is_some (if b then Some k else None) ≡ false → b ≡ false
  none_if true k e = e
  none_if false k e = refl

  some_if : (b : Bool) (k : ℕ) → is_some (if b then Some k else None) ≡ true → b ≡ true
  some_if true k e = refl
  some_if false k e = e

  pub number-none : (c : List ℕ) (n k : ℕ) (o : Option ℕ) → o ≡ (if list_any (λ m. m == n) c then Some k else None) → is_some o ≡ false → has (table_nodes algorithm rows) c n ≡ false
  number-none c n k o is e = table-has algorithm rows c n ∙ none_if (list_any (λ m. m == n) c) k (ap is_some (sym is) ∙ e)

  pub number-some : (c : List ℕ) (n k : ℕ) (o : Option ℕ) → o ≡ (if list_any (λ m. m == n) c then Some k else None) → is_some o ≡ true → has (table_nodes algorithm rows) c n ≡ true
  number-some c n k o is e = table-has algorithm rows c n ∙ some_if (list_any (λ m. m == n) c) k (ap is_some (sym is) ∙ e)

  pub hash-skip : (c ms : List ℕ) (k m : ℕ) {paths : List NodePath} {before meter : Meter} → k < length ms → m ≡ get_or ms k 0 → has (table_nodes algorithm rows) c m ≡ true
      → InHashLoop algorithm rows c ms paths (drop k ms) before meter → InHashLoop algorithm rows c ms paths (drop (k + 1) ms) before meter
  hash-skip c ms k m {paths = paths} {before = before} {meter = meter} lt is e w = record {
    counting = w.counting;
    hashing = hashing-skip (table_nodes algorithm rows) c e (subst (λ ns. Hashing (table_nodes algorithm rows) c ms paths ns before.spent meter.spent) (drop-next ms k m lt is) w.hashing);
  }

  pub hash-turn : (c ms : List ℕ) (k m : ℕ) {paths : List NodePath} {before meter : Meter} (path : NodePath) (next : Meter) → k < length ms → m ≡ get_or ms k 0 → has (table_nodes algorithm rows) c m ≡ false
      → InHashLoop algorithm rows c ms paths (drop k ms) before meter
      → AnswersCall (table_nodes algorithm rows) c m (m ∷ []) (answer path.hash path.issuer path.tie) (spending_of meter.spent next.spent)
      → next.limits ≡ meter.limits → (meter.spent ≤ meter.limits.work → next.spent ≤ meter.limits.work)
      → InHashLoop algorithm rows c ms (paths ++ path ∷ []) (drop (k + 1) ms) before next
  hash-turn c ms k m {paths = paths} {before = before} {meter = meter} path next lt is e w a same kept = record {
    counting = let sum = a.spent in counting-turn w.counting same (omega arith) kept;
    hashing =
        hashing-turn (table_nodes algorithm rows) c path next.spent e
        (subst (λ ns. Hashing (table_nodes algorithm rows) c ms paths ns before.spent meter.spent) (drop-next ms k m lt is) w.hashing) a;
  }

  pub hash-fault : AreNodes (table_nodes algorithm rows) → (c ms : List ℕ) (k m : ℕ) {paths : List NodePath} {before meter : Meter} → k < length ms → m ≡ get_or ms k 0 → has (table_nodes algorithm rows) c m ≡ false
      → All (λ x. x < length rows) ms → InHashLoop algorithm rows c ms paths (drop k ms) before meter → (e : CanonFault)
      → IsFaultOf meter.limits (CallOver (table_nodes algorithm rows) c m (m ∷ []) meter.spent) e
      → IsFaultOf before.limits (HashesOver (table_nodes algorithm rows) c (lacking (table_nodes algorithm rows) c ms) before.spent) e
  hash-fault laws c ms k m {paths = paths} {before = before} {meter = meter} lt is new all w e h =
      let here = subst (λ ns. Hashing (table_nodes algorithm rows) c ms paths ns before.spent meter.spent) (drop-next ms k m lt is) w.hashing in
      let listed = rows-listed algorithm rows (drop (k + 1) ms) (All-drop (λ x. x < length rows) (k + 1) ms all) in
      same_fault w.counting.limits (λ n d. hashing-over (table_nodes algorithm rows) c laws new here listed n d) e h

  pub hash-end : (c ms : List ℕ) (k : ℕ) {paths : List NodePath} {before meter : Meter} → length ms ≤ k → InHashLoop algorithm rows c ms paths (drop k ms) before meter
      → AnswersHashes (table_nodes algorithm rows) c (lacking (table_nodes algorithm rows) c ms) paths (spending_of before.spent meter.spent)
  hash-end c ms k {paths = paths} {before = before} {meter = meter} past w =
      hashing-end (table_nodes algorithm rows) c (subst (λ ns. Hashing (table_nodes algorithm rows) c ms paths ns before.spent meter.spent) (drop_of_length-le ms past) w.hashing)

  -- the results, put in hash order, and what is made of them
  pub round-is : (c members d : List ℕ) (paths sorted : List NodePath) (tie : Bool) (s : Spending) → AnswersHashes (table_nodes algorithm rows) c (lacking (table_nodes algorithm rows) c members) paths s
      → IsPermutation paths sorted → IsSortedByKey (λ (p : NodePath). p.hash) text_cmp sorted → tie ≡ neighbours_tie sorted → d ≡ issue_paths c sorted
      → AnswersRound (table_nodes algorithm rows) c members d tie s
  round-is c members d paths sorted tie s h moved up tie_is issuer_is =
      let along = AllZip-permutation IsPathOf paths sorted moved h.outcomes h.paths_are in
      let rises = Up-from_sorted sorted up in
      record {
        outcomes = h.outcomes;
        sorted = along.others;
        hashed = h.hashed;
        order = along.order;
        in_order = order-from_Up sorted along.others along.zipped rises;
        issuer_is = issuer_is ∙ name_each-take algorithm rows c sorted along.others along.zipped;
        tie_is = tie_is ∙ neighbours-results sorted along.others along.zipped rises ∙ sym (results_tie-permuted h.outcomes along.others along.order);
        spent = h.spent;
      }

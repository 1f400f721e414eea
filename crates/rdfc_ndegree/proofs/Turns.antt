-- The loop over the stack: what it keeps, and its turns with what the program has at hand.
use Rattle.std.proofs.Common.{◌≡◌, ℕ, ◌<◌, ◌≤◌, List, [], ◌∷◌, ◌++◌, Bool, true, All, length, refl, sym, subst}
use Rattle.digest_mac.specs.declared.hash.Hash.{Hash}
use Rattle.rdfc_ndegree.specs.Table.{NodeRow}
use Rattle.rdfc_ndegree.specs.declared.limits.Meter.{Meter}
use Rattle.rdfc_ndegree.specs.declared.limits.CanonFault.{CanonFault}
use Rattle.rdfc_ndegree.specs.declared.path.NodePath.{NodePath}
use Rattle.rdfc_ndegree.specs.declared.moves.Waiting.{Waiting}
use Rattle.rdfc_ndegree.specs.declared.moves.Question.{Question}
use Rattle.rdfc_ndegree.specs.declared.moves.Reply.{Reply}
use Rattle.rdfc_ndegree.specs.declared.moves.Reply.TheVariants as reply
use Rattle.rdfc_ndegree.specs.declared.moves.Move.{Move}
use Rattle.rdfc_ndegree.specs.declared.moves.Move.TheVariants as move
use Rattle.rdfc_ndegree.specs.Table.{table_nodes}
use Rattle.rdfc_ndegree.specs.Answers.{answer, AnswersCall}
use Rattle.rdfc_ndegree.specs.Internal.Nodes.{AreNodes}
use Rattle.rdfc_ndegree.specs.Internal.Progress.{spending_of}
use Rattle.rdfc_ndegree.specs.Internal.Frames.{setting, Task, call_task, task_of, IsFit, Answers, IsTaskFault, Waits, is_reply_to, call_reply, Moves, OnStack}
use Rattle.rdfc_ndegree.proofs.Loops.{Counting, counting-start, counting-turn}
use Rattle.rdfc_ndegree.proofs.Rows.{row-listed, rows-listed, listed-rows}
use Rattle.rdfc_ndegree.proofs.Labels.{IsNDegree-lists}
use Rattle.rdfc_ndegree.proofs.Stacks.{asked-fit, asked-on, asked-fault, given-kind, given-on, given-fault, stack-end}

-- the stack was begun for the task `whole` with the meter `before`
pub record InLoop (algorithm : Hash) (rows : List NodeRow) (c : List ℕ) (whole : Task) (before now : Meter) (stack : List Waiting) (issuer : List ℕ) (next : Move) : Type 0 where
  pub counting : Counting before now
  pub on_stack : OnStack (setting algorithm rows c before.limits) whole stack issuer now.spent next

module _ {algorithm : Hash} {rows : List NodeRow} {c : List ℕ} {whole : Task} {before now : Meter} {stack : List Waiting} {issuer : List ℕ} {next : Move} where
  -- ---- something asks

  -- what is asked may be begun
  pub loop-fit : {w : Waiting} {q : Question} → AreNodes (table_nodes algorithm rows) → InLoop algorithm rows c whole before now stack issuer next → next ≡ move.Waits w q → IsFit (setting algorithm rows c now.limits) (task_of q issuer now.spent)
  loop-fit {q = q} laws k is = subst (λ l. IsFit (setting algorithm rows c l) (task_of q issuer now.spent)) (sym k.counting.limits) (asked-fit laws k.on_stack is)

  -- what asks stands on the stack when it is begun
  pub loop-asked : {w : Waiting} {q : Question} (stack' : List Waiting) (issuer' : List ℕ) (later : Meter) (next' : Move) → InLoop algorithm rows c whole before now stack issuer next → next ≡ move.Waits w q → stack' ≡ stack ++ w ∷ []
      → later.limits ≡ now.limits → now.spent ≤ later.spent → (now.spent ≤ now.limits.work → later.spent ≤ now.limits.work) → Moves (setting algorithm rows c now.limits) (task_of q issuer now.spent) issuer' later.spent next' → InLoop algorithm rows c whole before later stack' issuer' next'
  loop-asked {q = q} stack' issuer' later next' k is pushed same up kept moves = record {
    counting = counting-turn k.counting same up kept;
    on_stack = asked-on stack' issuer' later.spent next' k.on_stack is pushed (subst (λ l. Moves (setting algorithm rows c l) (task_of q issuer now.spent) issuer' later.spent next') k.counting.limits moves);
  }

  -- a fault in what is asked
  pub loop-asked_fault : {w : Waiting} {q : Question} → AreNodes (table_nodes algorithm rows) → InLoop algorithm rows c whole before now stack issuer next → next ≡ move.Waits w q → (e : CanonFault) → IsTaskFault (setting algorithm rows c now.limits) (task_of q issuer now.spent) e → IsTaskFault (setting algorithm rows c before.limits) whole e
  loop-asked_fault {q = q} laws k is e f = asked-fault laws k.on_stack is e (subst (λ l. IsTaskFault (setting algorithm rows c l) (task_of q issuer now.spent) e) k.counting.limits f)

  -- ---- a reply is given

  -- it is of the right kind
  pub loop-kind : (stack' : List Waiting) (w : Waiting) {r : Reply} → InLoop algorithm rows c whole before now stack issuer next → next ≡ move.Gives r → stack ≡ stack' ++ w ∷ [] → is_reply_to w r ≡ true
  loop-kind stack' w k is popped = given-kind stack' w k.on_stack is popped

  -- what waited goes on
  pub loop-given : (stack' : List Waiting) (w : Waiting) {r : Reply} (issuer' : List ℕ) (later : Meter) (next' : Move) → InLoop algorithm rows c whole before now stack issuer next → next ≡ move.Gives r → stack ≡ stack' ++ w ∷ []
      → later.limits ≡ now.limits → now.spent ≤ later.spent → (now.spent ≤ now.limits.work → later.spent ≤ now.limits.work)
      → ((task part : Task) → Waits (setting algorithm rows c now.limits) w task part → Answers (setting algorithm rows c now.limits) part r issuer now.spent → Moves (setting algorithm rows c now.limits) task issuer' later.spent next') → InLoop algorithm rows c whole before later stack' issuer' next'
  loop-given stack' w {r = r} issuer' later next' k is popped same up kept moves = record {
    counting = counting-turn k.counting same up kept;
    on_stack = given-on stack' w issuer' later.spent next' k.on_stack is popped
        (subst (λ l. (task part : Task) → Waits (setting algorithm rows c l) w task part → Answers (setting algorithm rows c l) part r issuer now.spent → Moves (setting algorithm rows c l) task issuer' later.spent next') k.counting.limits moves);
  }

  -- a fault in what waited
  pub loop-given_fault : (stack' : List Waiting) (w : Waiting) {r : Reply} → AreNodes (table_nodes algorithm rows) → InLoop algorithm rows c whole before now stack issuer next → next ≡ move.Gives r → stack ≡ stack' ++ w ∷ [] → (e : CanonFault)
      → ((task part : Task) → Waits (setting algorithm rows c now.limits) w task part → Answers (setting algorithm rows c now.limits) part r issuer now.spent → IsTaskFault (setting algorithm rows c now.limits) task e) → IsTaskFault (setting algorithm rows c before.limits) whole e
  loop-given_fault stack' w {r = r} laws k is popped e f =
      given-fault stack' w laws k.on_stack is popped e
      (subst (λ l. (task part : Task) → Waits (setting algorithm rows c l) w task part → Answers (setting algorithm rows c l) part r issuer now.spent → IsTaskFault (setting algorithm rows c l) task e) k.counting.limits f)

-- ---- the ends of the loop

-- a call begins with nothing on the stack
pub loop-start : (algorithm : Hash) (rows : List NodeRow) (c : List ℕ) (whole : Task) (before : Meter) (stack : List Waiting) (issuer : List ℕ) (next : Move) → stack ≡ [] → Moves (setting algorithm rows c before.limits) whole issuer before.spent next → InLoop algorithm rows c whole before before stack issuer next
loop-start algorithm rows c whole before stack issuer next empty moves = record {
  counting = counting-start before;
  on_stack = subst (λ ws. OnStack (setting algorithm rows c before.limits) whole ws issuer before.spent next) (sym empty) record { task = whole; stands = refl; moves = moves };
}

module _ {algorithm : Hash} {rows : List NodeRow} {c : List ℕ} {n : ℕ} {i : List ℕ} {before now : Meter} {stack : List Waiting} {issuer : List ℕ} {next : Move} {r : Reply} where
  loop-end : InLoop algorithm rows c (call_task n i before.spent) before now stack issuer next → next ≡ move.Gives r → stack ≡ [] → Answers (setting algorithm rows c before.limits) (call_task n i before.spent) r issuer now.spent
  loop-end k is empty = stack-end k.on_stack is empty

  -- it ends with the reply of the call
  pub loop-answer : (p : NodePath) → InLoop algorithm rows c (call_task n i before.spent) before now stack issuer next → next ≡ move.Gives r → stack ≡ [] → r ≡ reply.Call (call_reply p.hash p.tie) → p.issuer ≡ issuer
      → AnswersCall (table_nodes algorithm rows) c n i (answer p.hash p.issuer p.tie) (spending_of before.spent now.spent)
  loop-answer p k is empty same named =
      let given = subst (λ x. Answers (setting algorithm rows c before.limits) (call_task n i before.spent) x issuer now.spent) same (loop-end k is empty) in
      subst (λ j. AnswersCall (table_nodes algorithm rows) c n i (answer p.hash j p.tie) (spending_of before.spent now.spent)) (sym named) given

-- an answer's issuer names rows, where the call was begun with one that does
pub answer-inside : (algorithm : Hash) (rows : List NodeRow) → AreNodes (table_nodes algorithm rows) → {c : List ℕ} {n : ℕ} {i hash issuer : List ℕ} {tie : Bool} {old new : ℕ} → AnswersCall (table_nodes algorithm rows) c n i (answer hash issuer tie) (spending_of old new)
    → n < length rows → All (λ k. k < length rows) i → All (λ k. k < length rows) issuer
answer-inside algorithm rows laws {c = c} {n = n} {i = i} a lt all =
    subst (All (λ k. k < length rows)) (sym a.issuer_is) (listed-rows algorithm rows a.outcome.issuer (IsNDegree-lists laws c n i a.outcome (row-listed algorithm rows n lt) (rows-listed algorithm rows i all) a.call))

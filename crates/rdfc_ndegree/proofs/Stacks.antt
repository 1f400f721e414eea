-- The stack of what waits: one more on it, the highest taken off it, and a fault through all of it.
use Rattle.std.proofs.Common.{◌≡◌, ℕ, ◌+◌, List, [], ◌∷◌, ◌++◌, true, refl, sym, subst}
use Rattle.base_types.proofs.Lists.{Contains-here, Contains-there}
use Rattle.rdfc_ndegree.specs.Internal.Nodes.{AreNodes}
use Rattle.rdfc_ndegree.specs.Internal.Frames.{Setting, Task, call_task, choice_task, trail_task, task_of, IsFit, Answers, IsTaskFault, members_left, groups_left, group_with, Waits, is_reply_to, Stands, Moves, OnStack}
use Rattle.rdfc_ndegree.specs.declared.limits.CanonFault.{CanonFault}
use Rattle.rdfc_ndegree.specs.declared.moves.ChoiceState.{ChoiceState}
use Rattle.rdfc_ndegree.specs.declared.moves.CallState.{CallState}
use Rattle.rdfc_ndegree.specs.declared.moves.TrailState.{TrailState}
use Rattle.rdfc_ndegree.specs.declared.moves.Waiting.{Waiting}
use Rattle.rdfc_ndegree.specs.declared.moves.Waiting.TheVariants as waiting
use Rattle.rdfc_ndegree.specs.declared.moves.Question.{Question}
use Rattle.rdfc_ndegree.specs.declared.moves.Reply.{Reply}
use Rattle.rdfc_ndegree.specs.declared.moves.Reply.TheVariants as reply
use Rattle.rdfc_ndegree.specs.declared.moves.Move.{Move}
use Rattle.rdfc_ndegree.specs.declared.moves.Move.TheVariants as move
use Rattle.rdfc_ndegree.proofs.ProgressLaws.{walking-fault, choosing-fault, grouping-fault, listed-arrangement}

-- ---- kinds of replies

choice-replies : (s : Setting) (t : CallState) (hash i members : List ℕ) (before : ℕ) (now : List ℕ) (after : ℕ) (r : Reply) → Answers s (choice_task i members before) r now after → is_reply_to (waiting.Call t hash) r ≡ true
choice-replies s t hash i members before now after (reply.Call p) h = absurd h
choice-replies s t hash i members before now after (reply.Choice x) h = refl
choice-replies s t hash i members before now after (reply.Trail e) h = absurd h

trail-replies : (s : Setting) (t : ChoiceState) (i p : List ℕ) (before : ℕ) (now : List ℕ) (after : ℕ) (r : Reply) → Answers s (trail_task i p before) r now after → is_reply_to (waiting.Choice t) r ≡ true
trail-replies s t i p before now after (reply.Call q) h = absurd h
trail-replies s t i p before now after (reply.Choice x) h = absurd h
trail-replies s t i p before now after (reply.Trail e) h = refl

call-replies : (s : Setting) (t : TrailState) (kept n : ℕ) (i : List ℕ) (before : ℕ) (now : List ℕ) (after : ℕ) (r : Reply) → Answers s (call_task n i before) r now after → is_reply_to (waiting.Trail t kept) r ≡ true
call-replies s t kept n i before now after (reply.Call p) h = refl
call-replies s t kept n i before now after (reply.Choice x) h = absurd h
call-replies s t kept n i before now after (reply.Trail e) h = absurd h

-- a reply to what is asked is one that what waits can go on with
waits-reply : (s : Setting) (w : Waiting) (whole part : Task) (r : Reply) (now : List ℕ) (after : ℕ) → Waits s w whole part → Answers s part r now after → is_reply_to w r ≡ true
waits-reply s (waiting.Call t hash) whole part r now after h a =
    choice-replies s t hash h.current h.members h.spent now after r (subst (λ z. Answers s z r now after) h.part_is a)
waits-reply s (waiting.Choice t) whole part r now after h a =
    trail-replies s t h.issuer h.arrangement (h.spent + 1) now after r (subst (λ z. Answers s z r now after) h.part_is a)
waits-reply s (waiting.Trail t kept) whole part r now after h a =
    call-replies s t kept h.member h.current h.spent now after r (subst (λ z. Answers s z r now after) h.part_is a)

-- ---- what is asked, and faults in it

-- what is asked may be begun
waits-fit : (s : Setting) → AreNodes s.nodes → (w : Waiting) (whole part : Task) → Waits s w whole part → IsFit s part
waits-fit s laws (waiting.Call t hash) whole part h =
    subst (IsFit s) (sym h.part_is) (h.stands.listed (group_with hash h.members) (Contains-here (group_with hash h.members) (groups_left t)))
waits-fit s laws (waiting.Choice t) whole part h =
    let k = h.stands.choosing in
    subst (IsFit s) (sym h.part_is) (listed-arrangement laws s.canonical h.members h.arrangement k.done t.left k.all h.stands.listed)
waits-fit s laws (waiting.Trail t kept) whole part h =
    subst (IsFit s) (sym h.part_is) (h.stands.listed h.member (Contains-here h.member (members_left t)))

-- a fault in what is asked is one in what waits for it
waits-fault : (s : Setting) → AreNodes s.nodes → (w : Waiting) (whole part : Task) → Waits s w whole part → (e : CanonFault) → IsTaskFault s part e → IsTaskFault s whole e
waits-fault s laws (waiting.Call t hash) whole part h e f =
    let inner : IsTaskFault s (choice_task h.current h.members h.spent) e = subst (λ z. IsTaskFault s z e) h.part_is f in
    subst (λ z. IsTaskFault s z e) (sym h.whole_is)
    (grouping-fault laws s.canonical h.stands.grouping (λ g k. h.stands.listed g (Contains-there (group_with hash h.members) (groups_left t) g k)) refl e inner)
waits-fault s laws (waiting.Choice t) whole part h e f =
    let inner : IsTaskFault s (trail_task h.issuer h.arrangement (h.spent + 1)) e = subst (λ z. IsTaskFault s z e) h.part_is f in
    subst (λ z. IsTaskFault s z e) (sym h.whole_is) (choosing-fault laws s.canonical h.stands.choosing h.stands.listed refl e inner)
waits-fault s laws (waiting.Trail t kept) whole part h e f =
    let inner : IsTaskFault s (call_task h.member h.current h.spent) e = subst (λ z. IsTaskFault s z e) h.part_is f in
    subst (λ z. IsTaskFault s z e) (sym h.whole_is)
    (walking-fault laws s.canonical h.stands.walking (λ m k. h.stands.listed m (Contains-there h.member (members_left t) m k)) refl e inner)

-- ---- the stack

-- one more on it
stands-push : (s : Setting) (ws : List Waiting) (w : Waiting) (whole task part : Task) → Stands s ws whole task → Waits s w task part → Stands s (ws ++ w ∷ []) whole part
stands-push s [] w whole task part h k = record { task = part; waits_for = subst (λ z. Waits s w z part) (sym h) k; rest = refl }
stands-push s (v ∷ vs) w whole task part h k = record { task = h.task; waits_for = h.waits_for; rest = stands-push s vs w h.task task part h.rest k }

-- the highest of it, and what stands below
record Popped (s : Setting) (ws : List Waiting) (w : Waiting) (whole part : Task) : Type 0 where
  task : Task
  stands : Stands s ws whole task
  waits_for : Waits s w task part

stands-pop : (s : Setting) (ws : List Waiting) (w : Waiting) (whole part : Task) → Stands s (ws ++ w ∷ []) whole part → Popped s ws w whole part
stands-pop s [] w whole part h = record { task = whole; stands = refl; waits_for = subst (λ z. Waits s w whole z) h.rest h.waits_for }
stands-pop s (v ∷ vs) w whole part h =
    let under = stands-pop s vs w h.task part h.rest in
    record { task = under.task; stands = record { task = h.task; waits_for = h.waits_for; rest = under.stands }; waits_for = under.waits_for }

-- a fault in what is done now is one in what was begun first
stands-fault : (s : Setting) → AreNodes s.nodes → (ws : List Waiting) (whole part : Task) → Stands s ws whole part → (e : CanonFault) → IsTaskFault s part e → IsTaskFault s whole e
stands-fault s laws [] whole part h e f = subst (λ z. IsTaskFault s z e) (sym h) f
stands-fault s laws (w ∷ ws) whole part h e f = waits-fault s laws w whole h.task h.waits_for e (stands-fault s laws ws h.task part h.rest e f)

-- ---- one turn

module _ {s : Setting} {whole : Task} {stack : List Waiting} {now : List ℕ} {spent : ℕ} {next : Move} where
  asked : {w : Waiting} {q : Question} (on : OnStack s whole stack now spent next) → next ≡ move.Waits w q → Waits s w on.task (task_of q now spent)
  asked on is = subst (Moves s on.task now spent) is on.moves

  -- what is asked next may be begun
  pub asked-fit : {w : Waiting} {q : Question} → AreNodes s.nodes → OnStack s whole stack now spent next → next ≡ move.Waits w q → IsFit s (task_of q now spent)
  asked-fit {w = w} {q = q} laws on is = waits-fit s laws w on.task (task_of q now spent) (asked on is)

  -- what asks goes on the stack
  pub asked-on : {w : Waiting} {q : Question} (stack' : List Waiting) (now' : List ℕ) (spent' : ℕ) (next' : Move) → OnStack s whole stack now spent next → next ≡ move.Waits w q → stack' ≡ stack ++ w ∷ [] → Moves s (task_of q now spent) now' spent' next' → OnStack s whole stack' now' spent' next'
  asked-on {w = w} {q = q} stack' now' spent' next' on is pushed moves = record {
    task = task_of q now spent;
    stands = subst (λ ws. Stands s ws whole (task_of q now spent)) (sym pushed) (stands-push s stack w whole on.task (task_of q now spent) on.stands (asked on is));
    moves = moves;
  }

  -- a fault in what is asked
  pub asked-fault : {w : Waiting} {q : Question} → AreNodes s.nodes → OnStack s whole stack now spent next → next ≡ move.Waits w q → (e : CanonFault) → IsTaskFault s (task_of q now spent) e → IsTaskFault s whole e
  asked-fault {w = w} {q = q} laws on is e f =
      stands-fault s laws stack whole on.task on.stands e (waits-fault s laws w on.task (task_of q now spent) (asked on is) e f)

  given : {r : Reply} (on : OnStack s whole stack now spent next) → next ≡ move.Gives r → Answers s on.task r now spent
  given on is = subst (Moves s on.task now spent) is on.moves

  under : (stack' : List Waiting) (w : Waiting) (on : OnStack s whole stack now spent next) → stack ≡ stack' ++ w ∷ [] → Popped s stack' w whole on.task
  under stack' w on popped = stands-pop s stack' w whole on.task (subst (λ ws. Stands s ws whole on.task) popped on.stands)

  -- the reply is of the right kind
  pub given-kind : (stack' : List Waiting) (w : Waiting) {r : Reply} → OnStack s whole stack now spent next → next ≡ move.Gives r → stack ≡ stack' ++ w ∷ [] → is_reply_to w r ≡ true
  given-kind stack' w {r = r} on is popped = let u = under stack' w on popped in waits-reply s w u.task on.task r now spent u.waits_for (given on is)

  -- what waited goes on
  pub given-on : (stack' : List Waiting) (w : Waiting) {r : Reply} (now' : List ℕ) (spent' : ℕ) (next' : Move) → OnStack s whole stack now spent next → next ≡ move.Gives r → stack ≡ stack' ++ w ∷ []
      → ((task part : Task) → Waits s w task part → Answers s part r now spent → Moves s task now' spent' next') → OnStack s whole stack' now' spent' next'
  given-on stack' w now' spent' next' on is popped moves = let u = under stack' w on popped in record { task = u.task; stands = u.stands; moves = moves u.task on.task u.waits_for (given on is) }

  -- a fault in what waited
  pub given-fault : (stack' : List Waiting) (w : Waiting) {r : Reply} → AreNodes s.nodes → OnStack s whole stack now spent next → next ≡ move.Gives r → stack ≡ stack' ++ w ∷ [] → (e : CanonFault)
      → ((task part : Task) → Waits s w task part → Answers s part r now spent → IsTaskFault s task e) → IsTaskFault s whole e
  given-fault stack' w laws on is popped e f =
      let u = under stack' w on popped in stands-fault s laws stack' whole u.task u.stands e (f u.task on.task u.waits_for (given on is))

  -- a reply with nothing on the stack is that of what was begun first
  pub stack-end : {r : Reply} → OnStack s whole stack now spent next → next ≡ move.Gives r → stack ≡ [] → Answers s whole r now spent
  stack-end {r = r} on is empty =
      let same : whole ≡ on.task = subst (λ ws. Stands s ws whole on.task) empty on.stands in
      subst (λ z. Answers s z r now spent) (sym same) (given on is)

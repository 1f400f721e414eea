-- What n-degree hashing does on its way, what waits meanwhile, and how the stack of what waits
-- stands to the call that was made first. RDF Canonicalization, 4.8.3.
use Rattle.std.specs.Prelude.{◌≡◌, ◌+◌, ℕ, List, [], ◌∷◌, ◌++◌, Bool, true, false, length, map, drop, Contains}
use Rattle.digest_mac.specs.declared.hash.Hash.{Hash}
use Rattle.rdfc_ndegree.specs.Nodes.{Nodes}
use Rattle.rdfc_ndegree.specs.Groups.{Group}
use Rattle.rdfc_ndegree.specs.NumberIssuers.{number_in}
use Rattle.rdfc_ndegree.specs.Table.{table_nodes, group_in}
use Rattle.rdfc_ndegree.specs.Answers.{Spending, answer, AnswersCall, CallOver}
use Rattle.rdfc_ndegree.specs.Internal.Nodes.{AreListed, AreGroupsListed}
use Rattle.rdfc_ndegree.specs.Internal.Evaluations.{TrailAnswer, trail_answer, AnswersTrail, TrailOver, choice_answer, AnswersChoice, ChoiceOver, IsFaultOf}
use Rattle.rdfc_ndegree.specs.Internal.Progress.{spending_of, Walking, BestSoFar, best_so_far, Choosing, DataToHash, data_to_hash, Grouping}
use Rattle.rdfc_ndegree.specs.Table.{NodeRow}
use Rattle.rdfc_ndegree.specs.declared.limits.Limits.{Limits}
use Rattle.rdfc_ndegree.specs.declared.limits.CanonFault.{CanonFault}
use Rattle.rdfc_ndegree.specs.declared.choice.Best.{Best}
use Rattle.rdfc_ndegree.specs.declared.moves.CallReply.{CallReply}
use Rattle.rdfc_ndegree.specs.declared.moves.CallState.{CallState}
use Rattle.rdfc_ndegree.specs.declared.moves.ChoiceState.{ChoiceState}
use Rattle.rdfc_ndegree.specs.declared.moves.TrailState.{TrailState}
use Rattle.rdfc_ndegree.specs.declared.moves.Waiting.{Waiting}
use Rattle.rdfc_ndegree.specs.declared.moves.Waiting.TheVariants as waiting
use Rattle.rdfc_ndegree.specs.declared.moves.Question.{Question}
use Rattle.rdfc_ndegree.specs.declared.moves.Question.TheVariants as question
use Rattle.rdfc_ndegree.specs.declared.moves.Reply.{Reply}
use Rattle.rdfc_ndegree.specs.declared.moves.Reply.TheVariants as reply
use Rattle.rdfc_ndegree.specs.declared.moves.Move.{Move}
use Rattle.rdfc_ndegree.specs.declared.moves.Move.TheVariants as move

-- ---- tasks

-- The nodes, the canonical issuer and the limits, which stay the same throughout.
pub record Setting : Type 0 where
  pub nodes : Nodes ℕ
  pub canonical : List ℕ
  pub limits : Limits

abbrev pub setting : Hash → List NodeRow → List ℕ → Limits → Setting
setting hash rows c limits =
    record { nodes = table_nodes hash rows; canonical = c; limits = limits }

-- What is to be done: a call for a node, the choice in a group of members, the evaluation of an
-- arrangement. Each begins with an issuer, and `before` arrangements had been counted.
pub data Task : Type 0 where
  call_task : (node : ℕ) (issuer : List ℕ) (before : ℕ) → Task
  choice_task : (issuer members : List ℕ) (before : ℕ) → Task
  trail_task : (issuer arrangement : List ℕ) (before : ℕ) → Task

-- the task of a question that is asked when the issuer has named these, after so many arrangements
abbrev pub task_of : Question → List ℕ → ℕ → Task
task_of (question.Call node) issuer before = call_task node issuer before
task_of (question.Choice members) issuer before = choice_task issuer members before
task_of (question.Trail arrangement) issuer before = trail_task issuer arrangement before

-- The task is about nodes.
abbrev pub IsFit : Setting → Task → Type 0
IsFit s (call_task node issuer before) = Contains s.nodes.all node
IsFit s (choice_task issuer members before) = AreListed s.nodes members
IsFit s (trail_task issuer arrangement before) = AreListed s.nodes arrangement

-- The reply is what the task may give, with `now` as the issuer, and `after` arrangements had been
-- counted then.
abbrev pub Answers : Setting → Task → Reply → List ℕ → ℕ → Type 0
Answers s (call_task node issuer before) (reply.Call p) now after =
    AnswersCall s.nodes s.canonical node issuer (answer p.hash now p.tie)
    (spending_of before after)
Answers s (choice_task issuer members before) (reply.Choice x) now after =
    AnswersChoice s.nodes s.canonical issuer members (choice_answer x.path now x.tie)
    (spending_of before after)
Answers s (trail_task issuer arrangement before) (reply.Trail e) now after =
    AnswersTrail s.nodes s.canonical issuer arrangement
    (trail_answer e.path now e.tie) (spending_of before after)
Answers s task r now after = ⊥

-- The fault names a limit, and what the task may give is over it; or memory ran out.
abbrev pub IsTaskFault : Setting → Task → CanonFault → Type 0
IsTaskFault s (call_task node issuer before) e =
    IsFaultOf s.limits (CallOver s.nodes s.canonical node issuer before) e
IsTaskFault s (choice_task issuer members before) e =
    IsFaultOf s.limits (ChoiceOver s.nodes s.canonical issuer members before) e
IsTaskFault s (trail_task issuer arrangement before) e =
    IsFaultOf s.limits (TrailOver s.nodes s.canonical issuer arrangement before) e

-- ---- how far a task has come

-- what an arrangement has made, with the issuer then, and the members of the recursion list that
-- are left
abbrev pub trail_so_far : TrailState → List ℕ → TrailAnswer ℕ
trail_so_far t now = trail_answer t.path.items now t.tie

abbrev pub members_left : TrailState → List ℕ
members_left t = drop t.at t.members

-- the best of the arrangements so far, each of which began with the issuer i
abbrev pub best_in : List ℕ → Best → BestSoFar ℕ
best_in i b = best_so_far b.path (i ++ b.named) b.sharing b.tie

-- the data to hash so far, with the issuer that was chosen last, and the groups that are left
abbrev pub data_in : CallState → List ℕ → DataToHash ℕ
data_in t issuer = data_to_hash t.text.items issuer t.tie

abbrev pub groups_left : CallState → List (Group ℕ)
groups_left t = map group_in (drop t.at t.groups.items)

abbrev pub group_with : List ℕ → List ℕ → Group ℕ
group_with hash members = record { hash = hash; members = members }

-- The arrangement p, begun with the issuer i, has made this, and the members that are left are
-- nodes.
pub record TrailStands (s : Setting) (i p : List ℕ) (a : TrailAnswer ℕ) (left : List ℕ)
    (spent : Spending) : Type 0 where
  pub walking : Walking s.nodes s.canonical i p a left spent
  pub listed : AreListed s.nodes left

-- The choice among these members, begun with the issuer i, has this best, and the members are
-- nodes.
pub record ChoiceStands (s : Setting) (i members : List ℕ) (b : BestSoFar ℕ)
    (left : List (List ℕ)) (spent : Spending) : Type 0 where
  pub choosing : Choosing s.nodes s.canonical i members left b spent
  pub listed : AreListed s.nodes members

-- The call for n, begun with the issuer i, has this data, and the members of the groups that are
-- left are nodes.
pub record CallStands (s : Setting) (n : ℕ) (i : List ℕ) (d : DataToHash ℕ)
    (left : List (Group ℕ)) (spent : Spending) : Type 0 where
  pub grouping : Grouping s.nodes s.canonical n i d left spent
  pub listed : AreGroupsListed s.nodes left

-- ---- what waits

-- The task `whole` is a call that waits for `part`, the choice in the group of this hash.
pub record AwaitsChoice (s : Setting) (t : CallState) (hash : List ℕ) (whole part : Task)
    : Type 0 where
  pub node : ℕ
  pub issuer : List ℕ
  pub current : List ℕ
  pub members : List ℕ
  pub before : ℕ
  pub spent : ℕ
  pub whole_is : whole ≡ call_task node issuer before
  pub part_is : part ≡ choice_task current members spent
  pub stands : CallStands s node issuer (data_in t current)
      (group_with hash members ∷ groups_left t) (spending_of before spent)

-- The task `whole` is a choice that waits for `part`, the evaluation of an arrangement, which has
-- been counted. It keeps how many the issuer had named.
pub record AwaitsTrail (s : Setting) (t : ChoiceState) (whole part : Task) : Type 0 where
  pub issuer : List ℕ
  pub members : List ℕ
  pub arrangement : List ℕ
  pub before : ℕ
  pub spent : ℕ
  pub begun_is : t.begun ≡ length issuer
  pub whole_is : whole ≡ choice_task issuer members before
  pub part_is : part ≡ trail_task issuer arrangement (spent + 1)
  pub stands : ChoiceStands s issuer members (best_in issuer t.best) (arrangement ∷ t.left)
      (spending_of before spent)

-- The task `whole` is an arrangement that waits for `part`, the nested call of a member. It keeps
-- the member's number.
pub record AwaitsCall (s : Setting) (t : TrailState) (kept : ℕ) (whole part : Task)
    : Type 0 where
  pub issuer : List ℕ
  pub arrangement : List ℕ
  pub current : List ℕ
  pub member : ℕ
  pub before : ℕ
  pub spent : ℕ
  pub kept_is : kept ≡ number_in current member
  pub whole_is : whole ≡ trail_task issuer arrangement before
  pub part_is : part ≡ call_task member current spent
  pub stands : TrailStands s issuer arrangement (trail_so_far t current)
      (member ∷ members_left t) (spending_of before spent)

-- What waits was made for the task `whole`, and waits for `part`.
abbrev pub Waits : Setting → Waiting → Task → Task → Type 0
Waits s (waiting.Call t hash) whole part = AwaitsChoice s t hash whole part
Waits s (waiting.Choice t) whole part = AwaitsTrail s t whole part
Waits s (waiting.Trail t kept) whole part = AwaitsCall s t kept whole part

-- whether what waits can go on with a reply of this kind
abbrev pub is_reply_to : Waiting → Reply → Bool
is_reply_to (waiting.Call t hash) (reply.Choice x) = true
is_reply_to (waiting.Choice t) (reply.Trail e) = true
is_reply_to (waiting.Trail t kept) (reply.Call p) = true
is_reply_to w r = false

abbrev pub call_reply : List ℕ → Bool → CallReply
call_reply hash tie = record { hash = hash; tie = tie }

-- whether a reply is that of a call
abbrev pub is_call_reply : Reply → Bool
is_call_reply (reply.Call p) = true
is_call_reply (reply.Choice x) = false
is_call_reply (reply.Trail e) = false

-- ---- the stack

-- A task between what waits for it and what stands above.
pub record StandsOn (waits above : Task → Type 0) : Type 0 where
  pub task : Task
  pub waits_for : waits task
  pub rest : above task

-- The lowest of the stack was made for the task `whole`, each waits for the task of the one above,
-- and the highest for `part`.
abbrev pub Stands : Setting → List Waiting → Task → Task → Type 0
Stands s [] whole part = whole ≡ part
Stands s (w ∷ ws) whole part =
    StandsOn (Waits s w whole) (λ task. Stands s ws task part)

-- a step in a task comes to this, with `now` as the issuer: something that waits and asks, or the
-- task's reply
abbrev pub Moves : Setting → Task → List ℕ → ℕ → Move → Type 0
Moves s whole now spent (move.Waits w q) = Waits s w whole (task_of q now spent)
Moves s whole now spent (move.Gives r) = Answers s whole r now spent

-- On a stack that was begun for the task `whole`, this is the next move, with `now` as the issuer.
pub record OnStack (s : Setting) (whole : Task) (stack : List Waiting) (now : List ℕ) (spent : ℕ)
    (next : Move) : Type 0 where
  pub task : Task
  pub stands : Stands s stack whole task
  pub moves : Moves s task now spent next

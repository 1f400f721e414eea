-- How much is left to be done at most where n-degree hashing goes on: its measure. Each weighs more
-- than what comes of it before the next arrangement is counted.
use Rattle.std.specs.Prelude.{◌<◌, ◌+◌, ◌-◌, ◌*◌, ℕ, List, [], ◌∷◌, length}
use Rattle.std.specs.List.{sum_by}
use Rattle.rdfc_ndegree.specs.Table.{NodeRow}
use Rattle.rdfc_ndegree.specs.declared.limits.Meter.{Meter}
use Rattle.rdfc_ndegree.specs.declared.moves.Waiting.{Waiting}
use Rattle.rdfc_ndegree.specs.declared.moves.Waiting.TheVariants as waiting
use Rattle.rdfc_ndegree.specs.declared.moves.Question.{Question}
use Rattle.rdfc_ndegree.specs.declared.moves.Question.TheVariants as question
use Rattle.rdfc_ndegree.specs.declared.moves.Reply.{Reply}
use Rattle.rdfc_ndegree.specs.declared.moves.Reply.TheVariants as reply
use Rattle.rdfc_ndegree.specs.declared.moves.Move.{Move}
use Rattle.rdfc_ndegree.specs.declared.moves.Move.TheVariants as move
use Rattle.rdfc_ndegree.specs.Internal.Frames.{members_left}

-- the weight of one arrangement: more than that of its nested calls, at most one for each row
abbrev pub arrangement_weight : List NodeRow → ℕ
arrangement_weight rows = 3 * length rows + 4

abbrev pub question_weight : ℕ → Question → ℕ
question_weight most (question.Call node) = 2
question_weight most (question.Choice members) = 1
question_weight most (question.Trail arrangement) = most

abbrev pub reply_weight : Reply → ℕ
reply_weight (reply.Call p) = 1
reply_weight (reply.Choice x) = 2
reply_weight (reply.Trail e) = 3

abbrev pub waiting_weight : Waiting → ℕ
waiting_weight (waiting.Call t hash) = 0
waiting_weight (waiting.Choice t) = 0
waiting_weight (waiting.Trail t kept) = 3 * (1 + length (members_left t))

abbrev pub move_weight : ℕ → Move → ℕ
move_weight most (move.Waits w q) = waiting_weight w + question_weight most q
move_weight most (move.Gives r) = reply_weight r

-- a choice weighs less where an arrangement is left, since this is counted
abbrev pub choice_weight : List (List ℕ) → ℕ
choice_weight [] = 3
choice_weight (p ∷ ps) = 1

abbrev pub stack_weight : List Waiting → ℕ
stack_weight ws = sum_by waiting_weight ws

-- Between two states of the meter, more arrangements have been counted, or the next move weighs
-- less than this weight.
abbrev pub WeighsLess : ℕ → ℕ → Meter → Meter → Move → Type 0
WeighsLess most weight old new next =
    most * (old.limits.work - new.spent) + move_weight most next
    < most * (old.limits.work - old.spent) + weight

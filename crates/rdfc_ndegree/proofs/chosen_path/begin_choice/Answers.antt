use Rattle.std.proofs.lemmas.Result.{IfOk-weaker}
use Rattle.rdfc_ndegree.specs.Internal.Frames.{setting}
use Rattle.rdfc_ndegree.proofs.Weighing.{choice-first, less-more}
use Rattle.rdfc_ndegree.proofs.Replies.{choice-stands}
use Rattle.rdfc_ndegree.proofs.chosen_path.begin_choice.Goals as goal

pub returns-clause-ok : goal.returns-clause-ok
returns-clause-ok c = λ algorithm rows k fit.
    c.next_arrangement.ensures.ok algorithm rows k c.args.members.now c.args.meter.now.spent c.len-begun.ensures
    (choice-stands (setting algorithm rows k c.args.meter.now.limits) c.args.meter.now.spent c.args.issuer.now c.args.members.now c.in_ok-left.left c.new-best.result fit c.in_ok-left.ensures c.new-best.ensures)

pub returns-clause-fault : goal.returns-clause-fault
returns-clause-fault c = λ algorithm rows k laws fit.
    c.next_arrangement.ensures.fault algorithm rows k c.args.members.now c.args.meter.now.spent laws
    (choice-stands (setting algorithm rows k c.args.meter.now.limits) c.args.meter.now.spent c.args.issuer.now c.args.members.now c.in_ok-left.left c.new-best.result fit c.in_ok-left.ensures c.new-best.ensures)

pub returns-clause-lessens : goal.returns-clause-lessens
returns-clause-lessens c = λ most.
    IfOk-weaker c.next_arrangement.result _ _ (λ next less. less-more most _ 1 c.args.meter.now c.next_arrangement.new.meter next (choice-first c.args.members.now c.in_ok-left.left c.in_ok-left.ensures) less)
    (c.next_arrangement.ensures.lessens most)

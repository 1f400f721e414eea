use Rattle.std.proofs.Common.{IfOk, IfErr, sym, subst}
use Rattle.std.proofs.lemmas.Result.{IfOk-weaker}
use Rattle.rdfc_ndegree.specs.Internal.Frames.{Setting, setting, Moves, IsTaskFault}
use Rattle.rdfc_ndegree.proofs.Weighing.{choice-most, less-more}
use Rattle.rdfc_ndegree.proofs.Replies.{choice-replied}
use Rattle.rdfc_ndegree.proofs.chosen_path.resume_choice.Goals as goal

pub returns-clause-ok : goal.returns-clause-ok
returns-clause-ok c = λ algorithm rows k whole part h a.
    let s : Setting = setting algorithm rows k c.args.meter.now.limits in
    let g = choice-replied s whole part c.args.issuer.now c.args.meter.now.spent c.args.state c.args.given c.cut_back.new.self c.take.new.self c.cut_back.ensures h a (λ j. rw c.after.ensures at (c.in_ok-take.ensures j)) in
    subst (λ z. IfOk c.next_arrangement.result (Moves s z c.next_arrangement.new.issuer c.next_arrangement.new.meter.spent)) (sym g.whole_is) (c.next_arrangement.ensures.ok algorithm rows k g.members g.before g.begun_is g.stands)

pub returns-clause-fault : goal.returns-clause-fault
returns-clause-fault c = λ algorithm rows k whole part laws h a.
    let s : Setting = setting algorithm rows k c.args.meter.now.limits in
    let g = choice-replied s whole part c.args.issuer.now c.args.meter.now.spent c.args.state c.args.given c.cut_back.new.self c.take.new.self c.cut_back.ensures h a (λ j. rw c.after.ensures at (c.in_ok-take.ensures j)) in
    subst (λ z. IfErr c.next_arrangement.result (IsTaskFault s z)) (sym g.whole_is) (c.next_arrangement.ensures.fault algorithm rows k g.members g.before laws g.stands)

pub returns-clause-lessens : goal.returns-clause-lessens
returns-clause-lessens c = λ most.
    IfOk-weaker c.next_arrangement.result _ _ (λ next less. less-more most _ 3 c.args.meter.now c.next_arrangement.new.meter next (choice-most c.args.state.left) less) (c.next_arrangement.ensures.lessens most)

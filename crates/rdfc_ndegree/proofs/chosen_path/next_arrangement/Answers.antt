use Rattle.std.proofs.Common.{◌+◌, IsNone, refl, subst, arith}
use Rattle.rdfc_ndegree.specs.Internal.Progress.{spending_of}
use Rattle.rdfc_ndegree.specs.Internal.Frames.{Setting, setting, ChoiceStands, best_in}
use Rattle.rdfc_ndegree.specs.Internal.Weights.{choice_weight}
use Rattle.rdfc_ndegree.proofs.Loops.{handed_on, is_none}
use Rattle.rdfc_ndegree.proofs.Weighing.{choice-some, choice-none, less-still, less-counted}
use Rattle.rdfc_ndegree.proofs.Replies.{choice-ends, choice-full, choice-asks}
use Rattle.rdfc_ndegree.proofs.chosen_path.next_arrangement.Goals as goal

pub returns-in_default-clause-ok : goal.returns-in_default-clause-ok
returns-in_default-clause-ok c = λ algorithm rows k members before begun h.
    let none : IsNone c.in_ok-arrangement.field-0 = is_none c.in_ok-arrangement.field-0 c.in_default.not-Some in
    choice-ends (setting algorithm rows k c.args.meter.now.limits) before c.args.meter.now.spent c.args.issuer.now members c.args.state.best c.args.state.left c.into_choice.result.path c.append_all.new.self c.into_choice.result.tie
    c.into_choice.ensures.path (rw c.as_slice.ensures at c.in_ok-append_all.ensures) c.into_choice.ensures.tie (c.in_ok-arrangement.ensures.none none).0 h

pub returns-in_default-clause-lessens : goal.returns-in_default-clause-lessens
returns-in_default-clause-lessens c = λ most.
    let none : IsNone c.in_ok-arrangement.field-0 = is_none c.in_ok-arrangement.field-0 c.in_default.not-Some in
    let heavy = choice-none c.args.state.left (c.in_ok-arrangement.ensures.none none).0 in
    less-still most (choice_weight c.args.state.left) 2 c.args.meter.now c.args.meter.now refl (omega arith)

pub returns-in_err-count_arrangement-clause-fault : goal.returns-in_err-count_arrangement-clause-fault
returns-in_err-count_arrangement-clause-fault c = λ algorithm rows k members before laws h.
    let left = rw c.in-Some.is at c.in_ok-arrangement.ensures.some in
    handed_on _ c.in_err-count_arrangement.field-0.0 _ c.from_residual-in_err-count_arrangement.ensures.1
    (choice-full (setting algorithm rows k c.args.meter.now.limits) before c.args.meter.now.spent laws c.args.issuer.now members (best_in c.args.issuer.now c.args.state.best) c.in-Some.arrangement c.args.state.left c.next.new.self left h c.in_err-count_arrangement.ensures.full.1 c.in_err-count_arrangement.field-0.0 c.in_err-count_arrangement.ensures.full.0)

pub returns-clause-ok : goal.returns-clause-ok
returns-clause-ok c = λ algorithm rows k members before begun h.
    let s : Setting = setting algorithm rows k c.args.meter.now.limits in
    let left = rw c.in-Some.is at c.in_ok-arrangement.ensures.some in
    choice-asks s before c.args.meter.now.spent begun c.in_ok-count_arrangement.ensures.counted.0
    (subst (λ ps. ChoiceStands s c.args.issuer.now members (best_in c.args.issuer.now c.args.state.best) ps (spending_of before c.args.meter.now.spent)) left h)

pub returns-clause-lessens : goal.returns-clause-lessens
returns-clause-lessens c = λ most.
    let left = rw c.in-Some.is at c.in_ok-arrangement.ensures.some in
    let light = choice-some c.args.state.left c.next.new.self c.in-Some.arrangement left in
    less-counted most (choice_weight c.args.state.left) (0 + most) c.args.meter.now c.count_arrangement.new.meter c.in_ok-count_arrangement.ensures.counted.0 c.in_ok-count_arrangement.ensures.counted.1 (omega arith)

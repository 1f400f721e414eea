use Rattle.std.proofs.Common.{◌≡◌, subst, rules}
use Rattle.rdfc_ndegree.specs.Internal.Frames.{setting, call_task, Moves}
use Rattle.rdfc_ndegree.proofs.Loops.{handed_on}
use Rattle.rdfc_ndegree.proofs.Rows.{row-listed}
use Rattle.rdfc_ndegree.proofs.Turns.{loop-start, loop-fit, loop-asked, loop-asked_fault, loop-kind, loop-given, loop-given_fault, loop-answer, answer-inside}
use Rattle.rdfc_ndegree.proofs.frames.hash_on_stack.Goals as goal

pub loop-next-init : goal.loop-next-init
loop-next-init c =
    let same : c.append_all.new.self ≡ c.args.issuer = search rules in
    let begun = c.in_ok-next.ensures.ok c.args.meter.now.limits c.args.meter.now.spent (row-listed c.args.hash c.args.table.now c.args.node c.requires.node) in
    loop-start c.args.hash c.args.table.now c.args.canonical.now (call_task c.args.node c.args.issuer c.args.meter.now.spent) c.args.meter.now c.new-stack.result c.append_all.new.self c.in_ok-next.next c.new-stack.ensures
    (subst (λ i. Moves (setting c.args.hash c.args.table.now c.args.canonical.now c.args.meter.now.limits) (call_task c.args.node i c.args.meter.now.spent) c.append_all.new.self c.args.meter.now.spent c.in_ok-next.next) same begun)

pub begin-requires-clause-fit : goal.begin-requires-clause-fit
begin-requires-clause-fit c = loop-fit c.requires.nodes c.loop-next.invariant c.in-Waits.is

pub returns-in_err-next-in-Waits-clause-fault : goal.returns-in_err-next-in-Waits-clause-fault
returns-in_err-next-in-Waits-clause-fault c =
    handed_on _ c.in_err-next-in-Waits.field-0.0 _ c.from_residual-in_err-next-in-Waits.ensures.1
    (loop-asked_fault c.requires.nodes c.loop-next.invariant c.in-Waits.is c.in_err-next-in-Waits.field-0.0 c.in_err-next-in-Waits.ensures.fault)

pub loop-next-preserved-in-Waits : goal.loop-next-preserved-in-Waits
loop-next-preserved-in-Waits c =
    let done = c.in_ok-next-in-Waits.ensures in
    loop-asked c.push.new.self c.begin.new.issuer c.begin.new.meter c.in_ok-next-in-Waits.next c.loop-next.invariant c.in-Waits.is c.in_ok-push-in-Waits.ensures.ok done.limits done.rises done.kept done.ok

pub returns-in_default-clause-inside : goal.returns-in_default-clause-inside
returns-in_default-clause-inside c =
    answer-inside c.args.hash c.args.table.now c.requires.nodes (loop-answer c.path_of.result c.loop-next.invariant c.in-Gives.is c.in_default.ensures.0 c.path_of.ensures.reply c.path_of.ensures.issuer) c.requires.node c.requires.issuer

pub resume-requires : goal.resume-requires
resume-requires c = loop-kind c.pop.new.self c.in-Some.waiting c.loop-next.invariant c.in-Gives.is c.in-Some.ensures

pub returns-in_err-next-in-Gives-clause-fault : goal.returns-in_err-next-in-Gives-clause-fault
returns-in_err-next-in-Gives-clause-fault c =
    handed_on _ c.in_err-next-in-Gives.field-0.0 _ c.from_residual-in_err-next-in-Gives.ensures.1
    (loop-given_fault c.pop.new.self c.in-Some.waiting c.requires.nodes c.loop-next.invariant c.in-Gives.is c.in-Some.ensures c.in_err-next-in-Gives.field-0.0
    (λ task part h a. c.in_err-next-in-Gives.ensures.fault c.args.table.now c.args.canonical.now task part c.requires.nodes h a))

pub loop-next-preserved : goal.loop-next-preserved
loop-next-preserved c =
    let done = c.in_ok-next-in-Gives.ensures in
    loop-given c.pop.new.self c.in-Some.waiting c.resume.new.issuer c.resume.new.meter c.in_ok-next-in-Gives.next c.loop-next.invariant c.in-Gives.is c.in-Some.ensures done.limits done.rises done.kept (λ task part h a. done.ok c.args.table.now c.args.canonical.now task part h a)

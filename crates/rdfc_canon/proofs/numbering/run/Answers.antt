use Rattle.std.proofs.Common.{refl, ap, ◌∙◌, map, sym}
use Rattle.rdfc_ndegree.specs.Table.{group_in}
use Rattle.rdfc_ndegree.specs.Run.{alone}
use Rattle.rdfc_ndegree.proofs.Loops.{handed_on}
use Rattle.rdfc_ndegree.proofs.TableCarry.{table-lawful}
use Rattle.rdfc_ndegree.specs.Internal.Issuing.{issue_numbers}
use Rattle.rdfc_canon.proofs.Runs.{run-start, run-turn, run-fault, run-finish}
use Rattle.rdfc_canon.proofs.numbering.run.Goals as goal

pub loop-group-init : goal.loop-group-init
loop-group-init c =
    let groups = c.deref-group-items.ensures.value in
    run-start c.args.hash c.args.table.now c.issue_alone.new.canonical c.deref-group-items.result.now record { spent = 0; limits = c.args.limits.now } refl
    (c.in_ok-issue_alone.ensures ∙ (λ i. issue_numbers (c.in_ok-canonical.ensures i) (alone (map group_in ((c.as_slice.ensures.value ∙ sym groups) i)))))
    (ap (map group_in) groups ∙ c.in_ok-groups.ensures.groups c.args.hash)

pub returns-in_err-tied-clause-fault : goal.returns-in_err-tied-clause-fault
returns-in_err-tied-clause-fault c =
    let h = rw (c.as_slice-members.ensures) at c.in_err-tied.ensures.fault in
    handed_on _ c.in_err-tied.field-0.0 _ c.from_residual-in_err-tied.ensures.1
    (run-fault c.args.hash c.args.table.now (table-lawful c.args.hash c.args.table.now c.in_ok-groups.ensures.closed) c.deref-group-items.result.now c.loop-group.group-index c.group-item.result c.loop-group-test.true c.group-item.is
    (rw c.deref-group-items.ensures.value c.in_ok-groups.ensures.listed) c.loop-group.invariant c.in_err-tied.field-0.0 h)

pub loop-group-preserved : goal.loop-group-preserved
loop-group-preserved c =
    let a = rw (c.as_slice-members.ensures) at c.in_ok-tied.ensures.ok in
    run-turn c.args.hash c.args.table.now c.deref-group-items.result.now c.loop-group.group-index c.group-item.result c.round.new.canonical c.in_ok-tied.tied c.round.new.meter c.loop-group-test.true c.group-item.is c.loop-group.invariant a c.in_ok-tied.ensures.limits c.in_ok-tied.ensures.kept

pub returns-clause-ok : goal.returns-clause-ok
returns-clause-ok c = run-finish c.args.hash c.args.table.now c.deref-group-items.result.now c.loop-group.group-index c.loop-group-test.false refl c.loop-group.invariant

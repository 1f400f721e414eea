use Rattle.std.proofs.Common.{sym, ap, ◌∙◌}
use Rattle.pointer_select.specs.Pointers.{is_bad_escape}
use Rattle.pointer_select.proofs.Grammar.{scan_more, slice_left}
use Rattle.pointer_select.proofs.reading.first_bad_escape.Goals as goal

pub loop-at-preserved : goal.loop-at-preserved
loop-at-preserved c =
    let rest = slice_left c.args.bytes.now c.loop-at.at c.loop-at-test.true in
    scan_more c.args.bytes.now c.loop-at.at _ c.loop-at-test.true (ap is_bad_escape (sym rest) ∙ sym c.if-is_bad_escape.ensures) c.loop-at.invariant

use Rattle.std.proofs.Common.{◌-◌, ◌≤◌, length, take, drop, arith, length-drop, length-take}
use Rattle.std.proofs.lemmas.Result.{err_from_is_err_and}
use Rattle.vc_io.proofs.Moves.{Wrote-more, WrotePrefix-more}
use Rattle.vc_io.proofs.sink.write_all.Goals as goal

pub returns-in_err-at-clause-prefix : goal.returns-in_err-at-clause-prefix
returns-in_err-at-clause-prefix g c =
    let p = err_from_is_err_and c.from_residual.result c.from_residual.ensures.1 in
    rw p.1 (WrotePrefix-more _ (g.K.Sink.means c.loop-at.sink).written _ c.loop-at.at c.args.bytes.now c.loop-at.invariant.0 c.in_err-at.ensures.prefix)

pub loop-at-preserved : goal.loop-at-preserved
loop-at-preserved g c =
    let h : c.in_ok-at.field-0 ≤ length (take (length c.args.bytes.now - c.loop-at.at) (drop c.loop-at.at c.args.bytes.now)) = c.in_ok-at.ensures.within in (
      Wrote-more _ (g.K.Sink.means c.loop-at.sink).written _ c.loop-at.at c.in_ok-at.field-0 c.args.bytes.now c.loop-at.invariant.0 c.in_ok-at.ensures.wrote,
      omega arith,
      omega (arith, h, length-drop c.loop-at.at c.args.bytes.now, length-take (length c.args.bytes.now - c.loop-at.at) (drop c.loop-at.at c.args.bytes.now)),
    )

use Rattle.std.proofs.Common.{sym, arith}
use Rattle.std.proofs.lemmas.Grind.{common_steps}
use Rattle.vc_io.proofs.Moves.{front_and_rest}
use Rattle.vc_io.proofs.memory_source.MemorySourceSource.read.Goals as goal

pub returns-clause-gave : goal.returns-clause-gave
returns-clause-gave c =
    rw (← c.self.view_is) (sym (front_and_rest c.self.inside.bytes.items c.args.into.now c.copy_from_slice.new.self c.self.inside.at c.move_count-moved.result
    (grind (arith, common_steps)) (grind (arith, common_steps))))

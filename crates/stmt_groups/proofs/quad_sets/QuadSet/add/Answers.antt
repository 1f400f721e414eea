use Rattle.stmt_groups.proofs.SetLemmas.{added}
use Rattle.stmt_groups.proofs.quad_sets.QuadSet.add.Goals as goal

pub returns : goal.returns
returns c = added c.self.inside.quads.keys c.args.self.now c.insert.new.self.keys c.args.quad c.self.view_is c.in_ok-insert.ensures.updates.0

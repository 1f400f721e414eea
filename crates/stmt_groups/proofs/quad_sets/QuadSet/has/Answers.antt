use Rattle.stmt_groups.proofs.SetLemmas.{has_is}
use Rattle.stmt_groups.proofs.quad_sets.QuadSet.has.Goals as goal

pub returns : goal.returns
returns c = has_is c.contains.result c.self.inside.quads.keys c.args.self.now c.args.quad.now c.contains.ensures c.self.view_is

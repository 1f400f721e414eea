use Rattle.std.proofs.Common.{refl}
use Rattle.stmt_groups.proofs.grouping.line_for.Goals as goal

pub returns : goal.returns
returns c = record { text = c.in_ok-text.ensures; mandatory = refl; chosen = refl }

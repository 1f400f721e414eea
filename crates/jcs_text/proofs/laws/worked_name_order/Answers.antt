use Rattle.std.proofs.Common.{refl}
use Rattle.std.specs.Str.{chars}
use Rattle.jcs_text.proofs.laws.worked_name_order.Goals as goal

pub returns-clause-names : goal.returns-clause-names
unfolding chars
returns-clause-names c = refl

pub returns-clause-units : goal.returns-clause-units
unfolding chars
returns-clause-units c = refl

pub returns-clause-units_back : goal.returns-clause-units_back
unfolding chars
returns-clause-units_back c = refl

pub returns-clause-code_points : goal.returns-clause-code_points
unfolding chars
returns-clause-code_points c = refl

pub returns-clause-shorter : goal.returns-clause-shorter
unfolding chars
returns-clause-shorter c = refl

pub returns-clause-longer : goal.returns-clause-longer
unfolding chars
returns-clause-longer c = refl

pub returns-clause-empty : goal.returns-clause-empty
unfolding chars
returns-clause-empty c = refl

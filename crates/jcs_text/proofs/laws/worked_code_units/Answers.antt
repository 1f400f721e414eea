use Rattle.std.proofs.Common.{refl}
use Rattle.std.specs.Str.{chars}
use Rattle.jcs_text.proofs.laws.worked_code_units.Goals as goal

pub returns-clause-letter : goal.returns-clause-letter
unfolding chars
returns-clause-letter c = refl

pub returns-clause-two_bytes : goal.returns-clause-two_bytes
unfolding chars
returns-clause-two_bytes c = refl

pub returns-clause-three_bytes : goal.returns-clause-three_bytes
unfolding chars
returns-clause-three_bytes c = refl

pub returns-clause-last_unit : goal.returns-clause-last_unit
unfolding chars
returns-clause-last_unit c = refl

pub returns-clause-first_pair : goal.returns-clause-first_pair
unfolding chars
returns-clause-first_pair c = refl

pub returns-clause-pair : goal.returns-clause-pair
unfolding chars
returns-clause-pair c = refl

pub returns-clause-last_pair : goal.returns-clause-last_pair
unfolding chars
returns-clause-last_pair c = refl

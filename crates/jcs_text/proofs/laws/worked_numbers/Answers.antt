use Rattle.std.proofs.Common.{pos, negsuc, ◌-◌, ◌^◌}
use Rattle.std.specs.Fmt.{digits}
use Rattle.jcs_text.proofs.Equations.{canonical_json-Whole}
use Rattle.jcs_text.proofs.laws.worked_numbers.Goals as goal

pub returns-clause-none : goal.returns-clause-none
unfolding digits
returns-clause-none c = canonical_json-Whole (pos 0)

pub returns-clause-greatest : goal.returns-clause-greatest
unfolding digits
returns-clause-greatest c = canonical_json-Whole (pos (2 ^ 53))

pub returns-clause-least : goal.returns-clause-least
unfolding digits
returns-clause-least c = canonical_json-Whole (negsuc (2 ^ 53 - 1))

pub returns-clause-whole : goal.returns-clause-whole
unfolding digits
returns-clause-whole c = canonical_json-Whole (pos (2 ^ 64 - 1))

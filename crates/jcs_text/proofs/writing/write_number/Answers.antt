use Rattle.std.proofs.Common.{rules}
use Rattle.jcs_text.proofs.Decimals.{number-text}
use Rattle.jcs_text.proofs.writing.write_number.Goals as goal

pub number-requires : goal.number-requires
number-requires c = number-text c.args.n _ c.ranges.n (search rules)

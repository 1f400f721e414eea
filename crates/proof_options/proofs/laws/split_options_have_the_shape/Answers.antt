use Rattle.proof_options.proofs.OneOutcome.{shape_without}
use Rattle.proof_options.proofs.laws.split_options_have_the_shape.Goals as goal

pub returns : goal.returns
returns c = shape_without

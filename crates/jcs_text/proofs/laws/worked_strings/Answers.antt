use Rattle.std.proofs.Common.{refl}
use Rattle.jcs_text.proofs.laws.worked_strings.Goals as goal

pub returns-clause-example : goal.returns-clause-example
returns-clause-example c = refl

pub returns-clause-two_letters : goal.returns-clause-two_letters
returns-clause-two_letters c = refl

pub returns-clause-marks : goal.returns-clause-marks
returns-clause-marks c = refl

pub returns-clause-low_controls : goal.returns-clause-low_controls
returns-clause-low_controls c = refl

pub returns-clause-high_controls : goal.returns-clause-high_controls
returns-clause-high_controls c = refl

pub returns-clause-others : goal.returns-clause-others
returns-clause-others c = refl

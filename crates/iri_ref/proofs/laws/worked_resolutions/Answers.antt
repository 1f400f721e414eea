use Rattle.std.proofs.Common.{refl}
use Rattle.iri_ref.specs.Components.{components, recompose}
use Rattle.iri_ref.specs.Resolution.{merge, remove_dot_segments, target, target_path}
use Rattle.iri_ref.proofs.laws.worked_resolutions.Goals as goal

pub returns-clause-up : goal.returns-clause-up
unfolding components recompose merge remove_dot_segments target target_path
returns-clause-up c = refl

pub returns-clause-empty : goal.returns-clause-empty
unfolding components recompose merge remove_dot_segments target target_path
returns-clause-empty c = refl

pub returns-clause-rooted : goal.returns-clause-rooted
unfolding components recompose merge remove_dot_segments target target_path
returns-clause-rooted c = refl

pub returns-clause-path_alone : goal.returns-clause-path_alone
unfolding components recompose merge remove_dot_segments target target_path
returns-clause-path_alone c = refl

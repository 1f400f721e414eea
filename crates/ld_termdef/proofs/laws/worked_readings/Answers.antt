use Rattle.std.proofs.Common.{refl}
use Rattle.iri_ref.specs.Components.{components, recompose}
use Rattle.iri_ref.specs.Resolution.{merge, remove_dot_segments, target, target_path}
use Rattle.ld_termdef.proofs.laws.worked_readings.Goals as goal

pub returns-clause-keyword : goal.returns-clause-keyword
returns-clause-keyword c = refl

pub returns-clause-form : goal.returns-clause-form
returns-clause-form c = refl

pub returns-clause-no_form : goal.returns-clause-no_form
returns-clause-no_form c = refl

pub returns-clause-alias : goal.returns-clause-alias
returns-clause-alias c = refl

pub returns-clause-term : goal.returns-clause-term
returns-clause-term c = refl

pub returns-clause-not_a_term : goal.returns-clause-not_a_term
unfolding components recompose merge remove_dot_segments target target_path
returns-clause-not_a_term c = refl

pub returns-clause-nothing : goal.returns-clause-nothing
returns-clause-nothing c = refl

pub returns-clause-blank : goal.returns-clause-blank
returns-clause-blank c = refl

pub returns-clause-slashes : goal.returns-clause-slashes
returns-clause-slashes c = refl

pub returns-clause-compact : goal.returns-clause-compact
returns-clause-compact c = refl

pub returns-clause-no_prefix : goal.returns-clause-no_prefix
returns-clause-no_prefix c = refl

pub returns-clause-first_colon : goal.returns-clause-first_colon
returns-clause-first_colon c = refl

pub returns-clause-absolute : goal.returns-clause-absolute
returns-clause-absolute c = refl

pub returns-clause-no_scheme : goal.returns-clause-no_scheme
returns-clause-no_scheme c = refl

pub returns-clause-vocabulary : goal.returns-clause-vocabulary
returns-clause-vocabulary c = refl

pub returns-clause-base : goal.returns-clause-base
unfolding components recompose merge remove_dot_segments target target_path
returns-clause-base c = refl

pub returns-clause-empty : goal.returns-clause-empty
unfolding components recompose merge remove_dot_segments target target_path
returns-clause-empty c = refl

pub returns-clause-forbidden : goal.returns-clause-forbidden
returns-clause-forbidden c = refl

pub returns-clause-relative : goal.returns-clause-relative
returns-clause-relative c = refl

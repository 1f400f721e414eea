use Rattle.std.proofs.Common.{refl}
use Rattle.stmt_groups.proofs.PartLemmas.{least_of_two, not_the_other}
use Rattle.stmt_groups.proofs.laws.strays_of_an_example.Goals as goal

pub returns-clause-least : goal.returns-clause-least
returns-clause-least c = least_of_two

pub returns-clause-not_another : goal.returns-clause-not_another
returns-clause-not_another c = not_the_other

pub returns-clause-blank : goal.returns-clause-blank
returns-clause-blank c = λ b d e. refl

use Rattle.stmt_groups.specs.Parts.{parts_of}
use Rattle.stmt_groups.proofs.MarkLemmas.{each_marked, outcome_as}
use Rattle.stmt_groups.proofs.marking.parts.Goals as goal

pub returns-clause-each : goal.returns-clause-each
returns-clause-each c = each_marked c.args.terms.now (parts_of c.args.whole.now c.args.mandatory.now c.args.chosen.now) c.mark_numbers.result c.mark_numbers.ensures

pub returns-clause-exact : goal.returns-clause-exact
returns-clause-exact c = λ p stand.
    outcome_as c.args.terms.now c.tell_apart.ensures (parts_of c.args.whole.now c.args.mandatory.now c.args.chosen.now) p stand c.requires.whole c.requires.mandatory c.requires.chosen c.mark_numbers.result c.mark_numbers.ensures

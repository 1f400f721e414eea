use Rattle.ld_termdef.proofs.Solutions.{stays_without, stays_ignored, defined_with}
use Rattle.ld_termdef.proofs.laws.terms_are_those_before_and_those_with_entries.Goals as goal

pub returns-clause-stays : goal.returns-clause-stays
returns-clause-stays c = stays_without

pub returns-clause-ignored : goal.returns-clause-ignored
returns-clause-ignored c = stays_ignored

pub returns-clause-defined : goal.returns-clause-defined
returns-clause-defined c = defined_with

use Rattle.stmt_groups.proofs.Covering.{none_covers, none_names}
use Rattle.stmt_groups.proofs.laws.coverage_alone_names_no_record.Goals as goal

pub returns-clause-covers : goal.returns-clause-covers
returns-clause-covers c = none_covers

pub returns-clause-names_none : goal.returns-clause-names_none
returns-clause-names_none c = none_names

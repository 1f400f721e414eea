use Rattle.stmt_groups.proofs.Revealing.{record_has_lines}
use Rattle.stmt_groups.proofs.laws.a_record_of_an_issue_has_lines.Goals as goal

pub returns : goal.returns
returns c = record_has_lines

use Rattle.std.proofs.Common.{ap, ◌∙◌}
use Rattle.rdfc_ndegree.specs.Groups.{groups_by_hash}
use Rattle.rdfc_ndegree.proofs.FirstGroups.{rows-hashed, first-listed}
use Rattle.rdfc_ndegree.proofs.firsts.first_groups.Goals as goal

pub returns-clause-groups : goal.returns-clause-groups
returns-clause-groups c = λ algorithm. c.in_ok-groups.ensures ∙ ap groups_by_hash (c.in_ok-hashed.ensures ∙ rows-hashed algorithm c.args.table.now)

pub returns-clause-listed : goal.returns-clause-listed
returns-clause-listed c = first-listed c.args.table.now c.in_ok-groups.groups.items (c.in_ok-groups.ensures ∙ ap groups_by_hash c.in_ok-hashed.ensures)

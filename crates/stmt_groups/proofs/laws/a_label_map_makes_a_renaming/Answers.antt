use Rattle.stmt_groups.proofs.MapLemmas.{makes_labels, makes_renaming}
use Rattle.stmt_groups.proofs.laws.a_label_map_makes_a_renaming.Goals as goal

pub returns-clause-renaming : goal.returns-clause-renaming
returns-clause-renaming c = makes_renaming

pub returns-clause-labels : goal.returns-clause-labels
returns-clause-labels c = makes_labels

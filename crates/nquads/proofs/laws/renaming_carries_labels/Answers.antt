use Rattle.nquads.proofs.ReadingSame.{line-rename, text_from_Same}
use Rattle.nquads.proofs.laws.renaming_carries_labels.Goals as goal

pub returns-clause-line : goal.returns-clause-line
returns-clause-line c = line-rename

pub returns-clause-text : goal.returns-clause-text
returns-clause-text c = text_from_Same

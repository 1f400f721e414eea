use Rattle.nquads.proofs.ReadingRenamings.{IsStatement-rename, IsDataset-rename, IsStatement-from_Same}
use Rattle.nquads.proofs.laws.renaming_keeps_datasets.Goals as goal

pub returns-clause-statement : goal.returns-clause-statement
returns-clause-statement c = IsStatement-rename

pub returns-clause-dataset : goal.returns-clause-dataset
returns-clause-dataset c = IsDataset-rename

pub returns-clause-same : goal.returns-clause-same
returns-clause-same c = IsStatement-from_Same

use Rattle.nquads.proofs.ReadingSame.{text_determines_dataset}
use Rattle.nquads.proofs.laws.text_names_its_dataset.Goals as goal

pub returns : goal.returns
returns c = text_determines_dataset

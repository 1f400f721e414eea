use Rattle.nquads.proofs.TextSays.{dataset_once}
use Rattle.nquads.proofs.laws.a_text_says_one_dataset.Goals as goal

pub returns : goal.returns
returns c = dataset_once

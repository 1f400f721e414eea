use Rattle.rdfc_canon.proofs.CanonicalTexts.{same-text, text-same}
use Rattle.rdfc_canon.proofs.laws.one_text_is_of_one_dataset.Goals as goal

pub returns-clause-same : goal.returns-clause-same
returns-clause-same c = λ digest q p r s i j few few' d e is. text-same digest q p r s i j few few' d e is

pub returns-clause-exactly : goal.returns-clause-exactly
returns-clause-exactly c = λ digest q p r s i j few few' k l d e none. (
  λ is. text-same digest q p r s i j few few' d e is,
  λ same. same-text digest q p r s k l d e none same,
)

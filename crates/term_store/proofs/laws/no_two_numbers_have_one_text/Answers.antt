use Rattle.term_store.proofs.StoreLemmas.{ids-one}
use Rattle.term_store.proofs.laws.no_two_numbers_have_one_text.Goals as goal

pub returns : goal.returns
returns c = ids-one

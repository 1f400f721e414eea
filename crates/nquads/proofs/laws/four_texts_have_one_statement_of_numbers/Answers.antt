use Rattle.nquads.proofs.StoredLemmas.{one_quad}
use Rattle.nquads.proofs.laws.four_texts_have_one_statement_of_numbers.Goals as goal

pub returns : goal.returns
returns c = one_quad

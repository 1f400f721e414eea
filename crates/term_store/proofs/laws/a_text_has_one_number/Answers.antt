use Rattle.term_store.proofs.StoreLemmas.{Interns-again}
use Rattle.term_store.proofs.laws.a_text_has_one_number.Goals as goal

pub returns : goal.returns
returns c = Interns-again

use Rattle.nquads.proofs.StoredLemmas.{find_label-number}
use Rattle.nquads.proofs.laws.a_number_has_the_label_of_its_text.Goals as goal

pub returns : goal.returns
returns c = find_label-number

use Rattle.nquads.proofs.AddedLemmas.{IsKnown-Grows, quad_texts-Grows}
use Rattle.nquads.proofs.laws.a_number_stands_for_its_text.Goals as goal

pub returns : goal.returns
returns c = λ old new quad g known. (quad_texts-Grows old new g quad known, IsKnown-Grows old new g quad known)

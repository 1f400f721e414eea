use Rattle.pointer_select.proofs.Grammar.{one_outcome}
use Rattle.pointer_select.proofs.laws.a_text_has_one_outcome.Goals as goal

pub returns : goal.returns
returns c = one_outcome

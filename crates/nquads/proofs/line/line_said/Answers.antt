use Rattle.nquads.proofs.SaidLemmas.{said_so}
use Rattle.nquads.proofs.line.line_said.Goals as goal

pub returns : goal.returns
returns c = said_so c.args.line.now c.in-Ok.text.now c.text_said.result c.in-Ok.ensures.cases.0 c.in-Ok.ensures.cases.1 c.text_said.ensures

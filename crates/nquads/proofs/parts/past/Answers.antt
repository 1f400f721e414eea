use Rattle.nquads.proofs.PartLemmas.{past_is}
use Rattle.nquads.proofs.parts.past.Goals as goal

pub returns : goal.returns
returns c = past_is c.args.mark c.args.text.now c.strip_prefix.result c.strip_prefix.ensures.cases c.requires

use Rattle.nquads.proofs.PartLemmas.{cut_iri_is}
use Rattle.nquads.proofs.parts.cut_iri.Goals as goal

pub returns : goal.returns
returns c = cut_iri_is c.args.text.now c.in_ok-rest.rest.now c.split_once.result c.in_ok-rest.ensures c.split_once.ensures.cases

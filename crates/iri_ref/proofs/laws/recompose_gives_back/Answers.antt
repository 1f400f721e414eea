use Rattle.iri_ref.proofs.Cuts.{recompose-components}
use Rattle.iri_ref.proofs.laws.recompose_gives_back.Goals as goal

pub returns : goal.returns
returns c = recompose-components

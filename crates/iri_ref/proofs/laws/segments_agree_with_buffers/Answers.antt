use Rattle.iri_ref.proofs.Loop.{removes}
use Rattle.iri_ref.proofs.laws.segments_agree_with_buffers.Goals as goal

pub returns : goal.returns
returns c = removes

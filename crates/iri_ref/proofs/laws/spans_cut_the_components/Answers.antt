use Rattle.iri_ref.proofs.Spans.{spans_cut}
use Rattle.iri_ref.proofs.laws.spans_cut_the_components.Goals as goal

pub returns : goal.returns
returns c = spans_cut

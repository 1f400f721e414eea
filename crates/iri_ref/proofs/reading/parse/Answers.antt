use Rattle.iri_ref.proofs.Cuts.{recompose-components}
use Rattle.iri_ref.proofs.reading.parse.Goals as goal

pub parts_of-requires : goal.parts_of-requires
parts_of-requires c = rw (c.pieces_of.ensures, recompose-components c.args.text.now) c.forbidden_at.ensures.fits

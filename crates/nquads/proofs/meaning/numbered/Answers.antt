use Rattle.nquads.proofs.MeaningLemmas.{number_cut}
use Rattle.nquads.proofs.meaning.numbered.Goals as goal

pub split_at-requires-2 : goal.split_at-requires-2
split_at-requires-2 c =
    number_cut c.args.text.now c.as_bytes.result.now c.split_at.result.0.now c.args.size c.in_ok-number.number c.as_bytes.ensures.value c.as_bytes.ensures.utf8 c.split_at.ensures.front c.if-text-size.false c.in_ok-number.ensures

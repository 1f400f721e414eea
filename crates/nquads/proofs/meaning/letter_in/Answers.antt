use Rattle.nquads.proofs.MeaningLemmas.{letter_cut}
use Rattle.nquads.proofs.meaning.letter_in.Goals as goal

pub split_at-requires : goal.split_at-requires
split_at-requires c =
    letter_cut c.args.text.now c.as_bytes.result.now c.in_ok-letter.field-0.now c.as_bytes.ensures.value c.as_bytes.ensures.utf8 c.in_ok-letter.ensures.value c.in_ok-character.ensures.ascii

use Rattle.std.proofs.Common.{length, refl}
use Rattle.nquads.proofs.PartLemmas.{language_len_is, language_cut}
use Rattle.nquads.proofs.parts.language_len.Goals as goal

pub returns-clause-len : goal.returns-clause-len
returns-clause-len c =
    language_len_is c.args.text.now c.as_bytes.result.now c.language_end.result (length c.args.text.now) c.unwrap_or.result c.as_bytes.ensures.value c.language_end.ensures refl c.unwrap_or.ensures

pub returns-clause-boundary : goal.returns-clause-boundary
returns-clause-boundary c =
    language_cut c.args.text.now c.unwrap_or.result c.utf8.text
    (language_len_is c.args.text.now c.as_bytes.result.now c.language_end.result (length c.args.text.now) c.unwrap_or.result c.as_bytes.ensures.value c.language_end.ensures refl c.unwrap_or.ensures)

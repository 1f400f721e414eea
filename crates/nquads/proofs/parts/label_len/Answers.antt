use Rattle.std.proofs.Common.{length, refl}
use Rattle.nquads.proofs.PartLemmas.{label_len_is, label_cut}
use Rattle.nquads.proofs.parts.label_len.Goals as goal

pub returns-clause-len : goal.returns-clause-len
returns-clause-len c =
    label_len_is c.args.text.now c.as_bytes-bytes.result.now c.label_end.result (length c.as_bytes-bytes.result.now) c.unwrap_or-end.result c.without_dot.result c.as_bytes-bytes.ensures.value c.label_end.ensures refl c.unwrap_or-end.ensures c.without_dot.ensures

pub returns-clause-boundary : goal.returns-clause-boundary
returns-clause-boundary c =
    label_cut c.args.text.now c.without_dot.result c.utf8.text
    (label_len_is c.args.text.now c.as_bytes-bytes.result.now c.label_end.result (length c.as_bytes-bytes.result.now) c.unwrap_or-end.result c.without_dot.result c.as_bytes-bytes.ensures.value c.label_end.ensures refl c.unwrap_or-end.ensures c.without_dot.ensures)

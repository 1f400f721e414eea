use Rattle.nquads.proofs.PartLemmas.{quote_cut}
use Rattle.nquads.proofs.parts.cut_quoted.Goals as goal

pub split_at-requires-2 : goal.split_at-requires-2
split_at-requires-2 c =
    quote_cut c.args.text.now c.as_bytes.result.now c.in_ok-end.end c.as_bytes.ensures.value c.as_bytes.ensures.utf8 c.in_ok-end.ensures.0 c.in_ok-end.ensures.1

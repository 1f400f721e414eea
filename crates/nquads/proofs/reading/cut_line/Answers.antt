use Rattle.std.proofs.Common.{option_copied}
use Rattle.nquads.proofs.HasRead.{line_is_cut, more_is_cut}
use Rattle.nquads.proofs.reading.cut_line.Goals as goal

pub returns-clause-line : goal.returns-clause-line
returns-clause-line c =
    line_is_cut c.args.bytes.now c.split_at.result.0.now c.line_end.result c.unwrap_or-end.result c.line_end.ensures c.unwrap_or-end.ensures c.split_at.ensures.front

pub returns-clause-more : goal.returns-clause-more
returns-clause-more c =
    more_is_cut c.args.bytes.now c.split_at.result.1.now c.line_end.result c.unwrap_or-end.result (option_copied c.past_line_end.result) c.line_end.ensures c.unwrap_or-end.ensures c.split_at.ensures.back c.past_line_end.ensures

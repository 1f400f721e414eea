use Rattle.std.proofs.Common.{rules}
use Rattle.vc_cli.proofs.KeyLines.{no_first, no_second, not_two}
use Rattle.vc_cli.proofs.key_files.two_lines.Goals as goal

pub returns-then-bytes-le65-clause-none : goal.returns-then-bytes-le65-clause-none
returns-then-bytes-le65-clause-none c = λ _. not_two c.args.bytes.now c.if-bytes-le65.true

pub returns-in_default-clause-none : goal.returns-in_default-clause-none
returns-in_default-clause-none c = λ _. no_first c.args.bytes.now c.split_at.result.0.now c.split_at.ensures.front (c.in_default.ensures.none (search rules))

pub returns-in_default-last_line-clause-none : goal.returns-in_default-last_line-clause-none
returns-in_default-last_line-clause-none c = λ _. no_second c.args.bytes.now c.split_at.result.1.now c.split_at.ensures.back (c.in_default-last_line.ensures.none (search rules))

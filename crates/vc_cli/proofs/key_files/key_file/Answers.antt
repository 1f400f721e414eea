use Rattle.std.proofs.Common.{rules}
use Rattle.vc_cli.proofs.KeyLines.{only_two}
use Rattle.vc_cli.proofs.key_files.key_file.Goals as goal

pub returns-clause-only : goal.returns-clause-only
returns-clause-only c = only_two c.args.bytes.now c.two_lines.result (c.in_default.ensures.none (search rules)) c.two_lines.ensures.found c.two_lines.ensures.none

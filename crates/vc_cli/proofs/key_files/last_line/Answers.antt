use Rattle.vc_cli.proofs.KeyLines.{long_none}
use Rattle.vc_cli.proofs.key_files.last_line.Goals as goal

pub returns-clause-none : goal.returns-clause-none
returns-clause-none c = λ none. long_none c.args.text.now c.if-text-eq64.false (c.line.ensures.none none)

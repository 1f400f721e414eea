use Rattle.std.proofs.Common.{arith}
use Rattle.nquads.proofs.EscapeLemmas.{escape-encode}
use Rattle.nquads.proofs.spelling.push_character.Goals as goal

pub returns-in_default : goal.returns-in_default
returns-in_default c =
    rw (escape-encode c.args.character (omega arith) (omega arith) (omega arith) (omega arith)) c.push.ensures.ok

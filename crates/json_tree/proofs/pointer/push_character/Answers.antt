use Rattle.std.proofs.Common.{arith}
use Rattle.json_tree.proofs.Escapes.{escaped-encode}
use Rattle.json_tree.proofs.pointer.push_character.Goals as goal

pub returns-in_default : goal.returns-in_default
returns-in_default c = rw (escaped-encode c.args.character (omega arith) (omega arith)) c.push.ensures.ok

use Rattle.digest_mac.proofs.Padding.{zeros_behind}
use Rattle.digest_mac.proofs.mac.zeros_after.Goals as goal

pub returns : goal.returns
returns c = zeros_behind c.args.key.now _ c.copy_from_slice.ensures.after

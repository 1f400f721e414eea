use Rattle.std.proofs.Common.{◌∙◌}
use Rattle.key_device.proofs.Halves.{halves_joined}
use Rattle.key_device.proofs.hmac_device.joined.Goals as goal

pub returns : goal.returns
returns c =
    halves_joined c.args.first.now c.args.second.now _ _ c.requires.first
    (c.copy_from_slice.ensures.after ∙ c.as_slice.ensures)
    (c.copy_from_slice-2.ensures.after ∙ c.as_slice-2.ensures)

use Rattle.std.proofs.Common.{◌≡◌}
use Rattle.ld_termdef.proofs.Layered.{flat-layers}
use Rattle.ld_termdef.proofs.definitions.layered.Goals as goal

pub of_layers-requires-2 : goal.of_layers-requires-2
of_layers-requires-2 c =
    flat-layers c.args.over c.args.under.now c.in_ok-new-2.field-0 c.in_ok-new-3.field-0 (cc (c.in_ok-new-2.ensures, c.new-none.ensures)) (cc (c.in_ok-new-3.ensures, c.in_ok-whole.ensures, c.as_slice.ensures, c.as_slice-2.ensures, c.get-2.ensures)) c.requires

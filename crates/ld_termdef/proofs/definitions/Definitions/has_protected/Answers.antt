use Rattle.std.proofs.Common.{◌≡◌}
use Rattle.ld_termdef.proofs.Protection.{protected-layers}
use Rattle.ld_termdef.proofs.definitions.Definitions.has_protected.Goals as goal

pub returns : goal.returns
returns c =
    protected-layers c.self.inside.over c.self.inside.under c.args.self.now c.layers_protect.result (cc c.self.view_is) c.self.invariant.over_rises c.self.invariant.under_rises (cc (c.layers_protect.ensures, c.as_slice.ensures, c.get.ensures, c.as_slice-2.ensures, c.get-2.ensures))

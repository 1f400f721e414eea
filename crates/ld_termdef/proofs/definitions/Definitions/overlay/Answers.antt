use Rattle.std.proofs.Common.{◌≡◌, refl}
use Rattle.ld_termdef.specs.Overlay.{overlay_of}
use Rattle.ld_termdef.proofs.RowOrder.{ok-same}
use Rattle.ld_termdef.proofs.Layered.{lay-layers, laid}
use Rattle.ld_termdef.proofs.definitions.Definitions.overlay.Goals as goal

pub layered-requires : goal.layered-requires
layered-requires c =
    lay-layers c.in_ok-over.over c.args.more c.self.inside.over c.self.inside.under c.self.inside.under (cc (c.in_ok-over.ensures, c.as_slice.ensures, c.as_slice-2.ensures, c.get.ensures, c.in_ok-more.ensures)) refl c.requires.rising c.requires.lawful c.self.invariant

pub returns : goal.returns
returns c =
    ok-same _ _ _ c.layered.ensures (laid c.args.more c.self.inside.over c.self.inside.under c.in_ok-over.over c.self.inside.under c.args.self.now (overlay_of c.in_ok-over.over c.self.inside.under) (cc c.self.view_is) c.self.invariant (cc (c.in_ok-over.ensures, c.as_slice.ensures, c.as_slice-2.ensures, c.get.ensures, c.in_ok-more.ensures)) refl refl)

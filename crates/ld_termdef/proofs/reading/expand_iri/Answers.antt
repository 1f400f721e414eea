use Rattle.std.proofs.Common.{◌≡◌}
use Rattle.ld_termdef.specs.Contexts.{active_of}
use Rattle.ld_termdef.proofs.RowOrder.{reads-term, reads-other}
use Rattle.ld_termdef.proofs.reading.expand_iri.Goals as goal

pub returns-in-Some : goal.returns-in-Some
returns-in-Some c = reads-term (active_of c.args.active.now).current c.args.mode c.args.text.now c.in-Some.read (cc (c.in-Some.is, c.in_ok-read.ensures))

pub returns-in-Some-2 : goal.returns-in-Some-2
returns-in-Some-2 c =
    reads-other (active_of c.args.active.now).current c.args.mode c.args.text.now c.in-Some-2.read (cc (c.in_default.is, c.in_ok-read.ensures)) (cc (c.in-Some-2.is, c.in_ok-read-2.ensures))

use Rattle.std.proofs.Common.{◌≡◌}
use Rattle.ld_termdef.specs.Contexts.{active_of}
use Rattle.ld_termdef.proofs.RowOrder.{ok-same, term-keyword, term-defined, term-none}
use Rattle.ld_termdef.proofs.reading.term_read.Goals as goal

pub returns-in-Some : goal.returns-in-Some
returns-in-Some c = term-keyword (active_of c.args.active.now).current c.args.mode c.args.text.now c.in-Some.read (cc c.in-Some.ensures)

pub returns-in-Some-definition : goal.returns-in-Some-definition
returns-in-Some-definition c =
    ok-same _ _ _ c.mapped_read.ensures (term-defined (active_of c.args.active.now).current c.args.mode c.args.text.now c.in-Some-definition.definition.now (cc (c.in_default.ensures, c.in_default.is)) (cc c.in-Some-definition.ensures.definition))

pub returns-in-None : goal.returns-in-None
returns-in-None c =
    term-none (active_of c.args.active.now).current c.args.mode c.args.text.now (cc (c.in_default.ensures, c.in_default.is)) (cc c.in-None.ensures.definition)

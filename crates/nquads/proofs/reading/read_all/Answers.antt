use Rattle.std.proofs.Common.{List}
use Rattle.std.proofs.lemmas.Result.{IfOk-weaker, IfErr-weaker}
use Rattle.term_store.specs.declared.statements.Quad.{Quad}
use Rattle.nquads.specs.declared.fault.NqFault.{NqFault}
use Rattle.nquads.proofs.ReadWhole.{read_of, set_not_read}
use Rattle.nquads.proofs.reading.read_all.Goals as goal

pub returns-clause-ok : goal.returns-clause-ok
returns-clause-ok c =
    IfOk-weaker c.set_of.result _ _
    (λ (set : List Quad) h. read_of c.args.bytes.now c.read_text.new.terms c.in-Ok.quads.items set c.in-Ok.ensures.ok h) c.set_of.ensures.ok

pub returns-clause-fault : goal.returns-clause-fault
returns-clause-fault c =
    IfErr-weaker c.set_of.result _ _
    (λ (e : NqFault) h. set_not_read c.args.bytes.now c.read_text.new.terms c.in-Ok.quads.items c.differ.ensures c.in-Ok.ensures.ok e h) c.set_of.ensures.fault

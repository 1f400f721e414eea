use Rattle.std.proofs.Common.{Vec, Global, subst}
use Rattle.std.proofs.lemmas.Result.{IfOk-weaker, IfErr-weaker}
use Rattle.term_store.specs.declared.statements.Quad.{Quad}
use Rattle.nquads.specs.Internal.Lines.{SaysSo}
use Rattle.nquads.specs.declared.fault.NqFault.{NqFault}
use Rattle.nquads.proofs.StoringLemmas.{line_kept, line_fault}
use Rattle.nquads.proofs.storing.with_line.Goals as goal

pub returns-in_ok-kept-in-Statement-clause-ok : goal.returns-in_ok-kept-in-Statement-clause-ok
returns-in_ok-kept-in-Statement-clause-ok c =
    IfOk-weaker c.with_quad.result _ _
    (λ (v : Vec Quad Global) h. line_kept c.args.line.now c.args.terms.now c.keep_quad.new.terms c.args.quads.items v.items c.in_ok-kept-in-Statement.kept c.in-Statement.quad
    c.keep_quad.ensures.grows c.requires c.in_ok-kept-in-Statement.ensures.ok (subst (SaysSo c.args.line.now) c.in-Statement.is c.in_ok-line_said.ensures) h) c.with_quad.ensures.same

pub returns-in_ok-kept-in-Statement-clause-fault : goal.returns-in_ok-kept-in-Statement-clause-fault
returns-in_ok-kept-in-Statement-clause-fault c =
    IfErr-weaker c.with_quad.result _ _
    (λ (e : NqFault) h. line_fault c.args.line.now c.args.at c.args.terms.now c.keep_quad.new.terms c.args.quads.items c.in_ok-kept-in-Statement.kept c.in-Statement.quad
    c.keep_quad.ensures.grows c.differ.ensures c.requires c.in_ok-kept-in-Statement.ensures.ok (subst (SaysSo c.args.line.now) c.in-Statement.is c.in_ok-line_said.ensures) e h) c.with_quad.ensures.fault

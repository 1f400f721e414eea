use Rattle.std.proofs.Common.{Vec, Global, subst}
use Rattle.std.proofs.lemmas.Result.{IfOk-weaker}
use Rattle.base_types.specs.Sets.{SameElements}
use Rattle.term_store.specs.declared.statements.Quad.{Quad}
use Rattle.nquads.proofs.storing.with_quad.Goals as goal

pub returns-then-len-clause-same : goal.returns-then-len-clause-same
returns-then-len-clause-same c =
    IfOk-weaker c.settled.result _ _
    (λ (v : Vec Quad Global) h. subst (SameElements v.items) c.in_ok-push.ensures h) c.settled.ensures.same

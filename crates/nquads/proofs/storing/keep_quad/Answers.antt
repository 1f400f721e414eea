use Rattle.nquads.proofs.StoringLemmas.{quad_kept}
use Rattle.nquads.proofs.storing.keep_quad.Goals as goal

pub returns-clause-ok : goal.returns-clause-ok
returns-clause-ok c =
    quad_kept c.args.terms.now c.intern.new.self c.intern-2.new.self c.intern-3.new.self c.keep_graph.new.terms c.args.quad.now
    c.in_ok-subject.subject c.in_ok-predicate.predicate c.in_ok-object.object c.in_ok-graph.graph c.as_str.result.now c.as_str-2.result.now c.as_str-3.result.now
    c.as_str.ensures c.as_str-2.ensures c.as_str-3.ensures c.in_ok-subject.ensures.ok c.in_ok-predicate.ensures.ok c.in_ok-object.ensures.ok c.keep_graph.ensures.grows c.in_ok-graph.ensures.ok

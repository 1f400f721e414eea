use Rattle.std.proofs.Common.{sym, ◌∙◌}
use Rattle.nquads.specs.Internal.Parsing.{seen_line}
use Rattle.nquads.proofs.SaidLemmas.{no_object, no_graph, quad_made}
use Rattle.nquads.proofs.terms.statement_of.Goals as goal

pub returns-in_default-3 : goal.returns-in_default-3
returns-in_default-3 c =
    no_object (seen_line c.args.parts.now) c.in-Some.subject c.in-Some-2.predicate
    (sym c.in-Some.is ∙ c.in_ok-subject.ensures) (sym c.in-Some-2.is ∙ c.in_ok-predicate.ensures) (sym c.in_default-3.is ∙ c.in_ok-object.ensures)

pub returns-in_default-4 : goal.returns-in_default-4
returns-in_default-4 c =
    no_graph (seen_line c.args.parts.now) c.in-Some.subject c.in-Some-2.predicate c.in-Some-3.object
    (sym c.in-Some.is ∙ c.in_ok-subject.ensures) (sym c.in-Some-2.is ∙ c.in_ok-predicate.ensures) (sym c.in-Some-3.is ∙ c.in_ok-object.ensures) (sym c.in_default-4.is ∙ c.in_ok-graph.ensures)

pub returns : goal.returns
returns c =
    quad_made (seen_line c.args.parts.now) c.in-Some.subject c.in-Some-2.predicate c.in-Some-3.object c.in-Some-4.graph
    (sym c.in-Some.is ∙ c.in_ok-subject.ensures) (sym c.in-Some-2.is ∙ c.in_ok-predicate.ensures) (sym c.in-Some-3.is ∙ c.in_ok-object.ensures) (sym c.in-Some-4.is ∙ c.in_ok-graph.ensures)

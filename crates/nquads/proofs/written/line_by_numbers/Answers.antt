use Rattle.term_store.specs.Store.{text_at}
use Rattle.nquads.specs.Internal.Parts.{number_graph, number_part}
use Rattle.nquads.proofs.LineLemmas.{assembled-parts}
use Rattle.nquads.proofs.written.line_by_numbers.Goals as goal

pub returns : goal.returns
returns c =
    let texts = c.args.terms.now in
    let labels = c.args.labels.now in
    let quad = c.args.quad.now in
    assembled-parts (number_part texts labels quad.subject) (text_at texts quad.predicate) (number_part texts labels quad.object) (number_graph texts labels quad.graph) _ _ _ _ _ _ _ _ _ _ _
    c.in_ok-out.ensures
    c.in_ok-push_part.ensures
    c.part-subject.ensures
    c.in_ok-push_str.ensures.ok
    c.text-predicate.ensures
    c.in_ok-push_str-2.ensures.ok
    c.in_ok-push_part-2.ensures
    c.part-object.ensures
    c.in_ok-push_part-3.ensures
    c.graph_part-graph.ensures
    c.in_ok-push_str-3.ensures.ok

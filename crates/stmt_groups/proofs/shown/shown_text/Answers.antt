use Rattle.term_store.specs.Store.{text_at}
use Rattle.stmt_groups.specs.Internal.Shown.{shown_graph, shown_part}
use Rattle.stmt_groups.proofs.ShownLemmas.{assembled}
use Rattle.stmt_groups.proofs.shown.shown_text.Goals as goal

pub returns : goal.returns
returns c =
    let texts = c.args.terms.now in
    let quad = c.args.quad.now in
    assembled (shown_part texts quad.subject) (text_at texts quad.predicate) (shown_part texts quad.object) (shown_graph texts quad.graph) _ _ _ _ _ _ _ _ _ _ _ _ _ _ _
    c.in_ok-out.ensures
    c.shown_part-subject.ensures
    c.text-predicate.ensures
    c.shown_part-object.ensures
    c.shown_graph.ensures
    c.in_ok-push_str.ensures.ok
    c.in_ok-push_str-2.ensures.ok
    c.in_ok-push_str-3.ensures.ok
    c.in_ok-push_str-4.ensures.ok
    c.in_ok-push_str-5.ensures.ok
    c.in_ok-push_str-6.ensures.ok
    c.in_ok-push_str-7.ensures.ok
    c.in_ok-push_str-8.ensures.ok
    c.in_ok-push_str-9.ensures.ok

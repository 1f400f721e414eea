use Rattle.term_store.specs.Store.{text_at}
use Rattle.rdfc_first.specs.Internal.Mentions.{marked_part, marked_graph}
use Rattle.rdfc_first.proofs.MarkedLines.{assembled}
use Rattle.rdfc_first.proofs.mentions.marked_line.Goals as goal

pub returns : goal.returns
returns c =
    let texts = c.args.terms.now in
    let blank = c.args.blank in
    let quad = c.args.quad.now in
    assembled (marked_part texts blank quad.subject) (text_at texts quad.predicate) (marked_part texts blank quad.object) (marked_graph texts blank quad.graph) _ _ _ _ _ _ _ _ _ _ _ _ _ _ _
    c.in_ok-out.ensures
    c.marked_part-subject.ensures
    c.text-predicate.ensures
    c.marked_part-object.ensures
    c.marked_graph.ensures
    c.in_ok-push_str.ensures.ok
    c.in_ok-push_str-2.ensures.ok
    c.in_ok-push_str-3.ensures.ok
    c.in_ok-push_str-4.ensures.ok
    c.in_ok-push_str-5.ensures.ok
    c.in_ok-push_str-6.ensures.ok
    c.in_ok-push_str-7.ensures.ok
    c.in_ok-push_str-8.ensures.ok
    c.in_ok-push_str-9.ensures.ok

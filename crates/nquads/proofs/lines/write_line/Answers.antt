use Rattle.nquads.specs.Texts.{label_text}
use Rattle.nquads.proofs.LineLemmas.{assembled}
use Rattle.nquads.proofs.lines.write_line.Goals as goal

pub returns : goal.returns
returns c =
    assembled (label_text c.args.labels.now) c.args.quad.now _ _ _ _ _ _ _ _ _ _
    c.in_ok-out.ensures
    c.in_ok-push_part.ensures
    c.in_ok-push_str.ensures.ok
    c.as_str.ensures
    c.in_ok-push_str-2.ensures.ok
    c.in_ok-push_str-3.ensures.ok
    c.in_ok-push_part-2.ensures
    c.in_ok-push_str-4.ensures.ok
    c.in_ok-push_graph.ensures
    c.in_ok-push_str-5.ensures.ok

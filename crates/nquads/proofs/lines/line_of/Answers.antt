use Rattle.std.proofs.Common.{ap, ◌∙◌}
use Rattle.nquads.specs.Texts.{label_text}
use Rattle.nquads.specs.Internal.TextLines.{text_line}
use Rattle.nquads.proofs.LineLemmas.{text_line-spelled}
use Rattle.nquads.proofs.lines.line_of.Goals as goal

pub returns : goal.returns
returns c = λ s is.
    let label = label_text c.args.labels.now in
    c.in_ok-line.ensures ∙ ap (text_line label) is ∙ text_line-spelled label s

use Rattle.std.proofs.Common.{ap, ◌∙◌, map}
use Rattle.nquads.specs.Texts.{label_text}
use Rattle.nquads.specs.Internal.TextLines.{text_line}
use Rattle.nquads.proofs.LineLemmas.{kept-canonical}
use Rattle.nquads.proofs.lines.canonical_lines.Goals as goal

pub returns : goal.returns
returns c = λ q same.
    let label = label_text c.args.labels.now in
    let made = c.in_ok-lines.ensures ∙ ap (map (text_line label)) c.as_slice.ensures.same in
    c.from_vec.ensures ∙ kept-canonical label c.args.quads.now _ _ _ q made c.sort_unstable.ensures.permutation c.sort_unstable.ensures.sorted c.dedup.ensures.filtered same

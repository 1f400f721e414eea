use Rattle.std.proofs.Common.{ap, ◌∙◌}
use Rattle.std.specs.List.{concat}
use Rattle.nquads.proofs.written.write.Goals as goal

pub returns : goal.returns
returns c = λ q same. c.in_ok-text.ensures ∙ ap concat (c.as_slice.ensures ∙ c.in_ok-lines.ensures q same)

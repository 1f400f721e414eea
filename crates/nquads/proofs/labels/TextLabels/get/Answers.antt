use Rattle.std.proofs.Common.{ap, ◌∙◌, string_bytes}
use Rattle.nquads.specs.Texts.{find_label}
use Rattle.nquads.proofs.LabelLemmas.{find_label-lookup}
use Rattle.nquads.proofs.labels.TextLabels.get.Goals as goal

pub returns : goal.returns
returns c =
    c.get.ensures.value ∙ find_label-lookup string_bytes c.args.blank.now c.self.inside.labels.entries ∙ ap (λ ls. find_label ls c.args.blank.now) c.self.view_is

use Rattle.std.proofs.Common.{ap, ◌∙◌}
use Rattle.nquads.specs.Stored.{find_number}
use Rattle.nquads.proofs.NumberLemmas.{find_number-lookup}
use Rattle.nquads.proofs.numbers.Labels.get.Goals as goal

pub returns : goal.returns
returns c =
    c.get.ensures.value ∙ find_number-lookup c.args.blank.index c.self.inside.labels.entries ∙ ap (λ ls. find_number ls c.args.blank.index) c.self.view_is

use Rattle.std.proofs.Common.{ap, ◌∙◌}
use Rattle.rdfc_ndegree.specs.Internal.Building.{number_among}
use Rattle.rdfc_ndegree.proofs.NumberLemmas.{position-number}
use Rattle.rdfc_ndegree.proofs.numbers.Numbers.place_of.Goals as goal

pub returns : goal.returns
returns c =
    c.get_index_of.ensures.index
    ∙ position-number c.args.id.index c.self.inside.ids.keys
    ∙ ap (λ ns. number_among ns c.args.id.index) c.self.view_is

use Rattle.std.proofs.Common.{ap, ◌∙◌}
use Rattle.rdfc_ndegree.specs.NumberIssuers.{place_in}
use Rattle.rdfc_ndegree.specs.Internal.Issuing.{place_below}
use Rattle.rdfc_ndegree.proofs.Places.{place-first}
use Rattle.rdfc_ndegree.proofs.temporary.Temporary.number.Goals as goal

pub returns : goal.returns
returns c =
    c.place_below.ensures
    ∙ ap (λ place. place_below place c.self.inside.count) c.place_of.ensures
    ∙ place-first c.self.inside.order c.self.inside.count c.args.node
    ∙ ap (λ order. place_in order c.args.node) c.self.view_is

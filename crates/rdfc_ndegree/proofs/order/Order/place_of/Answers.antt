use Rattle.std.proofs.Common.{ap, ◌∙◌}
use Rattle.rdfc_ndegree.specs.NumberIssuers.{place_in}
use Rattle.rdfc_ndegree.proofs.order.Order.place_of.Goals as goal

pub returns : goal.returns
returns c =
    c.copied.ensures ∙ c.get.ensures.value ∙ c.self.invariant c.args.number ∙ ap (λ numbers. place_in numbers c.args.number) c.self.view_is

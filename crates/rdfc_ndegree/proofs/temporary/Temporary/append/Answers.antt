use Rattle.std.proofs.Common.{ap, ◌∙◌, ◌++◌, ◌∷◌, []}
use Rattle.rdfc_ndegree.proofs.Places.{first-pushed}
use Rattle.rdfc_ndegree.proofs.temporary.Temporary.append.Goals as goal

pub returns-in-Some : goal.returns-in-Some
returns-in-Some c = c.in-Some.ensures.number ∙ ap (λ ns. ns ++ c.args.node ∷ []) c.self.view_is

pub returns : goal.returns
returns c =
    first-pushed c.self.inside.order c.cut.new.self c.push.new.self c.args.self.now c.self.inside.count c.args.node c.len-self-inside.result c.self.view_is c.cut.ensures c.in_ok-push.ensures.ok c.len-self-inside.ensures

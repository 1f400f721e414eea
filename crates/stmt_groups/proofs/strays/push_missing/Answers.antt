use Rattle.std.proofs.Common.{sym, ◌∙◌}
use Rattle.std.proofs.lemmas.Bool.{false≢true}
use Rattle.stmt_groups.proofs.StrayLemmas.{gains_none, gains_one}
use Rattle.stmt_groups.proofs.strays.push_missing.Goals as goal

pub returns-then-has : goal.returns-then-has
returns-then-has c = gains_none c.args.strays.now.items c.args.set.now c.args.quad.now (c.has.ensures.0 c.if-has.true)

pub returns : goal.returns
returns c = gains_one c.args.strays.now.items c.push.new.self.items c.args.set.now c.args.quad.now c.in_ok-push.ensures.items (λ d. false≢true (sym c.if-has.false ∙ c.has.ensures.1 d))

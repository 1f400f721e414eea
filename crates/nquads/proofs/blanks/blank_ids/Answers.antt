use Rattle.std.proofs.Common.{List, ℕ, subst}
use Rattle.base_types.specs.Sets.{SameElements}
use Rattle.nquads.proofs.blanks.blank_ids.Goals as goal

pub returns-clause-same : goal.returns-clause-same
returns-clause-same c = subst (λ (ids : List ℕ). SameElements c.each_once.result.items ids) c.in_ok-ids.ensures c.each_once.ensures.same

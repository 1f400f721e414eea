use Rattle.rdfc_canon.proofs.Ordered.{ordered_labels, ordered_text, ordered_ties, ordered_work}
use Rattle.rdfc_canon.proofs.laws.order_does_not_matter.Goals as goal

pub returns-clause-ties : goal.returns-clause-ties
returns-clause-ties c = λ digest q p s. ordered_ties digest q p s

pub returns-clause-work : goal.returns-clause-work
returns-clause-work c = λ digest q p n s. ordered_work digest q p s n

pub returns-clause-labels : goal.returns-clause-labels
returns-clause-labels c = λ digest q p l s h. ordered_labels digest q p s l h

pub returns-clause-text : goal.returns-clause-text
returns-clause-text c = λ digest q p l m s h k. ordered_text digest q p s l m h k

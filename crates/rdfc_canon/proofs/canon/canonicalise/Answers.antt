use Rattle.rdfc_canon.proofs.Clauses.{clause-ok, clause-labels, clause-tie, clause-every, clause-work, clause-within}
use Rattle.rdfc_canon.proofs.canon.canonicalise.Goals as goal

pub returns-clause-ok : goal.returns-clause-ok
returns-clause-ok c = λ q is. clause-ok c.args.hash c.args.terms.now q c.args.limits.now c.canonical_form.result (c.canonical_form.ensures.is q is)

pub returns-clause-labels : goal.returns-clause-labels
returns-clause-labels c = λ q is. clause-labels c.args.hash c.args.terms.now q c.args.limits.now c.canonical_form.result (c.canonical_form.ensures.is q is)

pub returns-clause-tie : goal.returns-clause-tie
returns-clause-tie c = λ q is. clause-tie c.args.hash c.args.terms.now q c.args.limits.now c.canonical_form.result (c.canonical_form.ensures.is q is)

pub returns-clause-every_run : goal.returns-clause-every_run
returns-clause-every_run c = λ q is. clause-every c.args.hash c.args.terms.now q c.args.limits.now c.canonical_form.result (c.canonical_form.ensures.is q is)

pub returns-clause-work : goal.returns-clause-work
returns-clause-work c = λ q limit is e. clause-work c.args.hash c.args.terms.now q c.args.limits.now c.canonical_form.result (c.canonical_form.ensures.is q is) limit e

pub returns-clause-within : goal.returns-clause-within
returns-clause-within c = λ q is w error e. clause-within c.args.hash c.args.terms.now q c.args.limits.now c.canonical_form.result (c.canonical_form.ensures.is q is) w error e

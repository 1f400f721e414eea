use Rattle.rdfc_ndegree.proofs.Alikes.{alike-found, none-kept}
use Rattle.rdfc_ndegree.proofs.table.NodeTable.alike_until.Goals as goal

pub returns-in-Some-clause-alike : goal.returns-in-Some-clause-alike
returns-in-Some-clause-alike c =
    let row = c.in-Some.ensures.lookup in
    rw (← c.self.view_is)
    (alike-found c.self.inside.terms.now c.self.inside.rows.items c.deref.result.now c.args.node c.args.place c.alike_until.result c.in-Some.row.now c.as_slice.result.now c.deref.ensures.value row.3.0 row.1 c.as_slice.ensures c.alike_until.ensures.alike)

pub returns-in-None-clause-alike : goal.returns-in-None-clause-alike
returns-in-None-clause-alike c =
    rw (← c.self.view_is)
    (λ o. none-kept c.self.inside.terms.now c.self.inside.rows.items c.deref.result.now c.args.node c.args.place o c.deref.ensures.value c.in-None.ensures.lookup.3)

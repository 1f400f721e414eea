use Rattle.rdfc_ndegree.proofs.BuiltRows.{related-found}
use Rattle.rdfc_ndegree.proofs.table.NodeTable.related.Goals as goal

pub returns : goal.returns
returns c =
    let row = c.in_ok-row.ensures.lookup in
    rw (c.text.ensures, ← c.self.view_is)
    (related-found c.self.inside.terms.now c.self.inside.rows.items c.deref.result.now c.args.node c.args.place c.in_ok-row.row.now c.in_ok-related.related.now c.deref.ensures.value row.3.0 row.1 c.in_ok-related.ensures)

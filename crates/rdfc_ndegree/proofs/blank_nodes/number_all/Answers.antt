use Rattle.std.proofs.Common.{◌∙◌, ap, map}
use Rattle.term_store.specs.Store.{text_at}
use Rattle.rdfc_ndegree.proofs.RequestLemmas.{last-named}
use Rattle.rdfc_ndegree.proofs.blank_nodes.number_all.Goals as goal

pub returns-clause-table : goal.returns-clause-table
returns-clause-table c = λ q cs is are all. c.in_ok-table.ensures.table q cs is are (ap (map (text_at c.args.terms.now)) (c.as_slice.ensures.value ∙ c.in_ok-others.ensures) ∙ all)

pub returns-clause-node : goal.returns-clause-node
returns-clause-node c = last-named c.in_ok-table.field-0.numbers c.as_slice.result.now c.args.canonical.now c.args.issuer.now c.args.node (c.as_slice.ensures.value ∙ c.in_ok-others.ensures) c.in_ok-table.ensures.others

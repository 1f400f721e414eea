use Rattle.std.proofs.Common.{◌++◌, ◌∙◌, ap, append-nil, sym}
use Rattle.rdfc_ndegree.proofs.Walks.{known-none}
use Rattle.rdfc_ndegree.proofs.related.push_identifier_or_hash.Goals as goal

pub returns-in_default-first : goal.returns-in_default-first
returns-in_default-first c = λ algorithm.
    let none = known-none algorithm c.args.table.now c.args.canonical.now c.args.issuer.now c.args.node c.in_default.ensures c.in_default-number.ensures c.in_default-first.ensures in
    sym (ap (λ t. c.args.text.now.items ++ t) none ∙ append-nil c.args.text.now.items)

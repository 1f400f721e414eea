use Rattle.std.proofs.Common.{sym, subst, map}
use Rattle.std.specs.Prelude.{All, Contains}
use Rattle.term_store.specs.Store.{text_at}
use Rattle.rdfc_ndegree.proofs.TableLemmas.{named-texts}
use Rattle.rdfc_ndegree.proofs.building.node_table.Goals as goal

pub returns-clause-others : goal.returns-clause-others
returns-clause-others c =
    subst (λ names. All (Contains names) (map (text_at c.args.terms.now) c.args.others.now)) (sym c.in_ok-table.ensures.names)
    (named-texts c.args.terms.now _ c.args.others.now c.in_ok-table.ensures.others)

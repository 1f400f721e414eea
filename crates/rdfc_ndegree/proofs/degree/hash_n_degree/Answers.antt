use Rattle.rdfc_ndegree.proofs.TableCarry.{table-lawful}
use Rattle.rdfc_ndegree.proofs.degree.hash_n_degree.Goals as goal

pub hash_on_stack-requires-clause-nodes : goal.hash_on_stack-requires-clause-nodes
hash_on_stack-requires-clause-nodes c = table-lawful c.args.hash c.args.table.now c.see_closed.ensures

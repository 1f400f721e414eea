use Rattle.std.proofs.Common.{refl}
use Rattle.json_tree.specs.declared.tree.Tree.{out-Tree}
use Rattle.ld_termdef.proofs.laws.worked_containers.Goals as goal

pub returns-clause-twice : goal.returns-clause-twice
unfolding out-Tree denote.Hole.Carrier.out
returns-clause-twice c = refl

pub returns-clause-unknown : goal.returns-clause-unknown
returns-clause-unknown c = refl

pub returns-clause-number : goal.returns-clause-number
returns-clause-number c = refl

pub returns-clause-none : goal.returns-clause-none
returns-clause-none c = refl

pub returns-clause-list : goal.returns-clause-list
returns-clause-list c = refl

pub returns-clause-set : goal.returns-clause-set
returns-clause-set c = refl

pub returns-clause-index : goal.returns-clause-index
returns-clause-index c = refl

pub returns-clause-graph_id : goal.returns-clause-graph_id
returns-clause-graph_id c = refl

pub returns-clause-graph_index : goal.returns-clause-graph_index
returns-clause-graph_index c = refl

pub returns-clause-list_set : goal.returns-clause-list_set
returns-clause-list_set c = refl

pub returns-clause-list_index : goal.returns-clause-list_index
returns-clause-list_index c = refl

pub returns-clause-two_maps : goal.returns-clause-two_maps
returns-clause-two_maps c = refl

pub returns-clause-id_type : goal.returns-clause-id_type
returns-clause-id_type c = refl

pub returns-clause-graph_type : goal.returns-clause-graph_type
returns-clause-graph_type c = refl

pub returns-clause-graph_both : goal.returns-clause-graph_both
returns-clause-graph_both c = refl

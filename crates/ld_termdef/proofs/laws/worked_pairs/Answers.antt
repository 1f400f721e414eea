use Rattle.std.proofs.Common.{refl}
use Rattle.json_tree.specs.declared.tree.Tree.{out-Tree}
use Rattle.ld_termdef.proofs.laws.worked_pairs.Goals as goal

pub returns-clause-reverse_id : goal.returns-clause-reverse_id
unfolding out-Tree denote.Hole.Carrier.out
returns-clause-reverse_id c = refl

pub returns-clause-reverse_same : goal.returns-clause-reverse_same
unfolding out-Tree denote.Hole.Carrier.out
returns-clause-reverse_same c = refl

pub returns-clause-reverse_nest : goal.returns-clause-reverse_nest
unfolding out-Tree denote.Hole.Carrier.out
returns-clause-reverse_nest c = refl

pub returns-clause-reverse_list : goal.returns-clause-reverse_list
unfolding out-Tree denote.Hole.Carrier.out
returns-clause-reverse_list c = refl

pub returns-clause-reverse_set : goal.returns-clause-reverse_set
unfolding out-Tree denote.Hole.Carrier.out
returns-clause-reverse_set c = refl

pub returns-clause-container_type : goal.returns-clause-container_type
unfolding out-Tree denote.Hole.Carrier.out
returns-clause-container_type c = refl

pub returns-clause-container_alone : goal.returns-clause-container_alone
unfolding out-Tree denote.Hole.Carrier.out
returns-clause-container_alone c = refl

pub returns-clause-prefix_alias : goal.returns-clause-prefix_alias
unfolding out-Tree denote.Hole.Carrier.out
returns-clause-prefix_alias c = refl

pub returns-clause-no_prefix : goal.returns-clause-no_prefix
unfolding out-Tree denote.Hole.Carrier.out
returns-clause-no_prefix c = refl

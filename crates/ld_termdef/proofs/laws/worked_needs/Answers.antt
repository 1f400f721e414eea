use Rattle.std.proofs.Common.{refl}
use Rattle.json_tree.specs.declared.tree.Tree.{out-Tree}
use Rattle.ld_termdef.proofs.laws.worked_needs.Goals as goal

pub returns-clause-own_prefix : goal.returns-clause-own_prefix
unfolding out-Tree denote.Hole.Carrier.out
returns-clause-own_prefix c = refl

pub returns-clause-chain : goal.returns-clause-chain
unfolding out-Tree denote.Hole.Carrier.out
returns-clause-chain c = refl

pub returns-clause-itself : goal.returns-clause-itself
unfolding out-Tree denote.Hole.Carrier.out
returns-clause-itself c = refl

pub returns-clause-term : goal.returns-clause-term
unfolding out-Tree denote.Hole.Carrier.out
returns-clause-term c = refl

pub returns-clause-colon_term : goal.returns-clause-colon_term
unfolding out-Tree denote.Hole.Carrier.out
returns-clause-colon_term c = refl

pub returns-clause-by_itself : goal.returns-clause-by_itself
unfolding out-Tree denote.Hole.Carrier.out
returns-clause-by_itself c = refl

pub returns-clause-same : goal.returns-clause-same
unfolding out-Tree denote.Hole.Carrier.out
returns-clause-same c = refl

pub returns-clause-slashes : goal.returns-clause-slashes
unfolding out-Tree denote.Hole.Carrier.out
returns-clause-slashes c = refl

pub returns-clause-blank : goal.returns-clause-blank
unfolding out-Tree denote.Hole.Carrier.out
returns-clause-blank c = refl

pub returns-clause-keyword : goal.returns-clause-keyword
unfolding out-Tree denote.Hole.Carrier.out
returns-clause-keyword c = refl

pub returns-clause-no_entry : goal.returns-clause-no_entry
unfolding out-Tree denote.Hole.Carrier.out
returns-clause-no_entry c = refl

use Rattle.std.proofs.Common.{sym, ap, subst}
use Rattle.json_tree.specs.declared.tree.Tree.TheVariants as v
use Rattle.json_tree.specs.WellFormed.{IsWellFormed}
use Rattle.json_tree.proofs.TreeLemmas.{members_rise}
use Rattle.json_tree.proofs.MemberChanges.{without_well_formed}
use Rattle.json_tree.proofs.tree.Tree.without.Goals as goal

pub taken_out-requires : goal.taken_out-requires
taken_out-requires c = members_rise c.args.self c.in-Object.members c.requires c.in-Object.is

pub returns-in-Object-clause-well_formed : goal.returns-in-Object-clause-well_formed
returns-in-Object-clause-well_formed c whole =
    subst IsWellFormed (ap v.Object (sym c.taken_out.ensures)) (without_well_formed c.args.key.now c.in-Object.members (subst IsWellFormed c.in-Object.is whole))

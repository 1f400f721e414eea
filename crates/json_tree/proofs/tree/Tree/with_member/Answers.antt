use Rattle.std.proofs.Common.{sym, ap, subst}
use Rattle.json_tree.specs.declared.tree.Tree.TheVariants as v
use Rattle.json_tree.specs.Trees.{new_member}
use Rattle.json_tree.specs.WellFormed.{IsWellFormed}
use Rattle.json_tree.proofs.TreeLemmas.{members_rise}
use Rattle.json_tree.proofs.MemberChanges.{put_well_formed}
use Rattle.json_tree.proofs.tree.Tree.with_member.Goals as goal

pub put_in-requires : goal.put_in-requires
put_in-requires c = members_rise c.args.self c.in-Object.members c.requires c.in-Object.is

pub returns-in_ok-all-in-Object-clause-well_formed :
    goal.returns-in_ok-all-in-Object-clause-well_formed
returns-in_ok-all-in-Object-clause-well_formed c whole one placed =
    subst IsWellFormed (ap v.Object (sym c.in_ok-all-in-Object.ensures)) (put_well_formed (new_member c.args.key c.args.value) c.in-Object.members one placed (subst IsWellFormed c.in-Object.is whole))

use Rattle.json_tree.proofs.Rising.{find_nowhere}
use Rattle.pointer_select.proofs.Children.{no_member, the_member}
use Rattle.pointer_select.proofs.parting.index_of_member.Goals as goal

pub returns-in-Ok : goal.returns-in-Ok
returns-in-Ok c = the_member c.args.members.now c.args.key.now c.in-Ok.at c.requires c.in-Ok.ensures.0 c.in-Ok.ensures.1

pub returns-in-Err : goal.returns-in-Err
returns-in-Err c =
    let nowhere = c.in-Err.ensures.1 in
    no_member c.args.key.now c.args.members.now (find_nowhere c.args.members.now c.args.key.now _ nowhere.0 nowhere.1)

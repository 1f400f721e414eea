use Rattle.std.proofs.Common.{◌<◌, length, arith}
use Rattle.std.proofs.lemmas.List.{nil_from_length}
use Rattle.pointer_select.specs.Internal.Parts.{steps_of}
use Rattle.pointer_select.proofs.Groups.{group_end, group_none, group_grown, only_within}
use Rattle.pointer_select.proofs.parting.add.Goals as goal

pub index_mut-requires : goal.index_mut-requires
index_mut-requires c =
    let within = only_within c.in-Some.first.now (steps_of c.args.tree.now) c.in-Some-index_of_child.at c.in-Some-index_of_child.ensures in
    omega (arith, c.requires.all, c.args.groups.now.ok.0)

pub returns-in-None : goal.returns-in-None
returns-in-None c = group_end c.args.groups.now.items c.args.steps.now (steps_of c.args.tree.now) (nil_from_length c.args.steps.now c.in-None.ensures.cases) c.requires.all

pub returns-in_ok-push-in-Some-index_of_child : goal.returns-in_ok-push-in-Some-index_of_child
returns-in_ok-push-in-Some-index_of_child c =
    let within = only_within c.in-Some.first.now (steps_of c.args.tree.now) c.in-Some-index_of_child.at c.in-Some-index_of_child.ensures in
    let inside : c.in-Some-index_of_child.at < length c.args.groups.now.items = omega (arith, c.requires.all) in
    group_grown c.args.groups.now.items c.in-Some-index_of_child.at c.index_mut.result.now c.push.new.self c.in-Some.rest c.args.steps.now (steps_of c.args.tree.now) c.in-Some.first.now c.index_mut.ensures.value c.in_ok-push-in-Some-index_of_child.ensures.ok inside c.in-Some.ensures.cases.0 c.in-Some-index_of_child.ensures c.requires.all

pub returns-in-None-index_of_child : goal.returns-in-None-index_of_child
returns-in-None-index_of_child c = group_none c.args.groups.now.items c.args.steps.now (steps_of c.args.tree.now) c.in-Some.rest.now c.in-Some.first.now c.in-Some.ensures.cases.0 c.in-None-index_of_child.ensures c.requires.all

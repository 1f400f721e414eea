use Rattle.json_tree.proofs.Writing.{items_written, members_written}
use Rattle.json_tree.proofs.printing.+write.Goals as goal

pub write_items-returns : goal.write_items-returns
write_items-returns t c =
    items_written c.args.items.now c.loop-item.item-index c.args.out.now c.begin_array.new.self c.loop-item.out c.end_array.new.self c.in_ok-begin_array.ensures.ok c.in_ok-begin_array.ensures.room.0 c.loop-item.invariant.written c.loop-item.invariant.before c.loop-item-test.false c.in_ok-end_array.ensures.ok c.in_ok-end_array.ensures.room.0

pub write_members-returns : goal.write_members-returns
write_members-returns t c =
    members_written c.args.members.now c.loop-member.member-index c.args.out.now c.begin_object.new.self c.loop-member.out c.end_object.new.self c.in_ok-begin_object.ensures.ok c.in_ok-begin_object.ensures.room.0 c.loop-member.invariant.written c.loop-member.invariant.before c.loop-member-test.false c.in_ok-end_object.ensures.ok c.in_ok-end_object.ensures.room.0

use Rattle.std.proofs.Common.{drop, arith, ◌∙◌}
use Rattle.pointer_select.specs.Internal.Parts.{groups_now, item_part, member_part}
use Rattle.pointer_select.proofs.PartLemmas.{copy_made, parts_end, item_stays, item_goes, member_kept, member_stays, member_goes}
use Rattle.pointer_select.proofs.parting.+part.Goals.{part_of_items-then-not-is_empty+in_ok-value+in_ok-push, part_of_items-else-not-is_empty, part_of_members-then-is_kept_name+in_ok-value+in_ok-push_member, part_of_members-else-is_kept_name+then-not-is_empty+in_ok-value-2+in_ok-push_member-2, part_of_members-else-is_kept_name+else-not-is_empty}
use Rattle.pointer_select.proofs.parting.+part.Goals as goal

pub part_of-returns-then-one_ends : goal.part_of-returns-then-one_ends
part_of-returns-then-one_ends t c = copy_made c.copy.result c.args.tree.now c.args.pointed.now c.copy.ensures c.if-one_ends.ensures

pub part_of_items-returns : goal.part_of_items-returns
part_of_items-returns t c = parts_end item_part (drop c.loop-k.k (groups_now c.args.groups.now)) c.args.items.now c.loop-k.k _ c.loop-k.part c.loop-k.invariant (omega (arith, c.loop-k-test.false))

pub part_of_items-loop-k-preserved : goal.part_of_items-loop-k-preserved
part_of_items-loop-k-preserved t c =
    let items = c.args.items.now in
    let groups = c.args.groups.now in
    let k = c.loop-k.k in
    let there = c.in-Some.ensures.lookup in
    elim c.if-not-is_empty.branch [
      | part_of_items-then-not-is_empty+in_ok-value+in_ok-push w ↦
          item_stays items groups k w.index-items-k.result w.index-items-k-then-not-is_empty.result c.in-Some.group.now w.as_slice.result.now c.is_empty.result w.in_ok-value.value _ c.loop-k.part c.if-not-is_empty.part c.loop-k.invariant c.loop-k-test.true there.0 there.1 c.is_empty.ensures.1 w.if-not-is_empty.true w.as_slice.ensures w.in_ok-value.ensures (w.part-is ∙ w.in_ok-push.ensures.ok)
      | part_of_items-else-not-is_empty w ↦
          item_goes items groups k c.in-Some.group.now _ c.loop-k.part c.if-not-is_empty.part c.loop-k.invariant c.loop-k-test.true there.0 there.1 (c.is_empty.ensures.0 w.if-not-is_empty.false) w.part-is
    ]

pub part_of_members-returns : goal.part_of_members-returns
part_of_members-returns t c = parts_end member_part (drop c.loop-k.k (groups_now c.args.groups.now)) c.args.members.now c.loop-k.k _ c.loop-k.part c.loop-k.invariant (omega (arith, c.loop-k-test.false))

pub part_of_members-loop-k-preserved : goal.part_of_members-loop-k-preserved
part_of_members-loop-k-preserved t c =
    let members = c.args.members.now in
    let groups = c.args.groups.now in
    let k = c.loop-k.k in
    let there = c.in-Some.ensures.lookup in
    elim c.if-is_kept_name.branch [
      | part_of_members-then-is_kept_name+in_ok-value+in_ok-push_member w ↦
          member_kept members groups k c.index-members-k.result w.index-members-k-then-is_kept_name.result w.index-members-k-then-is_kept_name-2.result c.in-Some.group.now c.as_str.result.now c.is_kept_name.result w.in_ok-value.value _ c.loop-k.part c.if-is_kept_name.part c.loop-k.invariant c.loop-k-test.true there.0 there.1 c.is_kept_name.ensures c.as_str.ensures w.if-is_kept_name.true w.in_ok-value.ensures (w.part-is ∙ w.in_ok-push_member.ensures)
      | part_of_members-else-is_kept_name+then-not-is_empty+in_ok-value-2+in_ok-push_member-2 w ↦
          member_stays members groups k c.index-members-k.result w.index-members-k-then-not-is_empty.result w.index-members-k-then-not-is_empty-2.result c.in-Some.group.now w.as_slice.result.now c.as_str.result.now c.is_kept_name.result w.is_empty.result w.in_ok-value-2.value _ c.loop-k.part c.if-is_kept_name.part c.loop-k.invariant c.loop-k-test.true there.0 there.1 c.is_kept_name.ensures c.as_str.ensures w.if-is_kept_name.false w.is_empty.ensures.1 w.if-not-is_empty.true w.as_slice.ensures w.in_ok-value-2.ensures (w.part-is ∙ w.in_ok-push_member-2.ensures)
      | part_of_members-else-is_kept_name+else-not-is_empty w ↦
          member_goes members groups k c.index-members-k.result c.in-Some.group.now c.as_str.result.now c.is_kept_name.result _ c.loop-k.part c.if-is_kept_name.part c.loop-k.invariant c.loop-k-test.true there.0 there.1 c.is_kept_name.ensures c.as_str.ensures w.if-is_kept_name.false (w.is_empty.ensures.0 w.if-not-is_empty.false) w.part-is
    ]

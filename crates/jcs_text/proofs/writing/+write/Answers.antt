use Rattle.std.proofs.Common.{◌∙◌, ◌<◌, All, ap, refl, sym, subst, length, map, slice_get, get_or}
use Rattle.json.specs.Token.{Token}
use Rattle.json_tree.specs.declared.tree.Tree.{Tree}
use Rattle.json_tree.specs.declared.tree.Item.{Item}
use Rattle.json_tree.specs.declared.tree.Member.{Member}
use Rattle.json_tree.specs.Trees.{holds_version}
use Rattle.json_tree.proofs.Equations.{holds_version-Version, holds_version-List, holds_version-Object}
use Rattle.jcs_text.specs.Canonical.{in_name_order}
use Rattle.jcs_text.specs.Internal.Writing.{item_tokens, member_tokens}
use Rattle.jcs_text.proofs.Equations.{tokens_of-List, tokens_of-Object}
use Rattle.jcs_text.proofs.Turns.{any_end, item_turn, any_next, any_ordered, IsNext, ordered_turn, ordered_next, members_end, list_written}
use Rattle.jcs_text.proofs.writing.+write.Goals as goal

pub write_tree-returns-in-Version : goal.write_tree-returns-in-Version
write_tree-returns-in-Version t c = ap holds_version c.in-Version.is ∙ holds_version-Version

pub write_tree-returns-in-List : goal.write_tree-returns-in-List
write_tree-returns-in-List t c = rw (c.in-List.is, tokens_of-List, holds_version-List, ← c.as_slice.ensures) c.write_items.ensures

pub write_tree-returns-in-Object : goal.write_tree-returns-in-Object
write_tree-returns-in-Object t c = rw (c.in-Object.is, tokens_of-Object, holds_version-Object, ← c.as_slice-in-Object.ensures) c.write_members.ensures

pub write_items-returns : goal.write_items-returns
write_items-returns t c = (
  any_end (λ (i : Item Tree). holds_version i.value) c.args.items.now c.loop-item.item-index _ c.loop-item.invariant.whole c.loop-item-test.false,
  list_written item_tokens c.args.items.now c.loop-item.item-index Token.begin_array Token.end_array c.args.out.now c.begin_array.new.self c.loop-item.out c.end_array.new.self
      c.in_ok-begin_array.ensures.ok c.in_ok-begin_array.ensures.room.0 c.loop-item.invariant.written c.loop-item.invariant.before c.loop-item-test.false c.in_ok-end_array.ensures.ok c.in_ok-end_array.ensures.room.0,
)

pub write_items-loop-item-preserved : goal.write_items-loop-item-preserved
write_items-loop-item-preserved t c = record {
  written = item_turn c.args.items.now c.loop-item.item-index c.item-item.result c.loop-item.out c.write_tree.new.out _ c.loop-item.invariant.written c.loop-item-test.true c.item-item.is c.in_ok-write_tree.ensures.1;
  before = c.in_ok-write_tree.ensures.1.before ∙ c.loop-item.invariant.before;
  whole = any_next (λ (i : Item Tree). holds_version i.value) c.args.items.now c.loop-item.item-index c.item-item.result _ c.loop-item.invariant.whole c.loop-item-test.true c.item-item.is c.in_ok-write_tree.ensures.0;
}

pub write_members-loop-at-init : goal.write_members-loop-at-init
write_members-loop-at-init t c = record { written = refl; before = refl; whole = any_ordered c.args.members.now }

pub write_members-loop-at-preserved : goal.write_members-loop-at-preserved
write_members-loop-at-preserved t c =
    let ms = c.args.members.now in
    let order = c.deref-at-items.result.now in
    let k = c.loop-at.at-index in
    let m = c.index-members-at.result in
    let next : IsNext ms (in_name_order (λ (m : Member Tree). m.key) ms) order k (get_or order k 0) m = record {
      same = ap (map (slice_get ms)) c.deref-at-items.ensures.value ∙ c.in_ok-order.ensures.order;
      within = c.loop-at-test.true;
      index = refl;
      below = subst (All (λ n. n < length ms)) (sym c.deref-at-items.ensures.value) c.in_ok-order.ensures.within k 0 c.loop-at-test.true;
      here = c.index-members-at.is;
    } in
    record {
      written = ordered_turn ms _ order k (get_or order k 0) m c.loop-at.out c.key.new.self c.write_tree.new.out _ next c.loop-at.invariant.written (rw c.as_str.ensures at c.in_ok-key.ensures.ok) c.in_ok-write_tree.ensures.1;
      before = c.in_ok-write_tree.ensures.1.before ∙ c.in_ok-key.ensures.room.0 ∙ c.loop-at.invariant.before;
      whole = ordered_next ms _ order k (get_or order k 0) m next c.loop-at.invariant.whole c.in_ok-write_tree.ensures.0;
    }

pub write_members-returns : goal.write_members-returns
write_members-returns t c =
    let ms = c.args.members.now in
    let ordered = in_name_order (λ (m : Member Tree). m.key) ms in
    let same = ap (map (slice_get ms)) c.deref-at-items.ensures.value ∙ c.in_ok-order.ensures.order in
    let at_end = members_end ms ordered c.deref-at-items.result.now c.loop-at.at-index same c.loop-at-test.false in (
      any_end (λ (m : Member Tree). holds_version m.value) ordered c.loop-at.at-index _ c.loop-at.invariant.whole at_end,
      list_written member_tokens ordered c.loop-at.at-index Token.begin_object Token.end_object c.args.out.now c.begin_object.new.self c.loop-at.out c.end_object.new.self
          c.in_ok-begin_object.ensures.ok c.in_ok-begin_object.ensures.room.0 c.loop-at.invariant.written c.loop-at.invariant.before at_end c.in_ok-end_object.ensures.ok c.in_ok-end_object.ensures.room.0,
    )

use Rattle.std.proofs.Common.{◌≡◌, ◌∙◌, ap, flat_map, rules, of_calls, take, sym, subst}
use Rattle.std.specs.List.Sorted.{IsStableByKey, IsSortedByKey}
use Rattle.std.proofs.lemmas.List.{take_all}
use Rattle.std.proofs.lemmas.Fn.{always_returns_same}
use Rattle.rdfc_ndegree.specs.Groups.{groups_by_hash}
use Rattle.rdfc_ndegree.specs.Internal.Grouping.{node_hashes, add_each}
use Rattle.rdfc_ndegree.specs.declared.related.HashedNode.{HashedNode}
use Rattle.base_types.proofs.Orders.{text_cmp}
use Rattle.rdfc_ndegree.proofs.Grouping.{grouped-next, grouped-stable}
use Rattle.rdfc_ndegree.proofs.related.group_by_hash.Goals as goal

pub returns : goal.returns
returns c =
    let stable : IsStableByKey (λ (h : HashedNode). h.hash) text_cmp c.args.hashed.items c.sort_by_key.new.self.items = c.sort_by_key.ensures.stable (λ (h : HashedNode). h.hash) (always_returns_same _ _ _ (λ a r f k. search (rules, of_calls))) in
    let seen = c.deref-next-items.ensures.value in
    let whole : take c.loop-next.next-index c.deref-next-items.result.now ≡ c.deref-next-items.result.now = take_all c.loop-next.next-index c.deref-next-items.result.now c.loop-next-test.false in
    c.loop-next.invariant ∙ ap (λ hs. groups_by_hash (flat_map node_hashes hs)) (whole ∙ seen) ∙ grouped-stable c.args.hashed.items c.sort_by_key.new.self.items c.sort_by_key.ensures.permutation stable

pub loop-next-preserved : goal.loop-next-preserved
loop-next-preserved c =
    let sorted : IsSortedByKey (λ (h : HashedNode). h.hash) text_cmp c.sort_by_key.new.self.items = c.in_ok-sort_by_key.ensures.sorted (λ (h : HashedNode). h.hash) (always_returns_same _ _ _ (λ a r f k. search (rules, of_calls))) in
    let up : IsSortedByKey (λ (h : HashedNode). h.hash) text_cmp c.deref-next-items.result.now = subst (λ hs. IsSortedByKey (λ (h : HashedNode). h.hash) text_cmp hs) (sym c.deref-next-items.ensures.value) sorted in
    c.in_ok-add.ensures ∙ ap (λ gs. add_each gs (node_hashes c.next-item.result)) c.loop-next.invariant
    ∙ grouped-next c.deref-next-items.result.now c.loop-next.next-index c.next-item.result c.next-item.result c.loop-next-test.true c.next-item.is up

use Rattle.std.proofs.Common.{◌≤◌, ◌==◌, suc, sym, arith, List, [], ◌∷◌, length, cond, Bool, true, false}
use Rattle.digest_mac.specs.Digests.{digits}
use Rattle.term_store.specs.declared.store.TermId.{TermId}
use Rattle.rdfc_first.specs.Internal.Grouping.{run_of}
use Rattle.rdfc_first.specs.declared.mentions.MentionLine.{MentionLine}
use Rattle.rdfc_first.proofs.Runs.{turn, begins, turns, ends}
use Rattle.rdfc_first.proofs.grouping.hashes_of.Goals as goal

run-within : (b : TermId) (ms : List MentionLine) → run_of b ms ≤ length ms
run-within b [] = omega arith
run-within b (m ∷ ms) = go (m.blank.index == b.index) (run-within b ms)
  where
    go : (t : Bool) → run_of b ms ≤ length ms → cond t (suc (run_of b ms)) 0 ≤ suc (length ms)
    go true h = omega arith
    go false h = omega arith

pub loop-first-init : goal.loop-first-init
loop-first-init c = (begins (digits c.args.hash) c.args.lines.now _ c.new-hashes.ensures.items, c.requires)

pub split_at-requires : goal.split_at-requires
split_at-requires c = let h = run-within c.in-Some.first.now.blank c.loop-first.rest.now in omega (arith, c.run_length.ensures)

pub loop-first-smaller : goal.loop-first-smaller
loop-first-smaller c =
    let t = turn (digits c.args.hash) _ _ _ _ _ _ c.loop-first.invariant.1 (sym c.in-Some.ensures.value) c.run_length.ensures c.split_at.ensures.front c.split_at.ensures.back c.in_ok-next.ensures in
    let some = t.some in let back = c.split_at.ensures.back_len in omega arith

pub loop-first-preserved : goal.loop-first-preserved
loop-first-preserved c =
    let t = turn (digits c.args.hash) _ _ _ _ _ _ c.loop-first.invariant.1 (sym c.in-Some.ensures.value) c.run_length.ensures c.split_at.ensures.front c.split_at.ensures.back c.in_ok-next.ensures in
    (turns (digits c.args.hash) c.args.lines.now c.loop-first.rest.now c.split_at.result.1.now c.loop-first.hashes.items _ c.in_ok-next.next _ c.loop-first.invariant.0 t c.in_ok-push.ensures.items, t.in_order)

pub returns : goal.returns
returns c = ends (digits c.args.hash) c.args.lines.now c.loop-first.rest.now c.loop-first.hashes.items c.loop-first.invariant.0 (sym c.in_default.ensures.value)

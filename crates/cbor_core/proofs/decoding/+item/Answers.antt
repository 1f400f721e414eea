use Rattle.std.proofs.Common.{sym, ◌∙◌}
use Rattle.cbor_core.proofs.ReadingLoops.{entries_more, entries_repeated}
use Rattle.cbor_core.specs.Internal.Reading.{item_at}
use Rattle.cbor_core.proofs.decoding.+item.Goals as goal

pub read_entries-returns-then-contains_key : goal.read_entries-returns-then-contains_key
read_entries-returns-then-contains_key t c =
    rw c.place.ensures (entries_repeated c.args.total (item_at c.args.total c.args.levels) c.loop.entries.entries c.args.count c.loop.counter c.loop.remaining c.loop.rest.now _ c.in_ok-key.key c.in_ok-key.behind.now c.loop-test.true c.in_ok-key.ensures (sym c.contains_key.ensures ∙ c.if-contains_key.true) c.loop.invariant)

pub read_entries-loop-preserved : goal.read_entries-loop-preserved
read_entries-loop-preserved t c =
    let value = rw c.saturating_sub.ensures at c.in_ok-value.ensures in
    rw c.in_ok-put_entry.ensures (entries_more c.args.total (item_at c.args.total c.args.levels) c.loop.entries.entries c.args.count c.loop.counter c.loop.remaining c.loop.rest.now _ c.in_ok-key.key c.in_ok-key.behind.now c.in_ok-value.value c.in_ok-value.left_after c.in_ok-value.after.now c.loop-test.true c.in_ok-key.ensures (sym c.contains_key.ensures ∙ c.if-contains_key.false) value c.loop.invariant)

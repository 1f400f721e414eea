use Rattle.std.proofs.Common.{◌≡◌, [], ◌+◌, ◌-◌, ◌*◌}
use Rattle.cbor_core.specs.Internal.Reading.{items_at, entries_at, item_at}
use Rattle.cbor_core.proofs.decoding.+item.Given as goal

-- an item calls its list or map one level deeper, a list or map its items, and these each item
abbrev pub decreases-read_item : goal.decreases-read_item
decreases-read_item l = 3 * l.levels

abbrev pub decreases-read_items : goal.decreases-read_items
decreases-read_items l = 3 * l.levels + 1

abbrev pub decreases-read_entries : goal.decreases-read_entries
decreases-read_entries l = 3 * l.levels + 1

abbrev pub decreases-read_list : goal.decreases-read_list
decreases-read_list l = 3 * l.levels + 2

abbrev pub decreases-read_map : goal.decreases-read_map
decreases-read_map l = 3 * l.levels + 2

abbrev pub invariant-read_items-loop : goal.invariant-read_items-loop
invariant-read_items-loop l =
    items_at (item_at l.total l.levels) l.items (l.count - l.counter) l.remaining l.rest ≡ items_at (item_at l.total l.levels) [] l.count l.left l.bytes

abbrev pub invariant-read_entries-loop : goal.invariant-read_entries-loop
invariant-read_entries-loop l =
    entries_at l.total (item_at l.total l.levels) l.entries.entries (l.count - l.counter) l.remaining l.rest ≡ entries_at l.total (item_at l.total l.levels) [] l.count l.left l.bytes

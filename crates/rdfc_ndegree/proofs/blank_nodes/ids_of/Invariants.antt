use Rattle.std.proofs.Common.{◌≡◌, ◌++◌, drop, map, slice_get}
use Rattle.std.specs.List.{filter_map}
use Rattle.term_store.specs.declared.store.TermId.{TermId}
use Rattle.rdfc_ndegree.proofs.blank_nodes.ids_of.Given as goal

abbrev pub invariant-loop-row : goal.invariant-loop-row
invariant-loop-row l = filter_map (slice_get l.numbers) l.rows ≡ map (λ (id : TermId). id.index) l.ids ++ filter_map (slice_get l.numbers) (drop l.row-index l.rows)

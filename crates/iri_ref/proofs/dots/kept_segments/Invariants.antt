use Rattle.std.proofs.Common.{◌≡◌, [], length}
use denote.Text.{Utf8}
use denote.Shadow.{shadow}
use Rattle.std.specs.List.{fold}
use Rattle.iri_ref.specs.Internal.Pieces.{borrowed_texts}
use Rattle.iri_ref.specs.Resolution.{with_end, enter, segments}
use Rattle.iri_ref.proofs.dots.kept_segments.Given as goal

abbrev pub invariant-loop-segment : goal.invariant-loop-segment
invariant-loop-segment l = shadow (Utf8 l.rest) × (fold enter (borrowed_texts l.kept.items) (with_end (segments l.rest)) ≡ fold enter [] (with_end (segments l.path)))

abbrev pub decreases-loop-segment : goal.decreases-loop-segment
decreases-loop-segment l = length l.rest

use Rattle.std.proofs.Common.{◌∙◌, ap, List, ℕ, [], ◌∷◌}
use denote.Ref.{Bor}
use Rattle.std.specs.List.{join_by}
use Rattle.iri_ref.specs.Resolution.{path_of, remove_dot_segments}
use Rattle.iri_ref.proofs.Walk.{path_of-texts}
use Rattle.iri_ref.proofs.dots.path_without_dots.Goals as goal

pub returns : goal.returns
unfolding remove_dot_segments
returns c =
    c.in_ok-join.ensures.ok ∙ (ap (λ (xs : List (Bor (List ℕ))). join_by (λ (y : Bor (List ℕ)). y.now) (47 ∷ []) xs) c.as_slice.ensures.value ∙ (path_of-texts c.in_ok-kept.kept.items ∙ ap path_of c.in_ok-kept.ensures))

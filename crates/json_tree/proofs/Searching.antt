-- The search for a misplaced version number, turn by turn.
use Rattle.std.proofs.Common.{◌≡◌, List, [], ◌∷◌, ◌++◌, reverse, Option, Some, None, refl, ap, ◌∙◌}
use Rattle.std.proofs.lemmas.List.{reverse-append}
use Rattle.json_tree.specs.declared.place.Step.{Step}
use Rattle.json_tree.specs.Places.{below, or_else}
use Rattle.json_tree.proofs.Equations.{misplaced-Null, misplaced-Bool, misplaced-Whole, misplaced-Version, misplaced-Text, misplaced-List, misplaced-Object}

-- a step before the others goes to the end of what was found
pub found_below : (o later : Option (List Step)) (s : Step) (found more : List Step) → Some (reverse found) ≡ o → more ≡ found ++ s ∷ [] → Some (reverse more) ≡ or_else (below s o) later
found_below (Some p) later s found more is longer =
    let same : reverse found ≡ p = cc in
    rw longer (ap Some (reverse-append found (s ∷ []) ∙ ap (λ q. s ∷ q) same))
found_below None later s found more is longer = absurd (cc)

-- where nothing was found below, the first is among the later ones
pub none_below : (o later : Option (List Step)) (s : Step) → None ≡ o → or_else (below s o) later ≡ later
none_below (Some p) later s is = absurd (cc)
none_below None later s is = refl

pub ruleset misplaced_steps = (misplaced-Null, misplaced-Bool, misplaced-Whole, misplaced-Version, misplaced-Text, misplaced-List, misplaced-Object, found_below, none_below)

use Rattle.std.proofs.Common.{[], ◌∷◌, ◌∙◌, ap}
use Rattle.json_tree.specs.declared.tree.Tree.TheVariants as v
use Rattle.json_tree.specs.Trees.{element}
use Rattle.json_tree.proofs.Equations.{renumbered-Null, renumbered-List}
use Rattle.ld_termdef.specs.Definitions.{scoped_at}
use Rattle.ld_termdef.proofs.laws.worked_places.Goals as goal

pub returns : goal.returns
returns c =
    ap (scoped_at []) (renumbered-List (element 5 v.Null ∷ []) ∙ ap (λ t. v.List (element 0 t ∷ [])) renumbered-Null)

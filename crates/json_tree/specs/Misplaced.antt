-- The order of places, and which places hold a misplaced version number.
use Rattle.std.specs.Prelude.{◌≡◌, List, [], ◌∷◌, Bool, false, Some}
use Rattle.std.specs.declared.cmp.Ordering.{Ordering}
use Rattle.std.specs.declared.cmp.Ordering.TheVariants.{Less, Greater}
use Rattle.std.specs.Ordering.{nat_cmp}
use Rattle.std.specs.Cmp.Lexicographic.{slice_cmp}
use Rattle.json_tree.specs.declared.tree.Tree.{Tree}
use Rattle.json_tree.specs.declared.tree.Tree.TheVariants as v
use Rattle.json_tree.specs.declared.place.Step.{Step}
use Rattle.json_tree.specs.declared.place.Step.TheVariants.{Key, At}
use Rattle.json_tree.specs.Places.{is_version_key, look}

-- Steps in order: indexes as numbers, names in byte order, an index before a name.
abbrev pub step_cmp : Step → Step → Ordering
step_cmp (At i) (At j) = nat_cmp i j
step_cmp (At i) (Key key) = Less
step_cmp (Key key) (At j) = Greater
step_cmp (Key key) (Key name) = slice_cmp nat_cmp key name

-- Places in the order in which a tree is gone through: by the first steps that differ, and a value
-- before what is inside it.
abbrev pub place_cmp : List Step → List Step → Ordering
place_cmp = slice_cmp step_cmp

-- whether the step is the name `@version`
abbrev pub is_version_step : Step → Bool
is_version_step (Key key) = is_version_key key
is_version_step (At at) = false

-- whether a place is that of a member `@version`: its last step is that name
abbrev pub is_version_place : List Step → Bool
is_version_place [] = false
is_version_place (step ∷ []) = is_version_step step
is_version_place (step ∷ next ∷ steps) = is_version_place (next ∷ steps)

-- At the place stands a version number that is not the value of a member `@version`.
pub record IsMisplaced (t : Tree) (place : List Step) : Type 0 where
  pub stands : look place t ≡ Some v.Version
  pub not_named : is_version_place place ≡ false

-- What the comparison of trees needs: lists by their elements, and that an exact answer is the test's.
use Rattle.std.proofs.Common.{◌≡◌, Bool, List, sym, ap, ◌∙◌}
use Rattle.std.specs.Bool.{Decides, one_answer}
use Rattle.std.specs.Cmp.Lexicographic.{pointwise}
use Rattle.std.proofs.lemmas.Slice.Eq.{slice_eq-Decides}
use base.Stored.{Coded}
use Rattle.json_tree.specs.declared.tree.Tree.{Tree, out-Tree}
use Rattle.json_tree.specs.declared.tree.Tree.TheOpen.{Tree-F}
use Rattle.json_tree.specs.declared.tree.Tree.TheVariants as v
use Rattle.json_tree.specs.declared.tree.Item.{Item}
use Rattle.json_tree.specs.declared.tree.Member.{Member}
use Rattle.json_tree.specs.declared.place.Place.{Place}
use Rattle.json_tree.specs.declared.place.Step.{Step}
use Rattle.json_tree.specs.Equality.{step_code, same_by, same_by-Decides}

-- lists are the same where their elements are
pub List-injective : (is js : List (Item Tree)) → v.List is ≡ v.List js → is ≡ js
List-injective is js e = inside (sym (v.outs-List is) ∙ ap out-Tree e ∙ v.outs-List js)
  where
    inside : Tree-F.List is ≡ Tree-F.List js → is ≡ js
    inside h = cc

-- and objects where their members are
pub Object-injective : (ms ns : List (Member Tree)) → v.Object ms ≡ v.Object ns → ms ≡ ns
Object-injective ms ns e = inside (sym (v.outs-Object ms) ∙ ap out-Tree e ∙ v.outs-Object ns)
  where
    inside : Tree-F.Object ms ≡ Tree-F.Object ns → ms ≡ ns
    inside h = cc

-- an answer that is exact is the test's
pub is_the_test : {A : Type 0} (coded : Coded A) (b : Bool) (x y : A) → Decides b (x ≡ y) → b ≡ same_by coded x y
is_the_test coded b x y d = one_answer b (same_by coded x y) d (same_by-Decides coded x y)

-- places are the same where their steps are
pub same_place_by_steps : (p q : Place) (b : Bool) → b ≡ pointwise (same_by step_code) p.steps q.steps → Decides b (p ≡ q)
same_place_by_steps p q b is =
    let d = slice_eq-Decides (same_by-Decides step_code) p.steps q.steps b is in
    (λ e. ap (λ (steps : List Step). let place : Place = record { steps = steps } in place) (d.0 e), λ e. d.1 (ap (λ (place : Place). place.steps) e))

pub ruleset same_steps = (List-injective, Object-injective)

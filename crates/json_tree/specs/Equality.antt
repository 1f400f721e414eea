-- Equality of values as a test, for every type that contracts compare. The contracts of `==` say
-- that it is true exactly where the two values are the same.
use Rattle.std.specs.Prelude.{◌≡◌, ℕ, Bool, true, false, ◌&&◌, ◌==◌, Decides, refl}
use Rattle.std.specs.Cmp.{IsEquivalence, IsPartialEquivalence, decided, partial_equiv_from_equiv, unsigned_Decides}
use Rattle.std.proofs.lemmas.Bool.{and_parts, and_from}
use mathlib.Core.Path.{sym, ap}
use mathlib.Core.Bool.{true≢false}
use base.Stored.{Coded, Gv, gnil, gnum, gcons}
use Rattle.json_tree.specs.declared.tree.Tree.{Tree}
use Rattle.json_tree.specs.declared.place.Step.{Step}
use Rattle.json_tree.specs.declared.place.Place.{Place}
use Rattle.json_tree.specs.contracts.tree.Tree as tree
use Rattle.json_tree.specs.contracts.place.Step as step
use Rattle.json_tree.specs.contracts.place.Place as place

-- codes of values, part by part
abbrev pub same_code : Gv → Gv → Bool
same_code gnil gnil = true
same_code (gnum m) (gnum n) = m == n
same_code (gcons a b) (gcons c d) = same_code a c && same_code b d
same_code a b = false

-- Whether values of a type are the same, by the code that tells its values apart.
pub same_by : {A : Type 0} → Coded A → A → A → Bool
same_by coded x y = same_code (coded.code x) (coded.code y)

-- the codes of trees, of steps and of places: each is the one that the kit makes of the type
abbrev pub tree_code : Coded Tree
tree_code = tree.the_row.coded

abbrev pub step_code : Coded Step
step_code = step.the_row.coded

abbrev pub place_code : Coded Place
place_code = place.the_row.coded

-- ---- the test decides equality

abbrev is_nil : Gv → Bool
is_nil gnil = true
is_nil a = false

abbrev is_num : Gv → Bool
is_num (gnum n) = true
is_num a = false

abbrev number : Gv → ℕ
number (gnum n) = n
number a = 0

abbrev first : Gv → Gv
first (gcons a b) = a
first a = a

abbrev second : Gv → Gv
second (gcons a b) = b
second a = a

apart : {A : Type 0} → (A → true ≡ false) → Decides false A
apart never = (λ e. absurd (true≢false (sym e)), λ a. absurd (true≢false (never a)))

-- codes that pass the test are the same code, and no others
pub same_code-Decides : (a b : Gv) → Decides (same_code a b) (a ≡ b)
same_code-Decides gnil gnil = (λ e. refl, λ e. refl)
same_code-Decides gnil (gnum n) = apart (λ e. ap is_nil e)
same_code-Decides gnil (gcons c d) = apart (λ e. ap is_nil e)
same_code-Decides (gnum m) gnil = apart (λ e. ap is_num e)
same_code-Decides (gnum m) (gnum n) =
    let d = unsigned_Decides m n in
    (λ e. ap gnum (d.0 e), λ e. d.1 (ap number e))
same_code-Decides (gnum m) (gcons c d) = apart (λ e. ap is_num e)
same_code-Decides (gcons a b) gnil = apart (λ e. ap is_nil (sym e))
same_code-Decides (gcons a b) (gnum n) = apart (λ e. ap is_num (sym e))
same_code-Decides (gcons a b) (gcons c d) =
    let here = same_code-Decides a c in
    let there = same_code-Decides b d in (
      λ e.
          let parts = and_parts (same_code a c) (same_code b d) e in
          λ k. gcons (here.0 parts.0 k) (there.0 parts.1 k),
      λ e. and_from (same_code a c) (same_code b d) (here.1 (ap first e)) (there.1 (ap second e)),
    )

-- and values the same value
pub same_by-Decides : {A : Type 0} (coded : Coded A) (x y : A) → Decides (same_by coded x y) (x ≡ y)
unfolding same_by
same_by-Decides coded x y =
    let d = same_code-Decides (coded.code x) (coded.code y) in
    (λ e. coded.inj x y (d.0 e), λ e. d.1 (ap coded.code e))

-- So the test is an equivalence, as `Eq` wants.
pub same_by-equivalence : {A : Type 0} (coded : Coded A) → IsEquivalence (same_by coded)
same_by-equivalence coded = decided (same_by coded) (same_by-Decides coded)

-- And a partial one, as `PartialEq` wants.
pub same_by-partial : {A : Type 0} (coded : Coded A) → IsPartialEquivalence (same_by coded)
same_by-partial coded = partial_equiv_from_equiv (same_by-equivalence coded)

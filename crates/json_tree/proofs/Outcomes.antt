-- Of a text there is one outcome of reading, and a joined place is gone part by part.
use Rattle.std.proofs.Common.{◌≡◌, ◌≤◌, ◌<◌, ℕ, List, [], ◌∷◌, ◌++◌, Option, Some, None, option_and_then, Result, Ok, Err, refl, sym, ap, ◌∙◌, arith}
use Rattle.std.proofs.lemmas.Option.{same_Some, none-some}
use Rattle.json_tree.specs.declared.tree.Tree.{Tree}
use Rattle.json_tree.specs.declared.tree.TreeFault.{TreeFault}
use Rattle.json_tree.specs.declared.tree.TreeFault.TheVariants.{NotJson, NotWhole, TooDeep, Memory}
use Rattle.json_tree.specs.declared.place.Place.{Place}
use Rattle.json_tree.specs.declared.place.Step.{Step}
use Rattle.json_tree.specs.Trees.{tree_of, nesting_of, nesting_limit}
use Rattle.json_tree.specs.Places.{child_of, look, first_misplaced}
use Rattle.json_tree.specs.Reads.{Spells, Reads}

-- a text spells one tree
pub one_tree : (bytes : List ℕ) (t u : Tree) → Spells bytes t → Spells bytes u → t ≡ u
one_tree bytes t u a b = a.is ∙ ap tree_of (same_Some a.value b.value (sym a.spelled.1 ∙ b.spelled.1)) ∙ sym b.is

not_both : (bytes : List ℕ) (t u : Tree) → Spells bytes t → Spells bytes u → nesting_of t ≤ nesting_limit → nesting_limit < nesting_of u → ⊥
not_both bytes t u a b shallow deep = let same = ap nesting_of (one_tree bytes t u a b) in omega arith

one_place : (p q : Place) → p.steps ≡ q.steps → p ≡ q
one_place p q e = ap (λ (s : List Step). let r : Place = record { steps = s } in r) e

-- of the outcomes but out of memory there is one
pub one_outcome : (bytes : List ℕ) (r s : Result Tree TreeFault) → Reads bytes r → Reads bytes s → (r ≡ Err Memory → ⊥) → (s ≡ Err Memory → ⊥) → r ≡ s
one_outcome bytes (Ok t) (Ok u) a b f g = ap Ok (one_tree bytes t u a.0 b.0)
one_outcome bytes (Ok t) (Err NotJson) a b f g = absurd (b t a.0)
one_outcome bytes (Ok t) (Err TooDeep) a b f g = absurd (not_both bytes t b.0 a.0 b.1 a.1 b.2)
one_outcome bytes (Ok t) (Err (NotWhole p)) a b f g = absurd (none-some p.steps (sym a.2 ∙ ap first_misplaced (one_tree bytes t b.0 a.0 b.1) ∙ b.3))
one_outcome bytes (Ok t) (Err Memory) a b f g = absurd (g refl)
one_outcome bytes (Err NotJson) (Ok u) a b f g = absurd (a u b.0)
one_outcome bytes (Err NotJson) (Err NotJson) a b f g = refl
one_outcome bytes (Err NotJson) (Err TooDeep) a b f g = absurd (a b.0 b.1)
one_outcome bytes (Err NotJson) (Err (NotWhole p)) a b f g = absurd (a b.0 b.1)
one_outcome bytes (Err NotJson) (Err Memory) a b f g = absurd (g refl)
one_outcome bytes (Err TooDeep) (Ok u) a b f g = absurd (not_both bytes u a.0 b.0 a.1 b.1 a.2)
one_outcome bytes (Err TooDeep) (Err NotJson) a b f g = absurd (b a.0 a.1)
one_outcome bytes (Err TooDeep) (Err TooDeep) a b f g = refl
one_outcome bytes (Err TooDeep) (Err (NotWhole p)) a b f g = absurd (not_both bytes b.0 a.0 b.1 a.1 b.2 a.2)
one_outcome bytes (Err TooDeep) (Err Memory) a b f g = absurd (g refl)
one_outcome bytes (Err (NotWhole p)) (Ok u) a b f g = absurd (none-some p.steps (sym b.2 ∙ ap first_misplaced (one_tree bytes u a.0 b.0 a.1) ∙ a.3))
one_outcome bytes (Err (NotWhole p)) (Err NotJson) a b f g = absurd (b a.0 a.1)
one_outcome bytes (Err (NotWhole p)) (Err TooDeep) a b f g = absurd (not_both bytes a.0 b.0 a.1 b.1 a.2 b.2)
one_outcome bytes (Err (NotWhole p)) (Err (NotWhole q)) a b f g =
    ap (λ (place : Place). Err (NotWhole place)) (one_place p q (same_Some p.steps q.steps (sym a.3 ∙ ap first_misplaced (one_tree bytes a.0 b.0 a.1 b.1) ∙ b.3)))
one_outcome bytes (Err (NotWhole p)) (Err Memory) a b f g = absurd (g refl)
one_outcome bytes (Err Memory) s a b f g = absurd (f refl)

-- one step, and then two parts in one or one by one
through : (f g h : Tree → Option Tree) (o : Option Tree) → ((u : Tree) → f u ≡ option_and_then h (g u)) → option_and_then f o ≡ option_and_then h (option_and_then g o)
through f g h None same = refl
through f g h (Some u) same = same u

-- along a joined place, part by part
pub look-append : (p q : List Step) (t : Tree) → look (p ++ q) t ≡ option_and_then (look q) (look p t)
look-append [] q t = refl
look-append (s ∷ p) q t = through (look (p ++ q)) (look p) (look q) (child_of t s) (look-append p q)

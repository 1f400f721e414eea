-- Induction over trees.
use Rattle.std.proofs.Common.{ℕ, ℤ, Bool, List, [], ◌∷◌, map, sym, subst}
use Rattle.json_tree.specs.declared.tree.Tree.{Tree, ind-Tree, map-Tree, roll-Tree}
use Rattle.json_tree.specs.declared.tree.Tree.TheOpen.{Tree-F}
use Rattle.json_tree.specs.declared.tree.Tree.TheVariants as v
use Rattle.json_tree.specs.declared.tree.Item.{Item}
use Rattle.json_tree.specs.declared.tree.Member.{Member}

-- P holds of each element, by recursion
abbrev pub Each : {X : Type 0} → (X → Type 0) → List X → Type 0
Each P [] = Unit {0}
Each P (x ∷ xs) = P x × Each P xs

-- what an induction shows: P of each variant, from P of each value inside
pub record Cases (P : Tree → Type 0) : Type 0 where
  pub null : P v.Null
  pub boolean : (b : Bool) → P (v.Bool b)
  pub whole : (z : ℤ) → P (v.Whole z)
  pub version : P v.Version
  pub text : (text : List ℕ) → P (v.Text text)
  pub items : (is : List (Item Tree)) → Each (λ (i : Item Tree). P i.value) is → P (v.List is)
  pub members : (ms : List (Member Tree)) → Each (λ (m : Member Tree). P m.value) ms → P (v.Object ms)

module _ (P : Tree → Type 0) where
  items_such : (is : List (Item ((t : Tree) × P t))) → Each (λ (i : Item Tree). P i.value) (map (λ i. record { at = i.at; value = i.value.0 }) is)
  items_such [] = tt
  items_such (i ∷ is) = (i.value.1, items_such is)

  members_such : (ms : List (Member ((t : Tree) × P t))) → Each (λ (m : Member Tree). P m.value) (map (λ m. record { key = m.key; value = m.value.0 }) ms)
  members_such [] = tt
  members_such (m ∷ ms) = (m.value.1, members_such ms)

at_level : (P : Tree → Type 0) → Cases P → (y : Tree-F ((t : Tree) × P t)) → P (roll-Tree (map-Tree ((t : Tree) × P t) Tree (λ e. e.0) y))
at_level P cs Tree-F.Null = subst P (sym v.rolls-Null) cs.null
at_level P cs (Tree-F.Bool b) = subst P (sym (v.rolls-Bool b)) (cs.boolean b)
at_level P cs (Tree-F.Whole z) = subst P (sym (v.rolls-Whole z)) (cs.whole z)
at_level P cs Tree-F.Version = subst P (sym v.rolls-Version) cs.version
at_level P cs (Tree-F.Text text) = subst P (sym (v.rolls-Text text)) (cs.text text)
at_level P cs (Tree-F.List is) = subst P (sym (v.rolls-List _)) (cs.items _ (items_such P is))
at_level P cs (Tree-F.Object ms) = subst P (sym (v.rolls-Object _)) (cs.members _ (members_such P ms))

-- P holds of every tree
pub by_cases : (P : Tree → Type 0) → Cases P → (t : Tree) → P t
by_cases P cs = ind-Tree P (λ x y is. subst (λ z. P (roll-Tree z)) is (at_level P cs y))

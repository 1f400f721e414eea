-- A part nests no deeper than the tree.
use Rattle.std.proofs.Common.{◌≡◌, ◌≤◌, ℕ, suc, max, Bool, true, false, List, [], ◌∷◌, map, if◌then◌else◌, refl, ap, ◌∙◌, arith}
use Rattle.json_tree.specs.declared.tree.Tree.{Tree}
use Rattle.json_tree.specs.declared.tree.Item.{Item}
use Rattle.json_tree.specs.declared.tree.Member.{Member}
use Rattle.json_tree.specs.declared.place.Step.TheVariants.{Key, At}
use Rattle.json_tree.specs.Trees.{element, new_member, greatest, levels_of, nesting_of}
use Rattle.json_tree.proofs.Equations.{levels_of-List, levels_of-Object}
use Rattle.json_tree.proofs.Induction.{Each, by_cases}
use Rattle.pointer_select.specs.Internal.Parts.{Test, below_step, items_that, members_that, restricted}
use Rattle.pointer_select.proofs.Restricted.{seen_item, seen_member, restricted-Null, restricted-Bool, restricted-Whole, restricted-Version, restricted-Text, restricted-List, restricted-Object}

abbrev IsNoDeeper : Tree → Type 0
IsNoDeeper t = (keep : Test) → levels_of (restricted t keep) ≤ levels_of t

same_le : (m n : ℕ) → m ≡ n → m ≤ n
same_le m n e = omega arith

both_less : (a b m n : ℕ) → a ≤ b → m ≤ n → max a m ≤ max b n
both_less a b m n low below = omega arith

right_less : (b m n : ℕ) → m ≤ n → m ≤ max b n
right_less b m n below = omega arith

items_less : (items : List (Item Tree)) (keep : Test) → Each (λ (i : Item Tree). IsNoDeeper i.value) items → greatest (map (λ i. levels_of i.value) (items_that (map seen_item items) keep)) ≤ greatest (map (λ i. levels_of i.value) items)
items_less [] keep e = same_le 0 0 refl
items_less (i ∷ is) keep e = go (keep (At i.at ∷ [])) (items_less is keep e.1)
  where
    go : (b : Bool) → greatest (map (λ i. levels_of i.value) (items_that (map seen_item is) keep)) ≤ greatest (map (λ i. levels_of i.value) is) → greatest (map (λ i. levels_of i.value) (if b then element i.at (restricted i.value (below_step (At i.at) keep)) ∷ items_that (map seen_item is) keep else items_that (map seen_item is) keep)) ≤ max (levels_of i.value) (greatest (map (λ i. levels_of i.value) is))
    go true more = both_less _ _ _ _ (e.0 (below_step (At i.at) keep)) more
    go false more = right_less (levels_of i.value) _ _ more

members_less : (members : List (Member Tree)) (keep : Test) → Each (λ (m : Member Tree). IsNoDeeper m.value) members → greatest (map (λ m. levels_of m.value) (members_that (map seen_member members) keep)) ≤ greatest (map (λ m. levels_of m.value) members)
members_less [] keep e = same_le 0 0 refl
members_less (m ∷ ms) keep e = go (keep (Key m.key ∷ [])) (members_less ms keep e.1)
  where
    go : (b : Bool) → greatest (map (λ m. levels_of m.value) (members_that (map seen_member ms) keep)) ≤ greatest (map (λ m. levels_of m.value) ms) → greatest (map (λ m. levels_of m.value) (if b then new_member m.key (restricted m.value (below_step (Key m.key) keep)) ∷ members_that (map seen_member ms) keep else members_that (map seen_member ms) keep)) ≤ max (levels_of m.value) (greatest (map (λ m. levels_of m.value) ms))
    go true more = both_less _ _ _ _ (e.0 (below_step (Key m.key) keep)) more
    go false more = right_less (levels_of m.value) _ _ more

suc_less : (a b m n : ℕ) → a ≡ suc m → b ≡ suc n → m ≤ n → a ≤ b
suc_less a b m n d e low = omega arith

levels_less : (t : Tree) → IsNoDeeper t
levels_less = by_cases IsNoDeeper record {
  null = λ keep. same_le _ _ (ap levels_of (restricted-Null keep));
  boolean = λ b keep. same_le _ _ (ap levels_of (restricted-Bool b keep));
  whole = λ z keep. same_le _ _ (ap levels_of (restricted-Whole z keep));
  version = λ keep. same_le _ _ (ap levels_of (restricted-Version keep));
  text = λ s keep. same_le _ _ (ap levels_of (restricted-Text s keep));
  items = λ is e keep. suc_less _ _ _ _ (ap levels_of (restricted-List is keep) ∙ levels_of-List (items_that (map seen_item is) keep)) (levels_of-List is) (items_less is keep e);
  members = λ ms e keep. suc_less _ _ _ _ (ap levels_of (restricted-Object ms keep) ∙ levels_of-Object (members_that (map seen_member ms) keep)) (levels_of-Object ms) (members_less ms keep e);
}

-- a tree that is restricted nests no deeper
pub nests_less : (t : Tree) (keep : Test) → nesting_of (restricted t keep) ≤ nesting_of t
nests_less t keep = both_less 1 1 (levels_of (restricted t keep)) (levels_of t) (same_le 1 1 refl) (levels_less t keep)

-- The nesting of a tree is the reader's depth of its value.
use Rattle.std.proofs.Common.{◌≡◌, ◌≤◌, ◌<◌, ℕ, suc, ◌+◌, max, true, false, Bool, nat_le, map, refl, ap, ◌∙◌, arith}
use Rattle.std.proofs.lemmas.Bool.Decides.{nat_tests}
use Rattle.serde_json.specs.Data.{unsigned, negative, float, Data, null, boolean, number, string, array, object, Items, no_items, item, Members, no_members, member, depth, items_depth, members_depth}
use Rattle.json_tree.specs.Trees.{tree_of, elements_of, entries_of, greatest, levels_of, nesting_of, nesting_limit}
use Rattle.json_tree.proofs.Equations.{levels_of-Null, levels_of-Bool, levels_of-Whole, levels_of-Version, levels_of-Text, levels_of-List, levels_of-Object}

mutual
  -- the levels of a tree are those of what the reader read
  pub levels_of-tree_of : (d : Data) → levels_of (tree_of d) ≡ depth d
  levels_of-tree_of null = levels_of-Null
  levels_of-tree_of (boolean b) = levels_of-Bool b
  levels_of-tree_of (number (unsigned n)) = levels_of-Whole _
  levels_of-tree_of (number (negative z)) = levels_of-Whole z
  levels_of-tree_of (number (float x)) = levels_of-Version
  levels_of-tree_of (string s) = levels_of-Text s
  levels_of-tree_of (array ds) = levels_of-List (elements_of 0 ds) ∙ ap suc (items_levels 0 ds)
  levels_of-tree_of (object ms) = levels_of-Object (entries_of ms) ∙ ap suc (members_levels ms)

  items_levels : (n : ℕ) (ds : Items) → greatest (map (λ i. levels_of i.value) (elements_of n ds)) ≡ items_depth ds
  items_levels n no_items = refl
  items_levels n (item d ds) = rw (levels_of-tree_of d, items_levels (n + 1) ds) refl

  members_levels : (ms : Members) → greatest (map (λ m. levels_of m.value) (entries_of ms)) ≡ members_depth ms
  members_levels no_members = refl
  members_levels (member k d ms) = rw (levels_of-tree_of d, members_levels ms) refl

-- the tree of a value nests as deep as the value, and at least one level
pub nesting_of-tree_of : (d : Data) → nesting_of (tree_of d) ≡ max 1 (depth d)
nesting_of-tree_of d = ap (max 1) (levels_of-tree_of d)

-- what the test on a value says of the tree
pub is_shallow_enough : (d : Data) (within : Bool) → within ≡ nat_le (depth d) 100 → within ≡ true → nesting_of (tree_of d) ≤ nesting_limit
is_shallow_enough d true is test =
    let shallow : depth d ≤ 100 = grind (arith, nat_tests) in
    rw (nesting_of-tree_of d) (omega arith)
is_shallow_enough d false is test = absurd (cc)

-- a value that the test refuses has a tree that nests beyond the limit
pub is_over_the_limit : (d : Data) (within : Bool) → within ≡ nat_le (depth d) 100 → within ≡ false → nesting_limit < nesting_of (tree_of d)
is_over_the_limit d false is test =
    let over : 100 < depth d = grind (arith, nat_tests) in
    rw (nesting_of-tree_of d) (omega arith)
is_over_the_limit d true is test = absurd (cc)

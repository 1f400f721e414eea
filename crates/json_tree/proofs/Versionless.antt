-- A tree without a version number has none that is misplaced.
use Rattle.std.proofs.Common.{◌≡◌, ℕ, Bool, true, false, List, [], ◌∷◌, None, refl, sym, ◌∙◌}
use Rattle.std.specs.List.{list_any}
use Rattle.std.proofs.lemmas.Bool.{or_parts, true≢false}
use Rattle.json_tree.specs.declared.tree.Tree.{Tree}
use Rattle.json_tree.specs.declared.tree.Tree.TheVariants as v
use Rattle.json_tree.specs.declared.tree.Item.{Item}
use Rattle.json_tree.specs.declared.tree.Member.{Member}
use Rattle.json_tree.specs.Trees.{holds_version, is_lawful, is_in_range}
use Rattle.json_tree.specs.Places.{misplaced, is_version_key}
use Rattle.json_tree.specs.Internal.Misplaced.{first_in_items, first_in_members}
use Rattle.json_tree.specs.WellFormed.{IsWellFormed}
use Rattle.json_tree.proofs.Induction.{Each, by_cases}
use Rattle.json_tree.proofs.TreeLemmas.{is_lawful-Text}
use Rattle.json_tree.proofs.Equations.{is_in_range-Text, holds_version-Text, holds_version-Version, holds_version-List, holds_version-Object, misplaced-Null, misplaced-Bool, misplaced-Whole, misplaced-Text, misplaced-List, misplaced-Object}

abbrev HasNone : Tree → Type 0
HasNone t = holds_version t ≡ false → (named : Bool) → misplaced t named ≡ None

none_in_items : (is : List (Item Tree)) → Each (λ (i : Item Tree). HasNone i.value) is → list_any (λ i. holds_version i.value) is ≡ false → first_in_items is ≡ None
none_in_items [] e whole = refl
none_in_items (i ∷ is) e whole = let p = or_parts (holds_version i.value) _ whole in rw (e.0 p.0 false) (none_in_items is e.1 p.1)

none_in_members : (ms : List (Member Tree)) → Each (λ (m : Member Tree). HasNone m.value) ms → list_any (λ m. holds_version m.value) ms ≡ false → first_in_members ms ≡ None
none_in_members [] e whole = refl
none_in_members (m ∷ ms) e whole = let p = or_parts (holds_version m.value) _ whole in rw (e.0 p.0 (is_version_key m.key)) (none_in_members ms e.1 p.1)

-- a tree without a version number has none that is misplaced, under whatever name it stands
pub misplaced-whole : (t : Tree) → holds_version t ≡ false → (named : Bool) → misplaced t named ≡ None
misplaced-whole = by_cases HasNone record {
  null = λ whole named. misplaced-Null named;
  boolean = λ b whole named. misplaced-Bool b named;
  whole = λ z whole named. misplaced-Whole z named;
  version = λ whole named. absurd (true≢false (sym holds_version-Version ∙ whole));
  text = λ s whole named. misplaced-Text s named;
  items = λ is e whole named. misplaced-List is named ∙ none_in_items is e (sym (holds_version-List is) ∙ whole);
  members = λ ms e whole named. misplaced-Object ms named ∙ none_in_members ms e (sym (holds_version-Object ms) ∙ whole);
}

-- a lawful tree in range without a version number is well formed
pub well_formed-whole : (t : Tree) → is_lawful t ≡ true → is_in_range t ≡ true → holds_version t ≡ false → IsWellFormed t
well_formed-whole t lawful ranged whole = record { lawful = lawful; in_range = ranged; versions = misplaced-whole t whole true }

-- so a text is
pub well_formed-Text : (text : List ℕ) → IsWellFormed (v.Text text)
well_formed-Text text = well_formed-whole (v.Text text) (is_lawful-Text text) (is_in_range-Text text) (holds_version-Text text)

-- Two canonical numbers with one label, and the least such pair.
use Rattle.std.specs.Prelude.{◌≡◌, ℕ, ◌<◌, ◌≤◌, List, ◌⊎◌}

-- Two different numbers below the count have one label; the lesser is the first.
pub record IsClash (label : ℕ → List ℕ) (count first second : ℕ) : Type 0 where
  pub rising : first < second
  pub below : second < count
  pub one : label first ≡ label second

-- Of all such pairs it is the least: none has a lesser first number, nor the same first number and
-- a lesser second.
pub record IsLeastClash (label : ℕ → List ℕ) (count first second : ℕ) : Type 0 where
  pub clash : IsClash label count first second
  pub least : (a b : ℕ) → IsClash label count a b → (first < a) ⊎ ((first ≡ a) × (second ≤ b))

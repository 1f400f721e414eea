-- Tests and options: what a value that was told says of what it was told of.
use Rattle.std.proofs.Common.{◌≡◌, Bool, true, false, cond, Option, Some, None, is_none, option_map, option_and_then, refl, inl, inr}
use Rattle.std.specs.Prelude.{◌⊎◌}
use Rattle.std.proofs.lemmas.Bool.{false≢true}
use Rattle.std.proofs.lemmas.Option.{none-some, same_Some}

-- which branch a test took
pub took : {A : Type 0} (b : Bool) (x y z : A) → cond b x y ≡ z → ((b ≡ true) × (x ≡ z)) ⊎ ((b ≡ false) × (y ≡ z))
took true x y z e = inl (refl, e)
took false x y z e = inr (refl, e)

-- what a chain of two steps gave, each step gave
pub and_then-Some : {A B : Type 0} (f : A → Option B) (o : Option A) (y : B) → option_and_then f o ≡ Some y → (x : A) × (o ≡ Some x) × (f x ≡ Some y)
and_then-Some f None y e = absurd (none-some y e)
and_then-Some f (Some x) y e = (x, refl, e)

-- what the image of an option is, is the image of what it holds
pub option_map-Some : {A B : Type 0} (f : A → B) (o : Option A) (y : B) → option_map f o ≡ Some y → (x : A) × (o ≡ Some x) × (f x ≡ y)
option_map-Some f None y e = absurd (none-some y e)
option_map-Some f (Some x) y e = (x, refl, same_Some (f x) y e)

-- what is told to be nothing is nothing
pub is_none-true : {A : Type 0} (o : Option A) → is_none o ≡ true → o ≡ None
is_none-true None e = refl
is_none-true (Some x) e = absurd (false≢true e)

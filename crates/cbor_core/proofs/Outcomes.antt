-- What a chain of steps that may fail says of each step.
use Rattle.std.proofs.Common.{◌≡◌, Bool, true, false, cond, Result, Ok, Err, refl, inl, inr}
use Rattle.std.specs.Prelude.{◌⊎◌}
use Rattle.cbor_core.specs.Internal.Results.{◌>>=◌, Unless, Fails}

abbrev ok_of : (A E : Type 0) → A → Result A E
ok_of A E x = Ok x

abbrev err_of : (A E : Type 0) → E → Result A E
err_of A E e = Err e

-- two results that are equal hold the same
pub same_ok : {A E : Type 0} (x y : A) → ok_of A E x ≡ ok_of A E y → x ≡ y
same_ok x y e = cc

-- two refusals that are equal have the same fault
pub same_err : {A E : Type 0} (d e : E) → err_of A E d ≡ err_of A E e → d ≡ e
same_err d e same = cc

-- a test that refuses where it is true, and did not
pub passed : {A E : Type 0} (b : Bool) (d : E) (r : Result A E) (z : A) → cond b (Err d) r ≡ Ok z → (b ≡ false) × (r ≡ Ok z)
passed true d r z e = absurd cc
passed false d r z e = (refl, e)

-- a test that refuses where it is false, and did not
pub passed_true : {A E : Type 0} (b : Bool) (d : E) (r : Result A E) (z : A) → cond b r (Err d) ≡ Ok z → (b ≡ true) × (r ≡ Ok z)
passed_true true d r z e = (refl, e)
passed_true false d r z e = absurd cc

-- a test that refuses where it is false, and gave the value
pub ended : {A E : Type 0} (b : Bool) (d : E) (x y : A) → cond b (Ok x) (Err d) ≡ Ok y → (b ≡ true) × (x ≡ y)
ended {E = E} true d x y e = (refl, same_ok {E = E} x y e)
ended false d x y e = absurd cc

-- a chain that gave a value: each step gave one
pub went_on : {A B E : Type 0} (r : Result A E) (g : A → Result B E) (y : B) → (r >>= g) ≡ Ok y → (x : A) × (r ≡ Ok x) × (g x ≡ Ok y)
went_on (Ok x) g y e = (x, refl, e)
went_on (Err d) g y e = absurd cc

-- a chain goes on behind a step that gave a value
pub goes_on : {A B E : Type 0} (r : Result A E) (g : A → Result B E) (x : A) → r ≡ Ok x → (r >>= g) ≡ g x
goes_on r g x e = rw e refl

-- a chain that failed: its first step did, or what follows
pub stopped : {A B E : Type 0} (r : Result A E) (g : A → Result B E) (d : E) → (r >>= g) ≡ Err d → (r ≡ Err d) ⊎ ((x : A) × (r ≡ Ok x) × (g x ≡ Err d))
stopped (Ok x) g d e = inr (x, refl, e)
stopped {A = A} (Err c) g d e = let same : c ≡ d = cc in inl (λ i. Err (same i))

unless_on : {A B E : Type 0} (t : Bool) (e : E) (r : Result A E) (g : A → Result B E) → Unless t (r ≡ Err e) → Unless t ((r >>= g) ≡ Err e)
unless_on true e r g h = tt
unless_on false e r g h = rw h refl

-- a fault goes through what follows
pub fails_on : {A B E : Type 0} (is_memory : E → Bool) (e : E) (r : Result A E) (g : A → Result B E) → Fails is_memory e r → Fails is_memory e (r >>= g)
fails_on is_memory e r g h = unless_on (is_memory e) e r g h

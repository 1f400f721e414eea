-- Results over any type of faults: steps one after another, and what a call answers where memory
-- may run out.
use Rattle.std.specs.Prelude.{◌≡◌, Bool, true, false, Result, Ok, Err}

-- a step behind one that may fail
infixl 10 ◌>>=◌
abbrev pub ◌>>=◌ : {A B E : Type 0} → Result A E → (A → Result B E) → Result B E
(Ok x) >>= f = f x
(Err e) >>= f = Err e

-- the fact, where the test is false
abbrev pub Unless : Bool → Type 0 → Type 0
Unless true fact = Unit {0}
Unless false fact = fact

-- a call gave up with this fault, and so does reading, unless memory ran out
abbrev pub Fails : {Y E : Type 0} → (E → Bool) → E → Result Y E → Type 0
Fails is_memory e read = Unless (is_memory e) (read ≡ Err e)

-- what a call returned, seen by view, is what reading gives, unless memory ran out
abbrev pub Gives : {X Y E : Type 0} → (E → Bool) → (X → Y) → Result X E → Result Y E → Type 0
Gives is_memory view (Ok x) read = read ≡ Ok (view x)
Gives is_memory view (Err e) read = Fails is_memory e read

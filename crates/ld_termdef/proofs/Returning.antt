-- The way back from an active context to its previous one.
use Rattle.std.proofs.Common.{◌≡◌, ◌≢◌, List, [], ◌∷◌, Bool, true, false, refl, ap}
use Rattle.ld_termdef.specs.Contexts.{Context, Active, previous_of, with_previous, remember}

-- a result without previous context goes back to the context from before
pub returns_to_before : (before result : Active) → result.previous ≡ [] → previous_of (remember false before result) ≡ before
returns_to_before before result none = ap (λ cs. previous_of (with_previous before result cs)) none

-- what has a way back stays
stays_with : (before result : Active) (cs : List Context) → result.previous ≡ cs → cs ≢ [] → with_previous before result result.previous ≡ result
stays_with before result [] is some = absurd (some refl)
stays_with before result (c ∷ cs) is some = ap (with_previous before result) is

-- what has a way back remembers nothing more
pub remember-kept : (propagate : Bool) (before result : Active) → result.previous ≢ [] → remember propagate before result ≡ result
remember-kept true before result some = refl
remember-kept false before result some = stays_with before result result.previous refl some

again : (before result : Active) (cs : List Context) → result.previous ≡ cs → remember false before (with_previous before result cs) ≡ with_previous before result cs
again before result [] is = refl
again before result (c ∷ cs) is = ap (with_previous before result) is

-- to remember twice is to remember once
pub remember-once : (propagate : Bool) (before result : Active) → remember propagate before (remember propagate before result) ≡ remember propagate before result
remember-once true before result = refl
remember-once false before result = again before result result.previous refl

holds : (before result : Active) (cs : List Context) → (with_previous before result cs).current ≡ result.current
holds before result [] = refl
holds before result (c ∷ cs) = refl

-- what holds stays
pub remember-current : (propagate : Bool) (before result : Active) → (remember propagate before result).current ≡ result.current
remember-current true before result = refl
remember-current false before result = holds before result result.previous

-- What the program keeps of previous contexts, and the active contexts that it stands for.
use Rattle.std.proofs.Common.{◌≡◌, ◌≢◌, ℕ, List, [], ◌∷◌, ◌++◌, map, length, reverse, Bool, true, false, refl, sym, ap, ◌∙◌, arith}
use Rattle.std.specs.Prelude.{IfOk, Result, Ok, Err}
use Rattle.std.proofs.lemmas.List.{reverse-append, length-map, length-reverse}
use Rattle.ld_termdef.specs.declared.context.ContextParts.{ContextParts}
use Rattle.ld_termdef.specs.declared.context.ActiveContext.{ActiveContext}
use Rattle.ld_termdef.specs.Contexts.{Context, Active, context_of, active_of, return_to, previous_of, with_previous, remember}
use Rattle.ld_termdef.proofs.Returning.{remember-kept}

-- the last one kept is the nearest
nearest : (before : List ContextParts) (last : ContextParts) → map context_of (reverse (before ++ last ∷ [])) ≡ context_of last ∷ map context_of (reverse before)
nearest before last = ap (map context_of) (reverse-append before (last ∷ []))

-- the last one kept is the previous context
pub back-some : (all before : List ContextParts) (last here : ContextParts) → all ≡ before ++ last ∷ [] → active_of (record { current = last; previous = before }) ≡ previous_of (active_of (record { current = here; previous = all }))
back-some all before last here is =
    sym (ap (return_to (active_of (record { current = here; previous = all }))) (ap (λ cs. map context_of (reverse cs)) is ∙ nearest before last))

-- without one the context stays
pub back-none : {E : Type 0} (a : ActiveContext) (r : Result ActiveContext E) → a.previous ≡ [] → IfOk r (λ c. c ≡ a) → IfOk r (λ c. active_of c ≡ previous_of (active_of a))
back-none a (Ok c) none is = ap active_of is ∙ sym (ap (λ cs. return_to (active_of a) (map context_of (reverse cs))) none)
back-none a (Err e) none is = is

-- what propagates has nothing to remember
pub remember-propagates : (p : Bool) (before result : Active) → true ≡ p → result ≡ remember p before result
remember-propagates p before result is = ap (λ b. remember b before result) is

some_previous : (cs : List ContextParts) → cs ≢ [] → map context_of (reverse cs) ≢ []
some_previous [] some none = some refl
some_previous (c ∷ cs) some none =
    let long : length (map context_of (reverse (c ∷ cs))) ≡ length (c ∷ cs) = length-map (reverse (c ∷ cs)) context_of ∙ length-reverse (c ∷ cs) in
    let short : length (map context_of (reverse (c ∷ cs))) ≡ 0 = ap length none in
    omega arith

-- nor does what has a previous context
pub remember-some : (p : Bool) (before : Active) (a : ActiveContext) → a.previous ≢ [] → active_of a ≡ remember p before (active_of a)
remember-some p before a some = sym (remember-kept p before (active_of a) (some_previous a.previous some))

-- and else the context from before is put at the end
pub remember-before : (p : Bool) (before a : ActiveContext) (kept : List ContextParts) → false ≡ p → a.previous ≡ [] → kept ≡ before.previous ++ before.current ∷ [] → active_of (record { current = a.current; previous = kept }) ≡ remember p (active_of before) (active_of a)
remember-before p before a kept is none pushed =
    (λ j. record { current = context_of a.current; previous = (ap (λ cs. map context_of (reverse cs)) pushed ∙ nearest before.previous before.current) j })
    ∙ sym (ap (λ cs. with_previous (active_of before) (active_of a) (map context_of (reverse cs))) none)
    ∙ ap (λ b. remember b (active_of before) (active_of a)) is

pub ruleset back_steps = (back-some, back-none)

pub ruleset remember_steps = (remember-propagates, remember-some, remember-before)

-- What a loop over calls with a meter keeps, and faults that are handed on.
use Rattle.std.proofs.Common.{◌≡◌, ◌≤◌, refl, sym, ◌∙◌, subst, arith, Option, Some, None, IsNone, Result, IsErrAnd, IfErr, Ok, Err}
use Rattle.rdfc_ndegree.specs.declared.limits.Meter.{Meter}
use Rattle.rdfc_ndegree.specs.declared.limits.Limits.{Limits}

-- the limits are as before, the count has not fallen, and what was within the limit of work still is
pub record Counting (before now : Meter) : Type 0 where
  pub limits : now.limits ≡ before.limits
  pub rises : before.spent ≤ now.spent
  pub kept : before.spent ≤ before.limits.work → now.spent ≤ before.limits.work

-- with nothing counted yet, the meter has its limits, its count and its room for work
pub counting-start : (before : Meter) → Counting before before
counting-start before = record { limits = refl; rises = omega arith; kept = λ k. k }

-- one more call
pub counting-turn : {before meter next : Meter} → Counting before meter → next.limits ≡ meter.limits → meter.spent ≤ next.spent → (meter.spent ≤ meter.limits.work → next.spent ≤ meter.limits.work) → Counting before next
counting-turn {before = before} {meter = meter} {next = next} k same up kept = record {
  limits = same ∙ k.limits;
  rises = let r = k.rises in omega arith;
  kept = λ h. subst (λ (l : Limits). next.spent ≤ l.work) k.limits (kept (subst (λ (l : Limits). meter.spent ≤ l.work) (sym k.limits) (k.kept h)));
}

-- a fault handed on
pub handed_on : {A E : Type 0} (r : Result A E) (e : E) (P : E → Type 0) → IsErrAnd r (λ x. x ≡ e) → P e → IfErr r P
handed_on (Ok a) e P h p = tt
handed_on (Err x) e P h p = subst P (sym h) p

-- an option that is Some of nothing is None
pub is_none : {X : Type 0} (o : Option X) → ((x : X) → o ≡ Some x → ⊥) → IsNone o
is_none None h = refl
is_none (Some x) h = absurd (h x refl)

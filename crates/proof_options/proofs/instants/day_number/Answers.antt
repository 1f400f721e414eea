use Rattle.std.proofs.Common.{◌≡◌, ◌≤◌, ℕ, ℤ, pos, refl, ◌∙◌, arith, w8, w16, w64}
use Rattle.std.proofs.lemmas.Int.{ints}
use mir.Val.{to_z, of_z}
use Rattle.jiff_core.specs.Calendar as kit
use Rattle.proof_options.specs.Calendar.{Date, IsDate, epoch_day}
use Rattle.proof_options.specs.Internal.Written.{date_of}
use Rattle.proof_options.proofs.KitCalendar.{date-kit, epoch_day-kit}
use Rattle.proof_options.proofs.instants.day_number.Goals as goal

number_is : (y m d : ℕ) (n : ℤ) (date : Date) → date.year ≡ y → date.month ≡ m → date.day ≡ d → IsDate date → n ≡ kit.days_from_civil (pos y) m d → n ≡ epoch_day date
number_is y m d n date ye me de is e = e ∙ rw (← ye, ← me, ← de) (epoch_day-kit date is)

pub returns-in-Ok-clause-number : goal.returns-in-Ok-clause-number
returns-in-Ok-clause-number c =
    let e = c.in-Ok.ensures in
    let u = c.to_unix_epoch_day.ensures in
    let f = c.from.ensures in
    let date = date_of c.args.day in
    let y : to_z w16 c.args.day.year ≡ pos c.args.day.year = omega (arith, ints, c.if-day-gt9999.false) in
    let m : to_z w8 c.args.day.month ≡ pos c.args.day.month = omega (arith, ints, c.if-day-gt12.false) in
    let d : to_z w8 c.args.day.day ≡ pos c.args.day.day = omega (arith, ints, c.if-day-gt31.false) in
    let first : 1 ≤ c.args.day.year = omega (arith, c.if-day-eq0.false) in
    let is = date-kit date first (rw (y, m, d) at (e.succeeds.0 refl)) in
    let ky : c.in-Ok.date.year ≡ pos c.args.day.year = e.value.0 ∙ y in
    let km : c.in-Ok.date.month ≡ c.args.day.month = omega (arith, ints, e.value.1, m) in
    let kd : c.in-Ok.date.day ≡ c.args.day.day = omega (arith, ints, e.value.2, d) in
    let at : c.to_unix_epoch_day.result ≡ kit.days_from_civil (pos c.args.day.year) c.args.day.month c.args.day.day = rw (← ky, ← km, ← kd) u.value in
    let n : c.to_unix_epoch_day.result ≡ epoch_day date = number_is _ _ _ _ date refl refl refl is at in
    let same : to_z w64 (of_z w64 c.from.result) ≡ c.to_unix_epoch_day.result = omega (arith, ints, u.bound, f) in
    (is, same ∙ n)

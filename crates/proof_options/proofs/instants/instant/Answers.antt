use Rattle.std.proofs.Common.{◌≡◌, ◌<◌, ◌^◌, ℕ, ℤ, pos, ◌+ℤ◌, ◌-ℤ◌, ◌*ℤ◌, sym, ap, ◌∙◌, arith, w64, subst, rules}
use Rattle.std.specs.Int.{w128}
use mir.Val.{to_z, of_z}
use Rattle.std.proofs.lemmas.Int.{ints}
use Rattle.jiff_core.specs.Calendar.{IsWithin}
use Rattle.proof_options.proofs.Whole.{means_instant}
use Rattle.proof_options.proofs.instants.instant.Goals as goal

-- the sums and products of the code, which all fit their types
sum_is : (day second ahead at : ℤ) → IsWithin 5_000_000 day → IsWithin 86_400 second → IsWithin 50_400 ahead → at ≡ to_z w64 (of_z w64 (to_z w64 (of_z w64 (to_z w64 (of_z w64 (to_z w64 (of_z w64 day) *ℤ pos 86400)) +ℤ to_z w64 (of_z w64 second))) -ℤ to_z w64 (of_z w64 ahead))) → at ≡ day *ℤ pos 86_400 +ℤ second -ℤ ahead
sum_is day second ahead at d s a e = omega (arith, ints)

within : (day second ahead at : ℤ) → IsWithin 5_000_000 day → IsWithin 86_400 second → IsWithin 50_400 ahead → at ≡ day *ℤ pos 86_400 +ℤ second -ℤ ahead → IsWithin 500_000_000_000 at
within day second ahead at d s a e = omega (arith, ints)

product_is : (at nanoseconds : ℤ) (n : ℕ) → n < 2 ^ 32 → IsWithin 500_000_000_000 at → nanoseconds ≡ pos n → to_z w128 (of_z w128 (to_z w128 (of_z w128 (to_z w128 (of_z w128 at) *ℤ pos 1000000000)) +ℤ to_z w128 (of_z w128 nanoseconds))) ≡ at *ℤ pos 1_000_000_000 +ℤ pos n
product_is at nanoseconds n small a e = omega (arith, ints)

instant_within : (at : ℤ) (n : ℕ) → n < 2 ^ 32 → IsWithin 500_000_000_000 at → IsWithin 1_000_000_000_000_000_000_000 (at *ℤ pos 1_000_000_000 +ℤ pos n)
instant_within at n small a = omega (arith, ints)

pub returns-clause-means : goal.returns-clause-means
returns-clause-means c =
    let day : IsWithin 5_000_000 c.in_ok-day.day = omega (arith, ints, c.in_ok-day.ensures.bound) in
    let at = sum_is c.in_ok-day.day c.in_ok-second.second c.in_ok-ahead.ahead c.from.result day c.in_ok-second.ensures.bound c.in_ok-ahead.ensures.bound c.from.ensures in
    let a = within c.in_ok-day.day c.in_ok-second.second c.in_ok-ahead.ahead c.from.result day c.in_ok-second.ensures.bound c.in_ok-ahead.ensures.bound at in
    let small : c.args.written.nanosecond < 2 ^ 32 = search rules in
    let z = product_is c.from.result c.from-2.result c.args.written.nanosecond small a c.from-2.ensures in
    means_instant c.args.written c.in_ok-day.day c.in_ok-second.second c.in_ok-ahead.ahead _ c.in_ok-day.ensures.number c.in_ok-second.ensures.seconds c.in_ok-ahead.ensures.seconds (z ∙ ap (λ t. t *ℤ pos 1_000_000_000 +ℤ pos c.args.written.nanosecond) at)

pub returns-clause-bound : goal.returns-clause-bound
returns-clause-bound c =
    let day : IsWithin 5_000_000 c.in_ok-day.day = omega (arith, ints, c.in_ok-day.ensures.bound) in
    let at = sum_is c.in_ok-day.day c.in_ok-second.second c.in_ok-ahead.ahead c.from.result day c.in_ok-second.ensures.bound c.in_ok-ahead.ensures.bound c.from.ensures in
    let a = within c.in_ok-day.day c.in_ok-second.second c.in_ok-ahead.ahead c.from.result day c.in_ok-second.ensures.bound c.in_ok-ahead.ensures.bound at in
    let small : c.args.written.nanosecond < 2 ^ 32 = search rules in
    let z = product_is c.from.result c.from-2.result c.args.written.nanosecond small a c.from-2.ensures in
    subst (IsWithin 1_000_000_000_000_000_000_000) (sym z) (instant_within c.from.result c.args.written.nanosecond small a)

use Rattle.std.proofs.Common.{◌≡◌, sym, ap, ◌∙◌, arith, Some, subst}
use Rattle.std.specs.Int.{w128}
use mir.Val.{to_z, of_z}
use Rattle.std.proofs.lemmas.Int.{ints}
use Rattle.proof_options.specs.Stamps.{IsStamp}
use Rattle.proof_options.specs.Internal.Reading.{written_from}
use Rattle.proof_options.proofs.Whole.{nothing_read, nothing_meant, means_stamp}
use Rattle.proof_options.proofs.instants.read_stamp.Goals as goal

pub returns-in_default : goal.returns-in_default
returns-in_default c = λ i s. nothing_read c.args.text.now i (ap written_from (sym c.as_bytes.ensures.value) ∙ sym c.in_default.ensures) s

pub returns-in_ok-text-in-Some-instant : goal.returns-in_ok-text-in-Some-instant
returns-in_ok-text-in-Some-instant c =
    let found : written_from c.args.text.now ≡ Some c.in-Some.written = ap written_from (sym c.as_bytes.ensures.value) ∙ sym c.in-Some.ensures in
    let e = c.in-Some-instant.ensures in
    let same : to_z w128 (of_z w128 c.in-Some-instant.nanosecond) ≡ c.in-Some-instant.nanosecond = omega (arith, ints, e.bound) in
    (c.in_ok-text-in-Some-instant.ensures, subst (IsStamp c.args.text.now) (sym same) (means_stamp c.args.text.now c.in-Some.written c.in-Some-instant.nanosecond found e.means))

pub returns-in-None : goal.returns-in-None
returns-in-None c =
    let found : written_from c.args.text.now ≡ Some c.in-Some.written = ap written_from (sym c.as_bytes.ensures.value) ∙ sym c.in-Some.ensures in
    λ i s. nothing_meant c.args.text.now c.in-Some.written i found c.in-None.ensures.means s

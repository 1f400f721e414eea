-- The whole text of a stamp: what is read is what it spells, and what its parts spell is read.
use Rattle.std.proofs.Common.{◌≡◌, ℕ, ◌+◌, ◌*◌, ◌≤◌, ℤ, pos, ◌+ℤ◌, ◌-ℤ◌, ◌*ℤ◌, List, ◌∷◌, ◌++◌, Some, None, option_map, refl, sym, ap, ◌∙◌, subst, arith}
use Rattle.std.proofs.lemmas.Bool.Decides.{nat_tests}
use Rattle.base_types.proofs.Lists.{same_some}
use Rattle.base_types.proofs.Options.{option_map-Some}
use Rattle.proof_options.specs.declared.reading.Written.{Written}
use Rattle.proof_options.specs.Calendar.{IsDate, month_length, epoch_day}
use Rattle.proof_options.specs.Stamps.{StampParts, two_digits, date_text, clock_text, fraction_text, offset_text, stamp_text, IsFraction, IsOffset, IsStampOf, fraction_nanoseconds, offset_seconds, instant_of, IsStamp}
use Rattle.proof_options.specs.Internal.Reading.{day_from, clock_after, two_after, fraction_from, shift_from, written_from}
use Rattle.proof_options.specs.Internal.Written.{date_of, offset_of, IsTime, parts_with, Means}
use Rattle.proof_options.proofs.Texts.{went_on, goes_on, two_reads, after_spells}
use Rattle.proof_options.proofs.Spellings.{day_reads, day_spells, clock_reads, clock_spells}
use Rattle.proof_options.proofs.Fractions.{fraction_reads, fraction_spells, shift_of, offset_of-shift_of, shift_reads, shift_spells}

-- ---- what is read is spelled

-- the text is that of these numbers and of some digits that count so much
pub record IsSpelling (text : List ℕ) (w : Written) : Type 0 where
  pub fraction : List ℕ
  pub is : IsFraction fraction
  pub counts : fraction_nanoseconds fraction ≡ w.nanosecond
  pub spelled : text ≡ stamp_text (parts_with w fraction)

-- what was read of a text spells it
pub written_spells : (text : List ℕ) (w : Written) → written_from text ≡ Some w → IsSpelling text w
unfolding stamp_text
written_spells text w h =
    let day = went_on (day_from text) _ w h in
    let clock = went_on (clock_after 84 day.rest) _ w day.on in
    let second = went_on (two_after 58 clock.rest) _ w clock.on in
    let fraction = went_on (fraction_from second.rest) _ w second.on in
    let shift = option_map-Some _ (shift_from fraction.rest) w fraction.on in
    let d = day_spells text day.rest day.read day.was in
    let c = clock_spells 84 day.rest clock.rest clock.read clock.was in
    let s = after_spells 58 clock.rest second.rest second.read second.was in
    let f = fraction_spells second.rest fraction.rest fraction.read fraction.was in
    let o = shift_spells fraction.rest shift.0 shift.1 in
    let tail : second.rest ≡ fraction_text f.digits ++ offset_text (offset_of shift.0) = f.spelled ∙ ap (λ xs. fraction_text f.digits ++ xs) o in
    let time : day.rest ≡ 84 ∷ (clock_text clock.read.hour clock.read.minute ++ 58 ∷ (two_digits second.read ++ (fraction_text f.digits ++ offset_text (offset_of shift.0)))) =
    c ∙ ap (λ xs. 84 ∷ (clock_text clock.read.hour clock.read.minute ++ xs)) (s.1 ∙ ap (λ xs. 58 ∷ (two_digits second.read ++ xs)) tail) in
    subst (IsSpelling text) shift.2 (record {
      fraction = f.digits;
      is = f.is;
      counts = f.counts;
      spelled = d ∙ ap (λ xs. date_text (date_of day.read) ++ xs) time;
    })

-- ---- what is spelled is read

-- the numbers that a stamp's text says
abbrev pub written_of : StampParts → Written
written_of p = record {
  day = record { year = p.date.year; month = p.date.month; day = p.date.day };
  clock = record { hour = p.hour; minute = p.minute };
  second = p.second;
  nanosecond = fraction_nanoseconds p.fraction;
  shift = shift_of p.offset;
}

-- with their digits they make its parts again
pub parts_again : (p : StampParts) → parts_with (written_of p) p.fraction ≡ p
parts_again p = rw (offset_of-shift_of p.offset) refl

-- no month has more than 31 days
pub month_length-most : (y m : ℕ) → 1 ≤ m → m ≤ 12 → month_length y m ≤ 31
month_length-most y m low high = grind (arith, nat_tests)

-- the text of parts that there are is read
pub written_reads : (p : StampParts) → IsStampOf p → written_from (stamp_text p) ≡ Some (written_of p)
unfolding stamp_text
written_reads p is =
    let offset = offset_text p.offset in
    let fraction = fraction_text p.fraction ++ offset in
    let second = 58 ∷ (two_digits p.second ++ fraction) in
    let clock = 84 ∷ (clock_text p.hour p.minute ++ second) in
    let most = month_length-most p.date.year p.date.month is.date.month.0 is.date.month.1 in
    let day_is = day_reads p.date clock (omega (arith, is.date.year.1)) (omega (arith, is.date.month.1)) (omega (arith, is.date.day.1)) in
    let clock_is = clock_reads 84 p.hour p.minute second (omega (arith, is.hour)) (omega (arith, is.minute)) (λ xs. refl) in
    let second_is = two_reads p.second fraction (omega (arith, is.second)) in
    goes_on (day_from (stamp_text p)) _ (written_of p).day clock _ day_is
    (goes_on (clock_after 84 clock) _ (written_of p).clock second _ clock_is
    (goes_on (two_after 58 second) _ p.second fraction _ second_is
    (goes_on (fraction_from fraction) _ (fraction_nanoseconds p.fraction) offset _ (fraction_reads p.fraction p.offset is.fraction)
    (ap (option_map _) (shift_reads p.offset is.offset)))))

-- ---- the instant

-- numbers of which each part has its value have the instant that these make
pub means_instant : (w : Written) (day second ahead z : ℤ) → IsDate (date_of w.day) × (day ≡ epoch_day (date_of w.day)) → IsTime w.clock w.second × (second ≡ pos (3600 * w.clock.hour + 60 * w.clock.minute + w.second)) → IsOffset (offset_of w.shift) × (ahead ≡ offset_seconds (offset_of w.shift)) → z ≡ (day *ℤ pos 86_400 +ℤ second -ℤ ahead) *ℤ pos 1_000_000_000 +ℤ pos w.nanosecond → Means w (Some z)
unfolding instant_of
means_instant w day second ahead z d s a is = λ fraction f counts. (
  record {
    date = d.0;
    hour = s.0.hour;
    minute = s.0.minute;
    second = s.0.seconds;
    fraction = f;
    offset = a.0;
  },
  is ∙ rw (d.1, s.1, a.1, ← counts) refl,
)

-- a text of which nothing is read is no stamp
pub nothing_read : (text : List ℕ) (instant : ℤ) → written_from text ≡ None → IsStamp text instant → ⊥
nothing_read text instant none s =
    let read = written_reads s.parts s.may_be in
    let same : written_from text ≡ Some (written_of s.parts) = ap written_from s.spelled ∙ read in
    absurd (cc)

-- nor is one whose numbers are those of no date and time
pub nothing_meant : (text : List ℕ) (w : Written) (instant : ℤ) → written_from text ≡ Some w → Means w None → IsStamp text instant → ⊥
nothing_meant text w instant found none s =
    let read = written_reads s.parts s.may_be in
    let same : w ≡ written_of s.parts = same_some (written_from text) w (written_of s.parts) found (ap written_from s.spelled ∙ read) in
    none s.parts.fraction (subst IsStampOf (sym (ap (λ v. parts_with v s.parts.fraction) same ∙ parts_again s.parts)) s.may_be)

-- a text whose numbers have an instant is a stamp
pub means_stamp : (text : List ℕ) (w : Written) (instant : ℤ) → written_from text ≡ Some w → Means w (Some instant) → IsStamp text instant
means_stamp text w instant found means =
    let s = written_spells text w found in
    let m = means s.fraction s.is s.counts in
    record { parts = parts_with w s.fraction; may_be = m.0; spelled = s.spelled; meant = m.1 }

-- the instant that numbers have
abbrev written_instant : Written → ℤ
written_instant w = (epoch_day (date_of w.day) *ℤ pos 86_400 +ℤ pos (3600 * w.clock.hour + 60 * w.clock.minute + w.second) -ℤ offset_seconds (offset_of w.shift)) *ℤ pos 1_000_000_000 +ℤ pos w.nanosecond

written_instant-of : (p : StampParts) → instant_of p ≡ written_instant (written_of p)
unfolding instant_of
written_instant-of p = rw (offset_of-shift_of p.offset) refl

-- and it is the one instant
pub one_instant : (text : List ℕ) (i j : ℤ) → IsStamp text i → IsStamp text j → i ≡ j
one_instant text i j s t =
    let a = ap written_from s.spelled ∙ written_reads s.parts s.may_be in
    let b = ap written_from t.spelled ∙ written_reads t.parts t.may_be in
    let same : written_of s.parts ≡ written_of t.parts = same_some (written_from text) (written_of s.parts) (written_of t.parts) a b in
    s.meant ∙ written_instant-of s.parts ∙ ap written_instant same ∙ sym (written_instant-of t.parts) ∙ sym t.meant

-- The numbers that a stamp's text says are those of its parts, and what was read is spelled by parts.
use Rattle.std.proofs.Common.{◌≡◌, ℕ, ◌<◌, List, ◌∷◌, ◌++◌, Some, refl, ap, ◌∙◌}
use Rattle.std.proofs.lemmas.Option.{some_pair_parts}
use Rattle.proof_options.specs.declared.reading.Day.{Day}
use Rattle.proof_options.specs.declared.reading.Clock.{Clock}
use Rattle.proof_options.specs.Calendar.{Date}
use Rattle.proof_options.specs.Stamps.{two_digits, four_digits, date_text, clock_text}
use Rattle.proof_options.specs.Internal.Reading.{Front, two_from, four_from, two_after, day_from, clock_after}
use Rattle.proof_options.specs.Internal.Written.{date_of}
use Rattle.proof_options.proofs.Texts.{went_on, goes_on, two_reads, four_reads, after_spells, four_spells}

-- ---- dates and times

-- a date is read
pub day_reads : (d : Date) (rest : List ℕ) → d.year < 10000 → d.month < 100 → d.day < 100 → ◌≡◌ {A = Front Day} (day_from (date_text d ++ rest)) (Some (record { year = d.year; month = d.month; day = d.day }, rest))
day_reads d rest y m k =
    let days = two_digits d.day ++ rest in
    let months = two_digits d.month ++ 45 ∷ days in
    goes_on (four_from (date_text d ++ rest)) _ d.year (45 ∷ months) _ (four_reads d.year (45 ∷ months) y)
    (goes_on (two_after 45 (45 ∷ months)) _ d.month (45 ∷ days) _ (two_reads d.month (45 ∷ days) m)
    (goes_on (two_after 45 (45 ∷ days)) _ d.day rest _ (two_reads d.day rest k) refl))

-- what was read is a date's text
pub day_spells : (text rest : List ℕ) (d : Day) → ◌≡◌ {A = Front Day} (day_from text) (Some (d, rest)) → text ≡ date_text (date_of d) ++ rest
day_spells text rest d h =
    let first = went_on (four_from text) _ (d, rest) h in
    let second = went_on (two_after 45 first.rest) _ (d, rest) first.on in
    let third = went_on (two_after 45 second.rest) _ (d, rest) second.on in
    let same = some_pair_parts (record { year = first.read; month = second.read; day = third.read }) d third.rest rest third.on in
    let y = four_spells text first.rest first.read first.was in
    let m = after_spells 45 first.rest second.rest second.read second.was in
    let k = after_spells 45 second.rest third.rest third.read third.was in
    let whole : text ≡ date_text (record { year = first.read; month = second.read; day = third.read }) ++ third.rest =
    y.1 ∙ ap (λ xs. four_digits first.read ++ xs) (m.1 ∙ ap (λ xs. 45 ∷ (two_digits second.read ++ xs)) k.1) in
    whole ∙ ap (λ x. date_text (date_of x) ++ third.rest) same.0 ∙ ap (λ xs. date_text (date_of d) ++ xs) same.1

-- an hour and a minute behind a mark are read, where the mark is found
pub clock_reads : (mark h m : ℕ) (rest : List ℕ) → h < 100 → m < 100 → ((xs : List ℕ) → two_after mark (mark ∷ xs) ≡ two_from xs) → ◌≡◌ {A = Front Clock} (clock_after mark (mark ∷ (clock_text h m ++ rest))) (Some (record { hour = h; minute = m }, rest))
clock_reads mark h m rest hh mm here =
    let minutes = two_digits m ++ rest in
    goes_on (two_after mark (mark ∷ (clock_text h m ++ rest))) _ h (58 ∷ minutes) _ (here (clock_text h m ++ rest) ∙ two_reads h (58 ∷ minutes) hh)
    (goes_on (two_after 58 (58 ∷ minutes)) _ m rest _ (two_reads m rest mm) refl)

-- what was read is the mark and the text of an hour and a minute
pub clock_spells : (mark : ℕ) (text rest : List ℕ) (c : Clock) → ◌≡◌ {A = Front Clock} (clock_after mark text) (Some (c, rest)) → text ≡ mark ∷ (clock_text c.hour c.minute ++ rest)
clock_spells mark text rest c h =
    let first = went_on (two_after mark text) _ (c, rest) h in
    let second = went_on (two_after 58 first.rest) _ (c, rest) first.on in
    let same = some_pair_parts (record { hour = first.read; minute = second.read }) c second.rest rest second.on in
    let hh = after_spells mark text first.rest first.read first.was in
    let mm = after_spells 58 first.rest second.rest second.read second.was in
    let whole : text ≡ mark ∷ (clock_text first.read second.read ++ second.rest) =
    hh.1 ∙ ap (λ xs. mark ∷ (two_digits first.read ++ xs)) mm.1 in
    whole ∙ ap (λ x. mark ∷ (clock_text x.hour x.minute ++ second.rest)) same.0 ∙ ap (λ xs. mark ∷ (clock_text c.hour c.minute ++ xs)) same.1

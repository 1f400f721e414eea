-- The turns of the loop that goes through the places from the last to the first.
use Rattle.std.proofs.Common.{◌≡◌, ◌==◌, ℕ, ◌+◌, ◌≤◌, Bool, List, [], ◌∷◌, ◌++◌, length, take, drop, Option, Some, None, cond, refl, sym, ap, ◌∙◌, arith}
use Rattle.std.specs.List.{IsLastAndRest}
use Rattle.std.specs.Str.{bytes_eq}
use Rattle.std.specs.Cmp.Lexicographic.{pointwise}
use Rattle.std.proofs.lemmas.List.{take_at, drop_at, take-append-drop, append_assoc, length-append}
use Rattle.hmac_labels.specs.Internal.Searching.{place_from, pair_or, least_from}

-- What the loop keeps: the texts that are left are the first ones, the least pair is that of the
-- others, and each of these is found at its first place.
abbrev pub Kept : List (List ℕ) → List (List ℕ) → Option (ℕ × ℕ) → (List ℕ → Option ℕ) → Type 0
Kept texts rest least got =
    (length rest ≤ length texts) × (rest ≡ take (length rest) texts)
    × (least ≡ least_from (length rest) (drop (length rest) texts))
    × ((text : List ℕ) → got text ≡ place_from (length rest) (drop (length rest) texts) text)

-- what stands before a place, and from it on
record IsTurn (texts rest earlier : List (List ℕ)) (text : List ℕ) : Type 0 where
  before : earlier ≡ take (length earlier) texts
  from : drop (length earlier) texts ≡ text ∷ drop (length rest) texts
  longer : length rest ≡ 1 + length earlier

turn : (texts rest earlier : List (List ℕ)) (text : List ℕ) → rest ≡ take (length rest) texts
    → rest ≡ earlier ++ text ∷ [] → IsTurn texts rest earlier text
turn texts rest earlier text front split =
    let later : List (List ℕ) = drop (length rest) texts in
    let whole : texts ≡ earlier ++ text ∷ later =
    sym (take-append-drop (length rest) texts) ∙ ap (λ xs. xs ++ later) (sym front ∙ split)
    ∙ append_assoc earlier (text ∷ []) later in
    record {
      before = sym (ap (take (length earlier)) whole ∙ take_at earlier (text ∷ later) (length earlier) refl);
      from = ap (drop (length earlier)) whole ∙ drop_at earlier (text ∷ later) (length earlier) refl;
      longer = ap length split ∙ omega (arith, length-append earlier (text ∷ []));
    }

-- one more text from the end
pub turned : (texts rest earlier : List (List ℕ)) (text key : List ℕ) (least : Option (ℕ × ℕ)) (old : Option ℕ)
    (got new : List ℕ → Option ℕ) → IsLastAndRest rest text earlier → key ≡ text → Kept texts rest least got → old ≡ got key
    → ((t : List ℕ) → new t ≡ cond (pointwise ◌==◌ key t) (Some (length earlier)) (got t))
    → Kept texts earlier (pair_or (length earlier) old least) new
turned texts rest earlier text key least old got new last same kept was updates = (
  omega (arith, t.longer, kept.0),
  t.before,
  pairs ∙ sym (ap (least_from n) t.from),
  λ x. places x ∙ sym (ap (λ xs. place_from n xs x) t.from),
)
  where
    n : ℕ
    n = length earlier

    later : List (List ℕ)
    later = drop (length rest) texts

    t : IsTurn texts rest earlier text
    t = turn texts rest earlier text kept.1 last.0

    seen : (x : List ℕ) → got x ≡ place_from (1 + n) later x
    seen x = kept.3 x ∙ ap (λ k. place_from k later x) t.longer

    pairs : pair_or n old least ≡ least_from n (text ∷ later)
    pairs =
        ap (λ o. pair_or n o least) (was ∙ ap got same ∙ seen text)
        ∙ ap (pair_or n (place_from (1 + n) later text)) (kept.2 ∙ ap (λ k. least_from k later) t.longer)

    places : (x : List ℕ) → new x ≡ place_from n (text ∷ later) x
    places x =
        updates x ∙ ap (λ k. cond (pointwise ◌==◌ k x) (Some n) (got x)) same
        ∙ ap (λ o. cond (bytes_eq text x) (Some n) o) (seen x)

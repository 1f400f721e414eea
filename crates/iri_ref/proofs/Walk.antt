-- The walk over the segments of a path, a segment at a time.
use Rattle.std.proofs.Common.{◌≡◌, ◌≢◌, ℕ, ◌+◌, ◌-◌, ◌<◌, Bool, true, false, cond, eqb, ltb, ◌||◌, List, [], ◌∷◌, ◌++◌, length, get_or, take, suc, refl, sym, ap, ◌∙◌, arith, add-one, drop, length-append}
use denote.Ref.{Bor}
use Rattle.std.specs.List.{fold, join_by, flat_map}
use Rattle.std.proofs.lemmas.Bool.{ne_eqb, lt-ltb}
use Rattle.std.proofs.lemmas.List.{length-map, take-map, map-append}
use Rattle.std.specs.Str.{IsUtf8}
use Rattle.std.proofs.lemmas.Str.{IsUtf8-drop, IsCharBoundary-after_ascii}
use Rattle.iri_ref.specs.Internal.Pieces.{borrowed_texts}
use Rattle.iri_ref.specs.Resolution.{with_end, enter, is_dot, is_dot_dot, path_of, segments, up}

segments_at : (s later : List ℕ) → ((i : ℕ) → i < length s → get_or s i 0 ≢ 47) → segments (s ++ 47 ∷ later) ≡ s ∷ segments later
segments_at [] later h = refl
segments_at (b ∷ bs) later h =
    let differs : eqb b 47 ≡ false = ne_eqb b 47 (h 0 (omega arith)) in
    let rest : segments (bs ++ 47 ∷ later) ≡ bs ∷ segments later = segments_at bs later (λ i l. h (suc i) (omega arith)) in
    rw differs (rw rest refl)

segments_none : (s : List ℕ) → ((i : ℕ) → i < length s → get_or s i 0 ≢ 47) → segments s ≡ s ∷ []
segments_none [] h = refl
segments_none (b ∷ bs) h =
    let differs : eqb b 47 ≡ false = ne_eqb b 47 (h 0 (omega arith)) in
    let rest : segments bs ≡ bs ∷ [] = segments_none bs (λ i l. h (suc i) (omega arith)) in
    rw differs (rw rest refl)

record IsFilled (xs : List (List ℕ)) : Type 0 where
  first : List ℕ
  others : List (List ℕ)
  is : xs ≡ first ∷ others

filled_step : (b : ℕ) (bs : List ℕ) → IsFilled (segments bs) → (t : Bool) → eqb b 47 ≡ t → IsFilled (segments (b ∷ bs))
filled_step b bs f true e = record { first = []; others = segments bs; is = rw e refl }
filled_step b bs f false e = record { first = b ∷ f.first; others = f.others; is = rw e (rw f.is refl) }

segments_filled : (bs : List ℕ) → IsFilled (segments bs)
segments_filled [] = record { first = []; others = []; is = refl }
segments_filled (b ∷ bs) = filled_step b bs (segments_filled bs) (eqb b 47) refl

with_end-more : (s : List ℕ) (xs : List (List ℕ)) → IsFilled xs → with_end (s ∷ xs) ≡ s ∷ with_end xs
with_end-more s xs f = rw f.is refl

-- a turn of the walk, at a slash
pub kept_step : (kept now : List (List ℕ)) (rest s later : List ℕ) → rest ≡ s ++ 47 ∷ later → ((i : ℕ) → i < length s → get_or s i 0 ≢ 47) → now ≡ enter kept s → fold enter now (with_end (segments later)) ≡ fold enter kept (with_end (segments rest))
kept_step kept now rest s later e h n =
    let whole : with_end (segments rest) ≡ s ∷ with_end (segments later) = ap (λ t. with_end (segments t)) e ∙ (ap with_end (segments_at s later h) ∙ with_end-more s (segments later) (segments_filled later)) in
    rw (whole, n) refl

-- its end, at the last segment
with_end-last : (kept : List (List ℕ)) (s : List ℕ) (t : Bool) → (is_dot s || is_dot_dot s) ≡ t → fold enter kept (with_end (s ∷ [])) ≡ cond t (enter kept s ++ [] ∷ []) (enter kept s)
with_end-last kept s true e = rw e refl
with_end-last kept s false e = rw e refl

-- the segments that are kept at the end of the path
pub kept_end : (kept now : List (List ℕ)) (rest : List ℕ) (t : Bool) → ((i : ℕ) → i < length rest → get_or rest i 0 ≢ 47) → now ≡ enter kept rest → t ≡ (is_dot rest || is_dot_dot rest) → cond t (now ++ [] ∷ []) now ≡ fold enter kept (with_end (segments rest))
kept_end kept now rest t h n e = rw (segments_none rest h, n) (sym (with_end-last kept rest t (sym e)))

-- one up, by `truncate`
pub up_more : (xs : List (Bor (List ℕ))) (n : ℕ) → n ≡ length xs → 1 < n → borrowed_texts (take (n - 1) xs) ≡ up (borrowed_texts xs)
up_more xs n e more =
    let same : length (borrowed_texts xs) ≡ n = length-map xs (λ (s : Bor (List ℕ)). s.now) ∙ sym e in
    let test : ltb 1 n ≡ true = lt-ltb 1 n more in
    rw (same, test) (sym (take-map (λ (s : Bor (List ℕ)). s.now) (n - 1) xs))

later_texts : (xs : List (Bor (List ℕ))) → flat_map (λ (y : Bor (List ℕ)). 47 ∷ y.now) xs ≡ flat_map (λ y. 47 ∷ y) (borrowed_texts xs)
later_texts [] = refl
later_texts (x ∷ xs) = ap (λ t. 47 ∷ x.now ++ t) (later_texts xs)

-- the pieces joined with slashes are the path of their texts
pub path_of-texts : (xs : List (Bor (List ℕ))) → join_by (λ (y : Bor (List ℕ)). y.now) (47 ∷ []) xs ≡ path_of (borrowed_texts xs)
path_of-texts [] = refl
path_of-texts (x ∷ xs) = ap (λ t. x.now ++ t) (later_texts xs)

past_seam : (s later : List ℕ) → drop (suc (length s)) (s ++ 47 ∷ later) ≡ later
past_seam [] later = refl
past_seam (b ∷ bs) later = past_seam bs later

at_seam : (s later : List ℕ) → get_or (s ++ 47 ∷ later) (length s) 0 ≡ 47
at_seam [] later = refl
at_seam (b ∷ bs) later = at_seam bs later

-- what follows a slash in a text is text
pub later_text : (rest s later : List ℕ) → IsUtf8 rest → rest ≡ s ++ 47 ∷ later → IsUtf8 later
later_text rest s later u e =
    let same : drop (length s + 1) rest ≡ later = rw (e, add-one) (past_seam s later) in
    let here : get_or rest (length s) 0 ≡ 47 = rw e (at_seam s later) in
    let inside : length s < length rest = omega (arith, ap length e, length-append s (47 ∷ later)) in
    let low : get_or rest (length s) 0 < 128 = omega arith in
    rw same at (IsUtf8-drop rest (length s + 1) u (IsCharBoundary-after_ascii rest (length s) u inside low))

-- the end of a path whose last segment is a dot or two
pub end_dot : (kept : List (List ℕ)) (items last : List (Bor (List ℕ))) (x : Bor (List ℕ)) (rest : List ℕ) → ((i : ℕ) → i < length rest → get_or rest i 0 ≢ 47) → borrowed_texts items ≡ enter kept rest → true ≡ (is_dot rest || is_dot_dot rest) → x.now ≡ [] → last ≡ items ++ x ∷ [] → borrowed_texts last ≡ fold enter kept (with_end (segments rest))
end_dot kept items last x rest h n t e l =
    let pushed : borrowed_texts last ≡ borrowed_texts items ++ [] ∷ [] = ap borrowed_texts l ∙ (map-append (λ (s : Bor (List ℕ)). s.now) items (x ∷ []) ∙ ap (λ y. borrowed_texts items ++ y ∷ []) e) in
    pushed ∙ kept_end kept (borrowed_texts items) rest true h n t

-- the end of a path with another last segment
pub end_plain : (kept : List (List ℕ)) (items : List (Bor (List ℕ))) (rest : List ℕ) → ((i : ℕ) → i < length rest → get_or rest i 0 ≢ 47) → borrowed_texts items ≡ enter kept rest → false ≡ (is_dot rest || is_dot_dot rest) → borrowed_texts items ≡ fold enter kept (with_end (segments rest))
end_plain kept items rest h n t = kept_end kept (borrowed_texts items) rest false h n t

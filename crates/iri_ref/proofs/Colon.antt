-- The first colon after the first character, by its place.
use Rattle.std.proofs.Common.{◌≡◌, ◌∙◌, ℕ, ◌+◌, ◌<◌, Bool, true, false, eqb, ◌==◌, List, [], ◌∷◌, ◌++◌, length, get_or, take, drop, Option, Some, None, option_map, suc, lit<, refl, sym, ap, arith, length-append}
use Rattle.std.specs.List.{position_from}
use Rattle.std.proofs.Math.Seq.{take-append_seam, drop-append_seam}
use Rattle.std.proofs.lemmas.Iterator.Adapters.{position_from-zero}
use Rattle.std.specs.Str.{IsCharBoundary, IsUtf8}
use Rattle.std.proofs.lemmas.Str.{IsCharBoundary-before_ascii, IsCharBoundary-after_ascii, IsUtf8-drop}
use Rattle.iri_ref.specs.Components.{before, after, around_colon, with_mark}
use Rattle.iri_ref.specs.Internal.Places.{colon_place}
use Rattle.iri_ref.proofs.Cuts.{before-after}

-- the place of the first colon, from a place on
place_step : (i b : ℕ) (bs : List ℕ) → position_from (λ c. c == 58) (i + 1) bs ≡ option_map (λ rest. i + 1 + length (before 58 bs)) (after 58 bs) → (t : Bool) → eqb b 58 ≡ t → position_from (λ c. c == 58) i (b ∷ bs) ≡ option_map (λ rest. i + length (before 58 (b ∷ bs))) (after 58 (b ∷ bs))
place_step i b bs ih true e = rw e (ap Some (omega arith))
place_step i b bs ih false e =
    let same : i + 1 + length (before 58 bs) ≡ i + suc (length (before 58 bs)) = omega arith in
    rw e (ih ∙ ap (λ n. option_map (λ (rest : List ℕ). n) (after 58 bs)) same)

place_from : (i : ℕ) (bs : List ℕ) → position_from (λ c. c == 58) i bs ≡ option_map (λ rest. i + length (before 58 bs)) (after 58 bs)
place_from i [] = refl
place_from i (b ∷ bs) = place_step i b bs (place_from (i + 1) bs) (eqb b 58) refl

seam : (s later : List ℕ) → get_or (s ++ 58 ∷ later) (length s) 0 ≡ 58
seam [] later = refl
seam (b ∷ bs) later = seam bs later

past : (s later : List ℕ) → drop (suc (length s)) (s ++ 58 ∷ later) ≡ later
past [] later = refl
past (b ∷ bs) later = past bs later

-- at this byte a colon splits the text
pub record Splits (text : List ℕ) (k : ℕ) : Type 0 where
  pub inside : k < length text
  pub colon : get_or text k 0 ≡ 58
  pub there : drop k text ≡ 58 ∷ drop (suc k) text
  pub parts : around_colon text ≡ Some (take k text, drop (suc k) text)

splits_at : (b : ℕ) (bs front rest : List ℕ) (n : ℕ) → bs ≡ front ++ 58 ∷ rest → before 58 bs ≡ front → after 58 bs ≡ Some rest → n ≡ length front → Splits (b ∷ bs) (suc n)
splits_at b bs front rest n e f g h =
    let back : drop (suc n) bs ≡ rest = rw (e, h) (past front rest) in
    let on : drop n bs ≡ 58 ∷ rest = rw (e, h) (drop-append_seam front (58 ∷ rest)) in
    let ahead : take n bs ≡ front = rw (e, h) (take-append_seam front (58 ∷ rest)) in record {
      inside = omega (arith, ap length e, length-append front (58 ∷ rest), h);
      colon = rw (e, h) (seam front rest);
      there = on ∙ ap (λ t. 58 ∷ t) (sym back);
      parts = rw (g, f, ahead, back) refl;
    }

splits_step : (b : ℕ) (bs : List ℕ) (o : Option (List ℕ)) → after 58 bs ≡ o → before 58 bs ++ with_mark (58 ∷ []) o ≡ bs → (k : ℕ) → option_map suc (option_map (λ rest. 0 + length (before 58 bs)) o) ≡ Some k → Splits (b ∷ bs) k
splits_step b bs None g w k e = absurd (cc)
splits_step b bs (Some rest) g w k e =
    let same : suc (0 + length (before 58 bs)) ≡ k = cc in
    let n : 0 + length (before 58 bs) ≡ length (before 58 bs) = omega arith in
    rw (sym same) (splits_at b bs (before 58 bs) rest (0 + length (before 58 bs)) (sym w) refl g n)

-- where the place is found, the text is split there
pub colon_splits : (text : List ℕ) (r : Option ℕ) → r ≡ colon_place text → (k : ℕ) → r ≡ Some k → Splits text k
colon_splits [] r e k s = absurd (cc)
colon_splits (b ∷ bs) r e k s =
    splits_step b bs (after 58 bs) refl (before-after 58 bs) k
    (ap (option_map suc) (sym (position_from-zero (λ c. c == 58) bs ∙ place_from 0 bs)) ∙ (sym e ∙ s))

none_step : (b : ℕ) (bs : List ℕ) (o : Option (List ℕ)) → option_map suc (option_map (λ rest. 0 + length (before 58 bs)) o) ≡ None → option_map {T = List ℕ} {U = List ℕ × List ℕ} (λ suffix. (b ∷ before 58 bs, suffix)) o ≡ None
none_step b bs None e = refl
none_step b bs (Some rest) e = absurd (cc)

-- where none is found, there is no such colon
pub no_colon_place : (text : List ℕ) (r : Option ℕ) → r ≡ colon_place text → r ≡ None → around_colon text ≡ None
no_colon_place [] r e n = refl
no_colon_place (b ∷ bs) r e n =
    none_step b bs (after 58 bs) (ap (option_map suc) (sym (position_from-zero (λ c. c == 58) bs ∙ place_from 0 bs)) ∙ (sym e ∙ n))

-- a character ends after the colon
pub after_colon : (text : List ℕ) (k : ℕ) → IsUtf8 text → Splits text k → IsCharBoundary (drop k text) 1
after_colon text k u s =
    let low : get_or text k 0 < 128 = omega (arith, s.colon) in
    let rest : IsUtf8 (drop k text) = IsUtf8-drop text k u (IsCharBoundary-before_ascii text k s.inside low) in
    let rest' : IsUtf8 (58 ∷ drop (suc k) text) = rw s.there at rest in
    rw s.there (IsCharBoundary-after_ascii (58 ∷ drop (suc k) text) 0 rest' (omega arith) (lit< tt))

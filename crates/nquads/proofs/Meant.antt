-- What a text with escapes means: the function that reads it and the pieces that it is made of say the same.
use Rattle.std.proofs.Common.{◌≡◌, ◌≢◌, ℕ, zero, suc, ◌<◌, ◌≤◌, List, [], ◌∷◌, ◌++◌, length, take, drop, Bool, true, false, cond, ◌==◌, ◌||◌, nat_le, All, Option, Some, None, option_map, option_and_then, encode_utf8, flat_map, refl, sym, ap, ◌∙◌, subst, inl, inr, arith, take-append-drop}
use Rattle.std.proofs.lemmas.Bool.{eqb-true, eqb-false, leb-true, le-leb, or_cases, ne_eqb}
use Rattle.std.proofs.lemmas.Option.{none-some, same_Some, cond_some}
use Rattle.std.proofs.lemmas.List.{take_at, drop_at}
use Rattle.std.proofs.lemmas.List.Elements.{All-nil, All-cons, All-head, All-tail}
use Rattle.std.proofs.lemmas.Str.{encode_ascii}
use Rattle.std.specs.Char.{IsScalar}
use lib.Utf8.{scalar}
use Rattle.base_types.proofs.Options.{and_then-Some, option_map-Some, took}
use Rattle.nquads.specs.Escapes.{hex_number, IsUchar, named_escape, Piece, IsRaw, IsEchar, IsPiece, Writes}
use Rattle.nquads.specs.Internal.Meaning.{only_if, scalar_only, numbered, with_size, letter_escape, escape_in, meant_past, meant}

-- ---- tests

-- the value of a test that passed
pub passed : {X : Type 0} (b : Bool) (x y : X) → only_if b x ≡ Some y → (b ≡ true) × (x ≡ y)
passed b x y e = cond_some b x y e

-- ---- from the function to the pieces

-- nothing is written as nothing
pub Writes-nil : (quoted : Bool) → Writes quoted [] []
Writes-nil quoted = record { pieces = []; are = All-nil (IsPiece quoted); written_is = refl; text_is = refl }

-- one piece more in front
pub Writes-cons : (quoted : Bool) (p : Piece) (written text : List ℕ) → IsPiece quoted p → Writes quoted written text → Writes quoted (p.written ++ written) (p.meant ++ text)
Writes-cons quoted p written text i w = record {
  pieces = p ∷ w.pieces;
  are = All-cons (IsPiece quoted) p w.pieces i w.are;
  written_is = ap (λ (t : List ℕ). p.written ++ t) w.written_is;
  text_is = ap (λ (t : List ℕ). p.meant ++ t) w.text_is;
}

numbered_cases : (b : Bool) (o : Option ℕ) (k : ℕ) → cond b (option_and_then scalar_only o) None ≡ Some k → (b ≡ true) × (o ≡ Some k) × (scalar k ≡ true)
numbered_cases true o k e =
    let r = and_then-Some scalar_only o k e in
    let s = passed (scalar r.0) r.0 k r.2 in
    (refl, r.1 ∙ ap (λ (z : ℕ). Some z) s.1, subst (λ (z : ℕ). scalar z ≡ true) s.1 s.0)
numbered_cases false o k e = absurd (none-some k e)

-- digits that number a character
pub numbered-gives : (n : ℕ) (cs : List ℕ) (k : ℕ) → numbered n cs ≡ Some k → (n ≤ length cs) × (hex_number 0 (take n cs) ≡ Some k) × IsScalar k
numbered-gives n cs k e =
    let r = numbered_cases (nat_le n (length cs)) (hex_number 0 (take n cs)) k e in
    (leb-true n (length cs) r.0, r.1, r.2)

length_taken : (n : ℕ) (cs : List ℕ) → n ≤ length cs → length (take n cs) ≡ n
length_taken zero cs l = refl
length_taken (suc n) [] l = absurd (omega arith)
length_taken (suc n) (c ∷ cs) l = ap suc (length_taken n cs (omega arith))

short_number : (cs : List ℕ) (k : ℕ) → numbered 4 cs ≡ Some k → IsUchar (92 ∷ 117 ∷ take 4 cs) k
short_number cs k e =
    let r = numbered-gives 4 cs k e in
    record { digits = take 4 cs; is = inl (refl, length_taken 4 cs r.0); number = r.1; scalar = r.2 }

long_number : (cs : List ℕ) (k : ℕ) → numbered 8 cs ≡ Some k → IsUchar (92 ∷ 85 ∷ take 8 cs) k
long_number cs k e =
    let r = numbered-gives 8 cs k e in
    record { digits = take 8 cs; is = inr (refl, length_taken 8 cs r.0); number = r.1; scalar = r.2 }

-- a letter stands for a character of ASCII
pub named_escape-small : (c k : ℕ) → named_escape c ≡ Some k → k < 128
named_escape-small c k e =
    elim (took (c == 116) (Some 9) _ (Some k) e) [
      | inl p ↦ let s : 9 ≡ k = same_Some 9 k p.1 in omega arith
      | inr p ↦ elim (took (c == 98) (Some 8) _ (Some k) p.1) [
        | inl p ↦ let s : 8 ≡ k = same_Some 8 k p.1 in omega arith
        | inr p ↦ elim (took (c == 110) (Some 10) _ (Some k) p.1) [
          | inl p ↦ let s : 10 ≡ k = same_Some 10 k p.1 in omega arith
          | inr p ↦ elim (took (c == 114) (Some 13) _ (Some k) p.1) [
            | inl p ↦ let s : 13 ≡ k = same_Some 13 k p.1 in omega arith
            | inr p ↦ elim (took (c == 102) (Some 12) _ (Some k) p.1) [
              | inl p ↦ let s : 12 ≡ k = same_Some 12 k p.1 in omega arith
              | inr p ↦ itself p.1
            ]
          ]
        ]
      ]
    ]
  where
    itself : cond ((c == 34) || (c == 39) || (c == 92)) (Some c) None ≡ Some k → k < 128
    itself e =
        let r = cond_some ((c == 34) || (c == 39) || (c == 92)) c k e in
        let s : c ≡ k = r.1 in
        elim (or_cases ((c == 34) || (c == 39)) (c == 92) r.0) [
          | inl p ↦ elim (or_cases (c == 34) (c == 39) p) [
            | inl q ↦ let t : c ≡ 34 = eqb-true c 34 q in omega arith
            | inr q ↦ let t : c ≡ 39 = eqb-true c 39 q in omega arith
          ]
          | inr p ↦ let t : c ≡ 92 = eqb-true c 92 p in omega arith
        ]

-- the piece that begins with a backslash
abbrev pub escape_piece : List ℕ → ℕ × ℕ → Piece
escape_piece cs x = record { written = 92 ∷ take x.1 cs; meant = encode_utf8 x.0 }

by_number : (quoted : Bool) (written : List ℕ) (k : ℕ) → IsUchar written k → IsPiece quoted (record { written = written; meant = encode_utf8 k })
by_number quoted written k u = inr (inr (record { character = k; written = u; meant = refl }))

by_letter : (quoted : Bool) (c : ℕ) (cs : List ℕ) (k : ℕ) → letter_escape quoted c ≡ Some k → IsPiece quoted (escape_piece (c ∷ cs) (k, 1))
by_letter true c cs k e =
    inr (inl (
      refl,
      record {
        letter = c;
        character = k;
        written = refl;
        meant = encode_ascii k (named_escape-small c k e);
        stands_for = e;
      },
    ))
by_letter false c cs k e = absurd (none-some k e)

-- what is read behind a backslash is a piece
pub escape_in-gives : (quoted : Bool) (cs : List ℕ) (x : ℕ × ℕ) → escape_in quoted cs ≡ Some x → IsPiece quoted (escape_piece cs x)
escape_in-gives quoted [] x e = absurd (none-some x e)
escape_in-gives quoted (c ∷ cs) x e =
    elim (took (c == 117) (with_size 5 (numbered 4 cs)) (cond (c == 85) (with_size 9 (numbered 8 cs)) (with_size 1 (letter_escape quoted c))) (Some x) e) [
      | inl p ↦
          let r = option_map-Some (λ (k : ℕ). (k, 5)) (numbered 4 cs) x p.1 in
          subst (λ (z : ℕ × ℕ). IsPiece quoted (escape_piece (c ∷ cs) z)) r.2
          (subst (λ (z : ℕ). IsPiece quoted (escape_piece (z ∷ cs) (r.0, 5))) (sym (eqb-true c 117 p.0))
          (by_number quoted (92 ∷ 117 ∷ take 4 cs) r.0 (short_number cs r.0 r.1)))
      | inr p ↦ elim (took (c == 85) (with_size 9 (numbered 8 cs)) (with_size 1 (letter_escape quoted c)) (Some x) p.1) [
        | inl q ↦
            let r = option_map-Some (λ (k : ℕ). (k, 9)) (numbered 8 cs) x q.1 in
            subst (λ (z : ℕ × ℕ). IsPiece quoted (escape_piece (c ∷ cs) z)) r.2
            (subst (λ (z : ℕ). IsPiece quoted (escape_piece (z ∷ cs) (r.0, 9))) (sym (eqb-true c 85 q.0))
            (by_number quoted (92 ∷ 85 ∷ take 8 cs) r.0 (long_number cs r.0 r.1)))
        | inr q ↦
            let r = option_map-Some (λ (k : ℕ). (k, 1)) (letter_escape quoted c) x q.1 in
            subst (λ (z : ℕ × ℕ). IsPiece quoted (escape_piece (c ∷ cs) z)) r.2 (by_letter quoted c cs r.0 r.1)
      ]
    ]

escaped_more : (quoted : Bool) (c : ℕ) (cs : List ℕ) (x : ℕ × ℕ) (u t : List ℕ) → (c == 92) ≡ true → escape_in quoted cs ≡ Some x → Writes quoted (drop x.1 cs) u → encode_utf8 x.0 ++ u ≡ t → Writes quoted (c ∷ cs) t
escaped_more quoted c cs x u t b e w same =
    let whole : (92 ∷ take x.1 cs) ++ drop x.1 cs ≡ 92 ∷ cs = ap (λ (z : List ℕ). 92 ∷ z) (take-append-drop x.1 cs) in
    let made = Writes-cons quoted (escape_piece cs x) (drop x.1 cs) u (escape_in-gives quoted cs x e) w in
    subst (λ (z : ℕ). Writes quoted (z ∷ cs) t) (sym (eqb-true c 92 b))
    (subst (λ (z : List ℕ). Writes quoted z t) whole
    (subst (λ (z : List ℕ). Writes quoted ((92 ∷ take x.1 cs) ++ drop x.1 cs) z) same made))

raw_more : (quoted : Bool) (c : ℕ) (cs u t : List ℕ) → (c == 92) ≡ false → (c == 34) ≡ false → Writes quoted cs u → c ∷ u ≡ t → Writes quoted (c ∷ cs) t
raw_more quoted c cs u t b q w same =
    subst (λ (z : List ℕ). Writes quoted (c ∷ cs) z) same
    (Writes-cons quoted (record { written = c ∷ []; meant = c ∷ [] }) cs u
    (inl (record { byte = c; written = refl; meant = refl; plain = (eqb-false c 34 q, eqb-false c 92 b) })) w)

-- what a text means is written so
pub meant_past-gives : (quoted : Bool) (n : ℕ) (cs t : List ℕ) → meant_past quoted n cs ≡ Some t → Writes quoted (drop n cs) t
meant_past-gives quoted zero [] t e = subst (λ (z : List ℕ). Writes quoted [] z) (same_Some [] t e) (Writes-nil quoted)
meant_past-gives quoted (suc n) [] t e = subst (λ (z : List ℕ). Writes quoted [] z) (same_Some [] t e) (Writes-nil quoted)
meant_past-gives quoted (suc n) (c ∷ cs) t e = meant_past-gives quoted n cs t e
meant_past-gives quoted zero (c ∷ cs) t e =
    elim (took (c == 92) (option_and_then (λ (x : ℕ × ℕ). option_map (λ (text : List ℕ). encode_utf8 x.0 ++ text) (meant_past quoted x.1 cs)) (escape_in quoted cs)) (cond (c == 34) None (option_map (λ (text : List ℕ). c ∷ text) (meant_past quoted zero cs))) (Some t) e) [
      | inl p ↦
          let r = and_then-Some (λ (x : ℕ × ℕ). option_map (λ (text : List ℕ). encode_utf8 x.0 ++ text) (meant_past quoted x.1 cs)) (escape_in quoted cs) t p.1 in
          let m = option_map-Some (λ (text : List ℕ). encode_utf8 r.0.0 ++ text) (meant_past quoted r.0.1 cs) t r.2 in
          escaped_more quoted c cs r.0 m.0 t p.0 r.1 (meant_past-gives quoted r.0.1 cs m.0 m.1) m.2
      | inr p ↦ elim (took (c == 34) None (option_map (λ (text : List ℕ). c ∷ text) (meant_past quoted zero cs)) (Some t) p.1) [
        | inl q ↦ absurd (none-some t q.1)
        | inr q ↦
            let m = option_map-Some (λ (text : List ℕ). c ∷ text) (meant_past quoted zero cs) t q.1 in
            raw_more quoted c cs m.0 t p.0 q.0 (meant_past-gives quoted zero cs m.0 m.1) m.2
      ]
    ]

-- the same of a whole text
pub meant-gives : (quoted : Bool) (cs t : List ℕ) → meant quoted cs ≡ Some t → Writes quoted cs t
meant-gives quoted cs t e = meant_past-gives quoted 0 cs t e

-- ---- from the pieces to the function

-- bytes that are passed over
pub meant_past-drop : (quoted : Bool) (n : ℕ) (cs : List ℕ) → meant_past quoted n cs ≡ meant quoted (drop n cs)
meant_past-drop quoted zero cs = refl
meant_past-drop quoted (suc n) [] = refl
meant_past-drop quoted (suc n) (c ∷ cs) = meant_past-drop quoted n cs

-- digits that number a character, and what follows them
pub numbered-from : (n k : ℕ) (digits r : List ℕ) → length digits ≡ n → hex_number 0 digits ≡ Some k → IsScalar k → numbered n (digits ++ r) ≡ Some k
numbered-from n k digits r l h s =
    let fits : n ≤ length (digits ++ r) = subst (λ (z : ℕ). z ≤ length (digits ++ r)) l (front digits r) in
    rw (le-leb n (length (digits ++ r)) fits, take_at digits r n l, h, s) refl
  where
    front : (xs ys : List ℕ) → length xs ≤ length (xs ++ ys)
    front [] ys = omega arith
    front (x ∷ xs) ys = let h = front xs ys in omega arith

-- an escape in front of more
pub escaped_front : (quoted : Bool) (cs : List ℕ) (x : ℕ × ℕ) → escape_in quoted cs ≡ Some x → meant quoted (92 ∷ cs) ≡ option_map (λ (t : List ℕ). encode_utf8 x.0 ++ t) (meant quoted (drop x.1 cs))
escaped_front quoted cs x e = rw e (ap (option_map (λ (t : List ℕ). encode_utf8 x.0 ++ t)) (meant_past-drop quoted x.1 cs))

-- a byte that stands for itself, in front of more
pub raw_front : (quoted : Bool) (c : ℕ) (cs : List ℕ) → c ≢ 34 → c ≢ 92 → meant quoted (c ∷ cs) ≡ option_map (λ (t : List ℕ). c ∷ t) (meant quoted cs)
raw_front quoted c cs q b = rw (ne_eqb c 92 b, ne_eqb c 34 q) refl

letter_in : (quoted : Bool) (c k : ℕ) (r : List ℕ) → quoted ≡ true → named_escape c ≡ Some k → escape_in quoted (c ∷ r) ≡ Some (k, 1)
letter_in quoted c k r q e =
    rw (ne_eqb c 117 (λ (s : c ≡ 117). none-some k (subst (λ (z : ℕ). named_escape z ≡ Some k) s e)), ne_eqb c 85 (λ (s : c ≡ 85). none-some k (subst (λ (z : ℕ). named_escape z ≡ Some k) s e)), q, e) refl

raw_piece : (quoted : Bool) (p : Piece) (r : List ℕ) → IsRaw p → meant quoted (p.written ++ r) ≡ option_map (λ (t : List ℕ). p.meant ++ t) (meant quoted r)
raw_piece quoted p r i = rw (i.written, i.meant) (raw_front quoted i.byte r i.plain.0 i.plain.1)

letter_piece : (quoted : Bool) (p : Piece) (r : List ℕ) → quoted ≡ true → IsEchar p → meant quoted (p.written ++ r) ≡ option_map (λ (t : List ℕ). p.meant ++ t) (meant quoted r)
letter_piece quoted p r q i =
    rw (i.written, i.meant)
    (escaped_front quoted (i.letter ∷ r) (i.character, 1) (letter_in quoted i.letter i.character r q i.stands_for)
    ∙ ap (λ (m : List ℕ). option_map (λ (t : List ℕ). m ++ t) (meant quoted r)) (encode_ascii i.character (named_escape-small i.letter i.character i.stands_for)))

uchar_front : (quoted : Bool) (written : List ℕ) (k : ℕ) (r : List ℕ) → IsUchar written k → meant quoted (written ++ r) ≡ option_map (λ (t : List ℕ). encode_utf8 k ++ t) (meant quoted r)
uchar_front quoted written k r u =
    elim u.is [
      | inl p ↦
          rw p.0
          (escaped_front quoted (117 ∷ (u.digits ++ r)) (k, 5) (ap (with_size 5) (numbered-from 4 k u.digits r p.1 u.number u.scalar))
          ∙ ap (λ (z : List ℕ). option_map (λ (t : List ℕ). encode_utf8 k ++ t) (meant quoted z)) (drop_at u.digits r 4 p.1))
      | inr p ↦
          rw p.0
          (escaped_front quoted (85 ∷ (u.digits ++ r)) (k, 9) (ap (with_size 9) (numbered-from 8 k u.digits r p.1 u.number u.scalar))
          ∙ ap (λ (z : List ℕ). option_map (λ (t : List ℕ). encode_utf8 k ++ t) (meant quoted z)) (drop_at u.digits r 8 p.1))
    ]

-- a piece in front of more
pub piece_front : (quoted : Bool) (p : Piece) (r : List ℕ) → IsPiece quoted p → meant quoted (p.written ++ r) ≡ option_map (λ (t : List ℕ). p.meant ++ t) (meant quoted r)
piece_front quoted p r i =
    elim i [
      | inl a ↦ raw_piece quoted p r a
      | inr b ↦ elim b [
        | inl a ↦ letter_piece quoted p r a.0 a.1
        | inr a ↦ rw a.meant (uchar_front quoted p.written a.character r a.written)
      ]
    ]

pieces_mean : (quoted : Bool) (ps : List Piece) → All (IsPiece quoted) ps → meant quoted (flat_map (λ (p : Piece). p.written) ps) ≡ Some (flat_map (λ (p : Piece). p.meant) ps)
pieces_mean quoted [] a = refl
pieces_mean quoted (p ∷ ps) a =
    piece_front quoted p (flat_map (λ (p : Piece). p.written) ps) (All-head (IsPiece quoted) p ps a)
    ∙ ap (option_map (λ (t : List ℕ). p.meant ++ t)) (pieces_mean quoted ps (All-tail (IsPiece quoted) p ps a))

-- what is written so is meant
pub meant-from : (quoted : Bool) (written text : List ℕ) → Writes quoted written text → meant quoted written ≡ Some text
meant-from quoted written text w = rw (w.written_is, w.text_is) (pieces_mean quoted w.pieces w.are)

-- The lines of a text: they are cut from left to right, each once.
use Rattle.std.proofs.Common.{◌≡◌, ◌≢◌, ℕ, ◌+◌, ◌-◌, ◌≤◌, List, [], ◌∷◌, ◌++◌, length, Bool, true, false, ◌==◌, All, Some, refl, sym, ap, ap₂, ◌∙◌, subst, inl, inr, arith, append_assoc, length-append}
use Rattle.std.specs.Prelude.{◌⊎◌}
use Rattle.std.proofs.lemmas.Bool.{eqb-true, eqb-false, true≢false, or_cases}
use Rattle.std.proofs.lemmas.Option.{none-some, same_Some}
use Rattle.std.proofs.lemmas.List.{same_from_push}
use Rattle.std.proofs.lemmas.List.Elements.{All-nil, All-cons, All-head, All-tail}
use Rattle.base_types.proofs.Options.{took}
use Rattle.nquads.specs.Reading.{is_line_end, BeginsLine, EndsLine, IsLineAt}
use Rattle.nquads.specs.Internal.Lines.{first_line, line_tail, past_feed, past_line_end, after_line}

abbrev Inner : ℕ → Type 0
Inner c = is_line_end c ≡ false

-- ---- the first line

first_and_tail : (text : List ℕ) → text ≡ first_line text ++ line_tail text
first_and_tail [] = refl
first_and_tail (c ∷ cs) = go (is_line_end c) refl (first_and_tail cs)
  where
    go : (b : Bool) → is_line_end c ≡ b → cs ≡ first_line cs ++ line_tail cs → c ∷ cs ≡ first_line (c ∷ cs) ++ line_tail (c ∷ cs)
    go true e h = rw e refl
    go false e h = rw e (ap (λ (t : List ℕ). c ∷ t) h)

first_whole : (text : List ℕ) → All Inner (first_line text)
first_whole [] = All-nil Inner
first_whole (c ∷ cs) = go (is_line_end c) refl (first_whole cs)
  where
    go : (b : Bool) → is_line_end c ≡ b → All Inner (first_line cs) → All Inner (first_line (c ∷ cs))
    go true e h = rw e (All-nil Inner)
    go false e h = rw e (All-cons Inner c (first_line cs) e h)

tail_ends : (text : List ℕ) → EndsLine (line_tail text)
tail_ends [] = inl refl
tail_ends (c ∷ cs) = go (is_line_end c) refl (tail_ends cs)
  where
    go : (b : Bool) → is_line_end c ≡ b → EndsLine (line_tail cs) → EndsLine (line_tail (c ∷ cs))
    go true e h = rw e (inr (c, cs, refl, e))
    go false e h = rw e h

-- what has no line's end in it and stands before one
line_once : (l a r b : List ℕ) → l ++ a ≡ r ++ b → All Inner l → All Inner r → EndsLine a → EndsLine b → (l ≡ r) × (a ≡ b)
line_once [] a [] b e p q x y = (refl, e)
line_once [] a (r ∷ rs) b e p q x y =
    elim x [
      | inl n ↦ absurd (empty_apart r (rs ++ b) (sym n ∙ e))
      | inr z ↦
          let head : z.0 ≡ r = first_same z.0 r z.1 (rs ++ b) (sym z.2 ∙ e) in
          absurd (true≢false (sym z.3 ∙ ap is_line_end head ∙ All-head Inner r rs q))
    ]
  where
    empty_apart : (c : ℕ) (cs : List ℕ) → [] ≡ c ∷ cs → ⊥
    empty_apart c cs e = cc

    first_same : (c d : ℕ) (cs ds : List ℕ) → c ∷ cs ≡ d ∷ ds → c ≡ d
    first_same c d cs ds e = cc
line_once (l ∷ ls) a [] b e p q x y =
    elim y [
      | inl n ↦ absurd (empty_apart l (ls ++ a) (sym (e ∙ n)))
      | inr z ↦
          let head : l ≡ z.0 = first_same l z.0 (ls ++ a) z.1 (e ∙ z.2) in
          absurd (true≢false (sym z.3 ∙ ap is_line_end (sym head) ∙ All-head Inner l ls p))
    ]
  where
    empty_apart : (c : ℕ) (cs : List ℕ) → [] ≡ c ∷ cs → ⊥
    empty_apart c cs e = cc

    first_same : (c d : ℕ) (cs ds : List ℕ) → c ∷ cs ≡ d ∷ ds → c ≡ d
    first_same c d cs ds e = cc
line_once (l ∷ ls) a (r ∷ rs) b e p q x y =
    let head : l ≡ r = cc in
    let tail : ls ++ a ≡ rs ++ b = cc in
    let rest = line_once ls a rs b tail (All-tail Inner l ls p) (All-tail Inner r rs q) x y in
    (ap₂ (λ (k : ℕ) (ks : List ℕ). k ∷ ks) head rest.0, rest.1)

-- ---- how far the text was read

-- the rest of the text begins a line, at this byte
pub record Reached (bytes : List ℕ) (at : ℕ) (rest : List ℕ) : Type 0 where
  pub before : List ℕ
  pub is : bytes ≡ before ++ rest
  pub at_is : length before ≡ at
  pub begins : BeginsLine before rest

-- at first
pub reached-start : (bytes : List ℕ) → Reached bytes 0 bytes
reached-start bytes = record { before = []; is = refl; at_is = refl; begins = inl refl }

-- a line stands there
pub line_here : (bytes : List ℕ) (at : ℕ) (rest : List ℕ) → Reached bytes at rest → IsLineAt bytes at (first_line rest)
line_here bytes at rest r = record {
  before = r.before;
  after = line_tail rest;
  is = r.is ∙ ap (λ (t : List ℕ). r.before ++ t) (first_and_tail rest) ∙ sym (append_assoc r.before (first_line rest) (line_tail rest));
  at_is = r.at_is;
  whole = first_whole rest;
  begins = subst (BeginsLine r.before) (first_and_tail rest) r.begins;
  ends = tail_ends rest;
}

-- ---- the next line

-- a line's end: what it is, and that what follows begins a line
record Passed (tail more : List ℕ) : Type 0 where
  front : List ℕ
  last : ℕ
  is : tail ≡ (front ++ last ∷ []) ++ more
  begins : (before : List ℕ) → BeginsLine (before ++ (front ++ last ∷ [])) more

ends_with : (before front : List ℕ) (last : ℕ) → before ++ (front ++ last ∷ []) ≡ (before ++ front) ++ last ∷ []
ends_with before front last = sym (append_assoc before front (last ∷ []))

feed_passed : (front more : List ℕ) → Passed (front ++ 10 ∷ more) more
feed_passed front more = record {
  front = front;
  last = 10;
  is = sym (append_assoc front (10 ∷ []) more);
  begins = λ before. inr (inl (before ++ front, ends_with before front 10));
}

return_passed : (more : List ℕ) → ((rest : List ℕ) → more ≢ 10 ∷ rest) → Passed (13 ∷ more) more
return_passed more n = record {
  front = [];
  last = 13;
  is = refl;
  begins = λ before. inr (inr (before, refl, n));
}

after_return : (cs : List ℕ) → Passed (13 ∷ cs) (past_feed cs)
after_return [] = return_passed [] (λ rest e. cc)
after_return (c ∷ cs) = go (c == 10) refl
  where
    go : (b : Bool) → (c == 10) ≡ b → Passed (13 ∷ c ∷ cs) (past_feed (c ∷ cs))
    go true e = rw (e, eqb-true c 10 e) (feed_passed (13 ∷ []) cs)
    go false e = rw e (return_passed (c ∷ cs) (λ rest s. let head : c ≡ 10 = cc in eqb-false c 10 e head))

end_passed : (tail more : List ℕ) → EndsLine tail → past_line_end tail ≡ Some more → Passed tail more
end_passed [] more x e = absurd (none-some more e)
end_passed (c ∷ cs) more x e =
    elim (took (c == 13) (Some (past_feed cs)) (Some cs) (Some more) e) [
      | inl p ↦ subst (Passed (c ∷ cs)) (same_Some (past_feed cs) more p.1) (subst (λ (z : ℕ). Passed (z ∷ cs) (past_feed cs)) (sym (eqb-true c 13 p.0)) (after_return cs))
      | inr p ↦
          let feed : c ≡ 10 = is_feed c p.0 (ends_of c cs x) in
          subst (Passed (c ∷ cs)) (same_Some cs more p.1) (subst (λ (z : ℕ). Passed (z ∷ cs) cs) (sym feed) (feed_passed [] cs))
    ]
  where
    ends_of : (c : ℕ) (cs : List ℕ) → EndsLine (c ∷ cs) → is_line_end c ≡ true
    ends_of c cs x = elim x [ inl n ↦ absurd (cc) | inr z ↦ let head : c ≡ z.0 = first_same c z.0 cs z.1 z.2 in ap is_line_end head ∙ z.3 ]
      where
        first_same : (c d : ℕ) (cs ds : List ℕ) → c ∷ cs ≡ d ∷ ds → c ≡ d
        first_same c d cs ds e = cc

    is_feed : (c : ℕ) → (c == 13) ≡ false → is_line_end c ≡ true → c ≡ 10
    is_feed c n e = elim (or_cases (c == 10) (c == 13) e) [ inl p ↦ eqb-true c 10 p | inr p ↦ absurd (true≢false (sym p ∙ n)) ]

-- what follows a line and its end begins a line
pub reached-next : (bytes : List ℕ) (at : ℕ) (rest more : List ℕ) → Reached bytes at rest → after_line rest ≡ Some more → Reached bytes (length bytes - length more) more
reached-next bytes at rest more r e =
    let p = end_passed (line_tail rest) more (tail_ends rest) e in
    let front : List ℕ = r.before ++ first_line rest in
    let before : List ℕ = front ++ (p.front ++ p.last ∷ []) in
    let is : bytes ≡ before ++ more = shape bytes r.before rest (first_line rest) (line_tail rest) (p.front ++ p.last ∷ []) more r.is (first_and_tail rest) p.is in
    let sizes : length bytes ≡ length before + length more = ap length is ∙ length-append before more in
    record { before = before; is = is; at_is = omega (arith, sizes); begins = p.begins front }
  where
    shape : (bytes before rest first tail end more : List ℕ) → bytes ≡ before ++ rest → rest ≡ first ++ tail → tail ≡ end ++ more → bytes ≡ ((before ++ first) ++ end) ++ more
    shape bytes before rest first tail end more a b c = rw (a, b, c) (simp append_assoc)

-- ---- no line is left out

record Behind (front rest whole after : List ℕ) : Type 0 where
  middle : List ℕ
  is : whole ≡ front ++ middle
  rest_is : rest ≡ middle ++ after

behind : (front rest whole after : List ℕ) → front ++ rest ≡ whole ++ after → length front ≤ length whole → Behind front rest whole after
behind [] rest whole after e l = record { middle = whole; is = refl; rest_is = e }
behind (x ∷ xs) rest [] after e l = absurd (omega arith)
behind (x ∷ xs) rest (y ∷ ys) after e l =
    let head : x ≡ y = cc in
    let tail : xs ++ rest ≡ ys ++ after = cc in
    let b = behind xs rest ys after tail (omega arith) in
    record { middle = b.middle; is = ap₂ (λ (k : ℕ) (ks : List ℕ). k ∷ ks) (sym head) b.is; rest_is = b.rest_is }

-- the last byte of what stands behind
last_behind : (front middle before : List ℕ) (c : ℕ) → middle ≢ [] → front ++ middle ≡ before ++ c ∷ [] → (m : List ℕ) × (middle ≡ m ++ c ∷ [])
last_behind [] middle before c n e = (before, e)
last_behind (x ∷ xs) middle [] c n e = absurd (too_long xs middle n cc)
  where
    too_long : (xs middle : List ℕ) → middle ≢ [] → xs ++ middle ≡ [] → ⊥
    too_long [] middle n e = n e
    too_long (y ∷ ys) middle n e = cc
last_behind (x ∷ xs) middle (y ∷ ys) c n e = let tail : xs ++ middle ≡ ys ++ c ∷ [] = cc in last_behind xs middle ys c n tail

record Reach (first tail m : List ℕ) (c : ℕ) (y : List ℕ) : Type 0 where
  front : List ℕ
  is : m ++ c ∷ [] ≡ first ++ front
  tail_is : tail ≡ front ++ y

-- a line's end that stands in a text stands behind its first line
reach : (first tail m : List ℕ) (c : ℕ) (y : List ℕ) → first ++ tail ≡ m ++ c ∷ y → All Inner first → is_line_end c ≡ true → Reach first tail m c y
reach [] tail m c y e a t = record { front = m ++ c ∷ []; is = refl; tail_is = e ∙ sym (append_assoc m (c ∷ []) y) }
reach (x ∷ xs) tail [] c y e a t =
    let head : x ≡ c = cc in
    absurd (true≢false (sym t ∙ ap is_line_end (sym head) ∙ All-head Inner x xs a))
reach (x ∷ xs) tail (z ∷ zs) c y e a t =
    let head : x ≡ z = cc in
    let rest : xs ++ tail ≡ zs ++ c ∷ y = cc in
    let r = reach xs tail zs c y rest (All-tail Inner x xs a) t in
    record { front = r.front; is = ap₂ (λ (k : ℕ) (ks : List ℕ). k ∷ ks) (sym head) r.is; tail_is = r.tail_is }

-- what follows a line's end is no longer than what follows its first byte, and leaves out the LF of
-- CR LF
abbrev NoLonger : List ℕ → List ℕ → Type 0
NoLonger tail y = (more : List ℕ) × (past_line_end tail ≡ Some more) × (length y ≤ length more)

longer : (g y : List ℕ) → length y ≤ length (g ++ y)
longer g y = let h = length-append g y in omega (arith, h)

behind_return : (g y : List ℕ) → (g ≡ [] → (rest : List ℕ) → y ≢ 10 ∷ rest) → length y ≤ length (past_feed (g ++ y))
behind_return [] [] n = omega arith
behind_return [] (d ∷ ds) n = go (d == 10) refl
  where
    go : (b : Bool) → (d == 10) ≡ b → length (d ∷ ds) ≤ length (past_feed (d ∷ ds))
    go true e = absurd (n refl ds (ap (λ (z : ℕ). z ∷ ds) (eqb-true d 10 e)))
    go false e = rw e (omega arith)
behind_return (d ∷ ds) y n = go (d == 10) refl
  where
    go : (b : Bool) → (d == 10) ≡ b → length y ≤ length (past_feed (d ∷ (ds ++ y)))
    go true e = rw e (longer ds y)
    go false e = let h = longer ds y in rw e (omega (arith, h))

no_longer : (d : ℕ) (g y : List ℕ) → (d ≡ 13 → g ≡ [] → (rest : List ℕ) → y ≢ 10 ∷ rest) → NoLonger (d ∷ (g ++ y)) y
no_longer d g y n = go (d == 13) refl
  where
    go : (b : Bool) → (d == 13) ≡ b → NoLonger (d ∷ (g ++ y)) y
    go true e = (past_feed (g ++ y), rw e refl, behind_return g y (n (eqb-true d 13 e)))
    go false e = (g ++ y, rw e refl, longer g y)

passed_over : (first tail m : List ℕ) (c : ℕ) (y : List ℕ) → first ++ tail ≡ m ++ c ∷ y → All Inner first → is_line_end c ≡ true → (c ≡ 13 → (rest : List ℕ) → y ≢ 10 ∷ rest) → NoLonger tail y
passed_over first tail m c y e a t n =
    let r = reach first tail m c y e a t in
    go r.front r.is r.tail_is
  where
    too_short : (m first : List ℕ) (c : ℕ) → All Inner first → is_line_end c ≡ true → m ++ c ∷ [] ≡ first ++ [] → ⊥
    too_short m [] c a t e = absurd (no_end m c e)
      where
        no_end : (m : List ℕ) (c : ℕ) → m ++ c ∷ [] ≡ [] → ⊥
        no_end [] c e = cc
        no_end (x ∷ xs) c e = cc
    too_short [] (x ∷ xs) c a t e = let head : c ≡ x = cc in true≢false (sym t ∙ ap is_line_end head ∙ All-head Inner x xs a)
    too_short (z ∷ zs) (x ∷ xs) c a t e = let tail : zs ++ c ∷ [] ≡ xs ++ [] = cc in too_short zs xs c (All-tail Inner x xs a) t tail

    go : (front : List ℕ) → m ++ c ∷ [] ≡ first ++ front → tail ≡ front ++ y → NoLonger tail y
    go [] i s = absurd (too_short m first c a t i)
    go (d ∷ ds) i s =
        subst (λ (z : List ℕ). NoLonger z y) (sym s)
        (no_longer d ds y (λ (p : d ≡ 13) (q : ds ≡ []). n (same_last p q)))
      where
        same_last : d ≡ 13 → ds ≡ [] → c ≡ 13
        same_last p q = (same_from_push m first c d (i ∙ ap (λ (z : List ℕ). first ++ d ∷ z) q)).1 ∙ p

-- a line that does not begin before this byte stands here, or does not begin before the next one
abbrev pub IsNext : (bytes rest : List ℕ) (at m : ℕ) (l : List ℕ) → Type 0
IsNext bytes rest at m l =
    ((m ≡ at) × (l ≡ first_line rest)) ⊎ ((more : List ℕ) × (after_line rest ≡ Some more) × (length bytes - length more ≤ m))

-- the parts of a line that stands behind what was read
record Later (bytes rest l : List ℕ) (m : ℕ) : Type 0 where
  middle : List ℕ
  after : List ℕ
  before : List ℕ
  rest_is : rest ≡ middle ++ (l ++ after)
  size : length bytes ≡ m + length (l ++ after)
  whole : All Inner l
  begins : BeginsLine (before ++ middle) (l ++ after)
  ends : EndsLine after

later : (bytes : List ℕ) (at : ℕ) (rest : List ℕ) (m : ℕ) (l : List ℕ) → Reached bytes at rest → IsLineAt bytes m l → at ≤ m → Later bytes rest l m
later bytes at rest m l r s k =
    let same : r.before ++ rest ≡ s.before ++ (l ++ s.after) = sym r.is ∙ s.is ∙ append_assoc s.before l s.after in
    let a = r.at_is in
    let b = s.at_is in
    let h = behind r.before rest s.before (l ++ s.after) same (omega (arith, a, b)) in
    let sizes : length bytes ≡ length s.before + length (l ++ s.after) = ap length (s.is ∙ append_assoc s.before l s.after) ∙ length-append s.before (l ++ s.after) in
    record {
      middle = h.middle;
      after = s.after;
      before = r.before;
      rest_is = h.rest_is;
      size = omega (arith, sizes, b);
      whole = s.whole;
      begins = subst (λ (t : List ℕ). BeginsLine t (l ++ s.after)) h.is s.begins;
      ends = s.ends;
    }

next_of : (bytes : List ℕ) (at : ℕ) (rest : List ℕ) (m : ℕ) (l y : List ℕ) → length bytes ≡ m + length y → NoLonger (line_tail rest) y → IsNext bytes rest at m l
next_of bytes at rest m l y s n =
    let short = n.2 in
    inr (n.0, n.1, omega (arith, s, short))

moved_on : (bytes : List ℕ) (at : ℕ) (rest : List ℕ) (m : ℕ) (l : List ℕ) (h : Later bytes rest l m) → h.middle ≢ [] → IsNext bytes rest at m l
moved_on bytes at rest m l h n =
    elim h.begins [
      | inl e ↦ absurd (too_long h.before h.middle n e)
      | inr x ↦ elim x [
        | inl f ↦
            let z = last_behind h.before h.middle f.0 10 n f.1 in
            next_of bytes at rest m l (l ++ h.after) h.size
            (passed_over (first_line rest) (line_tail rest) z.0 10 (l ++ h.after) (shape z.0 10 z.1) (first_whole rest) refl (λ (p : 10 ≡ 13) rest q. eqb-false 10 13 refl p))
        | inr f ↦
            let z = last_behind h.before h.middle f.0 13 n f.1 in
            next_of bytes at rest m l (l ++ h.after) h.size
            (passed_over (first_line rest) (line_tail rest) z.0 13 (l ++ h.after) (shape z.0 13 z.1) (first_whole rest) refl (λ (p : 13 ≡ 13). f.2))
      ]
    ]
  where
    too_long : (xs middle : List ℕ) → middle ≢ [] → xs ++ middle ≡ [] → ⊥
    too_long [] middle n e = n e
    too_long (y ∷ ys) middle n e = cc

    shape : (z : List ℕ) (c : ℕ) → h.middle ≡ z ++ c ∷ [] → first_line rest ++ line_tail rest ≡ z ++ c ∷ (l ++ h.after)
    shape z c e = sym (first_and_tail rest) ∙ h.rest_is ∙ ap (λ (t : List ℕ). t ++ (l ++ h.after)) e ∙ append_assoc z (c ∷ []) (l ++ h.after)

-- each line that does not begin before this byte is that here or a later one
pub next_line : (bytes : List ℕ) (at : ℕ) (rest : List ℕ) (m : ℕ) (l : List ℕ) → Reached bytes at rest → IsLineAt bytes m l → at ≤ m → IsNext bytes rest at m l
next_line bytes at rest m l r s k = go (later bytes at rest m l r s k)
  where
    here : (after : List ℕ) → rest ≡ l ++ after → length bytes ≡ m + length (l ++ after) → All Inner l → EndsLine after → IsNext bytes rest at m l
    here after e z w x =
        let once = line_once l after (first_line rest) (line_tail rest) (sym e ∙ first_and_tail rest) w (first_whole rest) x (tail_ends rest) in
        let sizes : length bytes ≡ at + length rest = ap length r.is ∙ length-append r.before rest ∙ ap (λ (n : ℕ). n + length rest) r.at_is in
        let same : length rest ≡ length (l ++ after) = ap length e in
        inl (omega (arith, sizes, same, z), once.0)

    by : (middle after before : List ℕ) (h : Later bytes rest l m) → h.middle ≡ middle → IsNext bytes rest at m l
    by [] after before h e = here h.after (h.rest_is ∙ ap (λ (t : List ℕ). t ++ (l ++ h.after)) e) h.size h.whole h.ends
    by (c ∷ cs) after before h e = moved_on bytes at rest m l h (λ n. some_apart c cs (sym e ∙ n))
      where
        some_apart : (c : ℕ) (cs : List ℕ) → c ∷ cs ≡ [] → ⊥
        some_apart c cs e = cc

    go : Later bytes rest l m → IsNext bytes rest at m l
    go h = by h.middle [] [] h refl

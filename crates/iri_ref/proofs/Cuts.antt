-- Where a text is cut at a mark: `before`, `after` and `from` against std's `split_once` and `find`, and
-- that the components make the text again.
use Rattle.std.proofs.Common.{◌≡◌, ◌≢◌, ℕ, ◌<◌, Bool, true, false, cond, eqb, List, [], ◌∷◌, ◌++◌, length, get_or, take, drop, Option, Some, None, suc, zero, refl, sym, ap, ◌∙◌, arith, rules, append_assoc, ◌&&◌, is_some, unwrap_or}
use denote.Ref.{Bor}
use Rattle.std.specs.Option.{MatchOption}
use Rattle.std.proofs.lemmas.Bool.{ne_eqb, eqb-true, and_parts}
use Rattle.std.proofs.lemmas.Str.Pattern.{IsSplitOnceResult, split_parts}
use Rattle.iri_ref.specs.Components.{before, after, from, with_mark, with_colon, has_authority, relative_part, hierarchy, components, recompose}
use Rattle.iri_ref.specs.Characters.{is_scheme}
use Rattle.iri_ref.specs.Resolution.{directory}

-- a text without the mark
pub no_mark : (c : ℕ) (bs : List ℕ) → ((i : ℕ) → i < length bs → get_or bs i 0 ≢ c) → (before c bs ≡ bs) × (after c bs ≡ None) × (from c bs ≡ [])
no_mark c [] h = (refl, refl, refl)
no_mark c (b ∷ bs) h =
    let differs : eqb b c ≡ false = ne_eqb b c (h 0 (omega arith)) in
    let rest : (before c bs ≡ bs) × (after c bs ≡ None) × (from c bs ≡ []) = no_mark c bs (λ i l. h (suc i) (omega arith)) in
    rw differs (ap (λ t. b ∷ t) rest.0, rest.1, rest.2)

same : (c : ℕ) → eqb c c ≡ true
same c = search rules

-- a text around its first mark
pub first_mark : (c : ℕ) (xs ys : List ℕ) → ((i : ℕ) → i < length xs → get_or xs i 0 ≢ c) → (before c (xs ++ c ∷ ys) ≡ xs) × (after c (xs ++ c ∷ ys) ≡ Some ys) × (from c (xs ++ c ∷ ys) ≡ c ∷ ys)
first_mark c [] ys h = rw (same c) (refl, refl, refl)
first_mark c (b ∷ bs) ys h =
    let differs : eqb b c ≡ false = ne_eqb b c (h 0 (omega arith)) in
    let rest : (before c (bs ++ c ∷ ys) ≡ bs) × (after c (bs ++ c ∷ ys) ≡ Some ys) × (from c (bs ++ c ∷ ys) ≡ c ∷ ys) = first_mark c bs ys (λ i l. h (suc i) (omega arith)) in
    rw differs (ap (λ t. b ∷ t) rest.0, rest.1, rest.2)

-- a text is what stands before the first c, and what stands from it on
before-from_step : (c b : ℕ) (bs : List ℕ) → before c bs ++ from c bs ≡ bs → (t : Bool) → eqb b c ≡ t → before c (b ∷ bs) ++ from c (b ∷ bs) ≡ b ∷ bs
before-from_step c b bs ih true e = rw e refl
before-from_step c b bs ih false e = rw e (ap (λ t. b ∷ t) ih)

-- what comes before a mark, and what begins with it, are the text
pub before-from : (c : ℕ) (bs : List ℕ) → before c bs ++ from c bs ≡ bs
before-from c [] = refl
before-from c (b ∷ bs) = before-from_step c b bs (before-from c bs) (eqb b c) refl

-- a text is what stands before the first c, that c, and what stands after it
before-after_step : (c b : ℕ) (bs : List ℕ) → before c bs ++ with_mark (c ∷ []) (after c bs) ≡ bs → (t : Bool) → eqb b c ≡ t → before c (b ∷ bs) ++ with_mark (c ∷ []) (after c (b ∷ bs)) ≡ b ∷ bs
before-after_step c b bs ih true e = rw e (ap (λ x. x ∷ bs) (sym (eqb-true b c e)))
before-after_step c b bs ih false e = rw e (ap (λ t. b ∷ t) ih)

-- what comes before a mark, the mark, and what comes after it, are the text
pub before-after : (c : ℕ) (bs : List ℕ) → before c bs ++ with_mark (c ∷ []) (after c bs) ≡ bs
before-after c [] = refl
before-after c (b ∷ bs) = before-after_step c b bs (before-after c bs) (eqb b c) refl

-- the authority after its mark, and the path, make the hierarchy
slashes : (a b : ℕ) (rest : List ℕ) (t : Bool) → (eqb a 47 && eqb b 47) ≡ t → with_mark (47 ∷ 47 ∷ []) (cond t (Some (before 47 rest)) None) ++ cond t (from 47 rest) (a ∷ b ∷ rest) ≡ a ∷ b ∷ rest
slashes a b rest true e =
    let both : (eqb a 47 ≡ true) × (eqb b 47 ≡ true) = and_parts (eqb a 47) (eqb b 47) e in
    rw (eqb-true a 47 both.0, eqb-true b 47 both.1) (ap (λ t. 47 ∷ 47 ∷ t) (before-from 47 rest))
slashes a b rest false e = refl

authority-path : (h : List ℕ) → with_mark (47 ∷ 47 ∷ []) (cond (has_authority h) (Some (before 47 (drop 2 h))) None) ++ cond (has_authority h) (from 47 (drop 2 h)) h ≡ h
authority-path [] = refl
authority-path (a ∷ []) = refl
authority-path (a ∷ b ∷ rest) = slashes a b rest (eqb a 47 && eqb b 47) refl

-- the scheme and its colon, and the rest, make the text
colon : (text : List ℕ) (o : Option (List ℕ)) (s : Bool) → before 58 text ++ with_mark (58 ∷ []) o ≡ text → with_colon (cond (is_some o && s) (Some (before 58 text)) None) ++ cond (is_some o && s) (unwrap_or o []) text ≡ text
colon text None s e = refl
colon text (Some rest) true e = append_assoc (before 58 text) (58 ∷ []) rest ∙ e
colon text (Some rest) false e = refl

glue : (s a p q f h m r t : List ℕ) → a ++ p ≡ h → h ++ q ≡ m → m ++ f ≡ r → s ++ r ≡ t → s ++ a ++ p ++ q ++ f ≡ t
glue s a p q f h m r t x y z w = cc (append_assoc s a p, append_assoc s h q, append_assoc s m f)

-- the components of a text make it again
pub recompose-components : (text : List ℕ) → recompose (components text) ≡ text
unfolding recompose components
recompose-components text =
    let rest : List ℕ = relative_part text in
    glue _ _ _ _ _ (hierarchy rest) (before 35 rest) rest text
    (authority-path (hierarchy rest)) (before-after 63 (before 35 rest)) (before-after 35 rest)
    (colon text (after 58 text) (is_scheme (before 58 text)) (before-after 58 text))

-- what `split_once` at an ASCII mark gives
pub once_parts : (c : ℕ) (bs : List ℕ) (r : Option (Bor (List ℕ) × Bor (List ℕ))) → IsSplitOnceResult c bs r → c < 128 → MatchOption r ((before c bs ≡ bs) × (after c bs ≡ None)) (λ x. (before c bs ≡ x.0.now) × (after c bs ≡ Some x.1.now))
once_parts c bs None e small = let none : (i : ℕ) → i < length bs → get_or bs i 0 ≢ c = split_parts c bs None e small in ((no_mark c bs none).0, (no_mark c bs none).1)
once_parts c bs (Some x) e small =
    let parts : (bs ≡ x.0.now ++ (c ∷ x.1.now)) × ((i : ℕ) → i < length x.0.now → get_or x.0.now i 0 ≢ c) = split_parts c bs (Some x) e small in
    rw parts.0 ((first_mark c x.0.now x.1.now parts.1).0, (first_mark c x.0.now x.1.now parts.1).1)

-- what `find` of an ASCII mark gives
pub found_parts : (c : ℕ) (bs : List ℕ) (k : ℕ) → (k < length bs) × (get_or bs k 0 ≡ c) × ((i : ℕ) → i < k → get_or bs i 0 ≢ c) → (before c bs ≡ take k bs) × (from c bs ≡ drop k bs)
found_parts c [] k e = absurd (omega (arith, e.0))
found_parts c (b ∷ bs) zero e = let there : eqb b c ≡ true = rw e.1 (same c) in rw there (refl, refl)
found_parts c (b ∷ bs) (suc k) e =
    let differs : eqb b c ≡ false = ne_eqb b c (e.2 0 (omega arith)) in
    let rest : (before c bs ≡ take k bs) × (from c bs ≡ drop k bs) = found_parts c bs k (omega (arith, e.0), e.1, λ i l. e.2 (suc i) (omega arith)) in
    rw differs (ap (λ t. b ∷ t) rest.0, rest.1)

-- whether a text begins with two slashes
pub no_slash : (bs : List ℕ) → ((rest : List ℕ) → bs ≢ 47 ∷ rest) → has_authority bs ≡ false
no_slash [] h = refl
no_slash (a ∷ []) h = refl
no_slash (a ∷ b ∷ rest) h = let differs : eqb a 47 ≡ false = ne_eqb a 47 (λ e. h (b ∷ rest) (ap (λ x. x ∷ b ∷ rest) e)) in rw differs refl

one_slash_then : (once : List ℕ) → ((rest : List ℕ) → once ≢ 47 ∷ rest) → has_authority (47 ∷ once) ≡ false
one_slash_then [] h = refl
one_slash_then (b ∷ rest) h = let differs : eqb b 47 ≡ false = ne_eqb b 47 (λ e. h rest (ap (λ x. x ∷ rest) e)) in rw differs refl

-- a text with one slash at its front has no authority
pub one_slash : (bs once : List ℕ) → bs ≡ 47 ∷ once → ((rest : List ℕ) → once ≢ 47 ∷ rest) → has_authority bs ≡ false
one_slash bs once e h = rw e (one_slash_then once h)

-- and one with two has
pub two_slashes : (bs once rest : List ℕ) → bs ≡ 47 ∷ once → once ≡ 47 ∷ rest → (has_authority bs ≡ true) × (rest ≡ drop 2 bs)
two_slashes bs once rest e f = rw (e, f) (refl, refl)

-- what `strip_prefix` of a slash, twice, says of two slashes
pub stripped : (bs once : List ℕ) (r : Option (Bor (List ℕ))) → bs ≡ 47 ∷ once → MatchOption r ((rest : List ℕ) → once ≢ 47 ∷ rest) (λ x. once ≡ 47 ∷ x.now) → MatchOption r (has_authority bs ≡ false) (λ x. (has_authority bs ≡ true) × (x.now ≡ drop 2 bs))
stripped bs once None e h = one_slash bs once e h
stripped bs once (Some x) e h = two_slashes bs once x.now e h

-- a slash in the rest is one in the whole
pub after_step : (b : ℕ) (bs : List ℕ) → is_some (after 47 bs) ≡ true → (t : Bool) → eqb b 47 ≡ t → is_some (after 47 (b ∷ bs)) ≡ true
after_step b bs ih true e = rw e refl
after_step b bs ih false e = rw e ih

-- where a slash stands, there is a text after it
has_after : (bs : List ℕ) (k : ℕ) → k < length bs → get_or bs k 0 ≡ 47 → is_some (after 47 bs) ≡ true
has_after [] k l e = absurd (omega (arith, l))
has_after (b ∷ bs) zero l e = let there : eqb b 47 ≡ true = rw e refl in rw there refl
has_after (b ∷ bs) (suc k) l e = after_step b bs (has_after bs k (omega (arith, l)) e) (eqb b 47) refl

-- the path up to its last slash, by `rfind`: none
pub directory_none : (bs : List ℕ) → ((i : ℕ) → i < length bs → get_or bs i 0 ≢ 47) → directory bs ≡ []
directory_none [] h = refl
directory_none (b ∷ bs) h =
    let none : after 47 (b ∷ bs) ≡ None = (no_mark 47 (b ∷ bs) h).1 in
    let no : is_some (after 47 (b ∷ bs)) ≡ false = ap is_some none in
    rw no refl

-- and where it stands
pub directory_at : (bs : List ℕ) (k : ℕ) → k < length bs → get_or bs k 0 ≡ 47 → ((i : ℕ) → k < i → i < length bs → get_or bs i 0 ≢ 47) → directory bs ≡ take (suc k) bs
directory_at [] k l e h = absurd (omega (arith, l))
directory_at (b ∷ bs) zero l e h =
    let some : is_some (after 47 (b ∷ bs)) ≡ true = has_after (b ∷ bs) zero l e in
    rw some (ap (λ t. b ∷ t) (directory_none bs (λ i m. h (suc i) (omega arith) (omega arith))))
directory_at (b ∷ bs) (suc k) l e h =
    let some : is_some (after 47 (b ∷ bs)) ≡ true = has_after (b ∷ bs) (suc k) l e in
    rw some (ap (λ t. b ∷ t) (directory_at bs k (omega (arith, l)) e (λ i m n. h (suc i) (omega arith) (omega arith))))

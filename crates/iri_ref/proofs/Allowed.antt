-- A resolution is an absolute IRI: it has a scheme, and no byte of it is forbidden.
use Rattle.std.proofs.Common.{◌≡◌, ◌≢◌, ◌∙◌, ℕ, ◌+◌, ◌<◌, Bool, true, false, cond, eqb, ◌&&◌, List, [], ◌∷◌, ◌++◌, length, get_or, Option, Some, None, suc, zero, is_some, unwrap_or, refl, sym, ap, arith, append_assoc}
use Rattle.std.specs.List.{list_all, position_from}
use Rattle.std.proofs.lemmas.Bool.{and_parts, and_from}
use Rattle.std.proofs.lemmas.Iterator.Adapters.{position_from-zero}
use Rattle.iri_ref.specs.Characters.{first_forbidden, is_forbidden, is_scheme, is_scheme_character}
use Rattle.iri_ref.specs.Components.{Components, IsAbsolute, before, after, from, components, has_scheme, recompose, with_colon, with_mark}
use Rattle.iri_ref.specs.Resolution.{directory, is_dot, is_dot_dot, is_empty, merge, remove_dot_segments, resolution, target, target_path}
use Rattle.iri_ref.specs.Buffers.{Removes, next_input, next_output, without_last, is_dots}
use Rattle.iri_ref.specs.Buffers.Removes.{ends, turns}
use Rattle.iri_ref.proofs.Cuts.{before-after, before-from, first_mark, recompose-components}
use Rattle.iri_ref.proofs.Loop.{removes}

-- ---- bytes that a test refuses

-- no byte passes the test
abbrev pub Avoids : (ℕ → Bool) → List ℕ → Type 0
Avoids p [] = Unit {0}
Avoids p (b ∷ bs) = (p b ≡ false) × Avoids p bs

join : (p : ℕ → Bool) (xs ys : List ℕ) → Avoids p xs → Avoids p ys → Avoids p (xs ++ ys)
join p [] ys f g = g
join p (x ∷ xs) ys f g = (f.0, join p xs ys f.1 g)

left : (p : ℕ → Bool) (xs ys : List ℕ) → Avoids p (xs ++ ys) → Avoids p xs
left p [] ys f = tt
left p (x ∷ xs) ys f = (f.0, left p xs ys f.1)

right : (p : ℕ → Bool) (xs ys : List ℕ) → Avoids p (xs ++ ys) → Avoids p ys
right p [] ys f = f
right p (x ∷ xs) ys f = right p xs ys f.1

along : (p : ℕ → Bool) (xs ys : List ℕ) → xs ≡ ys → Avoids p xs → Avoids p ys
along p xs ys e f = rw (sym e) f

-- none passes where the search for one finds none, and the other way round
none_step : (p : ℕ → Bool) (i b : ℕ) (bs : List ℕ) → (position_from p (i + 1) bs ≡ None → Avoids p bs) → (t : Bool) → p b ≡ t → cond t (Some i) (position_from p (i + 1) bs) ≡ None → (p b ≡ false) × Avoids p bs
none_step p i b bs ih true e h = absurd (cc)
none_step p i b bs ih false e h = (e, ih h)

none_avoids : (p : ℕ → Bool) (i : ℕ) (bs : List ℕ) → position_from p i bs ≡ None → Avoids p bs
none_avoids p i [] e = tt
none_avoids p i (b ∷ bs) e = none_step p i b bs (none_avoids p (i + 1) bs) (p b) refl e

avoids_none : (p : ℕ → Bool) (i : ℕ) (bs : List ℕ) → Avoids p bs → position_from p i bs ≡ None
avoids_none p i [] f = refl
avoids_none p i (b ∷ bs) f = rw f.0 (avoids_none p (i + 1) bs f.1)

-- ---- texts without a forbidden byte

abbrev pub Clean : List ℕ → Type 0
Clean bs = Avoids is_forbidden bs

-- a text in which no forbidden character is found is clean
pub clean_of : (bs : List ℕ) → first_forbidden bs ≡ None → Clean bs
clean_of bs e = none_avoids is_forbidden 0 bs (sym (position_from-zero is_forbidden bs) ∙ e)

-- in a clean text no forbidden character is found
pub allowed_of : (bs : List ℕ) → Clean bs → first_forbidden bs ≡ None
allowed_of bs f = position_from-zero is_forbidden bs ∙ avoids_none is_forbidden 0 bs f

-- ---- parts of such a text

before_clean : (c : ℕ) (bs : List ℕ) → Clean bs → Clean (before c bs)
before_clean c bs f = left is_forbidden (before c bs) (from c bs) (along is_forbidden bs (before c bs ++ from c bs) (sym (before-from c bs)) f)

from_clean : (c : ℕ) (bs : List ℕ) → Clean bs → Clean (from c bs)
from_clean c bs f = right is_forbidden (before c bs) (from c bs) (along is_forbidden bs (before c bs ++ from c bs) (sym (before-from c bs)) f)

unmarked : (c : ℕ) (o : Option (List ℕ)) → Clean (with_mark (c ∷ []) o) → Clean (unwrap_or o [])
unmarked c None f = tt
unmarked c (Some t) f = f.1

after_clean : (c : ℕ) (bs : List ℕ) → Clean bs → Clean (unwrap_or (after c bs) [])
after_clean c bs f = unmarked c (after c bs) (right is_forbidden (before c bs) (with_mark (c ∷ []) (after c bs)) (along is_forbidden bs (before c bs ++ with_mark (c ∷ []) (after c bs)) (sym (before-after c bs)) f))

pick : (t : Bool) (xs ys : List ℕ) → Clean xs → Clean ys → Clean (cond t xs ys)
pick true xs ys f g = f
pick false xs ys f g = g

directory_clean : (bs : List ℕ) → Clean bs → Clean (directory bs)
directory_clean [] f = tt
directory_clean (b ∷ bs) f = pick (is_some (after 47 (b ∷ bs))) (b ∷ directory bs) [] (f.0, directory_clean bs f.1) tt

without_last_clean : (bs : List ℕ) → Clean bs → Clean (without_last bs)
without_last_clean [] f = tt
without_last_clean (b ∷ bs) f = pick (is_some (after 47 bs)) (b ∷ without_last bs) [] (f.0, without_last_clean bs f.1) tt

-- ---- the removal of dot segments, by its loop

input_clean : (b : ℕ) (rest : List ℕ) → Clean (b ∷ rest) → Clean (next_input (b ∷ rest))
input_clean b rest f =
    pick (eqb b 47) _ _
    (pick (is_dots (before 47 rest)) (47 ∷ unwrap_or (after 47 rest) []) (from 47 rest) (refl, after_clean 47 rest f.1) (from_clean 47 rest f.1))
    (pick (is_dots (before 47 (b ∷ rest))) (unwrap_or (after 47 (b ∷ rest)) []) (from 47 (b ∷ rest)) (after_clean 47 (b ∷ rest) f) (from_clean 47 (b ∷ rest) f))

output_clean : (b : ℕ) (rest output : List ℕ) → Clean (b ∷ rest) → Clean output → Clean (next_output (b ∷ rest) output)
output_clean b rest output f g =
    pick (eqb b 47) _ _
    (pick (is_dot (before 47 rest)) output (cond (is_dot_dot (before 47 rest)) (without_last output) (output ++ 47 ∷ before 47 rest)) g (pick (is_dot_dot (before 47 rest)) (without_last output) (output ++ 47 ∷ before 47 rest) (without_last_clean output g) (join is_forbidden output (47 ∷ before 47 rest) g (refl, before_clean 47 rest f.1))))
    (pick (is_dots (before 47 (b ∷ rest))) output (output ++ before 47 (b ∷ rest)) g (join is_forbidden output (before 47 (b ∷ rest)) g (before_clean 47 (b ∷ rest) f)))

loop_clean : (i o r : List ℕ) → Removes i o r → Clean i → Clean o → Clean r
loop_clean _ _ _ (ends output) f g = g
loop_clean _ _ _ (turns b bs output result x) f g = loop_clean (next_input (b ∷ bs)) (next_output (b ∷ bs) output) result x (input_clean b bs f) (output_clean b bs output f g)

remove_clean : (path : List ℕ) → Clean path → Clean (remove_dot_segments path)
remove_clean path f = loop_clean path [] (remove_dot_segments path) (removes path) f tt

-- ---- components

record CleanParts (c : Components) : Type 0 where
  scheme : Clean (with_colon c.scheme)
  authority : Clean (with_mark (47 ∷ 47 ∷ []) c.authority)
  path : Clean c.path
  query : Clean (with_mark (63 ∷ []) c.query)
  fragment : Clean (with_mark (35 ∷ []) c.fragment)

clean_parts : (c : Components) → Clean (recompose c) → CleanParts c
unfolding recompose
clean_parts c f =
    let s : List ℕ = with_colon c.scheme in
    let a : List ℕ = with_mark (47 ∷ 47 ∷ []) c.authority in
    let q : List ℕ = with_mark (63 ∷ []) c.query in
    let r : List ℕ = with_mark (35 ∷ []) c.fragment in
    let saxq : Clean (s ++ a ++ c.path ++ q) = left is_forbidden (s ++ a ++ c.path ++ q) r f in
    let sax : Clean (s ++ a ++ c.path) = left is_forbidden (s ++ a ++ c.path) q saxq in
    let sa : Clean (s ++ a) = left is_forbidden (s ++ a) c.path sax in
    record { scheme = left is_forbidden s a sa; authority = right is_forbidden s a sa; path = right is_forbidden (s ++ a) c.path sax; query = right is_forbidden (s ++ a ++ c.path) q saxq; fragment = right is_forbidden (s ++ a ++ c.path ++ q) r f }

clean_whole : (c : Components) → CleanParts c → Clean (recompose c)
unfolding recompose
clean_whole c f =
    let s : List ℕ = with_colon c.scheme in
    let a : List ℕ = with_mark (47 ∷ 47 ∷ []) c.authority in
    let q : List ℕ = with_mark (63 ∷ []) c.query in
    let r : List ℕ = with_mark (35 ∷ []) c.fragment in
    join is_forbidden (s ++ a ++ c.path ++ q) r (join is_forbidden (s ++ a ++ c.path) q (join is_forbidden (s ++ a) c.path (join is_forbidden s a f.scheme f.authority) f.path) f.query) f.fragment

pick_parts : (t : Bool) (x y : Components) → CleanParts x → CleanParts y → CleanParts (cond t x y)
pick_parts true x y f g = f
pick_parts false x y f g = g

merge_clean : (base : Components) (path : List ℕ) → Clean base.path → Clean path → Clean (merge base path)
unfolding merge
merge_clean base path f g = pick _ (47 ∷ path) (directory base.path ++ path) (refl, g) (join is_forbidden (directory base.path) path (directory_clean base.path f) g)

path_clean : (base r : Components) → Clean base.path → Clean r.path → Clean (target_path base r)
unfolding target_path
path_clean base r f g = pick _ (remove_dot_segments r.path) _ (remove_clean r.path g) (pick (is_empty r.path) base.path (remove_dot_segments (merge base r.path)) f (remove_clean (merge base r.path) (merge_clean base r.path f g)))

target_clean : (base r : Components) → CleanParts base → CleanParts r → CleanParts (target base r)
unfolding target
target_clean base r f g =
    let path : Clean (target_path base r) = path_clean base r f.path g.path in
    pick_parts (is_some r.scheme) _ _ record { scheme = g.scheme; authority = g.authority; path = path; query = g.query; fragment = g.fragment }
    (pick_parts (is_some r.authority) _ _ record { scheme = f.scheme; authority = g.authority; path = path; query = g.query; fragment = g.fragment }
    (pick_parts _ _ _ record { scheme = f.scheme; authority = f.authority; path = path; query = f.query; fragment = g.fragment } record { scheme = f.scheme; authority = f.authority; path = path; query = g.query; fragment = g.fragment }))

-- ---- schemes

-- a scheme that is there is one by its grammar
abbrev FineScheme : Option (List ℕ) → Type 0
FineScheme None = Unit {0}
FineScheme (Some s) = is_scheme s ≡ true

fine_if : (t u : Bool) (s : List ℕ) → (t && u) ≡ true → u ≡ is_scheme s → FineScheme (cond (t && u) (Some s) None)
fine_if true true s e h = sym h
fine_if true false s e h = absurd (cc)
fine_if false u s e h = absurd (cc)

fine_scheme : (text : List ℕ) (t : Bool) → has_scheme text ≡ t → FineScheme (cond t (Some (before 58 text)) None)
fine_scheme text true e = (and_parts (is_some (after 58 text)) (is_scheme (before 58 text)) e).1
fine_scheme text false e = tt

components_fine : (text : List ℕ) → FineScheme (components text).scheme
unfolding components
components_fine text = fine_scheme text (has_scheme text) refl

components_schemed : (text : List ℕ) → has_scheme text ≡ true → is_some (components text).scheme ≡ true
unfolding components
components_schemed text e = rw e refl

record HasScheme (c : Components) : Type 0 where
  fine : FineScheme c.scheme
  there : is_some c.scheme ≡ true

pick_schemed : (t : Bool) (x y : Components) → HasScheme x → HasScheme y → HasScheme (cond t x y)
pick_schemed true x y f g = f
pick_schemed false x y f g = g

target_schemed_step : (base r a b : Components) (t : Bool) → is_some r.scheme ≡ t → FineScheme r.scheme → a.scheme ≡ r.scheme → HasScheme b → HasScheme (cond t a b)
target_schemed_step base r a b true e f s g = record { fine = rw s f; there = rw s e }
target_schemed_step base r a b false e f s g = g

target_schemed : (base r : Components) → HasScheme base → FineScheme r.scheme → HasScheme (target base r)
unfolding target
target_schemed base r h f =
    target_schemed_step base r _ _ (is_some r.scheme) refl f refl
    (pick_schemed (is_some r.authority) _ _ record { fine = h.fine; there = h.there } (pick_schemed _ _ _ record { fine = h.fine; there = h.there } record { fine = h.fine; there = h.there }))

no_colon : (p : ℕ → Bool) (s : List ℕ) → p 58 ≡ false → list_all p s ≡ true → (i : ℕ) → i < length s → get_or s i 0 ≢ 58
no_colon p [] n h i l e = absurd (omega (arith, l))
no_colon p (b ∷ bs) n h zero l e = let there : p b ≡ true = (and_parts (p b) (list_all p bs) h).0 in let here : p b ≡ p 58 = ap p e in absurd (cc (there, here, n))
no_colon p (b ∷ bs) n h (suc i) l e = no_colon p bs n (and_parts (p b) (list_all p bs) h).1 i (omega (arith, l)) e

scheme_stands : (text s tail : List ℕ) → text ≡ s ++ 58 ∷ tail → is_scheme s ≡ true → has_scheme text ≡ true
scheme_stands text s tail e h =
    let all : list_all is_scheme_character s ≡ true = (and_parts _ (list_all is_scheme_character s) h).1 in
    let m : (before 58 (s ++ 58 ∷ tail) ≡ s) × (after 58 (s ++ 58 ∷ tail) ≡ Some tail) × (from 58 (s ++ 58 ∷ tail) ≡ 58 ∷ tail) = first_mark 58 s tail (no_colon is_scheme_character s refl all) in
    let found : is_some (after 58 text) ≡ true = ap is_some (ap (after 58) e ∙ m.1) in
    let good : is_scheme (before 58 text) ≡ true = ap is_scheme (ap (before 58) e ∙ m.0) ∙ h in
    and_from (is_some (after 58 text)) (is_scheme (before 58 text)) found good

at_colon : (s a x q f : List ℕ) → s ++ (58 ∷ []) ++ a ++ x ++ q ++ f ≡ s ++ 58 ∷ (a ++ x ++ q ++ f)
at_colon s a x q f = simp append_assoc refl

whole_scheme : (o : Option (List ℕ)) (a x q f : List ℕ) → FineScheme o → is_some o ≡ true → has_scheme (with_colon o ++ a ++ x ++ q ++ f) ≡ true
whole_scheme None a x q f h e = absurd (cc)
whole_scheme (Some s) a x q f h e = scheme_stands _ s (a ++ x ++ q ++ f) (at_colon s a x q f) h

recompose_scheme : (c : Components) → HasScheme c → has_scheme (recompose c) ≡ true
unfolding recompose
recompose_scheme c h = whole_scheme c.scheme (with_mark (47 ∷ 47 ∷ []) c.authority) c.path (with_mark (63 ∷ []) c.query) (with_mark (35 ∷ []) c.fragment) h.fine h.there

-- ---- the whole

text_parts : (text : List ℕ) → Clean text → CleanParts (components text)
text_parts text f = clean_parts (components text) (along is_forbidden text (recompose (components text)) (sym (recompose-components text)) f)

-- what a reference without forbidden characters means at an absolute base is an absolute IRI
pub resolution_absolute : (base reference iri : List ℕ) → iri ≡ resolution base reference → IsAbsolute base → first_forbidden reference ≡ None → IsAbsolute iri
resolution_absolute base reference iri e b r =
    let schemed : HasScheme (components base) = record { fine = components_fine base; there = components_schemed base b.0 } in
    let t : Components = target (components base) (components reference) in
    let clean : Clean (recompose t) = clean_whole t (target_clean (components base) (components reference) (text_parts base (clean_of base b.1)) (text_parts reference (clean_of reference r))) in
    rw e (recompose_scheme t (target_schemed (components base) (components reference) schemed (components_fine reference)), allowed_of (recompose t) clean)

-- The two views of the removal of dot segments give one text: the loop over buffers, and the walk over segments.
use Rattle.std.proofs.Common.{◌≡◌, ℕ, ◌+◌, ◌-◌, Bool, true, false, cond, eqb, ltb, ◌||◌, List, [], ◌∷◌, ◌++◌, length, Option, Some, None, is_some, unwrap_or, refl, sym, ap, subst, ◌∙◌, arith, append_assoc, length-append}
use Rattle.std.specs.List.{fold, flat_map}
use Rattle.std.proofs.lemmas.Bool.{lt-ltb, eqb-true}
use Rattle.std.proofs.lemmas.List.{append-nil}
use Rattle.std.proofs.Math.Seq.{take-append_seam}
use Rattle.iri_ref.specs.Components.{before, after, from}
use Rattle.iri_ref.proofs.Cuts.{after_step}
use Rattle.iri_ref.specs.Resolution.{with_end, enter, is_dot, is_dot_dot, path_of, remove_dot_segments, segments, up}
use Rattle.iri_ref.specs.Buffers.{Removes, next_input, next_output, without_last}
use Rattle.iri_ref.specs.Buffers.Removes.{ends, turns}

-- segments, each after a slash
abbrev pub rooted : List (List ℕ) → List ℕ
rooted ss = flat_map (λ s. 47 ∷ s) ss

-- what stands after the first slash of such
abbrev pub past : List (List ℕ) → Option (List ℕ)
past [] = None
past (s ∷ ss) = Some (s ++ rooted ss)

-- no segment holds a slash
abbrev pub Free : List (List ℕ) → Type 0
Free [] = Unit {0}
Free (s ∷ ss) = (after 47 s ≡ None) × Free ss

free_rest : (b : ℕ) (bs : List ℕ) (t : Bool) → eqb b 47 ≡ t → cond t (Some bs) (after 47 bs) ≡ None → (eqb b 47 ≡ false) × (after 47 bs ≡ None)
free_rest b bs true e h = absurd (cc)
free_rest b bs false e h = (e, h)

free_tail : (b : ℕ) (bs : List ℕ) → after 47 (b ∷ bs) ≡ None → (eqb b 47 ≡ false) × (after 47 bs ≡ None)
free_tail b bs h = free_rest b bs (eqb b 47) refl h

-- cutting a segment off
cuts : (s : List ℕ) (ss : List (List ℕ)) → after 47 s ≡ None → (before 47 (s ++ rooted ss) ≡ s) × (from 47 (s ++ rooted ss) ≡ rooted ss) × (after 47 (s ++ rooted ss) ≡ past ss)
cuts [] [] h = (refl, refl, refl)
cuts [] (t ∷ ts) h = (refl, refl, refl)
cuts (b ∷ bs) ss h =
    let f : (eqb b 47 ≡ false) × (after 47 bs ≡ None) = free_tail b bs h in
    let ih : (before 47 (bs ++ rooted ss) ≡ bs) × (from 47 (bs ++ rooted ss) ≡ rooted ss) × (after 47 (bs ++ rooted ss) ≡ past ss) = cuts bs ss f.1 in
    rw f.0 (ap (λ t. b ∷ t) ih.0, ih.1, ih.2)

-- the output without its last segment
has_slash : (t s : List ℕ) → is_some (after 47 (t ++ 47 ∷ s)) ≡ true
has_slash [] s = refl
has_slash (b ∷ bs) s = after_step b (bs ++ 47 ∷ s) (has_slash bs s) (eqb b 47) refl

without_pushed : (t s : List ℕ) → after 47 s ≡ None → without_last (t ++ 47 ∷ s) ≡ t
without_pushed [] s h = let none : is_some (after 47 s) ≡ false = ap is_some h in rw none refl
without_pushed (b ∷ bs) s h = let some : is_some (after 47 (bs ++ 47 ∷ s)) ≡ true = has_slash bs s in rw some (ap (λ t. b ∷ t) (without_pushed bs s h))

without_free : (s : List ℕ) → after 47 s ≡ None → without_last s ≡ []
without_free [] h = refl
without_free (b ∷ bs) h = let none : is_some (after 47 bs) ≡ false = ap is_some (free_tail b bs h).1 in rw none refl

-- lists of segments that grow at their end
rooted_push : (ks : List (List ℕ)) (s : List ℕ) → rooted (ks ++ s ∷ []) ≡ rooted ks ++ 47 ∷ s
rooted_push [] s = ap (λ t. 47 ∷ t) (append-nil s)
rooted_push (k ∷ ks) s = ap (λ t. 47 ∷ t) (ap (λ t. k ++ t) (rooted_push ks s) ∙ sym (append_assoc k (rooted ks) (47 ∷ s)))

path_of-push : (k : List ℕ) (ks : List (List ℕ)) (s : List ℕ) → path_of ((k ∷ ks) ++ s ∷ []) ≡ path_of (k ∷ ks) ++ 47 ∷ s
path_of-push k ks s = ap (λ t. k ++ t) (rooted_push ks s) ∙ sym (append_assoc k (rooted ks) (47 ∷ s))

up_push : (k : List ℕ) (ks : List (List ℕ)) (s : List ℕ) → up ((k ∷ ks) ++ s ∷ []) ≡ k ∷ ks
up_push k ks s =
    let long : length ((k ∷ ks) ++ s ∷ []) ≡ length (k ∷ ks) + 1 = length-append (k ∷ ks) (s ∷ []) in
    let more : ltb 1 (length ((k ∷ ks) ++ s ∷ [])) ≡ true = lt-ltb 1 (length ((k ∷ ks) ++ s ∷ [])) (omega arith) in
    let less : length ((k ∷ ks) ++ s ∷ []) - 1 ≡ length (k ∷ ks) = omega arith in
    rw (more, less) (take-append_seam (k ∷ ks) (s ∷ []))

-- a list by its end
data Ended : List (List ℕ) → Type 0 where
  lone : (k : List ℕ) → Ended (k ∷ [])
  pushed : (k : List ℕ) (ks : List (List ℕ)) (s : List ℕ) → Ended ((k ∷ ks) ++ s ∷ [])

ended_more : (j : List ℕ) (xs : List (List ℕ)) → Ended xs → Ended (j ∷ xs)
ended_more j _ (lone k) = pushed j [] k
ended_more j _ (pushed k ks s) = pushed j (k ∷ ks) s

ended : (k : List ℕ) (ks : List (List ℕ)) → Ended (k ∷ ks)
ended k [] = lone k
ended k (j ∷ js) = ended_more k (j ∷ js) (ended j js)

free_last : (ks : List (List ℕ)) (s : List ℕ) → Free (ks ++ s ∷ []) → Free ks × (after 47 s ≡ None)
free_last [] s h = (tt, h.0)
free_last (k ∷ ks) s h = let ih : Free ks × (after 47 s ≡ None) = free_last ks s h.1 in ((h.0, ih.0), ih.1)

free_push : (ks : List (List ℕ)) (s : List ℕ) → Free ks → after 47 s ≡ None → Free (ks ++ s ∷ [])
free_push [] s f h = (h, tt)
free_push (k ∷ ks) s f h = (f.0, free_push ks s f.1 h)

-- kept segments: some, and none with a slash
record Kept (xs : List (List ℕ)) : Type 0 where
  first : List ℕ
  others : List (List ℕ)
  is : xs ≡ first ∷ others
  free : Free xs

kept_cons : (k : List ℕ) (ks : List (List ℕ)) → Free (k ∷ ks) → Kept (k ∷ ks)
kept_cons k ks f = record { first = k; others = ks; is = refl; free = f }

went_up : (xs : List (List ℕ)) → Ended xs → Free xs → (without_last (path_of xs) ≡ path_of (up xs)) × Kept (up xs)
went_up _ (lone k) f = (ap without_last (append-nil k) ∙ without_free k f.0, kept_cons [] [] (refl, tt))
went_up _ (pushed k ks s) f =
    let parts : Free (k ∷ ks) × (after 47 s ≡ None) = free_last (k ∷ ks) s f in (
      ap without_last (path_of-push k ks s) ∙ (without_pushed (path_of (k ∷ ks)) s parts.1 ∙ ap path_of (sym (up_push k ks s))),
      let P : List (List ℕ) → Type 0 = λ xs. Kept xs in subst P (sym (up_push k ks s)) (kept_cons k ks parts.0),
    )

-- ---- a turn, at a slash

next_in : (s : List ℕ) (ss : List (List ℕ)) → after 47 s ≡ None → next_input (47 ∷ (s ++ rooted ss)) ≡ cond (is_dot s || is_dot_dot s) (47 ∷ unwrap_or (past ss) []) (rooted ss)
next_in s ss h =
    let c : (before 47 (s ++ rooted ss) ≡ s) × (from 47 (s ++ rooted ss) ≡ rooted ss) × (after 47 (s ++ rooted ss) ≡ past ss) = cuts s ss h in
    rw (c.0, c.1, c.2) refl

next_out : (s : List ℕ) (ss : List (List ℕ)) (output : List ℕ) → after 47 s ≡ None → next_output (47 ∷ (s ++ rooted ss)) output ≡ cond (is_dot s) output (cond (is_dot_dot s) (without_last output) (output ++ 47 ∷ s))
next_out s ss output h =
    let c : (before 47 (s ++ rooted ss) ≡ s) × (from 47 (s ++ rooted ss) ≡ rooted ss) × (after 47 (s ++ rooted ss) ≡ past ss) = cuts s ss h in
    rw c.0 refl

by_kind : (k : List ℕ) (ks : List (List ℕ)) (s : List ℕ) → Free (k ∷ ks) → after 47 s ≡ None → (d e : Bool) → (cond d (path_of (k ∷ ks)) (cond e (without_last (path_of (k ∷ ks))) (path_of (k ∷ ks) ++ 47 ∷ s)) ≡ path_of (cond d (k ∷ ks) (cond e (up (k ∷ ks)) ((k ∷ ks) ++ s ∷ [])))) × Kept (cond d (k ∷ ks) (cond e (up (k ∷ ks)) ((k ∷ ks) ++ s ∷ [])))
by_kind k ks s f h true e = (refl, kept_cons k ks f)
by_kind k ks s f h false true = went_up (k ∷ ks) (ended k ks) f
by_kind k ks s f h false false = (sym (path_of-push k ks s), kept_cons k (ks ++ s ∷ []) (f.0, free_push ks s f.1 h))

entered : (xs : List (List ℕ)) (s : List ℕ) → Kept xs → after 47 s ≡ None → (cond (is_dot s) (path_of xs) (cond (is_dot_dot s) (without_last (path_of xs)) (path_of xs ++ 47 ∷ s)) ≡ path_of (enter xs s)) × Kept (enter xs s)
entered xs s kept h =
    let P : List (List ℕ) → Type 0 = λ ys. (cond (is_dot s) (path_of ys) (cond (is_dot_dot s) (without_last (path_of ys)) (path_of ys ++ 47 ∷ s)) ≡ path_of (enter ys s)) × Kept (enter ys s) in
    let Q : List (List ℕ) → Type 0 = λ ys. Free ys in
    subst P (sym kept.is) (by_kind kept.first kept.others s (subst Q kept.is kept.free) h (is_dot s) (is_dot_dot s))

moved : (i j o p r : List ℕ) → i ≡ j → o ≡ p → Removes j p r → Removes i o r
moved i j o p r e f x =
    let P : List ℕ → Type 0 = λ y. Removes y p r in
    let Q : List ℕ → Type 0 = λ y. Removes i y r in
    subst Q (sym f) (subst P (sym e) x)

cond_both : (b : Bool) (x : List ℕ) → cond b x x ≡ x
cond_both true x = refl
cond_both false x = refl

slash : (ys : List (List ℕ)) → Kept ys → Removes (47 ∷ []) (path_of ys) (path_of (ys ++ [] ∷ []))
slash ys kept =
    let P : List (List ℕ) → Type 0 = λ zs. path_of (zs ++ [] ∷ []) ≡ path_of zs ++ 47 ∷ [] in
    let same : path_of (ys ++ [] ∷ []) ≡ path_of ys ++ 47 ∷ [] = subst P (sym kept.is) (path_of-push kept.first kept.others []) in
    rw same (turns 47 [] (path_of ys) (path_of ys ++ 47 ∷ []) (ends (path_of ys ++ 47 ∷ [])))

walk_last : (s : List ℕ) (xs : List (List ℕ)) → after 47 s ≡ None → Kept xs → (t : Bool) → (is_dot s || is_dot_dot s) ≡ t → Removes (47 ∷ (s ++ [])) (path_of xs) (path_of (fold enter xs (cond t (s ∷ [] ∷ []) (s ∷ []))))
walk_last s xs h kept true e =
    let en : (cond (is_dot s) (path_of xs) (cond (is_dot_dot s) (without_last (path_of xs)) (path_of xs ++ 47 ∷ s)) ≡ path_of (enter xs s)) × Kept (enter xs s) = entered xs s kept h in
    turns 47 (s ++ []) (path_of xs) _ (moved _ (47 ∷ []) _ (path_of (enter xs s)) _ (next_in s [] h ∙ ap (λ b. cond b (47 ∷ []) []) e) (next_out s [] (path_of xs) h ∙ en.0) (slash (enter xs s) en.1))
walk_last s xs h kept false e =
    let en : (cond (is_dot s) (path_of xs) (cond (is_dot_dot s) (without_last (path_of xs)) (path_of xs ++ 47 ∷ s)) ≡ path_of (enter xs s)) × Kept (enter xs s) = entered xs s kept h in
    turns 47 (s ++ []) (path_of xs) _ (moved _ [] _ (path_of (enter xs s)) _ (next_in s [] h ∙ ap (λ b. cond b (47 ∷ []) []) e) (next_out s [] (path_of xs) h ∙ en.0) (ends (path_of (enter xs s))))

walk : (ss xs : List (List ℕ)) → Free ss → Kept xs → Removes (rooted ss) (path_of xs) (path_of (fold enter xs (with_end ss)))
walk [] xs f kept = ends (path_of xs)
walk (s ∷ []) xs f kept = walk_last s xs f.0 kept (is_dot s || is_dot_dot s) refl
walk (s ∷ t ∷ ts) xs f kept =
    let en : (cond (is_dot s) (path_of xs) (cond (is_dot_dot s) (without_last (path_of xs)) (path_of xs ++ 47 ∷ s)) ≡ path_of (enter xs s)) × Kept (enter xs s) = entered xs s kept f.0 in
    turns 47 (s ++ rooted (t ∷ ts)) (path_of xs) _ (moved _ (rooted (t ∷ ts)) _ (path_of (enter xs s)) _ (next_in s (t ∷ ts) f.0 ∙ cond_both (is_dot s || is_dot_dot s) (rooted (t ∷ ts))) (next_out s (t ∷ ts) (path_of xs) f.0 ∙ en.0) (walk (t ∷ ts) (enter xs s) f.1 en.1))

-- ---- before the first slash

first_in : (b : ℕ) (bs : List ℕ) (ss : List (List ℕ)) → after 47 (b ∷ bs) ≡ None → next_input (b ∷ (bs ++ rooted ss)) ≡ cond (is_dot (b ∷ bs) || is_dot_dot (b ∷ bs)) (unwrap_or (past ss) []) (rooted ss)
first_in b bs ss h =
    let f : (eqb b 47 ≡ false) × (after 47 bs ≡ None) = free_tail b bs h in
    let c : (before 47 (bs ++ rooted ss) ≡ bs) × (from 47 (bs ++ rooted ss) ≡ rooted ss) × (after 47 (bs ++ rooted ss) ≡ past ss) = cuts bs ss f.1 in
    rw (f.0, c.0, c.1, c.2) refl

first_out : (b : ℕ) (bs : List ℕ) (ss : List (List ℕ)) → after 47 (b ∷ bs) ≡ None → next_output (b ∷ (bs ++ rooted ss)) [] ≡ cond (is_dot (b ∷ bs) || is_dot_dot (b ∷ bs)) [] (b ∷ bs)
first_out b bs ss h =
    let f : (eqb b 47 ≡ false) × (after 47 bs ≡ None) = free_tail b bs h in
    let c : (before 47 (bs ++ rooted ss) ≡ bs) × (from 47 (bs ++ rooted ss) ≡ rooted ss) × (after 47 (bs ++ rooted ss) ≡ past ss) = cuts bs ss f.1 in
    rw (f.0, c.0) refl

enters_none : (s : List ℕ) (d e : Bool) → (d || e) ≡ true → cond d [] (cond e (up []) (s ∷ [])) ≡ []
enters_none s true e h = refl
enters_none s false true h = refl
enters_none s false false h = cc

enters_first : (s : List ℕ) (d e : Bool) → (d || e) ≡ false → cond d [] (cond e (up []) (s ∷ [])) ≡ s ∷ []
enters_first s true e h = cc
enters_first s false true h = cc
enters_first s false false h = refl

start_plain : (b : ℕ) (bs : List ℕ) (ss : List (List ℕ)) → after 47 (b ∷ bs) ≡ None → Free ss → (is_dot (b ∷ bs) || is_dot_dot (b ∷ bs)) ≡ false → Removes (b ∷ (bs ++ rooted ss)) [] (path_of (fold enter ((b ∷ bs) ∷ []) (with_end ss)))
start_plain b bs ss h f e =
    turns b (bs ++ rooted ss) [] _ (moved _ (rooted ss) _ (path_of ((b ∷ bs) ∷ [])) _ (first_in b bs ss h ∙ ap (λ t. cond t (unwrap_or (past ss) []) (rooted ss)) e) (first_out b bs ss h ∙ (ap (λ t. cond t [] (b ∷ bs)) e ∙ sym (append-nil (b ∷ bs)))) (walk ss ((b ∷ bs) ∷ []) f (kept_cons (b ∷ bs) [] (h, tt))))

start_dots : (b : ℕ) (bs : List ℕ) (ss : List (List ℕ)) (r : List ℕ) → after 47 (b ∷ bs) ≡ None → (is_dot (b ∷ bs) || is_dot_dot (b ∷ bs)) ≡ true → Removes (unwrap_or (past ss) []) [] r → Removes (b ∷ (bs ++ rooted ss)) [] r
start_dots b bs ss r h e x =
    turns b (bs ++ rooted ss) [] r (moved _ (unwrap_or (past ss) []) _ [] r (first_in b bs ss h ∙ ap (λ t. cond t (unwrap_or (past ss) []) (rooted ss)) e) (first_out b bs ss h ∙ ap (λ t. cond t [] (b ∷ bs)) e) x)

result_to : (i r q : List ℕ) → r ≡ q → Removes i [] q → Removes i [] r
result_to i r q e x = let P : List ℕ → Type 0 = λ y. Removes i [] y in subst P (sym e) x

start_lone : (b : ℕ) (bs : List ℕ) → after 47 (b ∷ bs) ≡ None → (t : Bool) → (is_dot (b ∷ bs) || is_dot_dot (b ∷ bs)) ≡ t → Removes (b ∷ (bs ++ [])) [] (path_of (fold enter [] (cond t ((b ∷ bs) ∷ [] ∷ []) ((b ∷ bs) ∷ []))))
start_lone b bs h true e =
    result_to _ _ [] (ap (λ k. path_of (k ++ [] ∷ [])) (enters_none (b ∷ bs) (is_dot (b ∷ bs)) (is_dot_dot (b ∷ bs)) e)) (start_dots b bs [] [] h e (ends []))
start_lone b bs h false e =
    result_to _ _ (path_of ((b ∷ bs) ∷ [])) (ap path_of (enters_first (b ∷ bs) (is_dot (b ∷ bs)) (is_dot_dot (b ∷ bs)) e)) (start_plain b bs [] h tt e)

start_more : (b : ℕ) (bs t : List ℕ) (ts : List (List ℕ)) → after 47 (b ∷ bs) ≡ None → Free (t ∷ ts) → Removes (t ++ rooted ts) [] (path_of (fold enter [] (with_end (t ∷ ts)))) → (d : Bool) → (is_dot (b ∷ bs) || is_dot_dot (b ∷ bs)) ≡ d → Removes (b ∷ (bs ++ rooted (t ∷ ts))) [] (path_of (fold enter (enter [] (b ∷ bs)) (with_end (t ∷ ts))))
start_more b bs t ts h f ih true e =
    result_to _ _ _ (ap (λ k. path_of (fold enter k (with_end (t ∷ ts)))) (enters_none (b ∷ bs) (is_dot (b ∷ bs)) (is_dot_dot (b ∷ bs)) e)) (start_dots b bs (t ∷ ts) _ h e ih)
start_more b bs t ts h f ih false e =
    result_to _ _ _ (ap (λ k. path_of (fold enter k (with_end (t ∷ ts)))) (enters_first (b ∷ bs) (is_dot (b ∷ bs)) (is_dot_dot (b ∷ bs)) e)) (start_plain b bs (t ∷ ts) h f e)

start : (s : List ℕ) (ss : List (List ℕ)) → after 47 s ≡ None → Free ss → Removes (s ++ rooted ss) [] (path_of (fold enter [] (with_end (s ∷ ss))))
start [] [] h f = ends []
start [] (t ∷ ts) h f = walk (t ∷ ts) ([] ∷ []) f (kept_cons [] [] (refl, tt))
start (b ∷ bs) [] h f = start_lone b bs h (is_dot (b ∷ bs) || is_dot_dot (b ∷ bs)) refl
start (b ∷ bs) (t ∷ ts) h f = start_more b bs t ts h f (start t ts f.0 f.1) (is_dot (b ∷ bs) || is_dot_dot (b ∷ bs)) refl

-- ---- a path is its segments

record Parted (path : List ℕ) : Type 0 where
  first : List ℕ
  others : List (List ℕ)
  is : segments path ≡ first ∷ others
  whole : path ≡ first ++ rooted others
  free : after 47 first ≡ None
  all : Free others

parted_step : (b : ℕ) (bs : List ℕ) → Parted bs → (t : Bool) → eqb b 47 ≡ t → Parted (b ∷ bs)
parted_step b bs p true e = record { first = []; others = p.first ∷ p.others; is = rw e (ap (λ x. [] ∷ x) p.is); whole = ap (λ x. x ∷ bs) (eqb-true b 47 e) ∙ ap (λ x. 47 ∷ x) p.whole; free = refl; all = (p.free, p.all) }
parted_step b bs p false e = record { first = b ∷ p.first; others = p.others; is = rw e (rw p.is refl); whole = ap (λ x. b ∷ x) p.whole; free = rw e p.free; all = p.all }

parted : (path : List ℕ) → Parted path
parted [] = record { first = []; others = []; is = refl; whole = refl; free = refl; all = tt }
parted (b ∷ bs) = parted_step b bs (parted bs) (eqb b 47) refl

-- the loop over buffers gives what the walk over segments gives
pub removes : (path : List ℕ) → Removes path [] (remove_dot_segments path)
unfolding remove_dot_segments
removes path =
    let p : Parted path = parted path in
    let there : Removes (p.first ++ rooted p.others) [] (path_of (fold enter [] (with_end (p.first ∷ p.others)))) = start p.first p.others p.free p.all in
    moved path (p.first ++ rooted p.others) [] [] _ p.whole refl (result_to _ _ _ (ap (λ x. path_of (fold enter [] (with_end x))) p.is) there)

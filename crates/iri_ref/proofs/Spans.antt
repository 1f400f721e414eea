-- The spans cut the components out of the text.
use Rattle.std.proofs.Common.{◌≡◌, ℕ, ◌+◌, ◌-◌, List, [], ◌∷◌, ◌++◌, length, take, drop, Option, Some, None, option_map, refl, sym, ap, ◌∙◌, arith, append_assoc, length-append}
use Rattle.std.proofs.lemmas.List.{append-nil}
use Rattle.std.proofs.Math.Seq.{take-append_seam, drop-append_seam}
use Rattle.iri_ref.specs.Components.{Components, components, recompose, spans, span_after, cut_out, components_at, length_with, with_colon, with_mark}
use Rattle.iri_ref.proofs.Cuts.{recompose-components}
use Rattle.iri_ref.proofs.Lengths.{colon_length, slashes_length, mark_length}

cut_at : (text pre s post : List ℕ) (n m : ℕ) → text ≡ pre ++ (s ++ post) → n ≡ length pre → m ≡ length s → take m (drop n text) ≡ s
cut_at text pre s post n m e a b = rw (e, a, b, drop-append_seam pre (s ++ post)) (take-append_seam s post)

span_cut : (text pre mark s post : List ℕ) (at n : ℕ) → text ≡ pre ++ ((mark ++ s) ++ post) → at ≡ length pre → n ≡ length mark → cut_out text (span_after at n s) ≡ s
span_cut text pre mark s post at n e a b =
    let whole : text ≡ (pre ++ mark) ++ (s ++ post) = e ∙ (ap (λ t. pre ++ t) (append_assoc mark s post) ∙ sym (append_assoc pre mark (s ++ post))) in
    cut_at text (pre ++ mark) s post (at + n) (at + n + length s - (at + n)) whole (omega (arith, length-append pre mark)) (omega arith)

field_cut : (text pre mark post : List ℕ) (o : Option (List ℕ)) (at n : ℕ) → text ≡ pre ++ (with_mark mark o ++ post) → at ≡ length pre → n ≡ length mark → option_map (cut_out text) (option_map (span_after at n) o) ≡ o
field_cut text pre mark post None at n e a b = refl
field_cut text pre mark post (Some s) at n e a b = ap Some (span_cut text pre mark s post at n e a b)

scheme_cut : (text post : List ℕ) (o : Option (List ℕ)) → text ≡ with_colon o ++ post → option_map (cut_out text) (option_map (span_after 0 0) o) ≡ o
scheme_cut text post None e = refl
scheme_cut text post (Some s) e = ap Some (span_cut text [] [] s (58 ∷ post) 0 0 (e ∙ append_assoc s (58 ∷ []) post) refl refl)

-- the five parts of the text, each with what stands before and after it
one : (s a p q f : List ℕ) → s ++ a ++ p ++ q ++ f ≡ s ++ (a ++ (p ++ (q ++ f)))
one s a p q f = simp append_assoc refl

two : (s a p q f : List ℕ) → s ++ (a ++ (p ++ (q ++ f))) ≡ (s ++ a) ++ (p ++ (q ++ f))
two s a p q f = simp append_assoc refl

three : (s a p q f : List ℕ) → s ++ (a ++ (p ++ (q ++ f))) ≡ (s ++ a ++ p) ++ (q ++ f)
three s a p q f = simp append_assoc refl

four : (s a p q f : List ℕ) → s ++ (a ++ (p ++ (q ++ f))) ≡ (s ++ a ++ p ++ q) ++ (f ++ [])
four s a p q f = simp (append_assoc, append-nil) refl

abbrev made : Option (List ℕ) → Option (List ℕ) → List ℕ → Option (List ℕ) → Option (List ℕ) → Components
made s a p q f = record { scheme = s; authority = a; path = p; query = q; fragment = f }

same_fields : (s a : Option (List ℕ)) (p : List ℕ) (q f : Option (List ℕ)) (c : Components) → s ≡ c.scheme → a ≡ c.authority → p ≡ c.path → q ≡ c.query → f ≡ c.fragment → made s a p q f ≡ c
same_fields s a p q f c v w x y z = rw (v, w, x, y, z) refl

cuts_components : (c : Components) → components_at (recompose c) (spans c) ≡ c
unfolding recompose spans components_at
cuts_components c =
    let s : List ℕ = with_colon c.scheme in
    let a : List ℕ = with_mark (47 ∷ 47 ∷ []) c.authority in
    let q : List ℕ = with_mark (63 ∷ []) c.query in
    let f : List ℕ = with_mark (35 ∷ []) c.fragment in
    let whole : s ++ a ++ c.path ++ q ++ f ≡ s ++ (a ++ (c.path ++ (q ++ f))) = one s a c.path q f in
    let ls : length_with 1 c.scheme ≡ length s = sym (colon_length c.scheme) in
    let la : length_with 2 c.authority ≡ length a = sym (slashes_length c.authority) in
    let lq : length_with 1 c.query ≡ length q = sym (mark_length 63 c.query) in
    let lsa : length_with 1 c.scheme + length_with 2 c.authority ≡ length (s ++ a) = omega (arith, ls, la, length-append s a) in
    let lsap : length_with 1 c.scheme + length_with 2 c.authority + length c.path ≡ length (s ++ a ++ c.path) = omega (arith, lsa, length-append (s ++ a) c.path) in
    let lsapq : length_with 1 c.scheme + length_with 2 c.authority + length c.path + length_with 1 c.query ≡ length (s ++ a ++ c.path ++ q) = omega (arith, lsap, lq, length-append (s ++ a ++ c.path) q) in
    let e1 = scheme_cut _ (a ++ (c.path ++ (q ++ f))) c.scheme whole in
    let e2 = field_cut _ s (47 ∷ 47 ∷ []) (c.path ++ (q ++ f)) c.authority _ 2 whole ls refl in
    let e3 = span_cut _ (s ++ a) [] c.path (q ++ f) _ 0 (whole ∙ two s a c.path q f) lsa refl in
    let e4 = field_cut _ (s ++ a ++ c.path) (63 ∷ []) f c.query _ 1 (whole ∙ three s a c.path q f) lsap refl in
    let e5 = field_cut _ (s ++ a ++ c.path ++ q) (35 ∷ []) [] c.fragment _ 1 (whole ∙ four s a c.path q f) lsapq refl in
    same_fields _ _ _ _ _ c e1 e2 e3 e4 e5

-- the spans of a text cut its components out
pub spans_cut : (text : List ℕ) → components_at text (spans (components text)) ≡ components text
spans_cut text = ap (λ t. components_at t (spans (components text))) (sym (recompose-components text)) ∙ cuts_components (components text)

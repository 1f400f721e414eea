-- How long the text is that the components make.
use Rattle.std.proofs.Common.{◌≡◌, ℕ, ◌+◌, List, ◌++◌, [], ◌∷◌, length, Option, Some, None, length-append, arith, refl}
use Rattle.iri_ref.specs.Components.{Components, recompose, length_with, with_colon, with_mark}

-- a part with its colon is one longer, where there is one
pub colon_length : (o : Option (List ℕ)) → length (with_colon o) ≡ length_with 1 o
colon_length None = refl
colon_length (Some s) = omega (arith, length-append s (58 ∷ []))

-- a part behind two slashes is two longer, where there is one
pub slashes_length : (o : Option (List ℕ)) → length (with_mark (47 ∷ 47 ∷ []) o) ≡ length_with 2 o
slashes_length None = refl
slashes_length (Some s) = omega arith

-- a part behind a mark is one longer, where there is one
pub mark_length : (c : ℕ) (o : Option (List ℕ)) → length (with_mark (c ∷ []) o) ≡ length_with 1 o
mark_length c None = refl
mark_length c (Some s) = omega arith

sums : (s a p q f : List ℕ) → length (s ++ a ++ p ++ q ++ f) ≡ length s + length a + length p + length q + length f
sums s a p q f = simp length-append refl

-- a text made of components is as long as these and their marks
pub length_recompose : (c : Components) → length (recompose c) ≡ length_with 1 c.scheme + length_with 2 c.authority + length c.path + length_with 1 c.query + length_with 1 c.fragment
unfolding recompose
length_recompose c = omega (arith, sums (with_colon c.scheme) (with_mark (47 ∷ 47 ∷ []) c.authority) c.path (with_mark (63 ∷ []) c.query) (with_mark (35 ∷ []) c.fragment), colon_length c.scheme, slashes_length c.authority, mark_length 63 c.query, mark_length 35 c.fragment)

-- Options, tests and lists, as the proofs on flat requests use them.
use Rattle.std.proofs.Common.{◌≡◌, Bool, true, false, List, [], ◌∷◌, map, inl, inr, Contains, Option, Some, None, option_map, refl, sym, ap, ◌∙◌, subst}
use Rattle.std.specs.List.{list_all}
use Rattle.std.specs.Option.{option_map_or}
use Rattle.base_types.proofs.Lists.{Contains-here, Contains-there, Contains-cons_cases, Contains-nil, Contains-from_map}
use Rattle.ld_rdf.specs.Internal.Parts.{only_if}
use Rattle.json_tree.proofs.Rising.{left_of, right_of}

-- ---- options

-- nothing has nothing as its image
pub option_map-None : {A B : Type 0} (f : A → B) (o : Option A) → option_map f o ≡ None → o ≡ None
option_map-None f None h = refl
option_map-None f (Some x) h = absurd (cc)

-- what is given under a test is given where the test holds
pub provided-Some : {A : Type 0} (b : Bool) (o : Option A) (y : A) → only_if b o ≡ Some y → (b ≡ true) × (o ≡ Some y)
provided-Some true o y h = (refl, h)
provided-Some false o y h = absurd (cc)

-- a test of an option that holds is one of what it holds
pub map_or-true : {A : Type 0} (p : A → Bool) (o : Option A) → option_map_or p o false ≡ true → (x : A) × (o ≡ Some x) × (p x ≡ true)
map_or-true p None h = absurd (cc)
map_or-true p (Some x) h = (x, refl, h)

-- ---- lists

-- a test that holds of each element holds of this one
pub list_all-contains : {X : Type 0} (p : X → Bool) (xs : List X) (x : X) → list_all p xs ≡ true → Contains xs x → p x ≡ true
list_all-contains p [] x h c = absurd (Contains-nil x c)
list_all-contains p (y ∷ ys) x h c = elim (Contains-cons_cases y ys x c) [
  | inl e ↦ ap p (sym e) ∙ left_of (p y) _ h
  | inr d ↦ list_all-contains p ys x (right_of (p y) _ h) d
]

-- a test holds of each element where it holds of whatever stands in the list
pub list_all-from : {X : Type 0} (p : X → Bool) (xs : List X) → ((x : X) → Contains xs x → p x ≡ true) → list_all p xs ≡ true
list_all-from p [] h = refl
list_all-from p (x ∷ xs) h = rw (h x (Contains-here x xs)) (list_all-from p xs (λ y c. h y (Contains-there x xs y c)))

-- a list of images, each of an element of xs, is the images of a list of such elements
pub picked : {X Y : Type 0} (f : X → Y) (xs : List X) (ys : List Y) → ((y : Y) → Contains ys y → Contains (map f xs) y) → (zs : List X) × (ys ≡ map f zs) × ((z : X) → Contains zs z → Contains xs z)
picked f xs [] h = ([], refl, λ z c. absurd (Contains-nil z c))
picked f xs (y ∷ ys) h =
    let first = Contains-from_map f xs y (h y (Contains-here y ys)) in
    let later = picked f xs ys (λ z c. h z (Contains-there y ys z c)) in
    (first.0 ∷ later.0, (λ i. sym first.2 i ∷ later.1 i), λ z c. elim (Contains-cons_cases first.0 later.0 z c) [ inl e ↦ subst (Contains xs) e first.1 | inr d ↦ later.2 z d ])

-- Statements that are out of place: how they are gathered, and the least of their texts.
use Rattle.std.proofs.Common.{◌≡◌, ℕ, ◌+◌, ◌<◌, Bool, true, false, ◌||◌, cond, List, [], ◌∷◌, ◌++◌, length, map, take, get_or, All, Contains, Option, Some, None, inl, inr, refl, sym, ap, ◌∙◌, subst}
use Rattle.std.specs.Prelude.{◌⊎◌, ◌↔◌}
use Rattle.std.specs.Str.{bytes_eq}
use Rattle.std.proofs.lemmas.List.{map-append, take_more}
use Rattle.std.proofs.lemmas.List.Elements.{All-cons, All-contains, All-nil, All-push, Contains-append_left, Contains-push, Contains-push_cases}
use Rattle.base_types.specs.Order.{is_before, is_upto}
use Rattle.base_types.specs.Sets.{HasExactly, SameElements}
use Rattle.base_types.proofs.Lists.{Contains-here, Contains-nil, SameElements-sym}
use Rattle.base_types.proofs.Orders.{is_upto-before, is_upto-refl, is_upto-transitive, upto_if}
use Rattle.nquads.proofs.ReadingElements.{All-from_contains}
use Rattle.term_store.specs.declared.statements.Quad.{Quad}
use Rattle.stmt_groups.specs.Parts.{AreParts, IsMissing, IsStray, Parts, parts_of}
use Rattle.stmt_groups.specs.Internal.Marking.{Gains, IsLeastOf, lesser_of}
use Rattle.stmt_groups.proofs.SetLemmas.{in_or_not}

-- ---- gathered one by one

-- a statement that the set has adds nothing
pub gains_none : (xs set : List Quad) (q : Quad) → Contains set q → Gains xs xs (λ x. (q ≡ x) × (Contains set x → ⊥))
gains_none xs set q stands x = (
  λ c. inl c,
  λ e. elim e [
    | inl c ↦ c
    | inr n ↦ absurd (n.1 (subst (Contains set) n.0 stands))
  ],
)

gained : (xs set : List Quad) (q : Quad) → (Contains set q → ⊥) → Gains xs (xs ++ q ∷ []) (λ x. (q ≡ x) × (Contains set x → ⊥))
gained xs set q lacks x = (
  λ c. elim (Contains-push_cases xs q x c) [
    | inl old ↦ inl old
    | inr e ↦ inr (e, λ d. lacks (subst (Contains set) (sym e) d))
  ],
  λ e. elim e [
    | inl old ↦ Contains-append_left xs (q ∷ []) x old
    | inr n ↦ subst (Contains (xs ++ q ∷ [])) n.0 (Contains-push xs q)
  ],
)

-- one that it has not is added
pub gains_one : (xs new set : List Quad) (q : Quad) → new ≡ xs ++ q ∷ [] → (Contains set q → ⊥) → Gains xs new (λ x. (q ≡ x) × (Contains set x → ⊥))
gains_one xs new set q is lacks =
    subst (λ (ys : List Quad). Gains xs ys (λ x. (q ≡ x) × (Contains set x → ⊥))) (sym is) (gained xs set q lacks)

-- before the first statement of a part nothing is added
pub gains_nothing : (xs set : List Quad) → Gains xs xs (IsMissing [] set)
gains_nothing xs set x = (
  λ c. inl c,
  λ e. elim e [
    | inl c ↦ c
    | inr m ↦ absurd (Contains-nil x m.0)
  ],
)

-- with the next statement of a part
pub gains_more : (first mid new set part : List Quad) (i : ℕ) (d : Quad) → i < length part → Gains first mid (IsMissing (take i part) set) → Gains mid new (λ x. (get_or part i d ≡ x) × (Contains set x → ⊥)) → Gains first new (IsMissing (take (i + 1) part) set)
gains_more first mid new set part i d within before step x =
    let next : Quad = get_or part i d in
    let more = take_more part i d within in (
      λ c. elim ((step x).0 c) [
        | inl m ↦ elim ((before x).0 m) [
          | inl f ↦ inl f
          | inr n ↦ inr (subst (λ (ys : List Quad). Contains ys x) (sym more) (Contains-append_left (take i part) (next ∷ []) x n.0), n.1)
        ]
        | inr n ↦ inr (subst (λ (ys : List Quad). Contains ys x) (sym more) (subst (Contains (take i part ++ next ∷ [])) n.0 (Contains-push (take i part) next)), n.1)
      ],
      λ e. (step x).1 (elim e [
        | inl f ↦ inl ((before x).1 (inl f))
        | inr n ↦ elim (Contains-push_cases (take i part) next x (subst (λ (ys : List Quad). Contains ys x) more n.0)) [
          | inl old ↦ inl ((before x).1 (inr (old, n.1)))
          | inr same ↦ inr (same, n.1)
        ]
      ]),
    )

-- what is gathered in three steps
pub gained_in_three : (P Q R : Quad → Type 0) (none one two all : List Quad) → none ≡ [] → Gains none one P → Gains one two Q → Gains two all R → (x : Quad) → Contains all x ↔ (P x ⊎ (Q x ⊎ R x))
gained_in_three P Q R none one two all empty p q r x = (
  λ c. elim ((r x).0 c) [
    | inl d ↦ elim ((q x).0 d) [
      | inl e ↦ elim ((p x).0 e) [
        | inl f ↦ absurd (Contains-nil x (subst (λ (ys : List Quad). Contains ys x) empty f))
        | inr h ↦ inl h
      ]
      | inr h ↦ inr (inl h)
    ]
    | inr h ↦ inr (inr h)
  ],
  λ e. elim e [
    | inl h ↦ (r x).1 (inl ((q x).1 (inl ((p x).1 (inr h)))))
    | inr f ↦ elim f [
      | inl h ↦ (r x).1 (inl ((q x).1 (inr h)))
      | inr h ↦ (r x).1 (inr h)
    ]
  ],
)

-- ---- what they are

missing_in : (part xs ys : List Quad) → SameElements xs ys → (x : Quad) → IsMissing part xs x → IsMissing part ys x
missing_in part xs ys same x m = (m.0, λ c. m.1 ((same x).1 c))

-- found by the sets of the whole and of the chosen part, they are those of the parts
pub strays_exact : (whole mandatory chosen in_whole in_chosen strays : List Quad) → SameElements in_whole whole → SameElements in_chosen chosen
    → ((x : Quad) → Contains strays x ↔ (IsMissing mandatory in_whole x ⊎ (IsMissing chosen in_whole x ⊎ IsMissing mandatory in_chosen x))) → HasExactly strays (IsStray (parts_of whole mandatory chosen))
strays_exact whole mandatory chosen in_whole in_chosen strays w h found x = (
  λ c. elim ((found x).0 c) [
    | inl m ↦ inl (missing_in mandatory in_whole whole w x m)
    | inr e ↦ elim e [
      | inl m ↦ inr (inl (missing_in chosen in_whole whole w x m))
      | inr m ↦ inr (inr (missing_in mandatory in_chosen chosen h x m))
    ]
  ],
  λ s. (found x).1 (elim s [
    | inl m ↦ inl (missing_in mandatory whole in_whole (SameElements-sym in_whole whole w) x m)
    | inr e ↦ elim e [
      | inl m ↦ inr (inl (missing_in chosen whole in_whole (SameElements-sym in_whole whole w) x m))
      | inr m ↦ inr (inr (missing_in mandatory chosen in_chosen (SameElements-sym in_chosen chosen h) x m))
    ]
  ]),
)

-- what holds of both parts holds of what is out of place
pub strays_keep : (P : Quad → Type 0) (whole mandatory chosen strays : List Quad) → All P mandatory → All P chosen → HasExactly strays (IsStray (parts_of whole mandatory chosen)) → All P strays
strays_keep P whole mandatory chosen strays must may exact =
    All-from_contains P strays (λ x c. elim ((exact x).0 c) [
      | inl m ↦ All-contains P mandatory x must m.0
      | inr e ↦ elim e [
        | inl m ↦ All-contains P chosen x may m.0
        | inr m ↦ All-contains P mandatory x must m.0
      ]
    ])

lies_within : (part whole : List Quad) → ((x : Quad) → IsMissing part whole x → ⊥) → All (Contains whole) part
lies_within part whole free =
    All-from_contains (Contains whole) part (λ x c. elim (in_or_not whole x) [
      | inl d ↦ d
      | inr n ↦ absurd (free x (c, n))
    ])

-- where nothing is out of place, the parts are parts
pub parts_from_none : (p : Parts Quad) → ((x : Quad) → IsStray p x → ⊥) → AreParts p
parts_from_none p free = record {
  mandatory_in_whole = lies_within p.mandatory p.whole (λ x m. free x (inl m));
  chosen_in_whole = lies_within p.chosen p.whole (λ x m. free x (inr (inl m)));
  mandatory_chosen = lies_within p.mandatory p.chosen (λ x m. free x (inr (inr m)));
}

-- ---- the least of their texts

least_push : (texts : List (List ℕ)) (kept t : List ℕ) (b : Bool) → is_before t kept ≡ b → IsLeastOf texts (Some kept) → IsLeastOf (texts ++ t ∷ []) (Some (cond b t kept))
least_push texts kept t true less l =
    let upto : is_upto t kept ≡ true = is_upto-before t kept ∙ ap (λ (b : Bool). b || bytes_eq t kept) less in (
      Contains-push texts t,
      All-push (λ u. is_upto t u ≡ true) texts t
          (All-from_contains (λ u. is_upto t u ≡ true) texts (λ u c. is_upto-transitive t kept u upto (All-contains (λ v. is_upto kept v ≡ true) texts u l.1 c)))
          (is_upto-refl t),
    )
least_push texts kept t false less l = (
  Contains-append_left texts (t ∷ []) kept l.0,
  All-push (λ u. is_upto kept u ≡ true) texts t l.1 (upto_if kept t less),
)

-- the least of texts and one more
pub least_with : (texts : List (List ℕ)) (least : Option (List ℕ)) (t : List ℕ) → IsLeastOf texts least → IsLeastOf (texts ++ t ∷ []) (Some (lesser_of least t))
least_with texts None t none =
    subst (λ (us : List (List ℕ)). IsLeastOf (us ++ t ∷ []) (Some t)) (sym none)
    (Contains-here t [], All-cons (λ u. is_upto t u ≡ true) t [] (is_upto-refl t) (All-nil (λ u. is_upto t u ≡ true)))
least_with texts (Some kept) t l = least_push texts kept t (is_before t kept) refl l

-- and so of the texts of the first statements of a list, with the next
pub least_more : (f : Quad → List ℕ) (quads : List Quad) (i : ℕ) (d : Quad) (least : Option (List ℕ)) (text next : List ℕ) → i < length quads → text ≡ f (get_or quads i d) → next ≡ lesser_of least text → IsLeastOf (map f (take i quads)) least → IsLeastOf (map f (take (i + 1) quads)) (Some next)
least_more f quads i d least text next within is lesser l =
    let grown : map f (take (i + 1) quads) ≡ map f (take i quads) ++ f (get_or quads i d) ∷ [] = ap (map f) (take_more quads i d within) ∙ map-append f (take i quads) (get_or quads i d ∷ []) in
    let lesser_is : next ≡ lesser_of least (f (get_or quads i d)) = lesser ∙ ap (lesser_of least) is in
    subst (λ (us : List (List ℕ)). IsLeastOf us (Some next)) (sym grown)
    (subst (λ (t : List ℕ). IsLeastOf (map f (take i quads) ++ f (get_or quads i d) ∷ []) (Some t)) (sym lesser_is) (least_with (map f (take i quads)) least (f (get_or quads i d)) l))

-- no texts, no statements
pub no_images : (f : Quad → List ℕ) (quads : List Quad) → map f quads ≡ [] → quads ≡ []
no_images f [] e = refl
no_images f (q ∷ quads) e = absurd (cc)

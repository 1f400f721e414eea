-- Occurrences that are alike, one after another, and copies in a list.
use Rattle.std.proofs.Common.{◌≡◌, ℕ, zero, suc, ◌+◌, ◌-◌, ◌<◌, ◌≤◌, List, [], ◌∷◌, ◌++◌, map, length, replicate, get_or, take, refl, sym, ap, ◌∙◌, subst, append_assoc, arith, Option, Some, None, option_map}
use Rattle.std.specs.Prelude.{slice_get}
use Rattle.std.proofs.lemmas.List.{map-append, take_more, take-map, replicate_more}
use Rattle.std.proofs.lemmas.Option.{same_Some, slice_get-map, slice_get-get_or, slice_get_past, slice_get_within, get_or_from_slice_get}
use Rattle.rdfc_ndegree.specs.Nodes.{Occurrence}
use Rattle.rdfc_ndegree.specs.Table.{occurrence_of, related_in_row, row_texts, related_texts}
use Rattle.rdfc_ndegree.specs.Internal.Grouping.{IsAlikeUntil}
use Rattle.rdfc_ndegree.specs.declared.table.StoredRelated.{StoredRelated}
use Rattle.rdfc_ndegree.specs.declared.table.StoredRow.{StoredRow}

-- a function of copies gives copies
pub map-copies : {X Y : Type 0} (f : X → Y) (n : ℕ) (x : X) → map f (replicate n x) ≡ replicate n (f x)
map-copies f zero x = refl
map-copies f (suc n) x = ap (λ ys. f x ∷ ys) (map-copies f n x)

-- ---- in a list

module _ {X : Type 0} where
  -- the element at a place alone
  pub alike-first : (xs : List X) (place : ℕ) (x : X) → Some x ≡ slice_get xs place → IsAlikeUntil xs place x (place + 1)
  alike-first xs place x at =
      let within : place < length xs = slice_get_within xs place x (sym at) in
      let is : get_or xs place x ≡ x = get_or_from_slice_get xs place x x (sym at) in
      let one : place + 1 - place ≡ 1 = omega arith in
      (omega arith, take_more xs place x within ∙ (λ i. take place xs ++ replicate (sym one i) (is i)))

  -- one more
  pub alike-next : (xs : List X) (place end : ℕ) (x d : X) → end < length xs → x ≡ get_or xs end d → IsAlikeUntil xs place x end → IsAlikeUntil xs place x (end + 1)
  alike-next xs place end x d within same alike =
      let after : place < end = alike.0 in
      let more : (end - place) + 1 ≡ end + 1 - place = omega arith in (
        omega arith,
        take_more xs end d within ∙ (λ i. alike.1 i ++ sym same i ∷ []) ∙ append_assoc (take place xs) (replicate (end - place) x) (x ∷ [])
            ∙ ap (λ ys. take place xs ++ ys) (replicate_more (end - place) x ∙ ap (λ n. replicate n x) more),
      )

  -- of what stands at the place
  pub alike-there : (xs : List X) (place end : ℕ) (x y : X) → place < length xs → x ≡ get_or xs place x → Some y ≡ slice_get xs place → IsAlikeUntil xs place x end → IsAlikeUntil xs place y end
  alike-there xs place end x y within is at alike =
      let same : x ≡ y = same_Some x y (ap Some is ∙ sym (slice_get-get_or xs place x within) ∙ sym at) in
      subst (λ z. IsAlikeUntil xs place z end) same alike

  -- nothing stands at a place that is past the end
  pub take-past : (xs : List X) (n : ℕ) → None ≡ slice_get xs n → take n xs ≡ xs
  take-past [] zero none = refl
  take-past [] (suc n) none = refl
  take-past (x ∷ xs) zero none = absurd (cc)
  take-past (x ∷ xs) (suc n) none = ap (λ ys. x ∷ ys) (take-past xs n none)

-- the same in a list of mapped elements
module _ {X Y : Type 0} (f : X → Y) where
  alike-map : (xs : List X) (place end : ℕ) (x : X) → IsAlikeUntil xs place x end → IsAlikeUntil (map f xs) place (f x) end
  alike-map xs place end x alike = (
    alike.0,
    take-map f end xs ∙ ap (map f) alike.1 ∙ map-append f (take place xs) (replicate (end - place) x)
        ∙ (λ i. sym (take-map f place xs) i ++ map-copies f (end - place) x i),
  )

  alike-mapped : (xs : List X) (place end : ℕ) (y : Y) (o : Option X) → slice_get xs place ≡ o → ((x : X) → Some x ≡ slice_get xs place → IsAlikeUntil xs place x end) → Some y ≡ option_map f o → IsAlikeUntil (map f xs) place y end
  alike-mapped xs place end y None at alike is = absurd (cc)
  alike-mapped xs place end y (Some x) at alike is = subst (λ z. IsAlikeUntil (map f xs) place z end) (same_Some (f x) y (sym is)) (alike-map xs place end x (alike x (sym at)))

  pub alike-seen : (xs : List X) (place end : ℕ) (y : Y) → ((x : X) → Some x ≡ slice_get xs place → IsAlikeUntil xs place x end) → Some y ≡ slice_get (map f xs) place → IsAlikeUntil (map f xs) place y end
  alike-seen xs place end y alike at = alike-mapped xs place end y (slice_get xs place) refl alike (at ∙ slice_get-map f xs place)

-- ---- in a table

-- the occurrences of a row are those that it keeps, with the texts of their predicates
pub row-kept : (texts : List (List ℕ)) (rows seen : List StoredRow) (node : ℕ) (row : StoredRow) → seen ≡ rows → node < length seen → row ≡ get_or seen node row
    → related_in_row (slice_get (map (row_texts texts) rows) node) ≡ map occurrence_of (map (related_texts texts) row.related)
row-kept texts rows seen node row same within is =
    let found : slice_get rows node ≡ Some row = ap (λ rs. slice_get rs node) (sym same) ∙ slice_get-get_or seen node row within ∙ ap Some (sym is) in
    ap related_in_row (slice_get-map (row_texts texts) rows node ∙ ap (option_map (row_texts texts)) found)

-- a node that has no row has none
pub none-kept : {A : Type 0} (texts : List (List ℕ)) (rows seen : List StoredRow) (node place : ℕ) (o : Occurrence ℕ) → seen ≡ rows → length seen ≤ node → Some o ≡ slice_get (related_in_row (slice_get (map (row_texts texts) rows) node)) place → A
none-kept texts rows seen node place o same past at =
    let none : slice_get rows node ≡ None = ap (λ rs. slice_get rs node) (sym same) ∙ slice_get_past seen node past in
    let empty = at ∙ ap (λ row. slice_get (related_in_row row) place) (slice_get-map (row_texts texts) rows node ∙ ap (option_map (row_texts texts)) none) in
    absurd (cc)

-- they are alike where those are
pub alike-found : (texts : List (List ℕ)) (rows seen : List StoredRow) (node place end : ℕ) (row : StoredRow) (kept : List StoredRelated) → seen ≡ rows → node < length seen → row ≡ get_or seen node row → kept ≡ row.related
    → ((r : StoredRelated) → Some r ≡ slice_get kept place → IsAlikeUntil kept place r end)
    → (o : Occurrence ℕ) → Some o ≡ slice_get (related_in_row (slice_get (map (row_texts texts) rows) node)) place → IsAlikeUntil (related_in_row (slice_get (map (row_texts texts) rows) node)) place o end
alike-found texts rows seen node place end row kept same within is whole alike o at =
    let listed = row-kept texts rows seen node row same within is ∙ ap (λ rs. map occurrence_of (map (related_texts texts) rs)) (sym whole) in
    subst (λ os. IsAlikeUntil os place o end) (sym listed)
    (alike-seen occurrence_of (map (related_texts texts) kept) place end o (λ r. alike-seen (related_texts texts) kept place end r alike) (subst (λ os. Some o ≡ slice_get os place) listed at))

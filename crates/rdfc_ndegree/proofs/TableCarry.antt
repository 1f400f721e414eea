-- A table carries its numbers to the blank nodes of its dataset.
use Rattle.std.proofs.Common.{◌≡◌, ◌↔◌, Bool, false, if◌then◌else◌, ℕ, zero, suc, ◌<◌, ◌≤◌, ◌==◌, List, [], ◌∷◌, ◌++◌, map, length, get_or, take, refl, sym, ap, ap₂, ◌∙◌, subst, ⊎_elim, arith, true, All, Contains, Option, Some, None, slice_get, take_all, take-suc}
use Rattle.std.specs.List.{AllByRecursion, AllZip}
use Rattle.std.specs.List.Sorted.{IsPermutation}
use Rattle.std.proofs.lemmas.Bool.{cases_order}
use Rattle.std.proofs.lemmas.Bool.Decides.{Decides-eqb, same_from_decides}
use Rattle.std.proofs.lemmas.Option.{get_or_from_slice_get, slice_get_within}
use Rattle.std.proofs.lemmas.List.{map-append}
use Rattle.std.proofs.lemmas.List.Elements.{All-map, All-nil, All-weaker, All-from_recursion, All-contains, Contains-append_left, Contains-push, Contains-push_cases, Contains-get_or}
use Rattle.std.proofs.lemmas.List.Sorted.{IsPermutation-refl, IsPermutation-sym, IsPermutation-to_front}
use Rattle.digest_mac.specs.Digests.{digits}
use Rattle.digest_mac.specs.declared.hash.Hash.{Hash}
use Rattle.base_types.specs.Sets.{AllDiffer}
use Rattle.base_types.proofs.Lists.{Contains-nil, Contains-cons_cases}
use Rattle.nquads.specs.Terms.{Blank, by_label, Statement}
use Rattle.nquads.specs.Renaming.{same_blank, StandsIn}
use Rattle.nquads.specs.FirstDegree.{blanks}
use Rattle.nquads.proofs.ReadingElements.{AllDiffer-nil, AllDiffer-cons}
use Rattle.nquads.proofs.ReadingBlanks.{same_blank-true, same_blank-false, same_blank-itself}
use Rattle.rdfc_ndegree.specs.Nodes.{Occurrence}
use Rattle.rdfc_ndegree.specs.Internal.Nodes.{AreNodes}
use Rattle.rdfc_ndegree.specs.Datasets.{related_in, nodes_of}
use Rattle.rdfc_ndegree.specs.Table.{numbers_below, occurrence_of, first_in, related_in_row, table_nodes, IsClosed}
use Rattle.rdfc_ndegree.specs.TableOf.{IsOccurrence, IsRowOf, IsTableOf}
use Rattle.rdfc_ndegree.specs.Table.{Related}
use Rattle.rdfc_ndegree.specs.Table.{NodeRow}
use Rattle.rdfc_ndegree.proofs.Permutations.{AllDiffer-permutation, IsPermutation-from_elements, Each-from_contains}
use Rattle.rdfc_ndegree.proofs.Lawful.{blanks-all, AllDiffer-blanks}
use Rattle.rdfc_ndegree.specs.Issuers.{number, canonical_id}
use Rattle.rdfc_ndegree.specs.NDegree.{Outcome, IsNDegree}
use Rattle.rdfc_ndegree.specs.Run.{RunOutcome, IsRun, MeetsTie, WorkOver, IsWithinWork, IsCanonicalIssuer}
use Rattle.rdfc_ndegree.proofs.Carry.{carried, outcome_f, Carries, Carries-back, all-back, number-carried, canonical_id-carried, IsNDegree-carried}
use Rattle.rdfc_ndegree.proofs.RunCarry.{result_f, IsRun-carried, IsRun-inside, MeetsTie-carried, WorkOver-carried, IsWithinWork-carried, HasLabels-carried}

-- ---- numbers

-- each number below n is listed
pub numbers-contains : (n k : ℕ) → k < n → Contains (numbers_below n) k
numbers-contains zero k p = absurd (omega arith)
numbers-contains (suc n) k p =
    ⊎_elim (λ e. subst (Contains (numbers_below n ++ n ∷ [])) (sym e) (Contains-push (numbers_below n) n))
    (⊎_elim (λ l. Contains-append_left (numbers_below n) (n ∷ []) k (numbers-contains n k l)) (λ g. absurd (omega arith))) (cases_order k n)

-- each listed number is below n
pub numbers-below : (n k : ℕ) → Contains (numbers_below n) k → k < n
numbers-below zero (k) m = absurd (omega (arith, m.1))
numbers-below (suc n) k m = ⊎_elim (λ c. let below = numbers-below n k c in omega arith) (λ e. omega arith) (Contains-push_cases (numbers_below n) n k m)

AllDiffer-push : {X : Type 0} (xs : List X) (x : X) → AllDiffer xs → (Contains xs x → ⊥) → AllDiffer (xs ++ x ∷ [])
AllDiffer-push xs x a n = AllDiffer-permutation (x ∷ xs) (xs ++ x ∷ []) (IsPermutation-sym (xs ++ x ∷ []) (x ∷ xs) (IsPermutation-to_front xs x)) (AllDiffer-cons x xs n a)

-- the numbers below n are listed once
pub AllDiffer-numbers : (n : ℕ) → AllDiffer (numbers_below n)
AllDiffer-numbers zero = AllDiffer-nil
AllDiffer-numbers (suc n) = AllDiffer-push (numbers_below n) n (AllDiffer-numbers n) (λ m. let below = numbers-below n n m in omega arith)

-- ---- a closed table has the form of nodes

row_closed : (rows : List NodeRow) (n : ℕ) (o : Option NodeRow) → slice_get rows n ≡ o → IsClosed rows → All (λ (x : Occurrence ℕ). x.blank < length rows) (related_in_row o)
row_closed rows n None e h = All-nil (λ (x : Occurrence ℕ). x.blank < length rows)
row_closed rows n (Some row) e h =
    let at_row : All (λ (r : Related). r.node < length rows) row.related = subst (λ (z : NodeRow). All (λ (r : Related). r.node < length rows) z.related) (get_or_from_slice_get rows n row row e) (h n row (slice_get_within rows n row e)) in
    All-map (λ (x : Occurrence ℕ). x.blank < length rows) occurrence_of row.related at_row

-- a table whose rows lead to its own rows is one of nodes
pub table-lawful : (hash : Hash) (rows : List NodeRow) → IsClosed rows → AreNodes (table_nodes hash rows)
unfolding table_nodes
table-lawful hash rows h = record {
  equal = Decides-eqb;
  differ = AllDiffer-numbers (length rows);
  closed = λ n m. All-weaker (λ (o : Occurrence ℕ). o.blank < length rows) (λ (o : Occurrence ℕ). Contains (numbers_below (length rows)) o.blank) (λ o l. numbers-contains (length rows) o.blank l) (related_in_row (slice_get rows n)) (row_closed rows n (slice_get rows n) refl h);
}

-- ---- from numbers to blank nodes

abbrev pub no_blank : Blank
no_blank = record { kind = by_label; name = [] }

-- the k-th blank node
abbrev pub at : List Blank → ℕ → Blank
at bs k = get_or bs k no_blank

record Paired {X Y : Type 0} (R : X → Y → Type 0) (x : X) (ys : List Y) (k : ℕ) : Type 0 where
  pub other : Y
  pub is : slice_get ys k ≡ Some other
  pub holds : R x other

paired : {X Y : Type 0} (R : X → Y → Type 0) (xs : List X) (ys : List Y) (k : ℕ) (d : X) → AllZip R xs ys → k < length ys → Paired R (get_or xs k d) ys k
paired R [] [] k d z p = absurd (omega arith)
paired R [] (y ∷ ys) k d z p = absurd z
paired R (x ∷ xs) [] k d z p = absurd z
paired R (x ∷ xs) (y ∷ ys) zero d z p = record { other = y; is = refl; holds = z.0 }
paired R (x ∷ xs) (y ∷ ys) (suc k) d z p = let r = paired R xs ys k d z.1 (omega arith) in record { other = r.other; is = r.is; holds = r.holds }

as_long : {X Y : Type 0} (R : X → Y → Type 0) (xs : List X) (ys : List Y) → AllZip R xs ys → length xs ≡ length ys
as_long R [] [] z = refl
as_long R [] (y ∷ ys) z = absurd z
as_long R (x ∷ xs) [] z = absurd z
as_long R (x ∷ xs) (y ∷ ys) z = ap suc (as_long R xs ys z.1)

occurrence_is : (bs : List Blank) (m : Occurrence ℕ) (o : Occurrence Blank) → IsOccurrence bs m o → carried (at bs) m ≡ o
occurrence_is bs m o e =
    let place = e.position in
    let predicate = e.predicate in
    let blank = get_or_from_slice_get bs m.blank o.blank no_blank e.blank in
    λ j. record { position = place j; predicate = predicate j; blank = blank j }

occurrences_are : (bs : List Blank) (ms : List (Occurrence ℕ)) (os : List (Occurrence Blank)) → AllZip (IsOccurrence bs) ms os → map (carried (at bs)) ms ≡ os
occurrences_are bs [] [] z = refl
occurrences_are bs [] (o ∷ os) z = absurd z
occurrences_are bs (m ∷ ms) [] z = absurd z
occurrences_are bs (m ∷ ms) (o ∷ os) z = ap₂ (λ (x : Occurrence Blank) xs. x ∷ xs) (occurrence_is bs m o z.0) (occurrences_are bs ms os z.1)

occurrences_below : (bs : List Blank) (ms : List (Occurrence ℕ)) (os : List (Occurrence Blank)) → AllZip (IsOccurrence bs) ms os → AllByRecursion (λ (m : Occurrence ℕ). m.blank < length bs) ms
occurrences_below bs [] os z = tt
occurrences_below bs (m ∷ ms) [] z = absurd z
occurrences_below bs (m ∷ ms) (o ∷ os) z = (slice_get_within bs m.blank o.blank z.0.blank, occurrences_below bs ms os z.1)

-- of blank nodes that differ two places with one node are one
pub at-injective : (bs : List Blank) (x y : ℕ) → AllDiffer bs → x < length bs → y < length bs → at bs x ≡ at bs y → x ≡ y
at-injective bs x y a p q e =
    ⊎_elim (λ k. k) (⊎_elim (λ l. absurd (a x y no_blank l q e)) (λ l. absurd (a y x no_blank l p (sym e)))) (cases_order x y)

at-same : (bs : List Blank) (x y : ℕ) → AllDiffer bs → x < length bs → y < length bs → same_blank (at bs x) (at bs y) ≡ (x == y)
at-same bs x y a p q =
    same_from_decides {P = x ≡ y} (same_blank (at bs x) (at bs y)) (x == y)
    ((λ e. at-injective bs x y a p q (same_blank-true (at bs x) (at bs y) e)), (λ e. subst (λ z. same_blank (at bs x) (at bs z) ≡ true) e (same_blank-itself (at bs x))))
    (Decides-eqb x y)

-- The table of a dataset carries its numbers to the blank nodes.
pub table-carries : (hash : Hash) (q : List Statement) (bs : List Blank) (rows : List NodeRow) → IsTableOf hash q bs rows → Carries (at bs) (λ k. k < length rows) (table_nodes hash rows) (nodes_of (digits hash) q)
unfolding table_nodes
table-carries hash q bs rows t =
    let long : length bs ≡ length rows = as_long (IsRowOf hash q bs) bs rows t.each in
    record {
      one_to_one = λ x y p r. at-same bs x y t.differ (omega arith) (omega arith);
      injective = λ x y p r e. at-injective bs x y t.differ (omega arith) (omega arith) e;
      digest = λ text. refl;
      first = λ x p. let f = paired (IsRowOf hash q bs) bs rows x no_blank t.each p in sym f.holds.first ∙ ap first_in (sym f.is);
      closed = λ n p.
          let f = paired (IsRowOf hash q bs) bs rows n no_blank t.each p in
          let below = All-from_recursion (λ (m : Occurrence ℕ). m.blank < length bs) (map occurrence_of f.other.related) (occurrences_below bs (map occurrence_of f.other.related) (related_in q (at bs n)) f.holds.related) in
          subst (λ o. All (λ (m : Occurrence ℕ). m.blank < length rows) (related_in_row o)) (sym f.is)
          (subst (λ k. All (λ (m : Occurrence ℕ). m.blank < k) (map occurrence_of f.other.related)) long below);
      related = λ n p.
          let f = paired (IsRowOf hash q bs) bs rows n no_blank t.each p in
          let same : map (carried (at bs)) (map occurrence_of f.other.related) ≡ related_in q (at bs n) = occurrences_are bs (map occurrence_of f.other.related) (related_in q (at bs n)) f.holds.related in
          subst (λ o. IsPermutation (map (carried (at bs)) (related_in_row o)) (related_in q (at bs n))) (sym f.is)
          (subst (λ l. IsPermutation l (related_in q (at bs n))) (sym same) (IsPermutation-refl (related_in q (at bs n))));
    }

-- the blank nodes at the first n places are the first n
pub at-numbers : (bs : List Blank) (n : ℕ) → n ≤ length bs → map (at bs) (numbers_below n) ≡ take n bs
at-numbers bs zero p = refl
at-numbers bs (suc n) p =
    map-append (at bs) (numbers_below n) (n ∷ [])
    ∙ ap (λ l. l ++ at bs n ∷ []) (at-numbers bs n (omega arith))
    ∙ sym (take-suc bs n no_blank (omega arith))

-- Where each of the blank nodes stands in the dataset, the numbers are carried to all of them.
pub table-all-carried : (hash : Hash) (q : List Statement) (bs : List Blank) (rows : List NodeRow) → IsTableOf hash q bs rows → All (StandsIn q) bs → IsPermutation (map (at bs) (table_nodes hash rows).all) (nodes_of (digits hash) q).all
unfolding table_nodes
table-all-carried hash q bs rows t h =
    let long : length bs ≡ length rows = as_long (IsRowOf hash q bs) bs rows t.each in
    let numbers : map (at bs) (numbers_below (length rows)) ≡ bs = at-numbers bs (length rows) (omega arith) ∙ take_all (length rows) bs (omega arith) in
    let order : IsPermutation bs (blanks q) =
    IsPermutation-from_elements bs (blanks q) t.differ (AllDiffer-blanks q)
    (λ b. ((λ m. (blanks-all q b).0 (All-contains (StandsIn q) bs b h m)), (λ m. t.covers b ((blanks-all q b).1 m)))) in
    subst (λ l. IsPermutation l (blanks q)) (sym numbers) order

-- the nodes of a table are its rows
pub table-all-inside : (hash : Hash) (rows : List NodeRow) → AllByRecursion (λ k. k < length rows) (table_nodes hash rows).all
unfolding table_nodes
table-all-inside hash rows = Each-from_contains (λ k. k < length rows) (numbers_below (length rows)) (λ k m. numbers-below (length rows) k m)

-- ---- what a table's calls and runs are in the dataset

module _ (hash : Hash) (q : List Statement) (bs : List Blank) (rows : List NodeRow) (t : IsTableOf hash q bs rows) where
  pub table-IsNDegree : (c : List ℕ) (n : ℕ) (i : List ℕ) (o : Outcome ℕ) → AllByRecursion (λ k. k < length rows) c → AllByRecursion (λ k. k < length rows) i → n < length rows → IsNDegree (table_nodes hash rows) c n i o → IsNDegree (nodes_of (digits hash) q) (map (at bs) c) (at bs n) (map (at bs) i) (outcome_f (at bs) o)
  table-IsNDegree = IsNDegree-carried (at bs) (λ k. k < length rows) (table_nodes hash rows) (nodes_of (digits hash) q) (table-carries hash q bs rows t)

  pub table-number : (c : List ℕ) (k : ℕ) → AllByRecursion (λ m. m < length rows) c → k < length rows → number (nodes_of (digits hash) q) (map (at bs) c) (at bs k) ≡ number (table_nodes hash rows) c k
  table-number = number-carried (at bs) (λ k. k < length rows) (table_nodes hash rows) (nodes_of (digits hash) q) (table-carries hash q bs rows t)

  pub table-canonical_id : (c : List ℕ) (k : ℕ) → AllByRecursion (λ m. m < length rows) c → k < length rows → canonical_id (nodes_of (digits hash) q) (map (at bs) c) (at bs k) ≡ canonical_id (table_nodes hash rows) c k
  table-canonical_id = canonical_id-carried (at bs) (λ k. k < length rows) (table_nodes hash rows) (nodes_of (digits hash) q) (table-carries hash q bs rows t)

  module _ (h : All (StandsIn q) bs) where
    pub table-IsRun : (r : RunOutcome ℕ) → IsRun (table_nodes hash rows) r → IsRun (nodes_of (digits hash) q) (result_f (at bs) r)
    table-IsRun = IsRun-carried (at bs) (λ k. k < length rows) (table_nodes hash rows) (nodes_of (digits hash) q) (table-carries hash q bs rows t) (table-all-carried hash q bs rows t h) (table-all-inside hash rows)

    pub table-MeetsTie : MeetsTie (table_nodes hash rows) → MeetsTie (nodes_of (digits hash) q)
    table-MeetsTie = MeetsTie-carried (at bs) (λ k. k < length rows) (table_nodes hash rows) (nodes_of (digits hash) q) (table-carries hash q bs rows t) (table-all-carried hash q bs rows t h) (table-all-inside hash rows)

    pub table-WorkOver : (n : ℕ) → WorkOver (table_nodes hash rows) n → WorkOver (nodes_of (digits hash) q) n
    table-WorkOver = WorkOver-carried (at bs) (λ k. k < length rows) (table_nodes hash rows) (nodes_of (digits hash) q) (table-carries hash q bs rows t) (table-all-carried hash q bs rows t h) (table-all-inside hash rows)

    pub table-HasLabels : (c : List ℕ) → IsCanonicalIssuer (table_nodes hash rows) c → IsCanonicalIssuer (nodes_of (digits hash) q) (map (at bs) c)
    table-HasLabels = HasLabels-carried (at bs) (λ k. k < length rows) (table_nodes hash rows) (nodes_of (digits hash) q) (table-carries hash q bs rows t) (table-all-carried hash q bs rows t h) (table-all-inside hash rows)

    pub table-IsWithinWork : (n : ℕ) → IsWithinWork (nodes_of (digits hash) q) n → IsWithinWork (table_nodes hash rows) n
    table-IsWithinWork = IsWithinWork-carried (at bs) (λ k. k < length rows) (table_nodes hash rows) (nodes_of (digits hash) q) (table-carries hash q bs rows t) (table-all-carried hash q bs rows t h) (table-all-inside hash rows)

    -- the nodes that a run names are rows of the table
    pub table-issuer : (r : RunOutcome ℕ) → IsRun (table_nodes hash rows) r → AllByRecursion (λ k. k < length rows) r.issuer
    table-issuer = IsRun-inside (at bs) (λ k. k < length rows) (table_nodes hash rows) (nodes_of (digits hash) q) (table-carries hash q bs rows t) (table-all-carried hash q bs rows t h) (table-all-inside hash rows)

-- ---- and back

-- the place of a blank node in a list
pub place_in : List Blank → Blank → ℕ
place_in [] b = 0
place_in (a ∷ bs) b = if same_blank a b then 0 else suc (place_in bs b)

place_if : (t : Bool) (a b : Blank) (bs : List Blank) (k : ℕ) → (t ≡ true → a ≡ b) → (t ≡ false → (k < length bs) × (at bs k ≡ b)) → ((if t then 0 else suc k) < length (a ∷ bs)) × (at (a ∷ bs) (if t then 0 else suc k) ≡ b)
place_if true a b bs k p r = (omega arith, p refl)
place_if false a b bs k p r = let h = r refl in let below : k < length bs = h.0 in (omega arith, h.1)

-- a blank node stands at its place
pub place-at : (bs : List Blank) (b : Blank) → Contains bs b → (place_in bs b < length bs) × (at bs (place_in bs b) ≡ b)
unfolding place_in
place-at [] b m = absurd (Contains-nil b m)
place-at (a ∷ bs) b m =
    place_if (same_blank a b) a b bs (place_in bs b) (same_blank-true a b)
    (λ e. place-at bs b (⊎_elim (λ k. absurd (same_blank-false a b e k)) (λ n. n) (Contains-cons_cases a bs b m)))

module _ (hash : Hash) (q : List Statement) (bs : List Blank) (rows : List NodeRow) (t : IsTableOf hash q bs rows) where
  pub table-length : length bs ≡ length rows
  table-length = as_long (IsRowOf hash q bs) bs rows t.each

  place_below : (b : Blank) → Contains bs b → place_in bs b < length rows
  place_below b m = let below : place_in bs b < length bs = (place-at bs b m).0 in let same : length bs ≡ length rows = table-length in omega arith

  at_contained : (k : ℕ) → k < length rows → Contains bs (at bs k)
  at_contained k p = let same : length bs ≡ length rows = table-length in Contains-get_or bs k no_blank (omega arith)

  place_back : (b : Blank) → Contains bs b → at bs (place_in bs b) ≡ b
  place_back b m = (place-at bs b m).1

  -- A dataset carries its blank nodes to the numbers of its table.
  pub dataset-carries : Carries (place_in bs) (Contains bs) (nodes_of (digits hash) q) (table_nodes hash rows)
  dataset-carries = Carries-back (at bs) (λ k. k < length rows) (table_nodes hash rows) (nodes_of (digits hash) q) (table-carries hash q bs rows t) (place_in bs) (Contains bs) place_below at_contained place_back

  pub dataset-all-inside : AllByRecursion (Contains bs) (blanks q)
  dataset-all-inside = Each-from_contains (Contains bs) (blanks q) (λ b m. t.covers b ((blanks-all q b).1 m))

  module _ (h : All (StandsIn q) bs) where
    pub dataset-all-carried : IsPermutation (map (place_in bs) (blanks q)) (table_nodes hash rows).all
    dataset-all-carried = all-back (at bs) (λ k. k < length rows) (table_nodes hash rows) (nodes_of (digits hash) q) (table-carries hash q bs rows t) (place_in bs) (Contains bs) place_below at_contained place_back (table-all-carried hash q bs rows t h) (table-all-inside hash rows)

    -- the table and the dataset meet ties alike, and are over a limit alike
    pub table-MeetsTie-iff : MeetsTie (table_nodes hash rows) ↔ MeetsTie (nodes_of (digits hash) q)
    table-MeetsTie-iff = (table-MeetsTie hash q bs rows t h, MeetsTie-carried (place_in bs) (Contains bs) (nodes_of (digits hash) q) (table_nodes hash rows) dataset-carries dataset-all-carried dataset-all-inside)

    pub table-WorkOver-iff : (n : ℕ) → WorkOver (table_nodes hash rows) n ↔ WorkOver (nodes_of (digits hash) q) n
    table-WorkOver-iff n = (table-WorkOver hash q bs rows t h n, WorkOver-carried (place_in bs) (Contains bs) (nodes_of (digits hash) q) (table_nodes hash rows) dataset-carries dataset-all-carried dataset-all-inside n)

    pub table-IsWithinWork-iff : (n : ℕ) → IsWithinWork (table_nodes hash rows) n ↔ IsWithinWork (nodes_of (digits hash) q) n
    table-IsWithinWork-iff n = (IsWithinWork-carried (place_in bs) (Contains bs) (nodes_of (digits hash) q) (table_nodes hash rows) dataset-carries dataset-all-carried dataset-all-inside n, table-IsWithinWork hash q bs rows t h n)

    pub dataset-HasLabels : (c : List Blank) → IsCanonicalIssuer (nodes_of (digits hash) q) c → IsCanonicalIssuer (table_nodes hash rows) (map (place_in bs) c)
    dataset-HasLabels = HasLabels-carried (place_in bs) (Contains bs) (nodes_of (digits hash) q) (table_nodes hash rows) dataset-carries dataset-all-carried dataset-all-inside

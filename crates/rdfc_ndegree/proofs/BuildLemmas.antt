-- Tables built of numbers: places, rows, and the related nodes of a row.
use Rattle.std.proofs.Common.{◌≡◌, ◌||◌, ◌==◌, ℕ, zero, suc, ◌<◌, ◌≤◌, List, [], ◌∷◌, ◌++◌, length, get_or, refl, sym, ap, ◌∙◌, subst, inl, inr, arith, Bool, true, false, cond, map, Contains, Option, Some, None, option_map, slice_get, append-nil, append_assoc}
use Rattle.std.proofs.Math.Bool.{or-true}
use Rattle.std.specs.Prelude.{◌⊎◌}
use Rattle.std.specs.Option.{option_eq, is_some}
use Rattle.std.specs.List.{AllByRecursion, flat_map}
use Rattle.std.proofs.lemmas.Bool.{false≢true}
use Rattle.std.proofs.lemmas.Bool.Decides.{Decides-eqb}
use Rattle.std.proofs.lemmas.List.{map-append}
use Rattle.std.proofs.lemmas.List.Elements.{Contains-append_left, Contains-append_right}
use Rattle.std.proofs.Math.ListN.{set}
use Rattle.base_types.proofs.Lists.{Contains-nil, Contains-here, Contains-there, Contains-cons_cases}
use Rattle.digest_mac.specs.declared.hash.Hash.{Hash}
use Rattle.term_store.specs.declared.store.TermId.{TermId}
use Rattle.nquads.specs.declared.hashes.BlankHash.{BlankHash}
use Rattle.rdfc_ndegree.specs.declared.building.Parts.{Parts}
use Rattle.rdfc_ndegree.specs.declared.table.Position.{Position}
use Rattle.rdfc_ndegree.specs.declared.table.Position.TheVariants as position
use Rattle.rdfc_ndegree.specs.declared.table.StoredRelated.{StoredRelated}
use Rattle.rdfc_ndegree.specs.declared.table.StoredRow.{StoredRow}
use Rattle.rdfc_ndegree.specs.Internal.Building.{number_among, place_among, numbers_of, new_row, with_row, with_rows, unused_node, related_nodes_at, related_nodes, with_related, relate_row, relate_node, relate_object, relate_parts, relate_all}

-- ---- places of numbers

-- what a function gives of an option is given of what is there
pub option_cases : {X Y : Type 0} (o : Option X) (f : X → Y) (y : Y) → option_map f o ≡ Some y → (x : X) × (o ≡ Some x) × (f x ≡ y)
option_cases None f y e = absurd (cc)
option_cases (Some x) f y e = (x, refl, cc)

-- at the place of a number stands that number
pub number-get : (ms : List ℕ) (n k : ℕ) → number_among ms n ≡ Some k → slice_get ms k ≡ Some n
number-get [] n k e = absurd (cc)
number-get (m ∷ ms) n k e = go (n == m) refl e (number-get ms n)
  where
    go : (t : Bool) → (n == m) ≡ t → cond t (Some 0) (option_map suc (number_among ms n)) ≡ Some k → ((j : ℕ) → number_among ms n ≡ Some j → slice_get ms j ≡ Some n) → slice_get (m ∷ ms) k ≡ Some n
    go true same e rest =
        let zeroth : 0 ≡ k = cc in
        subst (λ j. slice_get (m ∷ ms) j ≡ Some n) zeroth (ap Some (sym ((Decides-eqb n m).0 same)))
    go false other e rest = let j = option_cases (number_among ms n) suc k e in subst (λ j. slice_get (m ∷ ms) j ≡ Some n) j.2 (rest j.0 j.1)

-- a place is less than the count of numbers
pub number-below : (ms : List ℕ) (n k : ℕ) → number_among ms n ≡ Some k → k < length ms
number-below [] n k e = absurd (cc)
number-below (m ∷ ms) n k e = go (n == m) e (number-below ms n)
  where
    go : (t : Bool) → cond t (Some 0) (option_map suc (number_among ms n)) ≡ Some k → ((j : ℕ) → number_among ms n ≡ Some j → j < length ms) → k < length (m ∷ ms)
    go true e rest = let zeroth : 0 ≡ k = cc in omega arith
    go false e rest = let j = option_cases (number_among ms n) suc k e in let below = rest j.0 j.1 in let is = j.2 in omega arith

-- a number that is listed has a place
pub number-there : (ms : List ℕ) (n : ℕ) → Contains ms n → (k : ℕ) × (number_among ms n ≡ Some k)
number-there [] n c = absurd (Contains-nil n c)
number-there (m ∷ ms) n c = go (n == m) refl (number-there ms n) (Contains-cons_cases m ms n c)
  where
    go : (t : Bool) → (n == m) ≡ t → (Contains ms n → (k : ℕ) × (number_among ms n ≡ Some k)) → (m ≡ n) ⊎ Contains ms n → (k : ℕ) × (cond t (Some 0) (option_map suc (number_among ms n)) ≡ Some k)
    go true same rest c = (0, refl)
    go false other rest (inl e) = absurd (false≢true (sym other ∙ (Decides-eqb n m).1 (sym e)))
    go false other rest (inr d) = let k = rest d in (suc k.0, ap (option_map suc) k.1)

-- a number without a place is not listed
pub number-None : (ms : List ℕ) (n : ℕ) → number_among ms n ≡ None → Contains ms n → ⊥
number-None ms n e c = let k = number-there ms n c in let both : None ≡ Some k.0 = sym e ∙ k.1 in absurd (cc)

-- a number with a place is listed
pub number-Some : (ms : List ℕ) (n k : ℕ) → number_among ms n ≡ Some k → Contains ms n
number-Some ms n k e = got ms k (number-get ms n k e)
  where
    got : (ms : List ℕ) (k : ℕ) → slice_get ms k ≡ Some n → Contains ms n
    got [] k e = absurd (cc)
    got (m ∷ ms) zero e = subst (Contains (m ∷ ms)) (cc) (Contains-here m ms)
    got (m ∷ ms) (suc k) e = Contains-there m ms n (got ms k e)

-- ---- rows that are put in

-- with a row put at the end, its number comes after those of the rows
pub numbers-append : (rows : List StoredRow) (row : StoredRow) → numbers_of (rows ++ row ∷ []) ≡ numbers_of rows ++ row.blank.index ∷ []
numbers-append rows row = map-append (λ (r : StoredRow). r.blank.index) rows (row ∷ [])

-- numbers stay, and what is put in has one

module _ (rows : List StoredRow) (h : BlankHash) where
  with_row-kept : (x : ℕ) → Contains (numbers_of rows) x → Contains (numbers_of (with_row rows h)) x
  with_row-kept x c = go (is_some (place_among (numbers_of rows) h.blank))
    where
      go : (t : Bool) → Contains (numbers_of (cond t rows (rows ++ new_row h ∷ []))) x
      go true = c
      go false = subst (λ ns. Contains ns x) (sym (numbers-append rows (new_row h))) (Contains-append_left (numbers_of rows) (h.blank.index ∷ []) x c)

  with_row-named : Contains (numbers_of (with_row rows h)) h.blank.index
  with_row-named = go (place_among (numbers_of rows) h.blank) refl
    where
      go : (o : Option ℕ) → place_among (numbers_of rows) h.blank ≡ o → Contains (numbers_of (cond (is_some o) rows (rows ++ new_row h ∷ []))) h.blank.index
      go (Some k) e = number-Some (numbers_of rows) h.blank.index k e
      go None e = subst (λ ns. Contains ns h.blank.index) (sym (numbers-append rows (new_row h))) (Contains-append_right (numbers_of rows) (h.blank.index ∷ []) h.blank.index (Contains-here h.blank.index []))

with_rows-kept : (rows : List StoredRow) (hs : List BlankHash) (x : ℕ) → Contains (numbers_of rows) x → Contains (numbers_of (with_rows rows hs)) x
with_rows-kept rows [] x c = c
with_rows-kept rows (h ∷ hs) x c = with_rows-kept (with_row rows h) hs x (with_row-kept rows h x c)

-- each of the unused nodes has a row once rows for them are put in
pub others-named : (hash : Hash) (rows : List StoredRow) (others : List TermId) → AllByRecursion (Contains (numbers_of (with_rows rows (map (unused_node hash) others)))) (map (λ (id : TermId). id.index) others)
others-named hash rows [] = tt
others-named hash rows (other ∷ others) =
    let row = unused_node hash other in
    (with_rows-kept (with_row rows row) (map (unused_node hash) others) other.index (with_row-named rows row), others-named hash (with_row rows row) others)

-- ---- related nodes of one row

more-nothing : (row : StoredRow) → with_related row [] ≡ row
more-nothing row = let e = append-nil row.related in λ i. record { blank = row.blank; first = row.first; related = e i }

more-more : (row : StoredRow) (rs ss : List StoredRelated) → with_related (with_related row rs) ss ≡ with_related row (rs ++ ss)
more-more row rs ss = let e = append_assoc row.related rs ss in λ i. record { blank = row.blank; first = row.first; related = e i }

-- a row that gets no related nodes leaves the rows as they are
pub related_at-nothing : (rows : List StoredRow) (n : ℕ) → relate_row rows n [] ≡ rows
related_at-nothing [] n = refl
related_at-nothing (row ∷ rows) zero = ap (λ r. r ∷ rows) (more-nothing row)
related_at-nothing (row ∷ rows) (suc n) = ap (λ rs. row ∷ rs) (related_at-nothing rows n)

-- a row that gets related nodes twice gets the one list and then the other
pub related_at-related_at : (rows : List StoredRow) (n : ℕ) (rs ss : List StoredRelated) → relate_row (relate_row rows n rs) n ss ≡ relate_row rows n (rs ++ ss)
related_at-related_at [] n rs ss = refl
related_at-related_at (row ∷ rows) zero rs ss = ap (λ r. r ∷ rows) (more-more row rs ss)
related_at-related_at (row ∷ rows) (suc n) rs ss = ap (λ rs. row ∷ rs) (related_at-related_at rows n rs ss)

-- related nodes for a row past the last one change nothing
pub related_at-past : (rows : List StoredRow) (n : ℕ) (rs : List StoredRelated) → length rows ≤ n → relate_row rows n rs ≡ rows
related_at-past [] n rs le = refl
related_at-past (row ∷ rows) zero rs le = absurd (omega arith)
related_at-past (row ∷ rows) (suc n) rs le = ap (λ rs. row ∷ rs) (related_at-past rows n rs (omega arith))

-- a row that gets related nodes leaves the numbers of the rows as they are
pub numbers-related_at : (rows : List StoredRow) (n : ℕ) (rs : List StoredRelated) → numbers_of (relate_row rows n rs) ≡ numbers_of rows
numbers-related_at [] n rs = refl
numbers-related_at (row ∷ rows) zero rs = refl
numbers-related_at (row ∷ rows) (suc n) rs = ap (λ ns. row.blank.index ∷ ns) (numbers-related_at rows n rs)

-- ---- what all rows get

-- whether a part is the node
abbrev pub is_at : ℕ → Option ℕ → Bool
is_at k None = false
is_at k (Some n) = n == k

unfoldable pub stands : ℕ → Parts → Bool
stands k p = (is_at k p.subject || is_at k p.object) || is_at k p.graph

abbrev pub given : ℕ → Parts → List StoredRelated
given k p = cond (stands k p) (related_nodes k p) []

-- the k-th row of `new` is that of `old` with these related nodes more
abbrev Gets : List StoredRow → List StoredRow → ℕ → List StoredRelated → Type 0
Gets old new k rs = slice_get new k ≡ option_map (λ (r : StoredRow). with_related r rs) (slice_get old k)

gets-nothing : (rows : List StoredRow) (k : ℕ) → Gets rows rows k []
gets-nothing rows k = go (slice_get rows k)
  where
    go : (o : Option StoredRow) → o ≡ option_map (λ (r : StoredRow). with_related r []) o
    go None = refl
    go (Some r) = ap Some (sym (more-nothing r))

gets-more : (a b c : List StoredRow) (k : ℕ) (rs ss : List StoredRelated) → Gets a b k rs → Gets b c k ss → Gets a c k (rs ++ ss)
gets-more a b c k rs ss first second = second ∙ ap (option_map (λ (r : StoredRow). with_related r ss)) first ∙ go (slice_get a k)
  where
    go : (o : Option StoredRow) → option_map (λ (r : StoredRow). with_related r ss) (option_map (λ (r : StoredRow). with_related r rs) o) ≡ option_map (λ (r : StoredRow). with_related r (rs ++ ss)) o
    go None = refl
    go (Some r) = ap Some (more-more r rs ss)

gets-same : (rows : List StoredRow) (k : ℕ) (rs : List StoredRelated) → Gets rows (relate_row rows k rs) k rs
gets-same [] k rs = refl
gets-same (row ∷ rows) zero rs = refl
gets-same (row ∷ rows) (suc k) rs = gets-same rows k rs

gets-other : (rows : List StoredRow) (n k : ℕ) (rs : List StoredRelated) → (n ≡ k → ⊥) → Gets rows (relate_row rows n rs) k []
gets-other [] n k rs other = refl
gets-other (row ∷ rows) zero zero rs other = absurd (other refl)
gets-other (row ∷ rows) zero (suc k) rs other = gets-nothing rows k
gets-other (row ∷ rows) (suc n) zero rs other = gets-nothing (row ∷ []) 0
gets-other (row ∷ rows) (suc n) (suc k) rs other = gets-other rows n k rs (λ e. other (ap suc e))

gets-related_at : (rows : List StoredRow) (n k : ℕ) (rs : List StoredRelated) → Gets rows (relate_row rows n rs) k (cond (n == k) rs [])
gets-related_at rows n k rs = go (n == k) refl
  where
    go : (t : Bool) → (n == k) ≡ t → Gets rows (relate_row rows n rs) k (cond t rs [])
    go true e = subst (λ m. Gets rows (relate_row rows m rs) k rs) (sym ((Decides-eqb n k).0 e)) (gets-same rows k rs)
    go false e = gets-other rows n k rs (λ f. false≢true (sym e ∙ (Decides-eqb n k).1 f))

links_if : (n k : ℕ) (p : Parts) (t : Bool) → (n == k) ≡ t → cond t (related_nodes n p) [] ≡ cond t (related_nodes k p) []
links_if n k p true e = ap (λ j. related_nodes j p) ((Decides-eqb n k).0 e)
links_if n k p false e = refl

gets-node : (rows : List StoredRow) (o : Option ℕ) (p : Parts) (k : ℕ) → Gets rows (relate_node rows o p) k (cond (is_at k o) (related_nodes k p) [])
gets-node rows None p k = gets-nothing rows k
gets-node rows (Some n) p k = subst (Gets rows (relate_row rows n (related_nodes n p)) k) (links_if n k p (n == k) refl) (gets-related_at rows n k (related_nodes n p))

gets-if : (t : Bool) (rows : List StoredRow) (o : Option ℕ) (p : Parts) (k : ℕ) → Gets rows (cond t rows (relate_node rows o p)) k (cond t [] (cond (is_at k o) (related_nodes k p) []))
gets-if true rows o p k = gets-nothing rows k
gets-if false rows o p k = gets-node rows o p k

pick : (rs : List StoredRelated) (p q r : Bool) → (p ≡ true → q ≡ true → r ≡ true) → (p ≡ false → q ≡ true → r ≡ false) → cond p rs [] ++ cond r [] (cond q rs []) ≡ cond (p || q) rs []
pick rs true true true f g = append-nil rs
pick rs true true false f g = absurd (false≢true (f refl refl))
pick rs true false true f g = append-nil rs
pick rs true false false f g = append-nil rs
pick rs false true true f g = absurd (false≢true (sym (g refl refl)))
pick rs false true false f g = refl
pick rs false false true f g = refl
pick rs false false false f g = refl

is_at-Some : (k : ℕ) (o : Option ℕ) → is_at k o ≡ true → o ≡ Some k
is_at-Some k None e = absurd (false≢true e)
is_at-Some k (Some n) e = ap Some ((Decides-eqb n k).0 e)

option_eq-Some : (a b : Option ℕ) (k : ℕ) → a ≡ Some k → b ≡ Some k → option_eq ◌==◌ a b ≡ true
option_eq-Some a b k e f = (λ i. option_eq ◌==◌ (e i) (f i)) ∙ (Decides-eqb k k).1 refl

option_eq-other : (a : Option ℕ) (b : Option ℕ) (k : ℕ) → is_at k a ≡ false → b ≡ Some k → option_eq ◌==◌ a b ≡ false
option_eq-other None b k e f = ap (option_eq ◌==◌ None) f
option_eq-other (Some n) b k e f = ap (option_eq ◌==◌ (Some n)) f ∙ e

same_both : (k : ℕ) (a b : Option ℕ) → is_at k a ≡ true → is_at k b ≡ true → option_eq ◌==◌ a b ≡ true
same_both k a b e f = option_eq-Some a b k (is_at-Some k a e) (is_at-Some k b f)

apart_both : (k : ℕ) (a b : Option ℕ) → is_at k a ≡ false → is_at k b ≡ true → option_eq ◌==◌ a b ≡ false
apart_both k a b e f = option_eq-other a b k e (is_at-Some k b f)

or_same : (k : ℕ) (a b g : Option ℕ) → (is_at k a || is_at k b) ≡ true → is_at k g ≡ true → (option_eq ◌==◌ a g || option_eq ◌==◌ b g) ≡ true
or_same k a b g e f = go (is_at k a) refl e
  where
    go : (t : Bool) → is_at k a ≡ t → (t || is_at k b) ≡ true → (option_eq ◌==◌ a g || option_eq ◌==◌ b g) ≡ true
    go true h e = ap (λ p. p || option_eq ◌==◌ b g) (same_both k a g h f)
    go false h e = ap (λ p. option_eq ◌==◌ a g || p) (same_both k b g e f) ∙ or-true (option_eq ◌==◌ a g)

or_apart : (k : ℕ) (a b g : Option ℕ) → (is_at k a || is_at k b) ≡ false → is_at k g ≡ true → (option_eq ◌==◌ a g || option_eq ◌==◌ b g) ≡ false
or_apart k a b g e f = go (is_at k a) refl e
  where
    go : (t : Bool) → is_at k a ≡ t → (t || is_at k b) ≡ false → (option_eq ◌==◌ a g || option_eq ◌==◌ b g) ≡ false
    go true h e = absurd (false≢true (sym e))
    go false h e = λ i. apart_both k a g h f i || apart_both k b g e f i

gets-relate : (rows : List StoredRow) (p : Parts) (k : ℕ) → Gets rows (relate_parts rows p) k (given k p)
unfolding stands
gets-relate rows p k =
    let one = relate_node rows p.subject p in
    let two = relate_object one p in
    let a = gets-node rows p.subject p k in
    let b = gets-if (option_eq ◌==◌ p.subject p.object) one p.object p k in
    let c = gets-if (option_eq ◌==◌ p.subject p.graph || option_eq ◌==◌ p.object p.graph) two p.graph p k in
    let first = pick (related_nodes k p) (is_at k p.subject) (is_at k p.object) (option_eq ◌==◌ p.subject p.object) (same_both k p.subject p.object) (apart_both k p.subject p.object) in
    let second = pick (related_nodes k p) (is_at k p.subject || is_at k p.object) (is_at k p.graph) (option_eq ◌==◌ p.subject p.graph || option_eq ◌==◌ p.object p.graph) (or_same k p.subject p.object p.graph) (or_apart k p.subject p.object p.graph) in
    let d : Gets rows two k (cond (is_at k p.subject || is_at k p.object) (related_nodes k p) []) = subst (Gets rows two k) first (gets-more rows one two k _ _ a b) in
    subst (Gets rows (relate_parts rows p) k) second (gets-more rows two (relate_parts rows p) k _ _ d c)

-- row k gets, from each statement in turn, what that statement gives to node k
pub gets-all : (rows : List StoredRow) (ps : List Parts) (k : ℕ) → slice_get (relate_all rows ps) k ≡ option_map (λ (r : StoredRow). with_related r (flat_map (given k) ps)) (slice_get rows k)
gets-all rows [] k = gets-nothing rows k
gets-all rows (p ∷ ps) k = gets-more rows (relate_parts rows p) (relate_all (relate_parts rows p) ps) k (given k p) (flat_map (given k) ps) (gets-relate rows p k) (gets-all (relate_parts rows p) ps k)

-- ---- numbers stay

numbers-node : (rows : List StoredRow) (o : Option ℕ) (p : Parts) → numbers_of (relate_node rows o p) ≡ numbers_of rows
numbers-node rows None p = refl
numbers-node rows (Some n) p = numbers-related_at rows n (related_nodes n p)

numbers-if : (t : Bool) (rows : List StoredRow) (o : Option ℕ) (p : Parts) → numbers_of (cond t rows (relate_node rows o p)) ≡ numbers_of rows
numbers-if true rows o p = refl
numbers-if false rows o p = numbers-node rows o p

-- relating the nodes of all statements leaves the numbers of the rows as they are
pub numbers-all : (rows : List StoredRow) (ps : List Parts) → numbers_of (relate_all rows ps) ≡ numbers_of rows
numbers-all rows [] = refl
numbers-all rows (p ∷ ps) =
    let one = relate_node rows p.subject p in
    let two = relate_object one p in
    numbers-all (relate_parts rows p) ps
    ∙ numbers-if (option_eq ◌==◌ p.subject p.graph || option_eq ◌==◌ p.object p.graph) two p.graph p
    ∙ numbers-if (option_eq ◌==◌ p.subject p.object) one p.object p
    ∙ numbers-node rows p.subject p

-- ---- one node pushed to the row of another

-- a position that holds no node gives the row of n nothing
pub push-None : (rows : List StoredRow) (n : ℕ) (position : Position) (predicate : TermId) (o : Option ℕ) → o ≡ None → rows ≡ relate_row rows n (related_nodes_at n position predicate o)
push-None rows n position predicate o e = sym (ap (λ o. relate_row rows n (related_nodes_at n position predicate o)) e ∙ related_at-nothing rows n)

-- a position that holds n itself gives the row of n nothing
pub push-same : (rows : List StoredRow) (n m : ℕ) (position : Position) (predicate : TermId) (o : Option ℕ) → o ≡ Some m → m ≡ n → rows ≡ relate_row rows n (related_nodes_at n position predicate o)
push-same rows n m position predicate o e same =
    let t : (m == n) ≡ true = (Decides-eqb m n).1 same in
    sym (ap (λ o. relate_row rows n (related_nodes_at n position predicate o)) e ∙ ap (λ b. relate_row rows n (cond b [] (record { position = position; predicate = predicate; node = m } ∷ []))) t ∙ related_at-nothing rows n)

related_at-set : (rows : List StoredRow) (n : ℕ) (row : StoredRow) (rs : List StoredRelated) → n < length rows → row ≡ get_or rows n row → set rows n (with_related row rs) ≡ relate_row rows n rs
related_at-set [] n row rs within e = absurd (omega arith)
related_at-set (r ∷ rows) zero row rs within e = ap (λ z. with_related z rs ∷ rows) e
related_at-set (r ∷ rows) (suc n) row rs within e = ap (λ ls. r ∷ ls) (related_at-set rows n row rs (omega arith) e)

-- putting another node at the end of the row of n is what its position gives to that row
pub push-other : (rows : List StoredRow) (n m : ℕ) (position : Position) (predicate : TermId) (o : Option ℕ) (row : StoredRow) (pushed : List StoredRelated) (new : List StoredRow) → o ≡ Some m → (m ≡ n → ⊥) → n < length rows → row ≡ get_or rows n row → pushed ≡ row.related ++ record { position = position; predicate = predicate; node = m } ∷ [] → new ≡ set rows n record { blank = row.blank; first = row.first; related = pushed } → new ≡ relate_row rows n (related_nodes_at n position predicate o)
push-other rows n m position predicate o row pushed new e other within at is made =
    let t : (m == n) ≡ false = apart (m == n) refl in
    made ∙ (λ i. set rows n record { blank = row.blank; first = row.first; related = is i })
    ∙ related_at-set rows n row (record { position = position; predicate = predicate; node = m } ∷ []) within at
    ∙ sym (ap (λ o. relate_row rows n (related_nodes_at n position predicate o)) e ∙ ap (λ b. relate_row rows n (cond b [] (record { position = position; predicate = predicate; node = m } ∷ []))) t)
  where
    apart : (b : Bool) → (m == n) ≡ b → b ≡ false
    apart true f = absurd (other ((Decides-eqb m n).0 f))
    apart false f = refl

-- what subject, object and graph give to a node's row, in turn, is what its statement gives
pub push-three : (rows one two three : List StoredRow) (n : ℕ) (o : Option ℕ) (p : Parts) → o ≡ Some n → one ≡ relate_row rows n (related_nodes_at n position.Subject p.predicate p.subject) → two ≡ relate_row one n (related_nodes_at n position.Object p.predicate p.object) → three ≡ relate_row two n (related_nodes_at n position.Graph p.predicate p.graph) → three ≡ relate_node rows o p
push-three rows one two three n o p e a b c =
    let s = related_nodes_at n position.Subject p.predicate p.subject in
    let t = related_nodes_at n position.Object p.predicate p.object in
    let u = related_nodes_at n position.Graph p.predicate p.graph in
    c ∙ ap (λ rs. relate_row rs n u) (b ∙ ap (λ rs. relate_row rs n t) a)
    ∙ ap (λ rs. relate_row rs n u) (related_at-related_at rows n s t)
    ∙ related_at-related_at rows n (s ++ t) u
    ∙ ap (relate_row rows n) (append_assoc s t u)
    ∙ sym (ap (λ o. relate_node rows o p) e)

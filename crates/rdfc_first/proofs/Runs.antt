-- Marked lines in order: the runs of one blank node, and what is digested of them.
use Rattle.std.proofs.Common.{append-nil, append_assoc, ◌≡◌, ◌==◌, ℕ, zero, suc, ◌+◌, ◌<◌, ◌≤◌, Bool, true, false, cond, List, [], ◌∷◌, ◌++◌, map, filter, take, drop, get_or, refl, sym, ap, ◌∙◌, subst, inl, inr, ⊎_elim, arith, Ordering, Contains, Some, None, slice_get, nat_cmp}
use Rattle.std.proofs.lemmas.Bool.{cases_lt, eqb-false, false_from_ne_true}
use Rattle.std.proofs.lemmas.Bool.Decides.{Decides-eqb}
use Rattle.std.specs.List.{AllByRecursion, concat, sum_by}
use Rattle.std.specs.Prelude.{All}
use Rattle.std.specs.List.Sorted.{IsPermutation, IsSorted, IsStrictlySortedBy}
use Rattle.std.specs.Cmp.{IsTotalOrder}
use Rattle.std.specs.Ordering.{is_lt, ordering_then}
use Rattle.std.specs.declared.cmp.Ordering.TheVariants.{Less}
use Rattle.std.proofs.lemmas.Cmp.{ranked, by_ranked}
use Rattle.std.specs.Cmp.{nat_cmp_is}
use Rattle.std.proofs.lemmas.List.{map-append, take-append-drop}
use Rattle.std.proofs.lemmas.List.Elements.{filter-append, recursion_from_All, Contains-append_left, Contains-append_right, Contains-append_cases}
use Rattle.std.proofs.lemmas.List.Sums.{sum_by-cons}
use Rattle.std.proofs.lemmas.List.Sorted.{sorted_far, ranks_by, sum_by-IsPermutation}
use Rattle.base_types.specs.Order.{is_upto, in_order}
use Rattle.base_types.proofs.Lists.{get_or-next, Contains-nil, Contains-here, Contains-there, Contains-cons_cases, Contains-from_map, AllByRecursion-contains}
use Rattle.base_types.proofs.Orders.{text_cmp, upto_if, once, in_order-only, InOrder, IsSorted-InOrder}
use Rattle.term_store.specs.declared.store.TermId.{TermId}
use Rattle.nquads.specs.declared.hashes.BlankHash.{BlankHash}
use Rattle.rdfc_first.specs.declared.mentions.MentionLine.{MentionLine}
use Rattle.rdfc_first.specs.contracts.mentions.MentionLineOrd.TheImpl.Laws.{total-law}
use Rattle.rdfc_first.specs.Internal.Grouping.{blank_hash, lines_for, IsHashOf, AreHashesOf, IsUptoLine, InBlankOrder, run_of}
use Rattle.rdfc_first.proofs.Filters.{filter-all, filter-none, IsPermutation-from_counts}

abbrev blank_of : MentionLine → TermId
blank_of m = m.blank

abbrev line_in : MentionLine → List ℕ
line_in m = m.line

-- ---- what a sort leaves is in order

-- the order of the lines: by blank node, then by text
abbrev pub line_cmp : MentionLine → MentionLine → Ordering
line_cmp x y = ordering_then (nat_cmp x.blank.index y.blank.index) (text_cmp x.line y.line)

line_total : IsTotalOrder line_cmp
line_total = total-law

line_upto : (m n : MentionLine) → is_lt (line_cmp n m) ≡ false → IsUptoLine m n
line_upto m n e =
    by_ranked (n.blank.index < m.blank.index) (n.blank.index ≡ m.blank.index) (m.blank.index < n.blank.index) (nat_cmp n.blank.index m.blank.index) (ranked n.blank.index m.blank.index _ refl)
    (λ f l. let a : is_lt (line_cmp n m) ≡ true = ap (λ o. is_lt (ordering_then o (text_cmp n.line m.line))) f in absurd (cc))
    (λ f l.
    let a : is_lt (line_cmp n m) ≡ is_lt (text_cmp n.line m.line) = ap (λ o. is_lt (ordering_then o (text_cmp n.line m.line))) f in
    record { blanks = omega arith; lines = λ g. upto_if m.line n.line (sym a ∙ e) })
    (λ f l. record { blanks = omega arith; lines = λ g. absurd (omega arith) })

each_upto : (m : MentionLine) (ns : List MentionLine) → AllByRecursion (λ n. is_lt (line_cmp n m) ≡ false) ns → AllByRecursion (IsUptoLine m) ns
each_upto m [] all = tt
each_upto m (n ∷ ns) all = (line_upto m n all.0, each_upto m ns all.1)

-- a sort leaves lines by blank node
pub InBlankOrder-from_sorted : (ms : List MentionLine) → IsSorted line_cmp ms → InBlankOrder ms
InBlankOrder-from_sorted [] up = tt
InBlankOrder-from_sorted (m ∷ ms) up =
    let far : All (λ n. is_lt (line_cmp n m) ≡ false) ms = λ k d in'. sorted_far (λ x y. is_lt (line_cmp x y)) (ranks_by line_total (λ x. x)) (m ∷ ms) up 0 (suc k) d (omega arith) (omega arith) in
    (each_upto m ms (recursion_from_All (λ n. is_lt (line_cmp n m) ≡ false) ms far), InBlankOrder-from_sorted ms (λ k d low high. subst (λ v. is_lt (line_cmp v (get_or ms k d)) ≡ false) (get_or-next m ms k d) (up (suc k) d (omega arith) (omega arith))))

-- ---- the first run

-- the later lines of lines by blank node are so too
pub InBlankOrder-drop : (n : ℕ) (ms : List MentionLine) → InBlankOrder ms → InBlankOrder (drop n ms)
InBlankOrder-drop zero ms up = up
InBlankOrder-drop (suc n) [] up = tt
InBlankOrder-drop (suc n) (m ∷ ms) up = InBlankOrder-drop n ms up.1

-- the lines are those of the blank node; they are those of later ones
abbrev AreOf : TermId → List MentionLine → Type 0
AreOf b ms = AllByRecursion (λ (m : MentionLine). (m.blank.index == b.index) ≡ true) ms

abbrev AreAfter : TermId → List MentionLine → Type 0
AreAfter b ms = AllByRecursion (λ (m : MentionLine). b.index < m.blank.index) ms

run-all : (b : TermId) (ms : List MentionLine) → AreOf b (take (run_of b ms) ms)
run-all b [] = tt
run-all b (m ∷ ms) = go (m.blank.index == b.index) refl (run-all b ms)
  where
    go : (t : Bool) → (m.blank.index == b.index) ≡ t → AreOf b (take (run_of b ms) ms) → AreOf b (take (cond t (suc (run_of b ms)) 0) (m ∷ ms))
    go true e rest = (e, rest)
    go false e rest = tt

all_after : (b : TermId) (m : MentionLine) (ms : List MentionLine) → b.index < m.blank.index → AllByRecursion (IsUptoLine m) ms → AreAfter b ms
all_after b m [] less up = tt
all_after b m (n ∷ ns) less up = let next : m.blank.index ≤ n.blank.index = up.0.blanks in (omega arith, all_after b m ns less up.1)

less_if : (j k : ℕ) → j ≤ k → (k == j) ≡ false → j < k
less_if j k le e = ⊎_elim (λ l. l) (λ ge. absurd (eqb-false k j e (omega arith))) (cases_lt j k)

-- after the lines of a blank node come those of greater ones
pub run-after : (b : TermId) (ms : List MentionLine) → AllByRecursion (λ (m : MentionLine). b.index ≤ m.blank.index) ms → InBlankOrder ms → AreAfter b (drop (run_of b ms) ms)
run-after b [] above up = tt
run-after b (m ∷ ms) above up = go (m.blank.index == b.index) refl (run-after b ms above.1 up.1)
  where
    go : (t : Bool) → (m.blank.index == b.index) ≡ t → AreAfter b (drop (run_of b ms) ms) → AreAfter b (drop (cond t (suc (run_of b ms)) 0) (m ∷ ms))
    go true e rest = rest
    go false e rest = let less = less_if b.index m.blank.index above.0 e in (less, all_after b m ms less up.0)

blanks_upto : (m : MentionLine) (ms : List MentionLine) → AllByRecursion (IsUptoLine m) ms → AllByRecursion (λ (n : MentionLine). m.blank.index ≤ n.blank.index) ms
blanks_upto m [] up = tt
blanks_upto m (n ∷ ns) up = (up.0.blanks, blanks_upto m ns up.1)

-- ---- a run and what is left

apart : (j k : ℕ) → (j ≡ k → ⊥) → (j == k) ≡ false
apart j k n = false_from_ne_true (j == k) (λ e. n ((Decides-eqb j k).0 e))

none_same : (b : TermId) (ms : List MentionLine) → AreAfter b ms → AllByRecursion (λ (m : MentionLine). (m.blank.index == b.index) ≡ false) ms
none_same b [] all = tt
none_same b (m ∷ ms) all = let less : b.index < m.blank.index = all.0 in (apart m.blank.index b.index (λ e. absurd (omega arith)), none_same b ms all.1)

others_false : (b c : TermId) (ms : List MentionLine) → (b.index ≡ c.index → ⊥) → AreOf b ms → AllByRecursion (λ (m : MentionLine). (m.blank.index == c.index) ≡ false) ms
others_false b c [] n all = tt
others_false b c (m ∷ ms) n all = (apart m.blank.index c.index (λ e. n (sym ((Decides-eqb m.blank.index b.index).0 all.0) ∙ e)), others_false b c ms n all.1)

-- nothing rises, and what stands in front of greater numbers
rises-nil : IsStrictlySortedBy nat_cmp []
unfolding IsStrictlySortedBy
rises-nil = tt

rises-cons : (x : ℕ) (xs : List ℕ) → AllByRecursion (λ y. nat_cmp x y ≡ Less) xs → IsStrictlySortedBy nat_cmp xs → IsStrictlySortedBy nat_cmp (x ∷ xs)
unfolding IsStrictlySortedBy
rises-cons x xs below up = (below, up)

module _ (digest : List ℕ → List ℕ) (b : TermId) (run later : List MentionLine) (in_run : AreOf b run) (after : AreAfter b later) (here : Contains (map blank_of run) b) where
  abbrev run_hash : BlankHash
  run_hash = blank_hash b (digest (concat (map line_in run)))

  lines_for-run : lines_for b (run ++ later) ≡ map line_in run
  lines_for-run =
      let p = λ (m : MentionLine). m.blank.index == b.index in
      let e : filter p (run ++ later) ≡ filter p run ++ filter p later = filter-append p run later in
      let f : filter p run ≡ run = filter-all p run in_run in
      let g : filter p later ≡ [] = filter-none p later (none_same b later after) in
      ap (map line_in) (e ∙ (λ i. f i ++ g i) ∙ append-nil run)

  lines_for-later : (c : TermId) → (b.index ≡ c.index → ⊥) → lines_for c (run ++ later) ≡ lines_for c later
  lines_for-later c n =
      let p = λ (m : MentionLine). m.blank.index == c.index in
      let e : filter p (run ++ later) ≡ filter p run ++ filter p later = filter-append p run later in
      let f : filter p run ≡ [] = filter-none p run (others_false b c run n in_run) in
      ap (map line_in) (e ∙ (λ i. f i ++ filter p later))

  blanks_after : (c : TermId) → Contains (map blank_of later) c → b.index < c.index
  blanks_after c k =
      let m = Contains-from_map blank_of later c k in
      subst (λ (z : TermId). b.index < z.index) m.2 (AllByRecursion-contains (λ (m : MentionLine). b.index < m.blank.index) later m.0 after m.1)

  blanks_are : map blank_of (run ++ later) ≡ map blank_of run ++ map blank_of later
  blanks_are = map-append blank_of run later

  in_run_is : (c : TermId) → Contains (map blank_of run) c → c.index ≡ b.index
  in_run_is c k =
      let m = Contains-from_map blank_of run c k in
      subst (λ (z : TermId). z.index ≡ b.index) m.2 ((Decides-eqb m.0.blank.index b.index).0 (AllByRecursion-contains (λ (m : MentionLine). (m.blank.index == b.index) ≡ true) run m.0 in_run m.1))

  module _ (hs : List BlankHash) (are : AreHashesOf digest later hs) where
    hash_after : (h : BlankHash) → Contains hs h → b.index < h.blank.index
    hash_after h k = blanks_after h.blank ((are.exact h).0 k).0

    below : (gs : List BlankHash) → ((g : BlankHash) → Contains gs g → Contains hs g) → AllByRecursion (λ y. nat_cmp b.index y ≡ Less) (map (λ (h : BlankHash). h.blank.index) gs)
    below [] among = tt
    below (g ∷ gs) among = (sym (nat_cmp_is b.index g.blank.index Less (hash_after g (among g (Contains-here g gs)))), below gs (λ h k. among h (Contains-there g gs h k)))

    to_hash : (g : BlankHash) → Contains (run_hash ∷ hs) g → IsHashOf digest (run ++ later) g
    to_hash g k =
        elim (Contains-cons_cases run_hash hs g k) [
          | inl e ↦ subst (IsHashOf digest (run ++ later)) e
              (subst (λ bs. Contains bs b) (sym blanks_are) (Contains-append_left (map blank_of run) (map blank_of later) b here), ap (λ ls. digest (concat ls)) (sym lines_for-run))
          | inr d ↦
              let less = hash_after g d in
              let told = (are.exact g).0 d in (
                subst (λ bs. Contains bs g.blank) (sym blanks_are) (Contains-append_right (map blank_of run) (map blank_of later) g.blank told.0),
                told.1 ∙ ap (λ ls. digest (concat ls)) (sym (lines_for-later g.blank (λ e. absurd (omega arith)))),
              )
        ]

    from_hash : (g : BlankHash) → IsHashOf digest (run ++ later) g → Contains (run_hash ∷ hs) g
    from_hash g told = go (g.blank.index == b.index) refl
      where
        go : (t : Bool) → (g.blank.index == b.index) ≡ t → Contains (run_hash ∷ hs) g
        go true e =
            let numbers = (Decides-eqb g.blank.index b.index).0 e in
            let same : g.blank ≡ b = λ i. record { index = numbers i } in
            let hash : g.hash ≡ digest (concat (map line_in run)) = told.1 ∙ ap (λ (z : TermId). digest (concat (lines_for z (run ++ later)))) same ∙ ap (λ ls. digest (concat ls)) lines_for-run in
            let whole : run_hash ≡ g = λ i. record { blank = sym same i; hash = sym hash i } in
            subst (Contains (run_hash ∷ hs)) whole (Contains-here run_hash hs)
        go false e =
            let other = eqb-false g.blank.index b.index e in
            let there : Contains (map blank_of later) g.blank =
            elim (Contains-append_cases (map blank_of run) (map blank_of later) g.blank (subst (λ bs. Contains bs g.blank) blanks_are told.0)) [
              | inl d ↦ absurd (other (in_run_is g.blank d))
              | inr d ↦ d
            ] in
            Contains-there run_hash hs g ((are.exact g).1 (there, told.1 ∙ ap (λ ls. digest (concat ls)) (lines_for-later g.blank (λ f. other (sym f)))))

    -- the hashes: that of the first run, and those of the later lines
    pub hashes-run : AreHashesOf digest (run ++ later) (run_hash ∷ hs)
    hashes-run = record {
      rise = rises-cons b.index (map (λ (h : BlankHash). h.blank.index) hs) (below hs (λ h k. k)) are.rise;
      exact = λ g. (to_hash g, from_hash g);
    }

-- one turn of the loop over the runs
pub record Turn (digest : List ℕ → List ℕ) (lines : List MentionLine) (hash : BlankHash) (n : ℕ) (later : List MentionLine) : Type 0 where
  pub goes_on : (hs : List BlankHash) → AreHashesOf digest later hs → AreHashesOf digest lines (hash ∷ hs)
  pub in_order : InBlankOrder later
  pub some : 0 < n

turn_of : (digest : List ℕ → List ℕ) (m : MentionLine) (ms : List MentionLine) → InBlankOrder (m ∷ ms) → Turn digest (m ∷ ms) (blank_hash m.blank (digest (concat (map line_in (take (run_of m.blank (m ∷ ms)) (m ∷ ms)))))) (run_of m.blank (m ∷ ms)) (drop (run_of m.blank (m ∷ ms)) (m ∷ ms))
turn_of digest m ms up =
    let itself : (m.blank.index == m.blank.index) ≡ true = (Decides-eqb m.blank.index m.blank.index).1 refl in
    let is : run_of m.blank (m ∷ ms) ≡ suc (run_of m.blank ms) = rw itself refl in
    let parted : take (run_of m.blank (m ∷ ms)) (m ∷ ms) ++ drop (run_of m.blank (m ∷ ms)) (m ∷ ms) ≡ m ∷ ms = take-append-drop (run_of m.blank (m ∷ ms)) (m ∷ ms) in
    let here : Contains (map blank_of (take (run_of m.blank (m ∷ ms)) (m ∷ ms))) m.blank = subst (λ n. Contains (map blank_of (take n (m ∷ ms))) m.blank) (sym is) (Contains-here m.blank (map blank_of (take (run_of m.blank ms) ms))) in
    record {
      goes_on = λ hs are.
          subst (λ ls. AreHashesOf digest ls (blank_hash m.blank (digest (concat (map line_in (take (run_of m.blank (m ∷ ms)) (m ∷ ms))))) ∷ hs)) parted
          (hashes-run digest m.blank (take (run_of m.blank (m ∷ ms)) (m ∷ ms)) (drop (run_of m.blank (m ∷ ms)) (m ∷ ms)) (run-all m.blank (m ∷ ms)) (run-after m.blank (m ∷ ms) (omega arith, blanks_upto m ms up.0) up) here hs are);
      in_order = InBlankOrder-drop (run_of m.blank (m ∷ ms)) (m ∷ ms) up;
      some = subst (λ n. 0 < n) (sym is) (omega arith);
    }

-- the same for the values of the loop
pub turn : (digest : List ℕ → List ℕ) (first : MentionLine) (rest run later : List MentionLine) (n : ℕ) (hash : BlankHash) → InBlankOrder rest → slice_get rest 0 ≡ Some first → n ≡ run_of first.blank rest → run ≡ take n rest → later ≡ drop n rest → hash ≡ blank_hash first.blank (digest (concat (map line_in run))) → Turn digest rest hash n later
turn digest first [] run later n hash up at en er el eh = absurd (cc)
turn digest first (m ∷ ms) run later n hash up at en er el eh =
    let same : m ≡ first = cc in
    let t = turn_of digest m ms up in
    let fn : run_of m.blank (m ∷ ms) ≡ n = ap (λ (z : MentionLine). run_of z.blank (m ∷ ms)) same ∙ sym en in
    let fr : take (run_of m.blank (m ∷ ms)) (m ∷ ms) ≡ run = ap (λ k. take k (m ∷ ms)) fn ∙ sym er in
    let fl : drop (run_of m.blank (m ∷ ms)) (m ∷ ms) ≡ later = ap (λ k. drop k (m ∷ ms)) fn ∙ sym el in
    let fh : blank_hash m.blank (digest (concat (map line_in (take (run_of m.blank (m ∷ ms)) (m ∷ ms))))) ≡ hash = (λ i. blank_hash (same i).blank (digest (concat (map line_in (fr i))))) ∙ sym eh in
    record {
      goes_on = λ hs are. subst (λ (h : BlankHash). AreHashesOf digest (m ∷ ms) (h ∷ hs)) fh (t.goes_on hs (subst (λ ls. AreHashesOf digest ls hs) (sym fl) are));
      in_order = subst InBlankOrder fl t.in_order;
      some = subst (λ k. 0 < k) fn t.some;
    }

-- ---- the loop over the runs

-- what is left of the lines, and the hashes so far
abbrev pub GoesOn : (List ℕ → List ℕ) → List MentionLine → List MentionLine → List BlankHash → Type 0
GoesOn digest lines rest hashes = (hs : List BlankHash) → AreHashesOf digest rest hs → AreHashesOf digest lines (hashes ++ hs)

-- the loop begins with all lines
pub begins : (digest : List ℕ → List ℕ) (lines : List MentionLine) (hashes : List BlankHash) → hashes ≡ [] → GoesOn digest lines lines hashes
begins digest lines hashes none hs are = subst (λ gs. AreHashesOf digest lines (gs ++ hs)) (sym none) are

-- a turn takes the first run
pub turns : (digest : List ℕ → List ℕ) (lines rest later : List MentionLine) (hashes new : List BlankHash) (hash : BlankHash) (n : ℕ) → GoesOn digest lines rest hashes → Turn digest rest hash n later → new ≡ hashes ++ hash ∷ [] → GoesOn digest lines later new
turns digest lines rest later hashes new hash n so_far t pushed hs are =
    subst (AreHashesOf digest lines) (sym (append_assoc hashes (hash ∷ []) hs) ∙ ap (λ gs. gs ++ hs) (sym pushed)) (so_far (hash ∷ hs) (t.goes_on hs are))

hashes-nil : (digest : List ℕ → List ℕ) → AreHashesOf digest [] []
hashes-nil digest = record { rise = rises-nil; exact = λ h. ((λ k. absurd (Contains-nil h k)), (λ told. absurd (Contains-nil h.blank told.0))) }

-- nothing is left at the end
pub ends : (digest : List ℕ → List ℕ) (lines rest : List MentionLine) (hashes : List BlankHash) → GoesOn digest lines rest hashes → slice_get rest 0 ≡ None → AreHashesOf digest lines hashes
ends digest lines [] hashes so_far none = subst (AreHashesOf digest lines) (append-nil hashes) (so_far [] (hashes-nil digest))
ends digest lines (m ∷ ms) hashes so_far none = absurd (cc)

-- ---- the lines of a blank node, sorted

module _ (b : TermId) where
  abbrev counted : List ℕ → MentionLine → ℕ
  counted t m = cond (m.blank.index == b.index) (once t m.line) 0

  count-lines_for : (t : List ℕ) (ms : List MentionLine) → sum_by (once t) (lines_for b ms) ≡ sum_by (counted t) ms
  count-lines_for t [] = refl
  count-lines_for t (m ∷ ms) = go (m.blank.index == b.index) (count-lines_for t ms) ∙ sym (sum_by-cons (counted t) m ms)
    where
      go : (test : Bool) → sum_by (once t) (lines_for b ms) ≡ sum_by (counted t) ms → sum_by (once t) (map line_in (cond test (m ∷ filter (λ (m : MentionLine). m.blank.index == b.index) ms) (filter (λ (m : MentionLine). m.blank.index == b.index) ms))) ≡ cond test (once t m.line) 0 + sum_by (counted t) ms
      go true rest = sum_by-cons (once t) m.line (lines_for b ms) ∙ ap (λ n. once t m.line + n) rest
      go false rest = omega arith

  all_lines : (m : MentionLine) (ms : List MentionLine) → m.blank.index ≡ b.index → AllByRecursion (IsUptoLine m) ms → AllByRecursion (λ l. is_upto m.line l ≡ true) (lines_for b ms)
  all_lines m [] same up = tt
  all_lines m (n ∷ ns) same up = go (n.blank.index == b.index) refl (all_lines m ns same up.1)
    where
      go : (test : Bool) → (n.blank.index == b.index) ≡ test → AllByRecursion (λ l. is_upto m.line l ≡ true) (lines_for b ns) → AllByRecursion (λ l. is_upto m.line l ≡ true) (map line_in (cond test (n ∷ filter (λ (m : MentionLine). m.blank.index == b.index) ns) (filter (λ (m : MentionLine). m.blank.index == b.index) ns)))
      go true e rest = (up.0.lines (same ∙ sym ((Decides-eqb n.blank.index b.index).0 e)), rest)
      go false e rest = rest

  InOrder-lines_for : (ms : List MentionLine) → InBlankOrder ms → InOrder (lines_for b ms)
  unfolding InOrder
  InOrder-lines_for [] up = tt
  InOrder-lines_for (m ∷ ms) up = go (m.blank.index == b.index) refl (InOrder-lines_for ms up.1)
    where
      go : (test : Bool) → (m.blank.index == b.index) ≡ test → InOrder (lines_for b ms) → InOrder (map line_in (cond test (m ∷ filter (λ (m : MentionLine). m.blank.index == b.index) ms) (filter (λ (m : MentionLine). m.blank.index == b.index) ms)))
      go true e rest = (all_lines m ms ((Decides-eqb m.blank.index b.index).0 e) up.0, rest)
      go false e rest = rest

  -- the lines of a blank node, in order after the sort
  pub lines_for-sorted : (ms ns : List MentionLine) → IsPermutation ms ns → InBlankOrder ns → lines_for b ns ≡ in_order (lines_for b ms)
  lines_for-sorted ms ns moved up =
      in_order-only (lines_for b ms) (lines_for b ns)
      (IsPermutation-from_counts (lines_for b ms) (lines_for b ns) (λ t. count-lines_for t ms ∙ sym (sum_by-IsPermutation (counted t) ms ns moved) ∙ sym (count-lines_for t ns)))
      (IsSorted-InOrder (lines_for b ns) (InOrder-lines_for ns up))

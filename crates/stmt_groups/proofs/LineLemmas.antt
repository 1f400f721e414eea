-- The lines at listed places, and the others.
use Rattle.std.proofs.Common.{◌≡◌, ℕ, ◌+◌, ◌-◌, ◌<◌, ◌≤◌, true, false, nat_lt, ◌==◌, List, [], ◌∷◌, ◌++◌, length, All, Contains, inl, inr, refl, sym, ap, ◌∙◌, subst, arith}
use Rattle.std.specs.Prelude.{◌⊎◌}
use Rattle.std.specs.List.{AllByRecursion, list_all}
use Rattle.std.proofs.lemmas.Bool.{and_parts, cases_Bool, cases_order}
use Rattle.std.proofs.lemmas.Bool.Decides.{nat_tests}
use Rattle.std.proofs.lemmas.List.Elements.{All-cons, All-head, All-tail, All-nil, recursion_from_All, Contains-append_left, Contains-append_right, Contains-append_cases}
use Rattle.base_types.specs.Sets.{SameElements}
use Rattle.base_types.proofs.Lists.{Contains-here, Contains-there, Contains-cons_cases, Contains-nil}
use Rattle.base_types.specs.Order.{rise}
use Rattle.stmt_groups.specs.Lines.{is_listed, listed_from, unlisted_from, lines_at, other_lines}

-- ---- one line, listed or not

module _ (at : ℕ) (places : List ℕ) (l : List ℕ) (ls : List (List ℕ)) where
  listed-yes : is_listed places at ≡ true → listed_from at places (l ∷ ls) ≡ l ∷ listed_from (at + 1) places ls
  listed-yes h = rw h

  listed-no : is_listed places at ≡ false → listed_from at places (l ∷ ls) ≡ listed_from (at + 1) places ls
  listed-no h = rw h

  unlisted-yes : is_listed places at ≡ true → unlisted_from at places (l ∷ ls) ≡ unlisted_from (at + 1) places ls
  unlisted-yes h = rw h

  unlisted-no : is_listed places at ≡ false → unlisted_from at places (l ∷ ls) ≡ l ∷ unlisted_from (at + 1) places ls
  unlisted-no h = rw h

-- ---- both together have the elements of the whole

listed_stands : (at : ℕ) (places : List ℕ) (ls : List (List ℕ)) (x : List ℕ) → Contains (listed_from at places ls) x → Contains ls x
listed_stands at places [] x c = absurd (Contains-nil x c)
listed_stands at places (l ∷ ls) x c = elim (cases_Bool (is_listed places at)) [
  | inl h ↦ elim (Contains-cons_cases l (listed_from (at + 1) places ls) x (subst (λ (ks : List (List ℕ)). Contains ks x) (listed-yes at places l ls h) c)) [
    | inl e ↦ subst (Contains (l ∷ ls)) e (Contains-here l ls)
    | inr d ↦ Contains-there l ls x (listed_stands (at + 1) places ls x d)
  ]
  | inr h ↦ Contains-there l ls x (listed_stands (at + 1) places ls x (subst (λ (ks : List (List ℕ)). Contains ks x) (listed-no at places l ls h) c))
]

unlisted_stands : (at : ℕ) (places : List ℕ) (ls : List (List ℕ)) (x : List ℕ) → Contains (unlisted_from at places ls) x → Contains ls x
unlisted_stands at places [] x c = absurd (Contains-nil x c)
unlisted_stands at places (l ∷ ls) x c = elim (cases_Bool (is_listed places at)) [
  | inl h ↦ Contains-there l ls x (unlisted_stands (at + 1) places ls x (subst (λ (ks : List (List ℕ)). Contains ks x) (unlisted-yes at places l ls h) c))
  | inr h ↦ elim (Contains-cons_cases l (unlisted_from (at + 1) places ls) x (subst (λ (ks : List (List ℕ)). Contains ks x) (unlisted-no at places l ls h) c)) [
    | inl e ↦ subst (Contains (l ∷ ls)) e (Contains-here l ls)
    | inr d ↦ Contains-there l ls x (unlisted_stands (at + 1) places ls x d)
  ]
]

in_one : (at : ℕ) (places : List ℕ) (ls : List (List ℕ)) (x : List ℕ) → Contains ls x → Contains (listed_from at places ls) x ⊎ Contains (unlisted_from at places ls) x
in_one at places [] x c = absurd (Contains-nil x c)
in_one at places (l ∷ ls) x c = elim (cases_Bool (is_listed places at)) [
  | inl h ↦
      let back = λ (d : Contains (l ∷ listed_from (at + 1) places ls) x). subst (λ (ks : List (List ℕ)). Contains ks x) (sym (listed-yes at places l ls h)) d in
      elim (Contains-cons_cases l ls x c) [
        | inl e ↦ inl (back (subst (Contains (l ∷ listed_from (at + 1) places ls)) e (Contains-here l (listed_from (at + 1) places ls))))
        | inr d ↦ elim (in_one (at + 1) places ls x d) [
          | inl y ↦ inl (back (Contains-there l (listed_from (at + 1) places ls) x y))
          | inr n ↦ inr (subst (λ (ks : List (List ℕ)). Contains ks x) (sym (unlisted-yes at places l ls h)) n)
        ]
      ]
  | inr h ↦
      let back = λ (d : Contains (l ∷ unlisted_from (at + 1) places ls) x). subst (λ (ks : List (List ℕ)). Contains ks x) (sym (unlisted-no at places l ls h)) d in
      elim (Contains-cons_cases l ls x c) [
        | inl e ↦ inr (back (subst (Contains (l ∷ unlisted_from (at + 1) places ls)) e (Contains-here l (unlisted_from (at + 1) places ls))))
        | inr d ↦ elim (in_one (at + 1) places ls x d) [
          | inl y ↦ inl (subst (λ (ks : List (List ℕ)). Contains ks x) (sym (listed-no at places l ls h)) y)
          | inr n ↦ inr (back (Contains-there l (unlisted_from (at + 1) places ls) x n))
        ]
      ]
]

-- the lines at the places and the others are together the lines
pub lines_are_split : (places : List ℕ) (lines : List (List ℕ)) → SameElements (lines_at places lines ++ other_lines places lines) lines
lines_are_split places lines x = (
  λ c. elim (Contains-append_cases (lines_at places lines) (other_lines places lines) x c) [
    | inl y ↦ listed_stands 0 places lines x y
    | inr n ↦ unlisted_stands 0 places lines x n
  ],
  λ c. elim (in_one 0 places lines x c) [
    | inl y ↦ Contains-append_left (lines_at places lines) (other_lines places lines) x y
    | inr n ↦ Contains-append_right (lines_at places lines) (other_lines places lines) x n
  ],
)

-- what holds of each line holds of each listed one
pub lines_at-All : (P : List ℕ → Type 0) (places : List ℕ) (at : ℕ) (ls : List (List ℕ)) → All P ls → All P (listed_from at places ls)
lines_at-All P places at [] a = All-nil P
lines_at-All P places at (l ∷ ls) a = elim (cases_Bool (is_listed places at)) [
  | inl h ↦ subst (All P) (sym (listed-yes at places l ls h)) (All-cons P l (listed_from (at + 1) places ls) (All-head P l ls a) (lines_at-All P places (at + 1) ls (All-tail P l ls a)))
  | inr h ↦ subst (All P) (sym (listed-no at places l ls h)) (lines_at-All P places (at + 1) ls (All-tail P l ls a))
]

-- ---- no other line

all_listed : (at : ℕ) (places : List ℕ) (ls : List (List ℕ)) → length (unlisted_from at places ls) ≡ 0 → listed_from at places ls ≡ ls
all_listed at places [] none = refl
all_listed at places (l ∷ ls) none = elim (cases_Bool (is_listed places at)) [
  | inl h ↦ listed-yes at places l ls h ∙ ap (λ (ks : List (List ℕ)). l ∷ ks) (all_listed (at + 1) places ls (ap length (sym (unlisted-yes at places l ls h)) ∙ none))
  | inr h ↦
      let some : length (l ∷ unlisted_from (at + 1) places ls) ≡ 0 = ap length (sym (unlisted-no at places l ls h)) ∙ none in
      absurd (omega arith)
]

-- without another line the listed ones are all
pub no_other_line : (places : List ℕ) (lines : List (List ℕ)) → length (other_lines places lines) ≡ 0 → lines_at places lines ≡ lines
no_other_line places lines none = all_listed 0 places lines none

-- ---- how many

split_lengths : (at : ℕ) (places : List ℕ) (ls : List (List ℕ)) → length (listed_from at places ls) + length (unlisted_from at places ls) ≡ length ls
split_lengths at places [] = refl
split_lengths at places (l ∷ ls) =
    let later = split_lengths (at + 1) places ls in
    elim (cases_Bool (is_listed places at)) [
      | inl h ↦ rw (listed-yes at places l ls h, unlisted-yes at places l ls h) (omega arith)
      | inr h ↦ rw (listed-no at places l ls h, unlisted-no at places l ls h) (omega arith)
    ]

-- a place before the first line lists none
early : (p at : ℕ) (ps : List ℕ) (ls : List (List ℕ)) → p < at → listed_from at (p ∷ ps) ls ≡ listed_from at ps ls
early p at ps [] below = refl
early p at ps (l ∷ ls) below =
    let other : (p == at) ≡ false = grind (arith, nat_tests) in
    let same : is_listed (p ∷ ps) at ≡ is_listed ps at = rw other in
    let later = early p (at + 1) ps ls (omega arith) in
    elim (cases_Bool (is_listed ps at)) [
      | inl h ↦ listed-yes at (p ∷ ps) l ls (same ∙ h) ∙ ap (λ (ks : List (List ℕ)). l ∷ ks) later ∙ sym (listed-yes at ps l ls h)
      | inr h ↦ listed-no at (p ∷ ps) l ls (same ∙ h) ∙ later ∙ sym (listed-no at ps l ls h)
    ]

-- places after a line do not list it
late : (at : ℕ) (ps : List ℕ) → AllByRecursion (λ p. at < p) ps → is_listed ps at ≡ false
late at [] above = refl
late at (p ∷ ps) above =
    let first : at < p = above.0 in
    let other : (p == at) ≡ false = grind (arith, nat_tests) in
    rw other (late at ps above.1)

tests_hold : (p : ℕ) (ps : List ℕ) → list_all (nat_lt p) ps ≡ true → AllByRecursion (λ q. p < q) ps
tests_hold p [] h = tt
tests_hold p (q ∷ ps) h =
    let both = and_parts (nat_lt p q) (list_all (nat_lt p) ps) h in
    let test : nat_lt p q ≡ true = both.0 in
    let here : p < q = grind (arith, nat_tests) in
    (here, tests_hold p ps both.1)

weaker : (P Q : ℕ → Type 0) → ((p : ℕ) → P p → Q p) → (ps : List ℕ) → AllByRecursion P ps → AllByRecursion Q ps
weaker P Q f [] a = tt
weaker P Q f (p ∷ ps) a = (f p a.0, weaker P Q f ps a.1)

counted : (ls : List (List ℕ)) (at : ℕ) (ps : List ℕ) → AllByRecursion (λ p. at ≤ p) ps → AllByRecursion (λ p. p < at + length ls) ps → rise ps ≡ true → length (listed_from at ps ls) ≡ length ps
counted [] at [] least below r = refl
counted [] at (p ∷ ps) least below r =
    let l : at ≤ p = least.0 in
    let b : p < at + 0 = below.0 in
    absurd (omega arith)
counted (l ∷ ls) at [] least below r = counted ls (at + 1) [] tt tt r
counted (l ∷ ls) at (p ∷ ps) least below r =
    let rises = and_parts (list_all (nat_lt p) ps) (rise ps) r in
    let above : AllByRecursion (λ q. p < q) ps = tests_hold p ps rises.0 in
    let first : at ≤ p = least.0 in
    let bound : AllByRecursion (λ q. q < (at + 1) + length ls) (p ∷ ps) = weaker (λ q. q < at + length (l ∷ ls)) (λ q. q < (at + 1) + length ls) (λ q h. omega arith) (p ∷ ps) below in
    elim (cases_order at p) [
      | inl same ↦
          let test : (p == at) ≡ true = grind (arith, nat_tests) in
          let listed : is_listed (p ∷ ps) at ≡ true = rw test in
          let later : AllByRecursion (λ q. at + 1 ≤ q) ps = weaker (λ q. p < q) (λ q. at + 1 ≤ q) (λ q h. omega arith) ps above in
          let rest = counted ls (at + 1) ps later bound.1 rises.1 in
          let skipped = early p (at + 1) ps ls (omega arith) in
          ap length (listed-yes at (p ∷ ps) l ls listed ∙ ap (λ (ks : List (List ℕ)). l ∷ ks) skipped) ∙ (let e : length (l ∷ listed_from (at + 1) ps ls) ≡ length (p ∷ ps) = omega arith in e)
      | inr apart ↦ elim apart [
        | inl less ↦
            let later : AllByRecursion (λ q. at < q) (p ∷ ps) = (less, weaker (λ q. p < q) (λ q. at < q) (λ q h. omega arith) ps above) in
            let next : AllByRecursion (λ q. at + 1 ≤ q) (p ∷ ps) = weaker (λ q. at < q) (λ q. at + 1 ≤ q) (λ q h. omega arith) (p ∷ ps) later in
            ap length (listed-no at (p ∷ ps) l ls (late at (p ∷ ps) later)) ∙ counted ls (at + 1) (p ∷ ps) next bound r
        | inr more ↦ absurd (omega arith)
      ]
    ]

at_least_none : (ps : List ℕ) → AllByRecursion (λ p. 0 ≤ p) ps
at_least_none [] = tt
at_least_none (p ∷ ps) = (omega arith, at_least_none ps)

-- of rising places each is a listed line
pub lines_at-length : (indexes : List ℕ) (lines : List (List ℕ)) → rise indexes ≡ true → All (λ i. i < length lines) indexes → length (lines_at indexes lines) ≡ length indexes
lines_at-length indexes lines r below =
    counted lines 0 indexes (at_least_none indexes) (weaker (λ i. i < length lines) (λ i. i < 0 + length lines) (λ i h. omega arith) indexes (recursion_from_All (λ i. i < length lines) indexes below)) r

-- and all other lines are the rest
pub other_lines-length : (indexes : List ℕ) (lines : List (List ℕ)) → rise indexes ≡ true → All (λ i. i < length lines) indexes → length (other_lines indexes lines) ≡ length lines - length indexes
other_lines-length indexes lines r below =
    let here : length (lines_at indexes lines) ≡ length indexes = lines_at-length indexes lines r below in
    let whole : length (lines_at indexes lines) + length (other_lines indexes lines) ≡ length lines = split_lengths 0 indexes lines in
    omega arith

-- Blank nodes: whether two are one, those of a dataset, and what a renamed statement is.
use Rattle.std.proofs.Common.{◌≡◌, List, [], ◌∷◌, ◌++◌, map, Contains, Bool, true, false, refl, sym, ap, ◌∙◌, subst, inl, inr, Option, Some, None, option_map, if◌then◌else◌, bytes_eq}
use Rattle.std.proofs.lemmas.Bool.{false≢true, and_parts}
use Rattle.std.proofs.lemmas.Slice.Eq.{bytes_eq-Decides}
use Rattle.std.proofs.lemmas.List.{map-append}
use Rattle.std.proofs.lemmas.List.Elements.{Contains-append_left, Contains-append_right, Contains-append_cases}
use Rattle.std.specs.List.{flat_map}
use Rattle.base_types.specs.Sets.{AllDiffer}
use Rattle.nquads.specs.Terms.{BlankKind, by_label, by_node, by_graph, by_cell, Blank, Term, iri, literal, blank, Statement}
use Rattle.nquads.specs.Renaming.{same_kind, same_blank, blanks_of_term, blanks_of_graph, blanks_of, rename_term, rename, StandsIn}
use Rattle.base_types.proofs.Lists.{Contains-nil, Contains-here, Contains-there, Contains-cons_cases}
use Rattle.nquads.proofs.ReadingElements.{AllDiffer-nil, AllDiffer-cons}
use Rattle.nquads.proofs.ReadingTerms.{same_blank_node, same_statement}

-- ---- whether two blank nodes are one

same_kind-true : (a b : BlankKind) → same_kind a b ≡ true → a ≡ b
same_kind-true by_label by_label e = refl
same_kind-true by_label by_node e = absurd (false≢true e)
same_kind-true by_label by_graph e = absurd (false≢true e)
same_kind-true by_label by_cell e = absurd (false≢true e)
same_kind-true by_node by_label e = absurd (false≢true e)
same_kind-true by_node by_node e = refl
same_kind-true by_node by_graph e = absurd (false≢true e)
same_kind-true by_node by_cell e = absurd (false≢true e)
same_kind-true by_graph by_label e = absurd (false≢true e)
same_kind-true by_graph by_node e = absurd (false≢true e)
same_kind-true by_graph by_graph e = refl
same_kind-true by_graph by_cell e = absurd (false≢true e)
same_kind-true by_cell by_label e = absurd (false≢true e)
same_kind-true by_cell by_node e = absurd (false≢true e)
same_kind-true by_cell by_graph e = absurd (false≢true e)
same_kind-true by_cell by_cell e = refl

same_kind-itself : (a : BlankKind) → same_kind a a ≡ true
same_kind-itself by_label = refl
same_kind-itself by_node = refl
same_kind-itself by_graph = refl
same_kind-itself by_cell = refl

-- blank nodes that are found the same are one
pub same_blank-true : (a b : Blank) → same_blank a b ≡ true → a ≡ b
same_blank-true a b e =
    let parts : (same_kind a.kind b.kind ≡ true) × (bytes_eq a.name b.name ≡ true) = and_parts (same_kind a.kind b.kind) (bytes_eq a.name b.name) e in
    same_blank_node a b (same_kind-true a.kind b.kind parts.0) ((bytes_eq-Decides a.name b.name).0 parts.1)

-- a blank node is found the same as itself
pub same_blank-itself : (a : Blank) → same_blank a a ≡ true
same_blank-itself a = rw (same_kind-itself a.kind, (bytes_eq-Decides a.name a.name).1 refl) refl

-- and two are found apart
pub same_blank-false : (a b : Blank) → same_blank a b ≡ false → a ≡ b → ⊥
same_blank-false a b n e = false≢true (sym n ∙ subst (λ (z : Blank). same_blank a z ≡ true) e (same_blank-itself a))

-- a choice whose both sides are z
pub chosen : {X : Type 0} (t : Bool) (x y z : X) → (t ≡ true → x ≡ z) → (t ≡ false → y ≡ z) → (if t then x else y) ≡ z
chosen true x y z p q = p refl
chosen false x y z p q = q refl

-- ---- renamed statements

rename_term-rename_term : (f g h : Blank → Blank) (t : Term) → ((b : Blank) → Contains (blanks_of_term t) b → f (g b) ≡ h b) → rename_term f (rename_term g t) ≡ rename_term h t
rename_term-rename_term f g h (iri x) p = refl
rename_term-rename_term f g h (literal s x k) p = refl
rename_term-rename_term f g h (blank b) p = ap blank (p b (Contains-here b []))

rename_graph-rename_graph : (f g h : Blank → Blank) (t : Option Term) → ((b : Blank) → Contains (blanks_of_graph t) b → f (g b) ≡ h b) → option_map (rename_term f) (option_map (rename_term g) t) ≡ option_map (rename_term h) t
rename_graph-rename_graph f g h None p = refl
rename_graph-rename_graph f g h (Some t) p = ap (λ (z : Term). Some z) (rename_term-rename_term f g h t p)

-- two renamings, one after the other
pub rename-rename : (f g h : Blank → Blank) (s : Statement) → ((b : Blank) → Contains (blanks_of s) b → f (g b) ≡ h b) → rename f (rename g s) ≡ rename h s
rename-rename f g h s p =
    same_statement (rename f (rename g s)) (rename h s)
    (rename_term-rename_term f g h s.subject (λ b m. p b (Contains-append_left (blanks_of_term s.subject) (blanks_of_term s.object ++ blanks_of_graph s.graph) b m)))
    refl
    (rename_term-rename_term f g h s.object (λ b m. p b (Contains-append_right (blanks_of_term s.subject) (blanks_of_term s.object ++ blanks_of_graph s.graph) b (Contains-append_left (blanks_of_term s.object) (blanks_of_graph s.graph) b m))))
    (rename_graph-rename_graph f g h s.graph (λ b m. p b (Contains-append_right (blanks_of_term s.subject) (blanks_of_term s.object ++ blanks_of_graph s.graph) b (Contains-append_right (blanks_of_term s.object) (blanks_of_graph s.graph) b m))))

rename_term-itself : (t : Term) → rename_term (λ b. b) t ≡ t
rename_term-itself (iri x) = refl
rename_term-itself (literal s x k) = refl
rename_term-itself (blank b) = refl

rename_graph-itself : (t : Option Term) → option_map (rename_term (λ b. b)) t ≡ t
rename_graph-itself None = refl
rename_graph-itself (Some t) = ap (λ (z : Term). Some z) (rename_term-itself t)

-- the renaming that leaves all as it is
pub rename-itself : (s : Statement) → rename (λ b. b) s ≡ s
rename-itself s = same_statement (rename (λ b. b) s) s (rename_term-itself s.subject) refl (rename_term-itself s.object) (rename_graph-itself s.graph)

-- renamings that agree on the blank nodes of a statement
pub rename-agree : (f g : Blank → Blank) (s : Statement) → ((b : Blank) → Contains (blanks_of s) b → f b ≡ g b) → rename f s ≡ rename g s
rename-agree f g s p = ap (rename f) (sym (rename-itself s)) ∙ rename-rename f (λ b. b) g s p

-- the blank nodes of a renamed term, graph and statement
pub blanks_of_term-rename : (f : Blank → Blank) (t : Term) → blanks_of_term (rename_term f t) ≡ map f (blanks_of_term t)
blanks_of_term-rename f (iri x) = refl
blanks_of_term-rename f (literal s x k) = refl
blanks_of_term-rename f (blank b) = refl

-- the same of a graph
pub blanks_of_graph-rename : (f : Blank → Blank) (t : Option Term) → blanks_of_graph (option_map (rename_term f) t) ≡ map f (blanks_of_graph t)
blanks_of_graph-rename f None = refl
blanks_of_graph-rename f (Some t) = blanks_of_term-rename f t

-- and of a statement
pub blanks_of-rename : (f : Blank → Blank) (s : Statement) → blanks_of (rename f s) ≡ map f (blanks_of s)
blanks_of-rename f s =
    rw (
      blanks_of_term-rename f s.subject,
      blanks_of_term-rename f s.object,
      blanks_of_graph-rename f s.graph,
      map-append f (blanks_of_term s.subject) (blanks_of_term s.object ++ blanks_of_graph s.graph),
      map-append f (blanks_of_term s.object) (blanks_of_graph s.graph),
    ) refl

-- ---- the blank nodes of a dataset, each once

-- whether the blank node is in the list
pub has : List Blank → Blank → Bool
has [] b = false
has (c ∷ cs) b = if same_blank c b then true else has cs b

-- the blank nodes, each once
pub distinct : List Blank → List Blank
distinct [] = []
distinct (b ∷ bs) = if has bs b then distinct bs else b ∷ distinct bs

has_cases : (t r : Bool) (c b : Blank) (cs : List Blank) → (t ≡ true → c ≡ b) → (r ≡ true → Contains cs b) → (if t then true else r) ≡ true → Contains (c ∷ cs) b
has_cases true r c b cs p q e = subst (λ (z : Blank). Contains (c ∷ cs) z) (p refl) (Contains-here c cs)
has_cases false r c b cs p q e = Contains-there c cs b (q e)

-- `has` finds what is there
pub has-true : (cs : List Blank) (b : Blank) → has cs b ≡ true → Contains cs b
unfolding has
has-true [] b e = absurd (false≢true e)
has-true (c ∷ cs) b e = has_cases (same_blank c b) (has cs b) c b cs (same_blank-true c b) (has-true cs b) e

hasnt_cases : (t r : Bool) (c b : Blank) (cs : List Blank) → (t ≡ false → c ≡ b → ⊥) → (r ≡ false → Contains cs b → ⊥) → (if t then true else r) ≡ false → Contains (c ∷ cs) b → ⊥
hasnt_cases true r c b cs p q e m = false≢true (sym e)
hasnt_cases false r c b cs p q e m = elim (Contains-cons_cases c cs b m) [ inl h ↦ p refl h | inr n ↦ q e n ]

-- and nothing else
pub has-false : (cs : List Blank) (b : Blank) → has cs b ≡ false → Contains cs b → ⊥
unfolding has
has-false [] b e m = Contains-nil b m
has-false (c ∷ cs) b e m = hasnt_cases (same_blank c b) (has cs b) c b cs (same_blank-false c b) (has-false cs b) e m

distinct_step : (t : Bool) (b : Blank) (bs ds : List Blank) (x : Blank) → (t ≡ true → Contains bs b) → ((y : Blank) → Contains bs y → Contains ds y) → Contains (b ∷ bs) x → Contains (if t then ds else b ∷ ds) x
distinct_step true b bs ds x p h m =
    elim (Contains-cons_cases b bs x m) [
      | inl e ↦ subst (λ (z : Blank). Contains ds z) e (h b (p refl))
      | inr n ↦ h x n
    ]
distinct_step false b bs ds x p h m =
    elim (Contains-cons_cases b bs x m) [
      | inl e ↦ subst (λ (z : Blank). Contains (b ∷ ds) z) e (Contains-here b ds)
      | inr n ↦ Contains-there b ds x (h x n)
    ]

-- `distinct` keeps each
pub distinct_keeps : (bs : List Blank) (x : Blank) → Contains bs x → Contains (distinct bs) x
unfolding distinct
distinct_keeps [] x m = m
distinct_keeps (b ∷ bs) x m = distinct_step (has bs b) b bs (distinct bs) x (has-true bs b) (λ y n. distinct_keeps bs y n) m

undistinct_step : (t : Bool) (b : Blank) (bs ds : List Blank) (x : Blank) → ((y : Blank) → Contains ds y → Contains bs y) → Contains (if t then ds else b ∷ ds) x → Contains (b ∷ bs) x
undistinct_step true b bs ds x h m = Contains-there b bs x (h x m)
undistinct_step false b bs ds x h m =
    elim (Contains-cons_cases b ds x m) [
      | inl e ↦ subst (λ (z : Blank). Contains (b ∷ bs) z) e (Contains-here b bs)
      | inr n ↦ Contains-there b bs x (h x n)
    ]

-- and adds none
pub from_distinct : (bs : List Blank) (x : Blank) → Contains (distinct bs) x → Contains bs x
unfolding distinct
from_distinct [] x m = m
from_distinct (b ∷ bs) x m = undistinct_step (has bs b) b bs (distinct bs) x (λ y n. from_distinct bs y n) m

differ_step : (t : Bool) (b : Blank) (ds : List Blank) → (t ≡ false → Contains ds b → ⊥) → AllDiffer ds → AllDiffer (if t then ds else b ∷ ds)
differ_step true b ds n a = a
differ_step false b ds n a = AllDiffer-cons b ds (n refl) a

-- and has none twice
pub AllDiffer-distinct : (bs : List Blank) → AllDiffer (distinct bs)
unfolding distinct
AllDiffer-distinct [] = AllDiffer-nil
AllDiffer-distinct (b ∷ bs) = differ_step (has bs b) b (distinct bs) (λ e m. has-false bs b e (from_distinct bs b m)) (AllDiffer-distinct bs)

-- the blank node stands in a statement of the dataset
pub record Stands (q : List Statement) (b : Blank) : Type 0 where
  pub statement : Statement
  pub within : Contains q statement
  pub blank_node : Contains (blanks_of statement) b

-- a blank node of a statement of the dataset stands in the dataset
pub to_blanks_in : (q : List Statement) (s : Statement) (b : Blank) → Contains q s → Contains (blanks_of s) b → StandsIn q b
to_blanks_in [] s b m n = absurd (Contains-nil s m)
to_blanks_in (t ∷ q) s b m n =
    elim (Contains-cons_cases t q s m) [
      | inl e ↦ Contains-append_left (blanks_of t) (flat_map blanks_of q) b (subst (λ (z : Statement). Contains (blanks_of z) b) (sym e) n)
      | inr k ↦ Contains-append_right (blanks_of t) (flat_map blanks_of q) b (to_blanks_in q s b k n)
    ]

-- and what stands in it is one of a statement
pub from_blanks_in : (q : List Statement) (b : Blank) → StandsIn q b → Stands q b
from_blanks_in [] b m = absurd (Contains-nil b m)
from_blanks_in (s ∷ q) b m =
    elim (Contains-append_cases (blanks_of s) (flat_map blanks_of q) b m) [
      | inl n ↦ record { statement = s; within = Contains-here s q; blank_node = n }
      | inr n ↦ let r = from_blanks_in q b n in record { statement = r.statement; within = Contains-there s q r.statement r.within; blank_node = r.blank_node }
    ]

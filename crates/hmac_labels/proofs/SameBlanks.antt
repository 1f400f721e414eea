-- Labels of the same blank nodes: a statement that the one list labels, the other labels too.
use Rattle.std.proofs.Common.{◌≡◌, ℕ, ◌<◌, ◌==◌, Bool, true, false, cond, List, [], ◌∷◌, length, map, Option, Some, None, refl, ap}
use Rattle.std.specs.Prelude.{All, IfSome, IsSome}
use Rattle.std.proofs.lemmas.List.Elements.{All-cons, All-head, All-map, All-nil, All-same, All-tail}
use Rattle.term_store.specs.declared.store.TermId.{TermId}
use Rattle.term_store.specs.declared.statements.Quad.{Quad}
use Rattle.nquads.specs.Stored.{AreLabelsKnown, HasLabel, IsLabelled, find_number}
use Rattle.nquads.specs.declared.numbers.Label.{Label}

-- the blank nodes of labels
abbrev blanks : List Label → List TermId
blanks ls = map (λ (l : Label). l.blank) ls

-- a number that has a label in the one has one in the other
found : (xs ys : List Label) (n : ℕ) → blanks xs ≡ blanks ys → IsSome (find_number ys n) → IsSome (find_number xs n)
found [] [] n same some = some
found (x ∷ xs) [] n same some = absurd (cc same)
found [] (y ∷ ys) n same some = absurd (cc same)
found (x ∷ xs) (y ∷ ys) n same some =
    let head : x.blank ≡ y.blank = cc same in
    let rest : blanks xs ≡ blanks ys = cc same in
    go (y.blank.index == n) (x.blank.index == n) (ap (λ (b : TermId). b.index == n) head) some
    (found xs ys n rest)
  where
    go : (t u : Bool) → u ≡ t → IsSome (cond t (Some y.text) (find_number ys n))
        → (IsSome (find_number ys n) → IsSome (find_number xs n))
        → IsSome (cond u (Some x.text) (find_number xs n))
    go true true e some more = refl
    go false false e some more = more some
    go true false e some more = absurd (cc e)
    go false true e some more = absurd (cc e)

known-by_blanks : (texts : List (List ℕ)) (xs : List Label) → All (λ (b : TermId). b.index < length texts) (blanks xs) → AreLabelsKnown texts xs
known-by_blanks texts [] known = All-nil (λ (l : Label). l.blank.index < length texts)
known-by_blanks texts (x ∷ xs) known =
    All-cons (λ (l : Label). l.blank.index < length texts) x xs
    (All-head (λ (b : TermId). b.index < length texts) x.blank (blanks xs) known)
    (known-by_blanks texts xs (All-tail (λ (b : TermId). b.index < length texts) x.blank (blanks xs) known))

-- numbers of the store stay such
pub known-same : (texts : List (List ℕ)) (xs ys : List Label) → blanks xs ≡ blanks ys → AreLabelsKnown texts ys → AreLabelsKnown texts xs
known-same texts xs ys same known =
    known-by_blanks texts xs
    (All-same (λ (b : TermId). b.index < length texts) (blanks xs) (blanks ys) same
    (All-map (λ (b : TermId). b.index < length texts) (λ (l : Label). l.blank) ys known))

graph-same : (texts : List (List ℕ)) (xs ys : List Label) (g : Option TermId) → blanks xs ≡ blanks ys → IfSome g (HasLabel texts ys) → IfSome g (HasLabel texts xs)
graph-same texts xs ys None same has = tt
graph-same texts xs ys (Some id) same has = λ b. found xs ys id.index same (has b)

-- a statement that is labelled stays so
pub labelled-same : (texts : List (List ℕ)) (xs ys : List Label) (quad : Quad) → blanks xs ≡ blanks ys → IsLabelled texts ys quad → IsLabelled texts xs quad
labelled-same texts xs ys quad same is = record {
  subject = λ b. found xs ys quad.subject.index same (is.subject b);
  object = λ b. found xs ys quad.object.index same (is.object b);
  graph = graph-same texts xs ys quad.graph same is.graph;
}

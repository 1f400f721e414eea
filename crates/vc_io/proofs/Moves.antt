-- How the moves of single calls join to the move of a whole loop.
use Rattle.std.proofs.Common.{◌≡◌, ℕ, IfSome, [], ◌+◌, ◌-◌, ◌<◌, ◌≤◌, List, ◌++◌, length, take, drop, Option, None, Some, sym, ◌∙◌, ap, append_assoc, arith, inl, inr, length-append, length-drop, rules}
use Rattle.std.proofs.Math.Seq.{take-add, take-length, drop-append_seam}
use Rattle.std.proofs.lemmas.List.{take-append-drop, take-append-le, drop-drop, length-take-le}
use Rattle.std.specs.Io.KnownBytes.{Appends, Consumes, IsAtEnd}
use Rattle.base_types.specs.Counts.{HasRisen}

-- a rise after a stretch without a fall is a rise over the whole
pub HasRisen-from : (a b c : ℕ) → a ≤ b → HasRisen b c → HasRisen a c
HasRisen-from a b c le (inl rise) = inl (omega arith)
HasRisen-from a b c le (inr full) = inr full

-- two reads one after the other
pub Gave-more : (a b c : Option (List ℕ)) (xs ys : List ℕ) → Consumes a b xs → Consumes b c ys → Consumes a c (xs ++ ys)
Gave-more None b c xs ys p q = tt
Gave-more (Some l) None c xs ys p q = absurd p
Gave-more (Some l) (Some m) None xs ys p q = absurd q
Gave-more (Some l) (Some m) (Some n) xs ys p q = p ∙ ap (λ v. xs ++ v) q ∙ sym (append_assoc xs ys n)

-- what was given up to the end is all
pub IsAllOf-end : (a b : Option (List ℕ)) (xs : List ℕ) → Consumes a b xs → IsAtEnd b → IfSome a (λ left. xs ≡ left)
IsAllOf-end None b xs p q = tt
IsAllOf-end (Some l) None xs p q = absurd p
IsAllOf-end (Some l) (Some m) xs p q = sym (p ∙ ap (λ v. xs ++ v) q ∙ search rules)

-- after a read of nothing at the end, nothing is left
pub GaveAll-end : (a b c : Option (List ℕ)) (xs ys : List ℕ) (n : ℕ) → Consumes a b xs → IsAtEnd b → n ≡ 0 → Consumes b c (take n ys) → IfSome a (λ left. c ≡ Some [])
GaveAll-end None b c xs ys n p q z r = tt
GaveAll-end (Some l) None c xs ys n p q z r = absurd p
GaveAll-end (Some l) (Some m) None xs ys n p q z r = absurd r
GaveAll-end (Some l) (Some m) (Some k) xs ys n p q z r = ap Some (sym r' ∙ q) where
  r' : m ≡ k
  r' = rw z at r

-- more than max bytes were given, so more than max were left
pub IsMoreThan-given : (a b : Option (List ℕ)) (xs : List ℕ) (max : ℕ) → Consumes a b xs → max < length xs → IfSome a (λ left. max < length left)
IsMoreThan-given None b xs max p h = tt
IsMoreThan-given (Some l) None xs max p h = absurd p
IsMoreThan-given (Some l) (Some m) xs max p h = rw p (grind (arith, length-append {A = ℕ}))

-- the bytes given are the first so many
pub GaveFirst-given : (a b : Option (List ℕ)) (xs : List ℕ) (n : ℕ) → Consumes a b xs → length xs ≡ n → IfSome a (λ left. b ≡ Some (drop n left))
GaveFirst-given None b xs n p h = tt
GaveFirst-given (Some l) None xs n p h = absurd p
GaveFirst-given (Some l) (Some m) xs n p h = ap Some (rw (← h, p) (sym (drop-append_seam xs m)))

-- two writes one after the other
pub Wrote-both : (a b c : Option (List ℕ)) (xs ys : List ℕ) → Appends a b xs → Appends b c ys → Appends a c (xs ++ ys)
Wrote-both None b c xs ys p q = tt
Wrote-both (Some x) None c xs ys p q = absurd p
Wrote-both (Some x) (Some y) None xs ys p q = absurd q
Wrote-both (Some x) (Some y) (Some z) xs ys p q = q ∙ ap (λ v. v ++ ys) p ∙ append_assoc x xs ys

-- a slice from a place to the end is what stands there
pub slice_from : (at : ℕ) (bytes : List ℕ) → take (length bytes - at) (drop at bytes) ≡ drop at bytes
slice_from at bytes = ap (λ n. take n (drop at bytes)) (sym (length-drop at bytes)) ∙ take-length (drop at bytes)

-- a write of what stands behind the part that is written
pub Wrote-more : (a b c : Option (List ℕ)) (at n : ℕ) (bytes : List ℕ) → Appends a b (take at bytes) → Appends b c (take n (take (length bytes - at) (drop at bytes))) → Appends a c (take (at + n) bytes)
Wrote-more a b c at n bytes p q =
    rw (take-add at n bytes) (Wrote-both a b c (take at bytes) (take n (drop at bytes)) p (rw (slice_from at bytes) at q))

-- a write of what stands behind it that failed
pub WrotePrefix-more : (a b c : Option (List ℕ)) (at : ℕ) (bytes : List ℕ) → Appends a b (take at bytes) → (n : ℕ) × Appends b c (take n (take (length bytes - at) (drop at bytes))) → (n : ℕ) × Appends a c (take n bytes)
WrotePrefix-more a b c at bytes p (n, q) = (at + n, Wrote-more a b c at n bytes p q)

-- a memory source's read puts the first bytes that are left at the front of the buffer
pub front_and_rest : (bytes into copied : List ℕ) (at n : ℕ) → copied ≡ take (at + n - at) (drop at bytes) → at + n ≤ length bytes → take n (copied ++ drop n into) ++ drop (at + n) bytes ≡ drop at bytes
front_and_rest bytes into copied at n e h =
    let d : at + n - at ≡ n = omega arith in
    let f : copied ≡ take n (drop at bytes) = rw d at e in
    let k : n ≤ length (drop at bytes) = omega (arith, length-drop {A = ℕ}) in
    let l : length copied ≡ n = ap length f ∙ length-take-le n (drop at bytes) k in
    let t : take n (copied ++ drop n into) ≡ copied = take-append-le n copied (drop n into) (omega arith) ∙ ap (λ m. take m copied) (sym l) ∙ take-length copied in
    ap (λ v. v ++ drop (at + n) bytes) t ∙ ap (λ v. v ++ drop (at + n) bytes) f ∙ ap (λ v. take n (drop at bytes) ++ v) (sym (drop-drop n at bytes)) ∙ take-append-drop n (drop at bytes)

pub ruleset turns = (HasRisen-from, Gave-more, IsAllOf-end, GaveAll-end, IsMoreThan-given, GaveFirst-given)

pub ruleset writes = (HasRisen-from, Wrote-more)

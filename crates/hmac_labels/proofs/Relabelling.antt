-- Labels of the same blank nodes with other texts.
use Rattle.std.proofs.Common.{◌≡◌, ℕ, zero, suc, ◌+◌, ◌<◌, ◌==◌, Bool, true, false, cond, List, [], ◌∷◌, ◌++◌, length, map, get_or, take, Option, Some, None, slice_get, refl, sym, ap, subst, ◌∙◌, arith}
use Rattle.std.specs.Prelude.{Contains}
use Rattle.std.proofs.lemmas.Bool.{ne_eqb}
use Rattle.base_types.specs.Sets.{AllDiffer}
use Rattle.base_types.proofs.Lists.{Contains-here, Contains-there}
use Rattle.nquads.proofs.ReadingElements.{AllDiffer-head, AllDiffer-tail}
use Rattle.nquads.specs.Stored.{find_number, number_label}
use Rattle.nquads.specs.declared.numbers.Label.{Label}
use Rattle.hmac_labels.specs.Internal.Relabelling.{relabelled}

-- the blank nodes stay
pub relabelled-blanks : (ls : List Label) (ts : List (List ℕ)) → length ts ≡ length ls
    → map (λ (l : Label). l.blank) (relabelled ls ts) ≡ map (λ (l : Label). l.blank) ls
relabelled-blanks [] ts same = refl
relabelled-blanks (l ∷ ls) [] same = absurd (omega (arith, same))
relabelled-blanks (l ∷ ls) (t ∷ ts) same =
    let rest = relabelled-blanks ls ts (omega (arith, same)) in
    ap (λ xs. l.blank ∷ xs) rest

-- the texts are the given ones
pub relabelled-texts : (ls : List Label) (ts : List (List ℕ)) → length ts ≡ length ls
    → map (λ (l : Label). l.text) (relabelled ls ts) ≡ ts
relabelled-texts [] [] same = refl
relabelled-texts [] (t ∷ ts) same = absurd (omega (arith, same))
relabelled-texts (l ∷ ls) [] same = absurd (omega (arith, same))
relabelled-texts (l ∷ ls) (t ∷ ts) same = ap (λ xs. t ∷ xs) (relabelled-texts ls ts (omega (arith, same)))

-- no text, no label
pub relabelled-none : (ls : List Label) → relabelled ls [] ≡ []
relabelled-none [] = refl
relabelled-none (l ∷ ls) = refl

-- one more text
pub relabelled-next : (ls : List Label) (ts : List (List ℕ)) (place number : ℕ) (text other : List ℕ) (found : Label)
    → place < length ts → text ≡ get_or ts place other → slice_get ls place ≡ Some found → number ≡ found.blank.index
    → relabelled ls (take (place + 1) ts) ≡ relabelled ls (take place ts) ++ number_label number text ∷ []
relabelled-next ls [] place number text other found below is at named = absurd (omega arith)
relabelled-next [] (t ∷ ts) place number text other found below is at named = absurd (cc at)
relabelled-next (l ∷ ls) (t ∷ ts) zero number text other found below is at named =
    let same : l ≡ found = cc at in
    ap (λ xs. number_label l.blank.index t ∷ xs) (relabelled-none ls)
    ∙ ap (λ n. number_label n t ∷ []) (ap (λ (x : Label). x.blank.index) same ∙ sym named)
    ∙ ap (λ x. number_label number x ∷ []) (sym is)
relabelled-next (l ∷ ls) (t ∷ ts) (suc place) number text other found below is at named =
    let more : suc place + 1 ≡ suc (place + 1) = omega arith in
    ap (λ k. relabelled (l ∷ ls) (take k (t ∷ ts))) more
    ∙ ap (λ xs. number_label l.blank.index t ∷ xs) (relabelled-next ls ts place number text other found (omega (arith, below)) is at named)

-- what stands at a place
at_place : (ls : List Label) (place : ℕ) (found : Label) → slice_get ls place ≡ Some found
    → Contains (map (λ (l : Label). l.blank.index) ls) found.blank.index
at_place [] place found at = absurd (cc at)
at_place (l ∷ ls) zero found at =
    let same : l ≡ found = cc at in
    subst (λ (x : Label). Contains (map (λ (y : Label). y.blank.index) (l ∷ ls)) x.blank.index) same
    (Contains-here l.blank.index (map (λ (y : Label). y.blank.index) ls))
at_place (l ∷ ls) (suc place) found at =
    Contains-there l.blank.index (map (λ (y : Label). y.blank.index) ls) found.blank.index (at_place ls place found at)

-- a blank node that comes later has no label yet
pub relabelled-new : (ls : List Label) (ts : List (List ℕ)) (place : ℕ) (found : Label)
    → AllDiffer (map (λ (l : Label). l.blank.index) ls) → slice_get ls place ≡ Some found
    → find_number (relabelled ls (take place ts)) found.blank.index ≡ None
relabelled-new [] ts place found differ at = absurd (cc at)
relabelled-new (l ∷ ls) ts zero found differ at = refl
relabelled-new (l ∷ ls) [] (suc place) found differ at = refl
relabelled-new (l ∷ ls) (t ∷ ts) (suc place) found differ at =
    let indexes : List ℕ = map (λ (x : Label). x.blank.index) ls in
    let later : Contains indexes found.blank.index = at_place ls place found at in
    let other : (l.blank.index == found.blank.index) ≡ false =
    ne_eqb l.blank.index found.blank.index
    (λ same. AllDiffer-head l.blank.index indexes differ (subst (Contains indexes) (sym same) later)) in
    ap (λ b. cond b (Some t) (find_number (relabelled ls (take place ts)) found.blank.index)) other
    ∙ relabelled-new ls ts place found (AllDiffer-tail l.blank.index indexes differ) at

-- there is a label at each place
pub at_some : (ls : List Label) (place : ℕ) → place < length ls → None ≡ slice_get ls place → ⊥
at_some [] place below none = absurd (omega arith)
at_some (l ∷ ls) zero below none = absurd (cc none)
at_some (l ∷ ls) (suc place) below none = at_some ls place (omega (arith, below)) none

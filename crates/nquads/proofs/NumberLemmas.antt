-- The entries of the index of labels by number, read as the list of labels.
use Rattle.std.proofs.Common.{◌≡◌, ℕ, nat_eq, List, [], ◌∷◌, ◌++◌, map, refl, sym, subst, Some, cond}
use Rattle.std.specs.List.{IsDistinct}
use Rattle.std.specs.Map.{keys_of, lookup}
use Rattle.std.specs.Cmp.{nat_eq_equiv}
use Rattle.std.proofs.lemmas.Bool.Decides.{Decides-eqb}
use Rattle.std.proofs.lemmas.Map.Made.{AllPairs-from_IsDistinct}
use Rattle.base_types.specs.Sets.{AllDiffer}
use Rattle.base_types.proofs.Lists.{map-map}
use Rattle.nquads.specs.Stored.{find_number, number_label}
use Rattle.nquads.specs.declared.numbers.Label.{Label}

-- the entries as labels
abbrev pub number_labels : List (ℕ × List ℕ) → List Label
number_labels es = map (λ (e : ℕ × List ℕ). number_label e.0 e.1) es

-- a look-up in the entries finds the label
pub find_number-lookup : (n : ℕ) (es : List (ℕ × List ℕ)) → lookup (nat_eq n) es ≡ find_number (number_labels es) n
find_number-lookup n [] = refl
find_number-lookup n (e ∷ es) =
    let same = nat_eq_equiv.symm n e.0 in
    let rest = find_number-lookup n es in
    λ i. cond (same i) (Some e.1) (rest i)

-- a new entry is a new label
pub number_labels-push : (es : List (ℕ × List ℕ)) (n : ℕ) (text : List ℕ) → number_labels (es ++ (n, text) ∷ []) ≡ number_labels es ++ number_label n text ∷ []
number_labels-push [] n text = refl
number_labels-push (e ∷ es) n text = let rest = number_labels-push es n text in λ i. number_label e.0 e.1 ∷ rest i

-- where no two keys are the same, no blank node has two labels
pub numbers-differ : (es : List (ℕ × List ℕ)) → IsDistinct nat_eq (keys_of es) → AllDiffer (map (λ (l : Label). l.blank.index) (number_labels es))
numbers-differ es d =
    subst AllDiffer (sym (map-map (λ (l : Label). l.blank.index) (λ (e : ℕ × List ℕ). number_label e.0 e.1) es)) (AllPairs-from_IsDistinct Decides-eqb (keys_of es) d)

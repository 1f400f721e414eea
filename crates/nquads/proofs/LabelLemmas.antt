-- The entries of the index of labels, read as the list of labels.
use Rattle.std.proofs.Common.{◌≡◌, ℕ, List, [], ◌∷◌, ◌++◌, map, refl, sym, ◌∙◌, Some, cond, Bool, true, false, Contains}
use Rattle.std.specs.List.{IsDistinct}
use Rattle.std.specs.Map.{keys_of}
use Rattle.base_types.specs.Sets.{AllDiffer}
use Rattle.base_types.proofs.Lists.{AllByRecursion-contains, Contains-from_map, Contains-map}
use Rattle.nquads.proofs.ReadingElements.{AllDiffer-nil, AllDiffer-cons}
use Rattle.std.specs.Str.{bytes_eq}
use Rattle.std.specs.Map.{lookup}
use Rattle.std.specs.Cmp.Lexicographic.{nat_list_eq_equiv}
use Rattle.nquads.specs.Texts.{label, find_label}
use Rattle.nquads.specs.declared.labels.TextLabel.{TextLabel}

module _ {K : Type 0} (f : K → List ℕ) where
  -- the entries as labels
  abbrev pub labels_of : List (K × List ℕ) → List TextLabel
  labels_of es = map (λ (e : K × List ℕ). label (f e.0) e.1) es

  pub find_label-lookup : (q : List ℕ) (es : List (K × List ℕ)) → lookup (λ k. bytes_eq q (f k)) es ≡ find_label (labels_of es) q
  find_label-lookup q [] = refl
  find_label-lookup q (e ∷ es) =
      let same = nat_list_eq_equiv.symm q (f e.0) in
      let rest = find_label-lookup q es in
      λ i. cond (same i) (Some e.1) (rest i)

  pub labels_of-push : (es : List (K × List ℕ)) (k : K) (text : List ℕ) → labels_of (es ++ (k, text) ∷ []) ≡ labels_of es ++ label (f k) text ∷ []
  labels_of-push [] k text = refl
  labels_of-push (e ∷ es) k text = let rest = labels_of-push es k text in λ i. label (f e.0) e.1 ∷ rest i

  -- the blank nodes of the labels
  abbrev pub blanks : List (K × List ℕ) → List (List ℕ)
  blanks es = map (λ (l : TextLabel). l.blank) (labels_of es)

  -- a blank node's key stands among the keys
  key_among : (es : List (K × List ℕ)) (b : List ℕ) → Contains (blanks es) b → (k : K) × Contains (keys_of es) k × (f k ≡ b)
  key_among es b m =
      let l = Contains-from_map (λ (l : TextLabel). l.blank) (labels_of es) b m in
      let e = Contains-from_map (λ (e : K × List ℕ). label (f e.0) e.1) es l.0 l.1 in
      let same : (label (f e.0.0) e.0.1).blank ≡ l.0.blank = λ i. (e.2 i).blank in
      (e.0.0, Contains-map (λ (e : K × List ℕ). e.0) es e.0 e.1, same ∙ l.2)

  -- where no two keys are the same, no blank node has two labels
  pub blanks-differ : (eq : K → K → Bool) → ((a b : K) → f a ≡ f b → eq a b ≡ true) → (es : List (K × List ℕ)) → IsDistinct eq (keys_of es) → AllDiffer (blanks es)
  unfolding IsDistinct
  blanks-differ eq decides [] d = AllDiffer-nil
  blanks-differ eq decides (e ∷ es) d =
      AllDiffer-cons (f e.0) (blanks es)
      (λ m. let k = key_among es (f e.0) m in
      let no : eq e.0 k.0 ≡ false = AllByRecursion-contains (λ y. eq e.0 y ≡ false) (keys_of es) k.0 d.0 k.1 in
      let yes : eq e.0 k.0 ≡ true = decides e.0 k.0 (sym k.2) in
      let both : true ≡ false = sym yes ∙ no in cc)
      (blanks-differ eq decides es d.1)

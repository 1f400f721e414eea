-- The labels that a canonical issuer gives: each found by its blank node's text, and all of them in order.
use Rattle.std.proofs.Common.{◌≡◌, ℕ, suc, ◌<◌, List, [], ◌∷◌, ◌++◌, map, length, Contains, Bool, true, false, cond, bytes_eq, Some, None, option_map, slice_get, codes, decimal, refl, sym, ap, ◌∙◌, subst, ⊎_elim, arith, append-nil, append_assoc}
use Rattle.std.specs.Option.{is_some, unwrap_or}
use Rattle.std.specs.List.{AllByRecursion}
use Rattle.std.proofs.lemmas.Bool.{false≢true, false_from_ne_true}
use Rattle.std.proofs.lemmas.Option.{slice_get-get_or, slice_get-map}
use Rattle.std.proofs.lemmas.List.{map-append, length-append, length-map}
use Rattle.std.proofs.lemmas.List.Elements.{All-nil, All-push, Contains-append_left}
use Rattle.std.proofs.lemmas.List.Sorted.{IsPermutation-middle}
use Rattle.base_types.specs.Order.{sorted_set}
use Rattle.base_types.specs.Sets.{AllDiffer}
use Rattle.base_types.proofs.Lists.{Contains-here, Contains-there, Contains-cons_cases, Contains-nil, Contains-from_map, AllByRecursion-contains, map-map}
use Rattle.digest_mac.specs.Digests.{digits}
use Rattle.digest_mac.specs.declared.hash.Hash.{Hash}
use Rattle.term_store.specs.Store.{text_at}
use Rattle.nquads.specs.Terms.{Blank, Statement}
use Rattle.nquads.specs.Renaming.{StandsIn, blanks_of}
use Rattle.nquads.specs.Spelling.{blank_text}
use Rattle.nquads.specs.Lines.{line, canonical_lines}
use Rattle.nquads.specs.Texts.{label, find_label, label_in}
use Rattle.nquads.specs.Stored.{AreLabelsKnown, find_number, labels_by_text, number_label}
use Rattle.nquads.specs.declared.hashes.BlankHash.{BlankHash}
use Rattle.nquads.specs.declared.labels.TextLabel.{TextLabel}
use Rattle.nquads.specs.declared.numbers.Label.{Label}
use Rattle.nquads.proofs.StoredLemmas.{find_label-number}
use Rattle.nquads.proofs.ReadingBlanks.{same_blank-true, same_blank-itself}
use Rattle.nquads.proofs.ReadingElements.{AllDiffer-head}
use Rattle.rdfc_first.proofs.MarkedLines.{same_text}
use Rattle.rdfc_ndegree.specs.Issuers.{has, canonical_id}
use Rattle.rdfc_ndegree.specs.Table.{numbers_below}
use Rattle.rdfc_ndegree.specs.Table.{NodeRow, names_of}
use Rattle.rdfc_ndegree.specs.TableOf.{IsRowOf, IsTableOf, first_names}
use Rattle.rdfc_ndegree.proofs.Membership.{has-from_contains, Contains-from_has, number-append, number-new}
use Rattle.rdfc_ndegree.proofs.Permutations.{map-agree, Each-append, Each-from_contains, Each-weaker, AllDiffer-permutation}
use Rattle.rdfc_ndegree.proofs.Lawful.{nodes-lawful}
use Rattle.rdfc_ndegree.proofs.Renamed.{line-agree, InPlace, in_place}
use Rattle.rdfc_ndegree.proofs.TableCarry.{at, no_blank, at-injective, table-length}
use Rattle.rdfc_ndegree.proofs.BuildLemmas.{option_cases}
use Rattle.rdfc_ndegree.proofs.NodePlaces.{blank-known}
use Rattle.rdfc_ndegree.proofs.TableLemmas.{zip-find}
use Rattle.rdfc_canon.specs.Canon.{nodes, canonical_labels, canonical_ids}
use Rattle.rdfc_canon.specs.Internal.Labelling.{with_label, all_labels}

-- ---- texts of blank nodes

text-once : (x b : Blank) → bytes_eq (blank_text x) (blank_text b) ≡ true → x ≡ b
text-once x b e = sym (same_blank-true b x (sym (same_text b x) ∙ e))

-- ---- labels by a function

module _ (f : Blank → List ℕ) where
  abbrev by_function : List Blank → List TextLabel
  by_function bs = map (λ b. label (blank_text b) (f b)) bs

  pub find-none : (bs : List Blank) (b : Blank) → (Contains bs b → ⊥) → find_label (by_function bs) (blank_text b) ≡ None
  find-none [] b new = refl
  find-none (x ∷ xs) b new =
      let other : bytes_eq (blank_text x) (blank_text b) ≡ false = false_from_ne_true (bytes_eq (blank_text x) (blank_text b)) (λ e. new (subst (Contains (x ∷ xs)) (text-once x b e) (Contains-here x xs))) in
      ap (λ t. cond t (Some (f x)) (find_label (by_function xs) (blank_text b))) other ∙ find-none xs b (λ k. new (Contains-there x xs b k))

  pub find-some : (bs : List Blank) (b : Blank) → Contains bs b → find_label (by_function bs) (blank_text b) ≡ Some (f b)
  find-some [] b k = absurd (Contains-nil b k)
  find-some (x ∷ xs) b k = go (bytes_eq (blank_text x) (blank_text b)) refl (find-some xs b)
    where
      here : bytes_eq (blank_text b) (blank_text b) ≡ true
      here = same_text b b ∙ same_blank-itself b

      later : bytes_eq (blank_text x) (blank_text b) ≡ false → Contains xs b
      later e = ⊎_elim (λ s. absurd (false≢true (sym e ∙ ap (λ (z : Blank). bytes_eq (blank_text z) (blank_text b)) s ∙ here))) (λ l. l) (Contains-cons_cases x xs b k)

      go : (t : Bool) → bytes_eq (blank_text x) (blank_text b) ≡ t → (Contains xs b → find_label (by_function xs) (blank_text b) ≡ Some (f b)) → cond (bytes_eq (blank_text x) (blank_text b)) (Some (f x)) (find_label (by_function xs) (blank_text b)) ≡ Some (f b)
      go true e h = ap (λ t. cond t (Some (f x)) (find_label (by_function xs) (blank_text b))) e ∙ ap (λ z. Some (f z)) (text-once x b e)
      go false e h = ap (λ t. cond t (Some (f x)) (find_label (by_function xs) (blank_text b))) e ∙ h (later e)

-- ---- the labels of an issuer

module _ (hash : Hash) (q : List Statement) where
  abbrev its_label : List Blank → Blank → TextLabel
  its_label d b = label (blank_text b) (canonical_id (nodes hash q) d b)

  not-has : (d : List Blank) (b : Blank) → (Contains d b → ⊥) → has (nodes hash q) d b ≡ false
  not-has d b new = false_from_ne_true (has (nodes hash q) d b) (λ e. new (Contains-from_has (nodes hash q) (nodes-lawful (digits hash) q) d b e))

  -- the next blank node gets the next label
  pub labels-push : (d : List Blank) (b : Blank) → (Contains d b → ⊥) → canonical_labels hash q (d ++ b ∷ []) ≡ canonical_labels hash q d ++ label (blank_text b) (codes "c14n" ++ decimal (length d)) ∷ []
  labels-push d b new =
      let before : map (its_label (d ++ b ∷ [])) d ≡ map (its_label d) d =
      map-agree (λ x. has (nodes hash q) d x ≡ true) (its_label (d ++ b ∷ [])) (its_label d) (λ x e. ap (λ k. label (blank_text x) (codes "c14n" ++ decimal k)) (number-append (nodes hash q) d (b ∷ []) x e)) d
      (Each-from_contains (λ x. has (nodes hash q) d x ≡ true) d (λ x k. has-from_contains (nodes hash q) (nodes-lawful (digits hash) q) d x k)) in
      let last : its_label (d ++ b ∷ []) b ≡ label (blank_text b) (codes "c14n" ++ decimal (length d)) = ap (λ k. label (blank_text b) (codes "c14n" ++ decimal k)) (number-new (nodes hash q) (nodes-lawful (digits hash) q) d b (not-has d b new)) in
      map-append (its_label (d ++ b ∷ [])) d (b ∷ []) ∙ (λ i. before i ++ last i ∷ [])

  pub labels-length : (d : List Blank) → length (canonical_labels hash q d) ≡ length d
  labels-length d = length-map d (its_label d)

  pub labels-new : (d : List Blank) (b : Blank) → (Contains d b → ⊥) → find_label (canonical_labels hash q d) (blank_text b) ≡ None
  labels-new d b new = find-none (canonical_id (nodes hash q) d) d b new

  pub labels-blanks : (d : List Blank) → map (λ (l : TextLabel). l.blank) (canonical_labels hash q d) ≡ map blank_text d
  labels-blanks d = map-map (λ (l : TextLabel). l.blank) (its_label d) d

  front : {X : Type 0} (xs : List X) (x : X) (ys : List X) → AllDiffer (xs ++ x ∷ ys) → Contains xs x → ⊥
  front xs x ys a k = AllDiffer-head x (xs ++ ys) (AllDiffer-permutation (xs ++ x ∷ ys) (x ∷ (xs ++ ys)) (IsPermutation-middle xs x ys) a) (Contains-append_left xs ys x k)

  -- they are c14n0, c14n1 and so on
  abbrev texts : List Blank → List (List ℕ)
  texts d = map (λ (l : TextLabel). l.text) (canonical_labels hash q d)

  numbered-next : (d : List Blank) (b : Blank) → (Contains d b → ⊥) → texts d ≡ canonical_ids (length d) → texts (d ++ b ∷ []) ≡ canonical_ids (length (d ++ b ∷ []))
  numbered-next d b new e =
      let whole = length-append d (b ∷ []) in
      let long : length (d ++ b ∷ []) ≡ suc (length d) = omega arith in
      ap (map (λ (l : TextLabel). l.text)) (labels-push d b new)
      ∙ map-append (λ (l : TextLabel). l.text) (canonical_labels hash q d) (label (blank_text b) (codes "c14n" ++ decimal (length d)) ∷ [])
      ∙ ap (λ ts. ts ++ (codes "c14n" ++ decimal (length d)) ∷ []) e
      ∙ sym (map-append (λ k. codes "c14n" ++ decimal k) (numbers_below (length d)) (length d ∷ []))
      ∙ ap canonical_ids (sym long)

  pub numbered : (d rest : List Blank) → AllDiffer (d ++ rest) → texts d ≡ canonical_ids (length d) → texts (d ++ rest) ≡ canonical_ids (length (d ++ rest))
  numbered d [] a e = subst (λ xs. texts xs ≡ canonical_ids (length xs)) (sym (append-nil d)) e
  numbered d (b ∷ bs) a e =
      let moved : (d ++ b ∷ []) ++ bs ≡ d ++ b ∷ bs = append_assoc d (b ∷ []) bs in
      subst (λ xs. texts xs ≡ canonical_ids (length xs)) moved (numbered (d ++ b ∷ []) bs (subst AllDiffer (sym moved) a) (numbered-next d b (front d b bs a) e))

  -- ---- what the program makes, number by number

  module _ (texts : List (List ℕ)) (differ : AllDiffer texts) (firsts : List BlankHash) (bs : List Blank) (rows : List NodeRow) (t : IsTableOf hash q bs rows) (names : names_of rows ≡ first_names texts firsts) where
    -- the number by which `firsts` names the blank node of a row
    first_at : (n : ℕ) → n < length rows → (h : BlankHash) × (slice_get firsts n ≡ Some h) × (text_at texts h.blank ≡ blank_text (at bs n))
    first_at n lt =
        let long = table-length hash q bs rows t in
        let found = zip-find (IsRowOf hash q bs) bs rows n (at bs n) t.each (slice_get-get_or bs n no_blank (omega arith)) in
        let name : option_map (λ (h : BlankHash). text_at texts h.blank) (slice_get firsts n) ≡ Some (blank_text (at bs n)) =
        sym (slice_get-map (λ (h : BlankHash). text_at texts h.blank) firsts n) ∙ ap (λ ns. slice_get ns n) (sym names) ∙ slice_get-map (λ (r : NodeRow). r.blank) rows n ∙ ap (option_map (λ (r : NodeRow). r.blank)) found.1 ∙ ap Some found.2.name in
        option_cases (slice_get firsts n) (λ (h : BlankHash). text_at texts h.blank) (blank_text (at bs n)) name

    apart : (done : List ℕ) (n : ℕ) → AllByRecursion (λ k. k < length rows) done → n < length rows → (Contains done n → ⊥) → Contains (map (at bs) done) (at bs n) → ⊥
    apart done n all lt new k =
        let found = Contains-from_map (at bs) done (at bs n) k in
        let below : found.0 < length rows = AllByRecursion-contains (λ x. x < length rows) done found.0 all found.1 in
        let long = table-length hash q bs rows t in
        new (subst (Contains done) (at-injective bs found.0 n t.differ (omega arith) (omega arith) found.2) found.1)

    -- the labels so far are those of these nodes
    record AreLabels (done : List ℕ) (ls : List Label) : Type 0 where
      known : AreLabelsKnown texts ls
      labels : labels_by_text texts ls ≡ canonical_labels hash q (map (at bs) done)

    label-next : (done : List ℕ) (n : ℕ) (ls : List Label) → AreLabels done ls → (Contains (map (at bs) done) (at bs n) → ⊥) → n < length rows → AreLabels (done ++ n ∷ []) (with_label ls (slice_get firsts n))
    label-next done n ls are new lt =
        let d = map (at bs) done in
        let f = first_at n lt in
        let h = f.0 in
        let named = f.2 in
        let known = blank-known texts h.blank (at bs n) named in
        let none : find_number ls h.blank.index ≡ None =
        sym (find_label-number texts differ ls h.blank are.known known) ∙ (λ i. find_label (are.labels i) (named i)) ∙ labels-new d (at bs n) new in
        let next : Label = number_label h.blank.index (codes "c14n" ++ decimal (length ls)) in
        let made : with_label ls (slice_get firsts n) ≡ ls ++ next ∷ [] = ap (with_label ls) f.1 ∙ ap (λ o. cond (is_some o) ls (ls ++ next ∷ [])) none in
        let long : length ls ≡ length d = sym (length-map ls (λ (l : Label). label (text_at texts l.blank) l.text)) ∙ ap length are.labels ∙ labels-length d in
        let before = are.labels in
        let push : labels_by_text texts (ls ++ next ∷ []) ≡ canonical_labels hash q (map (at bs) (done ++ n ∷ [])) =
        map-append (λ (l : Label). label (text_at texts l.blank) l.text) ls (next ∷ [])
        ∙ (λ i. before i ++ label (named i) (codes "c14n" ++ decimal (long i)) ∷ [])
        ∙ sym (labels-push d (at bs n) new)
        ∙ ap (canonical_labels hash q) (sym (map-append (at bs) done (n ∷ []))) in
        record {
          known = subst (AreLabelsKnown texts) (sym made) (All-push (λ (l : Label). l.blank.index < length texts) ls next are.known known);
          labels = ap (labels_by_text texts) made ∙ push;
        }

    labels-go : (done rest : List ℕ) (ls : List Label) → AreLabels done ls → AllDiffer (done ++ rest) → AllByRecursion (λ k. k < length rows) done → AllByRecursion (λ k. k < length rows) rest → AreLabels (done ++ rest) (all_labels firsts ls rest)
    labels-go done [] ls are a all later = subst (λ ns. AreLabels ns ls) (sym (append-nil done)) are
    labels-go done (n ∷ ns) ls are a all later =
        let moved : (done ++ n ∷ []) ++ ns ≡ done ++ n ∷ ns = append_assoc done (n ∷ []) ns in
        let next = label-next done n ls are (apart done n all later.0 (front done n ns a)) later.0 in
        subst (λ ms. AreLabels ms (all_labels firsts (with_label ls (slice_get firsts n)) ns)) moved
        (labels-go (done ++ n ∷ []) ns (with_label ls (slice_get firsts n)) next (subst AllDiffer (sym moved) a) (Each-append (λ k. k < length rows) done (n ∷ []) all (later.0, tt)) later.1)

    -- the labels of all nodes of an issuer
    pub labels-made : (ns : List ℕ) → AllDiffer ns → AllByRecursion (λ k. k < length rows) ns → labels_by_text texts (all_labels firsts [] ns) ≡ canonical_labels hash q (map (at bs) ns)
    labels-made ns a all = (labels-go [] ns [] record { known = All-nil (λ (l : Label). l.blank.index < length texts); labels = refl } a tt all).labels

  -- ---- lines under these labels

  pub label_in-is : (d : List Blank) (b : Blank) → Contains d b → label_in (canonical_labels hash q d) b ≡ canonical_id (nodes hash q) d b
  label_in-is d b k = ap (λ o. unwrap_or o []) (find-some (canonical_id (nodes hash q) d) d b k)

  pub lines-agree : (f g : Blank → List ℕ) → ((b : Blank) → StandsIn q b → f b ≡ g b) → canonical_lines f q ≡ canonical_lines g q
  lines-agree f g h = ap sorted_set (map-agree (InPlace q) (line f) (line g) (λ s p. line-agree f g s (Each-weaker (StandsIn q) (λ b. f b ≡ g b) h (blanks_of s) p)) q (in_place q))

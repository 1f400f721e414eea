-- Label maps and the renamings that they make, and what holds under a renaming.
use Rattle.std.proofs.Common.{◌≡◌, ◌≢◌, ℕ, zero, suc, ◌+◌, ◌<◌, ◌≤◌, ◌==◌, Bool, true, false, List, [], ◌∷◌, length, map, flat_map, All, Contains, inl, inr, refl, sym, ap, ◌∙◌, subst, arith, if◌then◌else◌}
use Rattle.std.proofs.lemmas.Bool.{eqb-false}
use Rattle.std.proofs.lemmas.List.Elements.{All-contains}
use Rattle.std.proofs.lemmas.Map.Views.{exact_unsigned_eq}
use Rattle.base64.specs.GeneralPurpose.{IsBytes}
use Rattle.base_types.specs.Order.{sorted_set}
use Rattle.base_types.specs.Sets.{AllDiffer}
use Rattle.base_types.proofs.Lists.{Contains-cons_cases, Contains-here, Contains-map, Contains-nil, Contains-there}
use Rattle.digest_mac.specs.Labels.{multibase_text}
use Rattle.digest_mac.proofs.Labels.{multibase_text-injective}
use Rattle.nquads.specs.Terms.{Blank, IsLabel, IsStatement, Statement}
use Rattle.nquads.specs.Renaming.{IsRenaming, NamesAll, Pair, StandsIn, blanks_of, image, same_blank}
use Rattle.nquads.specs.Lines.{HasLabels, canonical_lines, line}
use Rattle.nquads.proofs.ReadingBlanks.{AllDiffer-distinct, distinct, distinct_keeps, from_distinct, same_blank-false, same_blank-true, to_blanks_in}
use Rattle.nquads.proofs.ReadingElements.{All-from_contains, AllDiffer-cons, AllDiffer-head, AllDiffer-map, AllDiffer-nil, AllDiffer-tail}
use Rattle.nquads.proofs.ReadingRenamings.{back, image_back}
use Rattle.rdfc_ndegree.proofs.Permutations.{Each-weaker, map-agree}
use Rattle.rdfc_ndegree.proofs.Renamed.{InPlace, in_place, line-agree}
use Rattle.stmt_groups.specs.declared.types.BaseRecord.{BaseRecord}
use Rattle.stmt_groups.specs.Datasets.{IsLabelled, LabelledDataset, dataset_lines}
use Rattle.stmt_groups.specs.Groups.{under}
use Rattle.stmt_groups.specs.LabelMaps.{AreNumbered, HoldsUnder, IsLabelMap, LabelEntry, digest_for, entry, labelled_by, named_by, numbers_of, pair, renaming_by, renaming_from}
use Rattle.stmt_groups.specs.Lines.{lines_at, other_lines}
use Rattle.stmt_groups.specs.Soundness.{Holds}

-- ---- images that differ

-- where images differ, elements with one image are one
one_image : {X Y : Type 0} (f : X → Y) (xs : List X) → AllDiffer (map f xs) → (x y : X) → Contains xs x → Contains xs y → f x ≡ f y → x ≡ y
one_image f [] d x y c e s = absurd (Contains-nil x c)
one_image f (z ∷ zs) d x y c e s = elim (Contains-cons_cases z zs x c) [
  | inl p ↦ elim (Contains-cons_cases z zs y e) [
    | inl q ↦ sym p ∙ q
    | inr n ↦ absurd (AllDiffer-head (f z) (map f zs) d (subst (Contains (map f zs)) (sym s ∙ ap f (sym p)) (Contains-map f zs y n)))
  ]
  | inr m ↦ elim (Contains-cons_cases z zs y e) [
    | inl q ↦ absurd (AllDiffer-head (f z) (map f zs) d (subst (Contains (map f zs)) (s ∙ ap f (sym q)) (Contains-map f zs x m)))
    | inr n ↦ one_image f zs (AllDiffer-tail (f z) (map f zs) d) x y m n s
  ]
]

-- ---- digests by number

-- the digest for a number is that of an entry with it
record Found (entries : List LabelEntry) (m : ℕ) : Type 0 where
  pub of : LabelEntry
  pub within : Contains entries of
  pub number_is : of.number ≡ m
  pub digest_is : digest_for entries m ≡ of.digest

found_if : (e : LabelEntry) (es : List LabelEntry) (m : ℕ) (b : Bool) → (e.number == m) ≡ b → (b ≡ false → Found es m) → Found (e ∷ es) m
found_if e es m true is later = record {
  of = e;
  within = Contains-here e es;
  number_is = exact_unsigned_eq e.number m is;
  digest_is = ap (λ (b : Bool). if b then e.digest else digest_for es m) is;
}
found_if e es m false is later =
    let w = later refl in
    record {
      of = w.of;
      within = Contains-there e es w.of w.within;
      number_is = w.number_is;
      digest_is = ap (λ (b : Bool). if b then e.digest else digest_for es m) is ∙ w.digest_is;
    }

found : (entries : List LabelEntry) (m : ℕ) → Contains (numbers_of entries) m → Found entries m
found [] m c = absurd (Contains-nil m c)
found (e ∷ es) m c =
    found_if e es m (e.number == m) refl
    (λ other. elim (Contains-cons_cases e.number (numbers_of es) m c) [
      | inl same ↦ absurd (eqb-false e.number m other same)
      | inr d ↦ found es m d
    ])

-- ---- the renaming of a label map

from_are : (n : ℕ) (bs : List Blank) (entries : List LabelEntry) → map (λ (p : Pair). p.from) (renaming_from n bs entries) ≡ bs
from_are n [] entries = refl
from_are n (b ∷ bs) entries = ap (λ (cs : List Blank). b ∷ cs) (from_are (n + 1) bs entries)

-- the blank node that takes the place of the one with a number
abbrev named_for : List LabelEntry → ℕ → Blank
named_for entries k = named_by (multibase_text (digest_for entries k))

-- a number of a list that begins with the number n
record NumberIn (n count : ℕ) (entries : List LabelEntry) (to : Blank) : Type 0 where
  pub at : ℕ
  pub least : n ≤ at
  pub below : at < n + count
  pub is : named_for entries at ≡ to

later_number : (n count : ℕ) (entries : List LabelEntry) (to : Blank) → NumberIn (n + 1) count entries to → NumberIn n (suc count) entries to
later_number n count entries to w =
    let l : n + 1 ≤ w.at = w.least in
    let b : w.at < (n + 1) + count = w.below in
    record { at = w.at; least = omega arith; below = omega arith; is = w.is }

-- what is named has a number
target_number : (n : ℕ) (bs : List Blank) (entries : List LabelEntry) (to : Blank) → Contains (map (λ (p : Pair). p.to) (renaming_from n bs entries)) to → NumberIn n (length bs) entries to
target_number n [] entries to c = absurd (Contains-nil to c)
target_number n (b ∷ bs) entries to c = elim (Contains-cons_cases (named_for entries n) (map (λ (p : Pair). p.to) (renaming_from (n + 1) bs entries)) to c) [
  | inl e ↦ record { at = n; least = omega arith; below = omega arith; is = e }
  | inr d ↦ later_number n (length bs) entries to (target_number (n + 1) bs entries to d)
]

image_if : (a b : Blank) (bs : List Blank) (n : ℕ) (entries : List LabelEntry) (t : Bool) → same_blank a b ≡ t → (t ≡ false → NumberIn (n + 1) (length bs) entries (image (renaming_from (n + 1) bs entries) b))
    → NumberIn n (suc (length bs)) entries (if t then named_for entries n else image (renaming_from (n + 1) bs entries) b)
image_if a b bs n entries true is later = record { at = n; least = omega arith; below = omega arith; is = refl }
image_if a b bs n entries false is later = later_number n (length bs) entries (image (renaming_from (n + 1) bs entries) b) (later refl)

-- and the image of a blank node of the list is one of these
image_number : (n : ℕ) (bs : List Blank) (entries : List LabelEntry) (b : Blank) → Contains bs b → NumberIn n (length bs) entries (image (renaming_from n bs entries) b)
image_number n [] entries b c = absurd (Contains-nil b c)
image_number n (a ∷ bs) entries b c =
    image_if a b bs n entries (same_blank a b) refl
    (λ other. elim (Contains-cons_cases a bs b c) [
      | inl e ↦ absurd (same_blank-false a b other e)
      | inr d ↦ image_number (n + 1) bs entries b d
    ])

module _ (count : ℕ) (entries : List LabelEntry) (map_is : IsLabelMap count entries) (bytes : All (λ (e : LabelEntry). IsBytes e.digest) entries) where
  entry_for : (m : ℕ) → m < count → Found entries m
  entry_for m below = found entries m ((map_is.names m).1 below)

  -- numbers with one name are one
  one_number : (m k : ℕ) → m < count → k < count → named_for entries m ≡ named_for entries k → m ≡ k
  one_number m k low high same =
      let e = entry_for m low in
      let f = entry_for k high in
      let texts : multibase_text (digest_for entries m) ≡ multibase_text (digest_for entries k) = ap (λ (b : Blank). b.name) same in
      let digests : e.of.digest ≡ f.of.digest = multibase_text-injective e.of.digest f.of.digest
      (All-contains (λ (x : LabelEntry). IsBytes x.digest) entries e.of bytes e.within)
      (All-contains (λ (x : LabelEntry). IsBytes x.digest) entries f.of bytes f.within)
      (ap multibase_text (sym e.digest_is) ∙ texts ∙ ap multibase_text f.digest_is) in
      let one : e.of ≡ f.of = one_image (λ (x : LabelEntry). x.digest) entries map_is.one_to_one e.of f.of e.within f.within digests in
      sym e.number_is ∙ ap (λ (x : LabelEntry). x.number) one ∙ f.number_is

  targets_differ : (n : ℕ) (bs : List Blank) → n + length bs ≤ count → AllDiffer (map (λ (p : Pair). p.to) (renaming_from n bs entries))
  targets_differ n [] within = AllDiffer-nil
  targets_differ n (b ∷ bs) within =
      AllDiffer-cons (named_for entries n) (map (λ (p : Pair). p.to) (renaming_from (n + 1) bs entries))
      (λ c.
      let w = target_number (n + 1) bs entries (named_for entries n) c in
      let l : n + 1 ≤ w.at = w.least in
      let u : w.at < (n + 1) + length bs = w.below in
      let same : w.at ≡ n = one_number w.at n (omega arith) (omega arith) w.is in
      absurd (omega arith))
      (targets_differ (n + 1) bs (omega arith))

module _ (q : List Statement) (numbered : List Blank) (entries : List LabelEntry) (are : AreNumbered q numbered) (map_is : IsLabelMap (length numbered) entries) (bytes : All (λ (e : LabelEntry). IsBytes e.digest) entries) where
  abbrev pairs : List Pair
  pairs = renaming_by numbered entries

  is_renaming : IsRenaming pairs
  is_renaming = record {
    sources = subst (λ (bs : List Blank). AllDiffer bs) (sym (from_are 0 numbered entries)) are.once;
    targets = targets_differ (length numbered) entries map_is bytes 0 numbered (omega arith);
  }

  named : (b : Blank) → StandsIn q b → Contains (map (λ (p : Pair). p.from) pairs) b
  named b c = subst (λ (bs : List Blank). Contains bs b) (sym (from_are 0 numbered entries)) ((are.each b).0 c)

  names_all : NamesAll pairs q
  names_all =
      All-from_contains (λ (s : Statement). All (Contains (map (λ (p : Pair). p.from) pairs)) (blanks_of s)) q
      (λ s c. All-from_contains (Contains (map (λ (p : Pair). p.from) pairs)) (blanks_of s) (λ b d. named b (to_blanks_in q s b c d)))

  -- the map makes a renaming
  pub makes_renaming : IsRenaming pairs × NamesAll pairs q
  makes_renaming = (is_renaming, names_all)

  image_named : (b : Blank) → StandsIn q b → NumberIn 0 (length numbered) entries (image pairs b)
  image_named b c = image_number 0 numbered entries b ((are.each b).0 c)

  -- an image is named by its name
  image_is : (b : Blank) → StandsIn q b → named_by ((image pairs b).name) ≡ image pairs b
  image_is b c =
      let w = image_named b c in
      ap (λ (x : Blank). named_by x.name) (sym w.is) ∙ w.is

  -- its labels are labels of the dataset
  pub makes_labels : All (λ (e : LabelEntry). IsLabel (multibase_text e.digest)) entries → All IsStatement q → IsLabelled (labelled_by pairs q)
  makes_labels labels well_formed = record {
    well_formed = well_formed;
    in_grammar = All-from_contains (HasLabels (λ b. (image pairs b).name)) q (λ s c b d.
        let w = image_named b (to_blanks_in q s b c d) in
        let below : w.at < 0 + length numbered = w.below in
        let e = entry_for (length numbered) entries map_is bytes w.at (omega arith) in
        let name : multibase_text e.of.digest ≡ (image pairs b).name = ap multibase_text (sym e.digest_is) ∙ ap (λ (x : Blank). x.name) w.is in
        subst IsLabel name (All-contains (λ (x : LabelEntry). IsLabel (multibase_text x.digest)) entries e.of labels e.within));
    differ = λ a b x y e.
        let same : image pairs a ≡ image pairs b = sym (image_is a x) ∙ ap named_by e ∙ image_is b y in
        sym (image_back pairs a is_renaming (named a x)) ∙ ap (image (back pairs)) same ∙ image_back pairs b is_renaming (named b y);
  }

-- ---- which label maps there are

one_number_only : (m k : ℕ) → Contains (m ∷ []) k → m ≡ k
one_number_only m k c = elim (Contains-cons_cases m [] k c) [ inl e ↦ e | inr d ↦ absurd (Contains-nil k d) ]

differ_two : {X : Type 0} (x y : X) → x ≢ y → AllDiffer (x ∷ y ∷ [])
differ_two x y apart = AllDiffer-cons x (y ∷ []) (λ c. elim (Contains-cons_cases y [] x c) [ inl e ↦ apart (sym e) | inr d ↦ Contains-nil x d ]) (AllDiffer-cons y [] (Contains-nil y) AllDiffer-nil)

number_below_two : (n : ℕ) → n < 2 → Contains (1 ∷ 0 ∷ []) n
number_below_two zero l = Contains-there 1 (0 ∷ []) 0 (Contains-here 0 [])
number_below_two (suc zero) l = Contains-here 1 (0 ∷ [])
number_below_two (suc (suc n)) l = absurd (omega arith)

is_below_two : (n : ℕ) → Contains (1 ∷ 0 ∷ []) n → n < 2
is_below_two n c = elim (Contains-cons_cases 1 (0 ∷ []) n c) [
  | inl e ↦ omega arith
  | inr d ↦ let e : 0 ≡ n = one_number_only 0 n d in omega arith
]

-- one for two numbers, in any order
pub map_of_two : (a b : List ℕ) → a ≢ b → IsLabelMap 2 (entry 1 a ∷ entry 0 b ∷ [])
map_of_two a b apart = record {
  names = λ n. (is_below_two n, number_below_two n);
  once = differ_two 1 0 (λ e. absurd (omega arith));
  one_to_one = differ_two a b apart;
}

-- none without a number
pub map_lacks_none : (a : List ℕ) → IsLabelMap 2 (entry 0 a ∷ []) → ⊥
map_lacks_none a m =
    let e : 0 ≡ 1 = one_number_only 0 1 ((m.names 1).1 (omega arith)) in
    absurd (omega (arith, e))

-- none with a number twice
pub map_repeats_none : (a b : List ℕ) → IsLabelMap 1 (entry 0 a ∷ entry 0 b ∷ []) → ⊥
map_repeats_none a b m = AllDiffer-head 0 (0 ∷ []) m.once (Contains-here 0 [])

-- none with a number that is too great
pub map_adds_none : (a b : List ℕ) → IsLabelMap 1 (entry 0 a ∷ entry 1 b ∷ []) → ⊥
map_adds_none a b m =
    let below : 1 < 1 = (m.names 1).0 (Contains-there 0 (1 ∷ []) 1 (Contains-here 1 [])) in
    absurd (omega arith)

-- none with one digest for two numbers
pub map_is_one_to_one : (a : List ℕ) → IsLabelMap 2 (entry 0 a ∷ entry 1 a ∷ []) → ⊥
map_is_one_to_one a m = AllDiffer-head a (a ∷ []) m.one_to_one (Contains-here a [])

-- ---- what holds under a renaming

-- the renaming that names each of these blank nodes by its label
abbrev pairs_for : (Blank → List ℕ) → List Blank → List Pair
pairs_for label bs = map (λ b. pair b (named_by (label b))) bs

pairs_from : (label : Blank → List ℕ) (bs : List Blank) → map (λ (p : Pair). p.from) (pairs_for label bs) ≡ bs
pairs_from label [] = refl
pairs_from label (b ∷ bs) = ap (λ (cs : List Blank). b ∷ cs) (pairs_from label bs)

pairs_to : (label : Blank → List ℕ) (bs : List Blank) → map (λ (p : Pair). p.to) (pairs_for label bs) ≡ map (λ b. named_by (label b)) bs
pairs_to label [] = refl
pairs_to label (b ∷ bs) = ap (λ (cs : List Blank). named_by (label b) ∷ cs) (pairs_to label bs)

image_is_named : (label : Blank → List ℕ) (a b : Blank) (bs : List Blank) (t : Bool) → same_blank a b ≡ t → (t ≡ false → image (pairs_for label bs) b ≡ named_by (label b)) → (if t then named_by (label a) else image (pairs_for label bs) b) ≡ named_by (label b)
image_is_named label a b bs true is later = ap (λ (x : Blank). named_by (label x)) (same_blank-true a b is)
image_is_named label a b bs false is later = later refl

image_for : (label : Blank → List ℕ) (bs : List Blank) (b : Blank) → Contains bs b → image (pairs_for label bs) b ≡ named_by (label b)
image_for label [] b c = absurd (Contains-nil b c)
image_for label (a ∷ bs) b c =
    image_is_named label a b bs (same_blank a b) refl
    (λ other. elim (Contains-cons_cases a bs b c) [
      | inl e ↦ absurd (same_blank-false a b other e)
      | inr d ↦ image_for label bs b d
    ])

-- labels that agree on the blank nodes of a dataset give it the same lines
lines_agree : (f g : Blank → List ℕ) (q : List Statement) → ((b : Blank) → StandsIn q b → f b ≡ g b) → canonical_lines f q ≡ canonical_lines g q
lines_agree f g q h = ap sorted_set (map-agree (InPlace q) (line f) (line g) (λ s p. line-agree f g s (Each-weaker (StandsIn q) (λ b. f b ≡ g b) h (blanks_of s) p)) q (in_place q))

-- and are labels of it together
labelled_alike : (f g : Blank → List ℕ) (q : List Statement) → ((b : Blank) → StandsIn q b → f b ≡ g b) → IsLabelled (under g q) → IsLabelled (under f q)
labelled_alike f g q h d = record {
  well_formed = d.well_formed;
  in_grammar = All-from_contains (HasLabels f) q (λ s c b e. subst IsLabel (sym (h b (to_blanks_in q s b c e))) (All-contains (HasLabels g) q s d.in_grammar c b e));
  differ = λ a b x y e. d.differ a b x y (sym (h a x) ∙ e ∙ h b y);
}

module _ (r : BaseRecord) (document options : LabelledDataset) (indexes : List ℕ) (h : Holds r document options indexes) where
  abbrev own_pairs : List Pair
  own_pairs = pairs_for document.label (distinct (flat_map blanks_of document.statements))

  own_image : (b : Blank) → StandsIn document.statements b → (image own_pairs b).name ≡ document.label b
  own_image b c = ap (λ (x : Blank). x.name) (image_for document.label (distinct (flat_map blanks_of document.statements)) b (distinct_keeps (flat_map blanks_of document.statements) b c))

  own_lines : dataset_lines (labelled_by own_pairs document.statements) ≡ dataset_lines document
  own_lines = lines_agree (λ b. (image own_pairs b).name) document.label document.statements own_image

  own_renaming : IsRenaming own_pairs
  own_renaming = record {
    sources = subst (λ (bs : List Blank). AllDiffer bs) (sym (pairs_from document.label (distinct (flat_map blanks_of document.statements)))) (AllDiffer-distinct (flat_map blanks_of document.statements));
    targets = subst (λ (bs : List Blank). AllDiffer bs) (sym (pairs_to document.label (distinct (flat_map blanks_of document.statements))))
        (AllDiffer-map (λ b. named_by (document.label b)) (distinct (flat_map blanks_of document.statements))
        (λ a b c e s. h.document_labels.differ a b (from_distinct (flat_map blanks_of document.statements) a c) (from_distinct (flat_map blanks_of document.statements) b e) (ap (λ (x : Blank). x.name) s))
        (AllDiffer-distinct (flat_map blanks_of document.statements)));
  }

  own_names : NamesAll own_pairs document.statements
  own_names =
      All-from_contains (λ (s : Statement). All (Contains (map (λ (p : Pair). p.from) own_pairs)) (blanks_of s)) document.statements
      (λ s c. All-from_contains (Contains (map (λ (p : Pair). p.from) own_pairs)) (blanks_of s) (λ b d.
      subst (λ (bs : List Blank). Contains bs b) (sym (pairs_from document.label (distinct (flat_map blanks_of document.statements))))
      (distinct_keeps (flat_map blanks_of document.statements) b (to_blanks_in document.statements s b c d))))

  -- the record holds under the renaming by the document's labels
  pub holds_under_own : (pairs : List Pair) × HoldsUnder r pairs document.statements options.statements indexes
  holds_under_own = (
    own_pairs,
    record {
      renaming = own_renaming;
      names = own_names;
      options_label = options.label;
      holds = record {
        document_labels = labelled_alike (λ b. (image own_pairs b).name) document.label document.statements own_image h.document_labels;
        options_labels = h.options_labels;
        mandatory = ap (lines_at indexes) own_lines ∙ h.mandatory;
        others = subst (λ (ls : List (List ℕ)). All (Contains r.others) (other_lines indexes ls)) (sym own_lines) h.others;
        options_lines = h.options_lines;
      };
    },
  )

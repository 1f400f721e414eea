-- Lines in groups are canonical lines, where the statements have labels.
use Rattle.std.proofs.Common.{◌≡◌, ℕ, Bool, true, false, not, List, [], ◌∷◌, length, map, filter, All, Contains, refl, sym, ap, ◌∙◌, subst, Ordering}
use Rattle.std.specs.Prelude.{◌↔◌}
use Rattle.std.specs.List.{AllByRecursion, AllZip}
use Rattle.std.specs.List.Sorted.{IsStrictlySortedBy}
use Rattle.std.proofs.lemmas.Cmp.{nat_list_cmp_total, on_total}
use Rattle.std.specs.Ordering.{is_lt, on}
use Rattle.std.specs.declared.cmp.Ordering.TheVariants.{Less}
use Rattle.std.proofs.lemmas.Bool.{and_from, and_parts, false≢true}
use Rattle.std.proofs.lemmas.List.{length-map}
use Rattle.std.proofs.lemmas.List.Elements.{All-contains}
use Rattle.std.proofs.lemmas.List.Kept.{IsStrictlySortedBy-filter}
use Rattle.std.proofs.lemmas.List.Sorted.{length_permutation}
use Rattle.base_types.specs.Order.{each_next, is_upto}
use Rattle.base_types.specs.Sets.{AllDiffer, SameElements}
use Rattle.base_types.proofs.Lists.{Contains-from_map, Contains-here, Contains-map, Contains-there}
use Rattle.base_types.proofs.Orders.{bytes_eq-false, less_if, text_cmp}
use Rattle.base_types.proofs.Rising.{rising-only}
use Rattle.base_types.proofs.Searching.{each_next-map, strict_from_next}
use Rattle.nquads.specs.Terms.{Blank, IsDataset, Statement}
use Rattle.nquads.specs.Lines.{canonical_lines, line}
use Rattle.nquads.proofs.ReadingDatasets.{line_names_statement_in}
use Rattle.nquads.proofs.ReadingElements.{All-from_contains, AllDiffer-head, AllDiffer-map, AllDiffer-tail}
use Rattle.rdfc_ndegree.proofs.Membership.{AllZip-from_left, AllZip-from_right, Contains-filter, Contains-from_filter}
use Rattle.rdfc_ndegree.proofs.Permutations.{IsPermutation-from_elements}
use Rattle.stmt_groups.specs.declared.grouping.Line.{Line}
use Rattle.stmt_groups.specs.declared.types.BaseRecord.{BaseRecord}
use Rattle.stmt_groups.specs.Datasets.{IsLabelled, LabelledDataset, dataset_lines}
use Rattle.stmt_groups.specs.Groups.{AreGroups, IsLineOf, chosen_texts, mandatory_texts, other_texts, texts_of, under}
use Rattle.stmt_groups.specs.Parts.{AreParts, Parts}
use Rattle.stmt_groups.specs.Records.{IsRecord, IsSplit}

-- ---- texts in order, each once

upto_rises : (ts : List (List ℕ)) → each_next is_upto ts ≡ true → AllDiffer ts → each_next (λ (x y : List ℕ). is_lt (text_cmp x y)) ts ≡ true
upto_rises [] up differ = refl
upto_rises (x ∷ []) up differ = refl
upto_rises (x ∷ y ∷ ts) up differ =
    let both = and_parts (is_upto x y) (each_next is_upto (y ∷ ts)) up in
    let other = bytes_eq-false y x (λ e. AllDiffer-head x (y ∷ ts) differ (subst (Contains (y ∷ ts)) e (Contains-here y ts))) in
    and_from (is_lt (text_cmp x y)) (each_next (λ (v w : List ℕ). is_lt (text_cmp v w)) (y ∷ ts)) (ap is_lt (less_if x y both.0 other)) (upto_rises (y ∷ ts) both.1 (AllDiffer-tail x (y ∷ ts) differ))

-- lines by their texts alone
abbrev by_text : Line → Line → Ordering
by_text = on (λ (l : Line). l.text) text_cmp

below_texts : (l : Line) (ls : List Line) → AllByRecursion (λ k. by_text l k ≡ Less) ls → AllByRecursion (λ t. text_cmp l.text t ≡ Less) (texts_of ls)
below_texts l [] all = tt
below_texts l (k ∷ ls) all = (all.0, below_texts l ls all.1)

texts_rise : (ls : List Line) → IsStrictlySortedBy by_text ls → IsStrictlySortedBy text_cmp (texts_of ls)
unfolding IsStrictlySortedBy
texts_rise [] s = tt
texts_rise (l ∷ ls) s = (below_texts l ls s.0, texts_rise ls s.1)

same_if : (a b : Bool) → (a ≡ true → b ≡ true) → (b ≡ true → a ≡ true) → a ≡ b
same_if true true f g = refl
same_if true false f g = sym (f refl)
same_if false true f g = g refl
same_if false false f g = refl

not_true : (b : Bool) → not b ≡ true → b ≡ true → ⊥
not_true true n t = false≢true n
not_true false n t = false≢true t

true_not : (b : Bool) → (b ≡ true → ⊥) → not b ≡ true
true_not true n = absurd (n refl)
true_not false n = refl

-- ---- groups of a labelled dataset

module _ (label : Blank → List ℕ) (p : Parts Statement) (lines : List Line) (d : IsLabelled (under label p.whole)) (g : AreGroups label p lines) where
  one_statement : (s t : Statement) → Contains p.whole s → Contains p.whole t → line label s ≡ line label t → s ≡ t
  one_statement = line_names_statement_in label p.whole d.well_formed d.in_grammar d.differ

  -- lines with one text are one
  one_line : (k l : Line) → Contains lines k → Contains lines l → k.text ≡ l.text → k ≡ l
  one_line k l c e same =
      let a = g.each k c in
      let b = g.each l e in
      let statement : a.0 ≡ b.0 = one_statement a.0 b.0 a.1 b.1 (sym a.2.text ∙ same ∙ b.2.text) in
      let must : k.mandatory ≡ l.mandatory = same_if k.mandatory l.mandatory
      (λ t. b.2.says.is_mandatory.1 (subst (Contains p.mandatory) statement (a.2.says.is_mandatory.0 t)))
      (λ t. a.2.says.is_mandatory.1 (subst (Contains p.mandatory) (sym statement) (b.2.says.is_mandatory.0 t))) in
      let may : k.chosen ≡ l.chosen = same_if k.chosen l.chosen
      (λ t. b.2.says.is_chosen.1 (subst (Contains p.chosen) statement (a.2.says.is_chosen.0 t)))
      (λ t. a.2.says.is_chosen.1 (subst (Contains p.chosen) (sym statement) (b.2.says.is_chosen.0 t))) in
      λ i. record { text = same i; mandatory = must i; chosen = may i }

  texts_differ : AllDiffer (texts_of lines)
  texts_differ = AllDiffer-map (λ (l : Line). l.text) lines one_line g.once

  lines_rise : IsStrictlySortedBy by_text lines
  lines_rise =
      let up : each_next is_upto (texts_of lines) ≡ true = each_next-map (λ (l : Line). l.text) is_upto lines ∙ g.in_order in
      let rises = upto_rises (texts_of lines) up texts_differ in
      strict_from_next (on_total (λ (l : Line). l.text) nat_list_cmp_total) lines (sym (each_next-map (λ (l : Line). l.text) (λ (x y : List ℕ). is_lt (text_cmp x y)) lines) ∙ rises)

  -- lines of the group that are exactly those of a part
  of_part : (ls : List Line) (part : List Statement) → IsStrictlySortedBy by_text ls → ((l : Line) → Contains ls l → (s : Statement) × Contains part s × (l.text ≡ line label s)) → ((s : Statement) → Contains part s → (l : Line) × Contains ls l × (l.text ≡ line label s))
      → texts_of ls ≡ canonical_lines label part
  of_part ls part rise each every =
      rising-only (map (line label) part) (texts_of ls) (texts_rise ls rise) (λ t. (
        λ c.
            let l = Contains-from_map (λ (k : Line). k.text) ls t c in
            let s = each l.0 l.1 in
            subst (Contains (map (line label) part)) (sym s.2 ∙ l.2) (Contains-map (line label) part s.0 s.1),
        λ c.
            let s = Contains-from_map (line label) part t c in
            let l = every s.0 s.1 in
            subst (Contains (texts_of ls)) (l.2 ∙ s.2) (Contains-map (λ (k : Line). k.text) ls l.0 l.1),
      ))

  -- those that pass a test, where the test says whether the statement is of the part
  passing : (test : Line → Bool) (part : List Statement) → ((l : Line) (s : Statement) → Contains p.whole s → IsLineOf label p s l → (test l ≡ true) ↔ Contains part s) → All (Contains p.whole) part → texts_of (filter test lines) ≡ canonical_lines label part
  passing test part says within =
      of_part (filter test lines) part (IsStrictlySortedBy-filter by_text test lines lines_rise)
      (λ l c.
      let kept = Contains-from_filter test lines l c in
      let s = g.each l kept.0 in
      (s.0, (says l s.0 s.1 s.2).0 kept.1, s.2.text))
      (λ s c.
      let stands = All-contains (Contains p.whole) part s within c in
      let l = g.every s stands in
      (l.0, Contains-filter test lines l.0 l.1 ((says l.0 s stands l.2).1 c), l.2.text))

  pub whole_lines : texts_of lines ≡ canonical_lines label p.whole
  whole_lines =
      of_part lines p.whole lines_rise
      (λ l c. let s = g.each l c in (s.0, s.1, s.2.text))
      (λ s c. let l = g.every s c in (l.0, l.1, l.2.text))

  pub mandatory_lines_are : All (Contains p.whole) p.mandatory → mandatory_texts lines ≡ canonical_lines label p.mandatory
  mandatory_lines_are within = passing (λ (l : Line). l.mandatory) p.mandatory (λ l s c is. is.says.is_mandatory) within

  pub chosen_lines_are : All (Contains p.whole) p.chosen → chosen_texts lines ≡ canonical_lines label p.chosen
  chosen_lines_are within = passing (λ (l : Line). l.chosen) p.chosen (λ l s c is. is.says.is_chosen) within

  pub other_lines_are : (others : List Statement) → IsSplit p.whole p.mandatory others → other_texts lines ≡ canonical_lines label others
  other_lines_are others split =
      passing (λ (l : Line). not l.mandatory) others
      (λ l s c is. (
        λ n. (split.rest s).1 (c, λ m. not_true l.mandatory n (is.says.is_mandatory.1 m)),
        λ o. true_not l.mandatory (λ t. ((split.rest s).0 o).1 (is.says.is_mandatory.0 t)),
      ))
      (All-from_contains (Contains p.whole) others (λ s o. ((split.rest s).0 o).0))

  -- there are as many lines as statements
  pub as_many : IsDataset p.whole → length lines ≡ length p.whole
  as_many dataset =
      let differ : AllDiffer (map (line label) p.whole) = AllDiffer-map (line label) p.whole one_statement dataset in
      let same : SameElements (map (line label) p.whole) (texts_of lines) = λ t. (
        λ c.
            let s = Contains-from_map (line label) p.whole t c in
            let l = g.every s.0 s.1 in
            subst (Contains (texts_of lines)) (l.2.text ∙ s.2) (Contains-map (λ (k : Line). k.text) lines l.0 l.1),
        λ c.
            let l = Contains-from_map (λ (k : Line). k.text) lines t c in
            let s = g.each l.0 l.1 in
            subst (Contains (map (line label) p.whole)) (sym s.2.text ∙ l.2) (Contains-map (line label) p.whole s.0 s.1),
      ) in
      sym (length-map lines (λ (l : Line). l.text)) ∙ length_permutation (map (line label) p.whole) (texts_of lines) (IsPermutation-from_elements (map (line label) p.whole) (texts_of lines) differ texts_differ same) ∙ length-map p.whole (line label)

  -- ---- the record

  -- the line is that of a statement of the whole
  abbrev Names : Line → Statement → Type 0
  Names l s = Contains p.whole s × IsLineOf label p s l

  -- the statements of lines, in their order
  statements_of : (ls : List Line) → ((l : Line) → Contains ls l → Contains lines l) → (ss : List Statement) × AllZip Names ls ss
  statements_of [] within = ([], tt)
  statements_of (l ∷ ls) within =
      let s = g.each l (within l (Contains-here l ls)) in
      let rest = statements_of ls (λ k c. within k (Contains-there l ls k c)) in
      (s.0 ∷ rest.0, ((s.1, s.2), rest.1))

  -- those of the lines that are not mandatory
  others_found : (ss : List Statement) × AllZip Names (filter (λ (l : Line). not l.mandatory) lines) ss
  others_found = statements_of (filter (λ (l : Line). not l.mandatory) lines) (λ l c. (Contains-from_filter (λ (k : Line). not k.mandatory) lines l c).0)

  others_split : All (Contains p.whole) p.mandatory → IsSplit p.whole p.mandatory others_found.0
  others_split within = record {
    part = within;
    rest = λ s. (
      λ o.
          let l = AllZip-from_right Names (filter (λ (k : Line). not k.mandatory) lines) others_found.0 s others_found.1 o in
          let kept = Contains-from_filter (λ (k : Line). not k.mandatory) lines l.0 l.1 in
          (l.2.0, λ m. not_true l.0.mandatory kept.1 (l.2.1.says.is_mandatory.1 m)),
      λ w.
          let l = g.every s w.0 in
          let kept = Contains-filter (λ (k : Line). not k.mandatory) lines l.0 l.1 (true_not l.0.mandatory (λ t. w.1 (l.2.says.is_mandatory.0 t))) in
          let t = AllZip-from_left Names (filter (λ (k : Line). not k.mandatory) lines) others_found.0 l.0 others_found.1 kept in
          subst (Contains others_found.0) (sym (one_statement s t.0 w.0 t.2.0 (sym l.2.text ∙ t.2.1.text))) t.1,
    );
  }

  -- the mandatory lines and the others make a record
  pub make_record : (options : LabelledDataset) (r : BaseRecord) → IsLabelled options → All (Contains p.whole) p.mandatory → r.mandatory ≡ mandatory_texts lines → r.others ≡ other_texts lines → r.options ≡ dataset_lines options → IsRecord (under label p.whole) options p.mandatory r
  make_record options r labelled within must rest opts = record {
    document_labels = d;
    options_labels = labelled;
    others = others_found.0;
    split = others_split within;
    mandatory_lines = must ∙ mandatory_lines_are within;
    other_lines = rest ∙ other_lines_are others_found.0 (others_split within);
    options_lines = opts;
  }

-- ---- chosen lines

-- a mandatory line is a chosen one
pub mandatory_is_chosen : (label : Blank → List ℕ) (p : Parts Statement) (lines : List Line) (l : Line) → AreParts p → AreGroups label p lines → Contains lines l → l.mandatory ≡ true → l.chosen ≡ true
mandatory_is_chosen label p lines l are g c must =
    let s = g.each l c in
    s.2.says.is_chosen.1 (All-contains (Contains p.chosen) p.mandatory s.0 are.mandatory_chosen (s.2.says.is_mandatory.0 must))

-- The sorted lines of a dataset give its first-degree hashes.
use Rattle.std.proofs.Common.{◌≡◌, ◌==◌, ◌<◌, ℕ, List, [], ◌∷◌, length, map, filter, sym, ap, ◌∙◌, subst, inl, inr, All, Contains}
use Rattle.std.specs.List.{concat, flat_map}
use Rattle.std.specs.List.Sorted.{IsPermutation}
use Rattle.std.proofs.lemmas.Bool.Decides.{Decides-eqb}
use Rattle.std.proofs.lemmas.Cmp.{nat_cmp_total}
use Rattle.std.proofs.lemmas.List.Elements.{All-head, All-tail, Contains-append_cases}
use Rattle.std.proofs.lemmas.List.Sorted.{Contains-permutation, IsPermutation-sym}
use Rattle.base_types.specs.Order.{in_order}
use Rattle.base_types.specs.Sets.{AllDiffer}
use Rattle.base_types.proofs.Lists.{map-map, Contains-nil, Contains-here, Contains-there, Contains-map, Contains-from_map, AllDiffer-images, AllDiffer-strictly_sorted}
use Rattle.term_store.specs.Store.{text_at}
use Rattle.term_store.specs.declared.store.TermId.{TermId}
use Rattle.term_store.specs.declared.statements.Quad.{Quad}
use Rattle.nquads.specs.Terms.{Blank, Statement}
use Rattle.nquads.specs.Renaming.{blanks_of, StandsIn}
use Rattle.nquads.specs.Spelling.{blank_text, text_quad}
use Rattle.nquads.specs.Lines.{line}
use Rattle.nquads.specs.Stored.{IsKnown, quad_texts}
use Rattle.nquads.specs.FirstDegree.{mentions, mention_set, mark, first_degree_hash, IsFirstHash, AreFirstHashes}
use Rattle.nquads.specs.declared.hashes.BlankHash.{BlankHash}
use Rattle.nquads.proofs.ReadingBlanks.{to_blanks_in, from_blanks_in}
use Rattle.rdfc_first.specs.declared.mentions.MentionLine.{MentionLine}
use Rattle.rdfc_first.specs.Internal.Mentions.{mention_lines}
use Rattle.rdfc_first.specs.Internal.Grouping.{lines_for, AreHashesOf, InBlankOrder}
use Rattle.rdfc_first.proofs.Filters.{Contains-from_filter, filter-passes, Contains-filter}
use Rattle.rdfc_first.proofs.Runs.{lines_for-sorted}
use Rattle.rdfc_first.proofs.MentionLines.{lines_for-dataset, mention_blank, mentions-contains}

abbrev blank_of : MentionLine → TermId
blank_of m = m.blank

-- the number has the text of a blank node of the dataset
abbrev IsNumberOf : List (List ℕ) → List Statement → TermId → Type 0
IsNumberOf texts q id = (n : Blank) × StandsIn q n × (id.index < length texts) × (text_at texts id ≡ blank_text n)

-- each line is for a blank node of the dataset
line_stands : (texts : List (List ℕ)) (all : List Statement) (quads : List Quad) (q : List Statement) → All (IsKnown texts) quads → map (quad_texts texts) quads ≡ map text_quad q → ((s : Statement) → Contains q s → Contains all s) → (m : MentionLine) → Contains (flat_map (mention_lines texts) quads) m → IsNumberOf texts all m.blank
line_stands texts all [] q known e within m c = absurd (Contains-nil m c)
line_stands texts all (quad ∷ quads) [] known e within m c = absurd (cc)
line_stands texts all (quad ∷ quads) (s ∷ q) known e within m c =
    let first : quad_texts texts quad ≡ text_quad s = cc in
    let later : map (quad_texts texts) quads ≡ map text_quad q = cc in
    elim (Contains-append_cases (mention_lines texts quad) (flat_map (mention_lines texts) quads) m c) [
      | inl d ↦ let n = mention_blank texts quad s m (All-head (IsKnown texts) quad quads known) first d in (n.0, to_blanks_in all s n.0 (within s (Contains-here s q)) n.1, n.2, n.3)
      | inr d ↦ line_stands texts all quads q (All-tail (IsKnown texts) quad quads known) later (λ t k. within t (Contains-there s q t k)) m d
    ]

module _ (digest : List ℕ → List ℕ) (texts : List (List ℕ)) (differ : AllDiffer texts) (quads : List Quad) (q : List Statement) (known : All (IsKnown texts) quads) (is : map (quad_texts texts) quads ≡ map text_quad q) (lines sorted : List MentionLine) (made : lines ≡ flat_map (mention_lines texts) quads) (moved : IsPermutation lines sorted) (up : InBlankOrder sorted) where
  from_blanks : (x : TermId) → Contains (map blank_of sorted) x → IsNumberOf texts q x
  from_blanks x c =
      let m = Contains-from_map blank_of sorted x c in
      let within : Contains lines m.0 = Contains-permutation sorted lines m.0 (IsPermutation-sym lines sorted moved) m.1 in
      subst (IsNumberOf texts q) m.2 (line_stands texts q quads q known is (λ s k. k) m.0 (subst (λ ls. Contains ls m.0) made within))

  module _ (id : TermId) (n : Blank) (below : id.index < length texts) (named : text_at texts id ≡ blank_text n) where
    its_lines : lines_for id (flat_map (mention_lines texts) quads) ≡ map (line (mark n)) (mention_set q n)
    its_lines = lines_for-dataset texts differ id n below named quads q known is

    to_blanks : StandsIn q n → Contains (map blank_of sorted) id
    to_blanks stands =
        let at = from_blanks_in q n stands in
        let told : Contains (mention_set q n) at.statement = Contains-filter (mentions n) q at.statement (mentions-contains n (blanks_of at.statement) at.blank_node) at.within in
        let lined : Contains (lines_for id (flat_map (mention_lines texts) quads)) (line (mark n) at.statement) = subst (λ ls. Contains ls (line (mark n) at.statement)) (sym its_lines) (Contains-map (line (mark n)) (mention_set q n) at.statement told) in
        let p = λ (m : MentionLine). m.blank.index == id.index in
        let m = Contains-from_map (λ (m : MentionLine). m.line) (filter p (flat_map (mention_lines texts) quads)) (line (mark n) at.statement) lined in
        let numbers : m.0.blank.index ≡ id.index = (Decides-eqb m.0.blank.index id.index).0 (filter-passes p (flat_map (mention_lines texts) quads) m.0 m.1) in
        let same : m.0.blank ≡ id = λ i. record { index = numbers i } in
        let within : Contains lines m.0 = subst (λ ls. Contains ls m.0) (sym made) (Contains-from_filter p (flat_map (mention_lines texts) quads) m.0 m.1) in
        subst (Contains (map blank_of sorted)) same (Contains-map blank_of sorted m.0 (Contains-permutation lines sorted m.0 moved within))

    hash_is : digest (concat (lines_for id sorted)) ≡ first_degree_hash digest q n
    hash_is =
        ap (λ ls. digest (concat ls))
        (lines_for-sorted id lines sorted moved up ∙ ap (λ ls. in_order (lines_for id ls)) made ∙ ap in_order its_lines)

  -- what the grouped lines give are the first-degree hashes
  pub are_first : (hashes : List BlankHash) → AreHashesOf digest sorted hashes → AreFirstHashes digest texts q hashes
  are_first hashes are = record {
    once =
        let numbers : AllDiffer (map (λ (h : BlankHash). h.blank.index) hashes) = AllDiffer-strictly_sorted nat_cmp_total (map (λ (h : BlankHash). h.blank.index) hashes) are.rise in
        AllDiffer-images (λ (b : TermId). b.index) (map (λ (h : BlankHash). h.blank) hashes) (subst AllDiffer (sym (map-map (λ (b : TermId). b.index) (λ (h : BlankHash). h.blank) hashes)) numbers);
    exact = λ h. (to h, fro h);
  }
    where
      to : (h : BlankHash) → Contains hashes h → IsFirstHash digest texts q h
      to h c =
          let told = (are.exact h).0 c in
          let n = from_blanks h.blank told.0 in
          (n.0, n.1, n.2, n.3, told.1 ∙ hash_is h.blank n.0 n.2 n.3)

      fro : (h : BlankHash) → IsFirstHash digest texts q h → Contains hashes h
      fro h (n, stands, below, named, e) = (are.exact h).1 (to_blanks h.blank n below named stands, e ∙ sym (hash_is h.blank n below named))

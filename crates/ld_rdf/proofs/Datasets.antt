-- The dataset of a flat request.
use Rattle.std.proofs.Common.{◌≡◌, ◌≢◌, ℕ, true, false, ◌==◌, List, [], ◌∷◌, map, Contains, bytes_eq, not, Some, refl, sym, ap, ◌∙◌, subst, arith, codes}
use Rattle.std.specs.List.{starts_with}
use Rattle.std.proofs.lemmas.Bool.{true≢false, not-true}
use Rattle.std.proofs.lemmas.Bool.Decides.{nat_tests}
use Rattle.std.proofs.lemmas.List.Elements.{All-weaker}
use Rattle.std.proofs.lemmas.List.Sums.{AllPass-from_list_all}
use Rattle.base_types.specs.Sets.{SameElements, AllDiffer}
use Rattle.base_types.proofs.Lists.{Contains-here, Contains-there, Contains-nil, Contains-map, Contains-from_map, AllDiffer-images}
use Rattle.json_tree.specs.declared.tree.Tree.{Tree}
use Rattle.json_tree.specs.Trees.{is_lawful}
use Rattle.nquads.specs.Terms.{Blank, Statement, HasIriCharacters, IsStatement, is_forbidden, xsd_string, rdf_lang_string}
use Rattle.nquads.specs.Spelling.{text_quad}
use Rattle.nquads.specs.Lines.{line}
use Rattle.nquads.specs.Renaming.{blanks_of}
use Rattle.nquads.proofs.ReadingTerms.{spelled_one_reading}
use Rattle.nquads.proofs.ReadingLines.{line_names_statement}
use Rattle.ld_rdf.specs.Plain.{is_iri_character, IsPlainIri}
use Rattle.ld_rdf.specs.Flat.{property_statement, IsFlat, IsFlatMeaning, Means}
use Rattle.ld_rdf.proofs.WholeRequests.{flat_statements}
use Rattle.ld_rdf.proofs.OptionsAndLists.{picked}
use Rattle.ld_rdf.proofs.Shapes.{Shape, shape_from_statements, parts}
use Rattle.ld_rdf.proofs.Meaning.{Description, description, is_flat, means_from, means_to, means_plain}
use Rattle.json_tree.proofs.Rising.{right_of}

-- ---- plain IRIs are IRIs

-- the characters of plain IRIs may stand in an IRI
pub plain_character : (c : ℕ) → is_iri_character c ≡ true → is_forbidden c ≡ false
plain_character c h = grind (arith, nat_tests)

-- a plain IRI has the characters of an IRI
pub plain_iri_is_iri : (text : List ℕ) → IsPlainIri text → HasIriCharacters text
plain_iri_is_iri text h =
    All-weaker (λ c. is_iri_character c ≡ true) (λ c. is_forbidden c ≡ false) plain_character text (AllPass-from_list_all is_iri_character text (right_of (starts_with ◌==◌ text (codes "https://")) _ h))

xsd_string_is_iri : HasIriCharacters xsd_string
xsd_string_is_iri = All-weaker (λ c. not (is_forbidden c) ≡ true) (λ c. is_forbidden c ≡ false) (λ c h. not-true (is_forbidden c) h) xsd_string (AllPass-from_list_all (λ c. not (is_forbidden c)) xsd_string refl)

strings_differ : xsd_string ≢ rdf_lang_string
strings_differ e = true≢false (ap (λ (t : List ℕ). bytes_eq xsd_string t) e)

-- a property with plain IRIs is a statement
pub property_is_statement : (id mapping text : List ℕ) → IsPlainIri id → IsPlainIri mapping → IsStatement (property_statement id mapping text)
property_is_statement id mapping text p q = record {
  subject = plain_iri_is_iri id p;
  predicate = plain_iri_is_iri mapping q;
  object = (xsd_string_is_iri, strings_differ);
  graph = tt;
}

-- ---- lines

-- what a request means has no blank nodes
pub no_blanks : (r : Tree) (s : Statement) → Means r s → blanks_of s ≡ []
no_blanks r s m = ap blanks_of m.is

-- so its lines are the same under any labels
pub lines_alike : (r : Tree) (f g : Blank → List ℕ) (q : List Statement) → ((s : Statement) → Contains q s → Means r s) → map (line f) q ≡ map (line g) q
lines_alike r f g [] all = refl
lines_alike r f g (s ∷ ss) all =
    let is = (all s (Contains-here s ss)).is in
    let first : line f s ≡ line g s = ap (line f) is ∙ sym (ap (line g) is) in
    let rest = lines_alike r f g ss (λ t c. all t (Contains-there s ss t c)) in
    λ i. first i ∷ rest i

-- ---- the dataset

module _ (r : Tree) (lawful : is_lawful r ≡ true) (ss : List Statement) (h : flat_statements r ≡ Some ss) where
  shape : Shape r
  shape = shape_from_statements r ss h

  described_here : Description shape.supplied.key shape.terms shape.members ss
  described_here = description shape.supplied.key shape.terms shape.members ss (sym (parts r shape) ∙ h)

  pub flat_here : IsFlat r
  flat_here = is_flat r lawful shape ss described_here

  pub statement_here : (t : Statement) → Means r t → IsStatement t
  statement_here t m =
      let plain = means_plain r lawful shape ss described_here t m in
      subst IsStatement (sym m.is) (property_is_statement m.id m.mapping m.text plain.0 plain.1)

  -- the spellings of what the request means tell it apart
  pub spelled_apart : (s t : Statement) → Means r s → Means r t → text_quad s ≡ text_quad t → s ≡ t
  spelled_apart s t m n e = spelled_one_reading s t (statement_here s m) (statement_here t n) e

  -- and so do its lines
  pub lines_apart : (f : Blank → List ℕ) (s t : Statement) → Means r s → Means r t → line f s ≡ line f t → s ≡ t
  lines_apart f s t m n e =
      let none : (u : Statement) → Means r u → (b : Blank) → Contains (blanks_of u) b → ⊥ = λ u k b c. Contains-nil b (subst (λ (bs : List Blank). Contains bs b) (no_blanks r u k) c) in
      line_names_statement f s t (statement_here s m) (statement_here t n) (λ b c. absurd (none s m b c)) (λ b c. absurd (none t n b c)) (λ a b c d. absurd (none s m a c)) e

  -- what a set of images of the statements stands for, where these tell them apart
  pub dataset_here : {A : Type 0} (f : Statement → A) → ((s t : Statement) → Means r s → Means r t → f s ≡ f t → s ≡ t) → (made : List A) → SameElements made (map f ss) → AllDiffer made → (q : List Statement) × IsFlatMeaning r q × (made ≡ map f q)
  dataset_here {A} f apart made same differ =
      let found = picked f ss made (λ x c. (same x).0 c) in
      let q = found.0 in
      let exact : (t : Statement) → Contains q t → Means r t = λ t c. means_from r lawful shape ss described_here t (found.2 t c) in
      let back : (t : Statement) → Means r t → Contains q t = λ t m.
      let image_there : Contains (map f q) (f t) = subst (λ (l : List A). Contains l (f t)) found.1 ((same (f t)).1 (Contains-map f ss t (means_to r lawful shape ss described_here t m))) in
      let other = Contains-from_map f q (f t) image_there in
      subst (Contains q) (apart other.0 t (exact other.0 other.1) m other.2) other.1 in
      (q, record { dataset = AllDiffer-images f q (subst AllDiffer found.1 differ); exact = λ t. (exact t, back t) }, found.1)

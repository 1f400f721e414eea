-- Marks in the numbers of a store, and what they say of the dataset for which the numbers stand.
use Rattle.std.proofs.Common.{◌≡◌, ℕ, ◌+◌, ◌<◌, Bool, true, List, [], ◌∷◌, ◌++◌, length, map, take, get_or, All, Contains, None, Result, Ok, Err, inl, inr, sym, ap, ◌∙◌, subst}
use Rattle.std.specs.Prelude.{◌↔◌, IfOk, IsErrAnd}
use Rattle.std.proofs.lemmas.List.{map-append, same_from_push, take_more}
use Rattle.std.proofs.lemmas.List.Elements.{All-contains, All-same, All-push}
use Rattle.base_types.specs.Order.{is_upto}
use Rattle.base_types.specs.Sets.{AllDiffer, HasExactly, SameElements}
use Rattle.base_types.proofs.Lists.{Contains-from_map, Contains-map, Contains-nil}
use Rattle.term_store.specs.declared.statements.Quad.{Quad}
use Rattle.nquads.specs.Terms.{IsStatement, Statement}
use Rattle.nquads.specs.Spelling.{text_quad}
use Rattle.nquads.specs.Stored.{IsKnown, quad_texts}
use Rattle.nquads.proofs.ReadingElements.{All-from_contains}
use Rattle.nquads.proofs.ReadingTerms.{spelled_one_reading}
use Rattle.nquads.proofs.StoredLemmas.{one_quad}
use Rattle.stmt_groups.specs.declared.fault.PartFault.{PartFault}
use Rattle.stmt_groups.specs.declared.fault.PartFault.TheVariants as fault
use Rattle.stmt_groups.specs.declared.marking.Mark.{Mark}
use Rattle.stmt_groups.specs.Parts.{AreMarks, AreParts, IsLeast, IsMarkOf, IsMarked, IsMissing, IsStray, IsStrayText, IsTextOf, MarksParts, Parts, StandFor, StandForParts, marked_quads, parts_of}
use Rattle.stmt_groups.specs.Internal.Marking.{IsLeastOf, IsLeastStray, IsMarkIn, MarksNumbers}
use Rattle.stmt_groups.specs.Internal.Shown.{shown_text}
use Rattle.stmt_groups.proofs.ShownLemmas.{is_its_text}
use Rattle.stmt_groups.proofs.StrayLemmas.{no_images, parts_from_none}

-- ---- marks of a list

-- the marked statements, with the next mark
pub marks_more : (quads : List Quad) (i : ℕ) (d : Quad) (marks new : List Mark) (m : Mark) → i < length quads → m.quad ≡ get_or quads i d → new ≡ marks ++ m ∷ [] → marked_quads marks ≡ take i quads → marked_quads new ≡ take (i + 1) quads
marks_more quads i d marks new m within is pushed before =
    ap marked_quads pushed ∙ map-append (λ (k : Mark). k.quad) marks (m ∷ []) ∙ (λ j. before j ++ is j ∷ []) ∙ sym (take_more quads i d within)

-- a mark by the tests of two sets
pub marked_as : (whole mandatory chosen : List Quad) (q : Quad) (m : Mark) → m.quad ≡ q → (m.mandatory ≡ true) ↔ Contains mandatory q → (m.chosen ≡ true) ↔ Contains chosen q → IsMarkIn (parts_of whole mandatory chosen) m
marked_as whole mandatory chosen q m is must may = record {
  is_mandatory = subst (λ (x : Quad). (m.mandatory ≡ true) ↔ Contains mandatory x) (sym is) must;
  is_chosen = subst (λ (x : Quad). (m.chosen ≡ true) ↔ Contains chosen x) (sym is) may;
}

-- the marks so far, with the next
pub says_more : (whole mandatory chosen : List Quad) (marks new : List Mark) (m : Mark) → new ≡ marks ++ m ∷ [] → IsMarkIn (parts_of whole mandatory chosen) m → All (IsMarkIn (parts_of whole mandatory chosen)) marks → All (IsMarkIn (parts_of whole mandatory chosen)) new
says_more whole mandatory chosen marks new m pushed is before =
    All-same (IsMarkIn (parts_of whole mandatory chosen)) new (marks ++ m ∷ []) pushed (All-push (IsMarkIn (parts_of whole mandatory chosen)) marks m before is)

-- ---- outcomes in numbers

-- a mark by sets is one by the lists of which they are
same_mark : (whole mandatory chosen all must may : List Quad) → SameElements must mandatory → SameElements may chosen → (m : Mark) → IsMarkIn (parts_of all must may) m → IsMarkIn (parts_of whole mandatory chosen) m
same_mark whole mandatory chosen all must may s t m is = record {
  is_mandatory = (λ e. (s m.quad).0 (is.is_mandatory.0 e), λ c. is.is_mandatory.1 ((s m.quad).1 c));
  is_chosen = (λ e. (t m.quad).0 (is.is_chosen.0 e), λ c. is.is_chosen.1 ((t m.quad).1 c));
}

-- the marks, where nothing is out of place
pub marks_found : (texts : List (List ℕ)) (whole mandatory chosen must may strays : List Quad) (marks : List Mark) → SameElements must mandatory → SameElements may chosen → HasExactly strays (IsStray (parts_of whole mandatory chosen)) → IsLeastOf (map (shown_text texts) strays) None
    → marked_quads marks ≡ whole → All (IsMarkIn (parts_of whole must may)) marks → MarksNumbers texts (parts_of whole mandatory chosen) (Ok marks)
marks_found texts whole mandatory chosen must may strays marks s t exact none quads says =
    let empty : strays ≡ [] = no_images (shown_text texts) strays none in (
      quads,
      All-from_contains (IsMarkIn (parts_of whole mandatory chosen)) marks (λ m c. same_mark whole mandatory chosen whole must may s t m (All-contains (IsMarkIn (parts_of whole must may)) marks m says c)),
      parts_from_none (parts_of whole mandatory chosen) (λ x out. Contains-nil x (subst (λ (ys : List Quad). Contains ys x) empty ((exact x).1 out))),
    )

-- out of memory is free
pub no_memory : (texts : List (List ℕ)) (p : Parts Quad) (r : Result (List Mark) PartFault) → IsErrAnd r (λ e. e ≡ fault.Memory) → MarksNumbers texts p r
no_memory texts p (Ok marks) is = absurd is
no_memory texts p (Err e) is = subst (λ (x : PartFault). MarksNumbers texts p (Err x)) (sym is) tt

-- the marks are of the whole
pub each_marked : (texts : List (List ℕ)) (p : Parts Quad) (r : Result (List Mark) PartFault) → MarksNumbers texts p r → IfOk r (λ marks. marked_quads marks ≡ p.whole)
each_marked texts p (Ok marks) m = m.0
each_marked texts p (Err e) m = tt

-- ---- from numbers to statements

module _ (texts : List (List ℕ)) (differ : AllDiffer texts) where
  -- a statement of the dataset stands in the list of numbers
  number_of : (quads : List Quad) (q : List Statement) → StandFor texts quads q → (s : Statement) → Contains q s → (x : Quad) × Contains quads x × (quad_texts texts x ≡ text_quad s)
  number_of quads q stand s c = Contains-from_map (quad_texts texts) quads (text_quad s) ((stand.same (text_quad s)).1 (Contains-map text_quad q s c))

  -- and the other way round
  statement_of : (quads : List Quad) (q : List Statement) → StandFor texts quads q → (x : Quad) → Contains quads x → (s : Statement) × Contains q s × (quad_texts texts x ≡ text_quad s)
  statement_of quads q stand x c =
      let w = Contains-from_map text_quad q (quad_texts texts x) ((stand.same (quad_texts texts x)).0 (Contains-map (quad_texts texts) quads x c)) in
      (w.0, w.1, sym w.2)

  -- the number x has the texts of the statement s
  module _ (x : Quad) (s : Statement) (is : quad_texts texts x ≡ text_quad s) (known : IsKnown texts x) (well_formed : IsStatement s) where
    -- one stands in a list of numbers where the other stands in the dataset
    stands_as : (quads : List Quad) (q : List Statement) → All (IsKnown texts) quads → StandFor texts quads q → Contains quads x ↔ Contains q s
    stands_as quads q all stand = (
      λ c.
          let w = statement_of quads q stand x c in
          let same : w.0 ≡ s = spelled_one_reading w.0 s (All-contains IsStatement q w.0 stand.well_formed w.1) well_formed (sym w.2 ∙ is) in
          subst (Contains q) same w.1,
      λ c.
          let w = number_of quads q stand s c in
          let same : w.0 ≡ x = one_quad texts differ w.0 x (All-contains (IsKnown texts) quads w.0 all w.1) known (w.2 ∙ sym is) in
          subst (Contains quads) same w.1,
    )

    missing_as : (part whole : List Quad) (p w : List Statement) → All (IsKnown texts) part → All (IsKnown texts) whole → StandFor texts part p → StandFor texts whole w → IsMissing part whole x ↔ IsMissing p w s
    missing_as part whole p w k l m n =
        let one = stands_as part p k m in
        let all = stands_as whole w l n in
        ((λ h. (one.0 h.0, λ c. h.1 (all.1 c))), (λ h. (one.1 h.0, λ c. h.1 (all.0 c))))

  module _ (n : Parts Quad) (p : Parts Statement) (stand : StandForParts texts n p) (known : All (IsKnown texts) n.whole) (must : All (IsKnown texts) n.mandatory) (may : All (IsKnown texts) n.chosen) where
    module _ (x : Quad) (s : Statement) (is : quad_texts texts x ≡ text_quad s) (known' : IsKnown texts x) (well_formed : IsStatement s) where
      stray_as : IsStray n x ↔ IsStray p s
      stray_as =
          let a = missing_as x s is known' well_formed n.mandatory n.whole p.mandatory p.whole must known stand.mandatory stand.whole in
          let b = missing_as x s is known' well_formed n.chosen n.whole p.chosen p.whole may known stand.chosen stand.whole in
          let d = missing_as x s is known' well_formed n.mandatory n.chosen p.mandatory p.chosen must may stand.mandatory stand.chosen in (
            λ out. elim out [
              | inl h ↦ inl (a.0 h)
              | inr e ↦ elim e [ inl h ↦ inr (inl (b.0 h)) | inr h ↦ inr (inr (d.0 h)) ]
            ],
            λ out. elim out [
              | inl h ↦ inl (a.1 h)
              | inr e ↦ elim e [ inl h ↦ inr (inl (b.1 h)) | inr h ↦ inr (inr (d.1 h)) ]
            ],
          )

      marked_of : (mandatory chosen : Bool) → IsMarked n x mandatory chosen → IsMarked p s mandatory chosen
      marked_of mandatory chosen m =
          let a = stands_as x s is known' well_formed n.mandatory p.mandatory must stand.mandatory in
          let b = stands_as x s is known' well_formed n.chosen p.chosen may stand.chosen in
          record {
            is_mandatory = (λ e. a.0 (m.is_mandatory.0 e), λ c. m.is_mandatory.1 (a.1 c));
            is_chosen = (λ e. b.0 (m.is_chosen.0 e), λ c. m.is_chosen.1 (b.1 c));
          }

    number_if : (s : Statement) → IsStray p s → (quads : List Quad) (q : List Statement) → All (IsKnown texts) quads → StandFor texts quads q → Contains q s → (x : Quad) × IsStray n x × (quad_texts texts x ≡ text_quad s)
    number_if s out quads q all st c =
        let w = number_of quads q st s c in
        (w.0, (stray_as w.0 s w.2 (All-contains (IsKnown texts) quads w.0 all w.1) (All-contains IsStatement q s st.well_formed c)).1 out, w.2)

    -- a statement that is out of place is that of a number that is
    stray_number : (s : Statement) → IsStray p s → (x : Quad) × IsStray n x × (quad_texts texts x ≡ text_quad s)
    stray_number s out = elim out [
      | inl h ↦ number_if s (inl h) n.mandatory p.mandatory must stand.mandatory h.0
      | inr e ↦ elim e [
        | inl h ↦ number_if s (inr (inl h)) n.chosen p.chosen may stand.chosen h.0
        | inr h ↦ number_if s (inr (inr h)) n.mandatory p.mandatory must stand.mandatory h.0
      ]
    ]

    statement_if : (x : Quad) → IsStray n x → (quads : List Quad) (q : List Statement) → All (IsKnown texts) quads → StandFor texts quads q → Contains quads x → (s : Statement) × IsStray p s × (quad_texts texts x ≡ text_quad s)
    statement_if x out quads q all st c =
        let w = statement_of quads q st x c in
        (w.0, (stray_as x w.0 w.2 (All-contains (IsKnown texts) quads x all c) (All-contains IsStatement q w.0 st.well_formed w.1)).0 out, w.2)

    -- and the other way round
    stray_statement : (x : Quad) → IsStray n x → (s : Statement) × IsStray p s × (quad_texts texts x ≡ text_quad s)
    stray_statement x out = elim out [
      | inl h ↦ statement_if x (inl h) n.mandatory p.mandatory must stand.mandatory h.0
      | inr e ↦ elim e [
        | inl h ↦ statement_if x (inr (inl h)) n.chosen p.chosen may stand.chosen h.0
        | inr h ↦ statement_if x (inr (inr h)) n.mandatory p.mandatory must stand.mandatory h.0
      ]
    ]

    within_as : (part whole : List Quad) (q w : List Statement) → All (IsKnown texts) part → All (IsKnown texts) whole → StandFor texts part q → StandFor texts whole w → All (Contains whole) part → All (Contains w) q
    within_as part whole q w k l st su all =
        All-from_contains (Contains w) q (λ s c.
        let x = number_of part q st s c in
        (stands_as x.0 s x.2 (All-contains (IsKnown texts) part x.0 k x.1) (All-contains IsStatement q s st.well_formed c) whole w l su).0 (All-contains (Contains whole) part x.0 all x.1))

    parts_as : AreParts n → AreParts p
    parts_as a = record {
      mandatory_in_whole = within_as n.mandatory n.whole p.mandatory p.whole must known stand.mandatory stand.whole a.mandatory_in_whole;
      chosen_in_whole = within_as n.chosen n.whole p.chosen p.whole may known stand.chosen stand.whole a.chosen_in_whole;
      mandatory_chosen = within_as n.mandatory n.chosen p.mandatory p.chosen must may stand.mandatory stand.chosen a.mandatory_chosen;
    }

    -- the mark of a number is that of its statement
    mark_as : (marks : List Mark) → All (IsMarkIn n) marks → (m : Mark) → Contains marks m → (s : Statement) → Contains n.whole m.quad → Contains p.whole s → quad_texts texts m.quad ≡ text_quad s → IsMarkOf texts p s m
    mark_as marks says m c s stands in_whole is = record {
      spelled = is;
      says = marked_of m.quad s is (All-contains (IsKnown texts) n.whole m.quad known stands) (All-contains IsStatement p.whole s stand.whole.well_formed in_whole) m.mandatory m.chosen (All-contains (IsMarkIn n) marks m says c);
    }

    marks_as : (marks : List Mark) → marked_quads marks ≡ n.whole → All (IsMarkIn n) marks → AreMarks texts p marks
    marks_as marks quads says = record {
      each = λ m c.
          let stands : Contains n.whole m.quad = subst (λ (ys : List Quad). Contains ys m.quad) quads (Contains-map (λ (k : Mark). k.quad) marks m c) in
          let w = statement_of n.whole p.whole stand.whole m.quad stands in
          (w.0, w.1, mark_as marks says m c w.0 stands w.1 w.2);
      every = λ s c.
          let x = number_of n.whole p.whole stand.whole s c in
          let m = Contains-from_map (λ (k : Mark). k.quad) marks x.0 (subst (λ (ys : List Quad). Contains ys x.0) (sym quads) x.1) in
          let stands : Contains n.whole m.0.quad = subst (Contains n.whole) (sym m.2) x.1 in
          (m.0, m.1, mark_as marks says m.0 m.1 s stands c (ap (quad_texts texts) m.2 ∙ x.2));
    }

    -- the least text of the numbers that are out of place is that of the statements
    least_as : (text : List ℕ) → IsLeastStray texts n text → IsLeast (IsStrayText p) text
    least_as text l = record {
      one_of =
          let x = Contains-from_map (shown_text texts) l.strays text l.least.0 in
          let w = stray_statement x.0 ((l.exact x.0).0 x.1) in
          record { statement = w.0; stray = w.1; text_is = subst (IsTextOf w.0) x.2 (is_its_text texts x.0 w.0 w.2) };
      least = λ other o.
          let x = stray_number o.statement o.stray in
          let same : shown_text texts x.0 ≡ other = (same_from_push (shown_text texts x.0) other 10 10 (is_its_text texts x.0 o.statement x.2 ∙ sym o.text_is)).0 in
          All-contains (λ t. is_upto text t ≡ true) (map (shown_text texts) l.strays) other l.least.1 (subst (Contains (map (shown_text texts) l.strays)) same (Contains-map (shown_text texts) l.strays x.0 ((l.exact x.0).1 x.1)));
    }

    -- each outcome in numbers is that of the statements
    pub outcome_as : (r : Result (List Mark) PartFault) → MarksNumbers texts n r → MarksParts texts p r
    outcome_as (Ok marks) m = (marks_as marks m.0 m.1, parts_as m.2)
    outcome_as (Err (fault.NotPart text)) m = least_as text m
    outcome_as (Err fault.Memory) m = tt

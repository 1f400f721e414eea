-- The hashes name each blank node of the statements, and numbers of the store alone.
use Rattle.std.proofs.Common.{◌≡◌, ◌==◌, ◌<◌, ◌||◌, ℕ, Bool, true, false, cond, List, [], ◌∷◌, ◌++◌, length, map, refl, sym, ap, ◌∙◌, subst, inl, inr, All, Contains, Option, Some, None}
use Rattle.std.specs.Prelude.{IfSome}
use Rattle.std.specs.List.{concat, flat_map}
use Rattle.std.specs.List.Sorted.{IsPermutation}
use Rattle.std.proofs.lemmas.Bool.Decides.{Decides-eqb}
use Rattle.std.proofs.lemmas.List.{map-append}
use Rattle.std.proofs.lemmas.List.Elements.{All-head, All-tail, Contains-append_left, Contains-append_right, Contains-append_cases}
use Rattle.std.proofs.lemmas.List.Sorted.{Contains-permutation, IsPermutation-sym}
use Rattle.base_types.proofs.Lists.{Contains-nil, Contains-here, Contains-cons_cases, Contains-map, Contains-from_map}
use Rattle.term_store.specs.Store.{text_at, begins_blank, BeginsBlank}
use Rattle.term_store.specs.declared.store.TermId.{TermId}
use Rattle.term_store.specs.declared.statements.Quad.{Quad}
use Rattle.nquads.specs.Stored.{IsKnown}
use Rattle.nquads.specs.declared.hashes.BlankHash.{BlankHash}
use Rattle.nquads.proofs.ReadingElements.{All-from_contains}
use Rattle.rdfc_first.specs.Blanks.{IsNamed, AreNamed}
use Rattle.rdfc_first.specs.declared.mentions.MentionLine.{MentionLine}
use Rattle.rdfc_first.specs.Internal.Mentions.{mention_line, line_at, object_lines, graph_lines, mention_lines}
use Rattle.rdfc_first.specs.Internal.Grouping.{blank_hash, lines_for, AreHashesOf}
use Rattle.rdfc_first.proofs.MentionLines.{from_line_at, from_cond}

abbrev blank_of : MentionLine → TermId
blank_of m = m.blank

same_id : (a b : TermId) → (a.index == b.index) ≡ true → a ≡ b
same_id a b e = let numbers = (Decides-eqb a.index b.index).0 e in λ i. record { index = numbers i }

begins : (texts : List (List ℕ)) (id : TermId) → BeginsBlank (text_at texts id) → begins_blank (text_at texts id) ≡ true
begins texts id b = ap begins_blank b.1

module _ (texts : List (List ℕ)) (quad : Quad) where
  -- ---- the lines are for numbers of the store

  part_known : (part : TermId) (m : MentionLine) → part.index < length texts → Contains (line_at texts quad part) m → m.blank.index < length texts
  part_known part m within c = subst (λ (z : TermId). z.index < length texts) (sym (from_line_at texts quad part m c).1) within

  graph_known : (g : Option TermId) (m : MentionLine) → IfSome g (λ id. id.index < length texts) → Contains (graph_lines texts quad g) m → m.blank.index < length texts
  graph_known None m within c = absurd (Contains-nil m c)
  graph_known (Some id) m within c = part_known id m within (from_cond texts ((quad.subject.index == id.index) || (quad.object.index == id.index)) (line_at texts quad id) m c)

  line_known : IsKnown texts quad → (m : MentionLine) → Contains (mention_lines texts quad) m → m.blank.index < length texts
  line_known known m c =
      elim (Contains-append_cases (line_at texts quad quad.subject) (object_lines texts quad ++ graph_lines texts quad quad.graph) m c) [
        | inl d ↦ part_known quad.subject m known.subject d
        | inr d ↦ elim (Contains-append_cases (object_lines texts quad) (graph_lines texts quad quad.graph) m d) [
          | inl e ↦ part_known quad.object m known.object (from_cond texts (quad.subject.index == quad.object.index) (line_at texts quad quad.object) m e)
          | inr e ↦ graph_known quad.graph m known.graph e
        ]
      ]

  -- ---- each blank node has a line

  abbrev Mentioned : TermId → Type 0
  Mentioned id = Contains (map blank_of (mention_lines texts quad)) id

  line_there : (id : TermId) → begins_blank (text_at texts id) ≡ true → Contains (line_at texts quad id) (mention_line texts quad id)
  line_there id b = subst (λ t. Contains (cond t (mention_line texts quad id ∷ []) []) (mention_line texts quad id)) (sym b) (Contains-here (mention_line texts quad id) [])

  at_subject : begins_blank (text_at texts quad.subject) ≡ true → Mentioned quad.subject
  at_subject b =
      Contains-map blank_of (mention_lines texts quad) (mention_line texts quad quad.subject)
      (Contains-append_left (line_at texts quad quad.subject) (object_lines texts quad ++ graph_lines texts quad quad.graph) (mention_line texts quad quad.subject) (line_there quad.subject b))

  at_object : begins_blank (text_at texts quad.object) ≡ true → Mentioned quad.object
  at_object b = go (quad.subject.index == quad.object.index) refl
    where
      go : (t : Bool) → (quad.subject.index == quad.object.index) ≡ t → Mentioned quad.object
      go true e = let same = same_id quad.subject quad.object e in subst Mentioned same (at_subject (ap (λ p. begins_blank (text_at texts p)) same ∙ b))
      go false e =
          let line = mention_line texts quad quad.object in
          let there : Contains (object_lines texts quad) line = subst (λ t. Contains (cond t [] (line_at texts quad quad.object)) (mention_line texts quad quad.object)) (sym e) (line_there quad.object b) in
          Contains-map blank_of (mention_lines texts quad) line
          (Contains-append_right (line_at texts quad quad.subject) (object_lines texts quad ++ graph_lines texts quad quad.graph) line (Contains-append_left (object_lines texts quad) (graph_lines texts quad quad.graph) line there))

  in_graph : (id : TermId) → begins_blank (text_at texts id) ≡ true → (there : Contains (graph_lines texts quad (Some id)) (mention_line texts quad id) → Mentioned id) → Mentioned id
  in_graph id b whole = go (quad.subject.index == id.index) (quad.object.index == id.index) refl refl
    where
      go : (t u : Bool) → (quad.subject.index == id.index) ≡ t → (quad.object.index == id.index) ≡ u → Mentioned id
      go true u e f = let same = same_id quad.subject id e in subst Mentioned same (at_subject (ap (λ p. begins_blank (text_at texts p)) same ∙ b))
      go false true e f = let same = same_id quad.object id f in subst Mentioned same (at_object (ap (λ p. begins_blank (text_at texts p)) same ∙ b))
      go false false e f =
          let apart : ((quad.subject.index == id.index) || (quad.object.index == id.index)) ≡ false = λ i. e i || f i in
          whole (subst (λ t. Contains (cond t [] (line_at texts quad id)) (mention_line texts quad id)) (sym apart) (line_there id b))

  at_graph : (g : Option TermId) → quad.graph ≡ g → IfSome g (λ id. begins_blank (text_at texts id) ≡ true → Mentioned id)
  at_graph None e = tt
  at_graph (Some id) e = λ b. in_graph id b (λ c.
      let line = mention_line texts quad id in
      let there : Contains (graph_lines texts quad quad.graph) line = subst (λ g. Contains (graph_lines texts quad g) (mention_line texts quad id)) (sym e) c in
      Contains-map blank_of (mention_lines texts quad) line
      (Contains-append_right (line_at texts quad quad.subject) (object_lines texts quad ++ graph_lines texts quad quad.graph) line (Contains-append_right (object_lines texts quad) (graph_lines texts quad quad.graph) line there)))

-- ---- all statements

lines_known : (texts : List (List ℕ)) (quads : List Quad) → All (IsKnown texts) quads → (m : MentionLine) → Contains (flat_map (mention_lines texts) quads) m → m.blank.index < length texts
lines_known texts [] known m c = absurd (Contains-nil m c)
lines_known texts (quad ∷ quads) known m c =
    elim (Contains-append_cases (mention_lines texts quad) (flat_map (mention_lines texts) quads) m c) [
      | inl d ↦ line_known texts quad (All-head (IsKnown texts) quad quads known) m d
      | inr d ↦ lines_known texts quads (All-tail (IsKnown texts) quad quads known) m d
    ]

lines_there : (texts : List (List ℕ)) (quads : List Quad) (quad : Quad) (id : TermId) → Contains quads quad → Contains (map blank_of (mention_lines texts quad)) id → Contains (map blank_of (flat_map (mention_lines texts) quads)) id
lines_there texts [] quad id k c = absurd (Contains-nil quad k)
lines_there texts (first ∷ quads) quad id k c =
    let split = map-append blank_of (mention_lines texts first) (flat_map (mention_lines texts) quads) in
    subst (λ bs. Contains bs id) (sym split)
    (elim (Contains-cons_cases first quads quad k) [
      | inl e ↦ Contains-append_left (map blank_of (mention_lines texts first)) (map blank_of (flat_map (mention_lines texts) quads)) id (subst (λ (z : Quad). Contains (map blank_of (mention_lines texts z)) id) (sym e) c)
      | inr d ↦ Contains-append_right (map blank_of (mention_lines texts first)) (map blank_of (flat_map (mention_lines texts) quads)) id (lines_there texts quads quad id d c)
    ])

module _ (digest : List ℕ → List ℕ) (texts : List (List ℕ)) (quads : List Quad) (known : All (IsKnown texts) quads) (lines sorted : List MentionLine) (made : lines ≡ flat_map (mention_lines texts) quads) (moved : IsPermutation lines sorted) (hashes : List BlankHash) (are : AreHashesOf digest sorted hashes) where
  -- the hashes name numbers of the store
  pub hashes-known : All (λ (h : BlankHash). h.blank.index < length texts) hashes
  hashes-known = All-from_contains (λ (h : BlankHash). h.blank.index < length texts) hashes (λ h c.
      let m = Contains-from_map blank_of sorted h.blank ((are.exact h).0 c).0 in
      let within : Contains lines m.0 = Contains-permutation sorted lines m.0 (IsPermutation-sym lines sorted moved) m.1 in
      subst (λ (z : TermId). z.index < length texts) m.2 (lines_known texts quads known m.0 (subst (λ ls. Contains ls m.0) made within)))

  abbrev named : List TermId
  named = map (λ (h : BlankHash). h.blank) hashes

  hash_there : (id : TermId) → Contains (map blank_of (flat_map (mention_lines texts) quads)) id → Contains named id
  hash_there id c =
      let m = Contains-from_map blank_of lines id (subst (λ ls. Contains (map blank_of ls) id) (sym made) c) in
      let there : Contains (map blank_of sorted) id = subst (Contains (map blank_of sorted)) m.2 (Contains-map blank_of sorted m.0 (Contains-permutation lines sorted m.0 moved m.1)) in
      let h : BlankHash = blank_hash id (digest (concat (lines_for id sorted))) in
      Contains-map (λ (h : BlankHash). h.blank) hashes h ((are.exact h).1 (there, refl))

  graph_named : (quad : Quad) → Contains quads quad → (g : Option TermId) → IfSome g (λ id. begins_blank (text_at texts id) ≡ true → Contains (map blank_of (mention_lines texts quad)) id) → IfSome g (IsNamed texts named)
  graph_named quad k None h = tt
  graph_named quad k (Some id) h = λ b. hash_there id (lines_there texts quads quad id k (h (begins texts id b)))

  -- they name each blank node of the statements
  pub blanks-named : All (AreNamed texts named) quads
  blanks-named = All-from_contains (AreNamed texts named) quads (λ quad k. record {
    subject = λ b. hash_there quad.subject (lines_there texts quads quad quad.subject k (at_subject texts quad (begins texts quad.subject b)));
    object = λ b. hash_there quad.object (lines_there texts quads quad quad.object k (at_object texts quad (begins texts quad.object b)));
    graph = graph_named quad k quad.graph (at_graph texts quad quad.graph refl);
  })

-- Why a text is not read, by what was read of it.
use Rattle.std.proofs.Common.{◌≡◌, ℕ, ◌-◌, List, [], ◌∷◌, ◌++◌, length, map, Contains, Some, None, sym, ap, ◌∙◌, subst, inl, inr, arith}
use Rattle.std.proofs.lemmas.List.Elements.{All-contains, Contains-append_cases}
use Rattle.base_types.proofs.Lists.{Contains-nil, Contains-cons_cases, Contains-map, Contains-from_map}
use Rattle.term_store.specs.Store.{Grows}
use Rattle.term_store.specs.declared.statements.Quad.{Quad}
use Rattle.nquads.specs.Terms.{Statement}
use Rattle.nquads.specs.Spelling.{text_quad}
use Rattle.nquads.specs.Stored.{quad_texts, IsKnown}
use Rattle.nquads.specs.Reading.{StandsInText, IsFirstBadLine, HasMoreStatements}
use Rattle.nquads.specs.declared.fault.NqFault.{NqFault}
use Rattle.nquads.specs.declared.fault.NqFault.TheVariants.{At, TooManyStatements, TooManyBlanks, Memory}
use Rattle.nquads.specs.declared.quads.TextQuad.{TextQuad}
use Rattle.nquads.specs.Internal.Lines.{first_line}
use Rattle.nquads.specs.Internal.Storing.{SaysTooMuch, IsLineFault, IsTextFault}
use Rattle.nquads.proofs.ReadingElements.{All-from_contains}
use Rattle.nquads.proofs.Choices.{choose, zip_length, zip_differ, zip_all}
use Rattle.nquads.proofs.TextLines.{line_here}
use Rattle.nquads.proofs.HasRead.{HasRead, texts_kept}
use Rattle.nquads.proofs.StoredLemmas.{one_quad}

-- ---- too many statements

-- the statement whose texts the numbers have
abbrev IsSaidBy : List ℕ → List (List ℕ) → Quad → Statement → Type 0
IsSaidBy bytes texts q s = IsKnown texts q × (text_quad s ≡ quad_texts texts q) × StandsInText bytes s

said_by : (bytes rest : List ℕ) (old new : List (List ℕ)) (quads : List Quad) → HasRead bytes rest old quads → Grows old new → (t : SaysTooMuch (first_line rest) new quads) → (q : Quad) → Contains (quads ++ t.quad ∷ []) q → (s : Statement) × IsSaidBy bytes new q s
said_by bytes rest old new quads h g t q m =
    let known = All-contains (IsKnown new) (quads ++ t.quad ∷ []) q t.known m in
    elim (Contains-append_cases quads (t.quad ∷ []) q m) [
      | inl c ↦
          let there : Contains (map (quad_texts old) quads) (quad_texts new q) =
          subst (λ (ts : List TextQuad). Contains ts (quad_texts new q)) (texts_kept old new quads g h.known) (Contains-map (quad_texts new) quads q c) in
          let r = Contains-from_map text_quad h.dataset (quad_texts new q) ((h.same (quad_texts new q)).0 there) in
          (r.0, (known, r.2, All-contains (StandsInText bytes) h.dataset r.0 h.statements r.1))
      | inr c ↦
          let same : t.quad ≡ q = elim (Contains-cons_cases t.quad [] q c) [ inl e ↦ e | inr n ↦ absurd (Contains-nil q n) ] in
          (t.statement, (known, sym t.is ∙ ap (quad_texts new) same, record { at = length bytes - length rest; line = first_line rest; stands = line_here bytes (length bytes - length rest) rest h.reached; says = t.says }))
    ]

too_many : (bytes rest : List ℕ) (old new : List (List ℕ)) (quads : List Quad) → HasRead bytes rest old quads → Grows old new → SaysTooMuch (first_line rest) new quads → HasMoreStatements bytes 20000
too_many bytes rest old new quads h g t =
    let m = t.more in
    let c = choose (IsSaidBy bytes new) m.some (All-from_contains (λ q. (s : Statement) × IsSaidBy bytes new q s) m.some (λ q n. said_by bytes rest old new quads h g t q (All-contains (Contains (quads ++ t.quad ∷ [])) m.some q m.among n))) in
    let sizes = zip_length (IsSaidBy bytes new) m.some c.0 c.1 in
    let many = m.more in
    record {
      some = c.0;
      differ = zip_differ (IsSaidBy bytes new) (λ p q s a b. one_quad new t.differ p q a.0 b.0 (sym a.1 ∙ b.1)) m.some c.0 c.1 m.differ;
      more = omega (arith, sizes, many);
      stand = zip_all (IsSaidBy bytes new) (StandsInText bytes) (λ q s a. a.2) m.some c.0 c.1;
    }

-- ---- the faults

-- why a line is not kept is why its text is not
pub text_fault : (bytes rest : List ℕ) (old new : List (List ℕ)) (quads : List Quad) → HasRead bytes rest old quads → Grows old new → (e : NqFault) → IsLineFault (first_line rest) (length bytes - length rest) new quads e → IsTextFault bytes e
text_fault bytes rest old new quads h g (At n) f =
    subst (IsFirstBadLine bytes) (sym f.0) (record {
      line = first_line rest;
      stands = line_here bytes (length bytes - length rest) rest h.reached;
      bad = f.1;
      first = λ m l s b. elim (h.lines m l s b) [ inl a ↦ (None, a) | inr a ↦ (Some a.0, a.2) ];
    })
text_fault bytes rest old new quads h g (TooManyStatements n) f = (f.0, too_many bytes rest old new quads h g f.1)
text_fault bytes rest old new quads h g (TooManyBlanks n) f = absurd f
text_fault bytes rest old new quads h g Memory f = tt

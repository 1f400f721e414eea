-- Entries that are laid over others.
use Rattle.std.proofs.Common.{◌≡◌, ℕ, List, [], ◌∷◌, Bool, true, false, cond, find, Option, Some, option_map, bytes_eq, if◌then◌else◌, refl, sym, ap, ◌∙◌}
use Rattle.std.proofs.lemmas.Bool.{and_parts, and_from}
use Rattle.base_types.specs.Order.{is_before}
use Rattle.base_types.proofs.Orders.{bytes_eq-true, bytes_eq-differ, is_before-other_way}
use Rattle.json_tree.specs.Places.{or_else}
use Rattle.ld_termdef.specs.declared.definition.TermDef.{TermDef}
use Rattle.ld_termdef.specs.declared.definition.TermEntry.{TermEntry}
use Rattle.ld_termdef.specs.Contexts.{definition_in}
use Rattle.ld_termdef.specs.Overlay.{terms_rise, put_entry, overlay_of}

-- the definition of a term is that of the first entry that has it
pub definition-first : (e : TermEntry) (es : List TermEntry) (t : List ℕ) → definition_in (e ∷ es) t ≡ cond (bytes_eq e.term t) (Some e.def) (definition_in es t)
definition-first e es t = go (bytes_eq e.term t)
  where
    go : (b : Bool) → option_map (λ d. d.def) (cond b (Some e) (find (λ d. bytes_eq d.term t) es)) ≡ cond b (Some e.def) (definition_in es t)
    go true = refl
    go false = refl

-- an entry hides one of its own term
hidden : (e d : TermEntry) (ds : List TermEntry) (t : List ℕ) → e.term ≡ d.term → (b : Bool) → bytes_eq e.term t ≡ b → cond b (Some e.def) (definition_in ds t) ≡ cond b (Some e.def) (definition_in (d ∷ ds) t)
hidden e d ds t same true is = refl
hidden e d ds t same false is =
    let other : bytes_eq d.term t ≡ false = sym (ap (λ (k : List ℕ). bytes_eq k t) same) ∙ is in
    sym (definition-first d ds t ∙ ap (λ b. cond b (Some d.def) (definition_in ds t)) other)

-- entries of two terms may change places
exchanged : (e d : TermEntry) (t : List ℕ) (rest : Option TermDef) → bytes_eq e.term d.term ≡ false → (a b : Bool) → bytes_eq d.term t ≡ a → bytes_eq e.term t ≡ b → cond a (Some d.def) (cond b (Some e.def) rest) ≡ cond b (Some e.def) (cond a (Some d.def) rest)
exchanged e d t rest apart true true p q =
    absurd (bytes_eq-differ e.term d.term apart (bytes_eq-true e.term t q ∙ sym (bytes_eq-true d.term t p)))
exchanged e d t rest apart true false p q = refl
exchanged e d t rest apart false true p q = refl
exchanged e d t rest apart false false p q = refl

put-found : (e : TermEntry) (ds : List TermEntry) (t : List ℕ) → definition_in (put_entry e ds) t ≡ cond (bytes_eq e.term t) (Some e.def) (definition_in ds t)
put-found e [] t = definition-first e [] t
put-found e (d ∷ ds) t = go (put-found e ds t) (is_before e.term d.term) (bytes_eq e.term d.term) refl
  where
    go : definition_in (put_entry e ds) t ≡ cond (bytes_eq e.term t) (Some e.def) (definition_in ds t) → (before same : Bool) → bytes_eq e.term d.term ≡ same → definition_in (if before then e ∷ d ∷ ds else (if same then e ∷ ds else d ∷ put_entry e ds)) t ≡ cond (bytes_eq e.term t) (Some e.def) (definition_in (d ∷ ds) t)
    go later true same is = definition-first e (d ∷ ds) t
    go later false true is = definition-first e ds t ∙ hidden e d ds t (bytes_eq-true e.term d.term is) (bytes_eq e.term t) refl
    go later false false is =
        definition-first d (put_entry e ds) t
        ∙ ap (cond (bytes_eq d.term t) (Some d.def)) later
        ∙ exchanged e d t (definition_in ds t) is (bytes_eq d.term t) (bytes_eq e.term t) refl refl
        ∙ ap (cond (bytes_eq e.term t) (Some e.def)) (sym (definition-first d ds t))

over-first : (b : Bool) (def : TermDef) (more rest : Option TermDef) → or_else (cond b (Some def) more) rest ≡ cond b (Some def) (or_else more rest)
over-first true def more rest = refl
over-first false def more rest = refl

-- where both define a term, the upper one counts
pub overlay_of-found : (over under : List TermEntry) (t : List ℕ) → definition_in (overlay_of over under) t ≡ or_else (definition_in over t) (definition_in under t)
overlay_of-found [] under t = refl
overlay_of-found (e ∷ es) under t =
    put-found e (overlay_of es under) t
    ∙ ap (cond (bytes_eq e.term t) (Some e.def)) (overlay_of-found es under t)
    ∙ sym (over-first (bytes_eq e.term t) e.def (definition_in es t) (definition_in under t))
    ∙ ap (λ o. or_else o (definition_in under t)) (sym (definition-first e es t))

-- ---- the terms rise

-- a first entry comes before the second
pub rise-first : (d : TermEntry) (e : TermEntry) (es : List TermEntry) → terms_rise (d ∷ e ∷ es) ≡ true → (is_before d.term e.term ≡ true) × (terms_rise (e ∷ es) ≡ true)
rise-first d e es rise = and_parts (is_before d.term e.term) (terms_rise (e ∷ es)) rise

-- the terms behind the first rise
pub rise-tail : (d : TermEntry) (ds : List TermEntry) → terms_rise (d ∷ ds) ≡ true → terms_rise ds ≡ true
rise-tail d [] rise = refl
rise-tail d (e ∷ es) rise = (rise-first d e es rise).1

-- an entry of the same term may stand first
rise-same : (d e : TermEntry) (ds : List TermEntry) → e.term ≡ d.term → terms_rise (d ∷ ds) ≡ true → terms_rise (e ∷ ds) ≡ true
rise-same d e [] same rise = refl
rise-same d e (c ∷ cs) same rise =
    let parts = rise-first d c cs rise in
    and_from (is_before e.term c.term) (terms_rise (c ∷ cs)) (ap (λ (k : List ℕ). is_before k c.term) same ∙ parts.0) parts.1

-- what comes before an entry and before others comes before all of them together
pub rise-under : (d e : TermEntry) (ds : List TermEntry) → is_before d.term e.term ≡ true → terms_rise (d ∷ ds) ≡ true → terms_rise (put_entry e ds) ≡ true → terms_rise (d ∷ put_entry e ds) ≡ true
rise-under d e [] h rise later = and_from (is_before d.term e.term) true h refl
rise-under d e (c ∷ cs) h rise later = go (is_before e.term c.term) (bytes_eq e.term c.term) later
  where
    go : (before same : Bool) → terms_rise (if before then e ∷ c ∷ cs else (if same then e ∷ cs else c ∷ put_entry e cs)) ≡ true → terms_rise (d ∷ (if before then e ∷ c ∷ cs else (if same then e ∷ cs else c ∷ put_entry e cs))) ≡ true
    go true same l = and_from (is_before d.term e.term) (terms_rise (e ∷ c ∷ cs)) h l
    go false true l = and_from (is_before d.term e.term) (terms_rise (e ∷ cs)) h l
    go false false l = and_from (is_before d.term c.term) (terms_rise (c ∷ put_entry e cs)) (rise-first d c cs rise).0 l

-- an entry at its place
pub put-rises : (e : TermEntry) (ds : List TermEntry) → terms_rise ds ≡ true → terms_rise (put_entry e ds) ≡ true
put-rises e [] rise = refl
put-rises e (d ∷ ds) rise = go (put-rises e ds (rise-tail d ds rise)) (is_before e.term d.term) (bytes_eq e.term d.term) refl refl
  where
    go : terms_rise (put_entry e ds) ≡ true → (before same : Bool) → is_before e.term d.term ≡ before → bytes_eq e.term d.term ≡ same → terms_rise (if before then e ∷ d ∷ ds else (if same then e ∷ ds else d ∷ put_entry e ds)) ≡ true
    go later true same h is = and_from (is_before e.term d.term) (terms_rise (d ∷ ds)) h rise
    go later false true h is = rise-same d e ds (bytes_eq-true e.term d.term is) rise
    go later false false h is = rise-under d e ds (is_before-other_way e.term d.term h is) rise later

-- what is laid over what rises rises
pub overlay_of-rises : (over under : List TermEntry) → terms_rise under ≡ true → terms_rise (overlay_of over under) ≡ true
overlay_of-rises [] under rise = rise
overlay_of-rises (e ∷ es) under rise = put-rises e (overlay_of es under) (overlay_of-rises es under rise)

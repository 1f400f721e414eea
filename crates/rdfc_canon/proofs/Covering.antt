-- Each blank node of the statements has a label, whatever the dataset is.
use Rattle.std.proofs.Common.{◌≡◌, ◌==◌, ◌<◌, ℕ, zero, suc, arith, Bool, true, false, cond, List, [], ◌∷◌, ◌++◌, length, map, refl, sym, ap, ◌∙◌, subst, inl, inr, All, Contains, Option, Some, None, slice_get, codes, decimal}
use Rattle.std.specs.Prelude.{IfSome, IsSome}
use Rattle.std.specs.Option.{is_some}
use Rattle.std.proofs.lemmas.Bool.{false≢true}
use Rattle.std.proofs.lemmas.Bool.Decides.{Decides-eqb}
use Rattle.std.proofs.lemmas.List.{length-map}
use Rattle.std.proofs.lemmas.List.Elements.{All-contains, All-push}
use Rattle.base_types.proofs.Lists.{Contains-nil, Contains-here, Contains-there, Contains-cons_cases, Contains-from_map}
use Rattle.term_store.specs.Store.{text_at}
use Rattle.term_store.specs.declared.store.TermId.{TermId}
use Rattle.term_store.specs.declared.statements.Quad.{Quad}
use Rattle.nquads.specs.Stored.{AreLabelsKnown, HasLabel, IsLabelled, find_number, number_label}
use Rattle.nquads.specs.declared.hashes.BlankHash.{BlankHash}
use Rattle.nquads.specs.declared.numbers.Label.{Label}
use Rattle.nquads.proofs.ReadingElements.{All-from_contains}
use Rattle.rdfc_first.specs.Blanks.{IsNamed, AreNamed}
use Rattle.digest_mac.specs.declared.hash.Hash.{Hash}
use Rattle.rdfc_ndegree.specs.Table.{IsClosed, NodeRow, names_of, table_nodes}
use Rattle.rdfc_ndegree.specs.TableOf.{first_names}
use Rattle.rdfc_ndegree.specs.declared.limits.Limits.{Limits}
use Rattle.rdfc_ndegree.proofs.Labels.{issuer-covers}
use Rattle.rdfc_ndegree.proofs.Rows.{row-listed}
use Rattle.rdfc_ndegree.proofs.TableCarry.{table-lawful}
use Rattle.rdfc_canon.specs.Internal.Labelling.{with_label, all_labels}
use Rattle.rdfc_canon.specs.Internal.Numbering.{AnswersNumbers}

-- ---- a label that is there stays

has-append : (ls : List Label) (m : Label) (n : ℕ) → IsSome (find_number ls n) → IsSome (find_number (ls ++ m ∷ []) n)
has-append [] m n h = absurd (false≢true h)
has-append (l ∷ ls) m n h = go (l.blank.index == n) refl h (has-append ls m n)
  where
    go : (t : Bool) → (l.blank.index == n) ≡ t → IsSome (cond t (Some l.text) (find_number ls n)) → (IsSome (find_number ls n) → IsSome (find_number (ls ++ m ∷ []) n)) → IsSome (cond t (Some l.text) (find_number (ls ++ m ∷ []) n))
    go true e h rest = refl
    go false e h rest = rest h

has-new : (ls : List Label) (n : ℕ) (text : List ℕ) → IsSome (find_number (ls ++ number_label n text ∷ []) n)
has-new [] n text = subst (λ t. IsSome (cond t (Some text) None)) (sym ((Decides-eqb n n).1 refl)) refl
has-new (l ∷ ls) n text = go (l.blank.index == n) (has-new ls n text)
  where
    go : (t : Bool) → IsSome (find_number (ls ++ number_label n text ∷ []) n) → IsSome (cond t (Some l.text) (find_number (ls ++ number_label n text ∷ []) n))
    go true rest = refl
    go false rest = rest

has-with : (ls : List Label) (o : Option BlankHash) (n : ℕ) → IsSome (find_number ls n) → IsSome (find_number (with_label ls o) n)
has-with ls None n h = h
has-with ls (Some f) n h = go (is_some (find_number ls f.blank.index))
  where
    go : (t : Bool) → IsSome (find_number (cond t ls (ls ++ number_label f.blank.index (codes "c14n" ++ decimal (length ls)) ∷ [])) n)
    go true = h
    go false = has-append ls (number_label f.blank.index (codes "c14n" ++ decimal (length ls))) n h

has-all : (firsts : List BlankHash) (ls : List Label) (ns : List ℕ) (n : ℕ) → IsSome (find_number ls n) → IsSome (find_number (all_labels firsts ls ns) n)
has-all firsts ls [] n h = h
has-all firsts ls (k ∷ ns) n h = has-all firsts (with_label ls (slice_get firsts k)) ns n (has-with ls (slice_get firsts k) n h)

-- ---- each row in the order gets one

labelled_if : (ls : List Label) (o : Option (List ℕ)) (n : ℕ) (text : List ℕ) → find_number ls n ≡ o → IsSome (find_number (cond (is_some o) ls (ls ++ number_label n text ∷ [])) n)
labelled_if ls None n text e = has-new ls n text
labelled_if ls (Some t) n text e = rw e refl

labelled_first : (ls : List Label) (h : BlankHash) → IsSome (find_number (with_label ls (Some h)) h.blank.index)
labelled_first ls h = labelled_if ls (find_number ls h.blank.index) h.blank.index (codes "c14n" ++ decimal (length ls)) refl

-- a row of the order has a label
pub labelled-in : (firsts : List BlankHash) (ls : List Label) (ns : List ℕ) (k : ℕ) (h : BlankHash) → Contains ns k → slice_get firsts k ≡ Some h → IsSome (find_number (all_labels firsts ls ns) h.blank.index)
labelled-in firsts ls [] k h c at = absurd (Contains-nil k c)
labelled-in firsts ls (n ∷ ns) k h c at =
    elim (Contains-cons_cases n ns k c) [
      | inl e ↦ has-all firsts (with_label ls (slice_get firsts n)) ns h.blank.index (subst (λ o. IsSome (find_number (with_label ls o) h.blank.index)) (sym (ap (slice_get firsts) e ∙ at)) (labelled_first ls h))
      | inr d ↦ labelled-in firsts (with_label ls (slice_get firsts n)) ns k h d at
    ]

-- ---- labels are of numbers of the store

known-with : (texts : List (List ℕ)) (ls : List Label) (o : Option BlankHash) → AreLabelsKnown texts ls → IfSome o (λ h. h.blank.index < length texts) → AreLabelsKnown texts (with_label ls o)
known-with texts ls None known h = known
known-with texts ls (Some f) known h = go (is_some (find_number ls f.blank.index))
  where
    next : Label
    next = number_label f.blank.index (codes "c14n" ++ decimal (length ls))

    go : (t : Bool) → AreLabelsKnown texts (cond t ls (ls ++ next ∷ []))
    go true = known
    go false = All-push (λ (l : Label). l.blank.index < length texts) ls next known h

at_known : (texts : List (List ℕ)) (firsts : List BlankHash) (n : ℕ) → All (λ (h : BlankHash). h.blank.index < length texts) firsts → IfSome (slice_get firsts n) (λ h. h.blank.index < length texts)
at_known texts firsts n all = go (slice_get firsts n) refl
  where
    got : (hs : List BlankHash) (k : ℕ) (h : BlankHash) → slice_get hs k ≡ Some h → Contains hs h
    got [] k h e = absurd (cc)
    got (g ∷ hs) zero h e = subst (Contains (g ∷ hs)) (cc) (Contains-here g hs)
    got (g ∷ hs) (suc k) h e = Contains-there g hs h (got hs k h e)

    go : (o : Option BlankHash) → slice_get firsts n ≡ o → IfSome o (λ h. h.blank.index < length texts)
    go None e = tt
    go (Some h) e = All-contains (λ (h : BlankHash). h.blank.index < length texts) firsts h all (got firsts n h e)

-- all labels are of numbers of the store
pub labels-known : (texts : List (List ℕ)) (firsts : List BlankHash) (ls : List Label) (ns : List ℕ) → All (λ (h : BlankHash). h.blank.index < length texts) firsts → AreLabelsKnown texts ls → AreLabelsKnown texts (all_labels firsts ls ns)
labels-known texts firsts ls [] all known = known
labels-known texts firsts ls (n ∷ ns) all known = labels-known texts firsts (with_label ls (slice_get firsts n)) ns all (known-with texts ls (slice_get firsts n) known (at_known texts firsts n all))

-- ---- all blank nodes of the statements

place_of : (hs : List BlankHash) (h : BlankHash) → Contains hs h → (k : ℕ) × (k < length hs) × (slice_get hs k ≡ Some h)
place_of [] h c = absurd (Contains-nil h c)
place_of (g ∷ hs) h c =
    elim (Contains-cons_cases g hs h c) [
      | inl e ↦ (0, omega arith, ap Some e)
      | inr d ↦ let k = place_of hs h d in let below : k.0 < length hs = k.1 in (suc k.0, omega arith, k.2)
    ]

module _ (texts : List (List ℕ)) (firsts : List BlankHash) (order : List ℕ) (covers : (k : ℕ) → k < length firsts → Contains order k) where
  has_label : (id : TermId) → Contains (map (λ (h : BlankHash). h.blank) firsts) id → IsSome (find_number (all_labels firsts [] order) id.index)
  has_label id c =
      let h = Contains-from_map (λ (h : BlankHash). h.blank) firsts id c in
      let k = place_of firsts h.0 h.1 in
      subst (λ (z : TermId). IsSome (find_number (all_labels firsts [] order) z.index)) h.2 (labelled-in firsts [] order k.0 h.0 (covers k.0 k.1) k.2)

  graph_label : (g : Option TermId) → IfSome g (IsNamed texts (map (λ (h : BlankHash). h.blank) firsts)) → IfSome g (HasLabel texts (all_labels firsts [] order))
  graph_label None h = tt
  graph_label (Some id) h = λ b. has_label id (h b)

  pub all-labelled : (quads : List Quad) → All (AreNamed texts (map (λ (h : BlankHash). h.blank) firsts)) quads → All (IsLabelled texts (all_labels firsts [] order)) quads
  all-labelled quads named = All-from_contains (IsLabelled texts (all_labels firsts [] order)) quads (λ quad k.
      let n = All-contains (AreNamed texts (map (λ (h : BlankHash). h.blank) firsts)) quads quad named k in
      record {
        subject = λ b. has_label quad.subject (n.subject b);
        object = λ b. has_label quad.object (n.object b);
        graph = graph_label quad.graph n.graph;
      })

-- each place of `firsts`, whose texts are those of the rows, is in the canonical issuer of a run
pub covered : (hash : Hash) (texts : List (List ℕ)) (firsts : List BlankHash) (rows : List NodeRow) → first_names texts firsts ≡ names_of rows → IsClosed rows → (limits : Limits) (issuer : List ℕ) (tie : Bool) (work : ℕ) → AnswersNumbers (table_nodes hash rows) limits issuer tie work → (k : ℕ) → k < length firsts → Contains issuer k
covered hash texts firsts rows names closed limits issuer tie work numbers k lt =
    let long : length firsts ≡ length rows = sym (length-map firsts (λ (h : BlankHash). text_at texts h.blank)) ∙ ap length names ∙ length-map rows (λ (r : NodeRow). r.blank) in
    let below : k < length rows = subst (λ n. k < n) long lt in
    subst (λ ns. Contains ns k) (sym numbers.issuer_is) (issuer-covers (table-lawful hash rows closed) numbers.run k numbers.is_run (row-listed hash rows k below))

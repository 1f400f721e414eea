-- Lines of marks, and what they say of the dataset that is marked.
use Rattle.std.proofs.Common.{◌≡◌, ℕ, ◌+◌, ◌<◌, Bool, true, List, [], ◌∷◌, ◌++◌, length, take, get_or, All, Contains, sym, subst}
use Rattle.std.specs.Prelude.{◌↔◌}
use Rattle.std.specs.List.{AllZip}
use Rattle.std.proofs.lemmas.List.{take_more}
use Rattle.std.proofs.lemmas.List.Elements.{All-contains, Contains-get_or}
use Rattle.std.proofs.lemmas.Slice.Zip.{all_zipped_more}
use Rattle.base_types.specs.Order.{each_next, is_upto}
use Rattle.base_types.specs.Sets.{AllDiffer, SameElements}
use Rattle.base_types.proofs.Lists.{Contains-map}
use Rattle.term_store.specs.declared.statements.Quad.{Quad}
use Rattle.nquads.specs.Stored.{labels_by_text}
use Rattle.nquads.specs.Terms.{Statement}
use Rattle.nquads.specs.Texts.{label_in}
use Rattle.nquads.specs.declared.numbers.Label.{Label}
use Rattle.rdfc_ndegree.proofs.Membership.{AllZip-from_left, AllZip-from_right}
use Rattle.stmt_groups.specs.declared.grouping.Line.{Line}
use Rattle.stmt_groups.specs.declared.marking.Mark.{Mark}
use Rattle.stmt_groups.specs.Groups.{AreGroups, IsLineOf}
use Rattle.stmt_groups.specs.Parts.{AreMarks, IsMarkOf, Parts, marked_quads}
use Rattle.stmt_groups.specs.Internal.Grouping.{IsLineFor}

-- what holds of all marked statements holds of that of one mark
pub of_mark : (P : Quad → Type 0) (marks : List Mark) (i : ℕ) (d : Mark) → i < length marks → All P (marked_quads marks) → P ((get_or marks i d).quad)
of_mark P marks i d within all =
    All-contains P (marked_quads marks) ((get_or marks i d).quad) all (Contains-map (λ (m : Mark). m.quad) marks (get_or marks i d) (Contains-get_or marks i d within))

-- the lines so far, with the next
pub lines_more : (R : Mark → Line → Type 0) (marks : List Mark) (i : ℕ) (d : Mark) (lines new : List Line) (l : Line) → i < length marks → new ≡ lines ++ l ∷ [] → R (get_or marks i d) l → AllZip R (take i marks) lines → AllZip R (take (i + 1) marks) new
lines_more R marks i d lines new l within pushed is before =
    subst (λ (ms : List Mark). AllZip R ms new) (sym (take_more marks i d within))
    (subst (λ (ls : List Line). AllZip R (take i marks ++ get_or marks i d ∷ []) ls) (sym pushed) (all_zipped_more R (take i marks) lines (get_or marks i d) l before is))

-- the line of a mark is that of its statement
line_of : (texts : List (List ℕ)) (labels : List Label) (p : Parts Statement) (s : Statement) (m : Mark) (l : Line) → IsMarkOf texts p s m → IsLineFor texts labels m l → IsLineOf (label_in (labels_by_text texts labels)) p s l
line_of texts labels p s m l is line = record {
  text = line.text s is.spelled;
  says = record {
    is_mandatory = subst (λ (b : Bool). (b ≡ true) ↔ Contains p.mandatory s) (sym line.mandatory) is.says.is_mandatory;
    is_chosen = subst (λ (b : Bool). (b ≡ true) ↔ Contains p.chosen s) (sym line.chosen) is.says.is_chosen;
  };
}

-- lines with the elements of those of the marks are the lines of the dataset
pub are_groups : (texts : List (List ℕ)) (labels : List Label) (p : Parts Statement) (marks : List Mark) (made lines : List Line) → AreMarks texts p marks → AllZip (IsLineFor texts labels) marks made → SameElements lines made → each_next (λ (k l : Line). is_upto k.text l.text) lines ≡ true → AllDiffer lines
    → AreGroups (label_in (labels_by_text texts labels)) p lines
are_groups texts labels p marks made lines are zipped same up differ = record {
  each = λ l c.
      let m = AllZip-from_right (IsLineFor texts labels) marks made l zipped ((same l).0 c) in
      let s = are.each m.0 m.1 in
      (s.0, s.1, line_of texts labels p s.0 m.0 l s.2 m.2);
  every = λ s c.
      let m = are.every s c in
      let l = AllZip-from_left (IsLineFor texts labels) marks made m.0 zipped m.1 in
      (l.0, (same l.0).1 l.1, line_of texts labels p s m.0 l.0 m.2 l.2);
  in_order = up;
  once = differ;
}

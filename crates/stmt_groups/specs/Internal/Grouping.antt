-- The line of a mark.
use Rattle.std.specs.Prelude.{◌≡◌, ℕ, List}
use Rattle.nquads.specs.Terms.{Statement}
use Rattle.nquads.specs.Spelling.{text_quad}
use Rattle.nquads.specs.Lines.{line}
use Rattle.nquads.specs.Stored.{labels_by_text, quad_texts}
use Rattle.nquads.specs.Texts.{label_in}
use Rattle.nquads.specs.declared.numbers.Label.{Label}
use Rattle.stmt_groups.specs.declared.grouping.Line.{Line}
use Rattle.stmt_groups.specs.declared.marking.Mark.{Mark}

-- the line is that of the statement of the mark under the labels, with the same marks
pub record IsLineFor (texts : List (List ℕ)) (labels : List Label) (m : Mark) (l : Line)
    : Type 0 where
  pub text : (s : Statement) → quad_texts texts m.quad ≡ text_quad s
      → l.text ≡ line (label_in (labels_by_text texts labels)) s
  pub mandatory : l.mandatory ≡ m.mandatory
  pub chosen : l.chosen ≡ m.chosen

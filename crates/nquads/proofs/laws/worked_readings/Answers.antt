use Rattle.std.proofs.Common.{◌≡◌, ℕ, List, [], ◌∷◌, true, Option, Some, None, codes, refl, sym, ◌∙◌}
use lib.Utf8.{encode}
use Rattle.std.specs.Str.{is_utf8, chars}
use Rattle.std.proofs.lemmas.Option.{none-some}
use Rattle.std.proofs.lemmas.Str.{IsUtf8-from_is_utf8}
use Rattle.nquads.specs.Terms.{by_label, iri, literal, blank, Statement, rdf_lang_string}
use Rattle.nquads.specs.Reading.{Says}
use Rattle.nquads.specs.Internal.Parsing.{part_in, closing_in, parts_in, statement, statement_of, line_in}
use Rattle.nquads.proofs.WholeLines.{line_in-gives, line_in-from}
use Rattle.nquads.proofs.laws.worked_readings.Goals as goal

no_line : (line : List ℕ) → line_in line ≡ None → (x : Option Statement) → Says line x → ⊥
no_line line e x s = none-some x (sym e ∙ line_in-from line x s)

said : (line : List ℕ) (x : Option Statement) → is_utf8 line ≡ true → line_in line ≡ Some x → Says line x
said line x u e = line_in-gives line x (IsUtf8-from_is_utf8 line u) e

pub returns-clause-literal : goal.returns-clause-literal
unfolding is_utf8 chars encode line_in parts_in part_in closing_in statement_of
returns-clause-literal c =
    said (codes "_:a <e:p> \"\\u00E9\"@fr.")
    (Some (statement (blank (record { kind = by_label; name = codes "a" })) (codes "e:p") (literal (195 ∷ 169 ∷ []) rdf_lang_string (Some (codes "fr"))) None)) refl refl

pub returns-clause-graph : goal.returns-clause-graph
unfolding is_utf8 chars encode line_in parts_in part_in closing_in statement_of
returns-clause-graph c =
    said (codes "\t<e:s> <e:p>\t_:a.b <e:g>. # c")
    (Some (statement (iri (codes "e:s")) (codes "e:p") (blank (record { kind = by_label; name = codes "a.b" })) (Some (iri (codes "e:g"))))) refl refl

pub returns-clause-comment : goal.returns-clause-comment
unfolding is_utf8 chars encode line_in parts_in part_in closing_in statement_of
returns-clause-comment c = said (codes " # <e:s> <e:p> <e:o> .") None refl refl

pub returns-clause-no_dot : goal.returns-clause-no_dot
unfolding line_in parts_in part_in closing_in statement_of
returns-clause-no_dot c = no_line (codes "<e:s> <e:p> <e:o>") refl

pub returns-clause-no_gap : goal.returns-clause-no_gap
unfolding line_in parts_in part_in closing_in statement_of
returns-clause-no_gap c = no_line (codes "<e:s><e:p> <e:o> .") refl

pub returns-clause-relative : goal.returns-clause-relative
unfolding line_in parts_in part_in closing_in statement_of
returns-clause-relative c = no_line (codes "<s> <e:p> <e:o> .") refl

pub returns-clause-subject : goal.returns-clause-subject
unfolding line_in parts_in part_in closing_in statement_of
returns-clause-subject c = no_line (codes "\"s\" <e:p> <e:o> .") refl

pub returns-clause-surrogate : goal.returns-clause-surrogate
unfolding line_in parts_in part_in closing_in statement_of
returns-clause-surrogate c = no_line (codes "_:a <e:p> \"\\uD800\" .") refl

pub returns-clause-two_dots : goal.returns-clause-two_dots
unfolding line_in parts_in part_in closing_in statement_of
returns-clause-two_dots c = no_line (codes "_:a <e:p> _:b..") refl

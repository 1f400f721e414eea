use Rattle.std.proofs.Common.{Some, None, sym, ap, ◌∙◌, lit<}
use Rattle.std.proofs.lemmas.Str.Pattern.{strip_prefix_char}
use Rattle.pointer_select.specs.Pointers.{pointer_with}
use Rattle.pointer_select.proofs.Grammar.{fault_first, spells_tokens, spells_nothing}
use Rattle.pointer_select.proofs.pointer.Pointer.read.Goals as goal

pub returns-in-Some : goal.returns-in-Some
returns-in-Some c = fault_first c.args.text.now c.in-Some.at (sym c.in-Some.ensures)

pub returns-in_ok-tokens-in-Some-strip_prefix : goal.returns-in_ok-tokens-in-Some-strip_prefix
returns-in_ok-tokens-in-Some-strip_prefix c =
    let slash = strip_prefix_char 47 c.args.text.now (Some c.in-Some-strip_prefix.rest) c.in-Some-strip_prefix.ensures.cases (lit< tt) in
    spells_tokens c.args.text.now c.in-Some-strip_prefix.rest.now (sym c.in_default.ensures) slash ∙ ap pointer_with (sym c.in_ok-tokens-in-Some-strip_prefix.ensures)

pub returns-in-None : goal.returns-in-None
returns-in-None c =
    let other = strip_prefix_char 47 c.args.text.now None c.in-None.ensures.cases (lit< tt) in
    spells_nothing c.args.text.now (sym c.in_default.ensures) other ∙ ap pointer_with (sym c.new.ensures)

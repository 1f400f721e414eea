use Rattle.std.proofs.Common.{Some, None, sym, ◌∙◌, lit<}
use Rattle.std.proofs.lemmas.Str.Pattern.{find_char}
use Rattle.iri_ref.proofs.Cuts.{no_mark, found_parts}
use Rattle.iri_ref.proofs.splitting.cut_before_slash.Goals as goal

pub returns-in-Some-clause-front : goal.returns-in-Some-clause-front
returns-in-Some-clause-front c = c.split_at.ensures.front ∙ sym (found_parts 47 c.args.text.now c.in-Some.at (find_char 47 c.args.text.now (Some c.in-Some.at) c.in-Some.ensures.cases (lit< tt))).0

pub returns-in-Some-clause-back : goal.returns-in-Some-clause-back
returns-in-Some-clause-back c = c.split_at.ensures.back ∙ sym (found_parts 47 c.args.text.now c.in-Some.at (find_char 47 c.args.text.now (Some c.in-Some.at) c.in-Some.ensures.cases (lit< tt))).1

pub returns-in-None-clause-front : goal.returns-in-None-clause-front
returns-in-None-clause-front c = sym (no_mark 47 c.args.text.now (find_char 47 c.args.text.now None c.in-None.ensures.cases (lit< tt))).0

pub returns-in-None-clause-back : goal.returns-in-None-clause-back
returns-in-None-clause-back c = sym (no_mark 47 c.args.text.now (find_char 47 c.args.text.now None c.in-None.ensures.cases (lit< tt))).2

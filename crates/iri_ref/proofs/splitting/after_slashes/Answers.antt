use Rattle.std.proofs.Common.{Some, None}
use Rattle.std.proofs.Common.{lit<}
use Rattle.std.proofs.lemmas.Str.Pattern.{strip_prefix_char}
use Rattle.iri_ref.proofs.Cuts.{no_slash, stripped}
use Rattle.iri_ref.proofs.splitting.after_slashes.Goals as goal

pub returns-in-Some : goal.returns-in-Some
returns-in-Some c = stripped c.args.text.now c.in-Some.rest.now _ (strip_prefix_char 47 c.args.text.now (Some c.in-Some.rest) c.in-Some.ensures.cases (lit< tt)) (strip_prefix_char 47 c.in-Some.rest.now _ c.strip_prefix-in-Some.ensures.cases (lit< tt))

pub returns-in-None : goal.returns-in-None
returns-in-None c = no_slash c.args.text.now (strip_prefix_char 47 c.args.text.now None c.in-None.ensures.cases (lit< tt))

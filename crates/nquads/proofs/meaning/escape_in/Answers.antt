use Rattle.nquads.proofs.MeaningLemmas.{short_escape, long_escape}
use Rattle.nquads.proofs.meaning.escape_in.Goals as goal

pub returns-in-Some : goal.returns-in-Some
returns-in-Some c = short_escape c.args.quoted c.args.text.now c.in-Some.digits.now c.numbered.result c.in-Some.ensures c.numbered.ensures

pub returns-in-Some-past : goal.returns-in-Some-past
returns-in-Some-past c = long_escape c.args.quoted c.args.text.now c.in-Some-past.digits.now c.numbered-in-Some-past.result c.in-Some-past.ensures c.numbered-in-Some-past.ensures

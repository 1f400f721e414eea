use Rattle.std.proofs.Common.{Some, None, sym}
use Rattle.iri_ref.proofs.Cuts.{once_parts}
use Rattle.iri_ref.proofs.splitting.cut.Goals as goal

pub returns-in-Some-clause-front : goal.returns-in-Some-clause-front
returns-in-Some-clause-front c = sym (once_parts c.args.mark c.args.text.now (Some (c.in-Some.head, c.in-Some.tail)) c.in-Some.ensures.cases c.requires).0

pub returns-in-Some-clause-back : goal.returns-in-Some-clause-back
returns-in-Some-clause-back c = sym (once_parts c.args.mark c.args.text.now (Some (c.in-Some.head, c.in-Some.tail)) c.in-Some.ensures.cases c.requires).1

pub returns-in-None-clause-front : goal.returns-in-None-clause-front
returns-in-None-clause-front c = sym (once_parts c.args.mark c.args.text.now None c.in-None.ensures.cases c.requires).0

pub returns-in-None-clause-back : goal.returns-in-None-clause-back
returns-in-None-clause-back c = sym (once_parts c.args.mark c.args.text.now None c.in-None.ensures.cases c.requires).1

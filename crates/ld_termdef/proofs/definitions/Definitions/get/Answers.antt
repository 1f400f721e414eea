use Rattle.std.proofs.Common.{◌≡◌, Some, None, find, bytes_eq, sym, ◌∙◌, rules}
use Rattle.ld_termdef.proofs.Layered.{get-over, get-under, get-lawful}
use Rattle.ld_termdef.proofs.definitions.Definitions.get.Goals as goal

pub returns-in-Some-clause-definition : goal.returns-in-Some-clause-definition
returns-in-Some-clause-definition c =
    get-over c.self.inside.over c.self.inside.under c.args.self.now c.args.term.now c.get-in-Some.result.now (cc c.self.view_is) (cc (c.get-2.ensures, c.as_slice.ensures, c.in-Some.ensures, c.in-Some.is, c.get-in-Some.ensures))

pub returns-in-Some-clause-lawful : goal.returns-in-Some-clause-lawful
returns-in-Some-clause-lawful c =
    get-lawful c.self.inside.over c.args.term.now c.get-in-Some.result.now c.self.invariant.over_lawful (cc (c.get-2.ensures, c.as_slice.ensures, c.in-Some.ensures, c.in-Some.is, c.get-in-Some.ensures))

pub returns-in-Some-find_by_key-clause-definition :
    goal.returns-in-Some-find_by_key-clause-definition
returns-in-Some-find_by_key-clause-definition c =
    get-under c.self.inside.over c.self.inside.under c.args.self.now c.args.term.now (Some c.get-in-Some-find_by_key.result.now) (cc c.self.view_is) (cc (c.get-2.ensures, c.as_slice.ensures, c.in-None.ensures, c.in-None.is)) (cc (c.get.ensures, c.as_slice-under.ensures, c.in-Some-find_by_key.ensures, c.in-Some-find_by_key.is, c.get-in-Some-find_by_key.ensures))

pub returns-in-Some-find_by_key-clause-lawful : goal.returns-in-Some-find_by_key-clause-lawful
returns-in-Some-find_by_key-clause-lawful c =
    get-lawful c.self.inside.under c.args.term.now c.get-in-Some-find_by_key.result.now c.self.invariant.under_lawful (cc (c.get.ensures, c.as_slice-under.ensures, c.in-Some-find_by_key.ensures, c.in-Some-find_by_key.is, c.get-in-Some-find_by_key.ensures))

pub returns-in-None-find_by_key-clause-definition :
    goal.returns-in-None-find_by_key-clause-definition
returns-in-None-find_by_key-clause-definition c =
    get-under c.self.inside.over c.self.inside.under c.args.self.now c.args.term.now None (cc c.self.view_is) (cc (c.get-2.ensures, c.as_slice.ensures, c.in-None.ensures, c.in-None.is)) (cc (c.get.ensures, c.as_slice-under.ensures, c.in-None-find_by_key.ensures, c.in-None-find_by_key.is))

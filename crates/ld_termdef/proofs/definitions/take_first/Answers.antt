use Rattle.std.proofs.Common.{◌≡◌}
use Rattle.ld_termdef.proofs.Layered.{takes-over, takes-same, takes-under}
use Rattle.ld_termdef.proofs.definitions.take_first.Goals as goal

pub returns-in_ok-push-in-Less : goal.returns-in_ok-push-in-Less
returns-in_ok-push-in-Less c =
    takes-over c.args.made.now c.push.new.self c.args.over.now c.args.under.now c.in-Some.over_rest.now c.in-Some-split_first.under_rest.now c.in-Some.upper.now c.in-Some-split_first.lower.now c.in-Some.ensures.cases.0 c.in-Some-split_first.ensures.cases.0 c.requires.over_rises c.requires.under_rises (cc (c.in-Less.ensures, c.key.ensures, c.key-2.ensures)) (cc (c.in_ok-push-in-Less.ensures.ok, c.in_ok-share-in-Less.ensures))

pub returns-in_ok-push-in-Equal : goal.returns-in_ok-push-in-Equal
returns-in_ok-push-in-Equal c =
    takes-same c.args.made.now c.push-in-Equal.new.self c.args.over.now c.args.under.now c.in-Some.over_rest.now c.in-Some-split_first.under_rest.now c.in-Some.upper.now c.in-Some-split_first.lower.now c.in-Some.ensures.cases.0 c.in-Some-split_first.ensures.cases.0 c.requires.over_rises c.requires.under_rises (cc (c.in-Equal.ensures, c.key.ensures, c.key-2.ensures)) (cc (c.in_ok-push-in-Equal.ensures.ok, c.in_ok-share-in-Equal.ensures))

pub returns-in_ok-push-in-Greater : goal.returns-in_ok-push-in-Greater
returns-in_ok-push-in-Greater c =
    takes-under c.args.made.now c.push-in-Greater.new.self c.args.over.now c.args.under.now c.in-Some.over_rest.now c.in-Some-split_first.under_rest.now c.in-Some.upper.now c.in-Some-split_first.lower.now c.in-Some.ensures.cases.0 c.in-Some-split_first.ensures.cases.0 c.requires.over_rises c.requires.under_rises (cc (c.in-Greater.ensures, c.key.ensures, c.key-2.ensures)) (cc (c.in_ok-push-in-Greater.ensures.ok, c.in_ok-share-in-Greater.ensures))

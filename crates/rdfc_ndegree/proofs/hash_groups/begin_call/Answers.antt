use Rattle.rdfc_ndegree.proofs.Replies.{call-stands}
use Rattle.rdfc_ndegree.proofs.hash_groups.begin_call.Goals as goal

pub returns-clause-ok : goal.returns-clause-ok
returns-clause-ok c = λ limits spent fit.
    c.next_group.ensures.ok c.args.table.now c.args.canonical.now limits c.args.node c.args.issuer.now c.args.issuer.now spent spent
    (call-stands c.args.hash c.args.table.now c.args.canonical.now limits spent c.args.node c.args.issuer.now c.new.result.items c.in_ok-groups.groups.items c.new.ensures.items c.in_ok-groups.ensures.groups c.in_ok-groups.ensures.listed)

use Rattle.std.proofs.Common.{◌≡◌, Err, ap}
use Rattle.ld_rdf.specs.declared.fault.FlatFault.{FlatFault}
use Rattle.ld_rdf.specs.declared.fault.FlatFault.TheVariants.{NotBuilt}
use Rattle.vc_session.proofs.Tables.{no_entry_of, table_end}
use Rattle.vc_session.proofs.keys.key_table.Goals as goal

pub returns-in-Err-clause-not_built : goal.returns-in-Err-clause-not_built
returns-in-Err-clause-not_built c is =
    let same : c.in-Err.fault ≡ NotBuilt = cc in
    no_entry_of c.args.keys.now c.in-Some.members.now c.loop-member.member-index c.member-item.result c.in-Err.fault c.loop-member.invariant.0 c.loop-member-test.true c.member-item.is
    (λ e. c.in-Err.ensures.not_built (ap (λ (x : FlatFault). Err x) e)) same

pub returns-clause-ok : goal.returns-clause-ok
returns-clause-ok c = table_end c.args.keys.now c.in-Some.members.now _ _ c.loop-member.member-index c.loop-member.invariant.0 c.loop-member.invariant.1 c.loop-member-test.false c.from_vec.ensures

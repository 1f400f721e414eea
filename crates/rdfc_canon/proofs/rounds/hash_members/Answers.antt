use Rattle.std.proofs.Common.{refl, ap, not, ◌∙◌, get_or}
use Rattle.rdfc_ndegree.proofs.Loops.{handed_on}
use Rattle.rdfc_ndegree.proofs.TableCarry.{table-lawful}
use Rattle.rdfc_canon.proofs.Hashings.{fault-of, number-none, number-some, hash-skip, hash-turn, hash-fault, hash-end}
use Rattle.rdfc_canon.proofs.rounds.hash_members.Goals.{then-is_none+in_ok-issuer+in_ok-path+in_ok-push, else-is_none}
use Rattle.rdfc_canon.proofs.rounds.hash_members.Goals as goal

pub returns-in_err-path-clause-fault : goal.returns-in_err-path-clause-fault
returns-in_err-path-clause-fault c =
    let member = get_or c.args.members.now c.loop-member.member-index 0 in
    let new = number-none c.args.hash c.args.table.now c.args.canonical.now member _ c.number.result c.number.ensures (c.is_none.ensures ∙ ap not c.if-is_none.true) in
    let h = fault-of c.hash_n_degree.result c.in_err-path.field-0.0 c.loop-member.meter.limits _ c.in_err-path.was c.hash_n_degree.ensures.work in
    handed_on _ c.in_err-path.field-0.0 _ c.from_residual-in_err-path.ensures.1
    (hash-fault c.args.hash c.args.table.now (table-lawful c.args.hash c.args.table.now c.requires.closed) c.args.canonical.now c.args.members.now c.loop-member.member-index member c.loop-member-test.true refl new c.requires.members c.loop-member.invariant c.in_err-path.field-0.0 (rw c.in_ok-issuer.ensures at h))

pub loop-member-preserved : goal.loop-member-preserved
loop-member-preserved c =
    let member = get_or c.args.members.now c.loop-member.member-index 0 in
    elim c.if-is_none.branch [
      | then-is_none+in_ok-issuer+in_ok-path+in_ok-push w ↦
          let new = number-none c.args.hash c.args.table.now c.args.canonical.now member _ c.number.result c.number.ensures (c.is_none.ensures ∙ ap not w.if-is_none.true) in
          let a = rw w.in_ok-issuer.ensures at w.in_ok-path.ensures.ok in
          rw (w.paths-is, w.meter-is, w.in_ok-push.ensures.items)
          (hash-turn c.args.hash c.args.table.now c.args.canonical.now c.args.members.now c.loop-member.member-index member w.in_ok-path.path w.hash_n_degree.new.meter c.loop-member-test.true refl new c.loop-member.invariant a w.in_ok-path.ensures.limits w.in_ok-path.ensures.kept)
      | else-is_none w ↦
          let old = number-some c.args.hash c.args.table.now c.args.canonical.now member _ c.number.result c.number.ensures (c.is_none.ensures ∙ ap not w.if-is_none.false) in
          rw (w.paths-is, w.meter-is)
          (hash-skip c.args.hash c.args.table.now c.args.canonical.now c.args.members.now c.loop-member.member-index member c.loop-member-test.true refl old c.loop-member.invariant)
    ]

pub returns-clause-ok : goal.returns-clause-ok
returns-clause-ok c = hash-end c.args.hash c.args.table.now c.args.canonical.now c.args.members.now c.loop-member.member-index c.loop-member-test.false c.loop-member.invariant

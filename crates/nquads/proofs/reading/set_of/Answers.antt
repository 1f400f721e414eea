use Rattle.std.proofs.Common.{◌≡◌, refl, length, arith}
use Rattle.nquads.proofs.StoringLemmas.{more_quads}
use Rattle.nquads.proofs.CountedBlanks.{more_ids, is_set, set_known}
use Rattle.nquads.proofs.reading.set_of.Goals as goal

pub returns-then-len-gt-MOST_STATEMENTS-clause-fault : goal.returns-then-len-gt-MOST_STATEMENTS-clause-fault
returns-then-len-gt-MOST_STATEMENTS-clause-fault c =
    (refl, more_quads c.from_vec-set.result c.args.quads.items c.len.result c.from_vec-set.ensures.same c.from_vec-set.ensures.differ c.len.ensures c.if-len-gt-MOST_STATEMENTS.true)

pub blank_ids-requires : goal.blank_ids-requires
blank_ids-requires c =
    set_known c.args.terms.now c.args.quads.items c.from_vec-set.result c.as_slice.result.now c.from_vec-set.ensures.same c.as_slice.ensures.same c.requires

pub returns-then-len-gt-MOST_BLANKS-clause-fault : goal.returns-then-len-gt-MOST_BLANKS-clause-fault
returns-then-len-gt-MOST_BLANKS-clause-fault c =
    let size : c.len-2.result ≡ length c.in_ok-ids.ids.items = omega (arith, c.len-2.ensures, c.in_ok-ids.ids.ok.0) in
    (refl, more_ids c.args.terms.now c.args.quads.items c.from_vec-set.result c.as_slice.result.now c.in_ok-ids.ids.items c.len-2.result c.from_vec-set.ensures.same c.as_slice.ensures.same c.in_ok-ids.ensures.same c.in_ok-ids.ensures.differ size c.if-len-gt-MOST_BLANKS.true)

pub returns-clause-ok : goal.returns-clause-ok
returns-clause-ok c =
    let size : c.len-2.result ≡ length c.in_ok-ids.ids.items = omega (arith, c.len-2.ensures, c.in_ok-ids.ids.ok.0) in
    is_set c.args.terms.now c.args.quads.items c.from_vec-set.result c.as_slice.result.now c.in_ok-ids.ids.items c.len.result c.len-2.result c.from_vec-set.ensures.same c.as_slice.ensures.same c.in_ok-ids.ensures.same
    c.len.ensures c.if-len-gt-MOST_STATEMENTS.false size c.if-len-gt-MOST_BLANKS.false

use Rattle.std.proofs.Common.{◌∙◌, ◌<◌, ◌-◌, ap, arith, length, map, sym}
use Rattle.std.specs.Prelude.{slice_get}
use Rattle.std.proofs.lemmas.Option.{slice_get_within}
use Rattle.rdfc_ndegree.specs.Groups.{with_related_hash}
use Rattle.rdfc_ndegree.specs.Datasets.{occurrence}
use Rattle.rdfc_ndegree.specs.Table.{related_in_row, table_nodes}
use Rattle.rdfc_ndegree.proofs.Alikes.{take-past}
use Rattle.rdfc_ndegree.proofs.Hashes.{hashed-next}
use Rattle.rdfc_ndegree.proofs.related.related_hashes.Goals as goal

pub loop-related-preserved : goal.loop-related-preserved
loop-related-preserved c =
    let r = c.in-Some.related in
    let o = occurrence r.position r.predicate.now r.node in
    hashed-next c.args.hash c.args.table.now c.args.canonical.now c.args.issuer.now (related_in_row (slice_get c.args.table.now c.args.node)) c.loop-related.place c.alike_until-end.result o c.loop-related.hashed.items c.push.new.self.items c.in_ok-next.next
    (c.alike_until-end.ensures.alike o c.in-Some.ensures) c.loop-related.invariant c.in_ok-push.ensures.items c.in_ok-next.ensures

pub returns : goal.returns
returns c =
    let os = related_in_row (slice_get c.args.table.now c.args.node) in
    c.loop-related.invariant ∙ ap (map (with_related_hash (table_nodes c.args.hash c.args.table.now) c.args.canonical.now c.args.issuer.now)) (take-past os c.loop-related.place c.in_default.ensures)

pub loop-related-smaller : goal.loop-related-smaller
loop-related-smaller c =
    let r = c.in-Some.related in
    let o = occurrence r.position r.predicate.now r.node in
    let os = related_in_row (slice_get c.args.table.now c.args.node) in
    let within : c.loop-related.place < length os = slice_get_within os c.loop-related.place o (sym c.in-Some.ensures) in
    let later : c.loop-related.place < c.alike_until-end.result = (c.alike_until-end.ensures.alike o c.in-Some.ensures).0 in
    let smaller : length os - c.alike_until-end.result < length os - c.loop-related.place = omega arith in
    smaller

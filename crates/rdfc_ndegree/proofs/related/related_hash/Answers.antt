use Rattle.std.proofs.Common.{replicate}
use Rattle.rdfc_ndegree.specs.Datasets.{occurrence}
use Rattle.rdfc_ndegree.proofs.Hashes.{hash-made}
use Rattle.rdfc_ndegree.proofs.related.related_hash.Goals as goal

pub returns : goal.returns
returns c =
    let r = c.args.related.now in
    let made = hash-made c.args.hash c.args.table.now c.args.canonical.now c.args.issuer.now (occurrence r.position r.predicate.now r.node) c.digest_hex.result _ _ _ _
    c.digest_hex.ensures c.as_slice.ensures.value (c.in_ok-push_identifier_or_hash.ensures c.args.hash) c.in_ok-push_position.ensures c.new-text.ensures.items in
    λ j. replicate c.args.count (record { hash = made j; node = r.node })

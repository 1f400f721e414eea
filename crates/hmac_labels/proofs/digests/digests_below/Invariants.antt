use Rattle.std.proofs.Common.{◌≡◌, map}
use Rattle.digest_mac.specs.Labels.{hmac_digest}
use Rattle.rdfc_ndegree.specs.Table.{numbers_below}
use Rattle.hmac_labels.proofs.digests.digests_below.Given as goal

abbrev pub invariant-loop-number : goal.invariant-loop-number
invariant-loop-number l = l.digests ≡ map (hmac_digest l.hash l.key) (numbers_below l.number)

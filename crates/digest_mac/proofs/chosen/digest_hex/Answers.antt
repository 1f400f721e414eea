use Rattle.digest_mac.specs.Digests.{digest, digits, sha256_digits}
use Rattle.digest_mac.proofs.Sizes.{ascii_digits}
use Rattle.digest_mac.proofs.chosen.digest_hex.Goals as goal

pub of_64-requires : goal.of_64-requires
unfolding sha256_digits
of_64-requires c = ascii_digits _ _ c.sha256_hex.ensures

pub of_96-requires : goal.of_96-requires
unfolding digits digest
of_96-requires c = ascii_digits _ _ c.sha384_hex.ensures

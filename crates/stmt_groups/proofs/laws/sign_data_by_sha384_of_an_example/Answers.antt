use Rattle.std.proofs.Common.{refl}
use Rattle.sha2.specs.Sha512.{sha384, first_words, schedule, rounds, compress, hash_after, digest_bytes}
use Rattle.digest_mac.specs.Digests.{digest}
use Rattle.stmt_groups.proofs.laws.sign_data_by_sha384_of_an_example.Goals as goal

pub returns : goal.returns
unfolding digest sha384 first_words schedule rounds compress hash_after digest_bytes
returns c = refl

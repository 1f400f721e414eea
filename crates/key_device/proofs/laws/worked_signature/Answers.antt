use Rattle.std.proofs.Common.{refl}
use Rattle.sha2.specs.Sha256.{sha256, first_words, schedule, rounds, compress, hash_after, digest_bytes}
use Rattle.digest_mac.specs.Digests.{digest, keyed_digest, padded_key, short_key}
use Rattle.key_device.specs.HmacDevices.{hmac_signature, fresh_name}
use Rattle.key_device.proofs.laws.worked_signature.Goals as goal

pub returns-clause-of_the_rfc : goal.returns-clause-of_the_rfc
unfolding keyed_digest padded_key short_key digest sha256 first_words schedule rounds compress hash_after digest_bytes
returns-clause-of_the_rfc c = refl

pub returns-clause-signature : goal.returns-clause-signature
unfolding hmac_signature fresh_name keyed_digest padded_key short_key digest sha256 first_words schedule rounds compress hash_after digest_bytes
returns-clause-signature c = refl

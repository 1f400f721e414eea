use Rattle.std.proofs.Common.{refl}
use Rattle.std.specs.Fmt.{digits}
use Rattle.base64.proofs.OnLiterals.{base64_on_literals}
use Rattle.sha2.specs.Sha256.{sha256, first_words, schedule, rounds, compress, hash_after, digest_bytes}
use Rattle.sha2.specs.Sha512.{sha384, first_words as first_words_64, schedule as schedule_64, rounds as rounds_64, compress as compress_64, hash_after as hash_after_64, digest_bytes as digest_bytes_64}
use Rattle.digest_mac.specs.Digests.{digest, keyed_digest, padded_key, short_key}
use Rattle.digest_mac.specs.Labels.{hmac_digest, hmac_label}
use Rattle.digest_mac.proofs.laws.labels_of_known_numbers.Goals as goal

pub returns-clause-sha256 : goal.returns-clause-sha256
unfolding hmac_label hmac_digest digits keyed_digest padded_key short_key digest base64_on_literals sha256 first_words schedule rounds compress hash_after digest_bytes
returns-clause-sha256 c = refl

pub returns-clause-sha384 : goal.returns-clause-sha384
unfolding hmac_label hmac_digest digits keyed_digest padded_key short_key digest base64_on_literals sha384 first_words_64 schedule_64 rounds_64 compress_64 hash_after_64 digest_bytes_64
returns-clause-sha384 c = refl

use Rattle.std.proofs.Common.{◌≡◌, map, take}
use Rattle.digest_mac.specs.Labels.{multibase_text}
use Rattle.hmac_labels.proofs.digests.texts_of.Given as goal

abbrev pub invariant-loop-digest : goal.invariant-loop-digest
invariant-loop-digest l = l.texts.items ≡ map multibase_text (take l.digest-index l.digests)

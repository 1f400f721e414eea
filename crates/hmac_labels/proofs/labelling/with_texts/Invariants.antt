use Rattle.std.proofs.Common.{◌≡◌, take}
use Rattle.hmac_labels.specs.Internal.Relabelling.{relabelled}
use Rattle.hmac_labels.proofs.labelling.with_texts.Given as goal

abbrev pub invariant-loop-place : goal.invariant-loop-place
invariant-loop-place l = l.given ≡ relabelled l.labels (take l.place l.texts)

-- What the labelling of canonical numbers answers, by cases on the outcome.
use Rattle.std.specs.Prelude.{ℕ, List, length, Result, Ok, Err}
use Rattle.digest_mac.specs.Labels.{hmac_label}
use Rattle.digest_mac.specs.declared.hash.Hash.{Hash}
use Rattle.nquads.specs.declared.numbers.Label.{Label}
use Rattle.hmac_labels.specs.Clashes.{IsLeastClash}
use Rattle.hmac_labels.specs.Labels.{AreHmacLabels, AreOneToOne}
use Rattle.hmac_labels.specs.declared.labelling.HmacLabels.{HmacLabels}
use Rattle.hmac_labels.specs.declared.fault.LabelFault.{LabelFault}
use Rattle.hmac_labels.specs.declared.fault.LabelFault.TheVariants.{Clash, Memory}

-- why labels are refused
abbrev pub IsFaultOf : Hash → List ℕ → List Label → LabelFault → Type 0
IsFaultOf hash key canonical (Clash first second) =
    IsLeastClash (hmac_label hash key) (length canonical) first second
IsFaultOf hash key canonical Memory = Unit {0}

-- the labels, one to one, or the least pair of numbers that clash
abbrev pub Labelled : Hash → List ℕ → List Label → Result HmacLabels LabelFault → Type 0
Labelled hash key canonical (Ok given) = AreHmacLabels hash key canonical given × AreOneToOne given
Labelled hash key canonical (Err fault) = IsFaultOf hash key canonical fault

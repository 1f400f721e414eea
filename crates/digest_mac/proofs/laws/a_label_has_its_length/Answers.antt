use Rattle.digest_mac.specs.declared.hash.Hash.TheVariants.{Sha256, Sha384}
use Rattle.digest_mac.proofs.Labels.{length-multibase_text, length-keyed_label}
use Rattle.digest_mac.proofs.laws.a_label_has_its_length.Goals as goal

pub returns : goal.returns
returns c = record {
  bytes = length-multibase_text;
  sha256 = length-keyed_label Sha256;
  sha384 = length-keyed_label Sha384;
}

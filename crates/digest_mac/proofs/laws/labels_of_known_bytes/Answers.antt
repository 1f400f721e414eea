use Rattle.std.proofs.Common.{refl}
use Rattle.base64.proofs.OnLiterals.{base64_on_literals}
use Rattle.digest_mac.proofs.laws.labels_of_known_bytes.Goals as goal

pub returns : goal.returns
unfolding base64_on_literals
returns c = record {
  empty = refl;
  one = refl;
  two = refl;
  three = refl;
  four = refl;
  five = refl;
  six = refl;
  other_symbols = refl;
}

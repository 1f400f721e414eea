use Rattle.std.proofs.Common.{◌∙◌}
use Rattle.std.proofs.lemmas.Map.Text.{is_eq-slice_cmp}
use Rattle.key_device.proofs.Owning.{has_key-by}
use Rattle.key_device.proofs.ledger.has_key.Goals as goal

pub returns : goal.returns
returns c = c.contains.ensures ∙ has_key-by _ (λ a b. is_eq-slice_cmp a.bytes b.bytes) c.args.key.now c.args.owned.now.keys

use Rattle.std.proofs.lemmas.Map.Text.{is_eq-slice_cmp}
use Rattle.key_device.proofs.Owning.{added}
use Rattle.key_device.proofs.ledger.add_key.Goals as goal

pub returns-clause-ok : goal.returns-clause-ok
returns-clause-ok c = λ other. added _ (λ a b. is_eq-slice_cmp a.bytes b.bytes) c.args.key other c.args.owned.now.keys c.insert.new.self.keys (c.in_ok-insert.ensures.updates.0 other)

use Rattle.std.proofs.Common.{◌-◌, inl, inr, sym, arith}
use Rattle.key_device.proofs.Recording.{not_recorded, recorded_at}
use Rattle.key_device.proofs.ledger.is_recorded.Goals as goal

pub returns-then-number-eq0 : goal.returns-then-number-eq0
returns-then-number-eq0 c =
    sym (not_recorded c.args.entries.now c.args.key.now c.args.bytes.now c.args.signature.now c.requires (omega arith)
    (elim c.then-number-eq0.either [ inl zero ↦ inl (omega arith) | inr past ↦ inr (omega arith) ]))

pub returns : goal.returns
returns c =
    recorded_at c.args.entries.now c.args.key.now c.args.bytes.now c.args.signature.now (c.signature_number-number.result - 1) c.index-entries-number.result c.is_entry.result
    c.requires (omega arith) (omega arith) (omega arith) c.index-entries-number.is c.is_entry.ensures

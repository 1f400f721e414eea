use Rattle.std.proofs.Common.{◌∙◌}
use Rattle.key_device.proofs.NewLedgers.{has_key-contained, signs_under_its_keys}
use Rattle.key_device.proofs.uses.sign_with_new_ledger.Goals as goal

pub returns-clause-owned : goal.returns-clause-owned
returns-clause-owned c = signs_under_its_keys c.args.keys.now c.in_ok-ledger.ledger.keys c.args.key.now _ c.in_ok-ledger.ensures.keys c.sign.ensures.not_owned

pub returns-clause-no_key : goal.returns-clause-no_key
returns-clause-no_key c = λ refused stands.
    absurd (cc (c.sign.ensures.no_key refused, c.in_ok-ledger.ensures.keys c.args.key.now ∙ has_key-contained c.args.keys.now c.args.key.now stands))

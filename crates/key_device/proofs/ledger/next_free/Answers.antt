use Rattle.std.proofs.Common.{arith, ◌+◌, length}
use Rattle.key_device.proofs.Owning.{numbers_fit}
use Rattle.key_device.proofs.ledger.next_free.Goals as goal

pub unreachable-requires : goal.unreachable-requires
unreachable-requires c = omega (arith, numbers_fit (length c.args.owned.now.keys + 1) c.args.owned.now.keys (omega arith) (λ m p q. c.loop-number.invariant m p (omega arith)))

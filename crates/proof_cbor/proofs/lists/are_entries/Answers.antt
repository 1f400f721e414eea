use Rattle.std.proofs.Common.{sym, ap}
use Rattle.std.specs.Prelude.{is_some}
use Rattle.proof_cbor.specs.Internal.Reading.{entry_of, entry_kind, each_is}
use Rattle.std.specs.Option.{option_map}
use Rattle.proof_cbor.proofs.Each.{all_more, all_stops, all_end}
use Rattle.proof_cbor.proofs.lists.are_entries.Goals as goal

pub loop-pair-preserved : goal.loop-pair-preserved
loop-pair-preserved c = all_more entry_kind c.args.pairs.now c.loop-pair.pair-index c.pair-item.result _ (is_some (each_is entry_kind c.args.pairs.now)) c.loop-pair-test.true c.pair-item.is (ap (option_map (entry_of c.pair-item.result.key)) (sym c.in-Some.ensures)) c.loop-pair.invariant

pub returns-in_default : goal.returns-in_default
returns-in_default c = all_stops entry_kind c.args.pairs.now c.loop-pair.pair-index c.pair-item.result (is_some (each_is entry_kind c.args.pairs.now)) c.loop-pair-test.true c.pair-item.is (ap (option_map (entry_of c.pair-item.result.key)) (sym c.in_default.ensures)) c.loop-pair.invariant

pub returns : goal.returns
returns c = all_end entry_kind c.args.pairs.now c.loop-pair.pair-index (is_some (each_is entry_kind c.args.pairs.now)) c.loop-pair-test.false c.loop-pair.invariant

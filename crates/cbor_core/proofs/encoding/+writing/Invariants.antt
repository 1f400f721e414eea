use Rattle.std.proofs.Common.{◌≡◌, ◌++◌, ◌^◌, ltb, true, take}
use Rattle.std.specs.Prelude.{◌&&◌}
use Rattle.std.specs.List.{flat_map, list_all}
use Rattle.cbor_core.specs.Grammar.{head_of}
use Rattle.cbor_core.specs.Writing.{encoding_of, fits}
use Rattle.cbor_core.proofs.encoding.+writing.Given as goal

abbrev pub invariant-write_items-loop-item : goal.invariant-write_items-loop-item
invariant-write_items-loop-item l = record {
  written : l.out.items ≡ l.initial.out.items ++ flat_map encoding_of (take l.item-index l.items);
  kept : list_all fits (take l.item-index l.items) ≡ true;
}

abbrev pub invariant-write_pairs-loop-pair : goal.invariant-write_pairs-loop-pair
invariant-write_pairs-loop-pair l = record {
  written : l.out.items ≡ l.initial.out.items ++ flat_map (λ p. head_of 0 p.key ++ encoding_of p.value) (take l.pair-index l.pairs);
  kept : list_all (λ p. ltb p.key (2 ^ 64) && fits p.value) (take l.pair-index l.pairs) ≡ true;
}

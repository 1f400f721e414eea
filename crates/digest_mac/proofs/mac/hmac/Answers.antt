use Rattle.std.proofs.Common.{◌∙◌}
use Rattle.digest_mac.proofs.Padding.{keyed_digest-from, take-combined}
use Rattle.digest_mac.proofs.mac.hmac.Goals as goal

pub returns : goal.returns
returns c =
    let inner = take-combined c.args.hash c.args.key.now _ c.combined_with-inner.result 0x36 c.block_size-size.result
    c.key_block-block.ensures c.combined_with-inner.ensures c.block_size-size.ensures in
    let outer = take-combined c.args.hash c.args.key.now _ c.combined_with-outer.result 0x5C c.block_size-size.result
    c.key_block-block.ensures c.combined_with-outer.ensures c.block_size-size.ensures in
    keyed_digest-from c.args.hash c.args.key.now c.args.first.now c.args.second.now _ _ c.as_slice.result.now _ inner outer
    (c.as_slice.ensures ∙ c.digest_of_pieces-digest.ensures) c.digest_of_pieces.ensures

use Rattle.std.proofs.lemmas.Str.{IsUtf8-from_ascii}
use Rattle.digest_mac.proofs.values.HexDigest.as_str.Goals as goal

pub unreachable-requires : goal.unreachable-requires
unreachable-requires c =
    let text = IsUtf8-from_ascii _ c.self.invariant.1 in
    c.in-Err.ensures.cases.0 (rw c.as_slice.ensures text)

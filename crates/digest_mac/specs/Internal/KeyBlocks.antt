-- The block that a key fills.
use Rattle.std.specs.Prelude.{ℕ, ◌-◌, ◌++◌, List, length, replicate}

-- a key with zeros after it, as long as the longest block, which is that of SHA-384
unfoldable pub with_zeros : List ℕ → List ℕ
with_zeros key = key ++ replicate (128 - length key) 0

-- One level of each kind of item.
use Rattle.std.proofs.Common.{◌≡◌, ℕ, List}
use Rattle.cbor_core.specs.declared.item.Item.{Item, out-Item}
use Rattle.cbor_core.specs.declared.item.Item.TheOpen.{Item-F}
use Rattle.cbor_core.specs.declared.item.Item.TheVariants as v
use Rattle.cbor_core.specs.declared.item.Pair.{Pair}

-- the outermost level of a whole number is that number
pub level-Whole : (n : ℕ) → out-Item (v.Whole n) ≡ Item-F.Whole n
level-Whole n = v.outs-Whole n

-- the outermost level of a byte string is its bytes
pub level-Blob : (bytes : List ℕ) → out-Item (v.Blob bytes) ≡ Item-F.Blob bytes
level-Blob bytes = v.outs-Blob bytes

-- the outermost level of a text is its bytes
pub level-Text : (bytes : List ℕ) → out-Item (v.Text bytes) ≡ Item-F.Text bytes
level-Text bytes = v.outs-Text bytes

-- the outermost level of a list is its items
pub level-List : (items : List Item) → out-Item (v.List items) ≡ Item-F.List items
level-List items = v.outs-List items

-- the outermost level of a map is its pairs
pub level-Map : (pairs : List (Pair Item)) → out-Item (v.Map pairs) ≡ Item-F.Map pairs
level-Map pairs = v.outs-Map pairs

pub ruleset levels = (level-Whole, level-Blob, level-Text, level-List, level-Map)

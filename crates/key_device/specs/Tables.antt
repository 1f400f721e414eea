-- Tables of keys: which key a verification method stands for.
use Rattle.std.specs.Prelude.{ℕ, List, Option, option_map, find}
use Rattle.std.specs.Str.{bytes_eq}
use Rattle.key_device.specs.declared.keys.KeyName.{KeyName}
use Rattle.key_device.specs.declared.table.KeyEntry.{KeyEntry}

-- the key of the first entry with this method, or none
abbrev pub key_for : List KeyEntry → List ℕ → Option KeyName
key_for entries method = option_map (λ e. e.key) (find (λ e. bytes_eq e.method method) entries)

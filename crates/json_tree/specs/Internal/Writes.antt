-- What the steps of printing write, and what they leave in the writer.
use Rattle.std.specs.Prelude.{◌≡◌, ◌++◌, List}
use Rattle.json.specs.Json as json
use Rattle.json.specs.Token.{Token}
use Rattle.json.specs.Written.{Written}
use Rattle.json_tree.specs.declared.tree.Tree.{Tree}
use Rattle.json_tree.specs.declared.tree.Item.{Item}
use Rattle.json_tree.specs.declared.tree.Member.{Member}
use Rattle.json_tree.specs.Prints.{json_of}

-- an element and a member with its value's JSON
abbrev pub item_json : Item Tree → Item json.Json
item_json i = record { at = i.at; value = json_of i.value }

abbrev pub member_json : Member Tree → Member json.Json
member_json m = record { key = m.key; value = json_of m.value }

-- these tokens were written after those that were there
pub record HasWritten (old new : Written) (tokens : List Token) : Type 0 where
  pub written : new.tokens ≡ old.tokens ++ tokens
  pub before : new.before ≡ old.before

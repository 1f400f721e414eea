-- What the steps of writing write, token by token.
use Rattle.std.specs.Prelude.{◌≡◌, ◌++◌, List, [], ◌∷◌, Bool, true, false, Result, Ok, Err, codes}
use Rattle.std.specs.Fmt.{signed_decimal}
use Rattle.std.specs.List.{flat_map}
use Rattle.json.specs.Token.{Token}
use Rattle.json.specs.Written.{Written}
use Rattle.json_tree.specs.declared.tree.Tree.{Tree, fold-Tree}
use Rattle.json_tree.specs.declared.tree.Tree.TheOpen.{Tree-F}
use Rattle.json_tree.specs.declared.tree.Item.{Item}
use Rattle.json_tree.specs.declared.tree.Member.{Member}
use Rattle.jcs_text.specs.declared.fault.JcsFault.{JcsFault}
use Rattle.jcs_text.specs.declared.fault.JcsFault.TheVariants.{Version, Memory}
use Rattle.jcs_text.specs.Canonical.{in_name_order}

-- a member whose value is already seen as its tokens
abbrev pub named_tokens : Member (List Token) → List Token
named_tokens m = Token.key m.key ∷ m.value

-- one level, with each value inside already seen as its tokens
abbrev pub tokens_step : Tree-F (List Token) → List Token
tokens_step Tree-F.Null = Token.null ∷ []
tokens_step (Tree-F.Bool b) = Token.boolean b ∷ []
tokens_step (Tree-F.Whole z) = Token.number (signed_decimal z) ∷ []
tokens_step Tree-F.Version = Token.number (codes "1.1") ∷ []
tokens_step (Tree-F.Text text) = Token.string text ∷ []
tokens_step (Tree-F.List items) =
    Token.begin_array ∷ (flat_map (λ i. i.value) items ++ Token.end_array ∷ [])
tokens_step (Tree-F.Object members) =
    Token.begin_object
    ∷ (flat_map named_tokens (in_name_order (λ m. m.key) members) ++ Token.end_object ∷ [])

-- the tokens of a tree, the members of each object in the order of their names
abbrev pub tokens_of : Tree → List Token
tokens_of = fold-Tree (List Token) tokens_step

-- the tokens of an element and of a member
abbrev pub item_tokens : Item Tree → List Token
item_tokens i = tokens_of i.value

abbrev pub member_tokens : Member Tree → List Token
member_tokens m = Token.key m.key ∷ tokens_of m.value

-- these tokens were written after those that were there
pub record HasWritten (old new : Written) (tokens : List Token) : Type 0 where
  pub written : new.tokens ≡ old.tokens ++ tokens
  pub before : new.before ≡ old.before

-- What a step leaves: the tokens, where no version number stands among what it writes, and the
-- refusal where one does; out of memory is free.
abbrev pub WritesOrRefuses
    : Written → Written → List Token → Bool → Result (Unit {0}) JcsFault → Type 0
WritesOrRefuses old new tokens holds (Ok u) = (holds ≡ false) × HasWritten old new tokens
WritesOrRefuses old new tokens holds (Err Version) = holds ≡ true
WritesOrRefuses old new tokens holds (Err Memory) = Unit {0}

-- One equation for each variant of a tree: its canonical text, and the tokens that are written for it.
use Rattle.std.proofs.Common.{◌≡◌, ℕ, ℤ, Bool, List, [], ◌∷◌, ◌++◌, map, flat_map, codes, refl, sym, ap, ◌∙◌}
use Rattle.std.specs.Fmt.{signed_decimal}
use Rattle.std.specs.List.{join_by}
use Rattle.std.proofs.lemmas.List.Folds.{flat_map-map}
use Rattle.json.specs.Token.{Token}
use Rattle.json_tree.specs.declared.tree.Tree.{Tree, fold-roll-Tree}
use Rattle.json_tree.specs.declared.tree.Tree.TheOpen.{Tree-F}
use Rattle.json_tree.specs.declared.tree.Tree.TheVariants as v
use Rattle.json_tree.specs.declared.tree.Item.{Item}
use Rattle.json_tree.specs.declared.tree.Member.{Member}
use Rattle.jcs_text.specs.Canonical.{in_name_order, string_text, member_text, text_step, canonical_json}
use Rattle.jcs_text.specs.Internal.Writing.{named_tokens, tokens_step, tokens_of, item_tokens, member_tokens}
use Rattle.jcs_text.proofs.NameOrders.{order-map}

-- the texts of images, joined
pub join_by-map : {X Y A : Type 0} (f : Y → List A) (g : X → Y) (sep : List A) (xs : List X) → join_by f sep (map g xs) ≡ join_by (λ x. f (g x)) sep xs
join_by-map f g sep [] = refl
join_by-map f g sep (x ∷ xs) = ap (λ rest. f (g x) ++ rest) (flat_map-map (λ y. sep ++ f y) g xs)

-- the text of an element and of a member
abbrev pub text_of_item : Item Tree → List ℕ
text_of_item i = canonical_json i.value

abbrev pub text_of_member : Member Tree → List ℕ
text_of_member m = string_text m.key ++ codes ":" ++ canonical_json m.value

-- ---- canonical_json

-- the text of null
pub canonical_json-Null : canonical_json v.Null ≡ codes "null"
canonical_json-Null = ap canonical_json (sym v.rolls-Null) ∙ fold-roll-Tree (List ℕ) text_step Tree-F.Null

-- the text of a truth value
pub canonical_json-Bool : (b : Bool) → canonical_json (v.Bool b) ≡ text_step (Tree-F.Bool b)
canonical_json-Bool b = ap canonical_json (sym (v.rolls-Bool b)) ∙ fold-roll-Tree (List ℕ) text_step (Tree-F.Bool b)

-- the text of a whole number is its digits
pub canonical_json-Whole : (z : ℤ) → canonical_json (v.Whole z) ≡ signed_decimal z
canonical_json-Whole z = ap canonical_json (sym (v.rolls-Whole z)) ∙ fold-roll-Tree (List ℕ) text_step (Tree-F.Whole z)

-- the text of the version number
pub canonical_json-Version : canonical_json v.Version ≡ codes "1.1"
canonical_json-Version = ap canonical_json (sym v.rolls-Version) ∙ fold-roll-Tree (List ℕ) text_step Tree-F.Version

-- the text of a text is it in quotes
pub canonical_json-Text : (text : List ℕ) → canonical_json (v.Text text) ≡ string_text text
canonical_json-Text text = ap canonical_json (sym (v.rolls-Text text)) ∙ fold-roll-Tree (List ℕ) text_step (Tree-F.Text text)

-- the text of a list is that of its elements, in brackets
pub canonical_json-List : (items : List (Item Tree)) → canonical_json (v.List items) ≡ codes "[" ++ join_by text_of_item (codes ",") items ++ codes "]"
canonical_json-List items =
    ap canonical_json (sym (v.rolls-List items)) ∙ fold-roll-Tree (List ℕ) text_step (Tree-F.List items)
    ∙ ap (λ text. codes "[" ++ text ++ codes "]") (join_by-map (λ (i : Item (List ℕ)). i.value) (λ (i : Item Tree). record { at = i.at; value = canonical_json i.value }) (codes ",") items)

-- the text of an object is that of its members in the order of their names, in braces
pub canonical_json-Object : (members : List (Member Tree)) → canonical_json (v.Object members) ≡ codes "{" ++ join_by text_of_member (codes ",") (in_name_order (λ (m : Member Tree). m.key) members) ++ codes "}"
canonical_json-Object members =
    let seen : Member Tree → Member (List ℕ) = λ m. record { key = m.key; value = canonical_json m.value } in
    ap canonical_json (sym (v.rolls-Object members)) ∙ fold-roll-Tree (List ℕ) text_step (Tree-F.Object members)
    ∙ ap (λ ms. codes "{" ++ join_by member_text (codes ",") ms ++ codes "}") (order-map seen (λ (m : Member (List ℕ)). m.key) members)
    ∙ ap (λ text. codes "{" ++ text ++ codes "}") (join_by-map member_text seen (codes ",") (in_name_order (λ (m : Member Tree). m.key) members))

-- ---- tokens_of

-- null is one token
pub tokens_of-Null : tokens_of v.Null ≡ Token.null ∷ []
tokens_of-Null = ap tokens_of (sym v.rolls-Null) ∙ fold-roll-Tree (List Token) tokens_step Tree-F.Null

-- a truth value is one token
pub tokens_of-Bool : (b : Bool) → tokens_of (v.Bool b) ≡ Token.boolean b ∷ []
tokens_of-Bool b = ap tokens_of (sym (v.rolls-Bool b)) ∙ fold-roll-Tree (List Token) tokens_step (Tree-F.Bool b)

-- a whole number is one token
pub tokens_of-Whole : (z : ℤ) → tokens_of (v.Whole z) ≡ Token.number (signed_decimal z) ∷ []
tokens_of-Whole z = ap tokens_of (sym (v.rolls-Whole z)) ∙ fold-roll-Tree (List Token) tokens_step (Tree-F.Whole z)

-- the version number would be one token
pub tokens_of-Version : tokens_of v.Version ≡ Token.number (codes "1.1") ∷ []
tokens_of-Version = ap tokens_of (sym v.rolls-Version) ∙ fold-roll-Tree (List Token) tokens_step Tree-F.Version

-- a text is one token
pub tokens_of-Text : (text : List ℕ) → tokens_of (v.Text text) ≡ Token.string text ∷ []
tokens_of-Text text = ap tokens_of (sym (v.rolls-Text text)) ∙ fold-roll-Tree (List Token) tokens_step (Tree-F.Text text)

-- a list is its elements between two brackets
pub tokens_of-List : (items : List (Item Tree)) → tokens_of (v.List items) ≡ Token.begin_array ∷ (flat_map item_tokens items ++ Token.end_array ∷ [])
tokens_of-List items =
    ap tokens_of (sym (v.rolls-List items)) ∙ fold-roll-Tree (List Token) tokens_step (Tree-F.List items)
    ∙ ap (λ ts. Token.begin_array ∷ (ts ++ Token.end_array ∷ [])) (flat_map-map (λ (i : Item (List Token)). i.value) (λ (i : Item Tree). record { at = i.at; value = tokens_of i.value }) items)

-- an object is its members in the order of their names, between two braces
pub tokens_of-Object : (members : List (Member Tree)) → tokens_of (v.Object members) ≡ Token.begin_object ∷ (flat_map member_tokens (in_name_order (λ (m : Member Tree). m.key) members) ++ Token.end_object ∷ [])
tokens_of-Object members =
    let seen : Member Tree → Member (List Token) = λ m. record { key = m.key; value = tokens_of m.value } in
    ap tokens_of (sym (v.rolls-Object members)) ∙ fold-roll-Tree (List Token) tokens_step (Tree-F.Object members)
    ∙ ap (λ ms. Token.begin_object ∷ (flat_map named_tokens ms ++ Token.end_object ∷ [])) (order-map seen (λ (m : Member (List Token)). m.key) members)
    ∙ ap (λ ts. Token.begin_object ∷ (ts ++ Token.end_object ∷ [])) (flat_map-map named_tokens seen (in_name_order (λ (m : Member Tree). m.key) members))

-- The canonical JSON text of a tree: the JSON Canonicalization Scheme, over trees whose numbers are
-- whole. RFC 8785, section 3.2.
use Rattle.std.specs.Prelude.{ℕ, ◌/◌, ◌%◌, List, [], ◌∷◌, ◌++◌, Bool, true, false, ◌==◌, nat_lt, if◌then◌else◌, codes}
use Rattle.std.specs.Char.{digit_char}
use Rattle.std.specs.Char.Escape.{encode_utf16}
use Rattle.std.specs.Fmt.{signed_decimal}
use Rattle.std.specs.List.{flat_map, join_by}
use Rattle.std.specs.Str.{chars}
use Rattle.base_types.specs.Order.{is_upto}
use Rattle.json_tree.specs.declared.tree.Tree.{Tree, fold-Tree}
use Rattle.json_tree.specs.declared.tree.Tree.TheOpen.{Tree-F}
use Rattle.json_tree.specs.declared.tree.Member.{Member}

-- ---- the order of names

-- The UTF-16 code units of a text: one or two for each of its characters. RFC 8785, 3.2.3;
-- the Unicode Standard, 3.9
abbrev pub code_units : List ℕ → List ℕ
code_units text = flat_map encode_utf16 (chars text)

-- whether a name is another, or comes before it: their code units are compared as numbers, the
-- first two that differ decide, and a name comes before those that it begins. RFC 8785, 3.2.3
abbrev pub is_upto_by_units : List ℕ → List ℕ → Bool
is_upto_by_units x y = is_upto (code_units x) (code_units y)

-- x at its place among those that are in order, before the first that it is upto
abbrev pub put_by_name : {X : Type 0} → (X → List ℕ) → X → List X → List X
put_by_name name x [] = x ∷ []
put_by_name name x (y ∷ ys) =
    if is_upto_by_units (name x) (name y) then x ∷ (y ∷ ys) else y ∷ put_by_name name x ys

-- What is named, in the order of its names; what has one name stays in its order. RFC 8785, 3.2.3
abbrev pub in_name_order : {X : Type 0} → (X → List ℕ) → List X → List X
in_name_order name [] = []
in_name_order name (x ∷ xs) = put_by_name name x (in_name_order name xs)

-- ---- the text

-- What stands in quotes for a byte of a text: \b \t \n \f \r \" \\, \u00xx with lower-case digits
-- for the other controls below U+0020, and itself otherwise. RFC 8785, 3.2.2.2
abbrev pub escape : ℕ → List ℕ
escape c =
    if c == 8 then codes "\\b"
    else (if c == 9 then codes "\\t"
    else (if c == 10 then codes "\\n"
    else (if c == 12 then codes "\\f"
    else (if c == 13 then codes "\\r"
    else (if c == 34 then codes "\\\""
    else (if c == 92 then codes "\\\\"
    else (if nat_lt c 32 then codes "\\u00" ++ digit_char (c / 16) ∷ digit_char (c % 16) ∷ []
    else c ∷ [])))))))

-- a text in quotes. RFC 8785, 3.2.2.2
abbrev pub string_text : List ℕ → List ℕ
string_text text = codes "\"" ++ flat_map escape text ++ codes "\""

-- a member whose value is already seen as its text: the name, a colon, the value
abbrev pub member_text : Member (List ℕ) → List ℕ
member_text m = string_text m.key ++ codes ":" ++ m.value

-- One level, with each value inside already seen as its text, and no space between its parts.
-- RFC 8785, 3.2.1 to 3.2.3. A whole number is its decimal digits: for numbers of 53 bits these are
-- the digits of 3.2.2.3, and greater ones are not rounded to a 64-bit float as there.
abbrev pub text_step : Tree-F (List ℕ) → List ℕ
text_step Tree-F.Null = codes "null"
text_step (Tree-F.Bool true) = codes "true"
text_step (Tree-F.Bool false) = codes "false"
text_step (Tree-F.Whole z) = signed_decimal z
text_step Tree-F.Version = codes "1.1"
text_step (Tree-F.Text text) = string_text text
text_step (Tree-F.List items) =
    codes "[" ++ join_by (λ i. i.value) (codes ",") items ++ codes "]"
text_step (Tree-F.Object members) =
    codes "{" ++ join_by member_text (codes ",") (in_name_order (λ m. m.key) members) ++ codes "}"

-- The canonical JSON text of a tree. RFC 8785, 3.2
abbrev pub canonical_json : Tree → List ℕ
canonical_json = fold-Tree (List ℕ) text_step

-- What the writer prints for a tree's tokens is the tree's canonical text.
use Rattle.std.proofs.Common.{◌≡◌, ℕ, Bool, true, false, cond, ◌==◌, List, [], ◌∷◌, ◌++◌, flat_map, codes, refl, sym, ap, ap₂, ◌∙◌, subst, append_assoc, append-nil}
use Rattle.std.specs.Fmt.{signed_decimal}
use Rattle.std.specs.List.{AllByRecursion, join_by}
use Rattle.std.proofs.lemmas.Bool.{eqb-true}
use Rattle.json.specs.Print.{escape_byte, quoted, print_from, print}
use Rattle.json.specs.Token.{Token}
use Rattle.json_tree.specs.declared.tree.Tree.{Tree}
use Rattle.json_tree.specs.declared.tree.Tree.TheOpen.{Tree-F}
use Rattle.json_tree.specs.declared.tree.Item.{Item}
use Rattle.json_tree.specs.declared.tree.Member.{Member}
use Rattle.json_tree.proofs.Induction.{Each, by_cases}
use Rattle.jcs_text.specs.Canonical.{in_name_order, escape, string_text, text_step, canonical_json}
use Rattle.jcs_text.specs.Internal.Writing.{tokens_of, item_tokens, member_tokens}
use Rattle.jcs_text.proofs.Equations.{text_of_item, text_of_member, canonical_json-Null, canonical_json-Bool, canonical_json-Whole, canonical_json-Version, canonical_json-Text, canonical_json-List, canonical_json-Object, tokens_of-Null, tokens_of-Bool, tokens_of-Whole, tokens_of-Version, tokens_of-Text, tokens_of-List, tokens_of-Object}
use Rattle.jcs_text.proofs.NameOrders.{order-all}

-- ---- texts

abbrev AlikeAt : ℕ → Type 0
AlikeAt c = escape_byte c ≡ escape c

at_value : (c k : ℕ) → (c == k) ≡ true → AlikeAt k → AlikeAt c
at_value c k e alike = subst AlikeAt (sym (eqb-true c k e)) alike

at_8 : AlikeAt 8
unfolding escape_byte
at_8 = refl

at_9 : AlikeAt 9
unfolding escape_byte
at_9 = refl

at_10 : AlikeAt 10
unfolding escape_byte
at_10 = refl

at_12 : AlikeAt 12
unfolding escape_byte
at_12 = refl

at_13 : AlikeAt 13
unfolding escape_byte
at_13 = refl

at_34 : AlikeAt 34
unfolding escape_byte
at_34 = refl

at_92 : AlikeAt 92
unfolding escape_byte
at_92 = refl

elsewhere : (c : ℕ) → (c == 8) ≡ false → (c == 9) ≡ false → (c == 10) ≡ false → (c == 12) ≡ false → (c == 13) ≡ false → (c == 34) ≡ false → (c == 92) ≡ false → AlikeAt c
unfolding escape_byte
elsewhere c a b d e f g h = rw (a, b, d, e, f, g, h) refl

by_values : (c : ℕ) (a b d e f g h : Bool) → (c == 8) ≡ a → (c == 9) ≡ b → (c == 10) ≡ d → (c == 12) ≡ e → (c == 13) ≡ f → (c == 34) ≡ g → (c == 92) ≡ h → AlikeAt c
by_values c true b d e f g h p q r s t u w = at_value c 8 p at_8
by_values c false true d e f g h p q r s t u w = at_value c 9 q at_9
by_values c false false true e f g h p q r s t u w = at_value c 10 r at_10
by_values c false false false true f g h p q r s t u w = at_value c 12 s at_12
by_values c false false false false true g h p q r s t u w = at_value c 13 t at_13
by_values c false false false false false true h p q r s t u w = at_value c 34 u at_34
by_values c false false false false false false true p q r s t u w = at_value c 92 w at_92
by_values c false false false false false false false p q r s t u w = elsewhere c p q r s t u w

-- a byte is written as its escape
pub escape-byte : (c : ℕ) → escape_byte c ≡ escape c
escape-byte c = by_values c (c == 8) (c == 9) (c == 10) (c == 12) (c == 13) (c == 34) (c == 92) refl refl refl refl refl refl refl

escapes : (text : List ℕ) → flat_map escape_byte text ≡ flat_map escape text
escapes [] = refl
escapes (c ∷ cs) = ap₂ (λ xs ys. xs ++ ys) (escape-byte c) (escapes cs)

-- a text is written in quotes, with its escapes
pub quoted-string : (text : List ℕ) → quoted text ≡ string_text text
quoted-string text = ap (λ body. 34 ∷ (body ++ 34 ∷ [])) (escapes text)

-- ---- what tokens print

-- a comma, where a value stands before
abbrev pub comma : Bool → List ℕ
comma later = cond later (44 ∷ []) []

-- these tokens are printed as this text, whatever stands before and after them
abbrev pub Prints : List Token → List ℕ → Type 0
Prints tokens text = (later : Bool) (rest : List Token) → print_from later (tokens ++ rest) ≡ comma later ++ (text ++ print_from true rest)

moved : (ts us : List Token) (x y : List ℕ) → ts ≡ us → x ≡ y → Prints us y → Prints ts x
moved ts us x y e f p = subst (λ ws. Prints ws x) (sym e) (subst (λ text. Prints us text) (sym f) p)

prints_null : Prints (Token.null ∷ []) (codes "null")
unfolding print_from
prints_null true rest = refl
prints_null false rest = refl

prints_boolean : (b : Bool) → Prints (Token.boolean b ∷ []) (text_step (Tree-F.Bool b))
unfolding print_from
prints_boolean true true rest = refl
prints_boolean true false rest = refl
prints_boolean false true rest = refl
prints_boolean false false rest = refl

prints_number : (s : List ℕ) → Prints (Token.number s ∷ []) s
unfolding print_from
prints_number s true rest = refl
prints_number s false rest = refl

prints_string : (s : List ℕ) → Prints (Token.string s ∷ []) (string_text s)
unfolding print_from
prints_string s true rest = ap (λ text. 44 ∷ (text ++ print_from true rest)) (quoted-string s)
prints_string s false rest = ap (λ text. text ++ print_from true rest) (quoted-string s)

-- ---- elements and members, and what closes them

regrouped : {A : Type 0} (a b c r : List A) → ((a ++ b) ++ c) ++ r ≡ a ++ ((b ++ c) ++ r)
regrouped a b c r = ap (λ ts. ts ++ r) (append_assoc a b c) ∙ append_assoc a (b ++ c) r

module _ {X : Type 0} (f : X → List Token) (text : X → List ℕ) (close : Token) (end : List ℕ) (closes : (later : Bool) (rest : List Token) → print_from later (close ∷ rest) ≡ end ++ print_from true rest) where
  prints_later : (xs : List X) → AllByRecursion (λ x. Prints (f x) (text x)) xs → (rest : List Token) → print_from true ((flat_map f xs ++ close ∷ []) ++ rest) ≡ flat_map (λ x. codes "," ++ text x) xs ++ (end ++ print_from true rest)
  prints_later [] all rest = closes true rest
  prints_later (x ∷ xs) all rest =
      ap (print_from true) (regrouped (f x) (flat_map f xs) (close ∷ []) rest)
      ∙ all.0 true ((flat_map f xs ++ close ∷ []) ++ rest)
      ∙ ap (λ t. 44 ∷ (text x ++ t)) (prints_later xs all.1 rest)
      ∙ ap (λ t. 44 ∷ t) (sym (append_assoc (text x) (flat_map (λ y. codes "," ++ text y) xs) (end ++ print_from true rest)))

  prints_all : (xs : List X) → AllByRecursion (λ x. Prints (f x) (text x)) xs → (rest : List Token) → print_from false ((flat_map f xs ++ close ∷ []) ++ rest) ≡ join_by text (codes ",") xs ++ (end ++ print_from true rest)
  prints_all [] all rest = closes false rest
  prints_all (x ∷ xs) all rest =
      ap (print_from false) (regrouped (f x) (flat_map f xs) (close ∷ []) rest)
      ∙ all.0 false ((flat_map f xs ++ close ∷ []) ++ rest)
      ∙ ap (λ t. text x ++ t) (prints_later xs all.1 rest)
      ∙ sym (append_assoc (text x) (flat_map (λ y. codes "," ++ text y) xs) (end ++ print_from true rest))

closes_list : (later : Bool) (rest : List Token) → print_from later (Token.end_array ∷ rest) ≡ codes "]" ++ print_from true rest
unfolding print_from
closes_list true rest = refl
closes_list false rest = refl

closes_object : (later : Bool) (rest : List Token) → print_from later (Token.end_object ∷ rest) ≡ codes "}" ++ print_from true rest
unfolding print_from
closes_object true rest = refl
closes_object false rest = refl

prints_list : (items : List (Item Tree)) → AllByRecursion (λ i. Prints (item_tokens i) (text_of_item i)) items → Prints (Token.begin_array ∷ (flat_map item_tokens items ++ Token.end_array ∷ [])) (codes "[" ++ join_by text_of_item (codes ",") items ++ codes "]")
unfolding print_from
prints_list items all true rest = ap (λ t. 44 ∷ 91 ∷ t) (prints_all item_tokens text_of_item Token.end_array (codes "]") closes_list items all rest ∙ sym (append_assoc (join_by text_of_item (codes ",") items) (codes "]") (print_from true rest)))
prints_list items all false rest = ap (λ t. 91 ∷ t) (prints_all item_tokens text_of_item Token.end_array (codes "]") closes_list items all rest ∙ sym (append_assoc (join_by text_of_item (codes ",") items) (codes "]") (print_from true rest)))

prints_object : (members : List (Member Tree)) → AllByRecursion (λ m. Prints (member_tokens m) (text_of_member m)) members → Prints (Token.begin_object ∷ (flat_map member_tokens members ++ Token.end_object ∷ [])) (codes "{" ++ join_by text_of_member (codes ",") members ++ codes "}")
unfolding print_from
prints_object members all true rest = ap (λ t. 44 ∷ 123 ∷ t) (prints_all member_tokens text_of_member Token.end_object (codes "}") closes_object members all rest ∙ sym (append_assoc (join_by text_of_member (codes ",") members) (codes "}") (print_from true rest)))
prints_object members all false rest = ap (λ t. 123 ∷ t) (prints_all member_tokens text_of_member Token.end_object (codes "}") closes_object members all rest ∙ sym (append_assoc (join_by text_of_member (codes ",") members) (codes "}") (print_from true rest)))

named_value : (m : Member Tree) → Prints (tokens_of m.value) (canonical_json m.value) → (rest : List Token) → (quoted m.key ++ 58 ∷ []) ++ print_from false (tokens_of m.value ++ rest) ≡ text_of_member m ++ print_from true rest
named_value m p rest =
    ap (λ t. (quoted m.key ++ 58 ∷ []) ++ t) (p false rest)
    ∙ ap (λ q. (q ++ 58 ∷ []) ++ (canonical_json m.value ++ print_from true rest)) (quoted-string m.key)
    ∙ sym (append_assoc (string_text m.key ++ 58 ∷ []) (canonical_json m.value) (print_from true rest))

prints_member : (m : Member Tree) → Prints (tokens_of m.value) (canonical_json m.value) → Prints (member_tokens m) (text_of_member m)
unfolding print_from
prints_member m p true rest = ap (λ t. 44 ∷ t) (named_value m p rest)
prints_member m p false rest = named_value m p rest

-- ---- the whole tree

abbrev PrintsTree : Tree → Type 0
PrintsTree t = Prints (tokens_of t) (canonical_json t)

each_item : (is : List (Item Tree)) → Each (λ (i : Item Tree). PrintsTree i.value) is → AllByRecursion (λ i. Prints (item_tokens i) (text_of_item i)) is
each_item [] e = tt
each_item (i ∷ is) e = (e.0, each_item is e.1)

each_member : (ms : List (Member Tree)) → Each (λ (m : Member Tree). PrintsTree m.value) ms → AllByRecursion (λ m. Prints (member_tokens m) (text_of_member m)) ms
each_member [] e = tt
each_member (m ∷ ms) e = (prints_member m e.0, each_member ms e.1)

in_order : (ms : List (Member Tree)) → Each (λ (m : Member Tree). PrintsTree m.value) ms → AllByRecursion (λ m. Prints (member_tokens m) (text_of_member m)) (in_name_order (λ (m : Member Tree). m.key) ms)
in_order ms e = order-all (λ (m : Member Tree). m.key) (λ (m : Member Tree). Prints (member_tokens m) (text_of_member m)) ms (each_member ms e)

-- a tree's tokens are printed as its text
pub prints-tree : (t : Tree) → Prints (tokens_of t) (canonical_json t)
prints-tree = by_cases PrintsTree record {
  null = moved _ _ _ _ tokens_of-Null canonical_json-Null prints_null;
  boolean = λ b. moved _ _ _ _ (tokens_of-Bool b) (canonical_json-Bool b) (prints_boolean b);
  whole = λ z. moved _ _ _ _ (tokens_of-Whole z) (canonical_json-Whole z) (prints_number (signed_decimal z));
  version = moved _ _ _ _ tokens_of-Version canonical_json-Version (prints_number (codes "1.1"));
  text = λ s. moved _ _ _ _ (tokens_of-Text s) (canonical_json-Text s) (prints_string s);
  items = λ is e. moved _ _ _ _ (tokens_of-List is) (canonical_json-List is) (prints_list is (each_item is e));
  members = λ ms e. moved _ _ _ _ (tokens_of-Object ms) (canonical_json-Object ms) (prints_object (in_name_order (λ (m : Member Tree). m.key) ms) (in_order ms e));
}

-- and nothing more
pub print-tokens_of : (t : Tree) → print (tokens_of t) ≡ canonical_json t
unfolding print_from
print-tokens_of t = ap print (sym (append-nil (tokens_of t))) ∙ prints-tree t false [] ∙ append-nil (canonical_json t)

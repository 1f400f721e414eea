-- Names and trees of worked rows: the examples of RFC 8785 over whole numbers.
use Rattle.std.specs.Prelude.{ℕ, List, [], ◌∷◌, ◌++◌, true, false, pos, negsuc, codes}
use Rattle.json_tree.specs.declared.tree.Tree.{Tree}
use Rattle.json_tree.specs.declared.tree.Tree.TheVariants as v
use Rattle.json_tree.specs.Trees.{element, new_member}

-- ---- characters, by their bytes

-- U+000D, carriage return
abbrev pub carriage_return : List ℕ
carriage_return = 13 ∷ []

-- U+0080, a control
abbrev pub high_control : List ℕ
high_control = 194 ∷ 128 ∷ []

-- U+00F6, a letter with diaeresis
abbrev pub o_diaeresis : List ℕ
o_diaeresis = 195 ∷ 182 ∷ []

-- U+20AC, the euro sign
abbrev pub euro_sign : List ℕ
euro_sign = 226 ∷ 130 ∷ 172 ∷ []

-- U+FB33, a Hebrew letter: one code unit, above those of every pair
abbrev pub dalet : List ℕ
dalet = 239 ∷ 172 ∷ 179 ∷ []

-- U+1F600, a face: a pair of code units
abbrev pub face : List ℕ
face = 240 ∷ 159 ∷ 152 ∷ 128 ∷ []

-- ---- RFC 8785, 3.2.3: names, as the document has them

abbrev pub rfc_names : List (List ℕ)
rfc_names =
    euro_sign ∷ carriage_return ∷ dalet ∷ codes "1" ∷ face ∷ high_control ∷ o_diaeresis ∷ []

-- four of its members, the two that the orders tell apart among them, none in its place
abbrev pub rfc_members : Tree
rfc_members = v.Object (
    new_member dalet (v.Text (codes "Hebrew Letter Dalet With Dagesh"))
    ∷ new_member (codes "1") (v.Text (codes "One"))
    ∷ new_member face (v.Text (codes "Emoji: Grinning Face"))
    ∷ new_member carriage_return (v.Text (codes "Carriage Return")) ∷ [])

-- ---- RFC 8785, 3.2.2: the text and the literals of its document

abbrev pub rfc_string : List ℕ
rfc_string = euro_sign ++ codes "$" ++ 15 ∷ 10 ∷ codes "A'B\"\\\\\"/"

abbrev pub rfc_literals : Tree
rfc_literals = v.List (element 0 v.Null ∷ element 1 (v.Bool true) ∷ element 2 (v.Bool false) ∷ [])

-- ---- objects in objects, lists with gaps, a name that comes twice

abbrev pub nested_members : Tree
nested_members = v.Object (
    new_member (codes "b")
    (v.Object (new_member (codes "d") (v.List []) ∷ new_member (codes "c") (v.Object []) ∷ []))
    ∷ new_member (codes "a") (v.Whole (negsuc 0)) ∷ [])

abbrev pub list_with_gaps : Tree
list_with_gaps = v.List (element 9 (v.Text []) ∷ element 4 (v.Whole (pos 10)) ∷ [])

abbrev pub repeated_name : Tree
repeated_name = v.Object (
    new_member (codes "b") (v.Bool true) ∷ new_member (codes "a") (v.Bool false)
    ∷ new_member (codes "b") v.Null ∷ [])

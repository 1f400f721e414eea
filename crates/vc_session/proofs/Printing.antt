-- Trees that are printed as they are, and those of the lines.
use Rattle.std.proofs.Common.{Result, IfOk, ◌≡◌, ◌<◌, ◌≤◌, ◌+◌, ℕ, true, false, nat_lt, pos, List, [], ◌∷◌, ◌++◌, length, get_or, take, add-one, refl, sym, ap, ◌∙◌, subst, codes, arith}
use Rattle.std.proofs.Math.Seq.{take-suc}
use Rattle.std.proofs.lemmas.List.{length-take-le, take_all}
use Rattle.std.proofs.lemmas.Grind.{get_or_default_zero}
use Rattle.std.proofs.lemmas.Bool.Decides.{nat_tests}
use Rattle.std.specs.List.{list_all, list_any}
use Rattle.key_device.specs.declared.keys.KeyName.{KeyName}
use Rattle.stmt_groups.specs.declared.types.Cause.{Cause}
use Rattle.json_tree.specs.declared.tree.Tree.{Tree}
use Rattle.json_tree.specs.declared.tree.Tree.TheVariants as v
use Rattle.json_tree.specs.declared.tree.Item.{Item}
use Rattle.json_tree.specs.declared.tree.Member.{Member}
use Rattle.json_tree.specs.Trees.{each_next, element, new_member, holds_version, is_in_range, is_lawful}
use Rattle.json_tree.proofs.Rising.{left_of, right_of}
use Rattle.json_tree.proofs.TreeLemmas.{is_lawful-List, is_lawful-Whole}
use Rattle.json_tree.proofs.Equations.{holds_version-List, holds_version-Whole, is_in_range-List}
use Rattle.vc_session.specs.Internal.Drafts.{IsPrintable}
use Rattle.vc_session.specs.ReplyTrees.{cause_fields, issued_tree, key_field, line_of, name_field, no_key_tree, number_field, refusal_tree, rejected_tree, verified_tree, whole_items}
use Rattle.std.proofs.lemmas.Bool.{and_from}

-- ---- lists of whole numbers

items_rise : (from : ℕ) (ns : List ℕ) → each_next (λ i j. nat_lt i.at j.at) (whole_items from ns) ≡ true
items_rise from [] = refl
items_rise from (n ∷ []) = refl
items_rise from (n ∷ (m ∷ ns)) = let next : nat_lt from (from + 1) ≡ true = grind (arith, nat_tests) in and_from (nat_lt from (from + 1)) _ next (items_rise (from + 1) (m ∷ ns))

items_lawful : (from : ℕ) (ns : List ℕ) → list_all (λ i. is_lawful i.value) (whole_items from ns) ≡ true
items_lawful from [] = refl
items_lawful from (n ∷ ns) = and_from (is_lawful (v.Whole (pos n))) _ (is_lawful-Whole (pos n)) (items_lawful (from + 1) ns)

items_whole : (from : ℕ) (ns : List ℕ) → list_any (λ i. holds_version i.value) (whole_items from ns) ≡ false
items_whole from [] = refl
items_whole from (n ∷ ns) = rw (holds_version-Whole (pos n)) (items_whole (from + 1) ns)

-- a list of whole numbers is printed as it is
pub list_printable : (items : List (Item Tree)) (ns : List ℕ) → items ≡ whole_items 0 ns → list_all (λ i. is_in_range i.value) items ≡ true → IsPrintable (v.List items)
list_printable items ns is small = record {
  lawful = ap (λ (l : List (Item Tree)). is_lawful (v.List l)) is ∙ is_lawful-List (whole_items 0 ns) ∙ and_from (each_next (λ i j. nat_lt i.at j.at) (whole_items 0 ns)) _ (items_rise 0 ns) (items_lawful 0 ns);
  in_range = is_in_range-List items ∙ small;
  whole = ap (λ (l : List (Item Tree)). holds_version (v.List l)) is ∙ holds_version-List (whole_items 0 ns) ∙ items_whole 0 ns;
}

-- ---- one number more

items_end : (from : ℕ) (ns : List ℕ) (n : ℕ) → whole_items from (ns ++ n ∷ []) ≡ whole_items from ns ++ element (from + length ns) (v.Whole (pos n)) ∷ []
items_end from [] n = let same : from ≡ from + 0 = omega arith in ap (λ (k : ℕ). element k (v.Whole (pos n)) ∷ []) same
items_end from (m ∷ ns) n =
    let same : from + 1 + length ns ≡ from + length (m ∷ ns) = omega arith in
    ap (λ (l : List (Item Tree)). element from (v.Whole (pos m)) ∷ l) (items_end (from + 1) ns n ∙ ap (λ (k : ℕ). whole_items (from + 1) ns ++ element k (v.Whole (pos n)) ∷ []) same)

items_more : (items : List (Item Tree)) (ns : List ℕ) (at n : ℕ) → items ≡ whole_items 0 (take at ns) → at < length ns → n ≡ get_or ns at n → items ++ element at (v.Whole (pos n)) ∷ [] ≡ whole_items 0 (take (at + 1) ns)
items_more items ns at n is within named =
    let longer : take (at + 1) ns ≡ take at ns ++ n ∷ [] = rw add-one (take-suc ns at n within ∙ ap (λ (x : ℕ). take at ns ++ x ∷ []) (sym named)) in
    let le : at ≤ length ns = omega (arith, within) in
    let known : length (take at ns) ≡ at = length-take-le at ns le in
    let long : 0 + length (take at ns) ≡ at = omega (arith, known) in
    ap (λ (l : List (Item Tree)). l ++ element at (v.Whole (pos n)) ∷ []) is
    ∙ ap (λ (k : ℕ). whole_items 0 (take at ns) ++ element k (v.Whole (pos n)) ∷ []) (sym long)
    ∙ sym (items_end 0 (take at ns) n) ∙ ap (whole_items 0) (sym longer)

items_small : (items : List (Item Tree)) (i : Item Tree) → list_all (λ x. is_in_range x.value) items ≡ true → IsPrintable i.value → list_all (λ x. is_in_range x.value) (items ++ i ∷ []) ≡ true
items_small [] i h p = and_from (is_in_range i.value) _ p.in_range refl
items_small (x ∷ xs) i h p = and_from (is_in_range x.value) _ (left_of (is_in_range x.value) _ h) (items_small xs i (right_of (is_in_range x.value) _ h) p)

-- one element more of a list of whole numbers
pub items_grow : (items after : List (Item Tree)) (i : Item Tree) (ns : List ℕ) (at n : ℕ) → after ≡ items ++ i ∷ [] → i ≡ element at (v.Whole (pos n)) → IsPrintable i.value → n ≡ get_or ns at 0 → at < length ns → items ≡ whole_items 0 (take at ns) → list_all (λ x. is_in_range x.value) items ≡ true → (after ≡ whole_items 0 (take (at + 1) ns)) × (list_all (λ x. is_in_range x.value) after ≡ true)
items_grow items after i ns at n more one p named within is small =
    let found : n ≡ get_or ns at n = named ∙ sym (get_or_default_zero ns at n within) in (
      more ∙ ap (λ (x : Item Tree). items ++ x ∷ []) one ∙ items_more items ns at n is within found,
      ap (λ (l : List (Item Tree)). list_all (λ x. is_in_range x.value) l) more ∙ items_small items i small p,
    )

-- a list of whole numbers with all elements
pub items_done : (items : List (Item Tree)) (ns : List ℕ) (at : ℕ) → items ≡ whole_items 0 (take at ns) → length ns ≤ at → items ≡ whole_items 0 ns
items_done items ns at is over = is ∙ ap (whole_items 0) (take_all at ns over)

-- ---- the trees of the lines

-- the line of a tree is the line of an equal one
pub line_as : {E : Type 0} (r : Result (List ℕ) E) (t u : Tree) → IfOk r (λ line. line ≡ line_of t) → t ≡ u → IfOk r (λ line. line ≡ line_of u)
line_as r t u h same = subst (λ (x : Tree). IfOk r (λ line. line ≡ line_of x)) same h

two_fields : (a b x y : Member Tree) → a ≡ x → b ≡ y → a ∷ b ∷ [] ≡ x ∷ y ∷ []
two_fields a b x y p q = ap (λ (m : Member Tree). m ∷ b ∷ []) p ∙ ap (λ (m : Member Tree). x ∷ m ∷ []) q

one_more : (a x : Member Tree) (ys xs : List (Member Tree)) → a ≡ x → ys ≡ xs → a ∷ ys ≡ x ∷ xs
one_more a x ys xs p q = ap (λ (m : Member Tree). m ∷ ys) p ∙ ap (λ (l : List (Member Tree)). x ∷ l) q

-- the refusal of a key is made of its members
pub no_key_is : (t : Tree) (fields : List (Member Tree)) (a b : Member Tree) (key : KeyName) → t ≡ refusal_tree fields → fields ≡ a ∷ b ∷ [] → a ≡ key_field (codes "key") key → b ≡ name_field (codes "NoKey") → t ≡ no_key_tree key
no_key_is t fields a b key is both p q = is ∙ ap refusal_tree (both ∙ two_fields a b _ _ p q)

-- a no is made of its members
pub rejected_is : (members fields : List (Member Tree)) (a b : Member Tree) (c : Cause) → members ≡ a ∷ b ∷ [] → a ≡ new_member (codes "cause") (v.Object fields) → b ≡ new_member (codes "verified") (v.Bool false) → fields ≡ cause_fields c → v.Object members ≡ rejected_tree c
rejected_is members fields a b c both p q is =
    ap v.Object (both ∙ two_fields a b _ _ (p ∙ ap (λ (l : List (Member Tree)). new_member (codes "cause") (v.Object l)) is) q)

-- the answer to issuing is made of its members
pub issued_is : (members : List (Member Tree)) (a b c d : Member Tree) (document : Tree) (mandatory statements : ℕ) → members ≡ a ∷ b ∷ c ∷ d ∷ [] → a ≡ new_member (codes "document") document → b ≡ number_field (codes "mandatory") mandatory → c ≡ number_field (codes "statements") statements → d ≡ new_member (codes "tie") (v.Bool false) → v.Object members ≡ issued_tree document mandatory statements
issued_is members a b c d document mandatory statements all p q r s =
    ap v.Object (all ∙ one_more a _ _ _ p (one_more b _ _ _ q (two_fields c d _ _ r s)))

-- a yes is made of its members
pub verified_is : (members : List (Member Tree)) (a b c d e f g : Member Tree) (issuer key : KeyName) (labels : List (Member Tree)) (items : List (Item Tree)) (seen indexes : List ℕ) (statements : ℕ) → members ≡ a ∷ b ∷ c ∷ d ∷ e ∷ f ∷ g ∷ [] → a ≡ key_field (codes "key") issuer → labels ≡ [] → b ≡ new_member (codes "labels") (v.Object labels) → seen ≡ indexes → items ≡ whole_items 0 seen → c ≡ new_member (codes "mandatory") (v.List items) → d ≡ key_field (codes "statementKey") key → e ≡ number_field (codes "statements") statements → f ≡ new_member (codes "tie") (v.Bool false) → g ≡ new_member (codes "verified") (v.Bool true) → v.Object members ≡ verified_tree issuer indexes key statements
verified_is members a b c d e f g issuer key labels items seen indexes statements all p none q same is r s t u w =
    let empty : b ≡ new_member (codes "labels") (v.Object []) = q ∙ ap (λ (l : List (Member Tree)). new_member (codes "labels") (v.Object l)) none in
    let numbers : items ≡ whole_items 0 indexes = is ∙ ap (whole_items 0) same in
    let listed : c ≡ new_member (codes "mandatory") (v.List (whole_items 0 indexes)) = r ∙ ap (λ (l : List (Item Tree)). new_member (codes "mandatory") (v.List l)) numbers in
    ap v.Object (all ∙ one_more a _ _ _ p (one_more b _ _ _ empty (one_more c _ _ _ listed (one_more d _ _ _ s (one_more e _ _ _ t (two_fields f g _ _ u w))))))

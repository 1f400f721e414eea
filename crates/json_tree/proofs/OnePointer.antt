-- Of the places that lead somewhere in a tree, a JSON Pointer names one: a token holds no `/`, and is
-- read back.
use Rattle.std.proofs.Common.{◌≡◌, ◌≢◌, ◌<◌, ◌+◌, ◌%◌, ◌^◌, ℕ, Bool, true, false, ◌==◌, nat_lt, List, [], ◌∷◌, ◌++◌, Some, if◌then◌else◌, refl, sym, ap, ◌∙◌, arith}
use Rattle.std.specs.Fmt.{decimal}
use Rattle.std.specs.List.{flat_map}
use Rattle.std.proofs.lemmas.Bool.{and_parts}
use Rattle.std.proofs.lemmas.Bool.Decides.{nat_tests}
use Rattle.std.proofs.lemmas.Fmt.{decimal_by_steps, decimal_injective}
use Rattle.std.proofs.lemmas.Option.{same_Some, option_and_then_some}
use Rattle.json_tree.specs.declared.tree.Tree.{Tree, out-Tree}
use Rattle.json_tree.specs.declared.tree.Tree.TheOpen.{Tree-F}
use Rattle.json_tree.specs.declared.place.Step.{Step}
use Rattle.json_tree.specs.declared.place.Step.TheVariants.{Key, At}
use Rattle.json_tree.specs.Places.{child_in, child_of, look, escaped, token_of, pointer_of, is_word_step, has_word_indexes}
use Rattle.json_tree.proofs.Induction.{Each}

-- ---- texts up to a `/`

-- a text holds no `/`
abbrev HasNoSlash : List ℕ → Type 0
HasNoSlash cs = Each (λ (c : ℕ). c ≢ 47) cs

-- a text is empty, or begins with `/`
abbrev IsNextOrEnd : List ℕ → Type 0
IsNextOrEnd [] = Unit {0}
IsNextOrEnd (c ∷ cs) = c ≡ 47

first_byte : (c d : ℕ) (cs ds : List ℕ) → c ∷ cs ≡ d ∷ ds → (c ≡ d) × (cs ≡ ds)
first_byte c d cs ds e = (cc, cc)

-- a text splits once at its first `/`
split_once : (a b c d : List ℕ) → HasNoSlash a → HasNoSlash b → IsNextOrEnd c → IsNextOrEnd d → a ++ c ≡ b ++ d → (a ≡ b) × (c ≡ d)
split_once [] [] c d p q m n e = (refl, e)
split_once [] (y ∷ b) [] d p q m n e = absurd (cc)
split_once [] (y ∷ b) (x ∷ c) d p q m n e = absurd (q.0 (sym (first_byte x y c (b ++ d) e).0 ∙ m))
split_once (x ∷ a) [] c [] p q m n e = absurd (cc)
split_once (x ∷ a) [] c (y ∷ d) p q m n e = absurd (p.0 ((first_byte x y (a ++ c) d e).0 ∙ n))
split_once (x ∷ a) (y ∷ b) c d p q m n e =
    let parts = first_byte x y (a ++ c) (b ++ d) e in
    let rest = split_once a b c d p.1 q.1 m n parts.1 in
    (ap (λ z. z ∷ a) parts.0 ∙ ap (λ zs. y ∷ zs) rest.0, rest.1)

no_slash-append : (a b : List ℕ) → HasNoSlash a → HasNoSlash b → HasNoSlash (a ++ b)
no_slash-append [] b p q = q
no_slash-append (x ∷ a) b p q = (p.0, no_slash-append a b p.1 q)

-- ---- tokens

-- how a byte of a name is written: `~`, `/`, or another
escaped_cases : (P : List ℕ → Type 0) (c : ℕ) → (c ≡ 126 → P (126 ∷ 48 ∷ [])) → (c ≡ 47 → P (126 ∷ 49 ∷ [])) → (c ≢ 126 → c ≢ 47 → P (c ∷ [])) → P (escaped c)
escaped_cases P c tilde slash other = go (c == 126) (c == 47) refl refl
  where
    go : (a b : Bool) → (c == 126) ≡ a → (c == 47) ≡ b → P (if a then 126 ∷ 48 ∷ [] else (if b then 126 ∷ 49 ∷ [] else c ∷ []))
    go true b e f = tilde (grind (arith, nat_tests))
    go false true e f = slash (grind (arith, nat_tests))
    go false false e f = other (λ is. absurd (grind (arith, nat_tests))) (λ is. absurd (grind (arith, nat_tests)))

escaped-no_slash : (c : ℕ) → HasNoSlash (escaped c)
escaped-no_slash c = escaped_cases HasNoSlash c (λ is. ((λ e. omega arith), ((λ e. omega arith), tt))) (λ is. ((λ e. omega arith), ((λ e. omega arith), tt))) (λ a b. (b, tt))

name-no_slash : (key : List ℕ) → HasNoSlash (flat_map escaped key)
name-no_slash [] = tt
name-no_slash (c ∷ cs) = no_slash-append (escaped c) (flat_map escaped cs) (escaped-no_slash c) (name-no_slash cs)

decimal-no_slash : (n : ℕ) → n < 2 ^ 64 → HasNoSlash (decimal n)
decimal-no_slash = decimal_by_steps (λ n ds. HasNoSlash ds) (λ n small. ((λ e. omega arith), tt)) (λ n ds great before. no_slash-append ds ((48 + n % 10) ∷ []) before ((λ e. omega arith), tt))

-- what the test of words says is below one is a word
pub below_word : (n : ℕ) → nat_lt n (2 ^ 64) ≡ true → n < 2 ^ 64
below_word n h = grind (arith, nat_tests)

-- a token holds no `/`
token-no_slash : (s : Step) → is_word_step s ≡ true → HasNoSlash (token_of s)
token-no_slash (Key key) h = name-no_slash key
token-no_slash (At at) h = decimal-no_slash at (below_word at h)

-- what follows a token is a `/` or the end
pointer-next : (place : List Step) → IsNextOrEnd (pointer_of place)
pointer-next [] = tt
pointer-next (s ∷ ss) = refl

-- ---- names read back

-- the reader of a name's escapes
abbrev unescape : List ℕ → List ℕ
unescape [] = []
unescape (c ∷ []) = c ∷ []
unescape (c ∷ d ∷ rest) = if c == 126 then (if d == 48 then 126 else 47) ∷ unescape rest else c ∷ unescape (d ∷ rest)

unescape-other : (c : ℕ) (rest : List ℕ) → c ≢ 126 → unescape (c ∷ rest) ≡ c ∷ unescape rest
unescape-other c [] a = refl
unescape-other c (d ∷ rest) a =
    let is_other : (c == 126) ≡ false = grind (arith, nat_tests) in
    ap (λ (b : Bool). if b then (if d == 48 then 126 else 47) ∷ unescape rest else c ∷ unescape (d ∷ rest)) is_other

unescape-escaped : (c : ℕ) (rest : List ℕ) → unescape (escaped c ++ rest) ≡ c ∷ unescape rest
unescape-escaped c rest = escaped_cases (λ w. unescape (w ++ rest) ≡ c ∷ unescape rest) c (λ is. ap (λ (z : ℕ). z ∷ unescape rest) (sym is)) (λ is. ap (λ (z : ℕ). z ∷ unescape rest) (sym is)) (λ a b. unescape-other c rest a)

-- a name is read back from its escapes
unescape-name : (key : List ℕ) → unescape (flat_map escaped key) ≡ key
unescape-name [] = refl
unescape-name (c ∷ cs) = unescape-escaped c (flat_map escaped cs) ∙ ap (λ zs. c ∷ zs) (unescape-name cs)

-- ---- one step

abbrev is_key : Step → Bool
is_key (Key key) = true
is_key (At at) = false

-- steps that both lead somewhere from one tree are of one kind
one_kind : (y : Tree-F Tree) (s r : Step) (u w : Tree) → child_in y s ≡ Some u → child_in y r ≡ Some w → is_key s ≡ is_key r
one_kind Tree-F.Null s r u w h k = absurd (cc)
one_kind (Tree-F.Bool b) s r u w h k = absurd (cc)
one_kind (Tree-F.Whole z) s r u w h k = absurd (cc)
one_kind Tree-F.Version s r u w h k = absurd (cc)
one_kind (Tree-F.Text text) s r u w h k = absurd (cc)
one_kind (Tree-F.List items) (Key key) r u w h k = absurd (cc)
one_kind (Tree-F.List items) (At at) (Key key) u w h k = absurd (cc)
one_kind (Tree-F.List items) (At at) (At other) u w h k = refl
one_kind (Tree-F.Object members) (At at) r u w h k = absurd (cc)
one_kind (Tree-F.Object members) (Key key) (At at) u w h k = absurd (cc)
one_kind (Tree-F.Object members) (Key key) (Key name) u w h k = refl

-- steps of one kind with one token are one
one_token : (s r : Step) → is_key s ≡ is_key r → is_word_step s ≡ true → is_word_step r ≡ true → token_of s ≡ token_of r → s ≡ r
one_token (Key key) (Key name) kind h k e = ap Key (sym (unescape-name key) ∙ ap unescape e ∙ unescape-name name)
one_token (Key key) (At at) kind h k e = absurd (cc)
one_token (At at) (Key key) kind h k e = absurd (cc)
one_token (At at) (At other) kind h k e = ap At (decimal_injective at other (below_word at h) (below_word other k) e)

-- places that lead somewhere in a tree and have one pointer are one
pub one_place : (t : Tree) (p q : List Step) (a b : Tree) → look p t ≡ Some a → look q t ≡ Some b → has_word_indexes p ≡ true → has_word_indexes q ≡ true → pointer_of p ≡ pointer_of q → p ≡ q
one_place t [] [] a b h k m n e = refl
one_place t [] (r ∷ rs) a b h k m n e = absurd (cc)
one_place t (s ∷ ss) [] a b h k m n e = absurd (cc)
one_place t (s ∷ ss) (r ∷ rs) a b h k m n e =
    let first = and_parts (is_word_step s) (has_word_indexes ss) m in
    let second = and_parts (is_word_step r) (has_word_indexes rs) n in
    let whole = first_byte 47 47 (token_of s ++ pointer_of ss) (token_of r ++ pointer_of rs) e in
    let parts = split_once (token_of s) (token_of r) (pointer_of ss) (pointer_of rs) (token-no_slash s first.0) (token-no_slash r second.0) (pointer-next ss) (pointer-next rs) whole.1 in
    option_and_then_some (look ss) (child_of t s) a h (λ u there further. option_and_then_some (look rs) (child_of t r) b k (λ w place onward.
    let same : s ≡ r = one_token s r (one_kind (out-Tree t) s r u w there place) first.0 second.0 parts.0 in
    let one : u ≡ w = same_Some u w (sym there ∙ ap (child_of t) same ∙ place) in
    let rest : ss ≡ rs = one_place u ss rs a b further (ap (look rs) one ∙ onward) first.1 second.1 parts.1 in
    ap (λ x. x ∷ ss) same ∙ ap (λ xs. r ∷ xs) rest))

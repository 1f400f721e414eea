-- One turn of each loop of writing, what stands at its end, and what a step of writing leaves.
use Rattle.std.proofs.Common.{◌≡◌, ℕ, ℤ, ◌+◌, ◌<◌, ◌≤◌, Bool, true, false, ◌||◌, List, [], ◌∷◌, ◌++◌, map, flat_map, length, get_or, drop, Option, Some, None, option_map, slice_get, Err, sym, ap, ◌∙◌, append_assoc, append-nil, drop_of_length-le, arith}
use Rattle.std.specs.Fmt.{signed_decimal}
use Rattle.std.specs.List.{list_any}
use Rattle.std.proofs.lemmas.List.{length-map}
use Rattle.std.proofs.lemmas.List.Sorted.{list_any-IsPermutation}
use Rattle.std.proofs.lemmas.Option.{slice_get-map, slice_get-get_or, slice_get_within, get_or_from_slice_get}
use Rattle.json.specs.Print.{print}
use Rattle.json.specs.Token.{Token}
use Rattle.json.specs.Written.{Written}
use Rattle.base_types.proofs.Lists.{drop-next}
use Rattle.json_tree.specs.declared.tree.Tree.{Tree}
use Rattle.json_tree.specs.declared.tree.Tree.TheVariants as v
use Rattle.json_tree.specs.declared.tree.Item.{Item}
use Rattle.json_tree.specs.declared.tree.Member.{Member}
use Rattle.json_tree.specs.Trees.{holds_version}
use Rattle.json_tree.proofs.Equations.{holds_version-Null, holds_version-Bool, holds_version-Whole, holds_version-Version, holds_version-Text, holds_version-List, holds_version-Object}
use Rattle.jcs_text.specs.declared.fault.JcsFault.{JcsFault}
use Rattle.jcs_text.specs.declared.fault.JcsFault.TheVariants.{Version, Memory}
use Rattle.jcs_text.specs.Canonical.{in_name_order, canonical_json}
use Rattle.jcs_text.specs.Internal.Writing.{tokens_of, item_tokens, member_tokens, HasWritten, WritesOrRefuses}
use Rattle.jcs_text.proofs.Equations.{tokens_of-Null, tokens_of-Bool, tokens_of-Whole, tokens_of-Version, tokens_of-Text, tokens_of-List, tokens_of-Object}
use Rattle.jcs_text.proofs.NameOrders.{order-permutation}
use Rattle.jcs_text.proofs.Printed.{print-tokens_of}

-- ---- values alone

-- a value of one token
pub token_written : (t u : Tree) (old new : Written) (token : Token) → t ≡ u → tokens_of u ≡ token ∷ [] → holds_version u ≡ false → new.tokens ≡ old.tokens ++ token ∷ [] → new.before ≡ old.before → (holds_version t ≡ false) × HasWritten old new (tokens_of t)
token_written t u old new token is one none written before = (
  ap holds_version is ∙ none,
  record { written = written ∙ ap (λ ts. old.tokens ++ ts) (sym (ap tokens_of is ∙ one)); before = before },
)

-- a whole number
pub number_written : (t : Tree) (z : ℤ) (old new : Written) → t ≡ v.Whole z → HasWritten old new (Token.number (signed_decimal z) ∷ []) → (holds_version t ≡ false) × HasWritten old new (tokens_of t)
number_written t z old new is w = token_written t (v.Whole z) old new (Token.number (signed_decimal z)) is (tokens_of-Whole z) (holds_version-Whole z) w.written w.before

-- ---- one turn

-- what is written and what is left to write, one element on
pub tokens_next : {X : Type 0} (f : X → List Token) (xs : List X) (k : ℕ) (x : X) (old new whole : List Token) → old ++ flat_map f (drop k xs) ≡ whole → k < length xs → x ≡ get_or xs k x → new ≡ old ++ f x → new ++ flat_map f (drop (k + 1) xs) ≡ whole
tokens_next f xs k x old new whole so within here more =
    let rest = flat_map f (drop (k + 1) xs) in
    ap (λ ts. ts ++ rest) more ∙ append_assoc old (f x) rest ∙ ap (λ ys. old ++ flat_map f ys) (sym (drop-next xs k x within here)) ∙ so

-- an element that passes no test leaves it to the rest
pub any_next : {X : Type 0} (test : X → Bool) (xs : List X) (k : ℕ) (x : X) (whole : Bool) → whole ≡ list_any test (drop k xs) → k < length xs → x ≡ get_or xs k x → test x ≡ false → whole ≡ list_any test (drop (k + 1) xs)
any_next test xs k x whole so within here none = so ∙ ap (list_any test) (drop-next xs k x within here) ∙ ap (λ t. t || list_any test (drop (k + 1) xs)) none

-- one that passes decides
pub any_here : {X : Type 0} (test : X → Bool) (xs : List X) (k : ℕ) (x : X) (whole : Bool) → whole ≡ list_any test (drop k xs) → k < length xs → x ≡ get_or xs k x → test x ≡ true → whole ≡ true
any_here test xs k x whole so within here passes = so ∙ ap (list_any test) (drop-next xs k x within here) ∙ ap (λ t. t || list_any test (drop (k + 1) xs)) passes

-- past the last there is none
pub any_end : {X : Type 0} (test : X → Bool) (xs : List X) (k : ℕ) (whole : Bool) → whole ≡ list_any test (drop k xs) → length xs ≤ k → whole ≡ false
any_end test xs k whole so at_end = so ∙ ap (list_any test) (drop_of_length-le xs at_end)

-- a turn at an element
pub item_turn : (items : List (Item Tree)) (k : ℕ) (i : Item Tree) (old new : Written) (whole : List Token) → old.tokens ++ flat_map item_tokens (drop k items) ≡ whole → k < length items → i ≡ get_or items k i → HasWritten old new (tokens_of i.value) → new.tokens ++ flat_map item_tokens (drop (k + 1) items) ≡ whole
item_turn items k i old new whole so within here w = tokens_next item_tokens items k i old.tokens new.tokens whole so within here w.written

-- a turn at a member: its name, and then its value
pub member_turn : (members : List (Member Tree)) (k : ℕ) (m : Member Tree) (old named new : Written) (whole : List Token) → old.tokens ++ flat_map member_tokens (drop k members) ≡ whole → k < length members → m ≡ get_or members k m → named.tokens ≡ old.tokens ++ Token.key m.key ∷ [] → HasWritten named new (tokens_of m.value) → new.tokens ++ flat_map member_tokens (drop (k + 1) members) ≡ whole
member_turn members k m old named new whole so within here first w =
    tokens_next member_tokens members k m old.tokens new.tokens whole so within here
    (w.written ∙ ap (λ ts. ts ++ tokens_of m.value) first ∙ append_assoc old.tokens (Token.key m.key ∷ []) (tokens_of m.value))

-- an element's refusal is the list's
pub item_fault : (items : List (Item Tree)) (k : ℕ) (i : Item Tree) (a b old new : Written) (us ts : List Token) (fault : JcsFault) → list_any (λ i. holds_version i.value) items ≡ list_any (λ i. holds_version i.value) (drop k items) → k < length items → i ≡ get_or items k i → WritesOrRefuses a b us (holds_version i.value) (Err fault) → WritesOrRefuses old new ts (list_any (λ i. holds_version i.value) items) (Err fault)
item_fault items k i a b old new us ts Version so within here bad = any_here (λ (i : Item Tree). holds_version i.value) items k i _ so within here bad
item_fault items k i a b old new us ts Memory so within here bad = tt

-- a member's refusal is the object's; `ordered` are the same members in another order
pub member_fault : (members ordered : List (Member Tree)) (k : ℕ) (m : Member Tree) (a b old new : Written) (us ts : List Token) (fault : JcsFault) → list_any (λ m. holds_version m.value) members ≡ list_any (λ m. holds_version m.value) (drop k ordered) → k < length ordered → m ≡ get_or ordered k m → WritesOrRefuses a b us (holds_version m.value) (Err fault) → WritesOrRefuses old new ts (list_any (λ m. holds_version m.value) members) (Err fault)
member_fault members ordered k m a b old new us ts Version so within here bad = any_here (λ (m : Member Tree). holds_version m.value) ordered k m _ so within here bad
member_fault members ordered k m a b old new us ts Memory so within here bad = tt

-- a version number among the members is one among them in the order of their names
pub any_ordered : (members : List (Member Tree)) → list_any (λ m. holds_version m.value) members ≡ list_any (λ m. holds_version m.value) (in_name_order (λ (m : Member Tree). m.key) members)
any_ordered members = list_any-IsPermutation (λ (m : Member Tree). holds_version m.value) members (in_name_order (λ (m : Member Tree). m.key) members) (order-permutation (λ (m : Member Tree). m.key) members)

-- ---- members by the indexes in the order of their names

inner : {X : Type 0} (o : Option X) (x : X) → option_map (λ y. Some y) o ≡ Some (Some x) → o ≡ Some x
inner None x e = absurd (cc)
inner (Some y) x e = cc

-- the member at the next index is the next in order
pub member_here : (members ordered : List (Member Tree)) (order : List ℕ) (k at : ℕ) (m : Member Tree) → map (slice_get members) order ≡ map Some ordered → k < length order → at ≡ get_or order k 0 → at < length members → m ≡ get_or members at m → (k < length ordered) × (m ≡ get_or ordered k m)
member_here members ordered order k at m same within is below here =
    let index : slice_get order k ≡ Some at = slice_get-get_or order k 0 within ∙ ap (λ n. Some n) (sym is) in
    let found : slice_get members at ≡ Some m = slice_get-get_or members at m below ∙ ap (λ n. Some n) (sym here) in
    let mapped : slice_get (map (slice_get members) order) k ≡ Some (Some m) = slice_get-map (slice_get members) order k ∙ ap (option_map (slice_get members)) index ∙ ap (λ o. Some o) found in
    let stands : slice_get ordered k ≡ Some m = inner (slice_get ordered k) m (sym (slice_get-map (λ n. Some n) ordered k) ∙ ap (λ os. slice_get os k) (sym same) ∙ mapped) in
    (slice_get_within ordered k m stands, sym (get_or_from_slice_get ordered k m m stands))

-- the member at an index, among members and in the order of their names
pub record IsNext (members ordered : List (Member Tree)) (order : List ℕ) (k at : ℕ) (m : Member Tree) : Type 0 where
  pub same : map (slice_get members) order ≡ map Some ordered
  pub within : k < length order
  pub index : at ≡ get_or order k 0
  pub below : at < length members
  pub here : m ≡ get_or members at m

next_in_order : (members ordered : List (Member Tree)) (order : List ℕ) (k at : ℕ) (m : Member Tree) → IsNext members ordered order k at m → (k < length ordered) × (m ≡ get_or ordered k m)
next_in_order members ordered order k at m n = member_here members ordered order k at m n.same n.within n.index n.below n.here

-- a turn at it
pub ordered_turn : (members ordered : List (Member Tree)) (order : List ℕ) (k at : ℕ) (m : Member Tree) (old named new : Written) (whole : List Token) → IsNext members ordered order k at m → old.tokens ++ flat_map member_tokens (drop k ordered) ≡ whole → named.tokens ≡ old.tokens ++ Token.key m.key ∷ [] → HasWritten named new (tokens_of m.value) → new.tokens ++ flat_map member_tokens (drop (k + 1) ordered) ≡ whole
ordered_turn members ordered order k at m old named new whole n so first w =
    let stands = next_in_order members ordered order k at m n in
    member_turn ordered k m old named new whole so stands.0 stands.1 first w

-- where it holds no version number the rest decides
pub ordered_next : (members ordered : List (Member Tree)) (order : List ℕ) (k at : ℕ) (m : Member Tree) → IsNext members ordered order k at m → list_any (λ m. holds_version m.value) members ≡ list_any (λ m. holds_version m.value) (drop k ordered) → holds_version m.value ≡ false → list_any (λ m. holds_version m.value) members ≡ list_any (λ m. holds_version m.value) (drop (k + 1) ordered)
ordered_next members ordered order k at m n so none =
    let stands = next_in_order members ordered order k at m n in
    any_next (λ (m : Member Tree). holds_version m.value) ordered k m _ so stands.0 stands.1 none

-- and its refusal is the object's
pub ordered_fault : (members ordered : List (Member Tree)) (order : List ℕ) (k at : ℕ) (m : Member Tree) (a b old new : Written) (us ts : List Token) (fault : JcsFault) → IsNext members ordered order k at m → list_any (λ m. holds_version m.value) members ≡ list_any (λ m. holds_version m.value) (drop k ordered) → WritesOrRefuses a b us (holds_version m.value) (Err fault) → WritesOrRefuses old new ts (list_any (λ m. holds_version m.value) members) (Err fault)
ordered_fault members ordered order k at m a b old new us ts fault n so bad =
    let stands = next_in_order members ordered order k at m n in
    member_fault members ordered k m a b old new us ts fault so stands.0 stands.1 bad

-- past the last index there is no member left
pub members_end : (members ordered : List (Member Tree)) (order : List ℕ) (k : ℕ) → map (slice_get members) order ≡ map Some ordered → length order ≤ k → length ordered ≤ k
members_end members ordered order k same at_end =
    let long : length order ≡ length ordered = sym (length-map order (slice_get members)) ∙ ap length same ∙ length-map ordered (λ n. Some n) in
    omega arith

-- ---- the whole of a list and of an object

-- what stands between two brackets
pub list_written : {X : Type 0} (f : X → List Token) (xs : List X) (k : ℕ) (opening closing : Token) (old opened done closed : Written) → opened.tokens ≡ old.tokens ++ opening ∷ [] → opened.before ≡ old.before → done.tokens ++ flat_map f (drop k xs) ≡ opened.tokens ++ flat_map f xs → done.before ≡ opened.before → length xs ≤ k → closed.tokens ≡ done.tokens ++ closing ∷ [] → closed.before ≡ done.before → HasWritten old closed (opening ∷ (flat_map f xs ++ closing ∷ []))
list_written f xs k opening closing old opened done closed opens same so kept at_end closes last =
    let none : flat_map f (drop k xs) ≡ [] = ap (flat_map f) (drop_of_length-le xs at_end) in
    let all : done.tokens ≡ opened.tokens ++ flat_map f xs = sym (ap (λ ts. done.tokens ++ ts) none ∙ append-nil done.tokens) ∙ so in
    record {
      written = closes ∙ ap (λ ts. ts ++ closing ∷ []) (all ∙ ap (λ ts. ts ++ flat_map f xs) opens)
          ∙ append_assoc (old.tokens ++ opening ∷ []) (flat_map f xs) (closing ∷ []) ∙ append_assoc old.tokens (opening ∷ []) (flat_map f xs ++ closing ∷ []);
      before = last ∙ kept ∙ same;
    }

pub ruleset write_steps = (
  token_written,
  number_written,
  item_turn,
  member_turn,
  any_next,
  item_fault,
  member_fault,
  any_ordered,
  ordered_turn,
  ordered_next,
  ordered_fault,
  members_end,
  tokens_of-Null,
  tokens_of-Bool,
  tokens_of-Whole,
  tokens_of-Text,
  tokens_of-List,
  tokens_of-Object,
  holds_version-Null,
  holds_version-Bool,
  holds_version-Whole,
  holds_version-Version,
  holds_version-Text,
  holds_version-List,
  holds_version-Object,
)

-- ---- the whole text

-- what was written into an empty writer is the tree's tokens
pub all_tokens : (t : Tree) (opened closed : Written) → opened.tokens ≡ [] → HasWritten opened closed (tokens_of t) → closed.tokens ≡ tokens_of t
all_tokens t opened closed none w = w.written ∙ ap (λ ts. ts ++ tokens_of t) none

-- and its text is the tree's
pub all_text : (t : Tree) (opened closed : Written) (text : List ℕ) → opened.tokens ≡ [] → HasWritten opened closed (tokens_of t) → text ≡ print closed.tokens → text ≡ canonical_json t
all_text t opened closed text none w is = is ∙ ap print (all_tokens t opened closed none w) ∙ print-tokens_of t

-- a refusal says that a version number stands there
pub version_told : (old new : Written) (ts : List Token) (holds : Bool) (fault : JcsFault) → WritesOrRefuses old new ts holds (Err fault) → fault ≡ Version → holds ≡ true
version_told old new ts holds Version h is = h
version_told old new ts holds Memory h is = absurd (cc)

-- Places in a tree, and what stands there: a tree seen as a finite map from its places.
-- RFC 6901, 4.
use Rattle.std.specs.Prelude.{ℕ, ◌^◌, nat_lt, List, [], ◌∷◌, ◌++◌, map, Bool, true, false, ◌==◌, Option, Some, None, option_map, option_and_then, find, if◌then◌else◌, codes, decimal, is_none}
use Rattle.std.specs.List.{flat_map, list_all}
use Rattle.std.specs.Str.{bytes_eq}
use Rattle.json_tree.specs.declared.tree.Tree.{Tree, out-Tree, fold-Tree}
use Rattle.json_tree.specs.declared.tree.Tree.TheOpen.{Tree-F}
use Rattle.json_tree.specs.declared.tree.Item.{Item}
use Rattle.json_tree.specs.declared.tree.Member.{Member}
use Rattle.json_tree.specs.declared.place.Step.{Step}
use Rattle.json_tree.specs.declared.place.Step.TheVariants.{Key, At}

-- the value of the member of that name
abbrev pub value_of : List ℕ → List (Member Tree) → Option Tree
value_of key members = option_map (λ m. m.value) (find (λ m. bytes_eq m.key key) members)

-- what stands one step below: the member of that name, or the element whose original index that is
abbrev pub child_in : Tree-F Tree → Step → Option Tree
child_in (Tree-F.Object members) (Key key) = value_of key members
child_in (Tree-F.List items) (At at) = option_map (λ i. i.value) (find (λ i. i.at == at) items)
child_in t step = None

abbrev pub child_of : Tree → Step → Option Tree
child_of t step = child_in (out-Tree t) step

-- What stands at a place: the tree that the steps lead to, or nothing.
abbrev pub look : List Step → Tree → Option Tree
look [] t = Some t
look (step ∷ steps) t = option_and_then (look steps) (child_of t step)

-- the text, or nothing where the tree is no text
abbrev pub text_in : Tree-F Tree → Option (List ℕ)
text_in (Tree-F.Text text) = Some text
text_in t = None

abbrev pub text_of : Tree → Option (List ℕ)
text_of t = text_in (out-Tree t)

-- the text of the member of that name
abbrev pub text_at : List ℕ → List (Member Tree) → Option (List ℕ)
text_at key members = option_and_then text_of (value_of key members)

-- an object's members in order, or nothing where the tree is no object
abbrev pub members_in : Tree-F Tree → Option (List (Member Tree))
members_in (Tree-F.Object members) = Some members
members_in t = None

abbrev pub members_of : Tree → Option (List (Member Tree))
members_of t = members_in (out-Tree t)

-- a list's elements in order, or nothing where the tree is no list
abbrev pub items_in : Tree-F Tree → Option (List (Item Tree))
items_in (Tree-F.List items) = Some items
items_in t = None

abbrev pub items_of : Tree → Option (List (Item Tree))
items_of t = items_in (out-Tree t)

-- the names of an object's members in order, or nothing where the tree is no object
abbrev pub names_in : Tree-F Tree → Option (List (List ℕ))
names_in (Tree-F.Object members) = Some (map (λ m. m.key) members)
names_in t = None

-- the names that the object at a place has
abbrev pub names_at : List Step → Tree → Option (List (List ℕ))
names_at place t = option_and_then (λ u. names_in (out-Tree u)) (look place t)

-- ---- the version number

-- the one name under which a number that is not whole may stand. -- JSON-LD 1.1, 9.15
abbrev pub is_version_key : List ℕ → Bool
is_version_key key = bytes_eq key (codes "@version")

-- the first, or where there is none the other
abbrev pub or_else : {A : Type 0} → Option A → Option A → Option A
or_else (Some a) later = Some a
or_else None later = later

-- the first that there is
abbrev pub first_of : {A : Type 0} → List (Option A) → Option A
first_of [] = None
first_of (o ∷ os) = or_else o (first_of os)

-- a place seen from one step above it
abbrev pub below : Step → Option (List Step) → Option (List Step)
below step place = option_map (λ steps. step ∷ steps) place

-- one level, with each value inside already seen as its first misplaced version number; `named`
-- says whether the value is that of a member `@version`
abbrev pub misplaced_step : Tree-F (Bool → Option (List Step)) → Bool → Option (List Step)
misplaced_step Tree-F.Null named = None
misplaced_step (Tree-F.Bool b) named = None
misplaced_step (Tree-F.Whole z) named = None
misplaced_step Tree-F.Version named = if named then None else Some []
misplaced_step (Tree-F.Text t) named = None
misplaced_step (Tree-F.List items) named =
    first_of (map (λ i. below (At i.at) (i.value false)) items)
misplaced_step (Tree-F.Object members) named =
    first_of (map (λ m. below (Key m.key) (m.value (is_version_key m.key))) members)

abbrev pub misplaced : Tree → Bool → Option (List Step)
misplaced = fold-Tree (Bool → Option (List Step)) misplaced_step

-- The first place of a `Version` that is not the value of a member `@version`: elements in their
-- order, and members in theirs, which is the byte order of their names.
abbrev pub first_misplaced : Tree → Option (List Step)
first_misplaced t = misplaced t false

-- Whether `Version` stands only as the value of a member `@version`.
abbrev pub is_placed : Tree → Bool
is_placed t = is_none (first_misplaced t)

-- ---- JSON Pointer

-- `~` is written `~0` and `/` is written `~1`. -- RFC 6901, section 3
abbrev pub escaped : ℕ → List ℕ
escaped c = if c == 126 then codes "~0" else (if c == 47 then codes "~1" else c ∷ [])

-- a step as a reference token: a name with its escapes, or an index in decimal.
-- RFC 6901, section 4
abbrev pub token_of : Step → List ℕ
token_of (Key key) = flat_map escaped key
token_of (At at) = decimal at

-- The JSON Pointer of a place: each token after a `/`.
abbrev pub pointer_of : List Step → List ℕ
pointer_of [] = []
pointer_of (step ∷ steps) = 47 ∷ (token_of step ++ pointer_of steps)

-- whether the step is a name, or an index of 64 bits
abbrev pub is_word_step : Step → Bool
is_word_step (Key key) = true
is_word_step (At at) = nat_lt at (2 ^ 64)

-- Whether each index is one of 64 bits, as those of a list that was read.
abbrev pub has_word_indexes : List Step → Bool
has_word_indexes place = list_all is_word_step place

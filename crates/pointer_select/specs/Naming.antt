-- The place that a pointer names in a tree. RFC 6901, section 4.
use Rattle.std.specs.Prelude.{ℕ, ◌+◌, List, [], ◌∷◌, Option, Some, None, option_map, option_and_then, find, position, is_none, if◌then◌else◌, decimal}
use Rattle.std.specs.Str.{bytes_eq}
use Rattle.json_tree.specs.declared.tree.Tree.{Tree, out-Tree}
use Rattle.json_tree.specs.declared.tree.Tree.TheOpen.{Tree-F}
use Rattle.json_tree.specs.declared.tree.Item.{Item}
use Rattle.json_tree.specs.declared.place.Step.{Step}
use Rattle.json_tree.specs.declared.place.Step.TheVariants.{Key, At}
use Rattle.json_tree.specs.Places.{below, child_of}

-- the element whose index, counted from n, is the token in decimal: so without leading zeros
abbrev pub element_from : ℕ → List ℕ → List (Item Tree) → Option (Item Tree)
element_from n token [] = None
element_from n token (i ∷ is) =
    if bytes_eq (decimal n) token then Some i else element_from (n + 1) token is

-- the step that a token names on one level
abbrev pub step_in : Tree-F Tree → List ℕ → Option Step
step_in (Tree-F.Object members) token =
    option_map (λ m. Key m.key) (find (λ m. bytes_eq m.key token) members)
step_in (Tree-F.List items) token = option_map (λ i. At i.at) (element_from 0 token items)
step_in t token = None

-- The step that a token names: to the member of that name, or to the element that stands at that
-- index in the list's present order. The step to an element has the index that the element had when
-- the list was read, which is another one where elements before it were left out.
abbrev pub step_of : Tree → List ℕ → Option Step
step_of t token = step_in (out-Tree t) token

-- The place that tokens name, one after the other, or nothing.
abbrev pub place_of : List (List ℕ) → Tree → Option (List Step)
place_of [] t = Some []
place_of (token ∷ tokens) t =
    option_and_then (λ step. below step (option_and_then (place_of tokens) (child_of t step)))
    (step_of t token)

-- The index of the first pointer that names no place.
abbrev pub first_missing : List (List (List ℕ)) → Tree → Option ℕ
first_missing pointers t = position (λ tokens. is_none (place_of tokens t)) pointers

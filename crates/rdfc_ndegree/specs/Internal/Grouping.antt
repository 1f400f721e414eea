-- How the program groups nodes by hash: one more at the end of the groups.
use Rattle.std.specs.Prelude.{◌≡◌, ◌<◌, ◌-◌, ◌++◌, bytes_eq, Bool, false, ℕ, List, [], ◌∷◌, if◌then◌else◌, replicate, slice_get, take}
use Rattle.rdfc_ndegree.specs.Groups.{NodeHash, Group}
use Rattle.rdfc_ndegree.specs.Table.{NodeRow, first_in}
use Rattle.rdfc_ndegree.specs.declared.related.HashedNode.{HashedNode}

-- From one place up to another, which comes after it, the list has x alone.
abbrev pub IsAlikeUntil : {X : Type 0} → List X → ℕ → X → ℕ → Type 0
IsAlikeUntil xs place x end =
    (place < end) × (take end xs ≡ take place xs ++ replicate (end - place) x)

-- a number with its hash, as the definitions have it, and as often as it has the hash
abbrev pub node_hash : HashedNode → NodeHash ℕ
node_hash h = record { hash = h.hash; node = h.node }

abbrev pub node_hashes : HashedNode → List (NodeHash ℕ)
node_hashes h = replicate h.count (node_hash h)

-- the number of a row with its first-degree hash
abbrev pub row_hash : List NodeRow → ℕ → NodeHash ℕ
row_hash rows n = record { hash = first_in (slice_get rows n); node = n }

-- the group of one node
abbrev pub group_of_one : {B : Type 0} → NodeHash B → Group B
group_of_one h = record { hash = h.hash; members = h.node ∷ [] }

-- whether there is a last group and it has the hash
abbrev pub last_has_hash : {B : Type 0} → List (Group B) → List ℕ → Bool
last_has_hash [] hash = false
last_has_hash (g ∷ []) hash = bytes_eq g.hash hash
last_has_hash (g ∷ k ∷ gs) hash = last_has_hash (k ∷ gs) hash

-- the groups with a node that comes after all theirs: in the last one if it has its hash, and else
-- in its own
abbrev pub add_to_groups : {B : Type 0} → List (Group B) → NodeHash B → List (Group B)
add_to_groups [] h = group_of_one h ∷ []
add_to_groups (g ∷ []) h =
    if bytes_eq g.hash h.hash then record { hash = g.hash; members = g.members ++ h.node ∷ [] } ∷ []
    else g ∷ (group_of_one h ∷ [])
add_to_groups (g ∷ k ∷ gs) h = g ∷ add_to_groups (k ∷ gs) h

-- the groups with each of these nodes, one after another
abbrev pub add_each : {B : Type 0} → List (Group B) → List (NodeHash B) → List (Group B)
add_each gs [] = gs
add_each gs (h ∷ hs) = add_each (add_to_groups gs h) hs

-- What a reference means at a base. RFC 3986, 5.2, in its strict form.
use Rattle.std.specs.Prelude.{ℕ, ◌-◌, List, [], ◌∷◌, ◌++◌, Bool, true, false, ◌&&◌, ◌||◌, ◌==◌, nat_lt, not, if◌then◌else◌, is_some, codes, map, length, take}
use Rattle.std.specs.List.{fold, join_by, slice_split}
use Rattle.std.specs.Str.{bytes_eq}
use Rattle.iri_ref.specs.Components.{Components, after, components, recompose}

abbrev pub is_empty : List ℕ → Bool
is_empty [] = true
is_empty (b ∷ bs) = false

-- whether the path begins with a slash
abbrev pub is_rooted : List ℕ → Bool
is_rooted [] = false
is_rooted (b ∷ bs) = b == 47

-- ---- removal of dot segments, on segments. -- RFC 3986, 5.2.4

-- what stands between the slashes of a path. -- RFC 3986, 3.3
abbrev pub segments : List ℕ → List (List ℕ)
segments path = slice_split (λ b. b == 47) path

-- the path that the segments make
abbrev pub path_of : List (List ℕ) → List ℕ
path_of parts = join_by (λ s. s) (codes "/") parts

-- `.`, the segment that stays where it is
abbrev pub is_dot : List ℕ → Bool
is_dot segment = bytes_eq segment (codes ".")

-- `..`, the segment that goes one up
abbrev pub is_dot_dot : List ℕ → Bool
is_dot_dot segment = bytes_eq segment (codes "..")

-- A dot segment at the end names a place below which things stand, so it is read as if a slash, and
-- so an empty segment, came after it.
abbrev pub with_end : List (List ℕ) → List (List ℕ)
with_end [] = []
with_end (s ∷ []) = if is_dot s || is_dot_dot s then s ∷ [] ∷ [] else s ∷ []
with_end (s ∷ t ∷ ts) = s ∷ with_end (t ∷ ts)

-- One segment up. The first segment leaves its place behind, since what follows it still begins
-- with a slash.
abbrev pub up : List (List ℕ) → List (List ℕ)
up kept = if nat_lt 1 (length kept) then take (length kept - 1) kept else map (λ s. []) kept

-- the segments that are kept, with one more
abbrev pub enter : List (List ℕ) → List ℕ → List (List ℕ)
enter kept segment =
    if is_dot segment then kept
    else if is_dot_dot segment then up kept
    else kept ++ segment ∷ []

-- Dot segments do what they say, from left to right; those before the first other one do nothing.
unfoldable pub remove_dot_segments : List ℕ → List ℕ
remove_dot_segments path = path_of (fold enter [] (with_end (segments path)))

-- ---- resolution

-- the path up to its last slash, and with it; nothing where there is none
abbrev pub directory : List ℕ → List ℕ
directory [] = []
directory (b ∷ bs) = if is_some (after 47 (b ∷ bs)) then b ∷ directory bs else []

-- a relative path, put in place of the last segment of the base's. -- RFC 3986, 5.2.3
unfoldable pub merge : Components → List ℕ → List ℕ
merge base path =
    if is_some base.authority && is_empty base.path then codes "/" ++ path
    else directory base.path ++ path

-- the path of the target. -- RFC 3986, 5.2.2
unfoldable pub target_path : Components → Components → List ℕ
target_path base r =
    if is_some r.scheme || is_some r.authority || is_rooted r.path then remove_dot_segments r.path
    else if is_empty r.path then base.path
    else remove_dot_segments (merge base r.path)

-- the components that a reference means at a base. -- RFC 3986, 5.2.2
unfoldable pub target : Components → Components → Components
target base r =
    if is_some r.scheme then record r { path = target_path base r }
    else if is_some r.authority then record r { scheme = base.scheme; path = target_path base r }
    else if is_empty r.path && not (is_some r.query)
    then record base { path = target_path base r; fragment = r.fragment }
    else record base { path = target_path base r; query = r.query; fragment = r.fragment }

-- what a reference means at a base. -- RFC 3986, 5.2 and 5.3
abbrev pub resolution : List ℕ → List ℕ → List ℕ
resolution base reference = recompose (target (components base) (components reference))

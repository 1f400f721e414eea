-- The rows grouped by first-degree hash.
use Rattle.std.proofs.Common.{◌≡◌, ℕ, zero, suc, arith, ◌+◌, ◌<◌, List, [], ◌∷◌, ◌++◌, map, flat_map, length, replicate, get_or, All, Contains, Option, Some, None, option_map, slice_get, refl, sym, ap, ◌∙◌, subst, add-one, append-nil}
use Rattle.std.proofs.lemmas.Grind.{flat_map-append}
use Rattle.std.proofs.lemmas.List.{map-append}
use Rattle.std.proofs.lemmas.List.Elements.{Contains-get_or}
use Rattle.base_types.proofs.Lists.{Contains-map}
use Rattle.digest_mac.specs.declared.hash.Hash.{Hash}
use Rattle.digest_mac.specs.declared.hash.Hash.TheVariants.{Sha256}
use Rattle.rdfc_ndegree.specs.declared.related.HashedNode.{HashedNode}
use Rattle.rdfc_ndegree.specs.declared.related.NodeGroup.{NodeGroup}
use Rattle.rdfc_ndegree.specs.Table.{NodeRow}
use Rattle.rdfc_ndegree.specs.Internal.Grouping.{node_hashes, row_hash}
use Rattle.rdfc_ndegree.specs.Table.{group_in}
use Rattle.rdfc_ndegree.specs.Run.{with_first_hash, first_groups}
use Rattle.rdfc_ndegree.specs.Table.{numbers_below, first_in, table_nodes}
use Rattle.rdfc_ndegree.specs.Groups.{groups_by_hash}
use Rattle.rdfc_ndegree.proofs.Tables.{table-all}
use Rattle.rdfc_ndegree.proofs.TableCarry.{numbers-below}
use Rattle.rdfc_ndegree.proofs.Exists.{first_groups-listed}

-- what stands at a place within a list
pub there : {A X : Type 0} (xs : List X) (n end : ℕ) → n < end → end ≡ length xs → None ≡ slice_get xs n → A
there [] n end lt e none = absurd (omega arith)
there (x ∷ xs) zero end lt e none = absurd (cc)
there (x ∷ xs) (suc n) end lt e none = there xs n (length xs) (omega arith) refl none

first_if : (o : Option NodeRow) (h : List ℕ) → Some h ≡ option_map (λ (r : NodeRow). r.first) o → h ≡ first_in o
first_if None h e = absurd (cc)
first_if (Some row) h e = cc

some_if : {A : Type 0} (rows : List NodeRow) (n end : ℕ) (o : Option NodeRow) → slice_get rows n ≡ o → n < end → end ≡ length rows → None ≡ option_map (λ (r : NodeRow). r.first) o → A
some_if rows n end None at lt e none = there rows n end lt e (sym at)
some_if rows n end (Some row) at lt e none = absurd (cc)

-- a row within the table has a first-degree hash
pub first-there : {A : Type 0} (rows : List NodeRow) (n end : ℕ) → n < end → end ≡ length rows → None ≡ option_map (λ (r : NodeRow). r.first) (slice_get rows n) → A
first-there rows n end lt e none = some_if rows n end (slice_get rows n) refl lt e none

module _ (rows : List NodeRow) where
  pub rows-next : (hs new : List HashedNode) (n : ℕ) (first : List ℕ) (h : HashedNode) → flat_map node_hashes hs ≡ map (row_hash rows) (numbers_below n)
      → Some first ≡ option_map (λ (r : NodeRow). r.first) (slice_get rows n) → h.hash ≡ first → h.node ≡ n → h.count ≡ 1 → new ≡ hs ++ h ∷ []
      → flat_map node_hashes new ≡ map (row_hash rows) (numbers_below (n + 1))
  rows-next hs new n first h done is hash node count pushed =
      let whole : h.hash ≡ first_in (slice_get rows n) = hash ∙ first_if (slice_get rows n) first is in
      let last : node_hashes h ≡ row_hash rows n ∷ [] = λ i. replicate (count i) (record { hash = whole i; node = node i }) in
      ap (flat_map node_hashes) pushed ∙ flat_map-append node_hashes hs (h ∷ []) ∙ (λ i. done i ++ (append-nil (node_hashes h) ∙ last) i)
      ∙ sym (map-append (row_hash rows) (numbers_below n) (n ∷ []))
      ∙ ap (λ k. map (row_hash rows) (numbers_below k)) (sym (add-one n))

-- the rows with their first-degree hashes are the nodes with theirs
pub rows-hashed : (algorithm : Hash) (rows : List NodeRow) → map (row_hash rows) (numbers_below (length rows)) ≡ map (with_first_hash (table_nodes algorithm rows)) (table_nodes algorithm rows).all
unfolding table_nodes
rows-hashed algorithm rows = refl

-- the members of the groups are rows
pub first-listed : (rows : List NodeRow) (groups : List NodeGroup) → map group_in groups ≡ groups_by_hash (map (row_hash rows) (numbers_below (length rows))) → All (λ (g : NodeGroup). All (λ m. m < length rows) g.members) groups
first-listed rows groups is k d lt m e within =
    let g : NodeGroup = get_or groups k d in
    let all : map group_in groups ≡ first_groups (table_nodes Sha256 rows) = is ∙ ap groups_by_hash (rows-hashed Sha256 rows) in
    let among : Contains (first_groups (table_nodes Sha256 rows)) (group_in g) = subst (λ gs. Contains gs (group_in g)) all (Contains-map group_in groups g (Contains-get_or groups k d lt)) in
    let listed = first_groups-listed (table_nodes Sha256 rows) (group_in g) among (get_or g.members m e) (Contains-get_or g.members m e within) in
    numbers-below (length rows) (get_or g.members m e) (subst (λ ns. Contains ns (get_or g.members m e)) (table-all Sha256 rows) listed)

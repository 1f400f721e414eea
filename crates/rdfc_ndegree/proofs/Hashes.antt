-- The related nodes of a row with their hashes, and the groups that they give.
use Rattle.std.proofs.Common.{◌≡◌, ℕ, ◌-◌, ◌<◌, List, [], ◌∷◌, ◌++◌, map, flat_map, length, replicate, take, append-nil, refl, sym, ap, ◌∙◌, subst, Option, Some, None}
use Rattle.std.specs.Prelude.{All, slice_get}
use Rattle.std.specs.List.{AllByRecursion}
use Rattle.std.proofs.lemmas.Grind.{flat_map-append}
use Rattle.std.proofs.lemmas.List.{map-append}
use Rattle.std.proofs.lemmas.Option.{slice_get_within, get_or_from_slice_get}
use Rattle.std.proofs.lemmas.List.Elements.{recursion_from_All, All-from_recursion}
use Rattle.digest_mac.specs.Digests.{digits}
use Rattle.digest_mac.specs.declared.hash.Hash.{Hash}
use Rattle.rdfc_ndegree.specs.Nodes.{Occurrence}
use Rattle.rdfc_ndegree.specs.Groups.{NodeHash, Group, position_text, identifier_or_hash, related_hash, with_related_hash, groups_by_hash, related_groups}
use Rattle.rdfc_ndegree.specs.Table.{occurrence_of, related_in_row, table_nodes, IsClosed}
use Rattle.rdfc_ndegree.specs.Internal.Grouping.{IsAlikeUntil, node_hashes}
use Rattle.rdfc_ndegree.specs.Table.{group_in}
use Rattle.rdfc_ndegree.specs.declared.related.HashedNode.{HashedNode}
use Rattle.rdfc_ndegree.specs.declared.related.NodeGroup.{NodeGroup}
use Rattle.rdfc_ndegree.specs.Table.{NodeRow}
use Rattle.rdfc_ndegree.specs.Table.{Related}
use Rattle.rdfc_ndegree.proofs.Alikes.{map-copies}
use Rattle.rdfc_ndegree.proofs.Grouping.{grouped-all}

module _ (algorithm : Hash) (rows : List NodeRow) (c i : List ℕ) where
  abbrev with_hashes : List (Occurrence ℕ) → List (NodeHash ℕ)
  with_hashes os = map (with_related_hash (table_nodes algorithm rows) c i) os

  pub hash-made : (o : Occurrence ℕ) (hash seen text place fresh : List ℕ) → hash ≡ digits algorithm seen → seen ≡ text → text ≡ place ++ identifier_or_hash (table_nodes algorithm rows) c i o.blank → place ≡ fresh ++ position_text o.position o.predicate → fresh ≡ []
      → hash ≡ related_hash (table_nodes algorithm rows) c i o
  unfolding table_nodes
  hash-made o hash seen text place fresh digest same whole front empty =
      digest ∙ ap (digits algorithm) (same ∙ whole ∙ ap (λ p. p ++ identifier_or_hash (table_nodes algorithm rows) c i o.blank) (front ∙ ap (λ f. f ++ position_text o.position o.predicate) empty))

  -- occurrences that are alike give the same hash as often
  pub hashed-next : (os : List (Occurrence ℕ)) (k end : ℕ) (o : Occurrence ℕ) (hs new : List HashedNode) (h : HashedNode) → IsAlikeUntil os k o end
      → flat_map node_hashes hs ≡ map (with_related_hash (table_nodes algorithm rows) c i) (take k os) → new ≡ hs ++ h ∷ [] → node_hashes h ≡ replicate (end - k) (with_related_hash (table_nodes algorithm rows) c i o)
      → flat_map node_hashes new ≡ map (with_related_hash (table_nodes algorithm rows) c i) (take end os)
  hashed-next os k end o hs new h alike so_far push made =
      ap (flat_map node_hashes) push ∙ flat_map-append node_hashes hs (h ∷ []) ∙ (λ j. so_far j ++ (append-nil (node_hashes h) ∙ made) j)
      ∙ sym (ap with_hashes alike.1 ∙ map-append (with_related_hash (table_nodes algorithm rows) c i) (take k os) (replicate (end - k) o)
      ∙ ap (λ hs. with_hashes (take k os) ++ hs) (map-copies (with_related_hash (table_nodes algorithm rows) c i) (end - k) o))

  pub groups-of_row : (n : ℕ) → groups_by_hash (map (with_related_hash (table_nodes algorithm rows) c i) (related_in_row (slice_get rows n))) ≡ related_groups (table_nodes algorithm rows) c i n
  unfolding table_nodes
  groups-of_row n = refl

  -- ---- the members are rows

  abbrev Listed : ℕ → Type 0
  Listed m = m < length rows

  nodes-listed : (rs : List Related) → AllByRecursion (λ (r : Related). r.node < length rows) rs → AllByRecursion (λ (h : NodeHash ℕ). Listed h.node) (with_hashes (map occurrence_of rs))
  nodes-listed [] all = tt
  nodes-listed (r ∷ rs) all = (all.0, nodes-listed rs all.1)

  row-listed : (n : ℕ) (o : Option NodeRow) → IsClosed rows → slice_get rows n ≡ o → AllByRecursion (λ (h : NodeHash ℕ). Listed h.node) (with_hashes (related_in_row o))
  row-listed n None closed is = tt
  row-listed n (Some row) closed is =
      let in' : n < length rows = slice_get_within rows n row is in
      let all : All (λ (r : Related). r.node < length rows) row.related = subst (λ (w : NodeRow). All (λ (r : Related). r.node < length rows) w.related) (get_or_from_slice_get rows n row row is) (closed n row in') in
      nodes-listed row.related (recursion_from_All (λ (r : Related). r.node < length rows) row.related all)

  groups-listed : (n : ℕ) → IsClosed rows → AllByRecursion (λ (g : Group ℕ). AllByRecursion Listed g.members) (related_groups (table_nodes algorithm rows) c i n)
  unfolding table_nodes
  groups-listed n closed = grouped-all Listed (with_hashes (related_in_row (slice_get rows n))) (row-listed n (slice_get rows n) closed refl)

  kept-listed : (groups : List NodeGroup) → AllByRecursion (λ (g : Group ℕ). AllByRecursion Listed g.members) (map group_in groups) → AllByRecursion (λ (g : NodeGroup). All Listed g.members) groups
  kept-listed [] all = tt
  kept-listed (g ∷ gs) all = (All-from_recursion Listed g.members all.0, kept-listed gs all.1)

  pub groups-numbered : (n : ℕ) (groups : List NodeGroup) → IsClosed rows → map group_in groups ≡ related_groups (table_nodes algorithm rows) c i n → All (λ (g : NodeGroup). All (λ m. m < length rows) g.members) groups
  groups-numbered n groups closed is =
      All-from_recursion (λ (g : NodeGroup). All Listed g.members) groups (kept-listed groups (subst (AllByRecursion (λ (g : Group ℕ). AllByRecursion Listed g.members)) (sym is) (groups-listed n closed)))

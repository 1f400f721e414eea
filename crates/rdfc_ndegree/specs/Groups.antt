-- Related hashes, and nodes grouped by hash. RDF Canonicalization, 4.7, Hash Related Blank Node,
-- and 4.8.3, steps 1 to 3.
use Rattle.std.specs.Prelude.{ℕ, List, ◌++◌, map, filter, bytes_eq, codes, if◌then◌else◌}
use Rattle.base_types.specs.Order.{sorted_set}
use Rattle.rdfc_ndegree.specs.Nodes.{Occurrence, Nodes}
use Rattle.rdfc_ndegree.specs.declared.table.Position.{Position}
use Rattle.rdfc_ndegree.specs.declared.table.Position.TheVariants as position
use Rattle.rdfc_ndegree.specs.Issuers.{has, canonical_id, temporary_id}

-- The position: `s`, `o` or `g`, and for the first two the predicate in angle brackets.
-- RDF Canonicalization, 4.7.3, steps 1 and 2
abbrev pub position_text : Position → List ℕ → List ℕ
position_text position.Subject predicate = codes "s" ++ predicate
position_text position.Object predicate = codes "o" ++ predicate
position_text position.Graph predicate = codes "g"

-- How a related hash names a node: by `_:` and its canonical identifier, or else its identifier in
-- the issuer, and else by its first-degree hash. RDF Canonicalization, 4.7.3, steps 3 and 4
abbrev pub identifier_or_hash : {B : Type 0} → Nodes B → List B → List B → B → List ℕ
identifier_or_hash v c i n =
    if has v c n then codes "_:" ++ canonical_id v c n
    else (if has v i n then codes "_:" ++ temporary_id v i n else v.first n)

-- the related hash of an occurrence, with the canonical issuer c and the issuer i. -- RDF
-- Canonicalization, 4.7.3
abbrev pub related_hash : {B : Type 0} → Nodes B → List B → List B → Occurrence B → List ℕ
related_hash v c i o =
    v.digest (position_text o.position o.predicate ++ identifier_or_hash v c i o.blank)

-- a node with a hash of it
pub record NodeHash (B : Type 0) : Type 0 where
  pub hash : List ℕ
  pub node : B

-- the nodes with one hash, each as often as it has that hash
pub record Group (B : Type 0) : Type 0 where
  pub hash : List ℕ
  pub members : List B

-- the group of a hash
abbrev pub group_of : {B : Type 0} → List (NodeHash B) → List ℕ → Group B
group_of hs hash =
    record { hash = hash; members = map (λ h. h.node) (filter (λ h. bytes_eq h.hash hash) hs) }

-- nodes grouped by hash, the groups in hash order
abbrev pub groups_by_hash : {B : Type 0} → List (NodeHash B) → List (Group B)
groups_by_hash hs = map (group_of hs) (sorted_set (map (λ h. h.hash) hs))

-- an occurrence's node with the related hash
abbrev pub with_related_hash : {B : Type 0} → Nodes B → List B → List B → Occurrence B → NodeHash B
with_related_hash v c i o = record { hash = related_hash v c i o; node = o.blank }

-- The related nodes of n, once for each occurrence, grouped by the related hashes that are taken
-- with the issuer with which n's call begins. RDF Canonicalization, 4.8.3, steps 1 to 3
abbrev pub related_groups : {B : Type 0} → Nodes B → List B → List B → B → List (Group B)
related_groups v c i n = groups_by_hash (map (with_related_hash v c i) (v.related n))

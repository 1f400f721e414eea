-- The rows of a table as nodes: which are listed, and how many there are.
use Rattle.std.proofs.Common.{◌≡◌, ℕ, zero, suc, ◌<◌, List, length, map, All, Contains, refl, sym, ap, ◌∙◌, subst, arith}
use Rattle.std.proofs.lemmas.List.{length_push}
use Rattle.std.proofs.lemmas.List.Elements.{All-contains}
use Rattle.base_types.proofs.Lists.{Contains-from_map}
use Rattle.digest_mac.specs.declared.hash.Hash.{Hash}
use Rattle.nquads.proofs.ReadingElements.{All-from_contains}
use Rattle.rdfc_ndegree.specs.Groups.{Group}
use Rattle.rdfc_ndegree.specs.Table.{numbers_below, table_nodes, group_in}
use Rattle.rdfc_ndegree.specs.declared.related.NodeGroup.{NodeGroup}
use Rattle.rdfc_ndegree.specs.Table.{NodeRow}
use Rattle.rdfc_ndegree.specs.Internal.Nodes.{AreListed}
use Rattle.rdfc_ndegree.proofs.Tables.{table-all}
use Rattle.rdfc_ndegree.proofs.TableCarry.{numbers-contains, numbers-below}

numbers-length : (n : ℕ) → length (numbers_below n) ≡ n
numbers-length zero = refl
numbers-length (suc n) = let push = length_push (numbers_below n) n in let rest : length (numbers_below n) ≡ n = numbers-length n in omega arith

module _ (algorithm : Hash) (rows : List NodeRow) where
  pub row-listed : (n : ℕ) → n < length rows → Contains (table_nodes algorithm rows).all n
  row-listed n lt = subst (λ ns. Contains ns n) (sym (table-all algorithm rows)) (numbers-contains (length rows) n lt)

  pub rows-listed : (ms : List ℕ) → All (λ m. m < length rows) ms → AreListed (table_nodes algorithm rows) ms
  rows-listed ms all m k = row-listed m (All-contains (λ x. x < length rows) ms m all k)

  listed-row : (n : ℕ) → Contains (table_nodes algorithm rows).all n → n < length rows
  listed-row n k = numbers-below (length rows) n (subst (λ ns. Contains ns n) (table-all algorithm rows) k)

  -- what is listed are rows
  pub listed-rows : (ms : List ℕ) → AreListed (table_nodes algorithm rows) ms → All (λ m. m < length rows) ms
  listed-rows ms listed = All-from_contains (λ m. m < length rows) ms (λ m k. listed-row m (listed m k))

  -- each group's members are rows, with the groups as the program keeps them
  pub groups-rows : (gs : List NodeGroup) → All (λ (g : NodeGroup). All (λ m. m < length rows) g.members) gs → (g : Group ℕ) → Contains (map group_in gs) g → AreListed (table_nodes algorithm rows) g.members
  groups-rows gs all g k =
      let found = Contains-from_map group_in gs g k in
      rows-listed g.members (subst (λ (z : Group ℕ). All (λ m. m < length rows) z.members) found.2 (All-contains (λ (h : NodeGroup). All (λ m. m < length rows) h.members) gs found.0 all found.1))

  -- there are as many nodes as rows
  pub rows-count : length (table_nodes algorithm rows).all ≡ length rows
  rows-count = ap length (table-all algorithm rows) ∙ numbers-length (length rows)

-- What the calls over a table need of its nodes.
use Rattle.std.specs.Prelude.{◌≡◌, ◌↔◌, true, List, Contains, All}
use Rattle.base_types.specs.Sets.{AllDiffer}
use Rattle.rdfc_ndegree.specs.Nodes.{Occurrence, Nodes}
use Rattle.rdfc_ndegree.specs.Groups.{Group}

-- `same` is equality, no node is listed twice, and the related nodes of a listed one are listed.
pub record AreNodes {B : Type 0} (v : Nodes B) : Type 0 where
  pub equal : (x y : B) → (v.same x y ≡ true) ↔ (x ≡ y)
  pub differ : AllDiffer v.all
  pub closed : (n : B) → Contains v.all n
      → All (λ (o : Occurrence B). Contains v.all o.blank) (v.related n)

-- each of these is listed, and each member of these groups
abbrev pub AreListed : {B : Type 0} → Nodes B → List B → Type 0
AreListed {B} v ms = (m : B) → Contains ms m → Contains v.all m

abbrev pub AreGroupsListed : {B : Type 0} → Nodes B → List (Group B) → Type 0
AreGroupsListed {B} v gs = (g : Group B) → Contains gs g → AreListed v g.members

-- How far the naming of nodes has come: what bounds the depth of n-degree calls. RDF Canonicalization, 4.8.3, step 5.4.
use Rattle.std.specs.Prelude.{◌≡◌, ℕ, ◌+◌, List, [], ◌∷◌, ◌++◌, ◌||◌, if◌then◌else◌}
use Rattle.rdfc_ndegree.specs.Nodes.{Nodes}
use Rattle.rdfc_ndegree.specs.Issuers.{has}
pub use Rattle.rdfc_ndegree.specs.Internal.Nodes.{AreListed}

-- how many of the nodes us neither the canonical issuer c nor the issuer i has named
abbrev pub lack : {B : Type 0} → Nodes B → List B → List B → List B → ℕ
lack v c i [] = 0
lack v c i (u ∷ us) = (if has v c u || has v i u then 0 else 1) + lack v c i us

-- the issuer j has named what i has named, and then more
pub record Grows {B : Type 0} (i j : List B) : Type 0 where
  pub more : List B
  pub is : j ≡ i ++ more

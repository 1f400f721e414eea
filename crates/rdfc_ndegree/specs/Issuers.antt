-- Identifier issuers. RDF Canonicalization, 4.3, identifier issuer, and 4.5, Issue Identifier.
-- An issuer is the list of the nodes that it has named, in order; a node's number is its place.
use Rattle.std.specs.Prelude.{ℕ, ◌+◌, List, [], ◌∷◌, ◌++◌, Bool, if◌then◌else◌, codes, decimal}
use Rattle.std.specs.List.{list_any}
use Rattle.rdfc_ndegree.specs.Nodes.{Nodes}

-- whether the issuer has named the node
abbrev pub has : {B : Type 0} → Nodes B → List B → B → Bool
has v i n = list_any (λ m. v.same m n) i

-- the number of a node: its place in the issuer, from 0
abbrev pub number : {B : Type 0} → Nodes B → List B → B → ℕ
number v [] n = 0
number v (m ∷ ms) n = if v.same m n then 0 else 1 + number v ms n

-- the canonical identifier: `c14n` and the number in the canonical issuer
abbrev pub canonical_id : {B : Type 0} → Nodes B → List B → B → List ℕ
canonical_id v c n = codes "c14n" ++ decimal (number v c n)

-- a temporary identifier: `b` and the number in an issuer of one n-degree call
abbrev pub temporary_id : {B : Type 0} → Nodes B → List B → B → List ℕ
temporary_id v i n = codes "b" ++ decimal (number v i n)

-- the issuer after naming a node; one that is named already keeps its number. -- RDF
-- Canonicalization, 4.5
abbrev pub issue : {B : Type 0} → Nodes B → List B → B → List B
issue v i n = if has v i n then i else i ++ n ∷ []

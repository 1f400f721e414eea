-- Issuers over numbers. RDF Canonicalization, 4.5.
use Rattle.std.specs.Prelude.{ℕ, List, [], ◌∷◌, Option, Some, None, if◌then◌else◌, nat_lt}
use Rattle.rdfc_ndegree.specs.NumberIssuers.{issue_number}

-- the issuer after naming these numbers, in order
abbrev pub issue_numbers : List ℕ → List ℕ → List ℕ
issue_numbers order [] = order
issue_numbers order (n ∷ ns) = issue_numbers (issue_number order n) ns

-- a place, if it is one of the first `count`
abbrev pub place_below : Option ℕ → ℕ → Option ℕ
place_below None count = None
place_below (Some place) count = if nat_lt place count then Some place else None

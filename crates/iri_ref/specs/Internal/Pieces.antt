-- The components that a `Pieces` borrows.
use Rattle.std.specs.Prelude.{ℕ, List, map}
use denote.Ref.{Bor}
use Rattle.std.specs.Option.{option_copied}
use Rattle.iri_ref.specs.Components.{Components}
use Rattle.iri_ref.specs.declared.splitting.Pieces.{Pieces}

-- the texts of the pieces
abbrev pub texts : Pieces → Components
texts p = record {
  scheme = option_copied p.scheme;
  authority = option_copied p.authority;
  path = p.path.now;
  query = option_copied p.query;
  fragment = option_copied p.fragment;
}

-- the texts that a list borrows
abbrev pub borrowed_texts : List (Bor (List ℕ)) → List (List ℕ)
borrowed_texts parts = map (λ (s : Bor (List ℕ)). s.now) parts

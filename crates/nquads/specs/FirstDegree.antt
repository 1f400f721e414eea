-- The blank nodes of a dataset and their first-degree hashes. RDF Canonicalization, 4.4.3 and 4.6.
use Rattle.std.specs.Prelude.{◌≡◌, ◌<◌, ℕ, List, [], ◌∷◌, Bool, not, length, map, filter, flat_map, if◌then◌else◌, codes}
use Rattle.std.specs.List.{concat, list_any}
use Rattle.base_types.specs.Order.{in_order}
use Rattle.base_types.specs.Sets.{AllDiffer, HasExactly}
use Rattle.term_store.specs.Store.{text_at}
use Rattle.nquads.specs.Terms.{Blank, Statement}
use Rattle.nquads.specs.Renaming.{same_blank, blanks_of, StandsIn}
use Rattle.nquads.specs.Spelling.{blank_text}
use Rattle.nquads.specs.Lines.{line}
use Rattle.nquads.specs.declared.hashes.BlankHash.{BlankHash}

-- the elements of a list, each once, where `same` tells whether two are one
abbrev pub each_once : {X : Type 0} → (X → X → Bool) → List X → List X
each_once same [] = []
each_once same (x ∷ xs) = x ∷ filter (λ y. not (same x y)) (each_once same xs)

-- the blank nodes of a dataset, each once
abbrev pub blanks : List Statement → List Blank
blanks q = each_once same_blank (flat_map blanks_of q)

-- whether the statement mentions the blank node, as subject, object or graph
abbrev pub mentions : Blank → Statement → Bool
mentions n s = list_any (same_blank n) (blanks_of s)

-- a blank node's mention set: its statements, each once however often they mention it.
-- RDF Canonicalization, 4.4.3, step 2
abbrev pub mention_set : List Statement → Blank → List Statement
mention_set q n = filter (mentions n) q

-- the blank node itself is `_:a`, each other one `_:z`. -- RDF Canonicalization, 4.6.3, step 3
abbrev pub mark : Blank → Blank → List ℕ
mark n b = if same_blank n b then codes "a" else codes "z"

-- The first-degree hash: the digest of the node's lines, so marked, in code-point order and joined.
-- RDF Canonicalization, 4.6.3
abbrev pub first_degree_hash : (List ℕ → List ℕ) → List Statement → Blank → List ℕ
first_degree_hash digest q n = digest (concat (in_order (map (line (mark n)) (mention_set q n))))

-- It is the first-degree hash of a blank node of the dataset, which it names by the number of the
-- blank node's text in the store.
abbrev pub IsFirstHash :
    (List ℕ → List ℕ) → List (List ℕ) → List Statement → BlankHash → Type 0
IsFirstHash digest texts q h =
    (n : Blank) × StandsIn q n × (h.blank.index < length texts)
    × (text_at texts h.blank ≡ blank_text n) × (h.hash ≡ first_degree_hash digest q n)

-- The list names each blank node of the dataset once, with its first-degree hash.
pub record AreFirstHashes (digest : List ℕ → List ℕ) (texts : List (List ℕ)) (q : List Statement)
    (hashes : List BlankHash) : Type 0 where
  pub once : AllDiffer (map (λ (h : BlankHash). h.blank) hashes)
  pub exact : HasExactly hashes (IsFirstHash digest texts q)

-- Labels of the nodes of a table, in the order of the canonical issuer. RDF Canonicalization,
-- 4.4.3, step 6.
use Rattle.std.specs.Prelude.{ℕ, List, [], ◌∷◌, ◌++◌, length, codes, decimal, Option, Some, None, slice_get, if◌then◌else◌}
use Rattle.std.specs.Option.{is_some}
use Rattle.nquads.specs.Stored.{find_number, number_label}
use Rattle.nquads.specs.declared.numbers.Label.{Label}
use Rattle.nquads.specs.declared.hashes.BlankHash.{BlankHash}

-- the labels with the next one for a blank node that has none
abbrev pub with_label : List Label → Option BlankHash → List Label
with_label ls None = ls
with_label ls (Some h) =
    if is_some (find_number ls h.blank.index) then ls
    else ls ++ number_label h.blank.index (codes "c14n" ++ decimal (length ls)) ∷ []

-- the same for each row in order, whose blank node `firsts` names
abbrev pub all_labels : List BlankHash → List Label → List ℕ → List Label
all_labels firsts ls [] = ls
all_labels firsts ls (n ∷ ns) = all_labels firsts (with_label ls (slice_get firsts n)) ns

-- What the call answers, from what its steps gave.
use Rattle.std.proofs.Common.{◌≡◌, ℕ, true, List, map, Some, None, Err, option_map, sym, ap, ◌∙◌, subst}
use Rattle.std.specs.Cmp.Lexicographic.{nat_list_cmp_total}
use Rattle.base_types.specs.Order.{sorted_set}
use Rattle.base_types.specs.Sets.{SameElements, AllDiffer}
use Rattle.base_types.proofs.Lists.{AllDiffer-strictly_sorted, SameElements-refl}
use Rattle.base_types.proofs.Options.{option_map-Some}
use Rattle.base_types.proofs.Rising.{rising-only, rising-rises, rising-same}
use Rattle.json_tree.specs.declared.tree.Tree.{Tree}
use Rattle.json_tree.specs.Trees.{is_lawful}
use Rattle.nquads.specs.Terms.{Blank, Statement, IsStatement}
use Rattle.nquads.specs.Lines.{line, canonical_lines}
use Rattle.nquads.specs.Spelling.{text_quad}
use Rattle.nquads.specs.declared.quads.TextQuad.{TextQuad}
use Rattle.ld_rdf.specs.Flat.{IsFlat, IsFlatMeaning, Means}
use Rattle.ld_rdf.proofs.WholeRequests.{flat_statements}
use Rattle.ld_rdf.specs.Internal.Outcomes.{BuildsItems}
use Rattle.ld_rdf.specs.declared.fault.FlatFault.{FlatFault}
use Rattle.ld_rdf.specs.declared.fault.FlatFault.TheVariants.{NotBuilt, Memory}
use Rattle.ld_rdf.proofs.OptionsAndLists.{option_map-None}
use Rattle.ld_rdf.proofs.Datasets.{lines_alike, flat_here, statement_here, spelled_apart, lines_apart, dataset_here}
use Rattle.ld_rdf.proofs.Complete.{statements_are_there}

-- a request with statements is flat, and they are its meaning
pub flat_ok : (r : Tree) → is_lawful r ≡ true → (made quads : List TextQuad) → option_map (map text_quad) (flat_statements r) ≡ Some made → SameElements quads made → AllDiffer quads → IsFlat r × ((q : List Statement) × IsFlatMeaning r q × (quads ≡ map text_quad q))
flat_ok r lawful made quads h same differ =
    let found = option_map-Some (map text_quad) (flat_statements r) made h in
    (flat_here r lawful found.0 found.1, dataset_here r lawful found.0 found.1 text_quad (spelled_apart r lawful found.0 found.1) quads (subst (SameElements quads) (sym found.2) same) differ)

-- and the set of their lines, in order, are its canonical lines
pub flat_lines_ok : (f : Blank → List ℕ) (r : Tree) → is_lawful r ≡ true → (made lines : List (List ℕ)) → option_map (map (line f)) (flat_statements r) ≡ Some made → lines ≡ sorted_set made → IsFlat r × ((q : List Statement) × IsFlatMeaning r q × ((label : Blank → List ℕ) → lines ≡ canonical_lines label q))
flat_lines_ok f r lawful made lines h is =
    let found = option_map-Some (map (line f)) (flat_statements r) made h in
    let same = subst (SameElements (sorted_set made)) (sym found.2) (rising-same made) in
    let differ = AllDiffer-strictly_sorted nat_list_cmp_total (sorted_set made) (rising-rises made) in
    let meant = dataset_here r lawful found.0 found.1 (line f) (lines_apart r lawful found.0 found.1 f) (sorted_set made) same differ in
    let again : sorted_set made ≡ sorted_set (sorted_set made) = rising-only (sorted_set made) (sorted_set made) (rising-rises made) (SameElements-refl (sorted_set made)) in
    let canonical = λ (label : Blank → List ℕ). is ∙ again ∙ ap sorted_set (meant.2 ∙ lines_alike r f label meant.0 (λ s c. (meant.1.exact s).0 c)) in
    (flat_here r lawful found.0 found.1, (meant.0, meant.1, canonical))

-- what a request with statements, given in some form, means are statements
pub flat_means : {A : Type 0} (f : Statement → A) (r : Tree) → is_lawful r ≡ true → (made : List A) → option_map (map f) (flat_statements r) ≡ Some made → (s : Statement) → Means r s → IsStatement s
flat_means f r lawful made h = let found = option_map-Some (map f) (flat_statements r) made h in statement_here r lawful found.0 found.1

-- a request without statements is not flat
pub flat_refused : {A : Type 0} (f : Statement → A) (r : Tree) → is_lawful r ≡ true → option_map (map f) (flat_statements r) ≡ None → IsFlat r → ⊥
flat_refused f r lawful h flat = statements_are_there r lawful flat (option_map-None (map f) (flat_statements r) h)

-- the refusal of a request says that it is not flat
pub flat_not_built : {A : Type 0} (f : Statement → A) (r : Tree) → is_lawful r ≡ true → (fault : FlatFault) → BuildsItems (option_map (map f) (flat_statements r)) (Err fault) → fault ≡ NotBuilt → IsFlat r → ⊥
flat_not_built f r lawful NotBuilt h is flat = flat_refused f r lawful h flat
flat_not_built f r lawful Memory h is flat = absurd (cc)

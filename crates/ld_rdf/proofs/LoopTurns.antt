-- One turn of the loop over a document's members.
use Rattle.std.proofs.Common.{◌≡◌, ℕ, ◌+◌, ◌<◌, true, false, List, [], ◌∷◌, ◌++◌, map, length, get_or, drop, Option, Some, None, option_map, option_and_then, Err, refl, sym, ap, ◌∙◌, append_assoc}
use Rattle.json_tree.specs.declared.tree.Member.{Member}
use Rattle.json_tree.specs.declared.tree.Tree.{Tree}
use Rattle.nquads.specs.Terms.{Statement}
use Rattle.ld_rdf.specs.declared.fault.FlatFault.{FlatFault}
use Rattle.ld_rdf.specs.declared.fault.FlatFault.TheVariants.{NotBuilt, Memory}
use Rattle.ld_rdf.specs.Flat.{property_statement}
use Rattle.ld_rdf.specs.Internal.Parts.{property_of, is_left_out, statements_beside}
use Rattle.ld_rdf.specs.Internal.Outcomes.{Builds, BuildsItems}
use Rattle.ld_rdf.proofs.OptionsAndLists.{option_map-None}
use Rattle.base_types.proofs.Lists.{drop-next}
use Rattle.base_types.proofs.Options.{option_map-Some}

-- what is left, in its form f, after what was made
abbrev pub left : {A : Type 0} → (Statement → A) → List A → Option (List Statement) → Option (List A)
left f done o = option_map (λ more. done ++ map f more) o

-- the statements from a member on
from_entry : (besides : List ℕ) (terms : List (Member Tree)) (id : List ℕ) (ms : List (Member Tree)) (at : ℕ) (m : Member Tree) → at < length ms → m ≡ get_or ms at m → is_left_out besides m.key ≡ true → statements_beside besides terms id (drop at ms) ≡ statements_beside besides terms id (drop (at + 1) ms)
from_entry besides terms id ms at m within is h = ap (statements_beside besides terms id) (drop-next ms at m within is) ∙ rw h

from_property : (besides : List ℕ) (terms : List (Member Tree)) (id : List ℕ) (ms : List (Member Tree)) (at : ℕ) (m : Member Tree) → at < length ms → m ≡ get_or ms at m → is_left_out besides m.key ≡ false → statements_beside besides terms id (drop at ms) ≡ option_and_then (λ p. option_map (λ more. property_statement id p.0 p.1 ∷ more) (statements_beside besides terms id (drop (at + 1) ms))) (property_of terms m)
from_property besides terms id ms at m within is h = ap (statements_beside besides terms id) (drop-next ms at m within is) ∙ rw h

-- a turn of the loop at a member that gives no statement
pub turn_entry : {A : Type 0} (f : Statement → A) (besides : List ℕ) (whole : Option (List A)) (done : List A) (terms : List (Member Tree)) (id : List ℕ) (ms : List (Member Tree)) (at : ℕ) (m : Member Tree) → whole ≡ left f done (statements_beside besides terms id (drop at ms)) → at < length ms → m ≡ get_or ms at m → is_left_out besides m.key ≡ true → whole ≡ left f done (statements_beside besides terms id (drop (at + 1) ms))
turn_entry f besides whole done terms id ms at m h within is e = h ∙ ap (left f done) (from_entry besides terms id ms at m within is e)

one_more : {A : Type 0} (f : Statement → A) (done : List A) (s : Statement) (o : Option (List Statement)) → left f done (option_map (λ more. s ∷ more) o) ≡ left f (done ++ f s ∷ []) o
one_more f done s None = refl
one_more f done s (Some more) = ap Some (sym (append_assoc done (f s ∷ []) (map f more)))

-- a turn of the loop at a property
pub turn_property : {A : Type 0} (f : Statement → A) (besides : List ℕ) (whole : Option (List A)) (done : List A) (terms : List (Member Tree)) (id : List ℕ) (ms : List (Member Tree)) (at : ℕ) (m : Member Tree) (form : A) → whole ≡ left f done (statements_beside besides terms id (drop at ms)) → at < length ms → m ≡ get_or ms at m → is_left_out besides m.key ≡ false → option_map (λ p. f (property_statement id p.0 p.1)) (property_of terms m) ≡ Some form → whole ≡ left f (done ++ form ∷ []) (statements_beside besides terms id (drop (at + 1) ms))
turn_property {A} f besides whole done terms id ms at m form h within is e made =
    let p = option_map-Some (λ (p : List ℕ × List ℕ). f (property_statement id p.0 p.1)) (property_of terms m) form made in
    let rest : Option (List Statement) = statements_beside besides terms id (drop (at + 1) ms) in
    let here : statements_beside besides terms id (drop at ms) ≡ option_map (λ more. property_statement id p.0.0 p.0.1 ∷ more) rest =
    from_property besides terms id ms at m within is e ∙ ap (option_and_then (λ (q : List ℕ × List ℕ). option_map (λ more. property_statement id q.0 q.1 ∷ more) rest)) p.1 in
    h ∙ ap (left f done) here ∙ one_more f done (property_statement id p.0.0 p.0.1) rest ∙ ap (λ (a : A). left f (done ++ a ∷ []) rest) p.2

-- a turn of the loop at a member that refuses the document
pub turn_fault : {A : Type 0} (f : Statement → A) (besides : List ℕ) (whole : Option (List A)) (done : List A) (terms : List (Member Tree)) (id : List ℕ) (ms : List (Member Tree)) (at : ℕ) (m : Member Tree) (fault : FlatFault) → whole ≡ left f done (statements_beside besides terms id (drop at ms)) → at < length ms → m ≡ get_or ms at m → is_left_out besides m.key ≡ false → Builds (option_map (λ p. f (property_statement id p.0 p.1)) (property_of terms m)) (Err fault) → BuildsItems whole (Err fault)
turn_fault f besides whole done terms id ms at m NotBuilt h within is e missing =
    let none : property_of terms m ≡ None = option_map-None (λ (p : List ℕ × List ℕ). f (property_statement id p.0 p.1)) (property_of terms m) missing in
    let rest : Option (List Statement) = statements_beside besides terms id (drop (at + 1) ms) in
    h ∙ ap (left f done) (from_property besides terms id ms at m within is e ∙ ap (option_and_then (λ (q : List ℕ × List ℕ). option_map (λ more. property_statement id q.0 q.1 ∷ more) rest)) none)
turn_fault f besides whole done terms id ms at m Memory h within is e missing = tt

pub ruleset turns = (turn_entry, turn_property, turn_fault)

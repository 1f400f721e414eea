use Rattle.std.proofs.Common.{◌≡◌, [], length, map, ap, ◌∙◌, arith}
use Rattle.std.proofs.lemmas.Bool.Decides.{nat_tests}
use Rattle.json_tree.specs.declared.place.Place.{Place}
use Rattle.pointer_select.specs.Internal.Parts.{slices}
use Rattle.pointer_select.specs.Selection.{IsSelection}
use Rattle.pointer_select.proofs.Selections.{passed_on, stays_well_formed, stays_placed, stays_shallow}
use Rattle.pointer_select.proofs.selecting.select.Goals as goal

some : (c : goal.After-drop-places-2) → c.args.pointers.now ≡ [] → ⊥
some c none =
    let empty : length c.args.pointers.now ≡ 0 = ap length none in
    grind (arith, nat_tests, c.is_empty.ensures, c.if-is_empty.false, empty)

selection : (c : goal.After-drop-places-2) → IsSelection c.args.pointers.now c.args.tree.now c.in_ok-part.part
selection c = passed_on c.args.pointers.now c.args.tree.now c.in_ok-part.part c.in_ok-places.places.items (slices c.in_ok-pointed.pointed.items) (slices c.as_slice-2.result.now) c.requires (some c) c.in_ok-places.ensures.ok (c.in_ok-pointed.ensures ∙ ap (map (λ (p : Place). p.steps)) c.as_slice.ensures.value) (ap slices c.as_slice-2.ensures.value) c.in_ok-part.ensures

pub returns-clause-outcome : goal.returns-clause-outcome
returns-clause-outcome c = selection c

pub returns-clause-well_formed : goal.returns-clause-well_formed
returns-clause-well_formed c = stays_well_formed c.args.pointers.now c.args.tree.now c.in_ok-part.part (selection c)

pub returns-clause-placed : goal.returns-clause-placed
returns-clause-placed c = stays_placed c.args.pointers.now c.args.tree.now c.in_ok-part.part (selection c)

pub returns-clause-nesting : goal.returns-clause-nesting
returns-clause-nesting c = stays_shallow c.args.tree.now c.in_ok-part.part (slices c.as_slice-2.result.now) c.in_ok-part.ensures

use Rattle.std.proofs.Common.{sym, ◌∙◌}
use Rattle.json_tree.specs.declared.place.Step.TheVariants.{At}
use Rattle.json_tree.specs.Places.{child_of}
use Rattle.json_tree.proofs.Kept.{answer_has, child_lawful, child_well_formed, at_of_items, look-one}
use Rattle.json_tree.proofs.tree.Tree.get_at.Goals as goal

pub returns-clause-value : goal.returns-clause-value
returns-clause-value c = at_of_items _ c.args.self.now _ _ c.element.ensures (sym c.in_ok-as_list.ensures.items) ∙ sym (look-one c.args.self.now (At c.args.at))

pub returns-clause-lawful : goal.returns-clause-lawful
returns-clause-lawful c =
    let t = c.args.self.now in
    answer_has c.element.result (child_of t (At c.args.at)) _ (at_of_items _ t _ _ c.element.ensures (sym c.in_ok-as_list.ensures.items)) (λ u h. child_lawful t u (At c.args.at) c.requires h)

pub returns-clause-well_formed : goal.returns-clause-well_formed
returns-clause-well_formed c w =
    let t = c.args.self.now in
    answer_has c.element.result (child_of t (At c.args.at)) _ (at_of_items _ t _ _ c.element.ensures (sym c.in_ok-as_list.ensures.items)) (λ u h. child_well_formed t u (At c.args.at) w h)

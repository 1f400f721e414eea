use Rattle.std.proofs.Common.{sym}
use Rattle.json_tree.specs.declared.place.Step.TheVariants.{Key}
use Rattle.json_tree.specs.Places.{child_of}
use Rattle.json_tree.proofs.Kept.{answer_has, child_lawful, child_well_formed, key_of_members}
use Rattle.json_tree.proofs.tree.Tree.get.Goals as goal

pub returns-clause-lawful : goal.returns-clause-lawful
returns-clause-lawful c =
    let t = c.args.self.now in
    answer_has c.member.result (child_of t (Key c.args.key.now)) _ (key_of_members _ t _ _ c.member.ensures (sym c.in_ok-as_object.ensures.members)) (λ u h. child_lawful t u (Key c.args.key.now) c.requires h)

pub returns-clause-well_formed : goal.returns-clause-well_formed
returns-clause-well_formed c w =
    let t = c.args.self.now in
    answer_has c.member.result (child_of t (Key c.args.key.now)) _ (key_of_members _ t _ _ c.member.ensures (sym c.in_ok-as_object.ensures.members)) (λ u h. child_well_formed t u (Key c.args.key.now) w h)

use Rattle.json_tree.proofs.Kept.{look_lawful, look_well_formed}
use Rattle.json_tree.proofs.laws.what_stands_keeps_the_conditions.Goals as goal

pub returns-clause-lawful : goal.returns-clause-lawful
returns-clause-lawful c = λ place t u stands lawful. look_lawful place t u lawful stands

pub returns-clause-well_formed : goal.returns-clause-well_formed
returns-clause-well_formed c = λ place t u stands well_formed. look_well_formed place t u well_formed stands

use Rattle.stmt_groups.proofs.PartLemmas.{chosen_not_foreign, mandatory_not_foreign, mandatory_not_left, parts_in_place}
use Rattle.stmt_groups.proofs.laws.parts_lie_in_each_other.Goals as goal

pub returns-clause-in_place : goal.returns-clause-in_place
returns-clause-in_place c = parts_in_place

pub returns-clause-mandatory : goal.returns-clause-mandatory
returns-clause-mandatory c = mandatory_not_foreign

pub returns-clause-chosen : goal.returns-clause-chosen
returns-clause-chosen c = chosen_not_foreign

pub returns-clause-not_chosen : goal.returns-clause-not_chosen
returns-clause-not_chosen c = mandatory_not_left

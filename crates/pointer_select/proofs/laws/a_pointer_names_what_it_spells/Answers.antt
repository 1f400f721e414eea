use Rattle.pointer_select.proofs.Spelling.{leads, spells_place}
use Rattle.pointer_select.proofs.laws.a_pointer_names_what_it_spells.Goals as goal

pub returns-clause-stands : goal.returns-clause-stands
returns-clause-stands c = leads

pub returns-clause-spelled : goal.returns-clause-spelled
returns-clause-spelled c = spells_place

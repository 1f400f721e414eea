use Rattle.std.proofs.Common.{refl}
use Rattle.base64.proofs.OnLiterals.{base64_on_literals}
use Rattle.stmt_groups.proofs.MapLemmas.{map_adds_none, map_is_one_to_one, map_lacks_none, map_of_two, map_repeats_none}
use Rattle.stmt_groups.proofs.laws.label_maps_name_each_number_once.Goals as goal

pub returns-clause-is_one : goal.returns-clause-is_one
returns-clause-is_one c = map_of_two

pub returns-clause-no_number : goal.returns-clause-no_number
returns-clause-no_number c = map_lacks_none

pub returns-clause-twice : goal.returns-clause-twice
returns-clause-twice c = map_repeats_none

pub returns-clause-too_great : goal.returns-clause-too_great
returns-clause-too_great c = map_adds_none

pub returns-clause-one_digest : goal.returns-clause-one_digest
returns-clause-one_digest c = map_is_one_to_one

pub returns-clause-renames : goal.returns-clause-renames
unfolding base64_on_literals
returns-clause-renames c = λ b d. refl

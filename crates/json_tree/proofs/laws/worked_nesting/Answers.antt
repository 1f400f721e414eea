use Rattle.std.proofs.Common.{refl}
use Rattle.json_tree.proofs.Equations.{levels_of-Null, levels_of-Text, levels_of-Version, levels_of-List, levels_of-Object}
use Rattle.json_tree.proofs.laws.worked_nesting.Goals as goal

pub returns-clause-alone : goal.returns-clause-alone
returns-clause-alone c = rw levels_of-Null refl

pub returns-clause-empty : goal.returns-clause-empty
returns-clause-empty c = rw levels_of-List refl

pub returns-clause-inside : goal.returns-clause-inside
returns-clause-inside c = rw (levels_of-Object, levels_of-Version, levels_of-List, levels_of-Null, levels_of-List, levels_of-Text, levels_of-Version) refl

pub returns-clause-beside : goal.returns-clause-beside
returns-clause-beside c = rw (levels_of-List, levels_of-List) refl

use Rattle.ld_termdef.proofs.Counting.{result_alike, faults_alike}
use Rattle.ld_termdef.proofs.laws.only_the_entry_that_counts_matters.Goals as goal

pub returns-clause-result : goal.returns-clause-result
returns-clause-result x = λ g h c active protect change same p. result_alike g h (record { before = active; protect = protect; change = change; same = same }) c p

pub returns-clause-faults : goal.returns-clause-faults
returns-clause-faults c = λ g h x active protect change same f. faults_alike g h (record { before = active; protect = protect; change = change; same = same }) x f

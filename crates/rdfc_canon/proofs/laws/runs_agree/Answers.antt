use Rattle.rdfc_ndegree.proofs.RunAgree.{runs-agree}
use Rattle.rdfc_canon.proofs.laws.runs_agree.Goals as goal

pub returns-clause-tie : goal.returns-clause-tie
returns-clause-tie c = λ digest q r s x y. (runs-agree x y).0

pub returns-clause-labels : goal.returns-clause-labels
returns-clause-labels c = λ digest q r s x y h. (runs-agree x y).1 h

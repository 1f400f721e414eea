use Rattle.hmac_labels.proofs.SameBlanks.{known-same, labelled-same}
use Rattle.hmac_labels.proofs.laws.the_same_blank_nodes_have_labels.Goals as goal

pub returns-clause-known : goal.returns-clause-known
returns-clause-known c = λ hash key texts canonical given are known.
    known-same texts given.labels canonical are.blanks known

pub returns-clause-labelled : goal.returns-clause-labelled
returns-clause-labelled c = λ hash key texts canonical given quad are is.
    labelled-same texts given.labels canonical quad are.blanks is

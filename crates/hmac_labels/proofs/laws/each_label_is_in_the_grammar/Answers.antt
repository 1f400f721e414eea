use Rattle.hmac_labels.proofs.Grammar.{label-in_grammar}
use Rattle.hmac_labels.proofs.laws.each_label_is_in_the_grammar.Goals as goal

pub returns : goal.returns
returns c = label-in_grammar

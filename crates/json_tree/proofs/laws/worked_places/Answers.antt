use Rattle.std.proofs.Common.{refl}
use Rattle.json_tree.proofs.laws.worked_places.Goals as goal

pub returns-clause-numbers : goal.returns-clause-numbers
returns-clause-numbers c = refl

pub returns-clause-bytes : goal.returns-clause-bytes
returns-clause-bytes c = refl

pub returns-clause-index_first : goal.returns-clause-index_first
returns-clause-index_first c = refl

pub returns-clause-inside : goal.returns-clause-inside
returns-clause-inside c = refl

pub returns-clause-greatest_word : goal.returns-clause-greatest_word
returns-clause-greatest_word c = refl

pub returns-clause-above_words : goal.returns-clause-above_words
returns-clause-above_words c = refl

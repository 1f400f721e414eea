use Rattle.ld_words.proofs.UniqueSpellings.{keyword_of-exact}
use Rattle.ld_words.proofs.laws.keyword_of_is_exact.Goals as goal

pub returns : goal.returns
returns c = keyword_of-exact

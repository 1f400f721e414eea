use Rattle.std.proofs.Common.{refl}
use Rattle.ld_words.specs.Spellings.{keyword_text}
use Rattle.ld_words.proofs.UniqueSpellings.{keyword_of-exact}
use Rattle.ld_termdef.proofs.Readings.{reads_keyword, reads_nothing}
use Rattle.ld_termdef.proofs.laws.keywords_read_as_themselves.Goals as goal

pub returns-clause-keyword : goal.returns-clause-keyword
returns-clause-keyword c = λ x m k. reads_keyword x m (keyword_text k) k ((keyword_of-exact (keyword_text k) k).1 refl)

pub returns-clause-form : goal.returns-clause-form
returns-clause-form c = reads_nothing

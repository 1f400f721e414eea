use Rattle.ld_words.proofs.UniqueSpellings.{keyword_found}
use Rattle.ld_words.proofs.keyword_table.keyword.Goals as goal

pub returns-clause-found : goal.returns-clause-found
returns-clause-found c = keyword_found c.args.text.now c.find_keyword.result c.find_keyword.ensures.some

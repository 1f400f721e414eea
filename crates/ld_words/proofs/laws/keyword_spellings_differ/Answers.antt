use Rattle.ld_words.proofs.UniqueSpellings.{keyword_text_differs}
use Rattle.ld_words.proofs.laws.keyword_spellings_differ.Goals as goal

pub returns : goal.returns
returns c = keyword_text_differs

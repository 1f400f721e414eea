use Rattle.ld_words.proofs.UniqueSpellings.{code_text_differs}
use Rattle.ld_words.proofs.laws.code_spellings_differ.Goals as goal

pub returns : goal.returns
returns c = code_text_differs

use Rattle.ld_words.proofs.UniqueSpellings.{keyword_text-form}
use Rattle.ld_words.proofs.laws.keywords_have_their_form.Goals as goal

pub returns : goal.returns
returns c = keyword_text-form

use Rattle.ld_termdef.proofs.Readings.{document_mode, vocab_mode}
use Rattle.ld_termdef.proofs.laws.modes_look_at_their_parts.Goals as goal

pub returns-clause-document : goal.returns-clause-document
returns-clause-document c = document_mode

pub returns-clause-vocab : goal.returns-clause-vocab
returns-clause-vocab c = vocab_mode

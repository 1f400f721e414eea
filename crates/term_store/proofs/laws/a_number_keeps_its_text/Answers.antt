use Rattle.term_store.proofs.StoreLemmas.{Grows-Interns, text_at-Grows}
use Rattle.term_store.proofs.laws.a_number_keeps_its_text.Goals as goal

pub returns : goal.returns
returns c = record { grows = Grows-Interns; keeps = text_at-Grows }

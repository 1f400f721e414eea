use Rattle.jcs_text.proofs.Units.{code_units-below, code_units-characters, code_units-one}
use Rattle.jcs_text.proofs.laws.code_units_spell_the_characters.Goals as goal

pub returns : goal.returns
returns c = record { below = code_units-below; read = code_units-characters; one = code_units-one }

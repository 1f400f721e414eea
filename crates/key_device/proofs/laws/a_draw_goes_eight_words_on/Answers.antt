use Rattle.key_device.proofs.Drawing.{draw_on}
use Rattle.key_device.proofs.laws.a_draw_goes_eight_words_on.Goals as goal

pub returns : goal.returns
returns c = draw_on

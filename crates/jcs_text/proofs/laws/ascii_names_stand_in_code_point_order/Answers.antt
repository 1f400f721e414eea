use Rattle.jcs_text.proofs.Units.{names-ascii}
use Rattle.jcs_text.proofs.laws.ascii_names_stand_in_code_point_order.Goals as goal

pub returns : goal.returns
returns c = names-ascii

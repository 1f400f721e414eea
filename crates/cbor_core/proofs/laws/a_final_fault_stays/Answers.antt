use Rattle.cbor_core.proofs.Whole.{final_stays}
use Rattle.cbor_core.proofs.laws.a_final_fault_stays.Goals as goal

pub returns : goal.returns
returns c = λ bytes more fault final r. final_stays bytes more fault final r

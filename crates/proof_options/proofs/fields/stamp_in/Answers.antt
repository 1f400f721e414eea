use Rattle.std.proofs.Common.{refl}
use Rattle.proof_options.proofs.FirstBad.{no_stamp}
use Rattle.proof_options.proofs.fields.stamp_in.Goals as goal

pub returns-in-None-clause-judged : goal.returns-in-None-clause-judged
returns-in-None-clause-judged c =
    (refl, no_stamp c.as_str.result.now c.in-Some.text.now c.in_ok-stamp.field-0 _ c.in_ok-stamp.ensures c.in-None.is c.as_str.ensures c.in-Some.ensures)

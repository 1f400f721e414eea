use Rattle.std.proofs.Common.{ap, ◌∙◌}
use Rattle.std.specs.List.{concat}
use Rattle.vc_session.specs.Issuing.{no_label}
use Rattle.vc_session.proofs.commands.statements_of.Goals as goal

pub returns-in-Ok-join : goal.returns-in-Ok-join
returns-in-Ok-join c =
    let flat = c.in-Ok.ensures.ok.1 in (
      c.in-Ok.ensures.ok.0,
      record { meaning = flat.0; means = flat.1; is = c.from_vec.ensures ∙ c.in-Ok-join.ensures ∙ ap concat (c.as_slice.ensures ∙ flat.2 no_label) },
    )

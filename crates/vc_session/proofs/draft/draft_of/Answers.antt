use Rattle.vc_session.specs.declared.draft.Draft.{Draft}
use Rattle.vc_session.proofs.Drafting.{draft_printable}
use Rattle.vc_session.proofs.draft.draft_of.Goals as goal

pub returns-clause-printable : goal.returns-clause-printable
returns-clause-printable c =
    let d : Draft = record { document = c.in_ok-slot_for.field-0; options = c.in_ok-slot_for-2.field-0 } in
    draft_printable d c.args.document c.args.options c.in_ok-slot_for.ensures.puts c.in_ok-slot_for-2.ensures.puts c.requires.document c.requires.options

use Rattle.std.proofs.Common.{refl}
use Rattle.vc_session.specs.declared.tasks.IssueTask.{IssueTask}
use Rattle.vc_session.proofs.Flatness.{task_from_read, task_objects, task_printable}
use Rattle.vc_session.proofs.requests.issue_task.Goals as goal

pub returns-in-Some-clause-ok : goal.returns-in-Some-clause-ok
returns-in-Some-clause-ok c = task_from_read c.args.request c.in-Ok.read c.in-Ok.ensures.ok c.requires.lawful c.requires.in_range _ c.in-Some.ensures refl refl refl refl

pub returns-in-Some-clause-objects : goal.returns-in-Some-clause-objects
returns-in-Some-clause-objects c =
    let t : IssueTask = record { document = c.in-Some.document; options = c.in-Some.options; quads = c.in-Ok.read.quads; option_quads = c.in-Ok.read.option_quads; method = c.in-Ok.read.method; keys = c.in-Ok.read.keys } in
    task_objects c.args.request c.in-Ok.read c.in-Ok.ensures.ok c.requires.lawful c.requires.in_range t c.in-Some.ensures

pub returns-in-Some-clause-printable : goal.returns-in-Some-clause-printable
returns-in-Some-clause-printable c =
    let t : IssueTask = record { document = c.in-Some.document; options = c.in-Some.options; quads = c.in-Ok.read.quads; option_quads = c.in-Ok.read.option_quads; method = c.in-Ok.read.method; keys = c.in-Ok.read.keys } in
    task_printable c.args.request c.in-Ok.read c.in-Ok.ensures.ok c.requires.lawful c.requires.in_range t c.in-Some.ensures

use Rattle.std.proofs.Common.{sym}
use Rattle.iri_ref.proofs.Allowed.{resolution_absolute}
use Rattle.iri_ref.proofs.resolving.resolve.Goals as goal

pub returns-clause-absolute : goal.returns-clause-absolute
returns-clause-absolute c = resolution_absolute c.args.base.now c.args.reference.now c.in_ok-text_of_target.field-0 c.in_ok-text_of_target.ensures c.requires (sym c.in_default.ensures.first)

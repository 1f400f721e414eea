use Rattle.nquads.proofs.StoredLemmas.{number_line-spelled}
use Rattle.std.proofs.Common.{◌∙◌}
use Rattle.nquads.proofs.written.write_line.Goals as goal

pub returns : goal.returns
returns c = λ s is.
    c.in_ok-line.ensures ∙ number_line-spelled c.args.terms.now c.tell_apart.ensures c.args.labels.now c.requires.labels c.args.quad.now s c.requires.known is

use Rattle.std.proofs.Common.{string_bytes}
use Rattle.std.proofs.lemmas.Slice.Eq.{bytes_eq-Decides}
use Rattle.nquads.proofs.LabelLemmas.{blanks-differ}
use Rattle.nquads.proofs.labels.TextLabels.len.Goals as goal

pub returns-clause-differ : goal.returns-clause-differ
returns-clause-differ c =
    rw (← c.self.view_is)
    (blanks-differ string_bytes _ (λ a b e. (bytes_eq-Decides (string_bytes a) (string_bytes b)).1 e) c.self.inside.labels.entries c.len.ensures.unique)

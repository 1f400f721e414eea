use Rattle.std.proofs.Common.{ap, ◌∙◌, map}
use Rattle.nquads.specs.Internal.Parts.{number_line}
use Rattle.nquads.proofs.StoredLemmas.{kept-numbers}
use Rattle.nquads.proofs.written.write_lines.Goals as goal

pub returns : goal.returns
returns c = λ q same.
    let made = c.in_ok-lines.ensures ∙ ap (map (number_line c.args.terms.now c.args.labels.now)) c.as_slice.ensures.same in
    c.from_vec.ensures ∙ kept-numbers c.args.terms.now c.tell_apart.ensures c.args.labels.now c.requires.labels c.args.quads.now _ _ _ q c.requires.known made c.sort_unstable.ensures.permutation c.sort_unstable.ensures.sorted c.dedup.ensures.filtered same

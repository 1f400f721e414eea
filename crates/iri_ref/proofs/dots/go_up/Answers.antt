use Rattle.std.proofs.Common.{◌≡◌, ◌∙◌, ap, arith, length}
use Rattle.iri_ref.specs.Internal.Pieces.{borrowed_texts}
use Rattle.iri_ref.proofs.Walk.{up_more}
use Rattle.iri_ref.proofs.dots.go_up.Goals as goal

pub returns-then-count-gt1 : goal.returns-then-count-gt1
returns-then-count-gt1 c =
    let same : c.len-count.result ≡ length c.args.kept.now.items = omega (arith, c.len-count.ensures, c.args.kept.now.ok.0) in
    ap borrowed_texts c.truncate.ensures.items ∙ up_more c.args.kept.now.items c.len-count.result same c.if-count-gt1.true

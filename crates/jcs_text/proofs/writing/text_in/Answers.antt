use Rattle.std.proofs.Common.{ap, sym, subst, ◌∙◌, ◌++◌, IsUtf8}
use Rattle.std.proofs.lemmas.Bool.{false≢true}
use Rattle.json.specs.Print.{print}
use Rattle.jcs_text.proofs.writing.text_in.Goals as goal

pub unreachable-requires : goal.unreachable-requires
unreachable-requires c =
    let alone = c.into_inner.ensures.items ∙ ap (λ bs. bs ++ print c.args.out.tokens) c.requires in
    false≢true (c.in-Err.ensures.succeeds (subst IsUtf8 (sym alone) c.into_inner.ensures.utf8))

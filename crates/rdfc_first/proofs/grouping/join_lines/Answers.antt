use Rattle.std.proofs.Common.{sym, ap, ◌∙◌, ◌++◌, take, map, ◌∷◌, []}
use Rattle.std.specs.List.{concat}
use Rattle.std.proofs.lemmas.List.{take_more, map-append}
use Rattle.nquads.proofs.LineLemmas.{concat-push}
use Rattle.rdfc_first.specs.declared.mentions.MentionLine.{MentionLine}
use Rattle.rdfc_first.proofs.grouping.join_lines.Goals as goal

pub loop-line-preserved : goal.loop-line-preserved
loop-line-preserved c =
    let text = λ (m : MentionLine). m.line in
    let lines = c.args.lines.now in
    let i = c.loop-line.line-index in
    let l = c.line-item.result in
    c.in_ok-extend_from_slice.ensures.items
    ∙ (λ j. c.loop-line.invariant j ++ c.as_bytes.ensures j)
    ∙ sym (concat-push (map text (take i lines)) l.line)
    ∙ ap concat (sym (map-append text (take i lines) (l ∷ [])))
    ∙ ap (λ ms. concat (map text ms)) (ap (λ m. take i lines ++ m ∷ []) c.line-item.is ∙ sym (take_more lines i l c.loop-line-test.true))

use Rattle.std.proofs.Common.{◌≡◌, None, ap, ◌∙◌, string_bytes, ◌++◌, ◌∷◌, []}
use Rattle.indexmap.proofs.CallerLemmas.{insert_entry-new}
use Rattle.nquads.specs.Texts.{find_label, label}
use Rattle.nquads.proofs.LabelLemmas.{find_label-lookup, labels_of, labels_of-push}
use Rattle.nquads.proofs.labels.TextLabels.push.Goals as goal

pub returns-clause-ok : goal.returns-clause-ok
returns-clause-ok c =
    let entries = c.self.inside.labels.entries in
    let key = c.into_string.result in
    let none : find_label (labels_of string_bytes entries) (string_bytes key) ≡ None = ap (λ ls. find_label ls (string_bytes key)) c.self.view_is ∙ ap (find_label c.args.self.now) c.into_string.ensures ∙ c.requires in
    let absent = find_label-lookup string_bytes (string_bytes key) entries ∙ none in
    let added = c.in_ok-insert.ensures.entries ∙ insert_entry-new _ c.self.inside.labels key c.args.text absent in
    ap (labels_of string_bytes) added ∙ labels_of-push string_bytes entries key c.args.text
    ∙ ap (λ ls. ls ++ label (string_bytes key) c.args.text ∷ []) c.self.view_is
    ∙ ap (λ b. c.args.self.now ++ label b c.args.text ∷ []) c.into_string.ensures

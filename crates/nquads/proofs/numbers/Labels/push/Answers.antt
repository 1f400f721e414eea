use Rattle.std.proofs.Common.{◌≡◌, None, ap, ◌∙◌, ◌++◌, ◌∷◌, []}
use Rattle.indexmap.proofs.CallerLemmas.{insert_entry-new}
use Rattle.nquads.specs.Stored.{find_number, number_label}
use Rattle.nquads.proofs.NumberLemmas.{find_number-lookup, number_labels, number_labels-push}
use Rattle.nquads.proofs.numbers.Labels.push.Goals as goal

pub returns-clause-ok : goal.returns-clause-ok
returns-clause-ok c =
    let entries = c.self.inside.labels.entries in
    let key = c.args.blank.index in
    let none : find_number (number_labels entries) key ≡ None = ap (λ ls. find_number ls key) c.self.view_is ∙ c.requires in
    let absent = find_number-lookup key entries ∙ none in
    let added = c.in_ok-insert.ensures.entries ∙ insert_entry-new _ c.self.inside.labels key c.args.text absent in
    ap number_labels added ∙ number_labels-push entries key c.args.text
    ∙ ap (λ ls. ls ++ number_label key c.args.text ∷ []) c.self.view_is

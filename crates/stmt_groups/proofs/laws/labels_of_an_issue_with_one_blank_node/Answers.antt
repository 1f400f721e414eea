use Rattle.stmt_groups.proofs.IssueLemmas.{document_label, options_label}
use Rattle.stmt_groups.proofs.laws.labels_of_an_issue_with_one_blank_node.Goals as goal

pub returns-clause-document : goal.returns-clause-document
returns-clause-document c = document_label

pub returns-clause-options : goal.returns-clause-options
returns-clause-options c = options_label

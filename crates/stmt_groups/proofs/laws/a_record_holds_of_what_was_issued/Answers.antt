use Rattle.stmt_groups.proofs.Revealing.{options_same, document_reveals}
use Rattle.stmt_groups.proofs.laws.a_record_holds_of_what_was_issued.Goals as goal

pub returns-clause-options : goal.returns-clause-options
returns-clause-options c = λ issued issued_options document options mandatory indexes r made h. options_same issued issued_options mandatory r made document options indexes h

pub returns-clause-document : goal.returns-clause-document
returns-clause-document c = λ issued issued_options document options mandatory indexes r made h. document_reveals issued issued_options mandatory r made document options indexes h

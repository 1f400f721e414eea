use Rattle.vc_session.proofs.issuing.prepare.Goals as goal

pub returns-clause-record_is : goal.returns-clause-record_is
returns-clause-record_is c = λ q o are options_are labelled options_labelled. c.in_ok-base_record.ensures.is q o are options_are labelled options_labelled

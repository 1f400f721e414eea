use Rattle.stmt_groups.proofs.GroupLines.{make_record}
use Rattle.stmt_groups.proofs.laws.groups_make_the_record.Goals as goal

pub returns : goal.returns
returns c = λ options label p lines r labelled options_labelled are groups must rest opts.
    make_record label p lines labelled groups options r options_labelled are.mandatory_in_whole must rest opts

use Rattle.stmt_groups.proofs.Covering.{premises_cover}
use Rattle.stmt_groups.proofs.Naming.{covered_names_one}
use Rattle.stmt_groups.proofs.Revealing.{options_same, document_reveals}
use Rattle.stmt_groups.specs.Soundness.{NamesOne}
use Rattle.stmt_groups.proofs.laws.a_yes_reveals_one_issue.Goals as goal

pub returns : goal.returns
returns c = λ device history v document options good hold.
    let n : NamesOne history v = covered_names_one history device.accepts v good (premises_cover device history v good hold) document options in (
      n,
      λ issued issued_options mandatory made. (
        options_same issued issued_options mandatory n.one made v.document v.options v.proof.indexes n.holds,
        document_reveals issued issued_options mandatory n.one made v.document v.options v.proof.indexes n.holds,
      ),
    )

use Rattle.std.proofs.Common.{◌≡◌, ◌++◌, rules}
use Rattle.rdfc_ndegree.specs.Internal.Evaluations.{IsWithin, kept_tie}
use Rattle.rdfc_ndegree.proofs.Bests.{takes-less, takes-equal, takes-greater}
use Rattle.rdfc_ndegree.proofs.choice.Best.take.Goals as goal

pub returns-in_ok-to_vec-in-Less : goal.returns-in_ok-to_vec-in-Less
returns-in_ok-to_vec-in-Less c = λ i.
    let kept : IsWithin c.args.self.now.path c.args.self.now.tie → c.kept_tie-kept.result ≡ kept_tie c.args.evaluation.path c.args.self.now.path c.args.self.now.tie = rw (c.as_slice-in-Less.ensures, c.as_slice-in-Less-2.ensures) at c.kept_tie-kept.ensures in
    let named : c.from_vec.result ≡ c.args.named.now = search rules in
    rw (c.shorter-self.ensures, named) (takes-less c.args.self.now.path (i ++ c.args.self.now.named) c.args.self.now.sharing c.args.self.now.tie c.args.evaluation.path (i ++ c.args.named.now) c.args.evaluation.tie c.kept_tie-kept.result (rw c.as_slice.ensures at c.in-Less.ensures) kept)

pub returns-in-Equal : goal.returns-in-Equal
returns-in-Equal c = λ i.
    rw c.shorter-self-in-Equal.ensures (takes-equal c.args.self.now.path (i ++ c.args.self.now.named) c.args.self.now.sharing c.args.self.now.tie c.args.evaluation.path (i ++ c.args.named.now) c.args.evaluation.tie c.saturating_add-self.result (rw c.as_slice.ensures at c.in-Equal.ensures) c.saturating_add-self.ensures)

pub returns-in-Greater : goal.returns-in-Greater
returns-in-Greater c = λ i.
    let kept : IsWithin c.args.evaluation.path c.args.evaluation.tie → c.kept_tie-kept-in-Greater.result ≡ kept_tie c.args.self.now.path c.args.evaluation.path c.args.evaluation.tie = rw (c.as_slice-in-Greater.ensures, c.as_slice-in-Greater-2.ensures) at c.kept_tie-kept-in-Greater.ensures in
    rw c.shorter-self-in-Greater.ensures (takes-greater c.args.self.now.path (i ++ c.args.self.now.named) c.args.self.now.sharing c.args.self.now.tie c.args.evaluation.path (i ++ c.args.named.now) c.args.evaluation.tie c.kept_tie-kept-in-Greater.result (rw c.as_slice.ensures at c.in-Greater.ensures) kept)

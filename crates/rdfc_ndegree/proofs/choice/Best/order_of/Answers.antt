use Rattle.std.proofs.Common.{arith, ap, ◌∙◌}
use Rattle.std.specs.Cmp.Lexicographic.{slice_cmp}
use Rattle.std.specs.Ordering.{nat_cmp}
use Rattle.rdfc_ndegree.proofs.Bests.{place_of}
use Rattle.rdfc_ndegree.proofs.choice.Best.order_of.Goals as goal

pub returns : goal.returns
returns c = place_of c.args.self.now.path c.args.path.now c.args.self.now.sharing _ (omega arith) (c.cmp.ensures ∙ ap (slice_cmp nat_cmp c.args.path.now) c.as_slice.ensures)

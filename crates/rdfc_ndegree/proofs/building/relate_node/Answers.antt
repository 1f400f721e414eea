use Rattle.rdfc_ndegree.proofs.BuildLemmas.{push-three}
use Rattle.rdfc_ndegree.proofs.building.relate_node.Goals as goal

pub returns : goal.returns
returns c = push-three _ _ _ _ _ _ _ c.in-Some.is c.in_ok-push_related.ensures c.in_ok-push_related-2.ensures c.in_ok-push_related-3.ensures

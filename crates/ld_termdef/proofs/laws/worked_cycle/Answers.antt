use Rattle.std.proofs.Common.{◌≡◌, [], ◌∷◌, codes, Contains, refl, sym, subst}
use Rattle.base_types.proofs.Lists.{Contains-here, Contains-there}
use Rattle.json_tree.specs.declared.tree.Tree.{out-Tree}
use Rattle.json_tree.specs.declared.place.Step.TheVariants.{Key}
use Rattle.ld_termdef.specs.Entries.{entry_at}
use Rattle.ld_termdef.specs.Needs.{looks, Needs}
use Rattle.ld_termdef.specs.Needs.Reaches.{once}
use Rattle.ld_termdef.specs.DefinitionFaults.DefinitionFault.{cyclic}
use Rattle.ld_termdef.specs.Examples.{own_prefix, text_member}
use Rattle.ld_termdef.proofs.laws.worked_cycle.Goals as goal

pub returns : goal.returns
unfolding out-Tree denote.Hole.Carrier.out
returns c =
    let looked : looks own_prefix (codes "a") ≡ codes "a:x" ∷ codes "a" ∷ [] = refl in
    let needs : Needs own_prefix (codes "a") (codes "a") = record {
      looked = subst (λ us. Contains us (codes "a")) (sym looked) (Contains-there (codes "a:x") (codes "a" ∷ []) (codes "a") (Contains-here (codes "a") []));
      entered = refl;
    } in
    cyclic (codes "a") (entry_at (Key (codes "document") ∷ Key (codes "@context") ∷ []) (text_member (codes "a") (codes "a:x"))) record {
      needs_itself = once (codes "a") (codes "a") needs;
      entered = refl;
      is = refl;
    }

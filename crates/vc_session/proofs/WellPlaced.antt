-- A tree that is printed as it is is well formed.
use Rattle.json_tree.specs.declared.tree.Tree.{Tree}
use Rattle.json_tree.specs.WellFormed.{IsWellFormed}
use Rattle.json_tree.proofs.Versionless.{well_formed-whole}
use Rattle.vc_session.specs.Internal.Drafts.{IsPrintable}

-- what is printed as it is may be printed
pub well_formed : (t : Tree) → IsPrintable t → IsWellFormed t
well_formed t p = well_formed-whole t p.lawful p.in_range p.whole

pub ruleset printing = (well_formed)

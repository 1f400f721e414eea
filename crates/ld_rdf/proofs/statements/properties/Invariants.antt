use Rattle.std.proofs.Common.{◌≡◌, map, drop, option_map}
use Rattle.ld_rdf.specs.Internal.Parts.{statements_beside}
use Rattle.ld_rdf.proofs.LoopTurns.{left}
use Rattle.ld_rdf.proofs.statements.properties.Given as goal

-- what was made, followed by what the members left give
abbrev pub invariant-loop-member : goal.invariant-loop-member
invariant-loop-member g l =
    option_map (map g.F.Form.form_of) (statements_beside l.besides l.terms l.id l.members) ≡ left g.F.Form.form_of l.made.items (statements_beside l.besides l.terms l.id (drop l.member-index l.members))

use Rattle.std.proofs.Common.{◌≡◌, sym, ap, ◌∙◌, subst, map, Err, Option, List, option_map}
use Rattle.nquads.specs.Terms.{Statement}
use Rattle.nquads.specs.Spelling.{text_quad}
use Rattle.ld_rdf.specs.Internal.Outcomes.{BuildsItems}
use Rattle.ld_rdf.specs.declared.fault.FlatFault.TheVariants.{NotBuilt}
use Rattle.ld_rdf.proofs.Answering.{flat_ok, flat_means, flat_not_built}
use Rattle.ld_rdf.proofs.MadeRequests.{whole_made}
use Rattle.ld_rdf.proofs.statements.flat.Goals as goal

pub returns-in-Ok-clause-ok : goal.returns-in-Ok-clause-ok
returns-in-Ok-clause-ok c = flat_ok c.args.request.now c.requires _ _ (ap (option_map (map text_quad)) (whole_made c.args.request.now) ∙ c.in-Ok.ensures) c.from_vec.ensures.same c.from_vec.ensures.differ

pub returns-in-Ok-clause-statements : goal.returns-in-Ok-clause-statements
returns-in-Ok-clause-statements c = flat_means text_quad c.args.request.now c.requires _ (ap (option_map (map text_quad)) (whole_made c.args.request.now) ∙ c.in-Ok.ensures)

pub returns-in-Err-clause-not_built : goal.returns-in-Err-clause-not_built
returns-in-Err-clause-not_built c is =
    let refused : c.in-Err.fault ≡ NotBuilt = cc in
    flat_not_built text_quad c.args.request.now c.requires c.in-Err.fault (subst (λ (o : Option (List Statement)). BuildsItems (option_map (map text_quad) o) (Err c.in-Err.fault)) (sym (whole_made c.args.request.now)) c.in-Err.ensures) refused

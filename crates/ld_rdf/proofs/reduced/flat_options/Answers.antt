use Rattle.std.proofs.Common.{◌≡◌, sym, ap, ◌∙◌, subst, map, Err, Option, List, option_map}
use Rattle.nquads.specs.Terms.{Statement}
use Rattle.nquads.specs.Spelling.{text_quad}
use Rattle.json_tree.specs.Members.{without}
use Rattle.ld_rdf.specs.Reduced.{statements_request, with_context}
use Rattle.ld_rdf.specs.Internal.Outcomes.{BuildsItems}
use Rattle.ld_rdf.specs.declared.fault.FlatFault.TheVariants.{NotBuilt}
use Rattle.ld_rdf.proofs.Answering.{flat_ok, flat_means, flat_not_built}
use Rattle.ld_rdf.proofs.MadeRequests.{request_is_lawful, without_is_lawful, taking_is_lawful, options_made}
use Rattle.ld_rdf.proofs.reduced.flat_options.Goals as goal

pub returns-in-Ok-clause-ok : goal.returns-in-Ok-clause-ok
returns-in-Ok-clause-ok c =
    flat_ok (statements_request c.args.contexts.now (with_context c.args.context.now (without c.args.besides.now c.args.options.now)))
    (request_is_lawful c.args.contexts.now _ c.requires.contexts (taking_is_lawful c.args.context.now _ (without_is_lawful c.args.besides.now c.args.options.now c.requires.options)))
    _ _ (ap (option_map (map text_quad)) (options_made c.args.besides.now c.args.context.now c.args.contexts.now c.args.options.now) ∙ c.in-Ok.ensures) c.from_vec.ensures.same c.from_vec.ensures.differ

pub returns-in-Ok-clause-statements : goal.returns-in-Ok-clause-statements
returns-in-Ok-clause-statements c =
    flat_means text_quad (statements_request c.args.contexts.now (with_context c.args.context.now (without c.args.besides.now c.args.options.now)))
    (request_is_lawful c.args.contexts.now _ c.requires.contexts (taking_is_lawful c.args.context.now _ (without_is_lawful c.args.besides.now c.args.options.now c.requires.options)))
    _ (ap (option_map (map text_quad)) (options_made c.args.besides.now c.args.context.now c.args.contexts.now c.args.options.now) ∙ c.in-Ok.ensures)

pub returns-in-Err-clause-not_built : goal.returns-in-Err-clause-not_built
returns-in-Err-clause-not_built c is =
    let refused : c.in-Err.fault ≡ NotBuilt = cc in
    flat_not_built text_quad (statements_request c.args.contexts.now (with_context c.args.context.now (without c.args.besides.now c.args.options.now)))
    (request_is_lawful c.args.contexts.now _ c.requires.contexts (taking_is_lawful c.args.context.now _ (without_is_lawful c.args.besides.now c.args.options.now c.requires.options)))
    c.in-Err.fault (subst (λ (o : Option (List Statement)). BuildsItems (option_map (map text_quad) o) (Err c.in-Err.fault)) (sym (options_made c.args.besides.now c.args.context.now c.args.contexts.now c.args.options.now)) c.in-Err.ensures) refused

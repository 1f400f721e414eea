-- The statements of a flat request as one look at its document gives them: the form between the definition
-- of its meaning and the functions that leave a member out.
use Rattle.std.specs.Prelude.{ℕ, List, [], ◌∷◌, Option, Some, option_map, option_and_then, if◌then◌else◌}
use Rattle.json_tree.specs.declared.tree.Tree.{Tree}
use Rattle.json_tree.specs.declared.tree.Member.{Member}
use Rattle.json_tree.specs.Places.{members_of}
use Rattle.nquads.specs.Terms.{Statement}
use Rattle.ld_rdf.specs.Flat.{at_context, at_id, property_statement}
use Rattle.ld_rdf.specs.Internal.Parts.{SuppliedContext, agrees, is_id_or_context, member_text, only_if, property_of, supplied_context, two_in}

-- the statements of a document's members, in their order
abbrev pub statements_in : List (Member Tree) → List ℕ → List (Member Tree) → Option (List Statement)
statements_in terms id [] = Some []
statements_in terms id (m ∷ ms) =
    if is_id_or_context m.key then statements_in terms id ms
    else option_and_then (λ p. option_map (λ more. property_statement id p.0 p.1 ∷ more) (statements_in terms id ms)) (property_of terms m)

-- the statements of a document under the supplied context
abbrev pub document_statements : SuppliedContext → List (Member Tree) → Option (List Statement)
document_statements context members =
    option_and_then (λ id. option_and_then (λ chosen. only_if (agrees context.0 chosen id context.1) (statements_in context.1 id members)) (member_text at_context members))
    (member_text at_id members)

-- the statements of a flat request, and nothing for another
abbrev pub flat_statements : Tree → Option (List Statement)
flat_statements r =
    option_and_then (λ two. option_and_then (λ context. option_and_then (document_statements context) (members_of two.1)) (supplied_context two.0))
    (option_and_then two_in (members_of r))

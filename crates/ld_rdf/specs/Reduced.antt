-- Requests that are made of parts of another request: what is said of flat requests is said of
-- these too.
use Rattle.std.specs.Prelude.{ℕ, List, [], ◌∷◌, codes}
use Rattle.json_tree.specs.declared.tree.Tree.{Tree}
use Rattle.json_tree.specs.declared.tree.Tree.TheVariants as v
use Rattle.json_tree.specs.Trees.{new_member}
use Rattle.json_tree.specs.Members.{with_member}
use Rattle.ld_rdf.specs.Flat.{at_context}

-- the request for the statements of a document under these contexts
abbrev pub statements_request : Tree → Tree → Tree
statements_request contexts document =
    v.Object (new_member (codes "contexts") contexts ∷ new_member (codes "document") document ∷ [])

-- an object as a document that takes the context of that name
abbrev pub with_context : List ℕ → Tree → Tree
with_context name t = with_member at_context (v.Text name) t

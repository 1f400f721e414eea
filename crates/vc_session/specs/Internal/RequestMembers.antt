-- The parts of requests as their members give them, for the functions that take requests apart.
use Rattle.std.specs.Prelude.{◌≡◌, false, ℕ, List, [], ◌∷◌, Bool, ◌&&◌, map, All, is_none, is_some, Option, Some, None, option_map, option_and_then, codes}
use Rattle.std.specs.Option.{option_map_or}
use Rattle.std.specs.Str.{bytes_eq}
use Rattle.json_tree.specs.declared.tree.Tree.{Tree}
use Rattle.json_tree.specs.declared.tree.Member.{Member}
use Rattle.json_tree.specs.Places.{look, members_of, text_of}
use Rattle.nquads.specs.Terms.{IsStatement}
use Rattle.nquads.specs.Spelling.{text_quad}
use Rattle.ld_rdf.specs.Flat.{at_context}
use Rattle.ld_rdf.specs.Internal.Parts.{only_if}
use Rattle.vc_session.specs.Requests.{at, proof_name, value_name}
use Rattle.vc_session.specs.Issuing.{IsIssueCase, IssueCase}
use Rattle.vc_session.specs.declared.requests.IssueRead.{IssueRead}

-- the values of these five members, where there is no other
abbrev pub five_in : List (Member Tree) → Option (Tree × Tree × Tree × Tree × Tree)
five_in [] = None
five_in (c ∷ []) = None
five_in (c ∷ d ∷ []) = None
five_in (c ∷ d ∷ k ∷ []) = None
five_in (c ∷ d ∷ k ∷ m ∷ []) = None
five_in (c ∷ d ∷ k ∷ m ∷ o ∷ []) =
    only_if (
    bytes_eq c.key (codes "contexts") && bytes_eq d.key (codes "document")
    && bytes_eq k.key (codes "keys") && bytes_eq m.key (codes "mandatory")
    && bytes_eq o.key (codes "options"))
    (Some (c.value, d.value, k.value, m.value, o.value))
five_in (c ∷ d ∷ k ∷ m ∷ o ∷ x ∷ xs) = None

abbrev pub five_of : Tree → Option (Tree × Tree × Tree × Tree × Tree)
five_of t = option_and_then five_in (members_of t)

-- the values of the three members of a request for verifying, where there is no other
abbrev pub three_in : List (Member Tree) → Option (Tree × Tree × Tree)
three_in [] = None
three_in (c ∷ []) = None
three_in (c ∷ d ∷ []) = None
three_in (c ∷ d ∷ k ∷ []) =
    only_if (
    bytes_eq c.key (codes "contexts") && bytes_eq d.key (codes "document")
    && bytes_eq k.key (codes "keys"))
    (Some (c.value, d.value, k.value))
three_in (c ∷ d ∷ k ∷ x ∷ xs) = None

abbrev pub three_of : Tree → Option (Tree × Tree × Tree)
three_of t = option_and_then three_in (members_of t)

-- the text of the member of that name, whether it is this one, and whether there is no such member
abbrev pub text_under : List ℕ → Tree → Option (List ℕ)
text_under key t = option_and_then text_of (look (at key) t)

abbrev pub has_text : List ℕ → List ℕ → Tree → Bool
has_text key text t = option_map_or (λ s. bytes_eq s text) (text_under key t) false

abbrev pub lacks : List ℕ → Tree → Bool
lacks key t = is_none (look (at key) t)

-- whether options have the right type and suite, a purpose, no time and no context
abbrev pub has_form : Tree → Bool
has_form o =
    has_text (codes "type") (codes "DataIntegrityProof") o
    && has_text (codes "cryptosuite") (codes "ecdsa-sd-2023") o
    && is_some (text_under (codes "proofPurpose") o)
    && lacks (codes "created") o && lacks (codes "expires") o && lacks at_context o

-- the verification method of options of that form
abbrev pub method_in : Tree → Option (List ℕ)
method_in o = only_if (has_form o) (text_under (codes "verificationMethod") o)

-- the name of the context and the method, of a document without a proof and options without a value
abbrev pub issue_names : Tree → Tree → Option (List ℕ × List ℕ)
issue_names d o =
    only_if (lacks proof_name d && lacks value_name o)
    (option_and_then (λ name. option_map (λ method. (name, method)) (method_in o))
    (text_under at_context d))

-- the proof of a document, the name of its context, and the proof's method and value
abbrev pub proof_parts : Tree → Option (Tree × List ℕ × List ℕ × List ℕ)
proof_parts d =
    option_and_then (λ proof.
    option_and_then (λ name.
    option_and_then (λ method.
    option_map (λ value. (proof, name, method, value)) (text_under value_name proof))
    (method_in proof))
    (text_under at_context d))
    (look (at proof_name) d)

-- what was read of a request for issuing, beside its document and its options
pub record IsIssueRead (r : Tree) (t : IssueRead) : Type 0 where
  pub case_of : IssueCase
  pub is_case : IsIssueCase r case_of
  pub method : t.method ≡ case_of.parts.method
  pub keys : t.keys.entries ≡ case_of.parts.table
  pub quads : t.quads ≡ map text_quad case_of.statements
  pub option_quads : t.option_quads ≡ map text_quad case_of.options
  pub are_statements : All IsStatement case_of.statements
  pub are_options : All IsStatement case_of.options

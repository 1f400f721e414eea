-- Which task a request asks for.
use Rattle.std.specs.Prelude.{◌≡◌, true, List, map, All}
use Rattle.json_tree.specs.declared.tree.Tree.{Tree}
use Rattle.json_tree.specs.Trees.{is_lawful, is_in_range}
use Rattle.nquads.specs.Terms.{IsStatement, Statement}
use Rattle.nquads.specs.Spelling.{text_quad}
use Rattle.ld_rdf.specs.Flat.{IsFlatMeaning}
use Rattle.vc_session.specs.declared.tasks.IssueTask.{IssueTask}
use Rattle.vc_session.specs.declared.tasks.VerifyTask.{VerifyTask}
use Rattle.vc_session.specs.Requests.{IsVerify, VerifyParts, verify_body, verify_options}
use Rattle.vc_session.specs.Issuing.{IsIssueCase, IssueCase}

-- the task of a flat request for issuing
pub record IsIssueTask (r : Tree) (t : IssueTask) : Type 0 where
  pub case_of : IssueCase
  pub is_case : IsIssueCase r case_of
  pub document : t.document ≡ case_of.parts.document
  pub options : t.options ≡ case_of.parts.options
  pub method : t.method ≡ case_of.parts.method
  pub keys : t.keys.entries ≡ case_of.parts.table
  pub quads : t.quads ≡ map text_quad case_of.statements
  pub option_quads : t.option_quads ≡ map text_quad case_of.options
  pub are_statements : All IsStatement case_of.statements
  pub are_options : All IsStatement case_of.options
  pub lawful : (is_lawful t.document ≡ true) × (is_lawful t.options ≡ true)
  pub in_range : (is_in_range t.document ≡ true) × (is_in_range t.options ≡ true)

-- the task of a flat request for verifying
pub record IsVerifyTask (r : Tree) (t : VerifyTask) : Type 0 where
  pub parts : VerifyParts
  pub statements : List Statement
  pub option_statements : List Statement
  pub are : IsVerify r parts
  pub means : IsFlatMeaning (verify_body parts) statements
  pub options_mean : IsFlatMeaning (verify_options parts) option_statements
  pub method : t.method ≡ parts.method
  pub value : t.value ≡ parts.value
  pub keys : t.keys.entries ≡ parts.table
  pub quads : t.quads ≡ map text_quad statements
  pub option_quads : t.option_quads ≡ map text_quad option_statements
  pub are_statements : All IsStatement statements
  pub are_options : All IsStatement option_statements

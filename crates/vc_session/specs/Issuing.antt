-- What issuing answers. Data Integrity ECDSA Cryptosuites 1.0, create base proof (ecdsa-sd-2023).
use Rattle.std.specs.Prelude.{◌≡◌, ◌≢◌, ℕ, true, false, List, [], ◌∷◌, Some}
use Rattle.json_tree.specs.declared.tree.Tree.{Tree}
use Rattle.key_device.specs.declared.keys.Signature.{Signature}
use Rattle.key_device.specs.Devices.{DeviceMeaning, GrewBy, IsSecretTold, log_entry}
use Rattle.key_device.specs.Tables.{key_for}
use Rattle.nquads.specs.Terms.{Blank, Statement}
use Rattle.digest_mac.specs.declared.hash.Hash.TheVariants.{Sha256}
use Rattle.proof_cbor.specs.declared.value.BaseValue.{BaseValue}
use Rattle.proof_cbor.specs.Values.{SpellsBase}
use Rattle.ld_rdf.specs.Flat.{IsFlatMeaning}
use Rattle.stmt_groups.specs.declared.types.BaseRecord.{BaseRecord}
use Rattle.stmt_groups.specs.Datasets.{LabelledDataset}
use Rattle.stmt_groups.specs.Records.{IsRecord, sign_data}
use Rattle.vc_session.specs.Requests.{IssueParts, IsIssue, issue_body, issue_options, with_proof}

-- no blank node has a label
abbrev pub no_label : Blank → List ℕ
no_label b = []

-- statements without blank nodes need none
abbrev pub unlabelled : List Statement → LabelledDataset
unlabelled statements = record { statements = statements; label = no_label }

-- a flat request for issuing, with the statements of its document and of its options
pub record IssueCase : Type 0 where
  pub parts : IssueParts
  pub statements : List Statement
  pub options : List Statement

pub record IsIssueCase (r : Tree) (c : IssueCase) : Type 0 where
  pub are : IsIssue r c.parts
  pub means : IsFlatMeaning (issue_body c.parts) c.statements
  pub options_mean : IsFlatMeaning (issue_options c.parts) c.options

-- the bytes that the issuer signs with a record
abbrev pub signed_bytes : BaseRecord → List ℕ
signed_bytes made = sign_data made.options made.key made.mandatory

-- What was issued: the document with the given options and a proof value by SHA-256 whose statement
-- key is that of the record, whose secret is the one that the device told, and in which every
-- statement is mandatory. The record has the options' lines and the statements' lines; its issuer
-- key is that of the method, which the device owns; the issuer's signature is accepted, and the
-- device's log grew by exactly it.
pub record IsIssued (before after : DeviceMeaning)
    (c : IssueCase) (document : Tree) (made : BaseRecord) : Type 0 where
  pub some_statements : c.statements ≢ []
  pub value : BaseValue
  pub text : List ℕ
  pub signature : Signature
  pub document_is : document ≡ with_proof c.parts.document c.parts.options text
  pub spells : SpellsBase value text
  pub hash_is : value.hash ≡ Sha256
  pub key_is : value.key ≡ made.key.bytes
  pub signature_is : value.signature ≡ signature.bytes
  pub secret : IsSecretTold before value.secret
  pub no_signatures : value.signatures ≡ []
  pub pointers : value.pointers ≡ [] ∷ []
  pub issuer : key_for c.parts.table c.parts.method ≡ Some made.issuer
  pub is_record : IsRecord (unlabelled c.statements) (unlabelled c.options) c.statements made
  pub accepts : after.accepts made.issuer (signed_bytes made) signature ≡ true
  pub log_grows : GrewBy (log_entry made.issuer (signed_bytes made) signature) before after
  pub key_is_new : before.exact ≡ true → before.owns made.key ≡ false
  pub owns_key : after.owns made.key ≡ true
  pub owns_issuer : after.owns made.issuer ≡ true

-- Nothing was refused before the key table was asked: there are statements.
pub record IsAsked (r : Tree) (c : IssueCase) : Type 0 where
  pub is_case : IsIssueCase r c
  pub some_statements : c.statements ≢ []

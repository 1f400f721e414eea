-- Which reply each command gives to a request, and what it leaves of the device.
use Rattle.std.specs.Prelude.{◌≡◌, ◌≤◌, ◌⊎◌, ℕ, false, List, [], Ok, Err, Some, None, length}
use Rattle.base_types.specs.Counts.{HasRisen}
use Rattle.vc_io.specs.Bytes.{IsAllOf, IsMoreThan, SourceMeaning}
use Rattle.json_tree.specs.declared.tree.Tree.{Tree}
use Rattle.json_tree.specs.declared.tree.TreeFault.TheVariants as fault
use Rattle.json_tree.specs.declared.place.Place.{Place}
use Rattle.json_tree.specs.Places.{pointer_of}
use Rattle.json_tree.specs.Reads.{Reads}
use Rattle.nquads.specs.Terms.{Statement}
use Rattle.nquads.specs.Lines.{canonical_text}
use Rattle.ld_rdf.specs.Flat.{IsFlat, IsFlatMeaning}
use Rattle.vc_session.specs.declared.reply.Reply.{Reply}
use Rattle.vc_session.specs.declared.reply.Reply.TheVariants as reply
use Rattle.key_device.specs.declared.keys.KeyName.{KeyName}
use Rattle.key_device.specs.Devices.{Acceptance, CountsFault, DeviceMeaning, StillAccepts, StillOwns}
use Rattle.key_device.specs.Tables.{key_for}
use Rattle.proof_cbor.specs.declared.fault.ValueFault.{ValueFault}
use Rattle.proof_cbor.specs.declared.value.DerivedValue.{DerivedValue}
use Rattle.stmt_groups.specs.declared.types.BaseRecord.{BaseRecord}
use Rattle.stmt_groups.specs.declared.types.Cause.{Cause}
use Rattle.vc_session.specs.Replies.{input_limit}
use Rattle.vc_session.specs.Requests.{IsFlatIssue, IsFlatVerify, IsVerify, VerifyParts}
use Rattle.vc_session.specs.ReplyTrees.{issued_tree, line_of, no_key_tree, not_whole_tree, proof_value_tree, rejected_tree, unknown_method_tree, verified_tree}
use Rattle.vc_session.specs.Issuing.{IsAsked, IsIssueCase, IsIssued, IssueCase, no_label}
use Rattle.vc_session.specs.Verifying.{HasCause, IsPlainValue, IsRight, IsSound, IsVerifyCase, IsYes, RefusesBySha256, SpellsBySha256, VerifyCase, key_name}

-- the text is the canonical text of the flat meaning of the request
pub record IsTextOf (request : Tree) (text : List ℕ) : Type 0 where
  pub meaning : List Statement
  pub means : IsFlatMeaning request meaning
  pub is : text ≡ canonical_text no_label meaning

-- All of the input was read within the limit: these are its bytes, as far as the source tells them.
pub record IsInput (source : SourceMeaning) (bytes : List ℕ) : Type 0 where
  pub all : IsAllOf source bytes
  pub within : length bytes ≤ input_limit

-- what `statements` answers to a request
abbrev pub StatementsAnswers : Tree → Reply → Type 0
StatementsAnswers r (reply.Statements text) = IsFlat r × IsTextOf r text
StatementsAnswers r reply.NotBuilt = IsFlat r → ⊥
StatementsAnswers r other = ⊥

-- What `issue` answers to a request, over a device that meant this before and after. Each case is
-- one outcome, in the order of refusals.
abbrev pub IssueAnswers : DeviceMeaning → DeviceMeaning → Tree → Reply → Type 0
IssueAnswers before after r reply.NotBuilt = IsFlatIssue r → ⊥
IssueAnswers before after r reply.NoStatements =
    (c : IssueCase) × IsIssueCase r c × (c.statements ≡ [])
IssueAnswers before after r (reply.UnknownMethod line) =
    (c : IssueCase) × IsAsked r c
    × (key_for c.parts.table c.parts.method ≡ None)
    × (line ≡ line_of (unknown_method_tree c.parts.method))
IssueAnswers before after r (reply.NoKey line) =
    (c : IssueCase) × (key : KeyName) × IsAsked r c
    × (key_for c.parts.table c.parts.method ≡ Some key)
    × (after.owns key ≡ false)
    × (line ≡ line_of (no_key_tree key))
IssueAnswers before after r reply.DeviceFault = CountsFault before after
IssueAnswers before after r (reply.Document line) =
    (c : IssueCase) × (document : Tree) × (made : BaseRecord) × IsIssueCase r c
    × IsIssued before after c document made
    × (line ≡ line_of (issued_tree document (length c.statements) (length c.statements)))
IssueAnswers before after r other = ⊥

-- What `verify` answers to a request, over such a device.
abbrev pub VerifyAnswers : DeviceMeaning → DeviceMeaning → Tree → Reply → Type 0
VerifyAnswers before after r reply.NotBuilt =
    (IsFlatVerify r → ⊥)
    ⊎ ((p : VerifyParts) × (value : DerivedValue) × IsVerify r p
    × SpellsBySha256 value p.value × (IsPlainValue value → ⊥))
VerifyAnswers before after r (reply.ProofValue line) =
    (p : VerifyParts) × (fault : ValueFault) × IsVerify r p
    × RefusesBySha256 p.value fault
    × (line ≡ line_of (proof_value_tree fault))
VerifyAnswers before after r (reply.No line) =
    (c : VerifyCase) × (why : Cause) × IsVerifyCase r c
    × HasCause before.accepts c why
    × (line ≡ line_of (rejected_tree why))
VerifyAnswers before after r (reply.UnknownMethod line) =
    (c : VerifyCase) × IsVerifyCase r c × IsRight c
    × (key_for c.parts.table c.parts.method ≡ None)
    × (line ≡ line_of (unknown_method_tree c.parts.method))
VerifyAnswers before after r reply.DeviceFault = CountsFault before after
VerifyAnswers before after r (reply.Yes line) =
    (c : VerifyCase) × (issuer : KeyName) × IsVerifyCase r c
    × IsYes before.accepts c issuer
    × (line ≡ line_of (verified_tree issuer c.value.indexes (key_name c.value.key)
    (length c.statements)))
VerifyAnswers before after r other = ⊥

-- The reply to these bytes: why they are no tree, or what a command answers to their tree.
abbrev pub AnswersRead : (Tree → Reply → Type 0) → List ℕ → Reply → Type 0
AnswersRead answers bytes reply.NotJson = Reads bytes (Err fault.NotJson)
AnswersRead answers bytes reply.TreeTooDeep = Reads bytes (Err fault.TooDeep)
AnswersRead answers bytes (reply.NotWhole line) =
    (place : Place) × Reads bytes (Err (fault.NotWhole place))
    × (line ≡ line_of (not_whole_tree (pointer_of place.steps)))
AnswersRead answers bytes other =
    (request : Tree) × Reads bytes (Ok request) × answers request other

-- The reply to what is left in a source that meant this before and after. The cases exclude one
-- another, and out of memory is free.
abbrev pub AnswersRequest :
    (Tree → Reply → Type 0) → SourceMeaning → SourceMeaning → Reply → Type 0
AnswersRequest answers before after reply.TooLong = IsMoreThan input_limit before
AnswersRequest answers before after reply.ReadFault = HasRisen before.faults after.faults
AnswersRequest answers before after reply.Memory = Unit {0}
AnswersRequest answers before after reply.Usage = ⊥
AnswersRequest answers before after other =
    (bytes : List ℕ) × IsInput before bytes × AnswersRead answers bytes other

-- A document was issued for what was left, by a device that meant this before and after.
pub record HasIssued (source : SourceMeaning) (before after : DeviceMeaning) : Type 0 where
  pub bytes : List ℕ
  pub request : Tree
  pub issue_case : IssueCase
  pub document : Tree
  pub base_record : BaseRecord
  pub input : IsInput source bytes
  pub reads : Reads bytes (Ok request)
  pub is_case : IsIssueCase request issue_case
  pub is_issued : IsIssued before after issue_case document base_record

-- What a device has signed when this is replied: nothing, unless a document was issued, and that is
-- all. Where there is no memory, a document may have been issued, and only its reply be missing.
abbrev pub Signs : SourceMeaning → DeviceMeaning → DeviceMeaning → Reply → Type 0
Signs source before after (reply.Document line) = HasIssued source before after
Signs source before after reply.Memory =
    (after.log ≡ before.log) ⊎ HasIssued source before after
Signs source before after other = after.log ≡ before.log

-- What every command keeps of a device: what was accepted is accepted, the keys that were owned are
-- owned, it is exact where it was, and its count of faults does not fall.
pub record Keeps (before after : DeviceMeaning) : Type 0 where
  pub acceptance : StillAccepts before after
  pub ownership : StillOwns before after
  pub exactness : after.exact ≡ before.exact
  pub count : before.faults ≤ after.faults

-- A yes to the bytes that were left: the case that verifies with an issuer's key, and what that
-- says.
pub record HasSoundYes (source : SourceMeaning) (accepts : Acceptance) : Type 0 where
  pub bytes : List ℕ
  pub request : Tree
  pub verify_case : VerifyCase
  pub issuer : KeyName
  pub input : IsInput source bytes
  pub reads : Reads bytes (Ok request)
  pub is_case : IsVerifyCase request verify_case
  pub is_yes : IsYes accepts verify_case issuer
  pub is_sound : IsSound accepts verify_case issuer

-- a yes to what was left says what it should
abbrev pub HasSoundReply : SourceMeaning → Acceptance → Reply → Type 0
HasSoundReply source accepts (reply.Yes line) = HasSoundYes source accepts
HasSoundReply source accepts other = Unit {0}

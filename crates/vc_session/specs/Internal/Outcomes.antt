-- What reading a request, issuing and verifying give, and the reply to each.
use Rattle.std.specs.Prelude.{◌≡◌, ◌≢◌, ◌⊎◌, ℕ, false, true, List, [], ◌∷◌, Option, Some, None, Result, Ok, Err, length, replicate}
use Rattle.base_types.specs.Counts.{HasRisen}
use Rattle.vc_io.specs.Bytes.{IsMoreThan, SourceMeaning}
use Rattle.base_types.specs.Order.{rise}
use Rattle.json_tree.specs.declared.place.Place.{Place}
use Rattle.json_tree.specs.declared.tree.Tree.{Tree}
use Rattle.json_tree.specs.declared.tree.TreeFault.TheVariants as fault
use Rattle.json_tree.specs.Places.{pointer_of}
use Rattle.json_tree.specs.Reads.{Reads}
use Rattle.json_tree.specs.Trees.{is_in_range, is_lawful}
use Rattle.key_device.specs.declared.keys.KeyName.{KeyName}
use Rattle.key_device.specs.Devices.{Acceptance, CountsFault, DeviceMeaning}
use Rattle.key_device.specs.Tables.{key_for}
use Rattle.digest_mac.specs.declared.hash.Hash.TheVariants.{Sha256}
use Rattle.proof_cbor.specs.declared.fault.ValueFault.{ValueFault}
use Rattle.proof_cbor.specs.declared.value.BaseValue.{BaseValue}
use Rattle.proof_cbor.specs.declared.value.DerivedValue.{DerivedValue}
use Rattle.stmt_groups.specs.declared.types.BaseRecord.{BaseRecord}
use Rattle.stmt_groups.specs.declared.types.Cause.{Cause}
use Rattle.stmt_groups.specs.declared.types.Cause.TheVariants as cause
use Rattle.stmt_groups.specs.Lines.{other_lines}
use Rattle.stmt_groups.specs.Proofs.{AreBelow}
use Rattle.vc_session.specs.declared.issuing.IssuedDocument.{IssuedDocument}
use Rattle.vc_session.specs.declared.issuing.IssueFault.{IssueFault}
use Rattle.vc_session.specs.declared.issuing.IssueFault.TheVariants as unissued
use Rattle.vc_session.specs.declared.reply.Reply.{Reply}
use Rattle.vc_session.specs.declared.reply.Reply.TheVariants as reply
use Rattle.vc_session.specs.declared.verifying.AcceptedProof.{AcceptedProof}
use Rattle.vc_session.specs.declared.verifying.Verdict.{Verdict}
use Rattle.vc_session.specs.declared.verifying.Verdict.TheVariants as verdict
use Rattle.vc_session.specs.declared.verifying.VerifyFault.{VerifyFault}
use Rattle.vc_session.specs.declared.verifying.VerifyFault.TheVariants as unverified
use Rattle.vc_session.specs.Replies.{input_limit}
use Rattle.vc_session.specs.ReplyTrees.{issued_tree, line_of, no_key_tree, not_whole_tree, proof_value_tree, rejected_tree, unknown_method_tree, verified_tree}
use Rattle.vc_session.specs.Requests.{IsVerify, VerifyParts}
use Rattle.vc_session.specs.Issuing.{IsAsked, IsIssueCase, IsIssued, IssueCase}
use Rattle.vc_session.specs.Verifying.{HasCause, IsFirstOver, IsPlainValue, IsRight, IsSound, IsVerifyCase, IsYes, RefusesBySha256, SpellsBySha256, VerifyCase, key_name}
use Rattle.vc_session.specs.Answers.{IsInput}

-- ---- a request

-- bytes are no tree, and this is the reply
abbrev pub IsNoTree : List ℕ → Reply → Type 0
IsNoTree bytes reply.NotJson = Reads bytes (Err fault.NotJson)
IsNoTree bytes reply.TreeTooDeep = Reads bytes (Err fault.TooDeep)
IsNoTree bytes (reply.NotWhole line) =
    (place : Place) × Reads bytes (Err (fault.NotWhole place))
    × (line ≡ line_of (not_whole_tree (pointer_of place.steps)))
IsNoTree bytes reply.Memory = Unit {0}
IsNoTree bytes other = ⊥

-- the tree of bytes, which is lawful and in range, or the reply where they are none
abbrev pub IsTreeRead : List ℕ → Result Tree Reply → Type 0
IsTreeRead bytes (Ok t) = Reads bytes (Ok t) × (is_lawful t ≡ true) × (is_in_range t ≡ true)
IsTreeRead bytes (Err r) = IsNoTree bytes r

-- what was left was no request that can be answered, and this is the reply
abbrev pub IsUnread : SourceMeaning → SourceMeaning → Reply → Type 0
IsUnread before after reply.TooLong = IsMoreThan input_limit before
IsUnread before after reply.ReadFault = HasRisen before.faults after.faults
IsUnread before after reply.Memory = Unit {0}
IsUnread before after other = (bytes : List ℕ) × IsInput before bytes × IsNoTree bytes other

-- the request that was left, or the reply where there is none
abbrev pub IsInputRead : SourceMeaning → SourceMeaning → Result Tree Reply → Type 0
IsInputRead before after (Ok t) =
    (bytes : List ℕ) × IsInput before bytes × IsTreeRead bytes (Ok t)
IsInputRead before after (Err r) = IsUnread before after r

-- the reply to a request that was read; out of memory is free
abbrev pub IsReply : (Reply → Type 0) → Reply → Type 0
IsReply answers reply.Memory = Unit {0}
IsReply answers reply.NotJson = ⊥
IsReply answers reply.TreeTooDeep = ⊥
IsReply answers (reply.NotWhole line) = ⊥
IsReply answers reply.TooLong = ⊥
IsReply answers reply.ReadFault = ⊥
IsReply answers reply.Usage = ⊥
IsReply answers other = answers other

-- ---- issuing

-- a base value by SHA-256 in which every statement is mandatory
abbrev pub whole_value : List ℕ → List ℕ → List ℕ → BaseValue
whole_value key secret signature = record {
  hash = Sha256;
  signature = signature;
  key = key;
  secret = secret;
  signatures = [];
  pointers = [] ∷ [];
}

-- the signature that stands in a draft
unfoldable pub no_signature : List ℕ
no_signature = replicate 64 0

-- what issuing gives for a request, over a device that meant this before and after
abbrev pub Issues :
    DeviceMeaning → DeviceMeaning → Tree → Result IssuedDocument IssueFault → Type 0
Issues before after r (Ok made) =
    (c : IssueCase) × IsIssueCase r c
    × IsIssued before after c made.document made.base_record
    × (made.statements ≡ length c.statements)
Issues before after r (Err unissued.NoStatements) =
    (c : IssueCase) × IsIssueCase r c × (c.statements ≡ [])
Issues before after r (Err (unissued.UnknownMethod method)) =
    (c : IssueCase) × IsAsked r c
    × (key_for c.parts.table c.parts.method ≡ None) × (method ≡ c.parts.method)
Issues before after r (Err (unissued.NoKey key)) =
    (c : IssueCase) × IsAsked r c
    × (key_for c.parts.table c.parts.method ≡ Some key) × (after.owns key ≡ false)
Issues before after r (Err unissued.Device) = CountsFault before after
Issues before after r (Err unissued.Memory) = Unit {0}

-- a document was issued for a request
abbrev pub IsIssuedFor : Tree → DeviceMeaning → DeviceMeaning → Type 0
IsIssuedFor r before after =
    (c : IssueCase) × (document : Tree) × (made : BaseRecord) × IsIssueCase r c
    × IsIssued before after c document made

-- what a device has signed when this is replied to a request
abbrev pub SignsFor : Tree → DeviceMeaning → DeviceMeaning → Reply → Type 0
SignsFor r before after (reply.Document line) = IsIssuedFor r before after
SignsFor r before after reply.Memory =
    (after.log ≡ before.log) ⊎ IsIssuedFor r before after
SignsFor r before after other = after.log ≡ before.log

-- ---- verifying

-- what a text is read as: a value for statements that are all mandatory, another value, or none;
-- each by SHA-256
abbrev pub ReadsPlain : List ℕ → Result DerivedValue VerifyFault → Type 0
ReadsPlain text (Ok value) =
    SpellsBySha256 value text × IsPlainValue value × (rise value.indexes ≡ true)
ReadsPlain text (Err unverified.NotBuilt) =
    (value : DerivedValue) × SpellsBySha256 value text × (IsPlainValue value → ⊥)
ReadsPlain text (Err (unverified.Value why)) = RefusesBySha256 text why
ReadsPlain text (Err unverified.Memory) = Unit {0}
ReadsPlain text (Err other) = ⊥

-- the cause that is found before a key is asked for, of a proof without signatures over these lines
abbrev pub IsCauseOf : List (List ℕ) → List ℕ → Option Cause → Type 0
IsCauseOf lines indexes None =
    (lines ≢ []) × AreBelow lines indexes × (length (other_lines indexes lines) ≡ 0)
IsCauseOf lines indexes (Some cause.Nothing) = lines ≡ []
IsCauseOf lines indexes (Some (cause.Indexes k)) = (lines ≢ []) × IsFirstOver lines indexes k
IsCauseOf lines indexes (Some (cause.Count signatures statements)) =
    (lines ≢ []) × AreBelow lines indexes × (signatures ≡ 0)
    × (statements ≡ length (other_lines indexes lines)) × (statements ≢ 0)
IsCauseOf lines indexes (Some other) = ⊥

-- what verifying gives for a request, over a device that meant this before and after
abbrev pub Verifies :
    DeviceMeaning → DeviceMeaning → Tree → Result Verdict VerifyFault → Type 0
Verifies before after r (Ok (verdict.Yes a)) =
    (c : VerifyCase) × IsVerifyCase r c × IsYes before.accepts c a.issuer
    × IsSound before.accepts c a.issuer
    × (a.mandatory ≡ c.value.indexes) × (a.key ≡ key_name c.value.key)
    × (a.statements ≡ length c.statements)
Verifies before after r (Ok (verdict.No why)) =
    (c : VerifyCase) × IsVerifyCase r c × HasCause before.accepts c why
Verifies before after r (Err unverified.NotBuilt) =
    (p : VerifyParts) × (value : DerivedValue) × IsVerify r p
    × SpellsBySha256 value p.value × (IsPlainValue value → ⊥)
Verifies before after r (Err (unverified.Value why)) =
    (p : VerifyParts) × IsVerify r p × RefusesBySha256 p.value why
Verifies before after r (Err (unverified.UnknownMethod method)) =
    (c : VerifyCase) × IsVerifyCase r c × IsRight c
    × (key_for c.parts.table c.parts.method ≡ None) × (method ≡ c.parts.method)
Verifies before after r (Err unverified.Device) = CountsFault before after
Verifies before after r (Err unverified.Memory) = Unit {0}

-- ---- the replies

-- the line of an issued document
abbrev pub IsIssuedReply : IssuedDocument → Reply → Type 0
IsIssuedReply made (reply.Document line) =
    line ≡ line_of (issued_tree made.document made.statements made.statements)
IsIssuedReply made reply.Memory = Unit {0}
IsIssuedReply made other = ⊥

-- the line of an unknown method
abbrev pub IsUnknownReply : List ℕ → Reply → Type 0
IsUnknownReply method (reply.UnknownMethod line) = line ≡ line_of (unknown_method_tree method)
IsUnknownReply method reply.Memory = Unit {0}
IsUnknownReply method other = ⊥

-- the line of a key that is not owned
abbrev pub IsUnownedReply : KeyName → Reply → Type 0
IsUnownedReply key (reply.NoKey line) = line ≡ line_of (no_key_tree key)
IsUnownedReply key reply.Memory = Unit {0}
IsUnownedReply key other = ⊥

-- the line of a proof value that is none
abbrev pub IsValueReply : ValueFault → Reply → Type 0
IsValueReply why (reply.ProofValue line) = line ≡ line_of (proof_value_tree why)
IsValueReply why reply.Memory = Unit {0}
IsValueReply why other = ⊥

-- why nothing was issued
abbrev pub IsUnissuedReply : IssueFault → Reply → Type 0
IsUnissuedReply unissued.NoStatements r = r ≡ reply.NoStatements
IsUnissuedReply (unissued.UnknownMethod method) r = IsUnknownReply method r
IsUnissuedReply unissued.Device r = r ≡ reply.DeviceFault
IsUnissuedReply (unissued.NoKey key) r = IsUnownedReply key r
IsUnissuedReply unissued.Memory r = r ≡ reply.Memory

-- a yes, and a no
abbrev pub IsVerifiedReply : AcceptedProof → Reply → Type 0
IsVerifiedReply a (reply.Yes line) =
    line ≡ line_of (verified_tree a.issuer a.mandatory a.key a.statements)
IsVerifiedReply a reply.Memory = Unit {0}
IsVerifiedReply a other = ⊥

abbrev pub IsRejectedReply : Cause → Reply → Type 0
IsRejectedReply why (reply.No line) = line ≡ line_of (rejected_tree why)
IsRejectedReply why reply.Memory = Unit {0}
IsRejectedReply why other = ⊥

-- why there is no verdict
abbrev pub IsUnverifiedReply : VerifyFault → Reply → Type 0
IsUnverifiedReply unverified.NotBuilt r = r ≡ reply.NotBuilt
IsUnverifiedReply (unverified.Value why) r = IsValueReply why r
IsUnverifiedReply (unverified.UnknownMethod method) r = IsUnknownReply method r
IsUnverifiedReply unverified.Device r = r ≡ reply.DeviceFault
IsUnverifiedReply unverified.Memory r = r ≡ reply.Memory

-- a yes to this request says what it should
abbrev pub IsSoundReply : Tree → Acceptance → Reply → Type 0
IsSoundReply r accepts (reply.Yes line) =
    (c : VerifyCase) × (issuer : KeyName) × IsVerifyCase r c × IsYes accepts c issuer
    × IsSound accepts c issuer
IsSoundReply r accepts other = Unit {0}

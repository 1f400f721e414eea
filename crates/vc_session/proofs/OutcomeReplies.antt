-- From what reading, issuing and verifying give to the reply of a command.
use Rattle.std.proofs.Common.{◌≡◌, ◌≤◌, ℕ, List, length, Result, Ok, Err, inl, inr, refl, sym, ap, ◌∙◌, subst, arith}
use Rattle.vc_io.specs.Bytes.{IsAllOf, SourceMeaning}
use Rattle.json_tree.specs.declared.tree.Tree.{Tree}
use Rattle.json_tree.specs.Reads.{Reads}
use Rattle.key_device.specs.declared.keys.KeyName.{KeyName}
use Rattle.key_device.specs.Devices.{Acceptance, DeviceMeaning, MeansSame}
use Rattle.stmt_groups.specs.declared.types.Cause.{Cause}
use Rattle.vc_session.specs.declared.issuing.IssuedDocument.{IssuedDocument}
use Rattle.vc_session.specs.declared.issuing.IssueFault.{IssueFault}
use Rattle.vc_session.specs.declared.issuing.IssueFault.TheVariants as unissued
use Rattle.vc_session.specs.declared.reply.Reply.{Reply}
use Rattle.vc_session.specs.declared.reply.Reply.TheVariants as reply
use Rattle.vc_session.specs.declared.verifying.AcceptedProof.{AcceptedProof}
use Rattle.vc_session.specs.declared.verifying.Verdict.{Verdict}
use Rattle.vc_session.specs.declared.verifying.Verdict.TheVariants as verdict
use Rattle.vc_session.specs.declared.verifying.VerifyFault.{VerifyFault}
use Rattle.vc_session.specs.declared.verifying.VerifyFault.TheVariants as unverified
use Rattle.proof_cbor.specs.declared.fault.ValueFault.{ValueFault}
use Rattle.vc_session.specs.ReplyTrees.{issued_tree, line_of, unknown_method_tree, verified_tree}
use Rattle.vc_session.specs.Replies.{input_limit}
use Rattle.vc_session.specs.Answers.{AnswersRequest, HasIssued, HasSoundReply, IsInput, IssueAnswers, Signs, VerifyAnswers}
use Rattle.vc_session.specs.Internal.Outcomes.{IsInputRead, IsIssuedFor, IsIssuedReply, IsNoTree, IsRejectedReply, IsReply, IsSoundReply, IsTreeRead, IsUnissuedReply, IsUnknownReply, IsUnownedReply, IsUnread, IsUnverifiedReply, IsValueReply, IsVerifiedReply, Issues, SignsFor, Verifies}
use Rattle.vc_session.proofs.IssuedProofs.{keeps_self}

-- ---- the input

no_tree_unread : (before after : SourceMeaning) (bytes : List ℕ) (r : Reply) → IsInput before bytes → IsNoTree bytes r → IsUnread before after r
no_tree_unread before after bytes reply.TooLong input h = absurd h
no_tree_unread before after bytes reply.ReadFault input h = absurd h
no_tree_unread before after bytes reply.Memory input h = tt
no_tree_unread before after bytes other input h = (bytes, input, h)

tree_read : (before after : SourceMeaning) (bytes : List ℕ) (result : Result Tree Reply) → IsInput before bytes → IsTreeRead bytes result → IsInputRead before after result
tree_read before after bytes (Ok t) input h = (bytes, input, h)
tree_read before after bytes (Err r) input h = no_tree_unread before after bytes r input h

-- what was read within the limit is the input
pub input_read : (before after : SourceMeaning) (bytes seen : List ℕ) (result : Result Tree Reply) → seen ≡ bytes → IsAllOf before bytes → length bytes ≤ input_limit → IsTreeRead seen result → IsInputRead before after result
input_read before after bytes seen result same all within h =
    let input : IsInput before bytes = record { all = all; within = within } in
    tree_read before after bytes result input (subst (λ (bs : List ℕ). IsTreeRead bs result) same h)

-- ---- nothing was read

-- where nothing was read, every command replies so
pub unread_answers : (answers : Tree → Reply → Type 0) (before after : SourceMeaning) (r : Reply) → IsUnread before after r → AnswersRequest answers before after r
unread_answers answers before after reply.TooLong h = h
unread_answers answers before after reply.ReadFault h = h
unread_answers answers before after reply.Memory h = tt
unread_answers answers before after reply.NotJson h = h
unread_answers answers before after reply.TreeTooDeep h = h
unread_answers answers before after (reply.NotWhole line) h = h
unread_answers answers before after other h = absurd h.2

-- ---- a request was read

-- the reply to a request that was read
pub read_answers : (answers : Tree → Reply → Type 0) (before after : SourceMeaning) (bytes : List ℕ) (t : Tree) (r : Reply) → IsInput before bytes → Reads bytes (Ok t) → IsReply (answers t) r → AnswersRequest answers before after r
read_answers answers before after bytes t reply.Memory input reads a = tt
read_answers answers before after bytes t reply.NotJson input reads a = absurd a
read_answers answers before after bytes t reply.TreeTooDeep input reads a = absurd a
read_answers answers before after bytes t (reply.NotWhole line) input reads a = absurd a
read_answers answers before after bytes t reply.TooLong input reads a = absurd a
read_answers answers before after bytes t reply.ReadFault input reads a = absurd a
read_answers answers before after bytes t reply.Usage input reads a = absurd a
read_answers answers before after bytes t other input reads a = (bytes, input, (t, reads, a))

-- ---- issuing

module _ (before after : DeviceMeaning) (r : Tree) where
  pub issued_answers : (made : IssuedDocument) (answer : Reply) → Issues before after r (Ok made) → IsIssuedReply made answer → IsReply (IssueAnswers before after r) answer
  issued_answers made reply.Memory h line = tt
  issued_answers made (reply.Document text) h line =
      (h.0, made.document, made.base_record, h.1, h.2, line ∙ (λ i. line_of (issued_tree made.document (h.3 i) (h.3 i))))
  issued_answers made other h line = absurd line

  unknown_answers : (method : List ℕ) (answer : Reply) → Issues before after r (Err (unissued.UnknownMethod method)) → IsUnknownReply method answer → IsReply (IssueAnswers before after r) answer
  unknown_answers method reply.Memory h line = tt
  unknown_answers method (reply.UnknownMethod text) h line = (h.0, h.1, h.2, line ∙ ap (λ (m : List ℕ). line_of (unknown_method_tree m)) h.3)
  unknown_answers method other h line = absurd line

  unowned_answers : (key : KeyName) (answer : Reply) → Issues before after r (Err (unissued.NoKey key)) → IsUnownedReply key answer → IsReply (IssueAnswers before after r) answer
  unowned_answers key reply.Memory h line = tt
  unowned_answers key (reply.NoKey text) h line = (h.0, key, h.1, h.2, h.3, line)
  unowned_answers key other h line = absurd line

  pub unissued_answers : (fault : IssueFault) (answer : Reply) → Issues before after r (Err fault) → IsUnissuedReply fault answer → IsReply (IssueAnswers before after r) answer
  unissued_answers unissued.NoStatements answer h is = subst (IsReply (IssueAnswers before after r)) (sym is) h
  unissued_answers (unissued.UnknownMethod method) answer h is = unknown_answers method answer h is
  unissued_answers unissued.Device answer h is = subst (IsReply (IssueAnswers before after r)) (sym is) h
  unissued_answers (unissued.NoKey key) answer h is = unowned_answers key answer h is
  unissued_answers unissued.Memory answer h is = subst (IsReply (IssueAnswers before after r)) (sym is) tt

-- ---- what a device has signed

-- where nothing was read, nothing is signed
pub unread_signs : (source source_after : SourceMeaning) (device : DeviceMeaning) (r : Reply) → IsUnread source source_after r → Signs source device device r
unread_signs source source_after device (reply.Document line) h = absurd h.2
unread_signs source source_after device reply.Memory h = inl refl
unread_signs source source_after device other h = refl

-- what is signed for a request that was read
pub read_signs : (source : SourceMeaning) (before after : DeviceMeaning) (bytes : List ℕ) (t : Tree) (r : Reply) → IsInput source bytes → Reads bytes (Ok t) → SignsFor t before after r → Signs source before after r
read_signs source before after bytes t r input reads = by_reply r
  where
    told : IsIssuedFor t before after → HasIssued source before after
    told i = record { bytes = bytes; request = t; issue_case = i.0; document = i.1; base_record = i.2; input = input; reads = reads; is_case = i.3; is_issued = i.4 }

    by_reply : (r : Reply) → SignsFor t before after r → Signs source before after r
    by_reply (reply.Document line) h = told h
    by_reply reply.Memory h = elim h [ inl same ↦ inl same | inr i ↦ inr (told i) ]
    by_reply other h = h

module _ (before after : DeviceMeaning) (r : Tree) where
  pub issued_signs : (made : IssuedDocument) (answer : Reply) → Issues before after r (Ok made) → IsIssuedReply made answer → SignsFor r before after answer
  issued_signs made reply.Memory h line = inr (h.0, made.document, made.base_record, h.1, h.2)
  issued_signs made (reply.Document text) h line = (h.0, made.document, made.base_record, h.1, h.2)
  issued_signs made other h line = absurd line

  unknown_signs : (method : List ℕ) (answer : Reply) → after.log ≡ before.log → IsUnknownReply method answer → SignsFor r before after answer
  unknown_signs method (reply.Document text) same line = absurd line
  unknown_signs method reply.Memory same line = inl same
  unknown_signs method other same line = same

  unowned_signs : (key : KeyName) (answer : Reply) → after.log ≡ before.log → IsUnownedReply key answer → SignsFor r before after answer
  unowned_signs key (reply.Document text) same line = absurd line
  unowned_signs key reply.Memory same line = inl same
  unowned_signs key other same line = same

  pub unissued_signs : (fault : IssueFault) (answer : Reply) → after.log ≡ before.log → IsUnissuedReply fault answer → SignsFor r before after answer
  unissued_signs unissued.NoStatements answer same is = subst (SignsFor r before after) (sym is) same
  unissued_signs (unissued.UnknownMethod method) answer same is = unknown_signs method answer same is
  unissued_signs unissued.Device answer same is = subst (SignsFor r before after) (sym is) same
  unissued_signs (unissued.NoKey key) answer same is = unowned_signs key answer same is
  unissued_signs unissued.Memory answer same is = subst (SignsFor r before after) (sym is) (inl same)

-- ---- verifying

module _ (before after : DeviceMeaning) (r : Tree) where
  yes_answers : (a : AcceptedProof) (answer : Reply) → Verifies before after r (Ok (verdict.Yes a)) → IsVerifiedReply a answer → IsReply (VerifyAnswers before after r) answer
  yes_answers a reply.Memory h line = tt
  yes_answers a (reply.Yes text) h line =
      (h.0, a.issuer, h.1, h.2, line ∙ (λ i. line_of (verified_tree a.issuer (h.4 i) (h.5 i) (h.6 i))))
  yes_answers a other h line = absurd line

  pub verified_answers : (a : AcceptedProof) (said : Verdict) (answer : Reply) → said ≡ verdict.Yes a → Verifies before after r (Ok said) → IsVerifiedReply a answer → IsReply (VerifyAnswers before after r) answer
  verified_answers a said answer is h line = yes_answers a answer (subst (λ (v : Verdict). Verifies before after r (Ok v)) is h) line

  no_answers : (why : Cause) (answer : Reply) → Verifies before after r (Ok (verdict.No why)) → IsRejectedReply why answer → IsReply (VerifyAnswers before after r) answer
  no_answers why reply.Memory h line = tt
  no_answers why (reply.No text) h line = (h.0, why, h.1, h.2, line)
  no_answers why other h line = absurd line

  pub rejected_answers : (why : Cause) (said : Verdict) (answer : Reply) → said ≡ verdict.No why → Verifies before after r (Ok said) → IsRejectedReply why answer → IsReply (VerifyAnswers before after r) answer
  rejected_answers why said answer is h line = no_answers why answer (subst (λ (v : Verdict). Verifies before after r (Ok v)) is h) line

  unknown_method_answers : (method : List ℕ) (answer : Reply) → Verifies before after r (Err (unverified.UnknownMethod method)) → IsUnknownReply method answer → IsReply (VerifyAnswers before after r) answer
  unknown_method_answers method reply.Memory h line = tt
  unknown_method_answers method (reply.UnknownMethod text) h line = (h.0, h.1, h.2, h.3, line ∙ ap (λ (m : List ℕ). line_of (unknown_method_tree m)) h.4)
  unknown_method_answers method other h line = absurd line

  value_answers : (why : ValueFault) (answer : Reply) → Verifies before after r (Err (unverified.Value why)) → IsValueReply why answer → IsReply (VerifyAnswers before after r) answer
  value_answers why reply.Memory h line = tt
  value_answers why (reply.ProofValue text) h line = (h.0, why, h.1, h.2, line)
  value_answers why other h line = absurd line

  pub unverified_answers : (fault : VerifyFault) (answer : Reply) → Verifies before after r (Err fault) → IsUnverifiedReply fault answer → IsReply (VerifyAnswers before after r) answer
  unverified_answers unverified.NotBuilt answer h is = subst (IsReply (VerifyAnswers before after r)) (sym is) (inr h)
  unverified_answers (unverified.Value why) answer h is = value_answers why answer h is
  unverified_answers (unverified.UnknownMethod method) answer h is = unknown_method_answers method answer h is
  unverified_answers unverified.Device answer h is = subst (IsReply (VerifyAnswers before after r)) (sym is) h
  unverified_answers unverified.Memory answer h is = subst (IsReply (VerifyAnswers before after r)) (sym is) tt

-- ---- what a yes says

yes_sound : (before after : DeviceMeaning) (r : Tree) (a : AcceptedProof) (answer : Reply) → Verifies before after r (Ok (verdict.Yes a)) → IsSoundReply r before.accepts answer
yes_sound before after r a (reply.Yes text) h = (h.0, a.issuer, h.1, h.2, h.3)
yes_sound before after r a other h = tt

-- the reply to a yes says what it should
pub verified_sound : (before after : DeviceMeaning) (r : Tree) (a : AcceptedProof) (said : Verdict) (answer : Reply) → said ≡ verdict.Yes a → Verifies before after r (Ok said) → IsVerifiedReply a answer → IsSoundReply r before.accepts answer
verified_sound before after r a said answer is h line = yes_sound before after r a answer (subst (λ (v : Verdict). Verifies before after r (Ok v)) is h)

-- ---- what is no yes says nothing

-- a no claims nothing
pub rejected_sound : (r : Tree) (accepts : Acceptance) (why : Cause) (answer : Reply) → IsRejectedReply why answer → IsSoundReply r accepts answer
rejected_sound r accepts why (reply.Yes line) is = absurd is
rejected_sound r accepts why other is = tt

unknown_sound : (r : Tree) (accepts : Acceptance) (method : List ℕ) (answer : Reply) → IsUnknownReply method answer → IsSoundReply r accepts answer
unknown_sound r accepts method (reply.Yes line) is = absurd is
unknown_sound r accepts method other is = tt

value_sound : (r : Tree) (accepts : Acceptance) (why : ValueFault) (answer : Reply) → IsValueReply why answer → IsSoundReply r accepts answer
value_sound r accepts why (reply.Yes line) is = absurd is
value_sound r accepts why other is = tt

-- a refusal to verify claims nothing
pub unverified_sound : (r : Tree) (accepts : Acceptance) (fault : VerifyFault) (answer : Reply) → IsUnverifiedReply fault answer → IsSoundReply r accepts answer
unverified_sound r accepts unverified.NotBuilt answer is = subst (IsSoundReply r accepts) (sym is) tt
unverified_sound r accepts (unverified.Value why) answer is = value_sound r accepts why answer is
unverified_sound r accepts (unverified.UnknownMethod method) answer is = unknown_sound r accepts method answer is
unverified_sound r accepts unverified.Device answer is = subst (IsSoundReply r accepts) (sym is) tt
unverified_sound r accepts unverified.Memory answer is = subst (IsSoundReply r accepts) (sym is) tt

-- a reply to what was not read claims nothing
pub unread_sound : (before after : SourceMeaning) (accepts : Acceptance) (r : Reply) → IsUnread before after r → HasSoundReply before accepts r
unread_sound before after accepts (reply.Yes line) h = absurd h.2
unread_sound before after accepts other h = tt

-- a yes to a request that was read
pub read_sound : (source : SourceMeaning) (accepts : Acceptance) (bytes : List ℕ) (t : Tree) (r : Reply) → IsInput source bytes → Reads bytes (Ok t) → IsSoundReply t accepts r → HasSoundReply source accepts r
read_sound source accepts bytes t (reply.Yes line) input reads s = record { bytes = bytes; request = t; verify_case = s.0; issuer = s.1; input = input; reads = reads; is_case = s.2; is_yes = s.3; is_sound = s.4 }
read_sound source accepts bytes t other input reads s = tt

-- ---- what a device means

-- a device means the same as itself
pub means_itself : (device : DeviceMeaning) → MeansSame device device
means_itself device = record { acceptance = λ key bytes s. refl; ownership = λ key. refl; log = refl; exactness = refl }

pub ruleset statement_steps = (unread_answers, read_answers)

pub ruleset issue_steps = (unread_answers, read_answers, issued_answers, unissued_answers, keeps_self)

pub ruleset verify_steps = (unread_answers, read_answers, unread_sound, read_sound, verified_answers, verified_sound, rejected_answers, rejected_sound, unverified_answers, unverified_sound, means_itself)

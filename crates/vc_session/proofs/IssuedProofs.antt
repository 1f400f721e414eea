-- Base proofs that were issued: the value, the record, and what a device keeps.
use Rattle.std.proofs.Common.{◌≡◌, ℕ, ◌≤◌, List, [], ◌∷◌, length, map, true, false, Option, Some, refl, sym, ap, ◌∙◌, subst, arith}
use Rattle.std.specs.Prelude.{◌≢◌, ◌++◌, IfSome}
use Rattle.base_types.proofs.Lists.{Contains-nil}
use Rattle.cbor_core.specs.declared.item.Item.TheVariants as v
use Rattle.cbor_core.specs.Writing.{count_of, fits, encoding_of}
use Rattle.cbor_core.proofs.Lawful.{count-Blob, count-List, count-Text, is_spelled}
use Rattle.cbor_core.proofs.Writes.{fits-Blob, fits-List, fits_text}
use Rattle.std.proofs.lemmas.List.{length-map}
use Rattle.std.proofs.lemmas.Str.{IsUtf8-from_ascii}
use Rattle.std.proofs.lemmas.List.Elements.{Contains-get_or}
use Rattle.json_tree.specs.declared.tree.Tree.{Tree}
use Rattle.key_device.specs.declared.device.SignedEntry.{SignedEntry}
use Rattle.key_device.specs.declared.keys.KeyName.{KeyName}
use Rattle.key_device.specs.declared.keys.Signature.{Signature}
use Rattle.key_device.specs.Devices.{AcceptsSame, DeviceMeaning, GrewBy, IsSecretTold, MeansSame, OwnsSame, StillAccepts, StillOwns, log_entry}
use Rattle.key_device.specs.Tables.{key_for}
use Rattle.nquads.specs.Terms.{Statement}
use Rattle.nquads.specs.Spelling.{text_quad}
use Rattle.nquads.specs.Lines.{canonical_lines}
use Rattle.proof_cbor.specs.Values.{CanWriteBase, SpellsBase, base_item}
use Rattle.proof_cbor.proofs.Making.{base_nests, base_rises}
use Rattle.stmt_groups.specs.declared.types.BaseRecord.{BaseRecord}
use Rattle.stmt_groups.specs.Datasets.{IsLabelled}
use Rattle.stmt_groups.specs.Records.{IsRecord, IsSplit}
use Rattle.vc_session.specs.declared.tasks.IssueTask.{IssueTask}
use Rattle.vc_session.specs.Requests.{with_proof}
use Rattle.vc_session.specs.Issuing.{IsIssued, no_label, signed_bytes, unlabelled}
use Rattle.vc_session.specs.Answers.{Keeps}
use Rattle.vc_session.specs.Internal.Outcomes.{whole_value}
use Rattle.vc_session.specs.Internal.Tasks.{IsIssueTask}

-- ---- the proof value

module _ (key secret signature : List ℕ) where
  pub whole_count : count_of (base_item (whole_value key secret signature)) ≤ 100000
  unfolding base_item
  whole_count =
      let a = count-Blob signature in
      let b = count-Blob key in
      let c = count-Blob secret in
      let d = count-List [] in
      let e = count-List (v.Text [] ∷ []) in
      let f = count-Text [] in
      let all = count-List (v.Blob signature ∷ v.Blob key ∷ v.Blob secret ∷ v.List [] ∷ v.List (v.Text [] ∷ []) ∷ []) in
      omega arith

-- ---- the record

-- where every statement is mandatory there is no other
pub whole_split : (q : List Statement) → IsSplit q q []
whole_split q = record {
  part = λ i d below. Contains-get_or q i d below;
  rest = λ s. (λ c. absurd (Contains-nil s c), λ p. absurd (p.1 p.0));
}

-- the record of an issue in which every statement is mandatory
pub whole_record : (q o : List Statement) (made : BaseRecord) → made.mandatory ≡ canonical_lines no_label q → made.options ≡ canonical_lines no_label o → made.others ≡ [] → IsLabelled (unlabelled q) → IsLabelled (unlabelled o) → IsRecord (unlabelled q) (unlabelled o) q made
whole_record q o made mandatory options others labelled options_labelled = record { document_labels = labelled; options_labels = options_labelled; others = []; split = whole_split q; mandatory_lines = mandatory; other_lines = others; options_lines = options }

-- ---- the whole

-- a task with quads has statements
pub has_statements : (r : Tree) (t : IssueTask) (w : IsIssueTask r t) → (t.quads ≡ [] → ⊥) → w.case_of.statements ≢ []
has_statements r t w filled none = filled (w.quads ∙ ap (map text_quad) none)

-- a task without quads has no statements
pub no_quads : (r : Tree) (t : IssueTask) (w : IsIssueTask r t) → t.quads ≡ [] → w.case_of.statements ≡ []
no_quads r t w none = empty w.case_of.statements (sym w.quads ∙ none)
  where
    empty : (q : List Statement) → map text_quad q ≡ [] → q ≡ []
    empty [] e = refl
    empty (s ∷ ss) e = absurd cc

-- a task has as many quads as statements
pub statements_are : (r : Tree) (t : IssueTask) (w : IsIssueTask r t) → length t.quads ≡ length w.case_of.statements
statements_are r t w = ap length w.quads ∙ length-map w.case_of.statements text_quad

-- the key that is asked for is that of the method
pub key_asked : (r : Tree) (t : IssueTask) (w : IsIssueTask r t) (found : Option KeyName) → found ≡ key_for t.keys.entries t.method → key_for w.case_of.parts.table w.case_of.parts.method ≡ found
key_asked r t w found is = (λ i. key_for (sym w.keys i) (sym w.method i)) ∙ sym is

-- the document that is issued has the given proof
pub document_is : (r : Tree) (t : IssueTask) (w : IsIssueTask r t) (document : Tree) (text : List ℕ) → document ≡ with_proof t.document t.options text → document ≡ with_proof w.case_of.parts.document w.case_of.parts.options text
document_is r t w document text is = is ∙ (λ i. with_proof (w.document i) (w.options i) text)

-- what was issued, from what each stage gave
pub issued_is : (before after : DeviceMeaning) (r : Tree) (t : IssueTask) (w : IsIssueTask r t) (document : Tree) (made : BaseRecord) (issuer key : KeyName) (secret : List ℕ) (signature : Signature) (text bytes : List ℕ)
    → (t.quads ≡ [] → ⊥)
    → document ≡ with_proof t.document t.options text
    → SpellsBase (whole_value key.bytes secret signature.bytes) text
    → IsSecretTold before secret
    → Some issuer ≡ key_for t.keys.entries t.method
    → made.issuer ≡ issuer
    → made.key ≡ key
    → IsRecord (unlabelled w.case_of.statements) (unlabelled w.case_of.options) w.case_of.statements made
    → bytes ≡ signed_bytes made
    → after.accepts issuer bytes signature ≡ true
    → GrewBy (log_entry issuer bytes signature) before after
    → (before.exact ≡ true → before.owns key ≡ false)
    → after.owns key ≡ true
    → after.owns issuer ≡ true
    → IsIssued before after w.case_of document made
issued_is before after r t w document made issuer key secret signature text bytes some is spells told found issuer_is key_is record_is are accepted grew new owned issuer_owned = record {
  some_statements = has_statements r t w some;
  value = whole_value key.bytes secret signature.bytes;
  text = text;
  signature = signature;
  document_is = document_is r t w document text is;
  spells = spells;
  hash_is = refl;
  key_is = ap (λ (k : KeyName). k.bytes) (sym key_is);
  signature_is = refl;
  secret = told;
  no_signatures = refl;
  pointers = refl;
  issuer = key_asked r t w (Some issuer) found ∙ ap Some (sym issuer_is);
  is_record = record_is;
  accepts = (λ i. after.accepts (issuer_is i) (sym are i) signature) ∙ accepted;
  log_grows = subst (λ (k : KeyName). GrewBy (log_entry k (signed_bytes made) signature) before after) (sym issuer_is)
      (subst (λ (bs : List ℕ). GrewBy (log_entry issuer bs signature) before after) are grew);
  key_is_new = λ e. ap before.owns key_is ∙ new e;
  owns_key = ap after.owns key_is ∙ owned;
  owns_issuer = ap after.owns issuer_is ∙ issuer_owned;
}

-- a log that was the same before a call grew by the call as it would have from the first
pub grew_from : (e : SignedEntry) (first before after : DeviceMeaning) → before.log ≡ first.log → GrewBy e before after → GrewBy e first after
grew_from e first before after same grew = subst (λ (l : Option (List SignedEntry)). IfSome l (λ entries. after.log ≡ Some (entries ++ e ∷ []))) same grew

-- ---- what a device keeps

-- a device that is not used keeps all
pub keeps_self : (device : DeviceMeaning) → Keeps device device
keeps_self device = record { acceptance = λ key bytes s e. e; ownership = λ key e. e; exactness = refl; count = omega arith }

-- what is kept by two calls, one after the other, is kept
pub keeps_both : (first second third : DeviceMeaning) → Keeps first second → Keeps second third → Keeps first third
keeps_both first second third a b = record {
  acceptance = λ key bytes s e. b.acceptance key bytes s (a.acceptance key bytes s e);
  ownership = λ key e. b.ownership key (a.ownership key e);
  exactness = b.exactness ∙ a.exactness;
  count = let x = a.count in let y = b.count in omega arith;
}

-- what means the same, with no fewer faults, keeps all
pub keeps_same : (before after : DeviceMeaning) → MeansSame before after → before.faults ≤ after.faults → Keeps before after
keeps_same before after same count = record {
  acceptance = λ key bytes s e. same.acceptance key bytes s ∙ e;
  ownership = λ key e. same.ownership key ∙ e;
  exactness = same.exactness;
  count = count;
}

-- so does what accepts and owns as much
pub key_keeps : (before after : DeviceMeaning) → AcceptsSame before after → StillOwns before after → after.exact ≡ before.exact → before.faults ≤ after.faults → Keeps before after
key_keeps before after acceptance ownership exactness count = record {
  acceptance = λ key bytes s e. acceptance key bytes s ∙ e;
  ownership = ownership;
  exactness = exactness;
  count = count;
}

-- and one for a signature
pub sign_keeps : (before after : DeviceMeaning) → StillAccepts before after → OwnsSame before after → after.exact ≡ before.exact → before.faults ≤ after.faults → Keeps before after
sign_keeps before after acceptance ownership exactness count = record {
  acceptance = acceptance;
  ownership = λ key e. ownership key ∙ e;
  exactness = exactness;
  count = count;
}

pub ruleset keeping = (keeps_self, keeps_same, key_keeps, sign_keeps)

pub ruleset draft_steps = (whole_count, whole_record)

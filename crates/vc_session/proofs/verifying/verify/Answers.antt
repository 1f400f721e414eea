use Rattle.std.proofs.Common.{rules, ◌≡◌, ℕ, true, false, List, [], length, Some, None, Err, refl, sym, ap, subst, ◌∙◌}
use Rattle.std.proofs.lemmas.List.{length-map}
use Rattle.key_device.specs.declared.device.DeviceError.{DeviceError}
use Rattle.key_device.specs.Tables.{key_for}
use Rattle.nquads.specs.Spelling.{text_quad}
use Rattle.stmt_groups.specs.Records.{sign_data}
use Rattle.vc_session.specs.Internal.Outcomes.{IsCauseOf, ReadsPlain}
use Rattle.vc_session.specs.Verifying.{SpellsBySha256, key_name, signature}
use Rattle.vc_session.proofs.Verdicts.{case_of, cause_is, checked_are, is_case_of, is_good, is_no, is_right, is_yes, no_memory, sound_of, value_failed}
use Rattle.vc_session.proofs.verifying.verify.Goals as goal

pub returns-in-Some-clause-outcome : goal.returns-in-Some-clause-outcome
returns-in-Some-clause-outcome g c = λ r w.
    let value = c.in_ok-value.value in
    let plain = c.in_ok-value.ensures.1 in
    let h : IsCauseOf c.in_ok-lines.lines value.indexes (Some c.in-Some.cause) =
    subst (λ (ls : List (List ℕ)). IsCauseOf ls value.indexes (Some c.in-Some.cause)) c.as_slice.ensures (subst (λ (xs : List ℕ). IsCauseOf c.as_slice.result.now xs (Some c.in-Some.cause)) c.as_slice-2.ensures c.in-Some.ensures) in (
      case_of r c.args.task w value,
      is_case_of r c.args.task w value (subst (SpellsBySha256 value) c.as_str.ensures c.in_ok-value.ensures.0) plain,
      cause_is r c.args.task w value (g.D.KeyDevice.means c.args.device.now).accepts c.in_ok-lines.lines c.in-Some.cause plain.0 (c.in_ok-lines.ensures w.statements w.quads) h,
    )

pub returns-in_default-find-clause-outcome : goal.returns-in_default-find-clause-outcome
returns-in_default-find-clause-outcome g c = λ r w.
    let value = c.in_ok-value.value in
    let plain = c.in_ok-value.ensures.1 in
    let h : IsCauseOf c.in_ok-lines.lines value.indexes None = rw (c.as_slice.ensures, c.as_slice-2.ensures) at c.in_default.ensures in
    let none : key_for c.args.task.keys.entries c.args.task.method ≡ None = search rules in (
      case_of r c.args.task w value,
      is_case_of r c.args.task w value (subst (SpellsBySha256 value) c.as_str.ensures c.in_ok-value.ensures.0) plain,
      is_right r c.args.task w value c.in_ok-lines.lines (c.in_ok-lines.ensures w.statements w.quads) plain.0 h,
      (λ i. key_for (sym w.keys i) (sym w.method i)) ∙ none,
      w.method,
    )

pub returns-in_err-value-clause-outcome : goal.returns-in_err-value-clause-outcome
returns-in_err-value-clause-outcome g c = λ r w.
    let device = g.D.KeyDevice.means c.args.device.now in
    let h : ReadsPlain c.args.task.value (Err c.in_err-value.field-0.0) = subst (λ (text : List ℕ). ReadsPlain text (Err c.in_err-value.field-0.0)) c.as_str.ensures c.in_err-value.ensures in
    value_failed device device r c.args.task w c.from_residual.result c.in_err-value.field-0.0 c.from_residual.ensures.1 h

pub returns-in_err-lines-clause-outcome : goal.returns-in_err-lines-clause-outcome
returns-in_err-lines-clause-outcome g c = λ r w.
    let device = g.D.KeyDevice.means c.args.device.now in
    no_memory device device r c.from_residual-in_err-lines.result c.from_residual-in_err-lines.ensures.1

pub returns-in_err-option_lines-clause-outcome : goal.returns-in_err-option_lines-clause-outcome
returns-in_err-option_lines-clause-outcome g c = λ r w.
    let device = g.D.KeyDevice.means c.args.device.now in
    no_memory device device r c.from_residual-in_err-option_lines.result c.from_residual-in_err-option_lines.ensures.1

pub returns-in_err-bytes-clause-outcome : goal.returns-in_err-bytes-clause-outcome
returns-in_err-bytes-clause-outcome g c = λ r w.
    let device = g.D.KeyDevice.means c.args.device.now in
    no_memory device device r c.from_residual-in_err-bytes.result c.from_residual-in_err-bytes.ensures.1

pub returns-in-Ok-true-clause-outcome : goal.returns-in-Ok-true-clause-outcome
returns-in-Ok-true-clause-outcome g c = λ r w.
    let task = c.args.task in
    let value = c.in_ok-value.value in
    let lines = c.in_ok-lines.lines in
    let option_lines = c.in_ok-option_lines.option_lines in
    let issuer = c.in-Some-find.issuer in
    let bytes = c.deref.result.now in
    let accepts = (g.D.KeyDevice.means c.args.device.now).accepts in
    let plain = c.in_ok-value.ensures.1 in
    let reads = subst (SpellsBySha256 value) c.as_str.ensures c.in_ok-value.ensures.0 in
    let are = c.in_ok-lines.ensures w.statements w.quads in
    let h : IsCauseOf lines value.indexes None = rw (c.as_slice.ensures, c.as_slice-2.ensures) at c.in_default.ensures in
    let given : Some issuer ≡ key_for task.keys.entries c.as_str-2.result.now = c.in-Some-find.ensures in
    let found : key_for task.keys.entries task.method ≡ Some issuer = ap (key_for task.keys.entries) (sym c.as_str-2.ensures) ∙ sym given in
    let same : bytes ≡ c.in_ok-bytes.bytes.items = c.deref.ensures.value in
    let made : c.in_ok-bytes.bytes.items ≡ sign_data c.as_slice-3.result.now (key_name value.key) c.as_slice-4.result.now = c.in_ok-bytes.ensures in
    let is : bytes ≡ sign_data option_lines (key_name value.key) lines = same ∙ made ∙ (λ i. sign_data (c.as_slice-3.ensures i) (key_name value.key) (c.as_slice-4.ensures i)) in
    let checked = checked_are r task w value lines are plain.0 h accepts issuer found option_lines bytes (c.in_ok-option_lines.ensures w.option_statements w.option_quads) is in
    let answer : c.in-Ok-true.field-0 ≡ accepts issuer bytes (signature value.signature) = c.in-Ok-true.ensures.answer in
    let test : c.in-Ok-true.field-0 ≡ true = c.in-Ok-true.field-0-test in
    let good = is_good r task w value lines are plain.0 h accepts issuer found bytes checked (sym test ∙ answer) in
    let counted : c.len.result ≡ length task.quads = c.len.ensures in (
      case_of r task w value,
      is_case_of r task w value reads plain,
      is_yes r task w value lines are plain.0 h accepts issuer found good,
      sound_of r task w value accepts issuer good,
      refl,
      refl,
      counted ∙ ap length w.quads ∙ length-map w.statements text_quad,
    )

pub returns-in-Ok-false-clause-outcome : goal.returns-in-Ok-false-clause-outcome
returns-in-Ok-false-clause-outcome g c = λ r w.
    let task = c.args.task in
    let value = c.in_ok-value.value in
    let lines = c.in_ok-lines.lines in
    let option_lines = c.in_ok-option_lines.option_lines in
    let issuer = c.in-Some-find.issuer in
    let bytes = c.deref.result.now in
    let accepts = (g.D.KeyDevice.means c.args.device.now).accepts in
    let plain = c.in_ok-value.ensures.1 in
    let reads = subst (SpellsBySha256 value) c.as_str.ensures c.in_ok-value.ensures.0 in
    let are = c.in_ok-lines.ensures w.statements w.quads in
    let h : IsCauseOf lines value.indexes None = rw (c.as_slice.ensures, c.as_slice-2.ensures) at c.in_default.ensures in
    let given : Some issuer ≡ key_for task.keys.entries c.as_str-2.result.now = c.in-Some-find.ensures in
    let found : key_for task.keys.entries task.method ≡ Some issuer = ap (key_for task.keys.entries) (sym c.as_str-2.ensures) ∙ sym given in
    let same : bytes ≡ c.in_ok-bytes.bytes.items = c.deref.ensures.value in
    let made : c.in_ok-bytes.bytes.items ≡ sign_data c.as_slice-3.result.now (key_name value.key) c.as_slice-4.result.now = c.in_ok-bytes.ensures in
    let is : bytes ≡ sign_data option_lines (key_name value.key) lines = same ∙ made ∙ (λ i. sign_data (c.as_slice-3.ensures i) (key_name value.key) (c.as_slice-4.ensures i)) in
    let checked = checked_are r task w value lines are plain.0 h accepts issuer found option_lines bytes (c.in_ok-option_lines.ensures w.option_statements w.option_quads) is in
    let answer : c.in-Ok-false.field-0 ≡ accepts issuer bytes (signature value.signature) = c.in-Ok-false.ensures.answer in
    let test : c.in-Ok-false.field-0 ≡ false = c.in-Ok-false.field-0-test in (
      case_of r task w value,
      is_case_of r task w value reads plain,
      is_no r task w value lines are plain.0 h accepts issuer found bytes checked (sym test ∙ answer),
    )

pub returns-in-Err-Failed-clause-outcome : goal.returns-in-Err-Failed-clause-outcome
returns-in-Err-Failed-clause-outcome g c = λ r w. c.in-Err-Failed.ensures.failed (ap (λ (x : DeviceError). Err x) c.in-Err-Failed.field-0-is)

pub returns-in-Err-NoKey-clause-outcome : goal.returns-in-Err-NoKey-clause-outcome
returns-in-Err-NoKey-clause-outcome g c = λ r w. absurd (c.in-Err-NoKey.ensures.no_key (ap (λ (x : DeviceError). Err x) c.in-Err-NoKey.field-0-is))

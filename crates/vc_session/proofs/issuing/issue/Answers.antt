use Rattle.std.proofs.Common.{rules, ◌≡◌, [], Some, None, false, ◌∙◌}
use Rattle.key_device.specs.Devices.{log_entry}
use Rattle.key_device.specs.Tables.{key_for}
use Rattle.vc_session.specs.Internal.Outcomes.{no_signature, whole_value}
use Rattle.vc_session.proofs.IssuedProofs.{grew_from, has_statements, issued_is, keeps_both, key_asked, no_quads, sign_keeps, statements_are}
use Rattle.vc_session.proofs.FlatTexts.{flat_labelled}
use Rattle.vc_session.proofs.issuing.issue.Goals as goal

pub returns-then-is_empty-clause-outcome : goal.returns-then-is_empty-clause-outcome
returns-then-is_empty-clause-outcome g c = λ r w.
    let none : c.args.task.quads ≡ [] = search rules in (
      w.case_of,
      w.is_case,
      no_quads r c.args.task w none,
    )

pub returns-in_default-clause-outcome : goal.returns-in_default-clause-outcome
returns-in_default-clause-outcome g c = λ r w.
    let some : c.args.task.quads ≡ [] → ⊥ = search rules in
    let none : None ≡ key_for c.args.task.keys.entries c.args.task.method = search rules in (
      w.case_of,
      record { is_case = w.is_case; some_statements = has_statements r c.args.task w some },
      key_asked r c.args.task w None none,
      w.method,
    )

pub returns-in-Ok-sign-clause-outcome : goal.returns-in-Ok-sign-clause-outcome
returns-in-Ok-sign-clause-outcome g c = λ r w.
    let some : c.args.task.quads ≡ [] → ⊥ = search rules in
    let found : Some c.in-Some.issuer ≡ key_for c.args.task.keys.entries c.args.task.method = search rules in
    let before = g.D.KeyDevice.means c.args.device.now in
    let after = g.D.KeyDevice.means c.sign.new.self in
    let key = c.in-Ok.fresh.key in
    let secret = c.in-Ok.fresh.secret in
    let signature = c.in-Ok-sign.signature in
    let made = c.in_ok-draft.ensures in
    let signed = c.in-Ok-sign.ensures in (
      w.case_of,
      w.is_case,
      issued_is
          before after
          r c.args.task w c.finish-in-Ok-sign.result c.in_ok-draft.draft.base_record c.in-Some.issuer key secret signature c.finish.result c.deref.result.now
          some
          (c.finish-in-Ok-sign.ensures ∙ made.proof c.finish.result)
          (c.finish.ensures.spelled (whole_value key.bytes secret no_signature) made.value)
          c.in-Ok.ensures.secret
          found
          made.issuer
          made.key
          (made.record_is w.case_of.statements w.case_of.options w.quads w.option_quads
          (flat_labelled _ w.case_of.statements w.is_case.means w.are_statements) (flat_labelled _ w.case_of.options w.is_case.options_mean w.are_options))
          (c.deref.ensures.value ∙ made.bytes)
          signed.accepted
          (grew_from (log_entry c.in-Some.issuer c.deref.result.now signature) before (g.D.KeyDevice.means c.secret_and_key.new.device) after c.in-Ok.ensures.log signed.logged)
          c.in-Ok.ensures.new
          (signed.ownership key ∙ c.in-Ok.ensures.owned)
          (signed.ownership c.in-Some.issuer ∙ signed.was_owned),
      c.len-statements.ensures ∙ statements_are r c.args.task w,
    )

pub returns-in-Ok-sign-clause-keeps : goal.returns-in-Ok-sign-clause-keeps
returns-in-Ok-sign-clause-keeps g c =
    let before = g.D.KeyDevice.means c.args.device.now in
    let between = g.D.KeyDevice.means c.secret_and_key.new.device in
    let after = g.D.KeyDevice.means c.sign.new.self in
    let s = c.in-Ok-sign.ensures in
    keeps_both before between after c.in-Ok.ensures.keeps (sign_keeps between after s.acceptance s.ownership s.exactness s.counted)

pub returns-in-Err-NoKey-sign-clause-outcome : goal.returns-in-Err-NoKey-sign-clause-outcome
returns-in-Err-NoKey-sign-clause-outcome g c = λ r w.
    let some : c.args.task.quads ≡ [] → ⊥ = search rules in
    let found : Some c.in-Some.issuer ≡ key_for c.args.task.keys.entries c.args.task.method = search rules in
    let unowned : (g.D.KeyDevice.means c.secret_and_key.new.device).owns c.in-Some.issuer ≡ false = search rules in (
      w.case_of,
      record { is_case = w.is_case; some_statements = has_statements r c.args.task w some },
      key_asked r c.args.task w (Some c.in-Some.issuer) found,
      c.in-Err-NoKey-sign.ensures.ownership c.in-Some.issuer ∙ unowned,
    )

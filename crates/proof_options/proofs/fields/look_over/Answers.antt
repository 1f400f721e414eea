use Rattle.std.proofs.Common.{ℕ, List, codes, Some, subst}
use Rattle.proof_options.specs.declared.fault.Field.TheVariants.{Proof, Context, ProofType, Cryptosuite, Created, Expires, VerificationMethod, ProofPurpose, ProofValue}
use Rattle.proof_options.specs.Shape.{named, IsTheText}
use Rattle.proof_options.specs.Internal.Judging.{right_in, IsFault}
use Rattle.proof_options.proofs.FirstBad.{none_before, one_more, looks_bad, all_right}
use Rattle.proof_options.proofs.fields.look_over.Goals as goal

pub returns-in_err-object : goal.returns-in_err-object
returns-in_err-object c =
    let right = right_in c.args.suite c.args.standing c.args.tree.now in
    let b0 = none_before right in
    looks_bad c.args.suite c.args.standing c.args.tree.now c.from_residual.result Proof c.in_err-object.field-0.0 c.from_residual.ensures.1 b0 c.in_err-object.ensures

pub returns-in_err-nothing_at : goal.returns-in_err-nothing_at
returns-in_err-nothing_at c =
    let right = right_in c.args.suite c.args.standing c.args.tree.now in
    let b0 = none_before right in
    let b1 = one_more right Proof b0 c.in_ok-object.ensures in
    looks_bad c.args.suite c.args.standing c.args.tree.now c.from_residual-in_err-nothing_at.result Context c.in_err-nothing_at.field-0.0 c.from_residual-in_err-nothing_at.ensures.1 b1 c.in_err-nothing_at.ensures

pub returns-in_err-this_text_at : goal.returns-in_err-this_text_at
returns-in_err-this_text_at c =
    let right = right_in c.args.suite c.args.standing c.args.tree.now in
    let b0 = none_before right in
    let b1 = one_more right Proof b0 c.in_ok-object.ensures in
    let b2 = one_more right Context b1 c.in_ok-nothing_at.ensures in
    looks_bad c.args.suite c.args.standing c.args.tree.now c.from_residual-in_err-this_text_at.result ProofType c.in_err-this_text_at.field-0.0 c.from_residual-in_err-this_text_at.ensures.1 b2 c.in_err-this_text_at.ensures

pub returns-in_err-this_text_at-2 : goal.returns-in_err-this_text_at-2
returns-in_err-this_text_at-2 c =
    let right = right_in c.args.suite c.args.standing c.args.tree.now in
    let b0 = none_before right in
    let b1 = one_more right Proof b0 c.in_ok-object.ensures in
    let b2 = one_more right Context b1 c.in_ok-nothing_at.ensures in
    let b3 = one_more right ProofType b2 c.in_ok-this_text_at.ensures in
    looks_bad c.args.suite c.args.standing c.args.tree.now c.from_residual-in_err-this_text_at-2.result Cryptosuite c.in_err-this_text_at-2.field-0.0 c.from_residual-in_err-this_text_at-2.ensures.1 b3 (subst (λ (x : List ℕ). IsFault (IsTheText x (named (codes "cryptosuite") (Some c.args.tree.now))) Cryptosuite c.in_err-this_text_at-2.field-0.0) c.name_of.ensures c.in_err-this_text_at-2.ensures)

pub returns-in_err-stamp_at : goal.returns-in_err-stamp_at
returns-in_err-stamp_at c =
    let right = right_in c.args.suite c.args.standing c.args.tree.now in
    let b0 = none_before right in
    let b1 = one_more right Proof b0 c.in_ok-object.ensures in
    let b2 = one_more right Context b1 c.in_ok-nothing_at.ensures in
    let b3 = one_more right ProofType b2 c.in_ok-this_text_at.ensures in
    let b4 = one_more right Cryptosuite b3 (subst (λ (x : List ℕ). IsTheText x (named (codes "cryptosuite") (Some c.args.tree.now))) c.name_of.ensures c.in_ok-this_text_at-2.ensures) in
    looks_bad c.args.suite c.args.standing c.args.tree.now c.from_residual-in_err-stamp_at.result Created c.in_err-stamp_at.field-0.0 c.from_residual-in_err-stamp_at.ensures.1 b4 c.in_err-stamp_at.ensures.judged

pub returns-in_err-expires : goal.returns-in_err-expires
returns-in_err-expires c =
    let right = right_in c.args.suite c.args.standing c.args.tree.now in
    let b0 = none_before right in
    let b1 = one_more right Proof b0 c.in_ok-object.ensures in
    let b2 = one_more right Context b1 c.in_ok-nothing_at.ensures in
    let b3 = one_more right ProofType b2 c.in_ok-this_text_at.ensures in
    let b4 = one_more right Cryptosuite b3 (subst (λ (x : List ℕ). IsTheText x (named (codes "cryptosuite") (Some c.args.tree.now))) c.name_of.ensures c.in_ok-this_text_at-2.ensures) in
    let b5 = one_more right Created b4 c.in_ok-stamp_at.ensures.judged in
    looks_bad c.args.suite c.args.standing c.args.tree.now c.from_residual-in_err-expires.result Expires c.in_err-expires.field-0.0 c.from_residual-in_err-expires.ensures.1 b5 c.in_err-expires.ensures.judged

pub returns-in_err-method : goal.returns-in_err-method
returns-in_err-method c =
    let right = right_in c.args.suite c.args.standing c.args.tree.now in
    let b0 = none_before right in
    let b1 = one_more right Proof b0 c.in_ok-object.ensures in
    let b2 = one_more right Context b1 c.in_ok-nothing_at.ensures in
    let b3 = one_more right ProofType b2 c.in_ok-this_text_at.ensures in
    let b4 = one_more right Cryptosuite b3 (subst (λ (x : List ℕ). IsTheText x (named (codes "cryptosuite") (Some c.args.tree.now))) c.name_of.ensures c.in_ok-this_text_at-2.ensures) in
    let b5 = one_more right Created b4 c.in_ok-stamp_at.ensures.judged in
    let b6 = one_more right Expires b5 c.in_ok-expires.ensures.judged in
    looks_bad c.args.suite c.args.standing c.args.tree.now c.from_residual-in_err-method.result VerificationMethod c.in_err-method.field-0.0 c.from_residual-in_err-method.ensures.1 b6 c.in_err-method.ensures.judged

pub returns-in_err-some_text_at : goal.returns-in_err-some_text_at
returns-in_err-some_text_at c =
    let right = right_in c.args.suite c.args.standing c.args.tree.now in
    let b0 = none_before right in
    let b1 = one_more right Proof b0 c.in_ok-object.ensures in
    let b2 = one_more right Context b1 c.in_ok-nothing_at.ensures in
    let b3 = one_more right ProofType b2 c.in_ok-this_text_at.ensures in
    let b4 = one_more right Cryptosuite b3 (subst (λ (x : List ℕ). IsTheText x (named (codes "cryptosuite") (Some c.args.tree.now))) c.name_of.ensures c.in_ok-this_text_at-2.ensures) in
    let b5 = one_more right Created b4 c.in_ok-stamp_at.ensures.judged in
    let b6 = one_more right Expires b5 c.in_ok-expires.ensures.judged in
    let b7 = one_more right VerificationMethod b6 c.in_ok-method.ensures.judged in
    looks_bad c.args.suite c.args.standing c.args.tree.now c.from_residual-in_err-some_text_at.result ProofPurpose c.in_err-some_text_at.field-0.0 c.from_residual-in_err-some_text_at.ensures.1 b7 c.in_err-some_text_at.ensures

pub returns-in_err-proof_value : goal.returns-in_err-proof_value
returns-in_err-proof_value c =
    let right = right_in c.args.suite c.args.standing c.args.tree.now in
    let b0 = none_before right in
    let b1 = one_more right Proof b0 c.in_ok-object.ensures in
    let b2 = one_more right Context b1 c.in_ok-nothing_at.ensures in
    let b3 = one_more right ProofType b2 c.in_ok-this_text_at.ensures in
    let b4 = one_more right Cryptosuite b3 (subst (λ (x : List ℕ). IsTheText x (named (codes "cryptosuite") (Some c.args.tree.now))) c.name_of.ensures c.in_ok-this_text_at-2.ensures) in
    let b5 = one_more right Created b4 c.in_ok-stamp_at.ensures.judged in
    let b6 = one_more right Expires b5 c.in_ok-expires.ensures.judged in
    let b7 = one_more right VerificationMethod b6 c.in_ok-method.ensures.judged in
    let b8 = one_more right ProofPurpose b7 c.in_ok-some_text_at.ensures in
    looks_bad c.args.suite c.args.standing c.args.tree.now c.from_residual-in_err-proof_value.result ProofValue c.in_err-proof_value.field-0.0 c.from_residual-in_err-proof_value.ensures.1 b8 c.in_err-proof_value.ensures

pub returns : goal.returns
returns c =
    let right = right_in c.args.suite c.args.standing c.args.tree.now in
    let b0 = none_before right in
    let b1 = one_more right Proof b0 c.in_ok-object.ensures in
    let b2 = one_more right Context b1 c.in_ok-nothing_at.ensures in
    let b3 = one_more right ProofType b2 c.in_ok-this_text_at.ensures in
    let b4 = one_more right Cryptosuite b3 (subst (λ (x : List ℕ). IsTheText x (named (codes "cryptosuite") (Some c.args.tree.now))) c.name_of.ensures c.in_ok-this_text_at-2.ensures) in
    let b5 = one_more right Created b4 c.in_ok-stamp_at.ensures.judged in
    let b6 = one_more right Expires b5 c.in_ok-expires.ensures.judged in
    let b7 = one_more right VerificationMethod b6 c.in_ok-method.ensures.judged in
    let b8 = one_more right ProofPurpose b7 c.in_ok-some_text_at.ensures in
    let b9 = one_more right ProofValue b8 c.in_ok-proof_value.ensures in
    record { shape = all_right right b9; method = c.in_ok-method.ensures.text; expires = c.in_ok-expires.ensures.stamp }

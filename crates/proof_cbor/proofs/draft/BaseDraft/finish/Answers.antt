use Rattle.std.proofs.Common.{ℕ, ◌+◌, ◌≤◌, List, length, ap, sym, subst, ◌∙◌, arith}
use Rattle.base64.specs.Engines.{url_safe_no_pad}
use Rattle.base64.specs.GeneralPurpose.{encoded_size_of}
use Rattle.proof_cbor.specs.Values.{multibase_text, with_signature, base_item, IsDraft}
use Rattle.cbor_core.specs.Writing.{count_of}
use Rattle.proof_cbor.proofs.Drafts.{finished, put_bytes, same_size}
use Rattle.proof_cbor.proofs.Making.{base_is_text, can_sign, same_count}
use Rattle.proof_cbor.proofs.draft.BaseDraft.finish.Goals as goal

pub text_over-requires : goal.text_over-requires
text_over-requires c =
    let size = same_size c.self.inside.bytes.items c.with_signature-bytes.result.items c.args.signature.now c.self.invariant.0 c.with_signature-bytes.ensures.long c.with_signature-bytes.ensures.bytes in
    c.self.invariant.1 ∙ ap (λ (n : ℕ). 1 + encoded_size_of url_safe_no_pad n) (sym (ap length c.deref.ensures.value ∙ size))

pub returns-clause-text : goal.returns-clause-text
returns-clause-text c = λ value draft.
    finished value c.self.inside.bytes.items c.with_signature-bytes.result.items c.args.signature.now c.text_over.result
    (subst (λ (z : List ℕ). IsDraft value z) (sym c.self.view_is) draft) c.with_signature-bytes.ensures.long c.with_signature-bytes.ensures.bytes
    (c.text_over.ensures.text ∙ ap multibase_text c.deref.ensures.value)

pub returns-clause-spelled : goal.returns-clause-spelled
returns-clause-spelled c = λ value draft.
    let held : IsDraft value c.self.inside.bytes.items = subst (λ (z : List ℕ). IsDraft value z) (sym c.self.view_is) draft in
    let bytes_are = put_bytes value c.self.inside.bytes.items c.with_signature-bytes.result.items c.args.signature.now held c.with_signature-bytes.ensures.long c.with_signature-bytes.ensures.bytes in
    let few : count_of (base_item (with_signature value c.args.signature.now)) ≤ 100000 = omega (arith, same_count value c.args.signature.now, draft.1) in
    base_is_text (with_signature value c.args.signature.now) c.deref.result.now c.text_over.result (can_sign value c.args.signature.now draft.0 c.with_signature-bytes.ensures.long) few c.text_over.ensures.proper (c.deref.ensures.value ∙ bytes_are) c.text_over.ensures.text

pub returns-clause-reads_back : goal.returns-clause-reads_back
returns-clause-reads_back c = returns-clause-spelled c

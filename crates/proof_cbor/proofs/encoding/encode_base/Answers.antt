use Rattle.proof_cbor.proofs.Making.{base_text}
use Rattle.proof_cbor.proofs.encoding.encode_base.Goals as goal

pub returns-clause-spelled : goal.returns-clause-spelled
returns-clause-spelled c =
    base_text c.args.value.now c.in_ok-bytes.bytes.items c.deref.result.now c.text_in.result c.in_ok-bytes.ensures.can_write c.requires c.text_in.ensures.proper c.deref.ensures.value c.in_ok-bytes.ensures.written c.text_in.ensures.text

pub returns-clause-reads_back : goal.returns-clause-reads_back
returns-clause-reads_back c = returns-clause-spelled c

use Rattle.proof_cbor.proofs.Drafts.{text_written}
use Rattle.proof_cbor.proofs.draft.write_text.Goals as goal

pub returns : goal.returns
returns c = text_written c.args.bytes.now c.args.text.now c.encode_slice.new.output c.requires c.in-Ok.ensures.written

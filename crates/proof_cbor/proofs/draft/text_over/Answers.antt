use Rattle.std.proofs.Common.{arith}
use Rattle.std.proofs.lemmas.Bool.{false≢true}
use Rattle.proof_cbor.proofs.Drafts.{buffer_utf8}
use Rattle.proof_cbor.proofs.draft.text_over.Goals as goal

pub unreachable-requires : goal.unreachable-requires
unreachable-requires c = false≢true (c.in-Err.ensures.succeeds (buffer_utf8 c.args.buffer.len c.args.bytes.now c.write_text.new.text c.args.buffer.items c.write_text.ensures c.requires (omega arith)))

pub returns-clause-proper : goal.returns-clause-proper
returns-clause-proper c = λ i. let f = c.type_inv.bytes i in omega arith

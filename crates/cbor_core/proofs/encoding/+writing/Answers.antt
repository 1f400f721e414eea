use Rattle.cbor_core.proofs.Writes.{fits_text}
use Rattle.cbor_core.proofs.encoding.+writing.Goals as goal

pub write_item-returns-in_ok-write_string-in-Text-clause-fits :
    goal.write_item-returns-in_ok-write_string-in-Text-clause-fits
write_item-returns-in_ok-write_string-in-Text-clause-fits t c =
    fits_text c.args.item.now c.in-Text.content c.as_str.result.now c.as_bytes.result.now c.in-Text.is c.as_str.ensures c.as_bytes.ensures.value c.as_bytes.ensures.utf8 c.write_string-in-Text.ensures.length

use Rattle.cbor_core.proofs.Lawful.{is_spelled}
use Rattle.cbor_core.specs.Writing.{count_of}
use Rattle.cbor_core.proofs.encoding.encode.Goals as goal

pub returns-clause-spelled : goal.returns-clause-spelled
returns-clause-spelled c =
    is_spelled c.args.item.now c.write_item.new.out.items c.new-out.result.items c.new-out.ensures.items c.in_ok-write_item.ensures.written c.in_ok-write_item.ensures.fits c.requires.keys c.requires.nesting

pub returns-clause-reads_back : goal.returns-clause-reads_back
returns-clause-reads_back c = (count_of c.args.item.now, c.requires.count, returns-clause-spelled c)

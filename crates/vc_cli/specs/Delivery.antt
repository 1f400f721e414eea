-- How a reply is delivered, and the status that goes with it.
use Rattle.std.specs.Prelude.{◌≡◌, ◌⊎◌}
use Rattle.base_types.specs.Counts.{HasRisen}
use Rattle.vc_io.specs.Bytes.{SinkMeaning, Wrote, WrotePrefix}
use Rattle.vc_session.specs.declared.reply.Reply.{Reply}
use Rattle.vc_session.specs.declared.reply.Reply.TheVariants as reply
use Rattle.vc_session.specs.Replies.{bytes_of}
use Rattle.vc_cli.specs.declared.status.Status.{Status}
use Rattle.vc_cli.specs.declared.status.Status.TheVariants as status

-- the status of a reply that was written whole
abbrev pub status_of : Reply → Status
status_of (reply.Statements text) = status.Done
status_of reply.Usage = status.Usage
status_of reply.TooLong = status.Input
status_of reply.NotJson = status.Input
status_of reply.TreeTooDeep = status.Input
status_of (reply.NotWhole line) = status.Input
status_of reply.NotBuilt = status.Input
status_of reply.NoStatements = status.Input
status_of (reply.UnknownMethod line) = status.Input
status_of (reply.NoKey line) = status.Input
status_of (reply.ProofValue line) = status.Input
status_of (reply.Document line) = status.Done
status_of (reply.Yes line) = status.Done
status_of (reply.No line) = status.No
status_of reply.DeviceFault = status.DeviceFault
status_of reply.ReadFault = status.ReadFault
status_of reply.Memory = status.Memory

-- How a reply is delivered to a sink that meant this before and after. Either it was written whole
-- and the status is its own, or a write failed, which takes the place of every other status, and a
-- prefix was written.
abbrev pub Delivers : Reply → Status → SinkMeaning → SinkMeaning → Type 0
Delivers r result before after =
    ((result ≡ status_of r) × Wrote before after (bytes_of r))
    ⊎ ((result ≡ status.WriteFault) × HasRisen before.faults after.faults
    × WrotePrefix before after (bytes_of r))

-- The bytes of each reply.
use Rattle.std.specs.Prelude.{ℕ, List, codes}
use Rattle.vc_session.specs.declared.reply.Reply.{Reply}
use Rattle.vc_session.specs.declared.reply.Reply.TheVariants as reply
use Rattle.vc_session.specs.ReplyTrees.{limit_refusal, line_of, plain_refusal}

-- the most bytes that are read, and the deepest nesting
abbrev pub input_limit : ℕ
input_limit = 8388608

abbrev pub depth_limit : ℕ
depth_limit = 100

-- the line that says how the program is called, with LF
abbrev pub usage_line : List ℕ
usage_line = codes "usage: vc_cli statements|issue|verify\n"

-- the bytes of a reply
abbrev pub bytes_of : Reply → List ℕ
bytes_of (reply.Statements text) = text
bytes_of reply.Usage = usage_line
bytes_of reply.TooLong = line_of (limit_refusal input_limit (codes "TooLong"))
bytes_of reply.NotJson = line_of (plain_refusal (codes "NotJson"))
bytes_of reply.TreeTooDeep = line_of (limit_refusal depth_limit (codes "TreeTooDeep"))
bytes_of (reply.NotWhole line) = line
bytes_of reply.NotBuilt = line_of (plain_refusal (codes "NotBuilt"))
bytes_of reply.NoStatements = line_of (plain_refusal (codes "NoStatements"))
bytes_of (reply.UnknownMethod line) = line
bytes_of (reply.NoKey line) = line
bytes_of (reply.ProofValue line) = line
bytes_of (reply.Document line) = line
bytes_of (reply.Yes line) = line
bytes_of (reply.No line) = line
bytes_of reply.DeviceFault = line_of (plain_refusal (codes "DeviceFault"))
bytes_of reply.ReadFault = line_of (plain_refusal (codes "ReadFault"))
bytes_of reply.Memory = line_of (plain_refusal (codes "Memory"))

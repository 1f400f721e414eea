use Rattle.std.proofs.Common.{◌≡◌, Some, take}
use Rattle.std.specs.List.{AllZip}
use Rattle.json_tree.specs.Places.{members_of}
use Rattle.vc_session.specs.Requests.{IsKeyEntry}
use Rattle.vc_session.proofs.keys.key_table.Given as goal

-- the members that were read are the entries
abbrev pub invariant-loop-member : goal.invariant-loop-member
invariant-loop-member l = (members_of l.keys ≡ Some l.members) × AllZip IsKeyEntry (take l.member-index l.members) l.entries.items

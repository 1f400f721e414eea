use Rattle.std.proofs.Common.{◌≡◌, map, ap, ◌∙◌}
use Rattle.rdfc_ndegree.specs.Groups.{groups_by_hash, related_groups}
use Rattle.rdfc_ndegree.specs.Table.{group_in, table_nodes}
use Rattle.rdfc_ndegree.proofs.Hashes.{groups-of_row, groups-numbered}
use Rattle.rdfc_ndegree.proofs.related.related_groups.Goals.{In_ok-groups}
use Rattle.rdfc_ndegree.proofs.related.related_groups.Goals as goal

whole : (c : In_ok-groups) → map group_in c.in_ok-groups.groups.items ≡ related_groups (table_nodes c.args.hash c.args.table.now) c.args.canonical.now c.args.issuer.now c.args.node
whole c =
    c.in_ok-groups.ensures
    ∙ ap groups_by_hash c.in_ok-hashed.ensures
    ∙ groups-of_row c.args.hash c.args.table.now c.args.canonical.now c.args.issuer.now c.args.node

pub returns-clause-groups : goal.returns-clause-groups
returns-clause-groups c = whole c

pub returns-clause-listed : goal.returns-clause-listed
returns-clause-listed c = groups-numbered c.args.hash c.args.table.now c.args.canonical.now c.args.issuer.now c.args.node c.in_ok-groups.groups.items c.see_closed.ensures (whole c)

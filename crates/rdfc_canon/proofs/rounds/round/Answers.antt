use Rattle.std.proofs.Common.{◌∙◌, ap, rules, of_calls}
use Rattle.std.specs.List.Sorted.{IsSortedByKey}
use Rattle.std.proofs.lemmas.Fn.{always_returns_same}
use Rattle.base_types.proofs.Orders.{text_cmp}
use Rattle.rdfc_ndegree.specs.declared.path.NodePath.{NodePath}
use Rattle.rdfc_canon.specs.Internal.Numbering.{issue_paths, neighbours_tie}
use Rattle.rdfc_canon.proofs.Hashings.{round-is}
use Rattle.rdfc_canon.proofs.rounds.round.Goals as goal

pub returns-clause-ok : goal.returns-clause-ok
returns-clause-ok c =
    let up : IsSortedByKey (λ (p : NodePath). p.hash) text_cmp c.sort_unstable_by_key.new.self.items = c.sort_unstable_by_key.ensures.sorted (λ (p : NodePath). p.hash) (always_returns_same _ _ _ (λ a r f k. search (rules, of_calls))) in
    round-is c.args.hash c.args.table.now c.args.canonical.now c.args.members.now c.issue_paths.new.canonical c.in_ok-paths.paths.items c.sort_unstable_by_key.new.self.items c.meets_tie-tie.result _ c.in_ok-paths.ensures.ok
    c.sort_unstable_by_key.ensures.permutation up
    (c.meets_tie-tie.ensures ∙ ap neighbours_tie c.as_slice.ensures.value)
    (c.in_ok-issue_paths.ensures ∙ ap (issue_paths c.args.canonical.now) c.as_slice-2.ensures.value)

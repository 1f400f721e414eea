use Rattle.std.proofs.Common.{sym, ap, ◌∙◌, subst}
use Rattle.std.specs.Prelude.{All}
use Rattle.std.specs.List.{flat_map}
use Rattle.digest_mac.specs.Digests.{digits}
use Rattle.nquads.specs.Stored.{IsKnown}
use Rattle.rdfc_first.specs.Internal.Mentions.{mention_lines}
use Rattle.rdfc_first.specs.Internal.Grouping.{AreHashesOf, InBlankOrder}
use Rattle.rdfc_first.proofs.Runs.{InBlankOrder-from_sorted}
use Rattle.rdfc_first.proofs.FirstHashes.{are_first}
use Rattle.rdfc_first.proofs.BlankNumbers.{hashes-known, blanks-named}
use Rattle.rdfc_first.proofs.grouping.first_hashes.Goals as goal

pub mention_lines-requires : goal.mention_lines-requires
mention_lines-requires c = subst (All (IsKnown c.args.terms.now)) (sym c.as_slice.ensures.same) c.requires.known

pub hashes_of-requires : goal.hashes_of-requires
hashes_of-requires c = subst InBlankOrder (sym c.as_slice-2.ensures.value) (InBlankOrder-from_sorted c.sort_unstable.new.self.items c.sort_unstable.ensures.sorted)

pub returns-clause-exact : goal.returns-clause-exact
returns-clause-exact c = λ q is.
    are_first (digits c.args.hash) c.args.terms.now c.tell_apart.ensures c.args.quads.now q c.requires.known is
    c.in_ok-lines.lines.items c.sort_unstable.new.self.items
    (c.in_ok-lines.ensures ∙ ap (flat_map (mention_lines c.args.terms.now)) c.as_slice.ensures.same)
    c.sort_unstable.ensures.permutation
    (InBlankOrder-from_sorted c.sort_unstable.new.self.items c.sort_unstable.ensures.sorted)
    c.in_ok-hashes.hashes.items (subst (λ ls. AreHashesOf (digits c.args.hash) ls c.in_ok-hashes.hashes.items) c.as_slice-2.ensures.value c.in_ok-hashes.ensures)

pub returns-clause-order : goal.returns-clause-order
returns-clause-order c = (subst (λ ls. AreHashesOf (digits c.args.hash) ls c.in_ok-hashes.hashes.items) c.as_slice-2.ensures.value c.in_ok-hashes.ensures).rise

pub returns-clause-named : goal.returns-clause-named
returns-clause-named c = blanks-named (digits c.args.hash) c.args.terms.now c.args.quads.now c.requires.known c.in_ok-lines.lines.items c.sort_unstable.new.self.items (c.in_ok-lines.ensures ∙ ap (flat_map (mention_lines c.args.terms.now)) c.as_slice.ensures.same) c.sort_unstable.ensures.permutation c.in_ok-hashes.hashes.items (subst (λ ls. AreHashesOf (digits c.args.hash) ls c.in_ok-hashes.hashes.items) c.as_slice-2.ensures.value c.in_ok-hashes.ensures)

pub returns-clause-numbers : goal.returns-clause-numbers
returns-clause-numbers c = hashes-known (digits c.args.hash) c.args.terms.now c.args.quads.now c.requires.known c.in_ok-lines.lines.items c.sort_unstable.new.self.items (c.in_ok-lines.ensures ∙ ap (flat_map (mention_lines c.args.terms.now)) c.as_slice.ensures.same) c.sort_unstable.ensures.permutation c.in_ok-hashes.hashes.items (subst (λ ls. AreHashesOf (digits c.args.hash) ls c.in_ok-hashes.hashes.items) c.as_slice-2.ensures.value c.in_ok-hashes.ensures)

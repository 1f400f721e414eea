use Rattle.std.proofs.Common.{◌≡◌, ◌<◌, ℕ, ap, sym, ◌∙◌, subst, length, Err, slice_get}
use Rattle.std.specs.Prelude.{All}
use Rattle.std.specs.List.{filter_map}
use Rattle.std.proofs.lemmas.List.Elements.{All-from_recursion}
use Rattle.rdfc_ndegree.specs.declared.limits.CanonFault.TheVariants as fault
use Rattle.rdfc_ndegree.proofs.BuildLemmas.{number-None}
use Rattle.rdfc_ndegree.proofs.RequestLemmas.{number-inside, numbers-inside, steps, call_carried, answers, over}
use Rattle.rdfc_ndegree.proofs.blank_nodes.n_degree.Goals as goal

pub unreachable-requires : goal.unreachable-requires
unreachable-requires c = number-None c.in_ok-table.field-0.numbers c.args.node.index (sym c.in_default.ensures) c.in_ok-table.ensures.node

pub hash_n_degree-requires-clause-node : goal.hash_n_degree-requires-clause-node
hash_n_degree-requires-clause-node c = number-inside c.args.terms.now c.in_ok-table.field-0.table c.in_ok-table.field-0.numbers c.in_ok-table.ensures.names c.args.node c.in-Some.number (sym c.in-Some.ensures)

pub hash_n_degree-requires-clause-issuer : goal.hash_n_degree-requires-clause-issuer
hash_n_degree-requires-clause-issuer c =
    let inside : ℕ → Type 0 = λ k. k < length c.in_ok-table.field-0.table in
    subst (All inside) (sym c.in_ok-table.ensures.issuer) (All-from_recursion inside _ (numbers-inside c.args.terms.now c.in_ok-table.field-0.table c.in_ok-table.field-0.numbers c.in_ok-table.ensures.names c.as_slice-2.result.now))

pub returns-in-Err-clause-work : goal.returns-in-Err-clause-work
returns-in-Err-clause-work c = λ q n cs i call limit e.
    let s = steps c.as_slice.ensures c.as_slice-2.ensures c.number_all.ensures.differ c.in_ok-table.ensures.table c.in_ok-table.ensures.names c.in_ok-table.ensures.canonical c.in_ok-table.ensures.issuer c.in-Some.ensures in
    let cause : c.in-Err.fault ≡ fault.TooMuchWork limit = cc in
    let told = c.in-Err.ensures.work limit (ap Err cause) in
    (told.0, over (call_carried q n cs i call s) told.1)

pub returns-clause-ok : goal.returns-clause-ok
returns-clause-ok c = λ q n cs i call.
    let s = steps c.as_slice.ensures c.as_slice-2.ensures c.number_all.ensures.differ c.in_ok-table.ensures.table c.in_ok-table.ensures.names c.in_ok-table.ensures.canonical c.in_ok-table.ensures.issuer c.in-Some.ensures in
    answers (call_carried q n cs i call s) c.in_ok-order.order c.in-Ok.ensures.ok (c.in_ok-order.ensures ∙ ap (filter_map (slice_get c.in_ok-table.field-0.numbers)) c.as_slice-3.ensures)

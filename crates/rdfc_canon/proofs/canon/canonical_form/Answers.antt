use Rattle.std.proofs.Common.{◌<◌, [], length, map, refl, sym, ◌∙◌, ap, subst, All, Contains}
use Rattle.std.proofs.lemmas.List.Elements.{All-nil}
use Rattle.std.proofs.lemmas.Cmp.{nat_cmp_total}
use Rattle.base_types.specs.Sets.{AllDiffer}
use Rattle.base_types.proofs.Lists.{AllDiffer-strictly_sorted}
use Rattle.digest_mac.specs.Digests.{digits}
use Rattle.nquads.specs.Stored.{AreLabelsKnown, IsLabelled}
use Rattle.nquads.specs.FirstDegree.{AreFirstHashes}
use Rattle.nquads.specs.declared.hashes.BlankHash.{BlankHash}
use Rattle.nquads.specs.declared.numbers.Label.{Label}
use Rattle.rdfc_ndegree.specs.TableOf.{first_names}
use Rattle.rdfc_ndegree.specs.declared.limits.CanonFault.TheVariants as fault
use Rattle.rdfc_canon.specs.Internal.Labelling.{all_labels}
use Rattle.rdfc_canon.proofs.Clauses.{fault-there}
use Rattle.rdfc_canon.proofs.Answering.{is-canon, fault-carried}
use Rattle.rdfc_canon.proofs.Covering.{all-labelled, covered, labels-known}
use Rattle.rdfc_canon.proofs.canon.canonical_form.Goals as goal

pub write_lines-requires-clause-labels : goal.write_lines-requires-clause-labels
write_lines-requires-clause-labels c =
    subst (AreLabelsKnown c.args.terms.now) (sym (c.in_ok-labels.ensures ∙ (λ i. all_labels (c.as_slice-2.ensures.value i) [] (c.as_slice-3.ensures.same i)))) (labels-known c.args.terms.now c.in_ok-firsts.firsts.items [] c.in_ok-numbered.numbered.canonical c.in_ok-firsts.ensures.numbers (All-nil (λ (l : Label). l.blank.index < length c.args.terms.now)))

pub write_lines-requires-clause-labelled : goal.write_lines-requires-clause-labelled
write_lines-requires-clause-labelled c =
    subst (λ ls. All (IsLabelled c.args.terms.now ls) c.args.quads.now) (sym (c.in_ok-labels.ensures ∙ (λ i. all_labels (c.as_slice-2.ensures.value i) [] (c.as_slice-3.ensures.same i)))) (all-labelled c.args.terms.now c.in_ok-firsts.firsts.items c.in_ok-numbered.numbered.canonical (covered c.args.hash c.args.terms.now c.in_ok-firsts.firsts.items c.in_ok-table.table (ap (first_names c.args.terms.now) (sym c.as_slice.ensures.value) ∙ sym (c.in_ok-table.ensures.firsts (subst (λ hs. AllDiffer (map (λ (h : BlankHash). h.blank.index) hs)) (sym c.as_slice.ensures.value) (AllDiffer-strictly_sorted nat_cmp_total (map (λ (h : BlankHash). h.blank.index) c.in_ok-firsts.firsts.items) c.in_ok-firsts.ensures.order)) refl)) c.run.ensures.closed c.args.limits.now c.in_ok-numbered.numbered.canonical c.in_ok-numbered.numbered.tie c.in_ok-numbered.numbered.work c.in_ok-numbered.ensures.ok) c.args.quads.now c.in_ok-firsts.ensures.named)

pub returns-in_err-firsts-clause-is : goal.returns-in_err-firsts-clause-is
returns-in_err-firsts-clause-is c = λ q is. fault-there c.args.hash c.args.terms.now q c.args.limits.now c.from_residual.result fault.Memory c.from_residual.ensures.1 tt

pub returns-in_err-table-clause-is : goal.returns-in_err-table-clause-is
returns-in_err-table-clause-is c = λ q is. fault-there c.args.hash c.args.terms.now q c.args.limits.now c.from_residual-in_err-table.result fault.Memory c.from_residual-in_err-table.ensures.1 tt

pub returns-in_err-numbered-clause-is : goal.returns-in_err-numbered-clause-is
returns-in_err-numbered-clause-is c = λ q is.
    fault-there c.args.hash c.args.terms.now q c.args.limits.now c.from_residual-in_err-numbered.result c.in_err-numbered.field-0.0 c.from_residual-in_err-numbered.ensures.1
    (fault-carried c.args.hash q (first_names c.args.terms.now c.as_slice.result.now) c.in_ok-table.table c.args.limits.now c.in_err-numbered.field-0.0 (c.in_ok-table.ensures.table q [] is (subst (AreFirstHashes (digits c.args.hash) c.args.terms.now q) (sym c.as_slice.ensures.value) (c.in_ok-firsts.ensures.exact q is)) refl) c.in_err-numbered.ensures.fault)

pub returns-in_err-labels-clause-is : goal.returns-in_err-labels-clause-is
returns-in_err-labels-clause-is c = λ q is. fault-there c.args.hash c.args.terms.now q c.args.limits.now c.from_residual-in_err-labels.result fault.Memory c.from_residual-in_err-labels.ensures.1 tt

pub returns-in_err-lines-clause-is : goal.returns-in_err-lines-clause-is
returns-in_err-lines-clause-is c = λ q is. fault-there c.args.hash c.args.terms.now q c.args.limits.now c.from_residual-in_err-lines.result fault.Memory c.from_residual-in_err-lines.ensures.1 tt

pub returns-clause-is : goal.returns-clause-is
returns-clause-is c = λ q is.
    is-canon {firsts = c.as_slice.result.now} {rows = c.in_ok-table.table} record {
      issuer = c.in_ok-numbered.numbered.canonical;
      differ = c.tell_apart.ensures;
      table = c.in_ok-table.ensures.table q [] is (subst (AreFirstHashes (digits c.args.hash) c.args.terms.now q) (sym c.as_slice.ensures.value) (c.in_ok-firsts.ensures.exact q is)) refl;
      names = c.in_ok-table.ensures.firsts (subst (λ hs. AllDiffer (map (λ (h : BlankHash). h.blank.index) hs)) (sym c.as_slice.ensures.value) (AllDiffer-strictly_sorted nat_cmp_total (map (λ (h : BlankHash). h.blank.index) c.in_ok-firsts.firsts.items) c.in_ok-firsts.ensures.order)) refl;
      closed = c.run.ensures.closed;
      numbers = c.in_ok-numbered.ensures.ok;
      labels_are = (c.in_ok-labels.ensures ∙ (λ i. all_labels (c.as_slice-2.ensures.value i) [] (c.as_slice-3.ensures.same i))) ∙ ap (λ hs. all_labels hs [] c.in_ok-numbered.numbered.canonical) (sym c.as_slice.ensures.value);
      lines_are = c.in_ok-lines.ensures q (λ s. (λ k. subst (λ ts. Contains ts s) is k, λ k. subst (λ ts. Contains ts s) (sym is) k));
    }

pub returns-clause-known : goal.returns-clause-known
returns-clause-known c =
    subst (AreLabelsKnown c.args.terms.now) (sym (c.in_ok-labels.ensures ∙ (λ i. all_labels (c.as_slice-2.ensures.value i) [] (c.as_slice-3.ensures.same i)))) (labels-known c.args.terms.now c.in_ok-firsts.firsts.items [] c.in_ok-numbered.numbered.canonical c.in_ok-firsts.ensures.numbers (All-nil (λ (l : Label). l.blank.index < length c.args.terms.now)))

pub returns-clause-labelled : goal.returns-clause-labelled
returns-clause-labelled c =
    subst (λ ls. All (IsLabelled c.args.terms.now ls) c.args.quads.now) (sym (c.in_ok-labels.ensures ∙ (λ i. all_labels (c.as_slice-2.ensures.value i) [] (c.as_slice-3.ensures.same i)))) (all-labelled c.args.terms.now c.in_ok-firsts.firsts.items c.in_ok-numbered.numbered.canonical (covered c.args.hash c.args.terms.now c.in_ok-firsts.firsts.items c.in_ok-table.table (ap (first_names c.args.terms.now) (sym c.as_slice.ensures.value) ∙ sym (c.in_ok-table.ensures.firsts (subst (λ hs. AllDiffer (map (λ (h : BlankHash). h.blank.index) hs)) (sym c.as_slice.ensures.value) (AllDiffer-strictly_sorted nat_cmp_total (map (λ (h : BlankHash). h.blank.index) c.in_ok-firsts.firsts.items) c.in_ok-firsts.ensures.order)) refl)) c.run.ensures.closed c.args.limits.now c.in_ok-numbered.numbered.canonical c.in_ok-numbered.numbered.tie c.in_ok-numbered.numbered.work c.in_ok-numbered.ensures.ok) c.args.quads.now c.in_ok-firsts.ensures.named)

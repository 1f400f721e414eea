use Rattle.std.proofs.Common.{ap, ◌∙◌, sym, subst, map}
use Rattle.std.specs.Prelude.{All, Contains}
use Rattle.term_store.specs.declared.store.TermId.{TermId}
use Rattle.rdfc_ndegree.specs.Table.{AreRowsKnown, IsClosed, names_of, row_texts}
use Rattle.rdfc_ndegree.specs.TableOf.{IsTableWith, first_names}
use Rattle.rdfc_ndegree.specs.Internal.Building.{numbers_of, parts_by_number}
use Rattle.rdfc_ndegree.proofs.BuildLemmas.{numbers-all}
use Rattle.rdfc_ndegree.proofs.BuiltRows.{text_of, built, built-made, built-numbers, built-closed, built-known}
use Rattle.rdfc_ndegree.proofs.TableLemmas.{built-with, built-named, built-firsts, names-numbers}
use Rattle.rdfc_ndegree.proofs.building.numbered_table.Goals as goal

pub from_rows-table-requires-clause-closed : goal.from_rows-table-requires-clause-closed
from_rows-table-requires-clause-closed c =
    subst (λ rows. IsClosed (map (row_texts c.args.terms.now) rows)) (sym (built-made c.args.hash c.args.firsts.now c.args.others.now c.new-rows.ensures.items c.in_ok-add_firsts.ensures.rows c.in_ok-add_others.ensures.rows c.in_ok-add_others.ensures.numbers c.as_slice.ensures.same c.in_ok-relate_all.ensures)) (built-closed c.args.hash c.args.terms.now c.args.quads.now c.args.firsts.now c.args.others.now c.requires.known)

pub from_rows-table-requires-clause-known : goal.from_rows-table-requires-clause-known
from_rows-table-requires-clause-known c =
    subst (AreRowsKnown c.args.terms.now) (sym (built-made c.args.hash c.args.firsts.now c.args.others.now c.new-rows.ensures.items c.in_ok-add_firsts.ensures.rows c.in_ok-add_others.ensures.rows c.in_ok-add_others.ensures.numbers c.as_slice.ensures.same c.in_ok-relate_all.ensures)) (built-known c.args.hash c.args.terms.now c.args.quads.now c.args.firsts.now c.args.others.now c.requires.known)

pub returns-clause-table : goal.returns-clause-table
returns-clause-table c = λ q cs is are other.
    subst (IsTableWith c.args.hash q (first_names c.args.terms.now c.args.firsts.now) cs) (sym (c.from_rows-table.ensures ∙ ap (map (row_texts c.args.terms.now)) (built-made c.args.hash c.args.firsts.now c.args.others.now c.new-rows.ensures.items c.in_ok-add_firsts.ensures.rows c.in_ok-add_others.ensures.rows c.in_ok-add_others.ensures.numbers c.as_slice.ensures.same c.in_ok-relate_all.ensures)))
    (built-with c.args.hash c.args.terms.now c.tell_apart.ensures q c.args.quads.now c.requires.known is cs c.args.firsts.now c.args.others.now are other)

pub returns-clause-names : goal.returns-clause-names
returns-clause-names c =
    ap names_of c.from_rows-table.ensures
    ∙ names-numbers c.args.terms.now c.relate_all.new.rows.items
    ∙ ap (λ rows. map (text_of c.args.terms.now) (numbers_of rows)) c.in_ok-relate_all.ensures
    ∙ ap (map (text_of c.args.terms.now)) (numbers-all c.add_others.new.rows.items (map (parts_by_number c.add_others.new.numbers) c.as_slice.result.now) ∙ sym c.in_ok-add_others.ensures.numbers)

pub returns-clause-others : goal.returns-clause-others
returns-clause-others c =
    subst (λ ns. All (Contains ns) (map (λ (id : TermId). id.index) c.args.others.now)) (sym (c.in_ok-add_others.ensures.numbers
    ∙ sym (numbers-all c.add_others.new.rows.items (map (parts_by_number c.add_others.new.numbers) c.as_slice.result.now))
    ∙ ap numbers_of (sym c.in_ok-relate_all.ensures ∙ (built-made c.args.hash c.args.firsts.now c.args.others.now c.new-rows.ensures.items c.in_ok-add_firsts.ensures.rows c.in_ok-add_others.ensures.rows c.in_ok-add_others.ensures.numbers c.as_slice.ensures.same c.in_ok-relate_all.ensures))
    ∙ built-numbers c.args.hash c.args.quads.now c.args.firsts.now c.args.others.now)) (built-named c.args.hash c.args.firsts.now c.args.others.now)

pub returns-clause-firsts : goal.returns-clause-firsts
returns-clause-firsts c = λ differ none.
    ap names_of c.from_rows-table.ensures
    ∙ ap (λ rows. names_of (map (row_texts c.args.terms.now) rows)) (built-made c.args.hash c.args.firsts.now c.args.others.now c.new-rows.ensures.items c.in_ok-add_firsts.ensures.rows c.in_ok-add_others.ensures.rows c.in_ok-add_others.ensures.numbers c.as_slice.ensures.same c.in_ok-relate_all.ensures)
    ∙ ap (λ others. names_of (map (row_texts c.args.terms.now) (built c.args.hash c.args.quads.now c.args.firsts.now others))) none
    ∙ built-firsts c.args.hash c.args.terms.now c.args.quads.now c.args.firsts.now differ

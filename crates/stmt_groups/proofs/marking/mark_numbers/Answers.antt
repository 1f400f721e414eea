use Rattle.std.proofs.Common.{List, map, sym, ◌∙◌, subst}
use Rattle.std.specs.Prelude.{All}
use Rattle.base_types.specs.Sets.{AllDiffer, HasExactly, SameElements}
use Rattle.nquads.specs.Stored.{IsKnown}
use Rattle.term_store.specs.declared.statements.Quad.{Quad}
use Rattle.stmt_groups.specs.Parts.{IsStray, parts_of}
use Rattle.stmt_groups.specs.Internal.Marking.{IsLeastOf, IsMarkIn}
use Rattle.stmt_groups.specs.Internal.Shown.{shown_text}
use Rattle.stmt_groups.proofs.MarkLemmas.{marks_found, no_memory}
use Rattle.stmt_groups.proofs.StrayLemmas.{strays_exact, strays_keep}
use Rattle.stmt_groups.proofs.marking.mark_numbers.Goals as goal

pub least_text-requires : goal.least_text-requires
least_text-requires c =
    let known = IsKnown c.args.terms.now in
    let must = subst (All known) (sym c.as_slice-must.ensures.same) c.requires.mandatory in
    let may = subst (All known) (sym c.as_slice-may.ensures.same) c.requires.chosen in
    let exact = strays_exact c.as_slice-all.result.now c.as_slice-must.result.now c.as_slice-may.result.now c.in_ok-in_whole.in_whole c.in_ok-in_chosen.in_chosen c.in_ok-strays.strays.items c.in_ok-in_whole.ensures c.in_ok-in_chosen.ensures c.in_ok-strays.ensures in
    subst (All known) (sym c.as_slice.ensures.value) (strays_keep known c.as_slice-all.result.now c.as_slice-must.result.now c.as_slice-may.result.now c.in_ok-strays.strays.items must may exact)

pub returns-in_err-in_whole : goal.returns-in_err-in_whole
returns-in_err-in_whole c = no_memory c.args.terms.now (parts_of c.args.whole.now c.args.mandatory.now c.args.chosen.now) c.from_residual.result c.from_residual.ensures.1

pub returns-in_err-in_mandatory : goal.returns-in_err-in_mandatory
returns-in_err-in_mandatory c = no_memory c.args.terms.now (parts_of c.args.whole.now c.args.mandatory.now c.args.chosen.now) c.from_residual-in_err-in_mandatory.result c.from_residual-in_err-in_mandatory.ensures.1

pub returns-in_err-in_chosen : goal.returns-in_err-in_chosen
returns-in_err-in_chosen c = no_memory c.args.terms.now (parts_of c.args.whole.now c.args.mandatory.now c.args.chosen.now) c.from_residual-in_err-in_chosen.result c.from_residual-in_err-in_chosen.ensures.1

pub returns-in_err-strays : goal.returns-in_err-strays
returns-in_err-strays c = no_memory c.args.terms.now (parts_of c.args.whole.now c.args.mandatory.now c.args.chosen.now) c.from_residual-in_err-strays.result c.from_residual-in_err-strays.ensures.1

pub returns-in_err-least : goal.returns-in_err-least
returns-in_err-least c = no_memory c.args.terms.now (parts_of c.args.whole.now c.args.mandatory.now c.args.chosen.now) c.from_residual-in_err-least.result c.from_residual-in_err-least.ensures.1

pub returns-in_err-marks-in-None : goal.returns-in_err-marks-in-None
returns-in_err-marks-in-None c = no_memory c.args.terms.now (parts_of c.args.whole.now c.args.mandatory.now c.args.chosen.now) c.from_residual-in_err-marks-in-None.result c.from_residual-in_err-marks-in-None.ensures.1

pub invariant_of-result : goal.invariant_of-result
invariant_of-result c = subst AllDiffer (sym (c.in_ok-marks-in-None.ensures.quads ∙ c.as_slice-all.ensures.same)) c.as_slice-all.ensures.differ

pub returns-in-Some : goal.returns-in-Some
returns-in-Some c =
    let texts = c.args.terms.now in
    let strays = c.in_ok-strays.strays.items in
    let in_whole = subst (SameElements c.in_ok-in_whole.in_whole) c.as_slice-all.ensures.same c.in_ok-in_whole.ensures in
    record {
      strays = strays;
      exact = subst (λ (must : List Quad). HasExactly strays (IsStray (parts_of c.args.whole.now must c.args.chosen.now))) c.as_slice-must.ensures.same
          (subst (λ (may : List Quad). HasExactly strays (IsStray (parts_of c.args.whole.now c.as_slice-must.result.now may))) c.as_slice-may.ensures.same
          (strays_exact c.args.whole.now c.as_slice-must.result.now c.as_slice-may.result.now c.in_ok-in_whole.in_whole c.in_ok-in_chosen.in_chosen strays in_whole c.in_ok-in_chosen.ensures c.in_ok-strays.ensures));
      least = subst (IsLeastOf (map (shown_text texts) strays)) c.in-Some.is (subst (λ (ys : List Quad). IsLeastOf (map (shown_text texts) ys) c.in_ok-least.least) c.as_slice.ensures.value c.in_ok-least.ensures);
    }

pub returns : goal.returns
returns c =
    let texts = c.args.terms.now in
    let strays = c.in_ok-strays.strays.items in
    let must = subst (SameElements c.in_ok-in_mandatory.in_mandatory) c.as_slice-must.ensures.same c.in_ok-in_mandatory.ensures in
    let may = subst (SameElements c.in_ok-in_chosen.in_chosen) c.as_slice-may.ensures.same c.in_ok-in_chosen.ensures in
    let whole = subst (SameElements c.in_ok-in_whole.in_whole) c.as_slice-all.ensures.same c.in_ok-in_whole.ensures in
    let found = strays_exact c.args.whole.now c.as_slice-must.result.now c.as_slice-may.result.now c.in_ok-in_whole.in_whole c.in_ok-in_chosen.in_chosen strays whole c.in_ok-in_chosen.ensures c.in_ok-strays.ensures in
    let exact = subst (λ (ys : List Quad). HasExactly strays (IsStray (parts_of c.args.whole.now ys c.args.chosen.now))) c.as_slice-must.ensures.same
    (subst (λ (ys : List Quad). HasExactly strays (IsStray (parts_of c.args.whole.now c.as_slice-must.result.now ys))) c.as_slice-may.ensures.same found) in
    let none = subst (IsLeastOf (map (shown_text texts) strays)) c.in-None.is (subst (λ (ys : List Quad). IsLeastOf (map (shown_text texts) ys) c.in_ok-least.least) c.as_slice.ensures.value c.in_ok-least.ensures) in
    let says = subst (λ (ys : List Quad). All (IsMarkIn (parts_of ys c.in_ok-in_mandatory.in_mandatory c.in_ok-in_chosen.in_chosen)) c.in_ok-marks-in-None.marks.items) c.as_slice-all.ensures.same c.in_ok-marks-in-None.ensures.says in
    marks_found texts c.args.whole.now c.args.mandatory.now c.args.chosen.now c.in_ok-in_mandatory.in_mandatory c.in_ok-in_chosen.in_chosen strays c.in_ok-marks-in-None.marks.items must may exact none (c.in_ok-marks-in-None.ensures.quads ∙ c.as_slice-all.ensures.same) says

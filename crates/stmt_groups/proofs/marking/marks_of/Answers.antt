use Rattle.std.proofs.Common.{[], ap, ◌∙◌}
use Rattle.std.proofs.lemmas.List.{take_all}
use Rattle.std.proofs.lemmas.List.Elements.{All-nil, All-same}
use Rattle.stmt_groups.specs.Parts.{marked_quads, parts_of}
use Rattle.stmt_groups.specs.Internal.Marking.{IsMarkIn}
use Rattle.stmt_groups.proofs.MarkLemmas.{marked_as, marks_more, says_more}
use Rattle.stmt_groups.proofs.marking.marks_of.Goals as goal

pub loop-quad-init : goal.loop-quad-init
loop-quad-init c =
    let is_mark = IsMarkIn (parts_of c.args.quads.now c.args.mandatory.now c.args.chosen.now) in
    record {
      quads = ap marked_quads c.in_ok-marks.ensures.items;
      says = All-same is_mark c.in_ok-marks.marks.items [] c.in_ok-marks.ensures.items (All-nil is_mark);
    }

pub loop-quad-preserved : goal.loop-quad-preserved
loop-quad-preserved c =
    let made = c.mark_of.ensures in
    let says = marked_as c.args.quads.now c.args.mandatory.now c.args.chosen.now _ c.mark_of.result made.quad made.mandatory made.chosen in
    record {
      quads = marks_more c.args.quads.now c.loop-quad.quad-index _ c.loop-quad.marks.items c.push.new.self.items c.mark_of.result c.loop-quad-test.true made.quad c.in_ok-push.ensures.items c.loop-quad.invariant.quads;
      says = says_more c.args.quads.now c.args.mandatory.now c.args.chosen.now c.loop-quad.marks.items c.push.new.self.items c.mark_of.result c.in_ok-push.ensures.items says c.loop-quad.invariant.says;
    }

pub returns-clause-quads : goal.returns-clause-quads
returns-clause-quads c = c.loop-quad.invariant.quads ∙ take_all c.loop-quad.quad-index c.args.quads.now c.loop-quad-test.false

pub returns-clause-says : goal.returns-clause-says
returns-clause-says c = c.loop-quad.invariant.says

use Rattle.std.proofs.Common.{ap, ap₂, ◌∙◌}
use Rattle.std.specs.Cmp.Lexicographic.{slice_cmp}
use Rattle.std.specs.Ordering.{nat_cmp}
use Rattle.std.specs.Str.{is_utf8}
use Rattle.std.specs.Str.Iter.{encode_utf16_rest, encode_utf16_pending}
use Rattle.std.proofs.lemmas.Str.{is_utf8-from_IsUtf8}
use Rattle.jcs_text.proofs.Units.{units-begin, units-same, units-utf8}
use Rattle.jcs_text.proofs.naming.compare_names.Goals as goal

pub loop-unit-init : goal.loop-unit-init
loop-unit-init c =
    let units = c.into_iter-unit-iterator.ensures.into_iter_gives in
    let rest = ap encode_utf16_rest units ∙ c.encode_utf16-unit-items.ensures.text in
    record {
      same = ap₂ (slice_cmp nat_cmp)
          (units-begin c.into_iter-unit-iterator.result c.args.a.now rest (ap encode_utf16_pending units ∙ c.encode_utf16-unit-items.ensures.pending))
          (units-begin c.encode_utf16-others.result c.args.b.now c.encode_utf16-others.ensures.text c.encode_utf16-others.ensures.pending);
      text = ap is_utf8 rest ∙ is_utf8-from_IsUtf8 c.args.a.now c.utf8.a;
      other = ap is_utf8 c.encode_utf16-others.ensures.text ∙ is_utf8-from_IsUtf8 c.args.b.now c.utf8.b;
    }

pub loop-unit-preserved : goal.loop-unit-preserved
loop-unit-preserved c =
    let at = c.loop-unit in
    let was = at.invariant in
    record {
      same = units-same at.unit-iterator c.next.new.self at.others c.next-in-loop-unit.new.self c.next.result c.next-in-loop-unit.result c.in-Some.unit c.in-Some-next.other _ was.same was.text was.other c.in-Some.is c.next.ensures.steps c.in-Some-next.is c.next-in-loop-unit.ensures.steps c.if-unit-other.false;
      text = units-utf8 at.unit-iterator c.next.new.self c.next.result c.in-Some.unit was.text c.in-Some.is c.next.ensures.steps;
      other = units-utf8 at.others c.next-in-loop-unit.new.self c.next-in-loop-unit.result c.in-Some-next.other was.other c.in-Some-next.is c.next-in-loop-unit.ensures.steps;
    }

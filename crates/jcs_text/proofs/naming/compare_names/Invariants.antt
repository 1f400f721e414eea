use Rattle.std.proofs.Common.{◌≡◌, true}
use Rattle.std.specs.Cmp.Lexicographic.{slice_cmp}
use Rattle.std.specs.Ordering.{nat_cmp}
use Rattle.std.specs.Str.{is_utf8}
use Rattle.std.specs.Str.Iter.{encode_utf16_rest}
use Rattle.jcs_text.specs.Canonical.{code_units}
use Rattle.jcs_text.proofs.Units.{units_left}
use Rattle.jcs_text.proofs.naming.compare_names.Given as goal

-- what is left of both compares as the whole, and is text
abbrev pub invariant-loop-unit : goal.invariant-loop-unit
invariant-loop-unit l = record {
  same : slice_cmp nat_cmp (units_left l.unit-iterator) (units_left l.others) ≡ slice_cmp nat_cmp (code_units l.a) (code_units l.b);
  text : is_utf8 (encode_utf16_rest l.unit-iterator) ≡ true;
  other : is_utf8 (encode_utf16_rest l.others) ≡ true;
}

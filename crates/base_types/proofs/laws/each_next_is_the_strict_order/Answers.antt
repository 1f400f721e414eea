use Rattle.std.specs.Cmp.Lexicographic.{nat_list_cmp_total}
use Rattle.base_types.proofs.Numbers.{strict_from_rise, rise_from_strict}
use Rattle.base_types.proofs.Searching.{strict_from_next, next_from_strict}
use Rattle.base_types.proofs.laws.each_next_is_the_strict_order.Goals as goal

pub returns : goal.returns
returns c = record {
  texts = λ ts. (strict_from_next nat_list_cmp_total ts, next_from_strict nat_list_cmp_total ts);
  numbers = λ ks. (strict_from_rise ks, rise_from_strict ks);
}

use Rattle.std.proofs.Common.{◌≡◌, true, arith, codes, refl}
use Rattle.std.proofs.lemmas.List.Elements.{All-from_recursion}
use Rattle.nquads.specs.Terms.{is_label_character}
use Rattle.nquads.proofs.ReadingTerms.{label_absent}
use Rattle.nquads.proofs.laws.worked_labels.Goals as goal

pub returns-clause-dot_within : goal.returns-clause-dot_within
returns-clause-dot_within c = record {
  not_empty = λ e. cc;
  characters = All-from_recursion (λ c. is_label_character c ≡ true) (codes "a.b") (refl, (refl, (refl, tt)));
  first = ((λ e. omega arith), (λ e. omega arith));
  last = λ e. omega arith;
}

pub returns-clause-dot_first : goal.returns-clause-dot_first
returns-clause-dot_first c = λ l. l.first.1 refl

pub returns-clause-dot_last : goal.returns-clause-dot_last
returns-clause-dot_last c = λ l. l.last refl

pub returns-clause-hyphen_last : goal.returns-clause-hyphen_last
returns-clause-hyphen_last c = record {
  not_empty = λ e. cc;
  characters = All-from_recursion (λ c. is_label_character c ≡ true) (codes "a-") (refl, (refl, tt));
  first = ((λ e. omega arith), (λ e. omega arith));
  last = λ e. omega arith;
}

pub returns-clause-hyphen_first : goal.returns-clause-hyphen_first
returns-clause-hyphen_first c = λ l. l.first.0 refl

pub returns-clause-digit_first : goal.returns-clause-digit_first
returns-clause-digit_first c = record {
  not_empty = λ e. cc;
  characters = All-from_recursion (λ c. is_label_character c ≡ true) (codes "0") (refl, tt);
  first = ((λ e. omega arith), (λ e. omega arith));
  last = λ e. omega arith;
}

pub returns-clause-space_within : goal.returns-clause-space_within
returns-clause-space_within c = λ l. (label_absent 32 (codes "a b") refl l).1.0 refl

pub returns-clause-nothing : goal.returns-clause-nothing
returns-clause-nothing c = λ l. l.not_empty refl

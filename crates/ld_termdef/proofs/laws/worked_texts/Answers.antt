use Rattle.std.proofs.Common.{refl}
use Rattle.ld_termdef.proofs.laws.worked_texts.Goals as goal

pub returns-clause-inner : goal.returns-clause-inner
returns-clause-inner c = refl

pub returns-clause-first : goal.returns-clause-first
returns-clause-first c = refl

pub returns-clause-last : goal.returns-clause-last
returns-clause-last c = refl

pub returns-clause-one : goal.returns-clause-one
returns-clause-one c = refl

pub returns-clause-hash : goal.returns-clause-hash
returns-clause-hash c = refl

pub returns-clause-at : goal.returns-clause-at
returns-clause-at c = refl

pub returns-clause-letter : goal.returns-clause-letter
returns-clause-letter c = refl

pub returns-clause-none : goal.returns-clause-none
returns-clause-none c = refl

pub returns-clause-keyword : goal.returns-clause-keyword
returns-clause-keyword c = refl

pub returns-clause-form : goal.returns-clause-form
returns-clause-form c = refl

pub returns-clause-at_alone : goal.returns-clause-at_alone
returns-clause-at_alone c = refl

pub returns-clause-digit : goal.returns-clause-digit
returns-clause-digit c = refl

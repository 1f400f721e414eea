use Rattle.std.proofs.Common.{refl}
use Rattle.iri_ref.proofs.laws.ascii_characters.Goals as goal

pub returns-clause-forbidden : goal.returns-clause-forbidden
returns-clause-forbidden c = refl

pub returns-clause-letters : goal.returns-clause-letters
returns-clause-letters c = refl

pub returns-clause-scheme : goal.returns-clause-scheme
returns-clause-scheme c = refl

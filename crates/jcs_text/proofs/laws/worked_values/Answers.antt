use Rattle.std.proofs.Common.{refl}
use Rattle.std.specs.Fmt.{digits}
use Rattle.std.specs.Str.{chars}
use Rattle.jcs_text.proofs.Equations.{canonical_json-Null, canonical_json-Bool, canonical_json-Whole, canonical_json-Text, canonical_json-List, canonical_json-Object}
use Rattle.jcs_text.proofs.laws.worked_values.Goals as goal

pub returns-clause-literals : goal.returns-clause-literals
returns-clause-literals c = rw (canonical_json-List, canonical_json-Null, canonical_json-Bool, canonical_json-Bool) refl

pub returns-clause-empty : goal.returns-clause-empty
returns-clause-empty c = rw canonical_json-List refl

pub returns-clause-members : goal.returns-clause-members
unfolding chars
returns-clause-members c = rw (canonical_json-Object, canonical_json-Text, canonical_json-Text, canonical_json-Text, canonical_json-Text) refl

pub returns-clause-nested : goal.returns-clause-nested
unfolding chars digits
returns-clause-nested c = rw (canonical_json-Object, canonical_json-Whole, canonical_json-Object, canonical_json-Object, canonical_json-List) refl

pub returns-clause-gaps : goal.returns-clause-gaps
unfolding digits
returns-clause-gaps c = rw (canonical_json-List, canonical_json-Text, canonical_json-Whole) refl

pub returns-clause-repeated : goal.returns-clause-repeated
unfolding chars
returns-clause-repeated c = rw (canonical_json-Object, canonical_json-Bool, canonical_json-Bool, canonical_json-Null) refl

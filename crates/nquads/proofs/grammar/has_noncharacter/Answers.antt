use Rattle.std.proofs.Common.{[], ◌∷◌}
use Rattle.std.proofs.lemmas.Str.Pattern.{contains_text}
use Rattle.nquads.proofs.GrammarLemmas.{first_found, second_found}
use Rattle.nquads.proofs.grammar.has_noncharacter.Goals as goal

pub returns-then-contains : goal.returns-then-contains
returns-then-contains c =
    first_found c.args.text.now c.contains.result c.if-contains.true
    (contains_text c.contains.result (239 ∷ 191 ∷ 190 ∷ []) c.args.text.now c.contains.ensures.cases)

pub returns-else-contains : goal.returns-else-contains
returns-else-contains c =
    second_found c.args.text.now c.contains.result c.contains-else-contains.result c.if-contains.false
    (contains_text c.contains.result (239 ∷ 191 ∷ 190 ∷ []) c.args.text.now c.contains.ensures.cases)
    (contains_text c.contains-else-contains.result (239 ∷ 191 ∷ 191 ∷ []) c.args.text.now c.contains-else-contains.ensures.cases)

use Rattle.std.proofs.Common.{[], ◌∷◌, ◌++◌, codes, option_and_then, refl, ap, ◌∙◌, arith}
use Rattle.std.proofs.lemmas.Fmt.{decimal_digit}
use Rattle.json_tree.specs.declared.place.Step.TheVariants.{At}
use Rattle.json_tree.specs.Places.{look}
use Rattle.json_tree.proofs.Kept.{look-one}
use Rattle.json_tree.proofs.TreeLemmas.{child_of-Object-Key, child_of-List-At}
use Rattle.json_tree.proofs.laws.worked_pointers.Goals as goal

pub returns-clause-root : goal.returns-clause-root
returns-clause-root c = (refl, refl)

pub returns-clause-element : goal.returns-clause-element
returns-clause-element c = (
  ap (λ ds. codes "/foo/" ++ (ds ++ [])) (decimal_digit 0 (omega arith)),
  ap (option_and_then (look (At 0 ∷ []))) (child_of-Object-Key _ (codes "foo")) ∙ look-one _ (At 0) ∙ child_of-List-At _ 0,
)

pub returns-clause-empty : goal.returns-clause-empty
returns-clause-empty c = (refl, look-one _ _ ∙ child_of-Object-Key _ _)

pub returns-clause-slash : goal.returns-clause-slash
returns-clause-slash c = (refl, look-one _ _ ∙ child_of-Object-Key _ _)

pub returns-clause-percent : goal.returns-clause-percent
returns-clause-percent c = (refl, look-one _ _ ∙ child_of-Object-Key _ _)

pub returns-clause-quote : goal.returns-clause-quote
returns-clause-quote c = (refl, look-one _ _ ∙ child_of-Object-Key _ _)

pub returns-clause-tilde : goal.returns-clause-tilde
returns-clause-tilde c = (refl, look-one _ _ ∙ child_of-Object-Key _ _)

pub returns-clause-backslash : goal.returns-clause-backslash
returns-clause-backslash c = (refl, look-one _ _ ∙ child_of-Object-Key _ _)

pub returns-clause-space : goal.returns-clause-space
returns-clause-space c = (refl, look-one _ _ ∙ child_of-Object-Key _ _)

pub returns-clause-escaped_name : goal.returns-clause-escaped_name
returns-clause-escaped_name c = refl

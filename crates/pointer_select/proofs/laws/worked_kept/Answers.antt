use Rattle.std.proofs.Common.{refl, sym, ◌∙◌, [], ◌∷◌}
use Rattle.std.proofs.lemmas.Bool.{true≢false}
use Rattle.pointer_select.specs.Examples.{pointed_place}
use Rattle.pointer_select.proofs.Keeping.{any_kept, kept_any}
use Rattle.pointer_select.proofs.laws.worked_kept.Goals as goal

pub returns-clause-above : goal.returns-clause-above
returns-clause-above c = any_kept (pointed_place ∷ []) _ refl

pub returns-clause-below : goal.returns-clause-below
returns-clause-below c = any_kept (pointed_place ∷ []) _ refl

pub returns-clause-on_the_way : goal.returns-clause-on_the_way
returns-clause-on_the_way c = any_kept (pointed_place ∷ []) _ refl

pub returns-clause-under_a_name : goal.returns-clause-under_a_name
returns-clause-under_a_name c = any_kept (pointed_place ∷ []) _ refl

pub returns-clause-sibling : goal.returns-clause-sibling
returns-clause-sibling c k = true≢false (sym (kept_any (pointed_place ∷ []) _ k) ∙ refl)

pub returns-clause-name_of_sibling : goal.returns-clause-name_of_sibling
returns-clause-name_of_sibling c k = true≢false (sym (kept_any (pointed_place ∷ []) _ k) ∙ refl)

pub returns-clause-name_beside : goal.returns-clause-name_beside
returns-clause-name_beside c k = true≢false (sym (kept_any (pointed_place ∷ []) _ k) ∙ refl)

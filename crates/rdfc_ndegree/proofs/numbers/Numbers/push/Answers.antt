use Rattle.std.proofs.Common.{◌≡◌, None, ap, ◌∙◌, ◌++◌, ◌∷◌, []}
use Rattle.rdfc_ndegree.specs.Internal.Building.{number_among}
use Rattle.rdfc_ndegree.proofs.NumberLemmas.{insert_key-new}
use Rattle.rdfc_ndegree.proofs.numbers.Numbers.push.Goals as goal

pub returns : goal.returns
returns c =
    let keys = c.self.inside.ids.keys in
    let none : number_among keys c.args.id.index ≡ None = ap (λ ns. number_among ns c.args.id.index) c.self.view_is ∙ c.requires in
    c.in_ok-insert.ensures.keys ∙ insert_key-new c.args.id.index keys none ∙ ap (λ ns. ns ++ c.args.id.index ∷ []) c.self.view_is

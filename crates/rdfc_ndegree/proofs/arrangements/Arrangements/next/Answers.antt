use Rattle.std.proofs.Common.{◌≡◌, ◌∷◌, ◌∙◌, ap, sym, subst, not, rules, length, take, drop, ◌++◌}
use Rattle.std.proofs.lemmas.List.{take_at}
use Rattle.rdfc_ndegree.specs.Sequences.{left_from}
use Rattle.rdfc_ndegree.specs.Internal.Sequences.{Advances}
use Rattle.rdfc_ndegree.proofs.NextSequence.{left-advance}
use Rattle.rdfc_ndegree.proofs.arrangements.Arrangements.next.Goals as goal

pub returns-clause-some : goal.returns-clause-some
returns-clause-some c =
    let here = c.self.inside.next.items in
    let step : Advances here c.advance.new.numbers c.advance.result = subst (λ xs. Advances xs c.advance.new.numbers c.advance.result) c.as_mut_slice.ensures.value c.advance.ensures in
    let given : here ≡ c.from_vec.result = search rules in
    let long : length c.advance.new.numbers ≡ c.self.inside.next.len = c.advance.auto.numbers ∙ ap length c.as_mut_slice.ensures.value ∙ sym c.self.inside.next.ok.0 in
    let kept : take c.self.inside.next.len (c.advance.new.numbers ++ drop (length c.advance.new.numbers) here) ≡ c.advance.new.numbers = take_at c.advance.new.numbers (drop (length c.advance.new.numbers) here) c.self.inside.next.len long in
    sym c.self.view_is ∙ ap (λ b. left_from b here) c.if-self.false ∙ left-advance here c.advance.new.numbers c.advance.result step
    ∙ (λ i. given i ∷ left_from (not c.advance.result) (sym kept i))

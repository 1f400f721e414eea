use Rattle.std.proofs.Common.{ℕ, ◌<◌, List, Bor, map, length, sym, subst, arith}
use Rattle.term_store.specs.Store.{Interns}
use Rattle.term_store.proofs.StoreLemmas.{Interns-found, Interns-kept, IsStore-kept}
use Rattle.term_store.proofs.store.Terms.intern.Goals as goal

abbrev text_of : Bor (List ℕ) → List ℕ
text_of k = k.now

pub returns-in-Some-clause-ok : goal.returns-in-Some-clause-ok
returns-in-Some-clause-ok c =
    subst (λ ts. Interns ts c.args.text.now c.in-Some.found ts) c.self.view_is
    (Interns-found text_of c.self.inside.texts.keys c.args.text.now c.in-Some.found c.self.invariant.differ (sym c.in-Some.ensures.index))

pub invariant_of-self-2 : goal.invariant_of-self-2
invariant_of-self-2 c =
    let room : length c.self.inside.texts.keys < 4294967295 = omega arith in
    IsStore-kept text_of c.self.inside.texts.keys c.insert_full.new.self.keys c.in_ok-kept.kept c.in_ok-next.ensures.keys c.in_ok-next.ensures.unique room

pub returns-clause-ok : goal.returns-clause-ok
returns-clause-ok c =
    let ks = c.self.inside.texts.keys in
    let new = c.insert_full.new.self.keys in
    let kept = Interns-kept text_of ks new c.in_ok-kept.kept c.in_ok-next.next c.in_ok-next.ensures.keys c.in_ok-next.ensures.stored c.in_ok-next.ensures.unique in
    subst (λ ts. Interns ts c.args.text.now c.in_ok-next.next (map text_of new)) c.self.view_is
    (subst (λ t. Interns (map text_of ks) t c.in_ok-next.next (map text_of new)) c.in_ok-kept.ensures kept)

-- The order of places is total, and only a place itself stands beside it.
use Rattle.std.proofs.Common.{◌≡◌, List, [], ◌∷◌, Ordering, Less, Equal, Greater, refl, sym, ap, ◌∙◌}
use Rattle.std.specs.Cmp.{IsTotalOrder}
use Rattle.std.specs.Ordering.{is_eq, ordering_reverse, ordering_then}
use Rattle.std.proofs.lemmas.Cmp.{ranked, nat_cmp_total, nat_list_cmp_total, lists_total}
use Rattle.json_tree.specs.declared.place.Step.{Step}
use Rattle.json_tree.specs.declared.place.Step.TheVariants.{Key, At}
use Rattle.json_tree.specs.Misplaced.{step_cmp, place_cmp}
use Rattle.base_types.proofs.Orders.{bytes_eq-true, bytes_eq-cmp}

-- steps of which neither comes first are one
pub step_cmp-Equal : (s r : Step) → step_cmp s r ≡ Equal → s ≡ r
step_cmp-Equal (At i) (At j) h = ap At (ranked i j Equal (sym h))
step_cmp-Equal (At i) (Key key) h = absurd (cc)
step_cmp-Equal (Key key) (At j) h = absurd (cc)
step_cmp-Equal (Key key) (Key name) h = ap Key (bytes_eq-true key name (bytes_eq-cmp key name ∙ ap is_eq h))

step_antisymm : (s r : Step) → step_cmp s r ≡ ordering_reverse (step_cmp r s)
step_antisymm (At i) (At j) = nat_cmp_total.antisymm i j
step_antisymm (At i) (Key key) = refl
step_antisymm (Key key) (At j) = refl
step_antisymm (Key key) (Key name) = nat_list_cmp_total.antisymm key name

step_trans : (s r q : Step) → step_cmp s r ≡ Less → step_cmp r q ≡ Less → step_cmp s q ≡ Less
step_trans (At i) (At j) (At k) a b = nat_cmp_total.trans i j k a b
step_trans (At i) (At j) (Key key) a b = refl
step_trans (At i) (Key key) (At k) a b = absurd (cc)
step_trans (At i) (Key key) (Key name) a b = refl
step_trans (Key key) (At j) q a b = absurd (cc)
step_trans (Key key) (Key name) (At k) a b = absurd (cc)
step_trans (Key key) (Key name) (Key other) a b = nat_list_cmp_total.trans key name other a b

-- the order of steps is total
pub step_cmp_total : IsTotalOrder step_cmp
step_cmp_total = record {
  antisymm = step_antisymm;
  trans = step_trans;
  congr = λ s r q e. ap (λ (x : Step). step_cmp x q) (step_cmp-Equal s r e);
}

-- and so is that of places
pub place_cmp_total : IsTotalOrder place_cmp
place_cmp_total = lists_total step_cmp_total

-- places of which neither comes first are one
pub place_cmp-Equal : (p q : List Step) → place_cmp p q ≡ Equal → p ≡ q
place_cmp-Equal [] [] h = refl
place_cmp-Equal [] (r ∷ rs) h = absurd (cc)
place_cmp-Equal (s ∷ ss) [] h = absurd (cc)
place_cmp-Equal (s ∷ ss) (r ∷ rs) h = both (step_cmp s r) refl h (place_cmp-Equal ss rs)
  where
    both : (o : Ordering) → step_cmp s r ≡ o → ordering_then o (place_cmp ss rs) ≡ Equal → (place_cmp ss rs ≡ Equal → ss ≡ rs) → s ∷ ss ≡ r ∷ rs
    both Less e h more = absurd (cc)
    both Equal e h more = ap (λ x. x ∷ ss) (step_cmp-Equal s r e) ∙ ap (λ xs. r ∷ xs) (more h)
    both Greater e h more = absurd (cc)

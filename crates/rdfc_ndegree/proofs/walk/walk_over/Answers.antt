use Rattle.std.proofs.Common.{◌≡◌, ◌∙◌, ◌+◌, ap, subst, drop, rules, slice_index, refl, None, sym, length}
use Rattle.rdfc_ndegree.specs.NumberIssuers.{place_in}
use Rattle.rdfc_ndegree.proofs.Walks.{FirstPass, drop-next, Walking-same, Walking-canonical, Walking-temporary, Walking-new}
use Rattle.rdfc_ndegree.proofs.walk.walk_over.Goals.{in-Some+in_ok-push_canonical, in_default+in-Some-number+in_ok-push_temporary, in_default+in_default-number+in_ok-push_temporary-2+in_ok-append+in_ok-push}
use Rattle.rdfc_ndegree.proofs.walk.walk_over.Goals as goal

pub loop-member-preserved : goal.loop-member-preserved
loop-member-preserved c = λ algorithm rows.
    let next = drop-next c.args.members.now c.loop-member.member-index (slice_index c.args.members.now c.loop-member.member-index) c.loop-member-test.true refl in
    let so_far = subst (λ ms. FirstPass algorithm rows c.args.canonical.now c.args.issuer.now c.args.members.now c.loop-member.path.items c.loop-member.issuer c.loop-member.recursion_list.items ms) next (c.loop-member.invariant algorithm rows) in
    let member = slice_index c.args.members.now c.loop-member.member-index in
    let rest = drop (c.loop-member.member-index + 1) c.args.members.now in
    elim c.match-number.branch [
      | in-Some+in_ok-push_canonical w ↦
          Walking-same algorithm rows c.args.canonical.now c.args.issuer.now c.args.members.now _ _ _ _ _ _ rest (ap (λ v. v.items) w.path-is ∙ w.in_ok-push_canonical.ensures) w.issuer-is (ap (λ v. v.items) w.recursion_list-is)
          (Walking-canonical algorithm rows c.args.canonical.now c.args.issuer.now c.args.members.now _ _ _ rest member so_far w.in-Some.number w.in-Some.ensures)
      | in_default+in-Some-number+in_ok-push_temporary w ↦
          let none : None ≡ place_in c.args.canonical.now member = sym w.in_default.is ∙ c.number.ensures in
          Walking-same algorithm rows c.args.canonical.now c.args.issuer.now c.args.members.now _ _ _ _ _ _ rest (ap (λ v. v.items) w.path-is ∙ w.in_ok-push_temporary.ensures) w.issuer-is (ap (λ v. v.items) w.recursion_list-is)
          (Walking-temporary algorithm rows c.args.canonical.now c.args.issuer.now c.args.members.now _ _ _ rest member so_far w.in-Some-number.number none w.in-Some-number.ensures)
      | in_default+in_default-number+in_ok-push_temporary-2+in_ok-append+in_ok-push w ↦
          let none : None ≡ place_in c.args.canonical.now member = sym w.in_default.is ∙ c.number.ensures in
          let nor : None ≡ place_in c.loop-member.issuer member = w.in_default-number.ensures in
          let len : w.len.result ≡ length c.loop-member.issuer = search rules in
          Walking-same algorithm rows c.args.canonical.now c.args.issuer.now c.args.members.now _ _ _ _ _ _ rest (ap (λ v. v.items) w.path-is ∙ w.in_ok-push_temporary-2.ensures) (w.issuer-is ∙ w.in_ok-append.ensures) (ap (λ v. v.items) w.recursion_list-is ∙ w.in_ok-push.ensures.items)
          (Walking-new algorithm rows c.args.canonical.now c.args.issuer.now c.args.members.now _ _ _ rest member so_far w.len.result none nor len)
    ]

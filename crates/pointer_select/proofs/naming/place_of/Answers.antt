use Rattle.std.proofs.Common.{◌<◌, ℕ, List, length, get_or, subst, ap, ◌∙◌}
use Rattle.json_tree.proofs.Kept.{child_lawful}
use Rattle.pointer_select.specs.Naming.{step_of}
use Rattle.pointer_select.proofs.Names.{place_more, child_step, child_there}
use Rattle.pointer_select.proofs.naming.place_of.Goals as goal

pub loop-token-preserved : goal.loop-token-preserved
loop-token-preserved c =
    let l = c.loop-token in
    let child = c.in-Some.child in
    let seen = c.steps-token-items.ensures in
    let within = subst (λ (ts : List (List ℕ)). l.token-index < length ts) seen c.loop-token-test.true in
    let which = c.token-item.is ∙ ap (λ (ts : List (List ℕ)). get_or ts l.token-index c.token-item.result) seen in
    let there = child_there _ child l.here.now c.in-Some.is c.in_ok-child.ensures.there in
    record {
      further = place_more _ l.place.steps c.push.new.self.steps c.args.pointer.now l.token-index l.here.now child.value.now c.token-item.result child.step l.invariant.further within which (child_step _ child _ c.in-Some.is c.in_ok-child.ensures.step ∙ ap (step_of l.here.now) c.as_str.ensures) there c.in_ok-push-in-Some.ensures.ok;
      lawful = child_lawful l.here.now child.value.now child.step l.invariant.lawful there;
    }

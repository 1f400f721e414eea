use Rattle.std.proofs.Common.{rules, ◌≡◌, [], None, nat_le, length, refl, arith}
use Rattle.std.specs.List.{position}
use Rattle.vc_session.proofs.Verdicts.{count_cause, no_cause}
use Rattle.vc_session.proofs.verifying.cause_of.Goals as goal

pub returns-then-indexes-lines : goal.returns-then-indexes-lines
returns-then-indexes-lines c =
    let filled : c.args.lines.now ≡ [] → ⊥ = search rules in
    let none : position (λ n. nat_le (length c.args.lines.now) n) c.args.indexes.now ≡ None = search rules in
    let fewer = c.if-indexes-lines.true in
    count_cause c.args.lines.now c.args.indexes.now (length c.args.lines.now) c.requires filled refl none (omega (arith, fewer))

pub returns : goal.returns
returns c =
    let filled : c.args.lines.now ≡ [] → ⊥ = search rules in
    let none : position (λ n. nat_le (length c.args.lines.now) n) c.args.indexes.now ≡ None = search rules in
    let enough = c.if-indexes-lines.false in
    no_cause c.args.lines.now c.args.indexes.now (length c.args.lines.now) c.requires filled refl none (omega (arith, enough))

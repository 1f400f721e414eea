use Rattle.std.proofs.Common.{◌≡◌, sym, ap, ◌∙◌, decimal}
use Rattle.std.proofs.lemmas.Bool.{true≢false}
use Rattle.std.proofs.lemmas.Fmt.{parse-decimal}
use Rattle.base_types.proofs.Orders.{bytes_eq-same}
use Rattle.pointer_select.proofs.naming.index_of.Goals as goal

pub returns-in_default : goal.returns-in_default
returns-in_default c n small same =
    let e = parse-decimal 64 n c.args.token.now c.parse.result small small same c.parse.ensures.value.0 in
    absurd (cc (c.in_default.is, e))

pub returns : goal.returns
returns c n small same =
    let e = parse-decimal 64 n c.args.token.now c.parse.result small small same c.parse.ensures.value.0 in
    let one : c.in-Ok.index ≡ n = cc (c.in-Ok.is, e) in
    let equal = c.as_str.ensures.value ∙ c.in_ok-digits.ensures.ok ∙ ap decimal one ∙ sym same in
    absurd (true≢false (sym (bytes_eq-same c.as_str.result.now c.args.token.now equal) ∙ sym c.if-eq.ensures))

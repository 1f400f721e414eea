use Rattle.std.proofs.Common.{Bool, ◌++◌, encode_utf8, sym, ap, ◌∙◌, false, arith}
use Rattle.pointer_select.specs.Internal.Reading.{tokens_from}
use Rattle.pointer_select.proofs.Tokens.{take_plain, take_escaped}
use Rattle.pointer_select.proofs.reading.take.Goals as goal

pub returns-then-reading : goal.returns-then-reading
returns-then-reading c rest =
    let r = c.args.reading.now in
    ap (λ t. r.tokens ++ tokens_from false t rest) c.in_ok-push.ensures.ok
    ∙ take_escaped r.tokens r.token c.args.character c.after_tilde.result rest c.after_tilde.ensures
    ∙ ap (λ (b : Bool). r.tokens ++ tokens_from b r.token (encode_utf8 c.args.character ++ rest)) (sym c.if-reading.true)

pub returns-in_ok-push-in_default : goal.returns-in_ok-push-in_default
returns-in_ok-push-in_default c rest =
    let r = c.args.reading.now in
    ap (λ (b : Bool). r.tokens ++ tokens_from b c.push-in_default.new.self rest) c.if-reading.false
    ∙ ap (λ t. r.tokens ++ tokens_from false t rest) c.in_ok-push-in_default.ensures.ok
    ∙ take_plain r.tokens r.token c.args.character rest (omega arith) (omega arith)
    ∙ ap (λ (b : Bool). r.tokens ++ tokens_from b r.token (encode_utf8 c.args.character ++ rest)) (sym c.if-reading.false)

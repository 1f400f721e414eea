use Rattle.std.proofs.Common.{◌<◌, get_or, sym, arith}
use Rattle.std.proofs.lemmas.Str.{IsCharBoundary-before_ascii}
use Rattle.iri_ref.proofs.Colon.{Splits, colon_splits, no_colon_place, after_colon}
use Rattle.iri_ref.proofs.splitting.split_at_colon.Goals as goal

pub split_at-requires : goal.split_at-requires
split_at-requires c =
    let s : Splits c.args.text.now c.in-Some.at = colon_splits c.args.text.now c.colon_at.result c.colon_at.ensures c.in-Some.at c.in-Some.is in
    let low : get_or c.args.text.now c.in-Some.at 0 < 128 = omega (arith, s.colon) in
    IsCharBoundary-before_ascii c.args.text.now c.in-Some.at s.inside low

pub split_at-requires-in-Some : goal.split_at-requires-in-Some
split_at-requires-in-Some c =
    let s : Splits c.args.text.now c.in-Some.at = colon_splits c.args.text.now c.colon_at.result c.colon_at.ensures c.in-Some.at c.in-Some.is in
    rw c.split_at.ensures.back (after_colon c.args.text.now c.in-Some.at c.utf8.text s)

pub returns-in-Some : goal.returns-in-Some
returns-in-Some c =
    let s : Splits c.args.text.now c.in-Some.at = colon_splits c.args.text.now c.colon_at.result c.colon_at.ensures c.in-Some.at c.in-Some.is in
    rw (c.split_at.ensures.front, c.split_at-in-Some.ensures.back, c.split_at.ensures.back, s.there) (sym s.parts)

pub returns-in-None : goal.returns-in-None
returns-in-None c = sym (no_colon_place c.args.text.now c.colon_at.result c.colon_at.ensures c.in-None.is)

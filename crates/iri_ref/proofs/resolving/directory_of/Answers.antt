use Rattle.std.proofs.Common.{◌≡◌, ◌≢◌, ◌<◌, ◌∙◌, ℕ, Some, None, sym, lit<, length, get_or, add-one, arith}
use Rattle.std.proofs.lemmas.Str.Pattern.{rfind_char}
use Rattle.std.proofs.lemmas.Str.{IsCharBoundary-after_ascii}
use Rattle.iri_ref.proofs.Cuts.{directory_none, directory_at}
use Rattle.iri_ref.proofs.resolving.directory_of.Goals as goal

pub returns-in-Some : goal.returns-in-Some
returns-in-Some c =
    let there : (c.in-Some.at < length c.args.path.now) × (get_or c.args.path.now c.in-Some.at 0 ≡ 47) × ((i : ℕ) → c.in-Some.at < i → i < length c.args.path.now → get_or c.args.path.now i 0 ≢ 47) = rfind_char 47 c.args.path.now (Some c.in-Some.at) c.in-Some.ensures.cases (lit< tt) in
    c.split_at.ensures.front ∙ rw add-one (sym (directory_at c.args.path.now c.in-Some.at there.0 there.1 there.2))

pub returns-in-None : goal.returns-in-None
returns-in-None c = sym (directory_none c.args.path.now (rfind_char 47 c.args.path.now None c.in-None.ensures.cases (lit< tt)))

pub split_at-requires : goal.split_at-requires
split_at-requires c =
    let there : (c.in-Some.at < length c.args.path.now) × (get_or c.args.path.now c.in-Some.at 0 ≡ 47) × ((i : ℕ) → c.in-Some.at < i → i < length c.args.path.now → get_or c.args.path.now i 0 ≢ 47) = rfind_char 47 c.args.path.now (Some c.in-Some.at) c.in-Some.ensures.cases (lit< tt) in
    let low : get_or c.args.path.now c.in-Some.at 0 < 128 = omega arith in
    IsCharBoundary-after_ascii c.args.path.now c.in-Some.at c.utf8.path there.0 low

use Rattle.std.proofs.Common.{◌≡◌, true, false, get_or, refl, sym, ◌∙◌}
use Rattle.std.specs.Str.{bytes_eq}
use Rattle.ld_words.specs.declared.keyword_table.LdKeyword.TheVariants.{Base}
use Rattle.ld_words.specs.Spellings.{keywords, keyword_text}
use Rattle.ld_words.proofs.UniqueSpellings.{word_of-hits, word_of-misses, keyword_some}
use Rattle.ld_words.proofs.keyword_table.find_keyword.Goals as goal

pub returns-then-eq-clause-some : goal.returns-then-eq-clause-some
returns-then-eq-clause-some c =
    let word : c.text.result.now ≡ keyword_text (get_or keywords c.loop-known.known-index Base) = c.text.ensures in
    let hit : bytes_eq (keyword_text (get_or keywords c.loop-known.known-index Base)) c.args.text.now ≡ true = rw (← word) (sym c.if-eq.ensures) in
    keyword_some c.args.text.now _ (sym c.loop-known.invariant.1 ∙ word_of-hits keyword_text keywords c.loop-known.known-index c.args.text.now Base c.loop-known-test.true hit)

pub loop-known-preserved : goal.loop-known-preserved
loop-known-preserved c =
    let word : c.text.result.now ≡ keyword_text (get_or keywords c.loop-known.known-index Base) = c.text.ensures in
    let miss : bytes_eq (keyword_text (get_or keywords c.loop-known.known-index Base)) c.args.text.now ≡ false = rw (← word) (sym c.if-eq.ensures) in
    (refl, word_of-misses keyword_text keywords c.loop-known.known-index c.args.text.now Base c.loop-known-test.true miss ∙ c.loop-known.invariant.1)

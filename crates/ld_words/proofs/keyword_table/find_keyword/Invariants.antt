use Rattle.std.proofs.Common.{◌≡◌, drop}
use Rattle.ld_words.specs.Spellings.{keywords, keyword_text}
use Rattle.ld_words.proofs.UniqueSpellings.{word_of}
use Rattle.ld_words.proofs.keyword_table.find_keyword.Given as goal

abbrev pub invariant-loop-known : goal.invariant-loop-known
invariant-loop-known l = (l.known-items ≡ keywords) × (word_of keyword_text (drop l.known-index l.known-items) l.text ≡ word_of keyword_text keywords l.text)

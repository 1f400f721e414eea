-- What a step of putting two lists of entries together does.
use Rattle.std.specs.Prelude.{◌≡◌, ◌⊎◌, ℕ, ◌+◌, ◌<◌, List, [], ◌++◌, Bool, true, ◌&&◌, Option, Some, None, is_none, find, length}
use Rattle.std.specs.Str.{bytes_eq}
use Rattle.ld_termdef.specs.declared.definition.TermEntry.{TermEntry}
use Rattle.ld_termdef.specs.Overlay.{terms_rise, overlay_of}

-- What was made so far and what is left of both stand for the same as before, and less is left.
pub record TakesFirst (old new over under : List TermEntry) (rest : List TermEntry × List TermEntry)
    : Type 0 where
  pub same : new ++ overlay_of rest.0 rest.1 ≡ old ++ overlay_of over under
  pub over_rises : terms_rise rest.0 ≡ true
  pub under_rises : terms_rise rest.1 ≡ true
  pub fewer : length rest.0 + length rest.1 < length over + length under

-- or one of the lists is empty
abbrev pub Takes :
    List TermEntry → List TermEntry → List TermEntry → List TermEntry
    → Option (List TermEntry × List TermEntry) → Type 0
Takes old new over under (Some rest) = TakesFirst old new over under rest
Takes old new over under None = (new ≡ old) × ((over ≡ []) ⊎ (under ≡ []))

-- whether an entry is protected and none of those that lie over it has its term
abbrev pub shows_protected : List TermEntry → TermEntry → Bool
shows_protected over e = e.def.protected && is_none (find (λ d. bytes_eq d.term e.term) over)

-- What the program keeps of definitions: two lists, of which the first counts.
use Rattle.std.specs.Prelude.{◌≡◌, List, true}
use Rattle.ld_termdef.specs.declared.definition.TermEntry.{TermEntry}
use Rattle.ld_termdef.specs.Overlay.{terms_rise, have_lawful_scopes}

-- each of the two lists stands in the byte order of its terms, and their local contexts are lawful
pub record AreLayers (over under : List TermEntry) : Type 0 where
  pub over_rises : terms_rise over ≡ true
  pub under_rises : terms_rise under ≡ true
  pub over_lawful : have_lawful_scopes over ≡ true
  pub under_lawful : have_lawful_scopes under ≡ true

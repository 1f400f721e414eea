-- The term definition that an entry gives, and when it may take the place of an earlier one.
-- JSON-LD 1.1 API, 4.2.2, steps 10 to 28
use Rattle.std.specs.Prelude.{◌≡◌, ◌⊎◌, ℕ, List, [], Bool, true, false, ◌&&◌, ◌||◌, not, Option, Some, None, option_map, codes}
use Rattle.json_tree.specs.declared.tree.Tree.{Tree}
use Rattle.json_tree.specs.declared.place.Step.{Step}
use Rattle.json_tree.specs.declared.place.Place.{Place}
use Rattle.json_tree.specs.Trees.{renumbered}
use Rattle.ld_termdef.specs.declared.definition.Mapped.{Mapped}
use Rattle.ld_termdef.specs.declared.definition.Mapped.TheVariants as maps
use Rattle.ld_termdef.specs.declared.definition.Setting.TheVariants as setting
use Rattle.ld_termdef.specs.declared.definition.Scoped.{Scoped}
use Rattle.ld_termdef.specs.declared.definition.TermDef.{TermDef}
use Rattle.ld_termdef.specs.Words.{has_colon_or_slash, ends_with_delimiter}
use Rattle.ld_termdef.specs.Checked.{value_or}
use Rattle.ld_termdef.specs.Entries.{ContextEntry, Given, ExpandedDefinition, member_of, has_member, place_inside}
use Rattle.ld_termdef.specs.DefinitionMembers.{no_containers}
use Rattle.ld_termdef.specs.Rows.{Rows}

-- whether a term maps to an IRI that ends with a delimiter
abbrev pub maps_to_prefix : Mapped → Bool
maps_to_prefix (maps.Iri iri) = ends_with_delimiter iri
maps_to_prefix maps.Nothing = false
maps_to_prefix (maps.Word k) = false

-- The prefix flag: `@prefix`, or else whether a text defines a term without colon and slash and
-- its IRI ends with a delimiter. -- JSON-LD 1.1 API, 4.2.2, steps 14.2.5 and 25
abbrev pub prefix_flag : List ℕ → ExpandedDefinition → Mapped → Option Bool → Bool
prefix_flag t d mapped (Some flag) = flag
prefix_flag t d mapped None =
    d.simple && not (has_colon_or_slash t) && maps_to_prefix mapped

abbrev pub flag_or : Bool → Option Bool → Bool
flag_or other (Some flag) = flag
flag_or other None = other

abbrev pub is_protected : Option TermDef → Bool
is_protected (Some d) = d.protected
is_protected None = false

-- The protected flag: `@protected` of the definition, or else of its context; and where protected
-- terms may not be changed, a flag that was there stays.
-- JSON-LD 1.1 API, 4.2.2, steps 10, 11 and 27.2
abbrev pub protected_flag : Given → List ℕ → Option Bool → Bool
protected_flag g t own =
    flag_or g.protect own || (not g.change && is_protected (g.before.terms t))

-- the place of these steps, as a value of the program
abbrev pub place_of : List Step → Place
place_of steps = record { steps = steps }

-- The local context of a definition, with the place where it stands. -- API, 4.2.2, step 21.4
abbrev pub scoped_at : List Step → Tree → Scoped
scoped_at place context = record { context = context; at = place_of place }

-- The term definition that the entry e gives, whose value is d, where the rows r have no fault.
-- JSON-LD 1.1 API, 4.2.2
abbrev pub term_definition : Given → ContextEntry → ExpandedDefinition → Rows → TermDef
term_definition g e d r =
    let mapped = value_or maps.Nothing r.mapped in
    record {
      mapped = mapped;
      prefix = prefix_flag e.key d mapped (value_or None r.prefix);
      protected = protected_flag g e.key (value_or None r.protected);
      reverse = has_member (codes "@reverse") d;
      kind = value_or None r.kind;
      language = value_or setting.Absent r.language;
      direction = value_or setting.Absent r.direction;
      containers = value_or no_containers r.containers;
      scoped = option_map (scoped_at (place_inside e (codes "@context")))
          (member_of (codes "@context") d);
      nest = value_or None r.nest;
      index = value_or None r.index;
    }

-- ---- protected terms. JSON-LD 1.1 API, 4.2.2, step 27

-- a local context without any place
abbrev pub without_place : Scoped → Scoped
without_place s = scoped_at [] (renumbered s.context)

-- a definition without its protected flag and without places
abbrev pub without_flag : TermDef → TermDef
without_flag d = record d {
  protected = false;
  scoped = option_map without_place d.scoped;
}

-- A definition may take the place of an earlier one where protected terms may be changed, where the
-- earlier one is not protected, or where both are the same but for that flag.
abbrev pub MayReplace : Bool → Option TermDef → TermDef → Type 0
MayReplace change None new = Unit {0}
MayReplace change (Some old) new =
    (change ≡ true) ⊎ ((old.protected ≡ false) ⊎ (without_flag old ≡ without_flag new))

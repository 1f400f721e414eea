-- Entries laid over others: the list of definitions that two lists stand for.
use Rattle.std.specs.Prelude.{List, [], ◌∷◌, Bool, true, Option, Some, None, if◌then◌else◌}
use Rattle.std.specs.List.{list_all}
use Rattle.std.specs.Str.{bytes_eq}
use Rattle.base_types.specs.Order.{is_before, each_next}
use Rattle.json_tree.specs.Trees.{is_lawful}
use Rattle.ld_termdef.specs.declared.definition.Scoped.{Scoped}
use Rattle.ld_termdef.specs.declared.definition.TermDef.{TermDef}
use Rattle.ld_termdef.specs.declared.definition.TermEntry.{TermEntry}

-- whether the terms of entries rise in byte order, so that none stands twice
abbrev pub terms_rise : List TermEntry → Bool
terms_rise entries = each_next (λ d e. is_before d.term e.term) entries

-- whether the local context of a definition, where it has one, is lawful
abbrev pub is_lawful_scope : Option Scoped → Bool
is_lawful_scope None = true
is_lawful_scope (Some s) = is_lawful s.context

abbrev pub has_lawful_scope : TermDef → Bool
has_lawful_scope d = is_lawful_scope d.scoped

abbrev pub have_lawful_scopes : List TermEntry → Bool
have_lawful_scopes entries = list_all (λ e. has_lawful_scope e.def) entries

-- an entry at its place among entries in the byte order of their terms; it takes the place of one
-- of its term
abbrev pub put_entry : TermEntry → List TermEntry → List TermEntry
put_entry e [] = e ∷ []
put_entry e (d ∷ ds) =
    if is_before e.term d.term then e ∷ d ∷ ds
    else (if bytes_eq e.term d.term then e ∷ ds else d ∷ put_entry e ds)

-- the entries of both lists; where both define a term, the first list counts
abbrev pub overlay_of : List TermEntry → List TermEntry → List TermEntry
overlay_of [] under = under
overlay_of (e ∷ es) under = put_entry e (overlay_of es under)

-- A definition row by row: what each of its members gives, and the faults that stand in it.
-- JSON-LD 1.1 API, 4.2.2
use Rattle.std.specs.Prelude.{ℕ, List, [], ◌∷◌, ◌++◌, Bool, true, false, ◌&&◌, ◌||◌, not, nat_lt, Option, Some, None, is_some, codes, length, if◌then◌else◌}
use Rattle.std.specs.List.{list_all}
use Rattle.std.specs.Str.{bytes_eq}
use Rattle.json_tree.specs.declared.tree.Tree.{Tree}
use Rattle.json_tree.specs.declared.tree.Member.{Member}
use Rattle.json_tree.specs.declared.place.Step.{Step}
use Rattle.json_tree.specs.Places.{text_of, text_at}
use Rattle.ld_words.specs.declared.code_table.Code.{Code}
use Rattle.ld_words.specs.declared.code_table.Code.TheVariants as error
use Rattle.ld_termdef.specs.declared.definition.Mapped.{Mapped}
use Rattle.ld_termdef.specs.declared.definition.Mapped.TheVariants as maps
use Rattle.ld_termdef.specs.declared.definition.Kind.{Kind}
use Rattle.ld_termdef.specs.declared.definition.Kind.TheVariants as kinds
use Rattle.ld_termdef.specs.declared.definition.Setting.{Setting}
use Rattle.ld_termdef.specs.declared.definition.Setting.TheVariants as setting
use Rattle.ld_termdef.specs.declared.definition.Containers.{Containers}
use Rattle.ld_termdef.specs.Words.{keyword_of, has_colon_or_slash, is_empty}
use Rattle.ld_termdef.specs.Checked.{Checked, fine, wrong, Fault, value_or, fault_at, fault_where, checked_or}
use Rattle.ld_termdef.specs.Contexts.{Context}
use Rattle.ld_termdef.specs.Entries.{ContextEntry, ExpandedDefinition, member_of, has_member, entry_place, place_inside}
use Rattle.ld_termdef.specs.Mappings.{mapping}
use Rattle.ld_termdef.specs.DefinitionMembers.{kind_in, containers_in, no_containers, is_among, index_in, language_in, direction_in, unless_typed, nest_in, boolean_in}

-- What each member of a definition gives.
pub record Rows : Type 0 where
  pub mapped : Checked Mapped
  pub kind : Checked (Option Kind)
  pub containers : Checked Containers
  pub index : Checked (Option (List ℕ))
  pub language : Checked Setting
  pub direction : Checked Setting
  pub nest : Checked (Option (List ℕ))
  pub prefix : Checked (Option Bool)
  pub protected : Checked (Option Bool)

-- The rows of the definition d of the term t, whose IRIs are read in the context c.
abbrev pub rows : Context → List ℕ → ExpandedDefinition → Rows
rows c t d = record {
  mapped = mapping c t d;
  kind = checked_or (fine None) (kind_in c) (member_of (codes "@type") d);
  containers = checked_or (fine no_containers) containers_in (member_of (codes "@container") d);
  index = checked_or (fine None) (index_in c) (member_of (codes "@index") d);
  language = checked_or (fine setting.Absent)
      (unless_typed (has_member (codes "@type") d) language_in) (member_of (codes "@language") d);
  direction = checked_or (fine setting.Absent)
      (unless_typed (has_member (codes "@type") d) direction_in) (member_of (codes "@direction") d);
  nest = checked_or (fine None) nest_in (member_of (codes "@nest") d);
  prefix = checked_or (fine None) (boolean_in error.InvalidPrefixValue)
      (member_of (codes "@prefix") d);
  protected = checked_or (fine None) (boolean_in error.InvalidProtectedValue)
      (member_of (codes "@protected") d);
}

-- the place of a member: a definition that is no object has none, so that its entry counts
abbrev pub member_place : ContextEntry → ExpandedDefinition → List ℕ → List Step
member_place e d key = if d.short then entry_place e else place_inside e key

-- ---- the term itself

-- the members that a definition may have. -- JSON-LD 1.1 API, 4.2.2, step 26
abbrev pub definition_words : List (List ℕ)
definition_words =
    codes "@id" ∷ codes "@reverse" ∷ codes "@container" ∷ codes "@context" ∷ codes "@direction"
    ∷ codes "@index" ∷ codes "@language" ∷ codes "@nest" ∷ codes "@prefix" ∷ codes "@protected"
    ∷ codes "@type" ∷ []

abbrev pub has_unknown : ExpandedDefinition → Bool
has_unknown d = not (list_all (λ m. is_among definition_words m.key) d.members)

-- whether there is a text, and it is this one
abbrev pub is_text : List ℕ → Option (List ℕ) → Bool
is_text text None = false
is_text text (Some other) = bytes_eq other text

-- what may stand in a definition of `@type`: `@protected`, and `@container` with the text `@set`
abbrev pub may_define_type : Member Tree → Bool
may_define_type m =
    bytes_eq m.key (codes "@protected")
    || (bytes_eq m.key (codes "@container") && is_text (codes "@set") (text_of m.value))

abbrev pub has_members : ExpandedDefinition → Bool
has_members d = nat_lt 0 (length d.members)

-- Whether this is the one definition that a keyword may have: of `@type`, an object with one or
-- both of these. -- JSON-LD 1.1 API, 4.2.2, step 4
abbrev pub is_type_definition : List ℕ → ExpandedDefinition → Bool
is_type_definition t d =
    bytes_eq t (codes "@type") && not d.short && has_members d
    && list_all may_define_type d.members

-- Faults of the term and of members that are none. -- JSON-LD 1.1 API, 4.2.2, steps 2, 4, 5 and 26
abbrev pub term_faults : ContextEntry → ExpandedDefinition → List Fault
term_faults e d =
    fault_where (is_empty e.key || has_unknown d) error.InvalidTermDefinition (entry_place e)
    ++ fault_where (is_some (keyword_of e.key) && not (is_type_definition e.key d))
    error.KeywordRedefinition (entry_place e)

-- ---- the members, each by itself

-- whether the definition has an `@id` that is not the term itself
abbrev pub has_other_id : List ℕ → ExpandedDefinition → Bool
has_other_id t d = has_member (codes "@id") d && not (is_text t (text_at (codes "@id") d.members))

-- the place of what says to what the term maps: `@reverse`, an `@id` other than the term, or else
-- the entry of the term
abbrev pub mapping_place : ContextEntry → ExpandedDefinition → List Step
mapping_place e d =
    if has_member (codes "@reverse") d then member_place e d (codes "@reverse")
    else if has_other_id e.key d then member_place e d (codes "@id")
    else entry_place e

-- Faults of single members. -- JSON-LD 1.1 API, 4.2.2, steps 11 to 14, 18 to 20 and 22 to 25
abbrev pub member_faults : ContextEntry → ExpandedDefinition → Rows → List Fault
member_faults e d r =
    fault_at r.mapped (mapping_place e d)
    ++ fault_at r.kind (member_place e d (codes "@type"))
    ++ fault_at r.containers (member_place e d (codes "@container"))
    ++ fault_at r.index (member_place e d (codes "@index"))
    ++ fault_at r.language (member_place e d (codes "@language"))
    ++ fault_at r.direction (member_place e d (codes "@direction"))
    ++ fault_at r.nest (member_place e d (codes "@nest"))
    ++ fault_at r.prefix (member_place e d (codes "@prefix"))
    ++ fault_at r.protected (member_place e d (codes "@protected"))

-- ---- members that must not stand together: each of them is at fault

abbrev pub both_at : Bool → Code → List Step → List Step → List Fault
both_at test code one other = fault_where test code one ++ fault_where test code other

-- whether containers are known, and are other than `@set` and `@index`
abbrev pub not_for_reverse : Checked Containers → Bool
not_for_reverse (wrong code) = false
not_for_reverse (fine cs) = cs.list || cs.language || cs.id || cs.kind || cs.graph

-- whether the container `@type` is known to be there, and whether the kind goes with it
abbrev pub has_type_container : Checked Containers → Bool
has_type_container (wrong code) = false
has_type_container (fine cs) = cs.kind

abbrev pub names_nodes : Option Kind → Bool
names_nodes None = true
names_nodes (Some kinds.Id) = true
names_nodes (Some kinds.Vocab) = true
names_nodes (Some other) = false

-- whether the prefix flag is set, and whether the term maps to a keyword
abbrev pub is_set : Checked (Option Bool) → Bool
is_set (fine None) = false
is_set (fine (Some flag)) = flag
is_set (wrong code) = false

abbrev pub is_alias : Checked Mapped → Bool
is_alias (fine (maps.Word k)) = true
is_alias (fine maps.Nothing) = false
is_alias (fine (maps.Iri iri)) = false
is_alias (wrong code) = false

-- Faults of two members together. Where the term itself is the keyword, `@prefix` is at fault
-- alone. -- JSON-LD 1.1 API, 4.2.2, steps 13.1, 13.5, 19.4 and 25.3
abbrev pub pair_faults : ContextEntry → ExpandedDefinition → Rows → List Fault
pair_faults e d r =
    let reverse = member_place e d (codes "@reverse") in
    let container = member_place e d (codes "@container") in
    both_at (has_member (codes "@reverse") d && has_other_id e.key d)
    error.InvalidReverseProperty reverse (member_place e d (codes "@id"))
    ++ both_at (has_member (codes "@reverse") d && has_member (codes "@nest") d)
    error.InvalidReverseProperty reverse (member_place e d (codes "@nest"))
    ++ both_at (has_member (codes "@reverse") d && not_for_reverse r.containers)
    error.InvalidReverseProperty reverse container
    ++ both_at (has_type_container r.containers && not (names_nodes (value_or None r.kind)))
    error.InvalidTypeMapping container (member_place e d (codes "@type"))
    ++ fault_where (is_set r.prefix && is_alias r.mapped)
    error.InvalidTermDefinition (member_place e d (codes "@prefix"))
    ++ fault_where (is_set r.prefix && is_alias r.mapped && has_other_id e.key d)
    error.InvalidTermDefinition (member_place e d (codes "@id"))

-- ---- `@index` and `@prefix` where they may not stand

-- whether the containers are known, and `@index` is none of them
abbrev pub lacks_index : Checked Containers → Bool
lacks_index (wrong code) = false
lacks_index (fine cs) = not cs.index

-- Faults of `@index` without its container, and of `@prefix` on a term with a colon or a slash.
-- JSON-LD 1.1 API, 4.2.2, steps 20.1 and 25.1
abbrev pub misplaced_faults : ContextEntry → ExpandedDefinition → Rows → List Fault
misplaced_faults e d r =
    fault_where (has_member (codes "@index") d && lacks_index r.containers)
    error.InvalidTermDefinition (member_place e d (codes "@index"))
    ++ fault_where (has_member (codes "@prefix") d && has_colon_or_slash e.key)
    error.InvalidTermDefinition (member_place e d (codes "@prefix"))

-- All faults of a definition.
abbrev pub row_faults : ContextEntry → ExpandedDefinition → Rows → List Fault
row_faults e d r =
    term_faults e d ++ member_faults e d r ++ pair_faults e d r ++ misplaced_faults e d r

-- Two solutions agree where both solve: a definition reads of a context only what its entry looks up.
use Rattle.std.proofs.Common.{◌≡◌, ℕ, List, [], ◌∷◌, ◌++◌, Bool, true, false, ◌&&◌, ◌||◌, not, Option, Some, None, option_map, option_and_then, unwrap_or, is_some, if◌then◌else◌, Contains, codes, bytes_eq, refl, sym, ap, ◌∙◌}
use Rattle.std.proofs.lemmas.List.Elements.{Contains-append_left, Contains-append_right}
use Rattle.base_types.proofs.Lists.{Contains-here, Contains-there}
use Rattle.json_tree.specs.declared.tree.Tree.{Tree, out-Tree}
use Rattle.json_tree.specs.declared.tree.Tree.TheOpen.{Tree-F}
use Rattle.json_tree.specs.Places.{or_else, first_of, text_in}
use Rattle.iri_ref.specs.Components.{around_colon}
use Rattle.ld_words.specs.declared.keyword_table.LdKeyword.{LdKeyword}
use Rattle.ld_words.specs.declared.code_table.Code.TheVariants as error
use Rattle.ld_termdef.specs.declared.definition.Mapped.{Mapped}
use Rattle.ld_termdef.specs.declared.definition.Mapped.TheVariants as maps
use Rattle.ld_termdef.specs.declared.definition.Kind.{Kind}
use Rattle.ld_termdef.specs.declared.definition.TermDef.{TermDef}
use Rattle.ld_termdef.specs.declared.reading.ReadIri.{ReadIri}
use Rattle.ld_termdef.specs.declared.reading.ReadIri.TheVariants as read
use Rattle.ld_termdef.specs.declared.reading.Mode.TheVariants as mode
use Rattle.ld_termdef.specs.Words.{keyword_of, looks_like_keyword, begins_with_slashes}
use Rattle.ld_termdef.specs.Checked.{Checked, fine, wrong, checked_or}
use Rattle.ld_termdef.specs.Contexts.{Context}
use Rattle.ld_termdef.specs.Iris.{is_absolute, alias_of, reading_of, iri_of, prefix_iri, row, other_rows, reads, reads_apart, absolute_in}
use Rattle.ld_termdef.specs.Entries.{Given, ExpandedDefinition, member_of}
use Rattle.ld_termdef.specs.Mappings.{absolute_mapping, as_mapping, is_same_iri, has_own_iri, same_by_itself, behind_vocab, behind_prefix, by_parts, by_term, id_mapping, reverse_mapping, mapping_by}
use Rattle.ld_termdef.specs.DefinitionMembers.{kind_by, kind_in, index_by, index_in}
use Rattle.ld_termdef.specs.Rows.{Rows, rows}
use Rattle.ld_termdef.specs.Needs.{is_term, prefix_read, prefix_of_term, text_looks, looks_of, term_looks, itself_looks, id_looks, mapping_looks, member_text, definition_looks}

-- Two contexts say the same of these texts, and of each whether it is a term.
abbrev pub AgreeOn : Given → List (List ℕ) → Context → Context → Type 0
AgreeOn g texts c d =
    (u : List ℕ) → Contains texts u → (c.terms u ≡ d.terms u) × (is_some (c.terms u) ≡ is_term g u)

-- ---- how a text is read

-- the rows behind those of a colon
abbrev last_rows : List ℕ → Option (List ℕ) → ReadIri
last_rows x vocab =
    unwrap_or (first_of (row (is_absolute x) (read.Iri x) ∷ option_map (λ v. read.Iri (v ++ x)) vocab ∷ None ∷ [])) (read.Relative x)

-- the rows of a text that is parted around a colon, with what they ask
abbrev part_rows : List ℕ → List ℕ × List ℕ → Bool → Bool → Option TermDef → Option (List ℕ) → ReadIri
part_rows x parts blank slashes prefix vocab =
    unwrap_or (first_of (row blank (read.Blank parts.1) ∷ row slashes (read.Iri x) ∷ option_map (λ iri. read.Iri (iri ++ parts.1)) (option_and_then prefix_iri prefix) ∷ row (is_absolute x) (read.Iri x) ∷ option_map (λ v. read.Iri (v ++ x)) vocab ∷ None ∷ [])) (read.Relative x)

part_same : (c d : Context) (x : List ℕ) (parts : List ℕ × List ℕ) (blank slashes : Bool) → c.vocab ≡ d.vocab → ((u : List ℕ) → Contains (if blank || slashes then [] else parts.0 ∷ []) u → c.terms u ≡ d.terms u) → part_rows x parts blank slashes (c.terms parts.0) c.vocab ≡ part_rows x parts blank slashes (d.terms parts.0) d.vocab
part_same c d x parts true slashes v same = refl
part_same c d x parts false true v same = refl
part_same c d x parts false false v same =
    ap (λ o. part_rows x parts false false o c.vocab) (same parts.0 (Contains-here parts.0 [])) ∙ ap (part_rows x parts false false (d.terms parts.0)) v

-- the rows after those of terms, of a text with these parts
abbrev rows_of_parts : Context → List ℕ → Option (List ℕ × List ℕ) → ReadIri
rows_of_parts c x None = last_rows x c.vocab
rows_of_parts c x (Some parts) =
    part_rows x parts (bytes_eq parts.0 (codes "_")) (begins_with_slashes parts.1) (c.terms parts.0) c.vocab

parts_same : (c d : Context) (x : List ℕ) (parts : Option (List ℕ × List ℕ)) → c.vocab ≡ d.vocab → ((u : List ℕ) → Contains (prefix_read parts) u → c.terms u ≡ d.terms u) → rows_of_parts c x parts ≡ rows_of_parts d x parts
parts_same c d x None v same = ap (last_rows x) v
parts_same c d x (Some parts) v same =
    part_same c d x parts (bytes_eq parts.0 (codes "_")) (begins_with_slashes parts.1) v same

-- the table's rows are these
apart_by_parts : (c : Context) (x : List ℕ) → reads_apart c mode.Vocab x ≡ rows_of_parts c x (around_colon x)
apart_by_parts c x = go (around_colon x) refl
  where
    go : (parts : Option (List ℕ × List ℕ)) → around_colon x ≡ parts → reads_apart c mode.Vocab x ≡ rows_of_parts c x parts
    go None e = rw e refl
    go (Some parts) e = rw e refl

apart_same : (c d : Context) (x : List ℕ) → c.vocab ≡ d.vocab → ((u : List ℕ) → Contains (prefix_read (around_colon x)) u → c.terms u ≡ d.terms u) → reads_apart c mode.Vocab x ≡ reads_apart d mode.Vocab x
apart_same c d x v same = apart_by_parts c x ∙ parts_same c d x (around_colon x) v same ∙ sym (apart_by_parts d x)

-- how a text is read, with what its first rows ask
abbrev looked_up : Context → List ℕ → Option LdKeyword → Bool → Option TermDef → ReadIri
looked_up c x word like here =
    unwrap_or (first_of (option_map read.Word word ∷ row like read.Nothing ∷ option_and_then (λ d. alias_of d.mapped) here ∷ option_map (λ d. reading_of d.mapped) here ∷ other_rows c mode.Vocab x)) (read.Relative x)

-- a term ends the rows
term_reads : (c : Context) (x : List ℕ) (m : Mapped) → unwrap_or (or_else (alias_of m) (or_else (Some (reading_of m)) (first_of (other_rows c mode.Vocab x)))) (read.Relative x) ≡ reading_of m
term_reads c x maps.Nothing = refl
term_reads c x (maps.Word k) = refl
term_reads c x (maps.Iri iri) = refl

term_same : (g : Given) (c d : Context) (x : List ℕ) (here : Option TermDef) (is : Bool) → is_some here ≡ is → c.vocab ≡ d.vocab → AgreeOn g (x ∷ (if is then [] else prefix_read (around_colon x))) c d → looked_up c x None false here ≡ looked_up d x None false here
term_same g c d x (Some def) is e v same = term_reads c x def.mapped ∙ sym (term_reads d x def.mapped)
term_same g c d x None true e v same = absurd (cc)
term_same g c d x None false e v same =
    apart_same c d x v (λ u at. (same u (Contains-there x (prefix_read (around_colon x)) u at)).0)

looked_same : (g : Given) (c d : Context) (x : List ℕ) (word : Option LdKeyword) (like : Bool) → c.vocab ≡ d.vocab → AgreeOn g (if is_some word || like then [] else x ∷ (if is_term g x then [] else prefix_read (around_colon x))) c d → looked_up c x word like (c.terms x) ≡ looked_up d x word like (d.terms x)
looked_same g c d x (Some k) like v same = refl
looked_same g c d x None true v same = refl
looked_same g c d x None false v same =
    let here = same x (Contains-here x (if is_term g x then [] else prefix_read (around_colon x))) in
    ap (looked_up c x None false) here.0 ∙ term_same g c d x (d.terms x) (is_term g x) (ap is_some (sym here.0) ∙ here.1) v same

-- a text reads alike in contexts that agree on what is looked up for it
pub reads_same : (g : Given) (c d : Context) (x : List ℕ) → c.vocab ≡ d.vocab → AgreeOn g (text_looks g x) c d → reads c mode.Vocab x ≡ reads d mode.Vocab x
reads_same g c d x v same = looked_same g c d x (keyword_of x) (looks_like_keyword x) v same

-- ---- to what a term maps

term_parts_same : (g : Given) (c d : Context) (t : List ℕ) (parts : List ℕ × List ℕ) (blank : Bool) → AgreeOn g (if blank then [] else parts.0 ∷ []) c d → (if blank then wrong error.InvalidIriMapping else fine (behind_prefix t parts.1 (option_and_then (λ e. iri_of e.mapped) (c.terms parts.0)))) ≡ (if blank then wrong error.InvalidIriMapping else fine (behind_prefix t parts.1 (option_and_then (λ e. iri_of e.mapped) (d.terms parts.0))))
term_parts_same g c d t parts true same = refl
term_parts_same g c d t parts false same =
    ap (λ o. fine (behind_prefix t parts.1 (option_and_then (λ e. iri_of e.mapped) o))) (same parts.0 (Contains-here parts.0 [])).0

by_parts_same : (g : Given) (c d : Context) (t : List ℕ) (parts : Option (List ℕ × List ℕ)) → c.vocab ≡ d.vocab → AgreeOn g (prefix_of_term parts) c d → by_parts c t parts ≡ by_parts d t parts
by_parts_same g c d t None v same = ap (behind_vocab t) v
by_parts_same g c d t (Some parts) v same = term_parts_same g c d t parts (bytes_eq parts.0 (codes "_")) same

by_term_same : (g : Given) (c d : Context) (t : List ℕ) (word : Option LdKeyword) → c.vocab ≡ d.vocab → AgreeOn g (term_looks t word) c d → by_term c t word ≡ by_term d t word
by_term_same g c d t (Some k) v same = refl
by_term_same g c d t None v same = by_parts_same g c d t (around_colon t) v same

own_same : (g : Given) (c d : Context) (t : List ℕ) (m : Mapped) (own : Bool) → c.vocab ≡ d.vocab → AgreeOn g (if own then prefix_read (around_colon t) else []) c d → (if own && not (is_same_iri (reads_apart c mode.Vocab t) m) then wrong error.InvalidIriMapping else fine m) ≡ (if own && not (is_same_iri (reads_apart d mode.Vocab t) m) then wrong error.InvalidIriMapping else fine m)
own_same g c d t m false v same = refl
own_same g c d t m true v same =
    ap (λ r. if not (is_same_iri r m) then wrong error.InvalidIriMapping else fine m) (apart_same c d t v (λ u at. (same u at).0))

itself_same : (g : Given) (c d : Context) (t : List ℕ) (m : Checked Mapped) → c.vocab ≡ d.vocab → AgreeOn g (itself_looks t) c d → same_by_itself c t m ≡ same_by_itself d t m
itself_same g c d t (wrong code) v same = refl
itself_same g c d t (fine m) v same = own_same g c d t m (has_own_iri t) v same

-- agreement on the parts of a list of texts
agree_left : (g : Given) (c d : Context) (xs ys : List (List ℕ)) → AgreeOn g (xs ++ ys) c d → AgreeOn g xs c d
agree_left g c d xs ys same u at = same u (Contains-append_left xs ys u at)

agree_right : (g : Given) (c d : Context) (xs ys : List (List ℕ)) → AgreeOn g (xs ++ ys) c d → AgreeOn g ys c d
agree_right g c d xs ys same u at = same u (Contains-append_right xs ys u at)

id_text_same : (g : Given) (c d : Context) (t x : List ℕ) (itself : Bool) → c.vocab ≡ d.vocab → AgreeOn g (if itself then term_looks t (keyword_of t) else text_looks g x ++ itself_looks t) c d → (if itself then by_term c t (keyword_of t) else same_by_itself c t (as_mapping (reads c mode.Vocab x))) ≡ (if itself then by_term d t (keyword_of t) else same_by_itself d t (as_mapping (reads d mode.Vocab x)))
id_text_same g c d t x true v same = by_term_same g c d t (keyword_of t) v same
id_text_same g c d t x false v same =
    ap (λ r. same_by_itself c t (as_mapping r)) (reads_same g c d x v (agree_left g c d (text_looks g x) (itself_looks t) same))
    ∙ itself_same g c d t (as_mapping (reads d mode.Vocab x)) v (agree_right g c d (text_looks g x) (itself_looks t) same)

id_same : (g : Given) (c d : Context) (t : List ℕ) (y : Tree-F Tree) → c.vocab ≡ d.vocab → AgreeOn g (id_looks g t (text_in y)) c d → id_mapping c t y ≡ id_mapping d t y
id_same g c d t (Tree-F.Text x) v same = id_text_same g c d t x (bytes_eq x t) v same
id_same g c d t y v same = refl

reverse_same : (g : Given) (c d : Context) (y : Tree-F Tree) → c.vocab ≡ d.vocab → AgreeOn g (looks_of g (text_in y)) c d → reverse_mapping c y ≡ reverse_mapping d y
reverse_same g c d (Tree-F.Text x) v same = ap (λ r. absolute_mapping (absolute_in r)) (reads_same g c d x v same)
reverse_same g c d y v same = refl

mapping_same : (g : Given) (c d : Context) (t : List ℕ) (reverse id : Option Tree) → c.vocab ≡ d.vocab → AgreeOn g (mapping_looks g t reverse id) c d → mapping_by c t reverse id ≡ mapping_by d t reverse id
mapping_same g c d t (Some reverse) id v same = reverse_same g c d (out-Tree reverse) v same
mapping_same g c d t None (Some id) v same = id_same g c d t (out-Tree id) v same
mapping_same g c d t None None v same = by_term_same g c d t (keyword_of t) v same

-- ---- the other members that read

kind_same : (g : Given) (c d : Context) (y : Tree-F Tree) → c.vocab ≡ d.vocab → AgreeOn g (looks_of g (text_in y)) c d → kind_in c y ≡ kind_in d y
kind_same g c d (Tree-F.Text x) v same = ap kind_by (reads_same g c d x v same)
kind_same g c d y v same = refl

index_same : (g : Given) (c d : Context) (y : Tree-F Tree) → c.vocab ≡ d.vocab → AgreeOn g (looks_of g (text_in y)) c d → index_in c y ≡ index_in d y
index_same g c d (Tree-F.Text x) v same = ap (λ r. index_by x (absolute_in r)) (reads_same g c d x v same)
index_same g c d y v same = refl

kinds_same : (g : Given) (c d : Context) (o : Option Tree) → c.vocab ≡ d.vocab → AgreeOn g (looks_of g (member_text o)) c d → checked_or (fine None) (kind_in c) o ≡ checked_or (fine None) (kind_in d) o
kinds_same g c d None v same = refl
kinds_same g c d (Some t) v same = kind_same g c d (out-Tree t) v same

indexes_same : (g : Given) (c d : Context) (o : Option Tree) → c.vocab ≡ d.vocab → AgreeOn g (looks_of g (member_text o)) c d → checked_or (fine None) (index_in c) o ≡ checked_or (fine None) (index_in d) o
indexes_same g c d None v same = refl
indexes_same g c d (Some t) v same = index_same g c d (out-Tree t) v same

-- ---- all rows

-- the rows of a definition, with those that read
abbrev rows_with : Context → List ℕ → ExpandedDefinition → Checked Mapped → Checked (Option Kind) → Checked (Option (List ℕ)) → Rows
rows_with c t w mapped kind index = record (rows c t w) { mapped = mapped; kind = kind; index = index }

-- a definition has the same rows in contexts that agree on what is looked up for it
pub rows_same : (g : Given) (c d : Context) (t : List ℕ) (w : ExpandedDefinition) → c.vocab ≡ d.vocab → AgreeOn g (definition_looks g t (Some w)) c d → rows c t w ≡ rows d t w
rows_same g c d t w v same =
    let first = mapping_looks g t (member_of (codes "@reverse") w) (member_of (codes "@id") w) in
    let second = looks_of g (member_text (member_of (codes "@type") w)) in
    let third = looks_of g (member_text (member_of (codes "@index") w)) in
    let rest : AgreeOn g (first ++ second) c d = agree_left g c d (first ++ second) third same in
    let m = mapping_same g c d t (member_of (codes "@reverse") w) (member_of (codes "@id") w) v (agree_left g c d first second rest) in
    let k = kinds_same g c d (member_of (codes "@type") w) v (agree_right g c d first second rest) in
    let i = indexes_same g c d (member_of (codes "@index") w) v (agree_right g c d (first ++ second) third same) in
    λ j. rows_with c t w (m j) (k j) (i j)

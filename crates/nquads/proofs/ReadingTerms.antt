-- A spelling has one reading, and so has a term in a line.
use Rattle.std.proofs.Common.{◌≡◌, ◌≢◌, ℕ, zero, List, [], ◌∷◌, ◌++◌, All, Contains, Bool, true, false, refl, sym, ap, ◌∙◌, arith, append_assoc, zero-lt-suc, true≢false, Option, Some, None, IfSome, option_map, if◌then◌else◌, ◌||◌, bytes_eq}
use Rattle.std.proofs.lemmas.Bool.{false≢true}
use Rattle.std.proofs.lemmas.Slice.Eq.{bytes_eq-Decides}
use Rattle.std.proofs.lemmas.List.Elements.{All-head, All-tail}
use Rattle.std.specs.List.{flat_map}
use Rattle.nquads.specs.Terms.{BlankKind, by_label, by_node, by_graph, by_cell, Blank, Term, iri, literal, blank, Statement, HasIriCharacters, IsLanguage, IsLanguageGroup, IsLabel, IsTerm, IsResource, IsStatement, is_forbidden, is_letter, is_digit, is_label_character, xsd_string}
use Rattle.nquads.specs.Renaming.{blanks_of_term, rename_term}
use Rattle.nquads.specs.Spelling.{escape, iri_text, literal_end, literal_text, kind_letter, blank_text, spelling, text_quad}
use Rattle.nquads.specs.Lines.{term_text}
use Rattle.nquads.specs.declared.quads.TextQuad.{TextQuad}
use Rattle.nquads.proofs.ReadingTexts.{apart, Absent, Absent-append, cut_once, Absent-tested}
use Rattle.nquads.proofs.ReadingEscapes.{quoted_one_reading}

-- ---- bytes that a part does not hold

-- an IRI holds no forbidden byte
pub iri_absent : (c : ℕ) (text : List ℕ) → is_forbidden c ≡ true → HasIriCharacters text → Absent c text
iri_absent c text f i = Absent-tested is_forbidden false c text (λ e. true≢false (sym f ∙ e)) i

-- a label holds only its characters
pub label_absent : (c : ℕ) (text : List ℕ) → is_label_character c ≡ false → IsLabel text → Absent c text
label_absent c text f l = Absent-tested is_label_character true c text (λ e. false≢true (sym f ∙ e)) l.characters

groups_absent : (c : ℕ) (groups : List (List ℕ)) → (c ≢ 45) → (is_letter c || is_digit c) ≡ false → All IsLanguageGroup groups → Absent c (flat_map (λ g. 45 ∷ g) groups)
groups_absent c [] n f a = tt
groups_absent c (g ∷ gs) n f a = (
  n,
  Absent-append c g (flat_map (λ g. 45 ∷ g) gs)
      (Absent-tested (λ x. is_letter x || is_digit x) true c g (λ e. false≢true (sym f ∙ e)) (All-head IsLanguageGroup g gs a).1)
      (groups_absent c gs n f (All-tail IsLanguageGroup g gs a)),
)

-- a language tag holds only letters, digits and `-`
pub language_absent : (c : ℕ) (text : List ℕ) → (c ≢ 45) → is_letter c ≡ false → is_digit c ≡ false → IsLanguage text → Absent c text
language_absent c text n l d i =
    rw i.is (Absent-append c i.first (flat_map (λ g. 45 ∷ g) i.groups)
    (Absent-tested is_letter true c i.first (λ e. false≢true (sym l ∙ e)) i.first_letters.1)
    (groups_absent c i.groups n (rw (l, d) refl) i.group_characters))

-- ---- a part, a space, and what follows

abbrev tail : List ℕ → List ℕ
tail [] = []
tail (x ∷ xs) = xs

-- an IRI, a space and what follows have one reading
pub iri_then : (x y r u : List ℕ) → HasIriCharacters x → HasIriCharacters y → iri_text x ++ 32 ∷ r ≡ iri_text y ++ 32 ∷ u → (x ≡ y) × (r ≡ u)
iri_then x y r u i j e =
    let tails : (x ++ 62 ∷ []) ++ 32 ∷ r ≡ (y ++ 62 ∷ []) ++ 32 ∷ u = cc in
    let whole : x ++ 62 ∷ 32 ∷ r ≡ y ++ 62 ∷ 32 ∷ u = sym (append_assoc x (62 ∷ []) (32 ∷ r)) ∙ tails ∙ append_assoc y (62 ∷ []) (32 ∷ u) in
    let parts : (x ≡ y) × (32 ∷ r ≡ 32 ∷ u) = cut_once 62 x y (32 ∷ r) (32 ∷ u) (iri_absent 62 x refl i) (iri_absent 62 y refl j) whole in
    let last : 32 ∷ r ≡ 32 ∷ u = parts.1 in
    (parts.0, cc)

untagged_then : (a b : Bool) (x y r u : List ℕ) → HasIriCharacters x → HasIriCharacters y → (a ≡ true → b ≡ true → x ≡ y) → (if a then [] else 94 ∷ 94 ∷ iri_text x) ++ 32 ∷ r ≡ (if b then [] else 94 ∷ 94 ∷ iri_text y) ++ 32 ∷ u → (x ≡ y) × (r ≡ u)
untagged_then true true x y r u i j p e = (p refl refl, ap tail e)
untagged_then true false x y r u i j p e = absurd (apart 32 94 _ _ refl e)
untagged_then false true x y r u i j p e = absurd (apart 94 32 _ _ refl e)
untagged_then false false x y r u i j p e =
    iri_then x y r u i j (ap (λ (t : List ℕ). tail (tail t)) e)

tagged_apart : (b : Bool) (l y r u : List ℕ) → 64 ∷ (l ++ 32 ∷ r) ≡ (if b then [] else 94 ∷ 94 ∷ iri_text y) ++ 32 ∷ u → ⊥
tagged_apart true l y r u e = apart 64 32 _ _ refl e
tagged_apart false l y r u e = apart 64 94 _ _ refl e

same_bytes : (x y z : List ℕ) → bytes_eq x z ≡ true → bytes_eq y z ≡ true → x ≡ y
same_bytes x y z p q = (bytes_eq-Decides x z).0 p ∙ sym ((bytes_eq-Decides y z).0 q)

end_then : (x y r u : List ℕ) (k l : Option (List ℕ)) → IsTerm (literal [] x k) → IsTerm (literal [] y l) → literal_end x k ++ 32 ∷ r ≡ literal_end y l ++ 32 ∷ u → (x ≡ y) × (k ≡ l) × (r ≡ u)
end_then x y r u None None i j e =
    let parts : (x ≡ y) × (r ≡ u) = untagged_then (bytes_eq x xsd_string) (bytes_eq y xsd_string) x y r u i.0 j.0 (λ p q. same_bytes x y xsd_string p q) e in
    (parts.0, refl, parts.1)
end_then x y r u None (Some l) i j e = absurd (tagged_apart (bytes_eq x xsd_string) l x u r (sym e))
end_then x y r u (Some k) None i j e = absurd (tagged_apart (bytes_eq y xsd_string) k y r u e)
end_then x y r u (Some k) (Some l) i j e =
    let tails : k ++ 32 ∷ r ≡ l ++ 32 ∷ u = cc in
    let parts : (k ≡ l) × (r ≡ u) = cut_once 32 k l r u (language_absent 32 k (omega arith) refl refl i.1.1) (language_absent 32 l (omega arith) refl refl j.1.1) tails in
    (i.1.0 ∙ sym j.1.0, ap (λ (t : List ℕ). Some t) parts.0, parts.1)

quoted : (s end r : List ℕ) → ((s ++ 34 ∷ []) ++ end) ++ 32 ∷ r ≡ s ++ 34 ∷ (end ++ 32 ∷ r)
quoted s end r = append_assoc (s ++ 34 ∷ []) end (32 ∷ r) ∙ append_assoc s (34 ∷ []) (end ++ 32 ∷ r)

-- so has a literal
pub literal_then : (s t x y r u : List ℕ) (k l : Option (List ℕ)) → IsTerm (literal s x k) → IsTerm (literal t y l) → literal_text s x k ++ 32 ∷ r ≡ literal_text t y l ++ 32 ∷ u → (literal s x k ≡ literal t y l) × (r ≡ u)
literal_then s t x y r u k l i j e =
    let whole : flat_map escape s ++ 34 ∷ (literal_end x k ++ 32 ∷ r) ≡ flat_map escape t ++ 34 ∷ (literal_end y l ++ 32 ∷ u) = sym (quoted (flat_map escape s) (literal_end x k) r) ∙ ap tail e ∙ quoted (flat_map escape t) (literal_end y l) u in
    let texts : (s ≡ t) × (literal_end x k ++ 32 ∷ r ≡ literal_end y l ++ 32 ∷ u) = quoted_one_reading s t (literal_end x k ++ 32 ∷ r) (literal_end y l ++ 32 ∷ u) whole in
    let ends : (x ≡ y) × (k ≡ l) × (r ≡ u) = end_then x y r u k l i j texts.1 in
    let text : s ≡ t = texts.0 in
    let datatype : x ≡ y = ends.0 in
    let language : k ≡ l = ends.1 in
    (cc, ends.2)

-- the blank node that a label names
abbrev pub label_blank : (Blank → List ℕ) → Blank → Blank
label_blank label b = record { kind = by_label; name = label b }

-- so has a term
pub term_then : (f g : Blank → List ℕ) (s t : Term) (r u : List ℕ) → IsTerm s → IsTerm t → ((b : Blank) → Contains (blanks_of_term s) b → IsLabel (f b)) → ((b : Blank) → Contains (blanks_of_term t) b → IsLabel (g b)) → term_text f s ++ 32 ∷ r ≡ term_text g t ++ 32 ∷ u → (rename_term (label_blank f) s ≡ rename_term (label_blank g) t) × (r ≡ u)
term_then f g (iri x) (iri y) r u i j p q e =
    let parts : (x ≡ y) × (r ≡ u) = iri_then x y r u i j e in
    (ap iri parts.0, parts.1)
term_then f g (iri x) (literal t y l) r u i j p q e = absurd (apart 60 34 _ _ refl e)
term_then f g (iri x) (blank b) r u i j p q e = absurd (apart 60 95 _ _ refl e)
term_then f g (literal s x k) (iri y) r u i j p q e = absurd (apart 34 60 _ _ refl e)
term_then f g (literal s x k) (literal t y l) r u i j p q e = literal_then s t x y r u k l i j e
term_then f g (literal s x k) (blank b) r u i j p q e = absurd (apart 34 95 _ _ refl e)
term_then f g (blank a) (iri y) r u i j p q e = absurd (apart 95 60 _ _ refl e)
term_then f g (blank a) (literal t y l) r u i j p q e = absurd (apart 95 34 _ _ refl e)
term_then f g (blank a) (blank b) r u i j p q e =
    let tails : f a ++ 32 ∷ r ≡ g b ++ 32 ∷ u = cc in
    let parts : (f a ≡ g b) × (r ≡ u) = cut_once 32 (f a) (g b) r u (label_absent 32 (f a) refl (p a (zero, zero-lt-suc zero, refl))) (label_absent 32 (g b) refl (q b (zero, zero-lt-suc zero, refl))) tails in
    (ap (λ (n : List ℕ). blank (record { kind = by_label; name = n })) parts.0, parts.1)

-- ---- spellings

kind_letter_once : (a b : BlankKind) → kind_letter a ≡ kind_letter b → a ≡ b
kind_letter_once by_label by_label e = refl
kind_letter_once by_label by_node e = absurd (omega arith)
kind_letter_once by_label by_graph e = absurd (omega arith)
kind_letter_once by_label by_cell e = absurd (omega arith)
kind_letter_once by_node by_label e = absurd (omega arith)
kind_letter_once by_node by_node e = refl
kind_letter_once by_node by_graph e = absurd (omega arith)
kind_letter_once by_node by_cell e = absurd (omega arith)
kind_letter_once by_graph by_label e = absurd (omega arith)
kind_letter_once by_graph by_node e = absurd (omega arith)
kind_letter_once by_graph by_graph e = refl
kind_letter_once by_graph by_cell e = absurd (omega arith)
kind_letter_once by_cell by_label e = absurd (omega arith)
kind_letter_once by_cell by_node e = absurd (omega arith)
kind_letter_once by_cell by_graph e = absurd (omega arith)
kind_letter_once by_cell by_cell e = refl

-- blank nodes with one kind and one name are one
pub same_blank_node : (a b : Blank) → a.kind ≡ b.kind → a.name ≡ b.name → a ≡ b
same_blank_node a b p q = λ i. record { kind = p i; name = q i }

-- a blank node's text has one reading
pub blank_text_one_reading : (a b : Blank) → blank_text a ≡ blank_text b → a ≡ b
blank_text_one_reading a b e =
    let letter : kind_letter a.kind ≡ kind_letter b.kind = cc in
    let name : a.name ≡ b.name = cc in
    same_blank_node a b (kind_letter_once a.kind b.kind letter) name

-- a spelling has one reading
pub spelling_one_reading : (s t : Term) → IsTerm s → IsTerm t → spelling s ≡ spelling t → s ≡ t
spelling_one_reading (iri x) (iri y) i j e = ap iri (iri_then x y [] [] i j (ap (λ (text : List ℕ). text ++ 32 ∷ []) e)).0
spelling_one_reading (iri x) (literal t y l) i j e = absurd (apart 60 34 _ _ refl e)
spelling_one_reading (iri x) (blank b) i j e = absurd (apart 60 95 _ _ refl e)
spelling_one_reading (literal s x k) (iri y) i j e = absurd (apart 34 60 _ _ refl e)
spelling_one_reading (literal s x k) (literal t y l) i j e = (literal_then s t x y [] [] k l i j (ap (λ (text : List ℕ). text ++ 32 ∷ []) e)).0
spelling_one_reading (literal s x k) (blank b) i j e = absurd (apart 34 95 _ _ refl e)
spelling_one_reading (blank a) (iri y) i j e = absurd (apart 95 60 _ _ refl e)
spelling_one_reading (blank a) (literal t y l) i j e = absurd (apart 95 34 _ _ refl e)
spelling_one_reading (blank a) (blank b) i j e = ap blank (blank_text_one_reading a b e)

-- ---- statements

-- a resource is a term
pub IsTerm-from_resource : (t : Term) → IsResource t → IsTerm t
IsTerm-from_resource (iri x) i = i
IsTerm-from_resource (literal s x k) i = absurd i
IsTerm-from_resource (blank b) i = tt

-- statements with the same parts are one
pub same_statement : (s t : Statement) → s.subject ≡ t.subject → s.predicate ≡ t.predicate → s.object ≡ t.object → s.graph ≡ t.graph → s ≡ t
same_statement s t p q o g = λ i. record { subject = p i; predicate = q i; object = o i; graph = g i }

graph_spelling : (a b : Option Term) → IfSome a IsResource → IfSome b IsResource → option_map spelling a ≡ option_map spelling b → a ≡ b
graph_spelling None None i j e = refl
graph_spelling None (Some b) i j e = absurd (cc)
graph_spelling (Some a) None i j e = absurd (cc)
graph_spelling (Some a) (Some b) i j e =
    let same : spelling a ≡ spelling b = cc in
    ap (λ (t : Term). Some t) (spelling_one_reading a b (IsTerm-from_resource a i) (IsTerm-from_resource b j) same)

-- a text quad has one reading
pub spelled_one_reading : (s t : Statement) → IsStatement s → IsStatement t → text_quad s ≡ text_quad t → s ≡ t
spelled_one_reading s t i j e =
    same_statement s t
    (spelling_one_reading s.subject t.subject (IsTerm-from_resource s.subject i.subject) (IsTerm-from_resource t.subject j.subject) (ap (λ (q : TextQuad). q.subject) e))
    (iri_then s.predicate t.predicate [] [] i.predicate j.predicate (ap (λ (q : TextQuad). q.predicate ++ 32 ∷ []) e)).0
    (spelling_one_reading s.object t.object i.object j.object (ap (λ (q : TextQuad). q.object) e))
    (graph_spelling s.graph t.graph i.graph j.graph (ap (λ (q : TextQuad). q.graph) e))

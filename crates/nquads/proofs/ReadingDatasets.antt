-- A canonical text determines its lines, and its lines the labelled statements.
use Rattle.std.proofs.Common.{◌≡◌, ℕ, List, map, All, Contains, sym, ◌∙◌, subst}
use Rattle.std.proofs.lemmas.List.Elements.{All-contains}
use Rattle.base_types.specs.Sets.{SameElements}
use Rattle.nquads.specs.Terms.{Blank, Statement, IsStatement}
use Rattle.nquads.specs.Lines.{line, with_labels, HasLabels, IsLine, LabelsDiffer, canonical_lines, canonical_text}
use Rattle.base_types.proofs.Lists.{Contains-map, Contains-from_map}
use Rattle.nquads.proofs.ReadingElements.{All-from_contains, from_rising, to_rising}
use Rattle.nquads.proofs.ReadingBlanks.{to_blanks_in}
use Rattle.nquads.proofs.ReadingLines.{line_one_reading, line_names_statement, IsLine-line, one_split}

-- the line of each statement stands among the canonical lines
pub to_canonical_lines : (f : Blank → List ℕ) (q : List Statement) (s : Statement) → Contains q s → Contains (canonical_lines f q) (line f s)
to_canonical_lines f q s m = to_rising (map (line f) q) (line f s) (Contains-map (line f) q s m)

-- and each canonical line is that of a statement
pub from_canonical_lines : (f : Blank → List ℕ) (q : List Statement) (l : List ℕ) → Contains (canonical_lines f q) l → (s : Statement) × Contains q s × (line f s ≡ l)
from_canonical_lines f q l m = Contains-from_map (line f) q l (from_rising (map (line f) q) l m)

-- each canonical line is one line
pub canonical_lines_are_lines : (f : Blank → List ℕ) (q : List Statement) → All IsStatement q → All (HasLabels f) q → All IsLine (canonical_lines f q)
canonical_lines_are_lines f q i h =
    All-from_contains IsLine (canonical_lines f q)
    (λ l m. let r = from_canonical_lines f q l m in
    subst IsLine r.2 (IsLine-line f r.0 (All-contains IsStatement q r.0 i r.1) (All-contains (HasLabels f) q r.0 h r.1)))

-- a canonical text determines its lines
pub text_determines_lines : (f g : Blank → List ℕ) (q r : List Statement) → All IsStatement q → All IsStatement r → All (HasLabels f) q → All (HasLabels g) r → canonical_text f q ≡ canonical_text g r → canonical_lines f q ≡ canonical_lines g r
text_determines_lines f g q r i j p n e =
    one_split (canonical_lines f q) (canonical_lines g r) (canonical_lines_are_lines f q i p) (canonical_lines_are_lines g r j n) e

found_again : (f g : Blank → List ℕ) (q r : List Statement) → All IsStatement q → All IsStatement r → All (HasLabels f) q → All (HasLabels g) r → canonical_lines f q ≡ canonical_lines g r → (t : Statement) → Contains (map (with_labels f) q) t → Contains (map (with_labels g) r) t
found_again f g q r i j p n e t m =
    let a = Contains-from_map (with_labels f) q t m in
    let b = from_canonical_lines g r (line f a.0) (subst (λ (ls : List (List ℕ)). Contains ls (line f a.0)) e (to_canonical_lines f q a.0 a.1)) in
    let same : with_labels g b.0 ≡ t = line_one_reading g f b.0 a.0 (All-contains IsStatement r b.0 j b.1) (All-contains IsStatement q a.0 i a.1) (All-contains (HasLabels g) r b.0 n b.1) (All-contains (HasLabels f) q a.0 p a.1) b.2 ∙ a.2 in
    subst (λ (z : Statement). Contains (map (with_labels g) r) z) same (Contains-map (with_labels g) r b.0 b.1)

-- and with them the labelled statements
pub text_determines_statements : (f g : Blank → List ℕ) (q r : List Statement) → All IsStatement q → All IsStatement r → All (HasLabels f) q → All (HasLabels g) r → canonical_text f q ≡ canonical_text g r → SameElements (map (with_labels f) q) (map (with_labels g) r)
text_determines_statements f g q r i j p n e =
    let lines : canonical_lines f q ≡ canonical_lines g r = text_determines_lines f g q r i j p n e in
    λ t. (found_again f g q r i j p n lines t, found_again g f r q j i n p (sym lines) t)

-- in a dataset whose labels differ a line is that of one statement
pub line_names_statement_in : (f : Blank → List ℕ) (q : List Statement) → All IsStatement q → All (HasLabels f) q → LabelsDiffer f q → (s t : Statement) → Contains q s → Contains q t → line f s ≡ line f t → s ≡ t
line_names_statement_in f q i p d s t m n e =
    line_names_statement f s t (All-contains IsStatement q s i m) (All-contains IsStatement q t i n) (All-contains (HasLabels f) q s p m) (All-contains (HasLabels f) q t p n)
    (λ a b x y k. d a b (to_blanks_in q s a m x) (to_blanks_in q t b n y) k) e

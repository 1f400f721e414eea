-- Lines of statements without blank nodes, for which no label is looked up.
use Rattle.std.proofs.Common.{◌≡◌, ℕ, List, [], ◌∷◌, ◌++◌, All, sym, subst, Contains}
use Rattle.std.specs.List.{flat_map}
use Rattle.base_types.specs.Sets.{SameElements}
use Rattle.base_types.proofs.Lists.{Contains-here, Contains-nil, Contains-there}
use Rattle.json_tree.specs.declared.tree.Tree.{Tree}
use Rattle.ld_rdf.specs.Flat.{IsFlatMeaning}
use Rattle.ld_rdf.proofs.Datasets.{no_blanks}
use Rattle.nquads.specs.Terms.{Blank, IsStatement, Statement}
use Rattle.nquads.specs.Lines.{HasLabels, LabelsDiffer, canonical_lines}
use Rattle.nquads.specs.Renaming.{StandsIn, blanks_of}
use Rattle.nquads.proofs.ReadingElements.{All-from_contains}
use Rattle.stmt_groups.specs.Datasets.{IsLabelled}
use Rattle.nquads.specs.Texts.{label_in}
use Rattle.nquads.specs.declared.labels.TextLabel.{TextLabel}
use Rattle.vc_session.specs.Issuing.{no_label, unlabelled}

-- equal lists have the same elements
pub same_from : {X : Type 0} (xs ys : List X) → xs ≡ ys → SameElements xs ys
same_from {X} xs ys is = λ x. (λ c. subst (λ (zs : List X). Contains zs x) is c, λ c. subst (λ (zs : List X). Contains zs x) (sym is) c)

-- the lines that no labels give are those of no label
pub lines_without : (labels : List TextLabel) (q : List Statement) (lines : List (List ℕ)) → labels ≡ [] → lines ≡ canonical_lines (label_in labels) q → lines ≡ canonical_lines no_label q
lines_without labels q lines none is = rw none at is

-- ---- labels of statements without blank nodes

-- the flat meaning of a request needs no labels
pub flat_labelled : (r : Tree) (q : List Statement) → IsFlatMeaning r q → All IsStatement q → IsLabelled (unlabelled q)
flat_labelled r q means are = record { well_formed = are; in_grammar = labels; differ = differ }
  where
    labels : All (HasLabels no_label) q
    labels = All-from_contains (HasLabels no_label) q (λ s c b stands. absurd (Contains-nil b (subst (λ (bs : List Blank). Contains bs b) (no_blanks r s ((means.exact s).0 c)) stands)))

    none : (ss : List Statement) → ((s : Statement) → Contains ss s → blanks_of s ≡ []) → (x : Blank) → StandsIn ss x → ⊥
    none [] all x stands = Contains-nil x stands
    none (s ∷ ss) all x stands = none ss (λ t c. all t (Contains-there s ss t c)) x (subst (λ (bs : List Blank). Contains (bs ++ flat_map blanks_of ss) x) (all s (Contains-here s ss)) stands)

    differ : LabelsDiffer no_label q
    differ a b here there same = absurd (none q (λ s c. no_blanks r s ((means.exact s).0 c)) a here)

-- The same statements in another order: a renaming that leaves each blank node as it is.
use Rattle.std.proofs.Common.{◌≡◌, ◌∙◌, ℕ, List, [], ◌∷◌, map, ap, sym, subst, refl, IsPermutation}
use Rattle.std.specs.Prelude.{◌↔◌}
use Rattle.nquads.specs.Terms.{Blank, Statement}
use Rattle.nquads.specs.Renaming.{rename, IsOneToOne}
use Rattle.nquads.specs.Lines.{canonical_text}
use Rattle.nquads.proofs.ReadingBlanks.{rename-itself}
use Rattle.rdfc_ndegree.specs.Issuers.{canonical_id}
use Rattle.rdfc_ndegree.specs.Datasets.{nodes_of}
use Rattle.rdfc_ndegree.specs.Run.{MeetsTie, WorkOver, IsCanonicalIssuer}
use Rattle.rdfc_ndegree.proofs.Renamed.{MeetsTie-renamed, WorkOver-renamed, HasLabels-renamed, labels-StandsIn, canonical_text-renamed}
use Rattle.rdfc_ndegree.proofs.RunAgree.{labels-unique}

one_to_one : (q : List Statement) → IsOneToOne (λ b. b) q
one_to_one q a b sa sb e = e

map-rename-itself : (q : List Statement) → map (rename (λ b. b)) q ≡ q
map-rename-itself [] = refl
map-rename-itself (s ∷ ss) = ap (λ t. t ∷ map (rename (λ b. b)) ss) (rename-itself s) ∙ ap (λ ts. s ∷ ts) (map-rename-itself ss)

map-itself : (c : List Blank) → map (λ b. b) c ≡ c
map-itself [] = refl
map-itself (b ∷ bs) = ap (λ cs. b ∷ cs) (map-itself bs)

module _ (digest : List ℕ → List ℕ) (q p : List Statement) (s : IsPermutation q p) where
  renamed : IsPermutation (map (rename (λ b. b)) q) p
  renamed = subst (λ r. IsPermutation r p) (sym (map-rename-itself q)) s

  pub ordered_ties : MeetsTie (nodes_of digest q) ↔ MeetsTie (nodes_of digest p)
  ordered_ties = MeetsTie-renamed digest (λ b. b) q p (one_to_one q) renamed

  pub ordered_work : (n : ℕ) → WorkOver (nodes_of digest q) n ↔ WorkOver (nodes_of digest p) n
  ordered_work n = WorkOver-renamed digest (λ b. b) q p (one_to_one q) renamed n

  pub ordered_labels : (c : List Blank) → IsCanonicalIssuer (nodes_of digest q) c → IsCanonicalIssuer (nodes_of digest p) c
  ordered_labels c h = subst (IsCanonicalIssuer (nodes_of digest p)) (map-itself c) (HasLabels-renamed digest (λ b. b) q p (one_to_one q) renamed c h)

  pub ordered_text : (c d : List Blank) → IsCanonicalIssuer (nodes_of digest q) c → IsCanonicalIssuer (nodes_of digest p) d → canonical_text (canonical_id (nodes_of digest q) c) q ≡ canonical_text (canonical_id (nodes_of digest p) d) p
  ordered_text c d h k =
      sym (canonical_text-renamed digest (λ b. b) q p (one_to_one q) renamed c (labels-StandsIn digest (λ b. b) q p (one_to_one q) renamed c h))
      ∙ ap (λ e. canonical_text (canonical_id (nodes_of digest p) e) p) (labels-unique (HasLabels-renamed digest (λ b. b) q p (one_to_one q) renamed c h) k)

-- What a related hash calls a node, and the first pass over an arrangement, on numbers.
use Rattle.std.proofs.Common.{◌≡◌, ℕ, ◌+◌, ◌<◌, List, [], ◌∷◌, ◌++◌, length, get_or, drop, refl, sym, ap, ◌∙◌, subst, append_assoc, append-nil, Option, Some, None, option_map, Bool, true, false, ◌==◌, decimal}
use Rattle.std.proofs.lemmas.List.{drop_more}
use Rattle.std.specs.Prelude.{slice_get, codes, unwrap_or}
use Rattle.std.specs.List.{list_any}
use Rattle.digest_mac.specs.declared.hash.Hash.{Hash}
use Rattle.rdfc_ndegree.specs.Groups.{identifier_or_hash}
use Rattle.rdfc_ndegree.specs.Issuers.{has, temporary_id, canonical_id}
use Rattle.rdfc_ndegree.specs.NDegree.{issue_temporary, identifier, issuer_copy, first_path, recursion_list, path_part}
use Rattle.rdfc_ndegree.specs.Table.{first_in, table_nodes}
use Rattle.rdfc_ndegree.specs.NumberIssuers.{number_in, place_in}
use Rattle.rdfc_ndegree.specs.Table.{NodeRow}
use Rattle.rdfc_ndegree.proofs.Places.{place-push_same}
use Rattle.rdfc_ndegree.proofs.Tables.{table-has, table-canonical_id, table-temporary_id, place-none, place-some, number-absent}

-- The first pass over the members ms with the issuer i has come so far: what it gives is the path with what
-- the members that remain add to it, and so on.
pub record FirstPass (algorithm : Hash) (rows : List NodeRow) (c i ms : List ℕ) (path now new rest : List ℕ) : Type 0 where
  pub path_is : first_path (table_nodes algorithm rows) c i ms ≡ path ++ first_path (table_nodes algorithm rows) c now rest
  pub issuer_is : issuer_copy (table_nodes algorithm rows) c i ms ≡ issuer_copy (table_nodes algorithm rows) c now rest
  pub named_is : recursion_list (table_nodes algorithm rows) c i ms ≡ new ++ recursion_list (table_nodes algorithm rows) c now rest

-- how an identifier is spelled
abbrev pub canonical_text : ℕ → List ℕ
canonical_text k = codes "_:" ++ (codes "c14n" ++ decimal k)

abbrev pub temporary_text : ℕ → List ℕ
temporary_text k = codes "_:" ++ (codes "b" ++ decimal k)

module _ (algorithm : Hash) (rows : List NodeRow) (c i : List ℕ) (n : ℕ) where
  canonical-yes : (k : ℕ) → Some k ≡ place_in c n → (has (table_nodes algorithm rows) c n ≡ true) × (canonical_id (table_nodes algorithm rows) c n ≡ codes "c14n" ++ decimal k)
  canonical-yes k at = let found = place-some c n k (sym at) in (table-has algorithm rows c n ∙ found.0, table-canonical_id algorithm rows c n ∙ ap (λ m. codes "c14n" ++ decimal m) (sym found.1))

  canonical-no : None ≡ place_in c n → has (table_nodes algorithm rows) c n ≡ false
  canonical-no none = table-has algorithm rows c n ∙ place-none c n (sym none)

  temporary-yes : (k : ℕ) → Some k ≡ place_in i n → (has (table_nodes algorithm rows) i n ≡ true) × (temporary_id (table_nodes algorithm rows) i n ≡ codes "b" ++ decimal k)
  temporary-yes k at = let found = place-some i n k (sym at) in (table-has algorithm rows i n ∙ found.0, table-temporary_id algorithm rows i n ∙ ap (λ m. codes "b" ++ decimal m) (sym found.1))

  temporary-no : None ≡ place_in i n → has (table_nodes algorithm rows) i n ≡ false
  temporary-no none = table-has algorithm rows i n ∙ place-none i n (sym none)

  -- ---- what a related hash calls a node

  pub known-canonical : (k : ℕ) → Some k ≡ place_in c n → identifier_or_hash (table_nodes algorithm rows) c i n ≡ canonical_text k
  known-canonical k at = let found = canonical-yes k at in rw (found.0) (ap (λ t. 95 ∷ 58 ∷ t) found.1)

  pub known-temporary : (k : ℕ) → None ≡ place_in c n → Some k ≡ place_in i n → identifier_or_hash (table_nodes algorithm rows) c i n ≡ temporary_text k
  known-temporary k none at = let no' = canonical-no none in let found = temporary-yes k at in rw (no', found.0) (ap (λ t. 95 ∷ 58 ∷ t) found.1)

  known-row : None ≡ place_in c n → None ≡ place_in i n → identifier_or_hash (table_nodes algorithm rows) c i n ≡ first_in (slice_get rows n)
  unfolding table_nodes
  known-row none nor = let no' = canonical-no none in let not' = temporary-no nor in rw (no', not') refl

  first_of : (o : Option NodeRow) (h : List ℕ) → Some h ≡ option_map (λ (r : NodeRow). r.first) o → first_in o ≡ h
  first_of None h e = absurd (cc)
  first_of (Some row) h e = cc

  no_first : (o : Option NodeRow) → None ≡ option_map (λ (r : NodeRow). r.first) o → first_in o ≡ []
  no_first None e = refl
  no_first (Some row) e = absurd (cc)

  pub known-first : (h : List ℕ) → None ≡ place_in c n → None ≡ place_in i n → Some h ≡ option_map (λ (r : NodeRow). r.first) (slice_get rows n) → identifier_or_hash (table_nodes algorithm rows) c i n ≡ h
  known-first h none nor is = known-row none nor ∙ first_of (slice_get rows n) h is

  pub known-none : None ≡ place_in c n → None ≡ place_in i n → None ≡ option_map (λ (r : NodeRow). r.first) (slice_get rows n) → identifier_or_hash (table_nodes algorithm rows) c i n ≡ []
  known-none none nor is = known-row none nor ∙ no_first (slice_get rows n) is

  -- ---- one member of an arrangement

  identifier-canonical : (k : ℕ) → Some k ≡ place_in c n → identifier (table_nodes algorithm rows) c i n ≡ canonical_text k
  identifier-canonical k at = let found = canonical-yes k at in rw (found.0) (ap (λ t. 95 ∷ 58 ∷ t) found.1)

  identifier-temporary : (k : ℕ) → None ≡ place_in c n → Some k ≡ place_in i n → identifier (table_nodes algorithm rows) c i n ≡ temporary_text k
  identifier-temporary k none at = let no' = canonical-no none in let found = temporary-yes k at in rw (no') (ap (λ t. 95 ∷ 58 ∷ t) found.1)

  named-canonical : (k : ℕ) → Some k ≡ place_in c n → issue_temporary (table_nodes algorithm rows) c i n ≡ i
  named-canonical k at = let found = canonical-yes k at in rw (found.0) refl

  named-temporary : (k : ℕ) → None ≡ place_in c n → Some k ≡ place_in i n → issue_temporary (table_nodes algorithm rows) c i n ≡ i
  named-temporary k none at = let no' = canonical-no none in let found = temporary-yes k at in rw (no', found.0) refl

  named-new : None ≡ place_in c n → None ≡ place_in i n → issue_temporary (table_nodes algorithm rows) c i n ≡ i ++ n ∷ []
  named-new none nor = let no' = canonical-no none in let not' = temporary-no nor in rw (no', not') refl

  new-canonical : (k : ℕ) (ms : List ℕ) → Some k ≡ place_in c n → recursion_list (table_nodes algorithm rows) c i (n ∷ ms) ≡ recursion_list (table_nodes algorithm rows) c i ms
  new-canonical k ms at = let found = canonical-yes k at in rw (found.0) refl

  new-temporary : (k : ℕ) (ms : List ℕ) → None ≡ place_in c n → Some k ≡ place_in i n → recursion_list (table_nodes algorithm rows) c i (n ∷ ms) ≡ recursion_list (table_nodes algorithm rows) c i ms
  new-temporary k ms none at = let no' = canonical-no none in let found = temporary-yes k at in rw (no', found.0) refl

  new-new : (ms : List ℕ) → None ≡ place_in c n → None ≡ place_in i n → recursion_list (table_nodes algorithm rows) c i (n ∷ ms) ≡ n ∷ recursion_list (table_nodes algorithm rows) c (issue_temporary (table_nodes algorithm rows) c i n) ms
  new-new ms none nor = let no' = canonical-no none in let not' = temporary-no nor in rw (no', not') refl

-- ---- the pass over all members

module _ (algorithm : Hash) (rows : List NodeRow) (c i ms : List ℕ) where
  pub Walking-start : FirstPass algorithm rows c i ms [] i [] ms
  Walking-start = record { path_is = refl; issuer_is = refl; named_is = refl }

  pub Walking-end : (path now new : List ℕ) → FirstPass algorithm rows c i ms path now new [] → (first_path (table_nodes algorithm rows) c i ms ≡ path) × (issuer_copy (table_nodes algorithm rows) c i ms ≡ now) × (recursion_list (table_nodes algorithm rows) c i ms ≡ new)
  Walking-end path now new w = (w.path_is ∙ append-nil path, w.issuer_is, w.named_is ∙ append-nil new)

  pub Walking-same : (path now new path' now' new' rest : List ℕ) → path' ≡ path → now' ≡ now → new' ≡ new → FirstPass algorithm rows c i ms path now new rest → FirstPass algorithm rows c i ms path' now' new' rest
  Walking-same path now new path' now' new' rest a b d w = rw (a, b, d) w

  module _ (path now new rest : List ℕ) (m : ℕ) (w : FirstPass algorithm rows c i ms path now new (m ∷ rest)) where
    step : (text named' : List ℕ) (j : List ℕ) → identifier (table_nodes algorithm rows) c j m ≡ text → issue_temporary (table_nodes algorithm rows) c now m ≡ j → recursion_list (table_nodes algorithm rows) c now (m ∷ rest) ≡ named' ++ recursion_list (table_nodes algorithm rows) c j rest → FirstPass algorithm rows c i ms (path ++ text) j (new ++ named') rest
    step text named' j spells is news = record {
      path_is = w.path_is ∙ ap (λ k. path ++ (identifier (table_nodes algorithm rows) c k m ++ first_path (table_nodes algorithm rows) c k rest)) is ∙ ap (λ t. path ++ (t ++ first_path (table_nodes algorithm rows) c j rest)) spells ∙ sym (append_assoc path text _);
      issuer_is = w.issuer_is ∙ ap (λ k. issuer_copy (table_nodes algorithm rows) c k rest) is;
      named_is = w.named_is ∙ ap (λ ns. new ++ ns) news ∙ sym (append_assoc new named' _);
    }

    pub Walking-canonical : (k : ℕ) → Some k ≡ place_in c m → FirstPass algorithm rows c i ms (path ++ canonical_text k) now new rest
    Walking-canonical k at =
        subst (λ ns. FirstPass algorithm rows c i ms (path ++ canonical_text k) now ns rest) (append-nil new)
        (step (canonical_text k) [] now (identifier-canonical algorithm rows c now m k at) (named-canonical algorithm rows c now m k at) (new-canonical algorithm rows c now m k rest at))

    pub Walking-temporary : (k : ℕ) → None ≡ place_in c m → Some k ≡ place_in now m → FirstPass algorithm rows c i ms (path ++ temporary_text k) now new rest
    Walking-temporary k none at =
        subst (λ ns. FirstPass algorithm rows c i ms (path ++ temporary_text k) now ns rest) (append-nil new)
        (step (temporary_text k) [] now (identifier-temporary algorithm rows c now m k none at) (named-temporary algorithm rows c now m k none at) (new-temporary algorithm rows c now m k rest none at))

    pub Walking-new : (k : ℕ) → None ≡ place_in c m → None ≡ place_in now m → k ≡ length now → FirstPass algorithm rows c i ms (path ++ temporary_text k) (now ++ m ∷ []) (new ++ m ∷ []) rest
    Walking-new k none nor is =
        let j = named-new algorithm rows c now m none nor in
        let at : Some k ≡ place_in (now ++ m ∷ []) m = ap Some is ∙ sym (place-push_same now m (place-none now m (sym nor))) in
        step (temporary_text k) (m ∷ []) (now ++ m ∷ []) (identifier-temporary algorithm rows c (now ++ m ∷ []) m k none at) j
        (new-new algorithm rows c now m rest none nor ∙ ap (λ k. m ∷ recursion_list (table_nodes algorithm rows) c k rest) j)

-- ---- what a nested call adds

-- the place, or else the length, is the number in the issuer
pub number-or_length : (i : List ℕ) (n k : ℕ) → k ≡ unwrap_or (place_in i n) (length i) → k ≡ number_in i n
number-or_length i n k is = go (list_any (λ m. m == n) i) refl
  where
    go : (b : Bool) → list_any (λ m. m == n) i ≡ b → k ≡ number_in i n
    go true e = let made : place_in i n ≡ Some (number_in i n) = rw e refl in is ∙ ap (λ p. unwrap_or p (length i)) made
    go false e = let made : place_in i n ≡ None = rw e refl in is ∙ ap (λ p. unwrap_or p (length i)) made ∙ sym (number-absent i n e)

-- what is pushed for a nested call is its part of the path
pub entry-pushed : (algorithm : Hash) (rows : List NodeRow) (i : List ℕ) (n k : ℕ) (hash path : List ℕ) → k ≡ number_in i n → (((path ++ temporary_text k) ++ 60 ∷ []) ++ hash) ++ 62 ∷ [] ≡ path ++ path_part (table_nodes algorithm rows) i n hash
entry-pushed algorithm rows i n k hash path is =
    let spells : temporary_text k ≡ 95 ∷ 58 ∷ temporary_id (table_nodes algorithm rows) i n = ap temporary_text is ∙ ap (λ t. 95 ∷ 58 ∷ t) (sym (table-temporary_id algorithm rows i n)) in
    simp append_assoc (ap (λ t. path ++ (t ++ (60 ∷ (hash ++ 62 ∷ [])))) spells)

-- the same in the pieces in which the code pushes it
pub entry-made : (algorithm : Hash) (rows : List NodeRow) (i : List ℕ) (n k : ℕ) (hash seen path p q r s : List ℕ) → k ≡ number_in i n → seen ≡ hash
    → p ≡ path ++ temporary_text k → q ≡ p ++ 60 ∷ [] → r ≡ q ++ seen → s ≡ r ++ 62 ∷ [] → s ≡ path ++ path_part (table_nodes algorithm rows) i n hash
entry-made algorithm rows i n k hash seen path p q r s at same first second third fourth =
    fourth ∙ ap (λ t. t ++ 62 ∷ []) (third ∙ (λ j. (second ∙ ap (λ t. t ++ 60 ∷ []) first) j ++ same j)) ∙ entry-pushed algorithm rows i n k hash path at

-- the first pass begins with nothing passed
pub pass-start : (algorithm : Hash) (rows : List NodeRow) (c i ms : List ℕ) → FirstPass algorithm rows c i ms [] i [] (drop 0 ms)
pass-start algorithm rows c i ms = Walking-start algorithm rows c i ms

-- what is left from a place is its number and what is left behind it
pub drop-next : (ms : List ℕ) (k m : ℕ) → k < length ms → m ≡ get_or ms k 0 → drop k ms ≡ m ∷ drop (k + 1) ms
drop-next ms k m in' is = drop_more ms k 0 in' ∙ ap (λ x. x ∷ drop (k + 1) ms) (sym is)

pub ruleset known = (known-canonical, known-temporary, known-first)

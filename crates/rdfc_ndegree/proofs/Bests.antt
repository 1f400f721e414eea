-- The best of some trails: how it changes with one more, and what it says of all of them.
use Rattle.std.proofs.Common.{◌≡◌, ℕ, ◌+◌, ◌-◌, ◌^◌, ◌<◌, min, List, [], ◌∷◌, ◌++◌, All, Contains, Bool, true, false, ◌||◌, cond, nat_lt, count_by, refl, sym, ap, ◌∙◌, subst, inl, inr, ⊎_elim, arith, Option, Some, None, ap₂, Ordering}
use Rattle.std.specs.Prelude.{is_some}
use Rattle.std.specs.Str.{bytes_eq}
use Rattle.std.proofs.Math.Bool.{or-false}
use Rattle.std.specs.List.{list_any}
use Rattle.std.proofs.lemmas.Bool.{false≢true}
use Rattle.std.proofs.lemmas.Bool.Decides.{nat_tests}
use Rattle.std.specs.Cmp.Lexicographic.{slice_cmp, nat_list_cmp_total}
use Rattle.std.specs.Ordering.{nat_cmp, is_eq, is_le, ordering_reverse}
use Rattle.std.proofs.lemmas.List.Elements.{All-nil, All-push, All-contains, All-weaker, Contains-push, Contains-append_left}
use Rattle.std.proofs.lemmas.List.Folds.{list_any-append}
use Rattle.std.proofs.lemmas.List.Sums.{sum_by_push, sum_by-cons}
use Rattle.base_types.specs.Order.{is_upto}
use Rattle.base_types.proofs.Lists.{Contains-here, Contains-there, Contains-cons_cases, Contains-nil}
use Rattle.base_types.proofs.Orders.{is_upto-refl, is_upto-back, is_upto-transitive, bytes_eq-cmp, text_cmp, is_upto-cmp, bytes_eq-true, bytes_eq-same}
use Rattle.std.proofs.lemmas.Map.Lookups.{exact_bytes}
use Rattle.std.specs.declared.cmp.Ordering.TheVariants.{Less, Equal, Greater}
use Rattle.rdfc_ndegree.specs.NDegree.{Trail, counts, meets_tie, total_work}
use Rattle.rdfc_ndegree.proofs.FirstTies.{tied-shorter, within-shorter, within-kept, kept-decides, tied-itself}
use Rattle.rdfc_ndegree.specs.Internal.Evaluations.{is_tied_at, IsWithin, IsFirstTie, shorter, kept_tie, IsAmong, IsBestOf, IsPlaceOf}

apart : (path other least : List ℕ) → is_upto least other ≡ true → is_upto least path ≡ false → bytes_eq other path ≡ false
apart path other least below not = go (bytes_eq other path) refl
  where
    go : (b : Bool) → bytes_eq other path ≡ b → bytes_eq other path ≡ false
    go false e = e
    go true e = absurd (false≢true (sym not ∙ ap (is_upto least) (sym (bytes_eq-true other path e)) ∙ below))

many : (n : ℕ) → nat_lt 1 (min n (2 ^ 64 - 1)) ≡ nat_lt 1 n
many n = grind (arith, nat_tests)

-- where there is a least path so far, comparing a path with it says how that path stands to it
pub place_of : (least path : List ℕ) (sharing : ℕ) (o : Ordering) → 0 < sharing → o ≡ slice_cmp nat_cmp path least → IsPlaceOf least sharing path o
place_of least path sharing Less some e =
    let b : text_cmp least path ≡ Greater = nat_list_cmp_total.antisymm least path ∙ ap ordering_reverse (sym e) in
    inr (is_upto-cmp least path ∙ ap is_le b)
place_of least path sharing Equal some e = (some, exact_bytes path least (sym e))
place_of least path sharing Greater some e =
    let b : text_cmp least path ≡ Less = nat_list_cmp_total.antisymm least path ∙ ap ordering_reverse (sym e) in
    (some, is_upto-cmp least path ∙ ap is_le b, bytes_eq-cmp path least ∙ ap is_eq (sym e))

module _ {B : Type 0} where
  -- ---- sums over trails

  pub total_work-append : (ts us : List (Trail B)) → total_work (ts ++ us) ≡ total_work ts + total_work us
  total_work-append [] us = omega arith
  total_work-append (t ∷ ts) us = let e : total_work (ts ++ us) ≡ total_work ts + total_work us = total_work-append ts us in omega arith

  any-push : (text : List ℕ) (ts : List (Trail B)) (t : Trail B) → list_any (λ (u : Trail B). counts text u.ties) (ts ++ t ∷ []) ≡ (list_any (λ (u : Trail B). counts text u.ties) ts || counts text t.ties)
  any-push text ts t =
      list_any-append (λ (u : Trail B). counts text u.ties) ts (t ∷ []) ∙ ap (λ b. list_any (λ (u : Trail B). counts text u.ties) ts || b) (or-false (counts text t.ties))

  -- ---- how many have a path

  abbrev pub with_path : List ℕ → List (Trail B) → ℕ
  with_path path ts = count_by (λ (t : Trail B). bytes_eq t.path path) ts

  one : List ℕ → Trail B → ℕ
  one path t = cond (bytes_eq t.path path) 1 0

  with_path-cons : (path : List ℕ) (t : Trail B) (ts : List (Trail B)) → with_path path (t ∷ ts) ≡ one path t + with_path path ts
  unfolding one
  with_path-cons path t ts = sum_by-cons (λ (u : Trail B). cond (bytes_eq u.path path) 1 0) t ts

  with_path-push : (path : List ℕ) (ts : List (Trail B)) (t : Trail B) → with_path path (ts ++ t ∷ []) ≡ with_path path ts + one path t
  unfolding one
  with_path-push path ts t = sum_by_push (λ (u : Trail B). cond (bytes_eq u.path path) 1 0) ts t

  one-has : (path : List ℕ) (t : Trail B) → bytes_eq t.path path ≡ true → one path t ≡ 1
  unfolding one
  one-has path t e = rw e refl

  one-lacks : (path : List ℕ) (t : Trail B) → bytes_eq t.path path ≡ false → one path t ≡ 0
  unfolding one
  one-lacks path t e = rw e refl

  with_path-some : (path : List ℕ) (ts : List (Trail B)) (b : Trail B) → Contains ts b → path ≡ b.path → 0 < with_path path ts
  with_path-some path [] b k e = absurd (Contains-nil b k)
  with_path-some path (t ∷ ts) b k e =
      let n = with_path-cons path t ts in
      ⊎_elim
      (λ s. let h : one path t ≡ 1 = one-has path t (ap (bytes_eq t.path) (e ∙ ap (λ (z : Trail B). z.path) (sym s)) ∙ bytes_eq-same t.path t.path refl) in omega arith)
      (λ l. let h : 0 < with_path path ts = with_path-some path ts b l e in omega arith)
      (Contains-cons_cases t ts b k)

  with_path-none : (path : List ℕ) (ts : List (Trail B)) → ((t : Trail B) → Contains ts t → bytes_eq t.path path ≡ false) → with_path path ts ≡ 0
  with_path-none path [] h = refl
  with_path-none path (t ∷ ts) h =
      let n = with_path-cons path t ts in
      let first : one path t ≡ 0 = one-lacks path t (h t (Contains-here t ts)) in
      let rest : with_path path ts ≡ 0 = with_path-none path ts (λ u k. h u (Contains-there t ts u k)) in
      omega arith

  -- ---- the best, with one more trail

  pub best-start : IsBestOf {B = B} [] [] [] 0 None
  best-start = record { among = inl refl; least = All-nil (λ (t : Trail B). is_upto [] t.path ≡ true); sharing_is = refl; within = tt; decides = λ text up. refl }

  none_yet : (ts : List (Trail B)) (path : List ℕ) (issuer : List B) (sharing : ℕ) (tie : Option ℕ) → IsBestOf ts path issuer sharing tie → sharing ≡ 0 → ts ≡ []
  none_yet ts path issuer sharing tie b z =
      ⊎_elim (λ e. e) (λ a. let some : 0 < with_path path ts = with_path-some path ts a.best a.contains a.path_is in let n = b.sharing_is in absurd (omega arith)) b.among

  shared : (ts : List (Trail B)) (path : List ℕ) (issuer : List B) (sharing : ℕ) (tie : Option ℕ) → IsBestOf ts path issuer sharing tie → 0 < sharing → IsAmong ts path issuer
  shared ts path issuer sharing tie b some =
      ⊎_elim (λ e. let none : with_path path ts ≡ 0 = ap (with_path path) e in let n = b.sharing_is in absurd (omega arith)) (λ a. a) b.among

  no_tie-yet : (ts : List (Trail B)) (path : List ℕ) (issuer : List B) (sharing : ℕ) (tie : Option ℕ) → IsBestOf ts path issuer sharing tie → ts ≡ [] → is_some tie ≡ false
  no_tie-yet ts path issuer sharing tie b none =
      tied-itself path tie ∙ sym (b.decides path (is_upto-refl path)) ∙ ap (list_any (λ (t : Trail B). counts path t.ties)) none

  pub best-first : (ts : List (Trail B)) (t : Trail B) (path : List ℕ) (issuer : List B) (sharing : ℕ) (tie its_tie : Option ℕ) → IsBestOf ts path issuer sharing tie → sharing ≡ 0 → IsFirstTie t.path t.ties its_tie → IsBestOf (ts ++ t ∷ []) t.path t.issuer 1 (shorter (kept_tie t.path path tie) its_tie)
  best-first ts t path issuer sharing (Some n) its_tie b z first = absurd (false≢true (sym (no_tie-yet ts path issuer sharing (Some n) b (none_yet ts path issuer sharing (Some n) b z))))
  best-first ts t path issuer sharing None its_tie b z first =
      let none : ts ≡ [] = none_yet ts path issuer sharing None b z in
      let upto : All (λ (u : Trail B). is_upto t.path u.path ≡ true) ts = subst (All (λ (u : Trail B). is_upto t.path u.path ≡ true)) (sym none) (All-nil (λ (u : Trail B). is_upto t.path u.path ≡ true)) in
      let before : with_path t.path ts ≡ 0 = ap (with_path t.path) none in
      let here : one t.path t ≡ 1 = one-has t.path t (bytes_eq-same t.path t.path refl) in
      let n = with_path-push t.path ts t in
      record {
        among = inr record { best = t; contains = Contains-push ts t; path_is = refl; issuer_is = refl };
        least = All-push (λ (u : Trail B). is_upto t.path u.path ≡ true) ts t upto (is_upto-refl t.path);
        sharing_is = omega arith;
        within = first.within;
        decides = λ text up. any-push text ts t ∙ ap (λ us. list_any (λ (u : Trail B). counts text u.ties) us || counts text t.ties) none ∙ first.decides text;
      }

  pub best-less : (ts : List (Trail B)) (t : Trail B) (path : List ℕ) (issuer : List B) (sharing : ℕ) (tie its_tie : Option ℕ) → IsBestOf ts path issuer sharing tie → is_upto path t.path ≡ false → IsFirstTie t.path t.ties its_tie → IsBestOf (ts ++ t ∷ []) t.path t.issuer 1 (shorter (kept_tie t.path path tie) its_tie)
  best-less ts t path issuer sharing tie its_tie b less first =
      let back : is_upto t.path path ≡ true = is_upto-back path t.path less in
      let upto : All (λ (u : Trail B). is_upto t.path u.path ≡ true) ts =
      All-weaker (λ (u : Trail B). is_upto path u.path ≡ true) (λ (u : Trail B). is_upto t.path u.path ≡ true) (λ u f. is_upto-transitive t.path path u.path back f) ts b.least in
      let before : with_path t.path ts ≡ 0 =
      with_path-none t.path ts (λ u k. apart t.path u.path path (All-contains (λ (w : Trail B). is_upto path w.path ≡ true) ts u b.least k) less) in
      let here : one t.path t ≡ 1 = one-has t.path t (bytes_eq-same t.path t.path refl) in
      let n = with_path-push t.path ts t in
      record {
        among = inr record { best = t; contains = Contains-push ts t; path_is = refl; issuer_is = refl };
        least = All-push (λ (u : Trail B). is_upto t.path u.path ≡ true) ts t upto (is_upto-refl t.path);
        sharing_is = omega arith;
        within = within-shorter t.path (kept_tie t.path path tie) its_tie (within-kept t.path path tie b.within) first.within;
        decides = λ text up.
            any-push text ts t ∙ (λ i. b.decides text (is_upto-transitive text t.path path up back) i || first.decides text i) ∙ ap (λ x. x || is_tied_at text t.path its_tie) (kept-decides text t.path path tie b.within up back)
            ∙ tied-shorter text t.path (kept_tie t.path path tie) its_tie;
      }

  still : (ts : List (Trail B)) (t : Trail B) (path : List ℕ) (issuer : List B) → IsAmong ts path issuer → IsAmong (ts ++ t ∷ []) path issuer
  still ts t path issuer a = record { best = a.best; contains = Contains-append_left ts (t ∷ []) a.best a.contains; path_is = a.path_is; issuer_is = a.issuer_is }

  pub best-equal : (ts : List (Trail B)) (t : Trail B) (path : List ℕ) (issuer : List B) (sharing : ℕ) (tie its_tie : Option ℕ) → IsBestOf ts path issuer sharing tie → 0 < sharing → t.path ≡ path → IsFirstTie t.path t.ties its_tie → IsBestOf (ts ++ t ∷ []) path issuer (min (sharing + 1) (2 ^ 64 - 1)) (shorter tie its_tie)
  best-equal ts t path issuer sharing tie its_tie b some same first =
      let here : one path t ≡ 1 = one-has path t (ap (bytes_eq t.path) (sym same) ∙ bytes_eq-same t.path t.path refl) in
      let n = with_path-push path ts t in
      let was = b.sharing_is in
      record {
        among = inr (still ts t path issuer (shared ts path issuer sharing tie b some));
        least = All-push (λ (u : Trail B). is_upto path u.path ≡ true) ts t b.least (ap (is_upto path) same ∙ is_upto-refl path);
        sharing_is = omega arith;
        within = within-shorter path tie its_tie b.within (subst (λ x. IsWithin x its_tie) same first.within);
        decides = λ text up. any-push text ts t ∙ (λ i. b.decides text up i || first.decides text i) ∙ ap (λ x. is_tied_at text path tie || is_tied_at text x its_tie) same ∙ tied-shorter text path tie its_tie;
      }

  pub best-greater : (ts : List (Trail B)) (t : Trail B) (path : List ℕ) (issuer : List B) (sharing : ℕ) (tie its_tie : Option ℕ) → IsBestOf ts path issuer sharing tie → 0 < sharing → is_upto path t.path ≡ true → bytes_eq t.path path ≡ false → IsFirstTie t.path t.ties its_tie → IsBestOf (ts ++ t ∷ []) path issuer sharing (shorter tie (kept_tie path t.path its_tie))
  best-greater ts t path issuer sharing tie its_tie b some above other first =
      let here : one path t ≡ 0 = one-lacks path t other in
      let n = with_path-push path ts t in
      let was = b.sharing_is in
      record {
        among = inr (still ts t path issuer (shared ts path issuer sharing tie b some));
        least = All-push (λ (u : Trail B). is_upto path u.path ≡ true) ts t b.least above;
        sharing_is = omega arith;
        within = within-shorter path tie (kept_tie path t.path its_tie) b.within (within-kept path t.path its_tie first.within);
        decides = λ text up.
            any-push text ts t ∙ (λ i. b.decides text up i || first.decides text i) ∙ ap (λ x. is_tied_at text path tie || x) (kept-decides text path t.path its_tie first.within up above)
            ∙ tied-shorter text path tie (kept_tie path t.path its_tie);
      }

  -- ---- the same with what the program has at hand

  abbrev pub Takes : List ℕ → List B → ℕ → Option ℕ → List ℕ → List B → Option ℕ → List ℕ → List B → ℕ → Option ℕ → Type 0
  Takes path issuer sharing tie its_path its_issuer its_tie path' issuer' sharing' tie' =
      (ts : List (Trail B)) (t : Trail B) → IsBestOf ts path issuer sharing tie → its_path ≡ t.path → its_issuer ≡ t.issuer → IsFirstTie t.path t.ties its_tie → IsBestOf (ts ++ t ∷ []) path' issuer' sharing' tie'

  pub takes-less : (path : List ℕ) (issuer : List B) (sharing : ℕ) (tie : Option ℕ) (its_path : List ℕ) (its_issuer : List B) (its_tie kept : Option ℕ) → IsPlaceOf path sharing its_path Less → (IsWithin path tie → kept ≡ kept_tie its_path path tie)
      → Takes path issuer sharing tie its_path its_issuer its_tie its_path its_issuer 1 (shorter kept its_tie)
  takes-less path issuer sharing tie its_path its_issuer its_tie kept place e ts t b p i first =
      rw (e b.within, p, i) (⊎_elim (λ z. best-first ts t path issuer sharing tie its_tie b z first) (λ l. best-less ts t path issuer sharing tie its_tie b (ap (is_upto path) (sym p) ∙ l) first) place)

  pub takes-equal : (path : List ℕ) (issuer : List B) (sharing : ℕ) (tie : Option ℕ) (its_path : List ℕ) (its_issuer : List B) (its_tie : Option ℕ) (more : ℕ) → IsPlaceOf path sharing its_path Equal → more ≡ min (sharing + 1) (2 ^ 64 - 1)
      → Takes path issuer sharing tie its_path its_issuer its_tie path issuer more (shorter tie its_tie)
  takes-equal path issuer sharing tie its_path its_issuer its_tie more place s ts t b p i first =
      rw s (best-equal ts t path issuer sharing tie its_tie b place.0 (sym p ∙ place.1) first)

  pub takes-greater : (path : List ℕ) (issuer : List B) (sharing : ℕ) (tie : Option ℕ) (its_path : List ℕ) (its_issuer : List B) (its_tie kept : Option ℕ) → IsPlaceOf path sharing its_path Greater → (IsWithin its_path its_tie → kept ≡ kept_tie path its_path its_tie)
      → Takes path issuer sharing tie its_path its_issuer its_tie path issuer sharing (shorter tie kept)
  takes-greater path issuer sharing tie its_path its_issuer its_tie kept place e ts t b p i first =
      rw (e (subst (λ x. IsWithin x its_tie) (sym p) first.within), p) (best-greater ts t path issuer sharing tie its_tie b place.0 (ap (is_upto path) (sym p) ∙ place.1) (ap (λ x. bytes_eq x path) (sym p) ∙ place.2) first)

  -- ---- what it says of all of them

  pub best-tie : (ts : List (Trail B)) (path : List ℕ) (issuer : List B) (sharing : ℕ) (tie : Option ℕ) → IsBestOf ts path issuer sharing tie → (nat_lt 1 sharing || is_some tie) ≡ meets_tie path ts
  best-tie ts path issuer sharing tie b =
      let n : nat_lt 1 sharing ≡ nat_lt 1 (with_path path ts) = ap (nat_lt 1) b.sharing_is ∙ many (with_path path ts) in
      let a : is_some tie ≡ list_any (λ (t : Trail B). counts path t.ties) ts = tied-itself path tie ∙ sym (b.decides path (is_upto-refl path)) in
      ap₂ ◌||◌ n a

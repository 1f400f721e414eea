-- Any two runs agree on whether a tie was met; and where none was, on the canonical issuer.
use Rattle.std.proofs.Common.{◌≡◌, ℕ, ◌+◌, ◌≤◌, List, [], ◌∷◌, map, refl, sym, ap, ◌∙◌, subst, arith, Bool, true, false, true≢false, Ordering}
use Rattle.std.specs.Prelude.{◌||◌, Contains, bytes_eq, count_by}
use Rattle.std.specs.List.{AllZip, AllByRecursion, list_any}
use Rattle.std.specs.List.Sorted.{IsPermutation, IsStrictlySortedBy}
use Rattle.std.specs.Cmp.Lexicographic.{on_texts}
use Rattle.std.specs.Ordering.{is_le, on}
use Rattle.std.specs.declared.cmp.Ordering.TheVariants.{Less}
use Rattle.std.proofs.lemmas.Bool.{or_from, or_parts}
use Rattle.std.proofs.lemmas.Map.Lookups.{exact_bytes}
use Rattle.std.proofs.lemmas.List.Elements.{All-contains}
use Rattle.std.proofs.lemmas.List.Sorted.{IsPermutation-sym, IsPermutation-map, sum_by-IsPermutation}
use Rattle.base_types.specs.Order.{is_upto}
use Rattle.base_types.specs.Sets.{SameElements}
use Rattle.base_types.proofs.Lists.{Contains-here, Contains-there, SameElements-trans, strictly_sorted-unique}
use Rattle.base_types.proofs.Orders.{text_cmp, is_upto-cmp, by_cmp, bytes_eq-true, bytes_eq-same}
use Rattle.rdfc_ndegree.specs.Nodes.{Nodes}
use Rattle.rdfc_ndegree.specs.Groups.{Group}
use Rattle.rdfc_ndegree.specs.NDegree.{Outcome, IsNDegree}
use Rattle.rdfc_ndegree.specs.Run.{first_groups, alone, lacking, take_issuer, take_issuers, InHashOrder, results_tie, RunOutcome, Rounds, IsRun, MeetsTie, IsCanonicalIssuer}
use Rattle.rdfc_ndegree.proofs.PrefixesAndPairs.{same_tests, once, count_by-cons, count_by-two, count_by-none, AllZip-join}
use Rattle.rdfc_ndegree.proofs.Agree.{IsAgreed, IsNDegree-agrees}
use Rattle.rdfc_ndegree.proofs.Permutations.{SameElements-permutation}

-- ---- the results of one group

-- what the next canonical issuer is made from
record Bare (B : Type 0) : Type 0 where
  hash : List ℕ
  issuer : List B

abbrev bare_of : {B : Type 0} → List ℕ → List B → Bare B
bare_of h i = record { hash = h; issuer = i }

abbrev bare : {B : Type 0} → Outcome B → Bare B
bare o = bare_of o.hash o.issuer

abbrev has_hash : {B : Type 0} → List ℕ → Outcome B → Bool
has_hash h o = bytes_eq o.hash h

abbrev bare_has_hash : {B : Type 0} → List ℕ → Bare B → Bool
bare_has_hash h b = bytes_eq b.hash h

any_bare : {B : Type 0} (h : List ℕ) (os : List (Outcome B)) → list_any (has_hash h) os ≡ list_any (bare_has_hash h) (map bare os)
any_bare h [] = refl
any_bare h (o ∷ os) = ap (λ b. bytes_eq o.hash h || b) (any_bare h os)

record ResultsFollow {B : Type 0} (os ps : List (Outcome B)) : Type 0 where
  no_tie : results_tie ps ≡ false
  same : map bare os ≡ map bare ps

-- where the one list meets no tie
results_follow : {B : Type 0} (os ps : List (Outcome B)) → AllZip IsAgreed os ps → results_tie os ≡ false → ResultsFollow os ps
results_follow [] [] z e = record { no_tie = refl; same = refl }
results_follow [] (p ∷ ps) z e = absurd z
results_follow (o ∷ os) [] z e = absurd z
results_follow (o ∷ os) (p ∷ ps) z e =
    let front : (o.tie || list_any (has_hash o.hash) os) ≡ false = (or_parts (o.tie || list_any (has_hash o.hash) os) (results_tie os) e).0 in
    let tie : o.tie ≡ false = (or_parts o.tie (list_any (has_hash o.hash) os) front).0 in
    let any : list_any (has_hash o.hash) os ≡ false = (or_parts o.tie (list_any (has_hash o.hash) os) front).1 in
    let later : ResultsFollow os ps = results_follow os ps z.1 (or_parts (o.tie || list_any (has_hash o.hash) os) (results_tie os) e).1 in
    let equal = z.0.1 tie in
    let none : list_any (has_hash p.hash) ps ≡ false =
    any_bare p.hash ps ∙ ap (list_any (bare_has_hash p.hash)) (sym later.same) ∙ sym (any_bare p.hash os) ∙ ap (λ h. list_any (has_hash h) os) (sym equal.0) ∙ any in
    record {
      no_tie = or_from (p.tie || list_any (has_hash p.hash) ps) (results_tie ps) (or_from p.tie (list_any (has_hash p.hash) ps) (sym z.0.0 ∙ tie) none) later.no_tie;
      same = λ i. bare_of (equal.0 i) (equal.1 i) ∷ later.same i;
    }

-- ---- their order

results_few : {B : Type 0} (os : List (Outcome B)) → results_tie os ≡ false → (h : List ℕ) → count_by (has_hash h) os ≤ 1
results_few [] e h = omega arith
results_few (o ∷ os) e h = go (bytes_eq o.hash h) refl (results_few os (or_parts (o.tie || list_any (has_hash o.hash) os) (results_tie os) e).1 h)
  where
    any : list_any (has_hash o.hash) os ≡ false
    any = (or_parts o.tie (list_any (has_hash o.hash) os) (or_parts (o.tie || list_any (has_hash o.hash) os) (results_tie os) e).0).1

    whole : count_by (has_hash h) (o ∷ os) ≡ once (bytes_eq o.hash h) + count_by (has_hash h) os
    whole = count_by-cons (has_hash h) o os

    go : (b : Bool) → bytes_eq o.hash h ≡ b → count_by (has_hash h) os ≤ 1 → count_by (has_hash h) (o ∷ os) ≤ 1
    go true f few =
        let none : count_by (has_hash h) os ≡ 0 = count_by-none (has_hash h) os (ap (λ g. list_any (has_hash g) os) (sym (bytes_eq-true o.hash h f)) ∙ any) in
        let one : once (bytes_eq o.hash h) ≡ 1 = ap once f in
        omega (arith, whole)
    go false f few =
        let zero_here : once (bytes_eq o.hash h) ≡ 0 = ap once f in
        omega (arith, whole)

less_if : (xs ys : List ℕ) → is_upto xs ys ≡ true → (xs ≡ ys → ⊥) → text_cmp xs ys ≡ Less
less_if xs ys e apart =
    by_cmp (text_cmp xs ys ≡ Less) xs ys (λ f. f) (λ f. absurd (apart (exact_bytes xs ys f))) (λ f. absurd (true≢false (sym e ∙ is_upto-cmp xs ys ∙ ap is_le f)))

abbrev bare_cmp : {B : Type 0} → Bare B → Bare B → Ordering
bare_cmp {B} = on (λ (b : Bare B). b.hash) text_cmp

all_after : {B : Type 0} (o : Outcome B) (os : List (Outcome B)) → ((p : Outcome B) → Contains os p → text_cmp o.hash p.hash ≡ Less) → AllByRecursion (λ (b : Bare B). bare_cmp (bare o) b ≡ Less) (map bare os)
all_after o [] h = tt
all_after o (p ∷ ps) h = (h p (Contains-here p ps), all_after o ps (λ q c. h q (Contains-there p ps q c)))

rises : {B : Type 0} (os : List (Outcome B)) → InHashOrder os → ((h : List ℕ) → count_by (has_hash h) os ≤ 1) → IsStrictlySortedBy bare_cmp (map bare os)
unfolding IsStrictlySortedBy
rises [] up few = tt
rises {B} (o ∷ os) up few = (
  all_after o os (λ p c. less_if o.hash p.hash (All-contains (λ (q : Outcome B). is_upto o.hash q.hash ≡ true) os p up.0 c)
      (λ same. count_by-two (has_hash o.hash) o p os (few o.hash) (bytes_eq-same o.hash o.hash refl) c (bytes_eq-same p.hash o.hash (sym same)))),
  rises os up.1 (λ h. let whole : count_by (has_hash h) (o ∷ os) ≡ once (bytes_eq o.hash h) + count_by (has_hash h) os = count_by-cons (has_hash h) o os in omega (arith, few h)),
)

few_moved : {B : Type 0} (os ps : List (Outcome B)) → IsPermutation os ps → ((h : List ℕ) → count_by (has_hash h) os ≤ 1) → (h : List ℕ) → count_by (has_hash h) ps ≤ 1
few_moved os ps moved few h =
    let same : count_by (has_hash h) ps ≡ count_by (has_hash h) os = sum_by-IsPermutation (λ o. once (has_hash h o)) os ps moved in
    omega (arith, few h)

sorted_same : {B : Type 0} (os ps us vs : List (Outcome B)) → ResultsFollow os ps → results_tie os ≡ false → IsPermutation os us → IsPermutation ps vs → InHashOrder us → InHashOrder vs → map bare us ≡ map bare vs
sorted_same {B} os ps us vs f e moved turned up down =
    let first : SameElements (map bare us) (map bare os) = SameElements-permutation (map bare us) (map bare os) (IsPermutation-map bare us os (IsPermutation-sym os us moved)) in
    let second : SameElements (map bare ps) (map bare vs) = SameElements-permutation (map bare ps) (map bare vs) (IsPermutation-map bare ps vs turned) in
    let joined : SameElements (map bare os) (map bare vs) = subst (λ l. SameElements l (map bare vs)) (sym f.same) second in
    strictly_sorted-unique (on_texts (λ (b : Bare B). b.hash)) (map bare us) (map bare vs)
    (rises us up (few_moved os us moved (results_few os e)))
    (rises vs down (few_moved ps vs turned (results_few ps f.no_tie)))
    (SameElements-trans (map bare us) (map bare os) (map bare vs) first joined)

-- ---- the next canonical issuer

abbrev take_bares : {B : Type 0} → Nodes B → List B → List (Bare B) → List B
take_bares v c [] = c
take_bares v c (b ∷ bs) = take_bares v (take_issuer v c b.issuer) bs

take_issuers-bare : {B : Type 0} (v : Nodes B) (c : List B) (os : List (Outcome B)) → take_issuers v c os ≡ take_bares v c (map bare os)
take_issuers-bare v c [] = refl
take_issuers-bare v c (o ∷ os) = take_issuers-bare v (take_issuer v c o.issuer) os

-- ---- runs

abbrev pub ResultsAgree : {B : Type 0} → RunOutcome B → RunOutcome B → Type 0
ResultsAgree r s = (r.tie ≡ s.tie) × (r.tie ≡ false → r.issuer ≡ s.issuer)

module _ {B : Type 0} (v : Nodes B) where
  abbrev RoundsAgree : List (Group B) → Type 0
  RoundsAgree gs = (c : List B) (r s : RunOutcome B) → Rounds v c gs r → Rounds v c gs s → ResultsAgree r s

  round_step : (c : List B) (g : Group B) (gs : List (Group B)) (r s : RunOutcome B) → RoundsAgree gs → Rounds v c (g ∷ gs) r → Rounds v c (g ∷ gs) s → ResultsAgree r s
  round_step c g gs r s later d e = go (results_tie d.outcomes) refl
    where
      forth : AllZip IsAgreed d.outcomes e.outcomes
      forth = AllZip-join (λ n o. IsNDegree v c n (n ∷ []) o) (λ n o. IsNDegree v c n (n ∷ []) o) IsAgreed (λ n o p a b. IsNDegree-agrees a b) (lacking v c g.members) d.outcomes e.outcomes d.hashed e.hashed

      back : AllZip IsAgreed e.outcomes d.outcomes
      back = AllZip-join (λ n o. IsNDegree v c n (n ∷ []) o) (λ n o. IsNDegree v c n (n ∷ []) o) IsAgreed (λ n o p a b. IsNDegree-agrees a b) (lacking v c g.members) e.outcomes d.outcomes e.hashed d.hashed

      ties : results_tie d.outcomes ≡ results_tie e.outcomes
      ties = same_tests (results_tie d.outcomes) (results_tie e.outcomes) (λ f. (results_follow d.outcomes e.outcomes forth f).no_tie) (λ f. (results_follow e.outcomes d.outcomes back f).no_tie)

      tie_left : r.tie ≡ (results_tie d.outcomes || d.rest.tie)
      tie_left = ap (λ (z : RunOutcome B). z.tie) d.is

      tie_right : s.tie ≡ (results_tie e.outcomes || e.rest.tie)
      tie_right = ap (λ (z : RunOutcome B). z.tie) e.is

      go : (b : Bool) → results_tie d.outcomes ≡ b → ResultsAgree r s
      go true f =
          let left : r.tie ≡ true = tie_left ∙ ap (λ (b : Bool). b || d.rest.tie) f in
          let right : s.tie ≡ true = tie_right ∙ ap (λ (b : Bool). b || e.rest.tie) (sym ties ∙ f) in
          (left ∙ sym right, λ h. absurd (true≢false (sym left ∙ h)))
      go false f =
          let same : map bare d.sorted ≡ map bare e.sorted = sorted_same d.outcomes e.outcomes d.sorted e.sorted (results_follow d.outcomes e.outcomes forth f) f d.order e.order d.in_order e.in_order in
          let issuer : take_issuers v c d.sorted ≡ take_issuers v c e.sorted = take_issuers-bare v c d.sorted ∙ ap (take_bares v c) same ∙ sym (take_issuers-bare v c e.sorted) in
          let moved : Rounds v (take_issuers v c d.sorted) gs e.rest = subst (λ (z : List B). Rounds v z gs e.rest) (sym issuer) e.goes_on in
          let rest : ResultsAgree d.rest e.rest = later (take_issuers v c d.sorted) d.rest e.rest d.goes_on moved in
          let left : r.tie ≡ d.rest.tie = tie_left ∙ ap (λ (b : Bool). b || d.rest.tie) f in
          let right : s.tie ≡ e.rest.tie = tie_right ∙ ap (λ (b : Bool). b || e.rest.tie) (sym ties ∙ f) in
          (left ∙ rest.0 ∙ sym right, λ h. ap (λ (z : RunOutcome B). z.issuer) d.is ∙ rest.1 (sym left ∙ h) ∙ sym (ap (λ (z : RunOutcome B). z.issuer) e.is))

  pub Rounds-agree : (gs : List (Group B)) (c : List B) (r s : RunOutcome B) → Rounds v c gs r → Rounds v c gs s → ResultsAgree r s
  Rounds-agree [] c r s d e =
      let same : r ≡ s = d ∙ sym e in
      (ap (λ (z : RunOutcome B). z.tie) same, λ f. ap (λ (z : RunOutcome B). z.issuer) same)
  Rounds-agree (g ∷ gs) c r s d e = round_step c g gs r s (Rounds-agree gs) d e

-- runs agree on ties, and without one on the canonical issuer
pub runs-agree : {B : Type 0} {v : Nodes B} {r s : RunOutcome B} → IsRun v r → IsRun v s → (r.tie ≡ s.tie) × (r.tie ≡ false → r.issuer ≡ s.issuer)
runs-agree {v = v} {r = r} {s = s} d e = Rounds-agree v (first_groups v) (alone (first_groups v)) r s d.rounds e.rounds

-- a run tells whether any run meets a tie
pub tie-exactly : {B : Type 0} {v : Nodes B} {r : RunOutcome B} → IsRun v r → (r.tie ≡ true → MeetsTie v) × (MeetsTie v → r.tie ≡ true)
tie-exactly {r = r} d = ((λ e. record { run = r; is_run = d; tie = e }), (λ m. (runs-agree d m.is_run).0 ∙ m.tie))

-- where one run meets no tie, each gives its labels and meets none
pub labels-once : {B : Type 0} {v : Nodes B} {c : List B} {r : RunOutcome B} → IsCanonicalIssuer v c → IsRun v r → (r.tie ≡ false) × (r.issuer ≡ c)
labels-once h d =
    let same = runs-agree h.is_run d in
    (sym same.0 ∙ h.no_tie, sym (same.1 h.no_tie) ∙ h.is)

-- a run without a tie gives the canonical issuer
pub labels-of-run : {B : Type 0} {v : Nodes B} {r : RunOutcome B} → IsRun v r → r.tie ≡ false → IsCanonicalIssuer v r.issuer
labels-of-run {r = r} d e = record { run = r; is_run = d; no_tie = e; is = refl }

-- labels are the labels of one issuer alone
pub labels-unique : {B : Type 0} {v : Nodes B} {c d : List B} → IsCanonicalIssuer v c → IsCanonicalIssuer v d → c ≡ d
labels-unique h k = sym (labels-once h k.is_run).1 ∙ k.is

-- and where there are labels, no run meets a tie
pub labels-no_tie : {B : Type 0} {v : Nodes B} {c : List B} → IsCanonicalIssuer v c → MeetsTie v → ⊥
labels-no_tie h m = true≢false (sym m.tie ∙ (labels-once h m.is_run).0)

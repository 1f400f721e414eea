-- Any two runs of an n-degree call agree on whether a tie was met; and where none was, on the hash and the issuer.
use Rattle.std.proofs.Common.{◌≡◌, ℕ, zero, suc, ◌≤◌, List, [], ◌∷◌, ◌++◌, refl, sym, ap, ◌∙◌, subst, inl, inr, ⊎_elim, Bool, true, false, true≢false, ltb-false}
use Rattle.std.specs.Prelude.{◌⊎◌, ◌==◌, ◌||◌, nat_lt, Contains, bytes_eq, count_by, if◌then◌else◌}
use Rattle.std.specs.List.{AllZip, list_any, starts_with}
use Rattle.std.specs.List.Sorted.{IsPermutation}
use Rattle.std.proofs.lemmas.Bool.{or_from, or_parts}
use Rattle.std.proofs.lemmas.List.Elements.{All-contains}
use Rattle.std.proofs.lemmas.List.Sorted.{IsPermutation-sym, Contains-permutation, sum_by-IsPermutation, list_any-IsPermutation}
use Rattle.base_types.specs.Order.{is_upto}
use Rattle.base_types.specs.Sets.{SameElements}
use Rattle.base_types.proofs.Lists.{Contains-here, Contains-nil, Contains-cons_cases}
use Rattle.base_types.proofs.Orders.{is_upto-antisymmetric, bytes_eq-true, bytes_eq-same}
use Rattle.rdfc_ndegree.specs.Nodes.{Nodes}
use Rattle.rdfc_ndegree.specs.Groups.{Group, related_groups}
use Rattle.rdfc_ndegree.specs.NDegree.{Outcome, Trail, Choice, Calls, path_part, trail_more, Nested, Evaluates, AreArrangements, counts, meets_tie, IsChoice, InGroups, IsCall, IsNDegreeWithin, IsNDegree}
use Rattle.rdfc_ndegree.proofs.Membership.{AllZip-from_left, AllZip-from_right, AllZip-weaker}
use Rattle.rdfc_ndegree.proofs.PrefixesAndPairs.{same_tests, begins, begins-starts_with, begins-refl, begins-append, one_side, begins-other, begins-later, list_any-false, list_any-none, once, count_by-one, AllZip-join, AllZip-count_by, Differ-from_AllDiffer, Paired, paired}

-- ---- outcomes that agree

abbrev pub IsAgreed : {B : Type 0} → Outcome B → Outcome B → Type 0
IsAgreed o p = (o.tie ≡ p.tie) × (o.tie ≡ false → (o.hash ≡ p.hash) × (o.issuer ≡ p.issuer))

abbrev pub CallsAgree : {B : Type 0} → Calls B → Calls B → Type 0
CallsAgree {B} calls others = (n : B) (i : List B) (o p : Outcome B) → calls n i o → others n i p → IsAgreed o p

-- of two outcomes that agree, the second agrees with the first too
pub IsAgreed-sym : {B : Type 0} (o p : Outcome B) → IsAgreed o p → IsAgreed p o
IsAgreed-sym o p a = (sym a.0, λ e. let b = a.1 (a.0 ∙ e) in (sym b.0, sym b.1))

-- ---- one arrangement, evaluated twice

record IsWithin {B : Type 0} (path : List ℕ) (t : Trail B) : Type 0 where
  begun : begins path t.path ≡ true
  every : (y : List ℕ) → Contains t.ties y → begins path y ≡ true

-- no nested tie in either, and the same path and issuer
pub record IsClean {B : Type 0} (t u : Trail B) : Type 0 where
  pub ties_left : t.ties ≡ []
  pub ties_right : u.ties ≡ []
  pub path_is : t.path ≡ u.path
  pub issuer_is : t.issuer ≡ u.issuer

-- x is the path before the first nested call that met a tie
pub record IsParted {B : Type 0} (x : List ℕ) (t : Trail B) : Type 0 where
  pub among : Contains t.ties x
  pub begun : begins x t.path ≡ true
  pub every : (y : List ℕ) → Contains t.ties y → begins x y ≡ true

abbrev pub Alike : {B : Type 0} → Trail B → Trail B → Type 0
Alike t u = IsClean t u ⊎ ((x : List ℕ) × IsParted x t × IsParted x u)

Alike-sym : {B : Type 0} (t u : Trail B) → Alike t u → Alike u t
Alike-sym t u (inl c) = inl record { ties_left = c.ties_right; ties_right = c.ties_left; path_is = sym c.path_is; issuer_is = sym c.issuer_is }
Alike-sym t u (inr (x, p, q)) = inr (x, q, p)

ties_within : (b : Bool) (path es : List ℕ) (ties : List (List ℕ)) → ((y : List ℕ) → Contains ties y → begins (path ++ es) y ≡ true) → (y : List ℕ) → Contains (if b then path ∷ ties else ties) y → begins path y ≡ true
ties_within true path es ties w y c =
    ⊎_elim (λ same. subst (λ z. begins path z ≡ true) same (begins-refl path)) (λ d. begins-append path es y (w y d)) (Contains-cons_cases path ties y c)
ties_within false path es ties w y c = begins-append path es y (w y c)

within_more : {B : Type 0} (path es : List ℕ) (o : Outcome B) (u : Trail B) → IsWithin (path ++ es) u → IsWithin path (trail_more path o u)
within_more path es o u w = record { begun = begins-append path es u.path w.begun; every = ties_within o.tie path es u.ties w.every }

nested_within : {B : Type 0} (v : Nodes B) (calls : Calls B) (i : List B) (path : List ℕ) (ms : List B) (t : Trail B) → Nested v calls i path ms t → IsWithin path t
nested_within v calls i path [] t d = subst (IsWithin path) (sym d) record { begun = begins-refl path; every = λ y c. absurd (Contains-nil y c) }
nested_within v calls i path (m ∷ ms) t d =
    subst (IsWithin path) (sym d.is)
    (within_more path (path_part v i m d.outcome.hash) d.outcome d.rest (nested_within v calls d.outcome.issuer (path ++ path_part v i m d.outcome.hash) ms d.rest d.goes_on))

parted_here : {B : Type 0} (path es : List ℕ) (o : Outcome B) (u t : Trail B) → o.tie ≡ true → IsWithin (path ++ es) u → t ≡ trail_more path o u → IsParted path t
parted_here path es o u t e w is =
    let more : IsWithin path (trail_more path o u) = within_more path es o u w in
    let among : Contains (trail_more path o u).ties path = subst (λ (b : Bool). Contains (if b then path ∷ u.ties else u.ties) path) (sym e) (Contains-here path u.ties) in
    subst (IsParted path) (sym is) record { among = among; begun = more.begun; every = more.every }

-- what a nested call without a tie leaves as it is
record IsKept {B : Type 0} (t u : Trail B) : Type 0 where
  path_is : t.path ≡ u.path
  issuer_is : t.issuer ≡ u.issuer
  ties_is : t.ties ≡ u.ties

kept : {B : Type 0} (path : List ℕ) (o : Outcome B) (u t : Trail B) → o.tie ≡ false → t ≡ trail_more path o u → IsKept t u
kept {B} path o u t e is = record {
  path_is = ap (λ (x : Trail B). x.path) is;
  issuer_is = ap (λ (x : Trail B). x.issuer) is;
  ties_is = ap (λ (x : Trail B). x.ties) is ∙ ap (λ (b : Bool). if b then path ∷ u.ties else u.ties) e;
}

parted_kept : {B : Type 0} (x : List ℕ) (t u : Trail B) → IsKept t u → IsParted x u → IsParted x t
parted_kept x t u k p = record {
  among = subst (λ ys. Contains ys x) (sym k.ties_is) p.among;
  begun = ap (begins x) k.path_is ∙ p.begun;
  every = λ y c. p.every y (subst (λ ys. Contains ys y) k.ties_is c);
}

alike_kept : {B : Type 0} (s t u w : Trail B) → IsKept s u → IsKept t w → Alike u w → Alike s t
alike_kept s t u w k l (inl c) = inl record {
  ties_left = k.ties_is ∙ c.ties_left;
  ties_right = l.ties_is ∙ c.ties_right;
  path_is = k.path_is ∙ c.path_is ∙ sym l.path_is;
  issuer_is = k.issuer_is ∙ c.issuer_is ∙ sym l.issuer_is;
}
alike_kept s t u w k l (inr (x, p, q)) = inr (x, parted_kept x s u k p, parted_kept x t w l q)

module _ {B : Type 0} (v : Nodes B) (calls others : Calls B) where
  abbrev NestedAlike : List B → Type 0
  NestedAlike ms = (i : List B) (path : List ℕ) (t u : Trail B) → Nested v calls i path ms t → Nested v others i path ms u → Alike t u

  alike_step : (i : List B) (path : List ℕ) (m : B) (ms : List B) (t u : Trail B) → CallsAgree calls others → NestedAlike ms → Nested v calls i path (m ∷ ms) t → Nested v others i path (m ∷ ms) u → Alike t u
  alike_step i path m ms t u agree later d e = go d.outcome.tie refl
    where
      same : IsAgreed d.outcome e.outcome
      same = agree m i d.outcome e.outcome d.called e.called

      go : (b : Bool) → d.outcome.tie ≡ b → Alike t u
      go true f =
          inr (
            path,
            parted_here path (path_part v i m d.outcome.hash) d.outcome d.rest t f (nested_within v calls d.outcome.issuer (path ++ path_part v i m d.outcome.hash) ms d.rest d.goes_on) d.is,
            parted_here path (path_part v i m e.outcome.hash) e.outcome e.rest u (sym same.0 ∙ f) (nested_within v others e.outcome.issuer (path ++ path_part v i m e.outcome.hash) ms e.rest e.goes_on) e.is,
          )
      go false f =
          let equal = same.1 f in
          let hashed : Nested v others e.outcome.issuer (path ++ path_part v i m d.outcome.hash) ms e.rest = subst (λ h. Nested v others e.outcome.issuer (path ++ path_part v i m h) ms e.rest) (sym equal.0) e.goes_on in
          let moved : Nested v others d.outcome.issuer (path ++ path_part v i m d.outcome.hash) ms e.rest = subst (λ j. Nested v others j (path ++ path_part v i m d.outcome.hash) ms e.rest) (sym equal.1) hashed in
          alike_kept t u d.rest e.rest (kept path d.outcome d.rest t f d.is) (kept path e.outcome e.rest u (sym same.0 ∙ f) e.is)
          (later d.outcome.issuer (path ++ path_part v i m d.outcome.hash) d.rest e.rest d.goes_on moved)

  nested_alike : CallsAgree calls others → (ms : List B) → NestedAlike ms
  nested_alike agree [] i path t u d e = inl record {
    ties_left = ap (λ (x : Trail B). x.ties) d;
    ties_right = ap (λ (x : Trail B). x.ties) e;
    path_is = ap (λ (x : Trail B). x.path) d ∙ sym (ap (λ (x : Trail B). x.path) e);
    issuer_is = ap (λ (x : Trail B). x.issuer) d ∙ sym (ap (λ (x : Trail B). x.issuer) e);
  }
  nested_alike agree (m ∷ ms) i path t u d e = alike_step i path m ms t u agree (nested_alike agree ms) d e

  pub Evaluates-alike : CallsAgree calls others → (c i p : List B) (t u : Trail B) → Evaluates v calls c i p t → Evaluates v others c i p u → Alike t u
  Evaluates-alike agree c i p t u d e = nested_alike agree _ _ _ t u d e

-- ---- the arrangements of a group

counts-false : (least : List ℕ) (ties : List (List ℕ)) (x : List ℕ) → counts least ties ≡ false → Contains ties x → begins x least ≡ false
counts-false least ties x e c = sym (begins-starts_with x least) ∙ list_any-false (λ before. starts_with ◌==◌ least before) ties x e c

counts-none : (least : List ℕ) (ties : List (List ℕ)) → ((x : List ℕ) → Contains ties x → begins x least ≡ false) → counts least ties ≡ false
counts-none least ties h = list_any-none (λ before. starts_with ◌==◌ least before) ties (λ x c. begins-starts_with x least ∙ h x c)

-- u does not meet a tie with the least path either, and has it just where t has
record Follows {B : Type 0} (least : List ℕ) (t u : Trail B) : Type 0 where
  above : is_upto least u.path ≡ true
  clean : counts least u.ties ≡ false
  same_path : bytes_eq t.path least ≡ bytes_eq u.path least
  same_issuer : bytes_eq t.path least ≡ true → t.issuer ≡ u.issuer

follows : {B : Type 0} (least : List ℕ) (t u : Trail B) → Alike t u → is_upto least t.path ≡ true → counts least t.ties ≡ false → Follows least t u
follows least t u (inl c) e f = record {
  above = subst (λ p. is_upto least p ≡ true) c.path_is e;
  clean = ap (counts least) c.ties_right;
  same_path = ap (λ p. bytes_eq p least) c.path_is;
  same_issuer = λ g. c.issuer_is;
}
follows least t u (inr (x, p, q)) e f =
    let apart : begins x least ≡ false = counts-false least t.ties x f p.among in
    let other : bytes_eq t.path least ≡ false = begins-other x least t.path apart p.begun in
    record {
      above = one_side x least t.path u.path apart p.begun q.begun e;
      clean = counts-none least u.ties (λ y c. begins-later x least y apart (q.every y c));
      same_path = other ∙ sym (begins-other x least u.path apart q.begun);
      same_issuer = λ g. absurd (true≢false (sym g ∙ other));
    }

abbrev has_path : {B : Type 0} → List ℕ → Trail B → Bool
has_path least t = bytes_eq t.path least

abbrev has_tie : {B : Type 0} → List ℕ → Trail B → Bool
has_tie least t = counts least t.ties

record TrailsFollow {B : Type 0} (best other : Trail B) (us : List (Trail B)) : Type 0 where
  no_tie : meets_tie best.path us ≡ false
  path_is : best.path ≡ other.path
  issuer_is : best.issuer ≡ other.issuer

trails_follow : {B : Type 0} (best other : Trail B) (ts us : List (Trail B)) → AllZip Alike ts us
    → Contains ts best → ((t : Trail B) → Contains ts t → is_upto best.path t.path ≡ true) → meets_tie best.path ts ≡ false
    → Contains us other → ((u : Trail B) → Contains us u → is_upto other.path u.path ≡ true) → TrailsFollow best other us
trails_follow {B} best other ts us alike among least none there lowest =
    let few : nat_lt 1 (count_by (has_path best.path) ts) ≡ false = (or_parts (nat_lt 1 (count_by (has_path best.path) ts)) (list_any (has_tie best.path) ts) none).0 in
    let clean : list_any (has_tie best.path) ts ≡ false = (or_parts (nat_lt 1 (count_by (has_path best.path) ts)) (list_any (has_tie best.path) ts) none).1 in
    let each : AllZip (Follows best.path) ts us = AllZip-weaker Alike (Follows best.path) ts us (λ t u c a. follows best.path t u a (least t c) (list_any-false (has_tie best.path) ts t clean c)) alike in
    let count : count_by (has_path best.path) ts ≡ count_by (has_path best.path) us = AllZip-count_by (has_path best.path) (has_path best.path) ts us (AllZip-weaker (Follows best.path) (λ t u. has_path best.path t ≡ has_path best.path u) ts us (λ t u c g. g.same_path) each) in
    let partner = AllZip-from_left (Follows best.path) ts us best each among in
    let origin = AllZip-from_right (Follows best.path) ts us other each there in
    let named : partner.0.path ≡ best.path = bytes_eq-true partner.0.path best.path (sym partner.2.same_path ∙ bytes_eq-same best.path best.path refl) in
    let below : is_upto other.path best.path ≡ true = subst (λ p. is_upto other.path p ≡ true) named (lowest partner.0 partner.1) in
    let equal : best.path ≡ other.path = is_upto-antisymmetric best.path other.path origin.2.above below in
    let has : has_path best.path origin.0 ≡ true = origin.2.same_path ∙ bytes_eq-same other.path best.path (sym equal) in
    let at_most : count_by (has_path best.path) ts ≤ 1 = ltb-false 1 (count_by (has_path best.path) ts) few in
    let one : best ≡ origin.0 = count_by-one (has_path best.path) ts best origin.0 at_most among origin.1 (bytes_eq-same best.path best.path refl) has in
    record {
      no_tie = or_from (nat_lt 1 (count_by (has_path best.path) us)) (list_any (has_tie best.path) us) (ap (nat_lt 1) (sym count) ∙ few) (list_any-none (has_tie best.path) us (λ u c. (AllZip-from_right (Follows best.path) ts us u each c).2.clean));
      path_is = equal;
      issuer_is = ap (λ (t : Trail B). t.issuer) one ∙ origin.2.same_issuer has;
    }

meets_tie-permutation : {B : Type 0} (least : List ℕ) (ts us : List (Trail B)) → IsPermutation ts us → meets_tie least ts ≡ meets_tie least us
meets_tie-permutation {B} least ts us p =
    let count : count_by (has_path least) us ≡ count_by (has_path least) ts = sum_by-IsPermutation (λ t. once (has_path least t)) ts us p in
    let any : list_any (has_tie least) ts ≡ list_any (has_tie least) us = list_any-IsPermutation (has_tie least) ts us p in
    λ i. nat_lt 1 (sym count i) || any i

arrangements_same : {B : Type 0} (members : List B) (ps qs : List (List B)) → AreArrangements members ps → AreArrangements members qs → SameElements ps qs
arrangements_same members ps qs a b p = (λ c. (b.exact p).1 ((a.exact p).0 c), λ c. (a.exact p).1 ((b.exact p).0 c))

-- choices that agree
abbrev pub ChoicesAgree : {B : Type 0} → Choice B → Choice B → Type 0
ChoicesAgree x y = (x.tie ≡ y.tie) × (x.tie ≡ false → (x.path ≡ y.path) × (x.issuer ≡ y.issuer))

record ChoiceFollows {B : Type 0} (x y : Choice B) : Type 0 where
  no_tie : y.tie ≡ false
  path_is : x.path ≡ y.path
  issuer_is : x.issuer ≡ y.issuer

module _ {B : Type 0} (R S : List B → Trail B → Type 0) (alike : (p : List B) (t u : Trail B) → R p t → S p u → Alike t u) (members : List B) (x y : Choice B) where
  choice_follows : IsChoice R members x → IsChoice S members y → x.tie ≡ false → ChoiceFollows x y
  choice_follows k l e =
      let pairs : Paired S k.arrangements l.trails = paired S k.arrangements l.arrangements l.trails (Differ-from_AllDiffer k.arrangements k.all.differ) (Differ-from_AllDiffer l.arrangements l.all.differ) (arrangements_same members k.arrangements l.arrangements k.all l.all) l.evaluated in
      let us = pairs.reordered in
      let both : AllZip Alike k.trails us = AllZip-join R S Alike alike k.arrangements k.trails us k.evaluated pairs.zipped in
      let tie_left : x.tie ≡ meets_tie k.best.path k.trails = ap (λ (z : Choice B). z.tie) k.is in
      let tie_right : y.tie ≡ meets_tie l.best.path l.trails = ap (λ (z : Choice B). z.tie) l.is in
      let back : IsPermutation us l.trails = IsPermutation-sym l.trails us pairs.moved in
      let f : TrailsFollow k.best l.best us = trails_follow k.best l.best k.trails us both
      k.among (λ t c. All-contains (λ (s : Trail B). is_upto k.best.path s.path ≡ true) k.trails t k.least c) (sym tie_left ∙ e)
      (Contains-permutation l.trails us l.best pairs.moved l.among)
      (λ u c. All-contains (λ (s : Trail B). is_upto l.best.path s.path ≡ true) l.trails u l.least (Contains-permutation us l.trails u back c)) in
      record {
        no_tie = tie_right ∙ meets_tie-permutation l.best.path l.trails us pairs.moved ∙ ap (λ (p : List ℕ). meets_tie p us) (sym f.path_is) ∙ f.no_tie;
        path_is = ap (λ (z : Choice B). z.path) k.is ∙ f.path_is ∙ sym (ap (λ (z : Choice B). z.path) l.is);
        issuer_is = ap (λ (z : Choice B). z.issuer) k.is ∙ f.issuer_is ∙ sym (ap (λ (z : Choice B). z.issuer) l.is);
      }

-- two choices for one group agree, where the trails of each arrangement are alike
pub IsChoice-agrees : {B : Type 0} (R S : List B → Trail B → Type 0) → ((p : List B) (t u : Trail B) → R p t → S p u → Alike t u) → (members : List B) (x y : Choice B) → IsChoice R members x → IsChoice S members y → ChoicesAgree x y
IsChoice-agrees R S alike members x y k l = (
  same_tests x.tie y.tie (λ e. (choice_follows R S alike members x y k l e).no_tie) (λ e. (choice_follows S R (λ p t u s r. Alike-sym u t (alike p u t r s)) members y x l k e).no_tie),
  λ e. let f = choice_follows R S alike members x y k l e in (f.path_is, f.issuer_is),
)

-- ---- the groups of a call

module _ {B : Type 0} (v : Nodes B) (c : List B) (calls others : Calls B) (agree : CallsAgree calls others) where
  abbrev GroupsAgree : List (Group B) → Type 0
  GroupsAgree gs = (text : List ℕ) (i : List B) (o p : Outcome B) → InGroups v calls c text i gs o → InGroups v others c text i gs p → IsAgreed o p

  groups_step : (text : List ℕ) (i : List B) (g : Group B) (gs : List (Group B)) (o p : Outcome B) → GroupsAgree gs → InGroups v calls c text i (g ∷ gs) o → InGroups v others c text i (g ∷ gs) p → IsAgreed o p
  groups_step text i g gs o p later d e = go d.choice.tie refl
    where
      same : ChoicesAgree d.choice e.choice
      same = IsChoice-agrees (Evaluates v calls c i) (Evaluates v others c i) (λ a t u. Evaluates-alike v calls others agree c i a t u) g.members d.choice e.choice d.is_choice e.is_choice

      tie_left : o.tie ≡ (d.choice.tie || d.rest.tie)
      tie_left = ap (λ (z : Outcome B). z.tie) d.is

      tie_right : p.tie ≡ (e.choice.tie || e.rest.tie)
      tie_right = ap (λ (z : Outcome B). z.tie) e.is

      go : (b : Bool) → d.choice.tie ≡ b → IsAgreed o p
      go true f =
          let left : o.tie ≡ true = tie_left ∙ ap (λ (b : Bool). b || d.rest.tie) f in
          let right : p.tie ≡ true = tie_right ∙ ap (λ (b : Bool). b || e.rest.tie) (sym same.0 ∙ f) in
          (left ∙ sym right, λ h. absurd (true≢false (sym left ∙ h)))
      go false f =
          let equal = same.1 f in
          let hashed : InGroups v others c (text ++ (g.hash ++ d.choice.path)) e.choice.issuer gs e.rest = subst (λ z. InGroups v others c (text ++ (g.hash ++ z)) e.choice.issuer gs e.rest) (sym equal.0) e.goes_on in
          let moved : InGroups v others c (text ++ (g.hash ++ d.choice.path)) d.choice.issuer gs e.rest = subst (λ j. InGroups v others c (text ++ (g.hash ++ d.choice.path)) j gs e.rest) (sym equal.1) hashed in
          let rest : IsAgreed d.rest e.rest = later (text ++ (g.hash ++ d.choice.path)) d.choice.issuer d.rest e.rest d.goes_on moved in
          let left : o.tie ≡ d.rest.tie = tie_left ∙ ap (λ (b : Bool). b || d.rest.tie) f in
          let right : p.tie ≡ e.rest.tie = tie_right ∙ ap (λ (b : Bool). b || e.rest.tie) (sym same.0 ∙ f) in (
            left ∙ rest.0 ∙ sym right,
            λ h. let r = rest.1 (sym left ∙ h) in
                (ap (λ (z : Outcome B). z.hash) d.is ∙ r.0 ∙ sym (ap (λ (z : Outcome B). z.hash) e.is), ap (λ (z : Outcome B). z.issuer) d.is ∙ r.1 ∙ sym (ap (λ (z : Outcome B). z.issuer) e.is)),
          )

  pub InGroups-agrees : (gs : List (Group B)) (text : List ℕ) (i : List B) (o p : Outcome B) → InGroups v calls c text i gs o → InGroups v others c text i gs p → IsAgreed o p
  InGroups-agrees [] text i o p d e =
      let same : o ≡ p = d ∙ sym e in
      (ap (λ (z : Outcome B). z.tie) same, λ f. (ap (λ (z : Outcome B). z.hash) same, ap (λ (z : Outcome B). z.issuer) same))
  InGroups-agrees (g ∷ gs) text i o p d e = groups_step text i g gs o p (InGroups-agrees gs) d e

  pub IsCall-agrees : CallsAgree (IsCall v c calls) (IsCall v c others)
  IsCall-agrees n i o p d e = InGroups-agrees (related_groups v c i n) [] i o p d.groups e.groups

-- ---- n-degree calls

-- outcomes for one node and issuer agree, however many calls each may have open at once
pub IsNDegreeWithin-agrees : {B : Type 0} (v : Nodes B) (c : List B) (k l : ℕ) → CallsAgree (IsNDegreeWithin v c k) (IsNDegreeWithin v c l)
IsNDegreeWithin-agrees v c zero l = λ n i o p d e. absurd d
IsNDegreeWithin-agrees v c (suc k) zero = λ n i o p d e. absurd e
IsNDegreeWithin-agrees v c (suc k) (suc l) = IsCall-agrees v c (IsNDegreeWithin v c k) (IsNDegreeWithin v c l) (IsNDegreeWithin-agrees v c k l)

-- two outcomes that an n-degree call may give for one node and issuer agree
pub IsNDegree-agrees : {B : Type 0} {v : Nodes B} {c : List B} {n : B} {i : List B} {o p : Outcome B} → IsNDegree v c n i o → IsNDegree v c n i p → IsAgreed o p
IsNDegree-agrees {v = v} {c = c} {n = n} {i = i} {o = o} {p = p} d e = IsNDegreeWithin-agrees v c d.within e.within n i o p d.call e.call

-- ---- and what stands within them

module _ {B : Type 0} (v : Nodes B) (c : List B) where
  pub calls-agree : CallsAgree (IsNDegree v c) (IsNDegree v c)
  calls-agree n i o p d e = IsNDegree-agrees d e

  pub trails-alike : (i p : List B) (t u : Trail B) → Evaluates v (IsNDegree v c) c i p t → Evaluates v (IsNDegree v c) c i p u → Alike t u
  trails-alike i p t u d e = Evaluates-alike v (IsNDegree v c) (IsNDegree v c) calls-agree c i p t u d e

  pub choices-agree : (i members : List B) (x y : Choice B) → IsChoice (Evaluates v (IsNDegree v c) c i) members x → IsChoice (Evaluates v (IsNDegree v c) c i) members y → ChoicesAgree x y
  choices-agree i members x y d e = IsChoice-agrees (Evaluates v (IsNDegree v c) c i) (Evaluates v (IsNDegree v c) c i) (trails-alike i) members x y d e

  pub groups-agree : (text : List ℕ) (i : List B) (gs : List (Group B)) (o p : Outcome B) → InGroups v (IsNDegree v c) c text i gs o → InGroups v (IsNDegree v c) c text i gs p → IsAgreed o p
  groups-agree text i gs o p d e = InGroups-agrees v c (IsNDegree v c) (IsNDegree v c) calls-agree gs text i o p d e

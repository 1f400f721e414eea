-- The canonical issuer of a run names each node of the dataset once, and nothing else.
use Rattle.std.proofs.Common.{◌≡◌, ℕ, zero, suc, List, [], ◌∷◌, ◌++◌, map, Contains, Bool, true, false, not, refl, sym, ap, ◌∙◌, subst, ⊎_elim}
use Rattle.std.specs.Prelude.{IsPermutation}
use Rattle.std.specs.List.{AllZip}
use Rattle.std.specs.Cmp.Lexicographic.{nat_list_cmp_total}
use Rattle.std.proofs.lemmas.Bool.{false≢true, cond_both, or_left}
use Rattle.std.proofs.lemmas.List.Elements.{Contains-append_cases}
use Rattle.std.proofs.lemmas.List.Sorted.{IsPermutation-sym, Contains-permutation}
use Rattle.base_types.specs.Order.{sorted_set}
use Rattle.base_types.specs.Sets.{AllDiffer}
use Rattle.base_types.proofs.Lists.{Contains-here, Contains-there, Contains-cons_cases, Contains-nil, Contains-map, Contains-from_map, AllDiffer-strictly_sorted}
use Rattle.base_types.proofs.Rising.{rising-rises}
use Rattle.nquads.proofs.ReadingElements.{AllDiffer-nil, AllDiffer-cons, AllDiffer-head, AllDiffer-tail}
use Rattle.rdfc_ndegree.specs.Nodes.{Nodes}
use Rattle.rdfc_ndegree.specs.Internal.Nodes.{AreNodes}
use Rattle.rdfc_ndegree.specs.Issuers.{has, issue}
use Rattle.rdfc_ndegree.specs.Groups.{NodeHash, Group, group_of, related_groups}
use Rattle.rdfc_ndegree.specs.NDegree.{Outcome, Trail, Choice, Calls, issue_temporary, issuer_copy, first_path, recursion_list, path_part, Nested, Evaluates, IsChoice, InGroups, IsNDegreeWithin, IsNDegree}
use Rattle.rdfc_ndegree.specs.Run.{with_first_hash, first_groups, if_alone, alone, lacking, take_issuer, take_issuers, RunOutcome, Rounds, IsRun}
use Rattle.rdfc_ndegree.proofs.Lack.{Grows, AreListed}
use Rattle.rdfc_ndegree.proofs.Membership.{Contains-filter, AllDiffer-append, AllZip-from_right, AllZip-from_left, same-itself, Contains-from_has, has-from_contains, has-issue, Contains-issue_cases, group_of-member, member-group_of, grouped-has}
use Rattle.rdfc_ndegree.proofs.Grow.{Grows-refl, Grows-trans, Grows-has, Grows-issue, IsNDegree-grows}
use Rattle.rdfc_ndegree.proofs.Exists.{newly_named-member, groups-listed, first_groups-listed, lacking-listed}

-- ---- issuers name nodes of the dataset only

abbrev CallsList : {B : Type 0} → Nodes B → Calls B → Type 0
CallsList {B} v calls = (n : B) (i : List B) (o : Outcome B) → Contains v.all n → AreListed v i → calls n i o → AreListed v o.issuer

module _ {B : Type 0} {v : Nodes B} (laws : AreNodes v) where
  pub AreListed-issue : (i : List B) (n : B) → Contains v.all n → AreListed v i → AreListed v (issue v i n)
  AreListed-issue i n listed h = λ x k. ⊎_elim (h x) (λ e. subst (Contains v.all) e listed) (Contains-issue_cases v i n x k)

  pub AreListed-named_all : (c i p : List B) → AreListed v p → AreListed v i → AreListed v (issuer_copy v c i p)
  AreListed-named_all c i [] l h = h
  AreListed-named_all c i (m ∷ ms) l h =
      AreListed-named_all c (issue_temporary v c i m) ms (λ x k. l x (Contains-there m ms x k))
      (cond_both (has v c m) i (issue v i m) (AreListed v) (λ _. h) (λ _. AreListed-issue i m (l m (Contains-here m ms)) h))

  nested_lists : (calls : Calls B) → CallsList v calls → (i : List B) (path : List ℕ) (ms : List B) (t : Trail B) → AreListed v ms → AreListed v i → Nested v calls i path ms t → AreListed v t.issuer
  nested_lists calls g i path [] t l h d = subst (λ (u : Trail B). AreListed v u.issuer) (sym d) h
  nested_lists calls g i path (m ∷ ms) t l h d =
      subst (λ (u : Trail B). AreListed v u.issuer) (sym d.is)
      (nested_lists calls g d.outcome.issuer (path ++ path_part v i m d.outcome.hash) ms d.rest (λ x k. l x (Contains-there m ms x k)) (g m i d.outcome (l m (Contains-here m ms)) h d.called) d.goes_on)

  choice_lists : (calls : Calls B) → CallsList v calls → (c i members : List B) (x : Choice B) → AreListed v members → AreListed v i → IsChoice (Evaluates v calls c i) members x → AreListed v x.issuer
  choice_lists calls g c i members x l h d =
      let found = AllZip-from_right (Evaluates v calls c i) d.arrangements d.trails d.best d.evaluated d.among in
      let p : List B = found.0 in
      let among : AreListed v p = λ m k. l m (Contains-permutation p members m (IsPermutation-sym members p ((d.all.exact p).0 found.1)) k) in
      subst (λ (u : Choice B). AreListed v u.issuer) (sym d.is)
      (nested_lists calls g (issuer_copy v c i p) (first_path v c i p) (recursion_list v c i p) d.best (λ m k. among m (newly_named-member v c i p m k)) (AreListed-named_all c i p among h) found.2)

  groups_list : (calls : Calls B) → CallsList v calls → (c : List B) (text : List ℕ) (i : List B) (gs : List (Group B)) (o : Outcome B) → ((g : Group B) → Contains gs g → AreListed v g.members) → AreListed v i → InGroups v calls c text i gs o → AreListed v o.issuer
  groups_list calls g c text i [] o l h d = subst (λ (u : Outcome B). AreListed v u.issuer) (sym d) h
  groups_list calls g c text i (f ∷ fs) o l h d =
      subst (λ (u : Outcome B). AreListed v u.issuer) (sym d.is)
      (groups_list calls g c (text ++ (f.hash ++ d.choice.path)) d.choice.issuer fs d.rest (λ e k. l e (Contains-there f fs e k)) (choice_lists calls g c i f.members d.choice (l f (Contains-here f fs)) h d.is_choice) d.goes_on)

  within_lists : (c : List B) (k : ℕ) → CallsList v (IsNDegreeWithin v c k)
  within_lists c zero = λ n i o listed h d. absurd d
  within_lists c (suc k) = λ n i o listed h d.
      groups_list (IsNDegreeWithin v c k) (within_lists c k) c [] i (related_groups v c i n) o (λ g e m f. groups-listed v laws c i n g m listed e f) h d.groups

  pub IsNDegree-lists : (c : List B) (n : B) (i : List B) (o : Outcome B) → Contains v.all n → AreListed v i → IsNDegree v c n i o → AreListed v o.issuer
  IsNDegree-lists c n i o listed h d = within_lists c d.within n i o listed h d.call

-- ---- the canonical issuer after the results of a group

module _ {B : Type 0} {v : Nodes B} (laws : AreNodes v) where
  pub AllDiffer-issue : (i : List B) (n : B) → AllDiffer i → AllDiffer (issue v i n)
  AllDiffer-issue i n d = cond_both (has v i n) i (i ++ n ∷ []) AllDiffer (λ _. d) (λ e. AllDiffer-append i (n ∷ []) d (AllDiffer-cons n [] (λ m. Contains-nil n m) AllDiffer-nil) (apart e))
    where
      apart : has v i n ≡ false → (x : B) → Contains i x → Contains (n ∷ []) x → ⊥
      apart e x k l =
          ⊎_elim (λ s. false≢true (sym e ∙ has-from_contains v laws i n (subst (Contains i) (sym s) k))) (λ m. Contains-nil x m) (Contains-cons_cases n [] x l)

  take_issuer-differ : (c ns : List B) → AllDiffer c → AllDiffer (take_issuer v c ns)
  take_issuer-differ c [] d = d
  take_issuer-differ c (n ∷ ns) d = take_issuer-differ (issue v c n) ns (AllDiffer-issue c n d)

  pub take_issuers-differ : (c : List B) (os : List (Outcome B)) → AllDiffer c → AllDiffer (take_issuers v c os)
  take_issuers-differ c [] d = d
  take_issuers-differ c (o ∷ os) d = take_issuers-differ (take_issuer v c o.issuer) os (take_issuer-differ c o.issuer d)

  take_issuer-grows : (c ns : List B) → Grows c (take_issuer v c ns)
  take_issuer-grows c [] = Grows-refl c
  take_issuer-grows c (n ∷ ns) = Grows-trans c (issue v c n) (take_issuer v (issue v c n) ns) (Grows-issue v c n) (take_issuer-grows (issue v c n) ns)

  pub take_issuers-grow : (c : List B) (os : List (Outcome B)) → Grows c (take_issuers v c os)
  take_issuers-grow c [] = Grows-refl c
  take_issuers-grow c (o ∷ os) = Grows-trans c (take_issuer v c o.issuer) (take_issuers v (take_issuer v c o.issuer) os) (take_issuer-grows c o.issuer) (take_issuers-grow (take_issuer v c o.issuer) os)

  take_issuer-has : (c ns : List B) (x : B) → Contains ns x → has v (take_issuer v c ns) x ≡ true
  take_issuer-has c [] x k = absurd (Contains-nil x k)
  take_issuer-has c (n ∷ ns) x k =
      ⊎_elim (λ e. Grows-has v (issue v c n) (take_issuer v (issue v c n) ns) (take_issuer-grows (issue v c n) ns) x (subst (λ z. has v (issue v c n) z ≡ true) e (has-issue v laws c n)))
      (λ l. take_issuer-has (issue v c n) ns x l) (Contains-cons_cases n ns x k)

  pub take_issuers-has : (c : List B) (os : List (Outcome B)) (o : Outcome B) (x : B) → Contains os o → has v o.issuer x ≡ true → has v (take_issuers v c os) x ≡ true
  take_issuers-has c [] o x k e = absurd (Contains-nil o k)
  take_issuers-has c (p ∷ ps) o x k e =
      ⊎_elim
      (λ s. Grows-has v (take_issuer v c p.issuer) (take_issuers v (take_issuer v c p.issuer) ps) (take_issuers-grow (take_issuer v c p.issuer) ps) x (take_issuer-has c p.issuer x (Contains-from_has v laws p.issuer x (subst (λ (q : Outcome B). has v q.issuer x ≡ true) (sym s) e))))
      (λ l. take_issuers-has (take_issuer v c p.issuer) ps o x l e) (Contains-cons_cases p ps o k)

  take_issuer-listed : (c ns : List B) → AreListed v ns → AreListed v c → AreListed v (take_issuer v c ns)
  take_issuer-listed c [] l h = h
  take_issuer-listed c (n ∷ ns) l h = take_issuer-listed (issue v c n) ns (λ m k. l m (Contains-there n ns m k)) (AreListed-issue laws c n (l n (Contains-here n ns)) h)

  pub take_issuers-listed : (c : List B) (os : List (Outcome B)) → ((o : Outcome B) → Contains os o → AreListed v o.issuer) → AreListed v c → AreListed v (take_issuers v c os)
  take_issuers-listed c [] l h = h
  take_issuers-listed c (o ∷ os) l h = take_issuers-listed (take_issuer v c o.issuer) os (λ p k. l p (Contains-there o os p k)) (take_issuer-listed c o.issuer (l o (Contains-here o os)) h)

-- ---- the rounds

module _ {B : Type 0} {v : Nodes B} (laws : AreNodes v) where
  pub Rounds-differ : (c : List B) (gs : List (Group B)) (r : RunOutcome B) → Rounds v c gs r → AllDiffer c → AllDiffer r.issuer
  Rounds-differ c [] r d a = subst (λ (s : RunOutcome B). AllDiffer s.issuer) (sym d) a
  Rounds-differ c (g ∷ gs) r d a =
      subst (λ (s : RunOutcome B). AllDiffer s.issuer) (sym d.is) (Rounds-differ (take_issuers v c d.sorted) gs d.rest d.goes_on (take_issuers-differ laws c d.sorted a))

  pub Rounds-grow : (c : List B) (gs : List (Group B)) (r : RunOutcome B) → Rounds v c gs r → Grows c r.issuer
  Rounds-grow c [] r d = subst (λ (s : RunOutcome B). Grows c s.issuer) (sym d) (Grows-refl c)
  Rounds-grow c (g ∷ gs) r d =
      let later = Rounds-grow (take_issuers v c d.sorted) gs d.rest d.goes_on in
      subst (λ (s : RunOutcome B). Grows c s.issuer) (sym d.is) (Grows-trans c (take_issuers v c d.sorted) d.rest.issuer (take_issuers-grow laws c d.sorted) later)

  round_names : (c members : List B) (outcomes sorted : List (Outcome B)) (n : B) → AllZip (λ m o. IsNDegree v c m (m ∷ []) o) (lacking v c members) outcomes → IsPermutation outcomes sorted → Contains members n → has v (take_issuers v c sorted) n ≡ true
  round_names c members outcomes sorted n z p k = go (has v c n) refl
    where
      go : (b : Bool) → has v c n ≡ b → has v (take_issuers v c sorted) n ≡ true
      go true e = Grows-has v c (take_issuers v c sorted) (take_issuers-grow laws c sorted) n e
      go false e =
          let found = AllZip-from_left (λ m o. IsNDegree v c m (m ∷ []) o) (lacking v c members) outcomes n z (Contains-filter (λ m. not (has v c m)) members n k (ap not e)) in
          let issue_temporary : has v found.0.issuer n ≡ true = Grows-has v (n ∷ []) found.0.issuer (IsNDegree-grows v c n (n ∷ []) found.0 found.2) n (or_left (v.same n n) false (same-itself v laws n)) in
          take_issuers-has laws c sorted found.0 n (Contains-permutation outcomes sorted found.0 p found.1) issue_temporary

  pub Rounds-name : (c : List B) (gs : List (Group B)) (r : RunOutcome B) (g : Group B) (n : B) → Rounds v c gs r → Contains gs g → Contains g.members n → has v r.issuer n ≡ true
  Rounds-name c [] r g n d k l = absurd (Contains-nil g k)
  Rounds-name c (f ∷ fs) r g n d k l =
      subst (λ (s : RunOutcome B). has v s.issuer n ≡ true) (sym d.is)
      (⊎_elim
      (λ e. Grows-has v (take_issuers v c d.sorted) d.rest.issuer (Rounds-grow (take_issuers v c d.sorted) fs d.rest d.goes_on) n (round_names c f.members d.outcomes d.sorted n d.hashed d.order (subst (λ (h : Group B). Contains h.members n) (sym e) l)))
      (λ m. Rounds-name (take_issuers v c d.sorted) fs d.rest g n d.goes_on m l)
      (Contains-cons_cases f fs g k))

  pub Rounds-list : (c : List B) (gs : List (Group B)) (r : RunOutcome B) → ((g : Group B) → Contains gs g → AreListed v g.members) → Rounds v c gs r → AreListed v c → AreListed v r.issuer
  Rounds-list c [] r l d h = subst (λ (s : RunOutcome B). AreListed v s.issuer) (sym d) h
  Rounds-list c (g ∷ gs) r l d h =
      let members : AreListed v (lacking v c g.members) = lacking-listed laws c g.members (l g (Contains-here g gs)) in
      let each : (o : Outcome B) → Contains d.sorted o → AreListed v o.issuer = λ o k.
      let found = AllZip-from_right (λ m o. IsNDegree v c m (m ∷ []) o) (lacking v c g.members) d.outcomes o d.hashed (Contains-permutation d.sorted d.outcomes o (IsPermutation-sym d.outcomes d.sorted d.order) k) in
      IsNDegree-lists laws c found.0 (found.0 ∷ []) o (members found.0 found.1)
      (λ m e. subst (Contains v.all) (⊎_elim (λ s. s) (λ none. absurd (Contains-nil m none)) (Contains-cons_cases found.0 [] m e)) (members found.0 found.1)) found.2 in
      subst (λ (s : RunOutcome B). AreListed v s.issuer) (sym d.is)
      (Rounds-list (take_issuers v c d.sorted) gs d.rest (λ f k. l f (Contains-there g gs f k)) d.goes_on (take_issuers-listed laws c d.sorted each h))

-- ---- the nodes with a hash of their own

if_alone-member : {B : Type 0} (ns : List B) (x : B) → Contains (if_alone ns) x → Contains ns x
if_alone-member [] x k = k
if_alone-member (n ∷ []) x k = k
if_alone-member (n ∷ m ∷ ns) x k = absurd (Contains-nil x k)

if_alone-differ : {B : Type 0} (ns : List B) → AllDiffer (if_alone ns)
if_alone-differ [] = AllDiffer-nil
if_alone-differ (n ∷ []) = AllDiffer-cons n [] (λ m. Contains-nil n m) AllDiffer-nil
if_alone-differ (n ∷ m ∷ ns) = AllDiffer-nil

-- a node that is alone in its group is a member of one of the groups
pub alone-member : {B : Type 0} (gs : List (Group B)) (x : B) → Contains (alone gs) x → (g : Group B) × Contains gs g × Contains g.members x
alone-member [] x k = absurd (Contains-nil x k)
alone-member (g ∷ gs) x k =
    ⊎_elim (λ l. (g, Contains-here g gs, if_alone-member g.members x l))
    (λ l. let found = alone-member gs x l in (found.0, Contains-there g gs found.0 found.1, found.2))
    (Contains-append_cases (if_alone g.members) (alone gs) x k)

module _ {B : Type 0} (v : Nodes B) where
  first_is : (hash : List ℕ) (x : B) → Contains (group_of (map (with_first_hash v) v.all) hash).members x → v.first x ≡ hash
  first_is hash x k =
      let h = group_of-member (map (with_first_hash v) v.all) hash x k in
      let found = Contains-from_map (with_first_hash v) v.all h.of h.within in
      let node : found.0 ≡ x = ap (λ (z : NodeHash B). z.node) found.2 ∙ h.node_is in
      let first : v.first found.0 ≡ hash = ap (λ (z : NodeHash B). z.hash) found.2 ∙ h.hash_is in
      subst (λ z. v.first z ≡ hash) node first

  alone_differ : (hashes : List (List ℕ)) → AllDiffer hashes → AllDiffer (alone (map (group_of (map (with_first_hash v) v.all)) hashes))
  alone_differ [] d = AllDiffer-nil
  alone_differ (h ∷ hs) d =
      AllDiffer-append (if_alone (group_of (map (with_first_hash v) v.all) h).members) (alone (map (group_of (map (with_first_hash v) v.all)) hs))
      (if_alone-differ (group_of (map (with_first_hash v) v.all) h).members)
      (alone_differ hs (AllDiffer-tail h hs d))
      (λ x k l.
      let found = alone-member (map (group_of (map (with_first_hash v) v.all)) hs) x l in
      let later = Contains-from_map (group_of (map (with_first_hash v) v.all)) hs found.0 found.1 in
      let one : v.first x ≡ h = first_is h x (if_alone-member (group_of (map (with_first_hash v) v.all) h).members x k) in
      let other : v.first x ≡ later.0 = first_is later.0 x (subst (λ (g : Group B). Contains g.members x) (sym later.2) found.2) in
      AllDiffer-head h hs d (subst (Contains hs) (sym other ∙ one) later.1))

  pub alone-differ : AllDiffer (alone (first_groups v))
  alone-differ =
      alone_differ (sorted_set (map (λ (h : NodeHash B). h.hash) (map (with_first_hash v) v.all)))
      (AllDiffer-strictly_sorted nat_list_cmp_total (sorted_set (map (λ (h : NodeHash B). h.hash) (map (with_first_hash v) v.all))) (rising-rises (map (λ (h : NodeHash B). h.hash) (map (with_first_hash v) v.all))))

  pub alone-listed : AreListed v (alone (first_groups v))
  alone-listed x k = let found = alone-member (first_groups v) x k in first_groups-listed v found.0 found.1 x found.2

-- ---- the canonical issuer of a run

module _ {B : Type 0} {v : Nodes B} (laws : AreNodes v) where
  pub issuer-differs : (r : RunOutcome B) → IsRun v r → AllDiffer r.issuer
  issuer-differs r d = Rounds-differ laws (alone (first_groups v)) (first_groups v) r d.rounds (alone-differ v)

  pub issuer-covers : (r : RunOutcome B) (n : B) → IsRun v r → Contains v.all n → Contains r.issuer n
  issuer-covers r n d k =
      let hs : List (NodeHash B) = map (with_first_hash v) v.all in
      let inside : Contains (map (with_first_hash v) v.all) (with_first_hash v n) = Contains-map (with_first_hash v) v.all n k in
      Contains-from_has v laws r.issuer n
      (Rounds-name laws (alone (first_groups v)) (first_groups v) r (group_of (map (with_first_hash v) v.all) (v.first n)) n d.rounds
      (grouped-has (map (with_first_hash v) v.all) (with_first_hash v n) inside) (member-group_of (map (with_first_hash v) v.all) (with_first_hash v n) inside))

  pub issuer-only : (r : RunOutcome B) (n : B) → IsRun v r → Contains r.issuer n → Contains v.all n
  issuer-only r n d k = Rounds-list laws (alone (first_groups v)) (first_groups v) r (first_groups-listed v) d.rounds (alone-listed v) n k

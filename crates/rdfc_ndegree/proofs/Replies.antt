-- How far a task that waited has come when the reply is there, and what it asks or gives then.
use Rattle.std.proofs.Common.{◌≡◌, ℕ, ◌+◌, ◌<◌, ◌≤◌, List, [], ◌∷◌, ◌++◌, All, Bool, false, ◌||◌, nat_lt, map, length, take, drop, get_or, refl, sym, ap, ◌∙◌, subst, arith, Option, None, take_all}
use Rattle.std.specs.Prelude.{is_some}
use Rattle.std.proofs.lemmas.List.{take-append-le, take-append-drop}
use Rattle.base_types.proofs.Lists.{Contains-there, drop-next}
use Rattle.digest_mac.specs.declared.hash.Hash.{Hash}
use Rattle.rdfc_ndegree.specs.NDegree.{path_part, first_path, issuer_copy, recursion_list, AreArrangements}
use Rattle.rdfc_ndegree.specs.Groups.{related_groups}
use Rattle.rdfc_ndegree.specs.NumberIssuers.{number_in}
use Rattle.rdfc_ndegree.specs.Table.{table_nodes, group_in}
use Rattle.rdfc_ndegree.specs.Internal.Nodes.{AreNodes, AreListed}
use Rattle.rdfc_ndegree.specs.Answers.{answer, AnswersCall}
use Rattle.rdfc_ndegree.specs.Internal.Evaluations.{TrailAnswer, trail_answer, AnswersTrail, choice_answer, AnswersChoice, first_tie, IsBestOf}
use Rattle.rdfc_ndegree.specs.Internal.Progress.{spending_of, Walking, BestSoFar, Choosing, DataToHash, data_to_hash, Grouping}
use Rattle.rdfc_ndegree.specs.Internal.Frames.{Setting, setting, Task, call_task, choice_task, trail_task, Answers, IsTaskFault, members_left, trail_so_far, best_in, data_in, groups_left, group_with, TrailStands, ChoiceStands, CallStands, AwaitsCall, AwaitsTrail, AwaitsChoice, Waits}
use Rattle.rdfc_ndegree.specs.declared.choice.Best.{Best}
use Rattle.rdfc_ndegree.specs.declared.choice.Choice.{Choice}
use Rattle.rdfc_ndegree.specs.declared.choice.Evaluation.{Evaluation}
use Rattle.rdfc_ndegree.specs.declared.moves.CallReply.{CallReply}
use Rattle.rdfc_ndegree.specs.declared.related.NodeGroup.{NodeGroup}
use Rattle.rdfc_ndegree.specs.Table.{NodeRow}
use Rattle.rdfc_ndegree.specs.declared.limits.Limits.{Limits}
use Rattle.rdfc_ndegree.specs.declared.limits.CanonFault.{CanonFault}
use Rattle.rdfc_ndegree.specs.declared.limits.CanonFault.TheVariants as fault
use Rattle.rdfc_ndegree.specs.declared.moves.CallState.{CallState}
use Rattle.rdfc_ndegree.specs.declared.moves.ChoiceState.{ChoiceState}
use Rattle.rdfc_ndegree.specs.declared.moves.TrailState.{TrailState}
use Rattle.rdfc_ndegree.specs.declared.moves.Waiting.TheVariants as waiting
use Rattle.rdfc_ndegree.specs.declared.moves.Reply.TheVariants as reply
use Rattle.rdfc_ndegree.proofs.Bests.{Takes}
use Rattle.rdfc_ndegree.proofs.Lack.{Grows}
use Rattle.rdfc_ndegree.proofs.Grow.{Evaluates-grows}
use Rattle.rdfc_ndegree.proofs.Rows.{groups-rows}
use Rattle.rdfc_ndegree.proofs.Exists.{newly_named-member}
use Rattle.rdfc_ndegree.proofs.ProgressLaws.{walking-start, walking-turn, walking-end, choosing-start, choosing-turn, choosing-end, choosing-full, grouping-start, grouping-turn, grouping-end}

-- an arrangement has come so far, with this for the members that are left
pub record TrailGoesOn (s : Setting) (t : TrailState) (a : TrailAnswer ℕ) (whole : Task) (spent : ℕ) : Type 0 where
  pub issuer : List ℕ
  pub arrangement : List ℕ
  pub before : ℕ
  pub whole_is : whole ≡ trail_task issuer arrangement before
  pub stands : TrailStands s issuer arrangement a (members_left t) (spending_of before spent)

-- a choice, begun with the issuer i, has come so far, with this best
pub record ChoiceGoesOn (s : Setting) (t : ChoiceState) (i : List ℕ) (b : Best) (whole : Task) (spent : ℕ) : Type 0 where
  pub members : List ℕ
  pub before : ℕ
  pub begun_is : t.begun ≡ length i
  pub whole_is : whole ≡ choice_task i members before
  pub stands : ChoiceStands s i members (best_in i b) t.left (spending_of before spent)

-- a call has come so far, with this data for the groups that are left
pub record CallGoesOn (s : Setting) (t : CallState) (d : DataToHash ℕ) (whole : Task) (spent : ℕ) : Type 0 where
  pub node : ℕ
  pub issuer : List ℕ
  pub before : ℕ
  pub whole_is : whole ≡ call_task node issuer before
  pub stands : CallStands s node issuer d (groups_left t) (spending_of before spent)

-- an issuer that has grown, cut back to what it was, and put together again
grown-back : (i j : List ℕ) (n : ℕ) → Grows i j → n ≡ length i → (take n j ≡ i) × (i ++ drop n j ≡ j)
grown-back i j n g is =
    let front : take n j ≡ i = ap (take n) g.is ∙ take-append-le n i g.more (omega arith) ∙ take_all n i (omega arith) in
    (front, ap (λ k. k ++ drop n j) (sym front) ∙ take-append-drop n j)

module _ (s : Setting) (whole part : Task) (now : List ℕ) (spent : ℕ) where
  -- after the nested call of a member, with the part of the path that is made of its number
  pub trail-replied : (t : TrailState) (kept : ℕ) (p : CallReply) (path : List ℕ) → Waits s (waiting.Trail t kept) whole part → Answers s part (reply.Call p) now spent
      → ((i : List ℕ) (m : ℕ) → kept ≡ number_in i m → path ≡ t.path.items ++ path_part s.nodes i m p.hash)
      → TrailGoesOn s t (trail_answer path now (first_tie t.tie p.tie (length t.path.items))) whole spent
  trail-replied t kept p path h k pushed =
      let a : AnswersCall s.nodes s.canonical h.member h.current (answer p.hash now p.tie) (spending_of h.spent spent) = subst (λ z. Answers s z (reply.Call p) now spent) h.part_is k in
      record {
        issuer = h.issuer;
        arrangement = h.arrangement;
        before = h.before;
        whole_is = h.whole_is;
        stands = record {
          walking = rw (pushed h.current h.member h.kept_is) (walking-turn s.nodes s.canonical h.stands.walking a);
          listed = λ m l. h.stands.listed m (Contains-there h.member (members_left t) m l);
        };
      }

  -- after an arrangement, which the best has taken, with the issuer cut back to what it was
  pub choice-replied : (t : ChoiceState) (e : Evaluation) (i : List ℕ) (b : Best) → i ≡ take t.begun now → Waits s (waiting.Choice t) whole part → Answers s part (reply.Trail e) now spent
      → ((j : List ℕ) → Takes t.best.path (j ++ t.best.named) t.best.sharing t.best.tie e.path (j ++ drop t.begun now) e.tie b.path (j ++ b.named) b.sharing b.tie) → ChoiceGoesOn s t i b whole spent
  choice-replied t e i b cut h k takes =
      let a : AnswersTrail s.nodes s.canonical h.issuer h.arrangement (trail_answer e.path now e.tie) (spending_of (h.spent + 1) spent) = subst (λ z. Answers s z (reply.Trail e) now spent) h.part_is k in
      let grown : Grows h.issuer now = subst (Grows h.issuer) (sym a.issuer_is) (Evaluates-grows s.nodes s.canonical h.issuer h.arrangement a.trail a.evaluated) in
      let back = grown-back h.issuer now t.begun grown h.begun_is in
      let same : h.issuer ≡ i = sym back.0 ∙ sym cut in
      let one : Takes t.best.path (h.issuer ++ t.best.named) t.best.sharing t.best.tie e.path now e.tie b.path (h.issuer ++ b.named) b.sharing b.tie = rw back.1 at (takes h.issuer) in
      subst (λ j. ChoiceGoesOn s t j b whole spent) same
      (record {
        members = h.members;
        before = h.before;
        begun_is = h.begun_is;
        whole_is = h.whole_is;
        stands = record { choosing = choosing-turn s.nodes s.canonical b.path (h.issuer ++ b.named) b.sharing b.tie h.stands.choosing a one; listed = h.stands.listed };
      })

  -- after the choice in the group of a hash
  pub call-replied : (t : CallState) (hash : List ℕ) (x : Choice) → Waits s (waiting.Call t hash) whole part → Answers s part (reply.Choice x) now spent
      → CallGoesOn s t (data_to_hash (t.text.items ++ (hash ++ x.path)) now (t.tie || x.tie)) whole spent
  call-replied t hash x h k =
      let a : AnswersChoice s.nodes s.canonical h.current h.members (choice_answer x.path now x.tie) (spending_of h.spent spent) = subst (λ z. Answers s z (reply.Choice x) now spent) h.part_is k in
      record {
        node = h.node;
        issuer = h.issuer;
        before = h.before;
        whole_is = h.whole_is;
        stands = record { grouping = grouping-turn s.nodes s.canonical h.stands.grouping a; listed = λ g l. h.stands.listed g (Contains-there (group_with hash h.members) (groups_left t) g l) };
      }

-- ---- beginnings

module _ (s : Setting) (spent : ℕ) where
  -- an arrangement whose members are named
  pub trail-stands : (i p path issuer : List ℕ) (tie : Option ℕ) (members : List ℕ) → AreListed s.nodes p → path ≡ first_path s.nodes s.canonical i p → issuer ≡ issuer_copy s.nodes s.canonical i p → tie ≡ None → members ≡ recursion_list s.nodes s.canonical i p
      → TrailStands s i p (trail_answer path issuer tie) members (spending_of spent spent)
  trail-stands i p path issuer tie members listed path_is issuer_is tie_is members_are = record {
    walking = rw (path_is, issuer_is, tie_is, members_are) (walking-start s.nodes s.canonical i p spent);
    listed = subst (AreListed s.nodes) (sym members_are) (λ m k. listed m (newly_named-member s.nodes s.canonical i p m k));
  }

  -- a choice with all arrangements left
  pub choice-stands : (i members : List ℕ) (ps : List (List ℕ)) (b : Best) → AreListed s.nodes members → AreArrangements members ps → ((j : List ℕ) → IsBestOf {B = ℕ} [] b.path (j ++ b.named) b.sharing b.tie)
      → ChoiceStands s i members (best_in i b) ps (spending_of spent spent)
  choice-stands i members ps b listed all best =
      record { choosing = choosing-start s.nodes s.canonical i members ps spent all (best i); listed = listed }

-- a call with all groups left
pub call-stands : (algorithm : Hash) (rows : List NodeRow) (c : List ℕ) (limits : Limits) (spent n : ℕ) (i text : List ℕ) (gs : List NodeGroup) → text ≡ [] → map group_in gs ≡ related_groups (table_nodes algorithm rows) c i n
    → All (λ (g : NodeGroup). All (λ m. m < length rows) g.members) gs → CallStands (setting algorithm rows c limits) n i (data_to_hash text i false) (map group_in gs) (spending_of spent spent)
call-stands algorithm rows c limits spent n i text gs empty groups all = record {
  grouping = rw (empty, groups) (grouping-start (table_nodes algorithm rows) c n i spent);
  listed = groups-rows algorithm rows gs all;
}

-- ---- what is asked or given next

module _ (s : Setting) (before spent : ℕ) where
  -- the end of an arrangement
  pub trail-ends : (i p path path' issuer : List ℕ) (tie : Option ℕ) (left : List ℕ) → path' ≡ path → left ≡ [] → TrailStands s i p (trail_answer path issuer tie) left (spending_of before spent)
      → AnswersTrail s.nodes s.canonical i p (trail_answer path' issuer tie) (spending_of before spent)
  trail-ends i p path path' issuer tie left same none h =
      let here : Walking s.nodes s.canonical i p (trail_answer path issuer tie) [] (spending_of before spent) =
      subst (λ ms. Walking s.nodes s.canonical i p (trail_answer path issuer tie) ms (spending_of before spent)) none h.walking in
      subst (λ x. AnswersTrail s.nodes s.canonical i p (trail_answer x issuer tie) (spending_of before spent)) (sym same) (walking-end s.nodes s.canonical here)

  -- the end of a choice
  pub choice-ends : (i members : List ℕ) (b : Best) (left : List (List ℕ)) (path issuer : List ℕ) (tie : Bool) → path ≡ b.path → issuer ≡ i ++ b.named → tie ≡ (nat_lt 1 b.sharing || is_some b.tie) → left ≡ []
      → ChoiceStands s i members (best_in i b) left (spending_of before spent) → AnswersChoice s.nodes s.canonical i members (choice_answer path issuer tie) (spending_of before spent)
  choice-ends i members b left path issuer tie path_is issuer_is tie_is none h =
      let here : Choosing s.nodes s.canonical i members [] (best_in i b) (spending_of before spent) =
      subst (λ ps. Choosing s.nodes s.canonical i members ps (best_in i b) (spending_of before spent)) none h.choosing in
      subst (λ x. AnswersChoice s.nodes s.canonical i members (choice_answer x issuer tie) (spending_of before spent)) (sym path_is)
      (subst (λ x. AnswersChoice s.nodes s.canonical i members (choice_answer b.path x tie) (spending_of before spent)) (sym issuer_is) (choosing-end s.nodes s.canonical here tie_is))

  -- where no more arrangements may be counted
  pub choice-full : AreNodes s.nodes → (i members : List ℕ) (b : BestSoFar ℕ) (p : List ℕ) (left rest : List (List ℕ)) → left ≡ p ∷ rest → ChoiceStands s i members b left (spending_of before spent) → s.limits.work ≤ spent
      → (e : CanonFault) → e ≡ fault.TooMuchWork s.limits.work → IsTaskFault s (choice_task i members before) e
  choice-full laws i members b p left rest is h full e cause =
      let here : Choosing s.nodes s.canonical i members (p ∷ rest) b (spending_of before spent) =
      subst (λ ps. Choosing s.nodes s.canonical i members ps b (spending_of before spent)) is h.choosing in
      subst (IsTaskFault s (choice_task i members before)) (sym cause) (refl, choosing-full laws s.canonical here h.listed s.limits.work full)

  -- the end of a call
  pub call-ends : (n : ℕ) (i hash text issuer : List ℕ) (tie : Bool) (left : List NodeGroup) → hash ≡ s.nodes.digest text → left ≡ [] → CallStands s n i (data_to_hash text issuer tie) (map group_in left) (spending_of before spent)
      → AnswersCall s.nodes s.canonical n i (answer hash issuer tie) (spending_of before spent)
  call-ends n i hash text issuer tie left digest none h =
      let here : Grouping s.nodes s.canonical n i (data_to_hash text issuer tie) [] (spending_of before spent) =
      subst (λ gs. Grouping s.nodes s.canonical n i (data_to_hash text issuer tie) (map group_in gs) (spending_of before spent)) none h.grouping in
      subst (λ x. AnswersCall s.nodes s.canonical n i (answer x issuer tie) (spending_of before spent)) (sym digest) (grouping-end s.nodes s.canonical here)

  -- the next member is called
  pub trail-asks : {t : TrailState} {member kept : ℕ} {i p now : List ℕ} → kept ≡ number_in now member → TrailStands s i p (trail_so_far t now) (member ∷ members_left t) (spending_of before spent)
      → AwaitsCall s t kept (trail_task i p before) (call_task member now spent)
  trail-asks {member = member} {i = i} {p = p} {now = now} number h =
      record { issuer = i; arrangement = p; current = now; member = member; before = before; spent = spent; kept_is = number; whole_is = refl; part_is = refl; stands = h }

  -- the next arrangement is evaluated, and has been counted
  pub choice-asks : {t : ChoiceState} {i members arrangement : List ℕ} {counted : ℕ} → t.begun ≡ length i → counted ≡ spent + 1 → ChoiceStands s i members (best_in i t.best) (arrangement ∷ t.left) (spending_of before spent)
      → AwaitsTrail s t (choice_task i members before) (trail_task i arrangement counted)
  choice-asks {i = i} {members = members} {arrangement = arrangement} begun one h =
      record { issuer = i; members = members; arrangement = arrangement; before = before; spent = spent; begun_is = begun; whole_is = refl; part_is = ap (trail_task i arrangement) one; stands = h }

  -- the choice in the next group
  pub call-asks : {t : CallState} {hash members i current : List ℕ} {n : ℕ} → CallStands s n i (data_in t current) (group_with hash members ∷ groups_left t) (spending_of before spent)
      → AwaitsChoice s t hash (call_task n i before) (choice_task current members spent)
  call-asks {members = members} {i = i} {current = current} {n = n} h =
      record { node = n; issuer = i; current = current; members = members; before = before; spent = spent; whole_is = refl; part_is = refl; stands = h }

-- the next of the groups that are left, and the rest
pub groups-next : (gs : List NodeGroup) (k : ℕ) (g : NodeGroup) (members : List ℕ) → k < length gs → g ≡ get_or gs k g → members ≡ g.members → map group_in (drop k gs) ≡ group_with g.hash members ∷ map group_in (drop (k + 1) gs)
groups-next gs k g members lt is same = ap (map group_in) (drop-next gs k g lt is) ∙ ap (λ ms. group_with g.hash ms ∷ map group_in (drop (k + 1) gs)) (sym same)

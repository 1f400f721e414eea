-- The public clauses, from what is answered by cases.
use Rattle.std.proofs.Common.{◌≡◌, ◌↔◌, ℕ, ◌<◌, ◌≤◌, List, true, false, Result, Ok, Err, IfOk, IsErrAnd, refl, sym, subst, arith}
use Rattle.digest_mac.specs.declared.hash.Hash.{Hash}
use Rattle.nquads.specs.Terms.{Blank, Statement}
use Rattle.nquads.specs.Stored.{labels_by_text}
use Rattle.rdfc_ndegree.specs.Internal.Evaluations.{IsFaultOf}
use Rattle.rdfc_ndegree.specs.Run.{IsRun, MeetsTie, WorkOver, IsWithinWork}
use Rattle.rdfc_ndegree.specs.Run as run
use Rattle.rdfc_ndegree.specs.declared.limits.CanonFault.{CanonFault}
use Rattle.rdfc_ndegree.specs.declared.limits.CanonFault.TheVariants as fault
use Rattle.rdfc_ndegree.specs.declared.limits.Limits.{Limits}
use Rattle.rdfc_canon.specs.Canon.{nodes, canonical_labels, AnswersRun, NameAll}
use Rattle.rdfc_canon.specs.Internal.Form.{Canonicalised}
use Rattle.rdfc_canon.specs.declared.canon.Canon.{Canon}

module _ (hash : Hash) (texts : List (List ℕ)) (q : List Statement) (limits : Limits) where
  pub clause-ok : (r : Result Canon CanonFault) → Canonicalised hash texts q limits r → IfOk r (λ (c : Canon). AnswersRun hash texts q limits c)
  clause-ok (Ok c) h = h.answers
  clause-ok (Err e) h = tt

  pub clause-labels : (r : Result Canon CanonFault) → Canonicalised hash texts q limits r → IfOk r (λ (c : Canon). NameAll q (labels_by_text texts c.labels))
  clause-labels (Ok c) h = h.names
  clause-labels (Err e) h = tt

  pub clause-tie : (r : Result Canon CanonFault) → Canonicalised hash texts q limits r → IfOk r (λ (c : Canon). (c.tie ≡ true) ↔ MeetsTie (nodes hash q))
  clause-tie (Ok c) h = h.tie
  clause-tie (Err e) h = tt

  pub clause-every : (r : Result Canon CanonFault) → Canonicalised hash texts q limits r → IfOk r (λ (c : Canon). c.tie ≡ false → (s : run.RunOutcome Blank) → IsRun (nodes hash q) s → labels_by_text texts c.labels ≡ canonical_labels hash q s.issuer)
  clause-every (Ok c) h = h.every
  clause-every (Err e) h = tt

  pub clause-work : (r : Result Canon CanonFault) → Canonicalised hash texts q limits r → (n : ℕ) → r ≡ Err (fault.TooMuchWork n) → (n ≡ limits.work) × WorkOver (nodes hash q) n
  clause-work r h n e = subst (Canonicalised hash texts q limits) e h

  only_memory : (e : CanonFault) → IsWithinWork (nodes hash q) limits.work → IsFaultOf limits (WorkOver (nodes hash q)) e → e ≡ fault.Memory
  only_memory (fault.TooMuchWork n) w h =
      let is : n ≡ limits.work = h.0 in
      let over : n < h.1.run.work = h.1.over in
      let fits : h.1.run.work ≤ limits.work = w h.1.run h.1.is_run in
      absurd (omega arith)
  only_memory fault.Memory w h = refl

  pub clause-within : (r : Result Canon CanonFault) → Canonicalised hash texts q limits r → IsWithinWork (nodes hash q) limits.work → (e : CanonFault) → r ≡ Err e → e ≡ fault.Memory
  clause-within r h w e is = only_memory e w (subst (Canonicalised hash texts q limits) is h)

  -- a fault handed on
  pub fault-there : (r : Result Canon CanonFault) (e : CanonFault) → IsErrAnd r (λ x. x ≡ e) → IsFaultOf limits (WorkOver (nodes hash q)) e → Canonicalised hash texts q limits r
  fault-there (Ok c) e is h = absurd is
  fault-there (Err x) e is h = subst (IsFaultOf limits (WorkOver (nodes hash q))) (sym is) h

-- What the calls of this crate answer, tied to the runs of the call.
use Rattle.std.specs.Prelude.{◌≡◌, ◌<◌, ◌+◌, ℕ, List, Bool}
use Rattle.rdfc_ndegree.specs.Nodes.{Nodes}
use Rattle.rdfc_ndegree.specs.NDegree.{Outcome, IsNDegree}
use Rattle.rdfc_ndegree.specs.declared.limits.Meter.{Meter}

-- What an n-degree call answers: the hash, the issuer, and whether it met a tie that counts.
pub record Answer (B : Type 0) : Type 0 where
  pub hash : List ℕ
  pub issuer : List B
  pub tie : Bool

abbrev pub answer : {B : Type 0} → List ℕ → List B → Bool → Answer B
answer hash issuer tie = record { hash = hash; issuer = issuer; tie = tie }

-- The arrangements counted before and after.
pub record Spending : Type 0 where
  pub before : ℕ
  pub after : ℕ

-- what was spent between two states of the meter
abbrev pub spending : Meter → Meter → Spending
spending old new = record { before = old.spent; after = new.spent }

-- The answer is that of one run of the call for n with the canonical issuer c and the issuer i, and
-- the count has risen by exactly its arrangements.
pub record AnswersCall {B : Type 0} (v : Nodes B) (c : List B) (n : B) (i : List B) (a : Answer B)
    (s : Spending) : Type 0 where
  pub outcome : Outcome B
  pub call : IsNDegree v c n i outcome
  pub hash_is : a.hash ≡ outcome.hash
  pub issuer_is : a.issuer ≡ outcome.issuer
  pub tie_is : a.tie ≡ outcome.tie
  pub spent : s.after ≡ s.before + outcome.work

-- The work of a run of the call, with what was spent before, is over the limit.
pub record CallOver {B : Type 0} (v : Nodes B) (c : List B) (n : B) (i : List B) (old limit : ℕ)
    : Type 0 where
  pub outcome : Outcome B
  pub call : IsNDegree v c n i outcome
  pub over : limit < old + outcome.work

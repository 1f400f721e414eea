-- Runs on small datasets that compute, with a digest that leaves a text as it is: a wrong definition fails here.
use Rattle.std.proofs.Common.{ℕ, List, [], ◌∷◌, true, false, codes}
use Rattle.std.specs.Fmt.{digits}
use Rattle.rdfc_ndegree.proofs.Lawful.{nodes-lawful}
use Rattle.rdfc_ndegree.proofs.Exists.{run-exists, rounds-exist, in_hash_order, put_result, results-exist, IsNDegree-exists, within_exists, call_if, groups_if, choice_if, IsChoice-from_trails, trails_if, evaluates_if, nested_if, best_of_some, best_among, better}
use Rattle.nquads.specs.Terms.{Statement}
use Rattle.rdfc_ndegree.specs.Datasets.{nodes_of}
use Rattle.rdfc_ndegree.specs.Run.{IsRun}
use Rattle.rdfc_canon.specs.Worked.{edge, leaf, HasRun}

abbrev a : List ℕ
a = codes "a"

abbrev b : List ℕ
b = codes "b"

abbrev c : List ℕ
c = codes "c"

abbrev d : List ℕ
d = codes "d"

-- the run that the existence of runs computes
its_run : (q : List Statement) → IsRun (nodes_of (λ text. text) q) (run-exists (nodes-lawful (λ text. text) q)).0
its_run q = (run-exists (nodes-lawful (λ text. text) q)).1

-- no blank node
pub none-row : HasRun ([]) ([]) false 0
unfolding run-exists rounds-exist in_hash_order put_result results-exist IsNDegree-exists within_exists call_if groups_if choice_if IsChoice-from_trails trails_if evaluates_if nested_if best_of_some best_among better digits
none-row = its_run ([])

-- each blank node has a first-degree hash of its own: no call is made
pub chain-row : HasRun (edge a b ∷ []) (a ∷ b ∷ []) false 0
unfolding run-exists rounds-exist in_hash_order put_result results-exist IsNDegree-exists within_exists call_if groups_if choice_if IsChoice-from_trails trails_if evaluates_if nested_if best_of_some best_among better digits
chain-row = its_run (edge a b ∷ [])

-- two blank nodes that nothing tells apart, with no related node: a tie of two results
pub twins-row : HasRun (leaf a ∷ leaf b ∷ []) (a ∷ b ∷ []) true 0
unfolding run-exists rounds-exist in_hash_order put_result results-exist IsNDegree-exists within_exists call_if groups_if choice_if IsChoice-from_trails trails_if evaluates_if nested_if best_of_some best_among better digits
twins-row = its_run (leaf a ∷ leaf b ∷ [])

-- two that stand beside each other: each call makes a nested one
pub pair-row : HasRun (edge a b ∷ edge b a ∷ []) (a ∷ b ∷ []) true 8
unfolding run-exists rounds-exist in_hash_order put_result results-exist IsNDegree-exists within_exists call_if groups_if choice_if IsChoice-from_trails trails_if evaluates_if nested_if best_of_some best_among better digits
pair-row = its_run (edge a b ∷ edge b a ∷ [])

-- the two inner ones of four in a row have one first-degree hash, and their calls tell them apart
pub row-row : HasRun (edge a b ∷ edge b c ∷ edge c d ∷ []) (a ∷ d ∷ b ∷ c ∷ []) false 8
unfolding run-exists rounds-exist in_hash_order put_result results-exist IsNDegree-exists within_exists call_if groups_if choice_if IsChoice-from_trails trails_if evaluates_if nested_if best_of_some best_among better digits
row-row = its_run (edge a b ∷ edge b c ∷ edge c d ∷ [])

-- three, each beside each other one: the two arrangements of a group have one path
pub triangle-row : HasRun (edge a b ∷ edge b a ∷ edge b c ∷ edge c b ∷ edge a c ∷ edge c a ∷ []) (a ∷ b ∷ c ∷ []) true 60
unfolding run-exists rounds-exist in_hash_order put_result results-exist IsNDegree-exists within_exists call_if groups_if choice_if IsChoice-from_trails trails_if evaluates_if nested_if best_of_some best_among better digits
triangle-row = its_run (edge a b ∷ edge b a ∷ edge b c ∷ edge c b ∷ edge a c ∷ edge c a ∷ [])

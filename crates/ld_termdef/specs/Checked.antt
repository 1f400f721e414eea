-- What a rule makes of a value, and the faults that rules find: an error code at a place. Lists of
-- faults stand for sets. JSON-LD 1.1 API, 9.6
use Rattle.std.specs.Prelude.{List, [], ◌∷◌, Bool, Option, Some, None, if◌then◌else◌}
use Rattle.json_tree.specs.declared.place.Step.{Step}
use Rattle.json_tree.specs.declared.tree.Tree.{Tree, out-Tree}
use Rattle.json_tree.specs.declared.tree.Tree.TheOpen.{Tree-F}
use Rattle.ld_words.specs.declared.code_table.Code.{Code}

-- What a rule accepts, as what it means, or the code of the error.
pub data Checked (A : Type 0) : Type 0 where
  fine : A → Checked A
  wrong : Code → Checked A

-- An error code, and the place of what is at fault.
pub record Fault : Type 0 where
  pub code : Code
  pub place : List Step

abbrev pub fault : Code → List Step → Fault
fault code place = record { code = code; place = place }

-- what is accepted, or else this
abbrev pub value_or : {A : Type 0} → A → Checked A → A
value_or other (fine a) = a
value_or other (wrong code) = other

-- the fault of a rule at a place, where it finds one
abbrev pub fault_at : {A : Type 0} → Checked A → List Step → List Fault
fault_at (fine a) place = []
fault_at (wrong code) place = fault code place ∷ []

-- this fault where the test passes, and none otherwise
abbrev pub fault_where : Bool → Code → List Step → List Fault
fault_where test code place = if test then fault code place ∷ [] else []

-- this value where the test passes, and the error otherwise
abbrev pub fine_where : {A : Type 0} → Bool → A → Code → Checked A
fine_where test a code = if test then fine a else wrong code

-- what a rule makes of a value, where there is one, and else this
abbrev pub checked_or :
    {A : Type 0} → Checked A → (Tree-F Tree → Checked A) → Option Tree → Checked A
checked_or absent rule None = absent
checked_or absent rule (Some t) = rule (out-Tree t)

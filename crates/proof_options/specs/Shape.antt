-- The shape of a proof's options, field by field. Data Integrity 1.0, 2.1.
use Rattle.std.specs.Prelude.{◌≡◌, ℕ, ◌<◌, ℤ, List, [], ◌∷◌, codes, Option, Some, None, option_and_then}
use Rattle.json_tree.specs.declared.tree.Tree.{Tree}
use Rattle.json_tree.specs.declared.tree.Member.{Member}
use Rattle.json_tree.specs.declared.place.Step.TheVariants.{Key}
use Rattle.json_tree.specs.Places.{look, text_of, members_of}
use Rattle.proof_options.specs.declared.fault.Field.{Field}
use Rattle.proof_options.specs.declared.fault.Field.TheVariants.{Proof, Context, ProofType, Cryptosuite, Created, Expires, VerificationMethod, ProofPurpose, ProofValue}
use Rattle.proof_options.specs.declared.fault.Suite.{Suite}
use Rattle.proof_options.specs.declared.fault.Suite.TheVariants.{Selective, Whole}
use Rattle.proof_options.specs.Stamps.{IsStamp}

-- what stands at a name in a tree, where there is a tree
abbrev pub named : List ℕ → Option Tree → Option Tree
named name found = option_and_then (look (Key name ∷ [])) found

-- The identifier of a suite. -- Data Integrity ECDSA Cryptosuites 1.0, 3.2 and 3.6
abbrev pub suite_name : Suite → List ℕ
suite_name Selective = codes "ecdsa-sd-2023"
suite_name Whole = codes "ecdsa-rdfc-2019"

-- ---- what may stand at a name

-- there is an object
abbrev pub IsObject : Option Tree → Type 0
IsObject found = (members : List (Member Tree)) × (option_and_then members_of found ≡ Some members)

-- there is nothing
abbrev pub IsAbsent : Option Tree → Type 0
IsAbsent found = found ≡ None

-- there is a text
abbrev pub IsText : Option Tree → Type 0
IsText found = (text : List ℕ) × (option_and_then text_of found ≡ Some text)

-- there is this text
abbrev pub IsTheText : List ℕ → Option Tree → Type 0
IsTheText text found = option_and_then text_of found ≡ Some text

-- a text that is a stamp
abbrev pub IsStampText : Option (List ℕ) → Type 0
IsStampText None = ⊥
IsStampText (Some text) = (instant : ℤ) × IsStamp text instant

-- there is nothing, or a stamp
abbrev pub IsStampIfAny : Option Tree → Type 0
IsStampIfAny None = Unit {0}
IsStampIfAny (Some tree) = IsStampText (text_of tree)

-- ---- the shape

-- What each field must be, in the order in which fields are refused; `value` says what must stand
-- at `proofValue`, and other members are free.
abbrev pub IsRight : Suite → (Option Tree → Type 0) → Option Tree → Field → Type 0
IsRight suite value options Proof = IsObject options
IsRight suite value options Context = IsAbsent (named (codes "@context") options)
IsRight suite value options ProofType =
    IsTheText (codes "DataIntegrityProof") (named (codes "type") options)
IsRight suite value options Cryptosuite =
    IsTheText (suite_name suite) (named (codes "cryptosuite") options)
IsRight suite value options Created = IsStampIfAny (named (codes "created") options)
IsRight suite value options Expires = IsStampIfAny (named (codes "expires") options)
IsRight suite value options VerificationMethod =
    IsText (named (codes "verificationMethod") options)
IsRight suite value options ProofPurpose = IsText (named (codes "proofPurpose") options)
IsRight suite value options ProofValue = value (named (codes "proofValue") options)

-- All fields are right.
abbrev pub HasShape : Suite → (Option Tree → Type 0) → Option Tree → Type 0
HasShape suite value options = (field : Field) → IsRight suite value options field

-- the place of a field in the order of refusals
abbrev pub rank : Field → ℕ
rank Proof = 0
rank Context = 1
rank ProofType = 2
rank Cryptosuite = 3
rank Created = 4
rank Expires = 5
rank VerificationMethod = 6
rank ProofPurpose = 7
rank ProofValue = 8

-- The field is not right, and every one before it is.
pub record IsFirstBad (right : Field → Type 0) (field : Field) : Type 0 where
  pub bad : right field → ⊥
  pub before : (earlier : Field) → rank earlier < rank field → right earlier

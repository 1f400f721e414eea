-- The parts that options and a secured document give.
use Rattle.std.specs.Prelude.{◌≡◌, [], ◌∷◌, codes, Option, Some, None}
use Rattle.json_tree.specs.declared.tree.Tree.{Tree}
use Rattle.json_tree.specs.declared.place.Step.TheVariants.{Key}
use Rattle.json_tree.specs.Places.{look, text_of}
use Rattle.json_tree.specs.Members.{without}
use Rattle.proof_options.specs.declared.fault.Suite.{Suite}
use Rattle.proof_options.specs.declared.proofs.Options.{Options}
use Rattle.proof_options.specs.declared.proofs.SplitProof.{SplitProof}
use Rattle.proof_options.specs.declared.stamps.Stamp.{Stamp}
use Rattle.proof_options.specs.Stamps.{IsStamp}
use Rattle.proof_options.specs.Shape.{named, IsText, IsTheText, HasShape}

-- what stands at `expires`, and the stamp that it is
abbrev pub IsExpiry : Option Tree → Option Stamp → Type 0
IsExpiry None None = Unit {0}
IsExpiry None (Some stamp) = ⊥
IsExpiry (Some tree) None = ⊥
IsExpiry (Some tree) (Some stamp) =
    (text_of tree ≡ Some stamp.text) × IsStamp stamp.text stamp.nanosecond

-- the options are those of the tree
pub record AreOptions (t : Tree) (options : Options) : Type 0 where
  pub tree : options.tree ≡ t
  pub method : IsTheText options.method (named (codes "verificationMethod") (Some t))
  pub expires : IsExpiry (named (codes "expires") (Some t)) options.expires

-- The proof of a secured document. -- Data Integrity 1.0, 2.1
abbrev pub proof_of : Tree → Option Tree
proof_of document = look (Key (codes "proof") ∷ []) document

-- A secured document split: its body is all but `proof`, and the options are the proof without its
-- `proofValue`. -- Data Integrity ECDSA Cryptosuites 1.0, 3.2.2
pub record IsSplit (suite : Suite) (document : Tree) (split : SplitProof) : Type 0 where
  pub proof : Tree
  pub stands : proof_of document ≡ Some proof
  pub shape : HasShape suite IsText (Some proof)
  pub body : split.body ≡ without (codes "proof") document
  pub options : AreOptions (without (codes "proofValue") proof) split.options
  pub value : IsTheText split.value (named (codes "proofValue") (Some proof))

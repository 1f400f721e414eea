-- Calls for blank nodes by the numbers of a store.
use Rattle.std.specs.Prelude.{◌≡◌, ℕ, List, map}
use Rattle.base_types.specs.Sets.{AllDiffer}
use Rattle.digest_mac.specs.Digests.{digits}
use Rattle.digest_mac.specs.declared.hash.Hash.{Hash}
use Rattle.term_store.specs.Store.{text_at}
use Rattle.term_store.specs.declared.store.TermId.{TermId}
use Rattle.term_store.specs.declared.statements.Quad.{Quad}
use Rattle.nquads.specs.Terms.{Blank, Statement}
use Rattle.nquads.specs.Spelling.{blank_text, text_quad}
use Rattle.nquads.specs.Stored.{quad_texts}
use Rattle.nquads.specs.FirstDegree.{AreFirstHashes}
use Rattle.nquads.specs.declared.hashes.BlankHash.{BlankHash}

-- A dataset by the numbers of a store: the hash, the texts of the store, the statements, and the
-- first-degree hashes.
pub record StoredDataset : Type 0 where
  pub hash : Hash
  pub texts : List (List ℕ)
  pub quads : List Quad
  pub firsts : List BlankHash

abbrev pub stored_dataset :
    Hash → List (List ℕ) → List Quad → List BlankHash → StoredDataset
stored_dataset hash texts quads firsts =
    record { hash = hash; texts = texts; quads = quads; firsts = firsts }

-- What a call for a blank node is given: the dataset, and the numbers of the canonical issuer, of
-- the node and of the issuer with which the call begins.
pub record CallNumbers : Type 0 where
  pub dataset : StoredDataset
  pub canonical : List TermId
  pub node : TermId
  pub issuer : List TermId

abbrev pub call_numbers :
    StoredDataset → List TermId → TermId → List TermId → CallNumbers
call_numbers dataset canonical node issuer =
    record { dataset = dataset; canonical = canonical; node = node; issuer = issuer }

-- The statements are those of the dataset q, with its first-degree hashes.
pub record IsStored (q : List Statement) (d : StoredDataset) : Type 0 where
  pub quads_are : map (quad_texts d.texts) d.quads ≡ map text_quad q
  pub hashes : AreFirstHashes (digits d.hash) d.texts q d.firsts

-- The numbers are those of a call for the node n over the dataset q, with the canonical issuer c,
-- which names no node twice, and the issuer i.
pub record IsCallFor (q : List Statement) (n : Blank) (c i : List Blank) (t : CallNumbers)
    : Type 0 where
  pub dataset_is : IsStored q t.dataset
  pub node_is : text_at t.dataset.texts t.node ≡ blank_text n
  pub canonical_is : map (text_at t.dataset.texts) t.canonical ≡ map blank_text c
  pub issuer_is : map (text_at t.dataset.texts) t.issuer ≡ map blank_text i
  pub once : AllDiffer c

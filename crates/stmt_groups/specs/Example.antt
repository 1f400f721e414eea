-- Worked examples: a device signs for two records, and a document is derived from the first; and
-- the statements and lines of a small dataset are marked.
use Rattle.std.specs.Prelude.{ℕ, List, [], ◌∷◌, ◌++◌, Bool, true, false, map, None, codes, replicate}
use Rattle.digest_mac.specs.declared.hash.Hash.TheVariants.{Sha256}
use Rattle.key_device.specs.declared.keys.KeyName.{KeyName}
use Rattle.key_device.specs.declared.keys.Signature.{Signature}
use Rattle.key_device.specs.Devices.{log_entry}
use Rattle.key_device.specs.Ledgers.{Ledger}
use Rattle.term_store.specs.declared.statements.Quad.{Quad}
use Rattle.term_store.specs.declared.store.TermId.{TermId}
use Rattle.nquads.specs.Terms.{iri, Statement}
use Rattle.stmt_groups.specs.declared.types.BaseRecord.{BaseRecord}
use Rattle.stmt_groups.specs.declared.marking.Mark.{Mark}
use Rattle.stmt_groups.specs.declared.grouping.Line.{Line}
use Rattle.stmt_groups.specs.Datasets.{LabelledDataset}
use Rattle.stmt_groups.specs.Parts.{Parts, parts_of}
use Rattle.stmt_groups.specs.Proofs.{VerifyData}
use Rattle.stmt_groups.specs.Records.{sign_data}

-- a key of one byte, repeated
abbrev pub nth_key : ℕ → KeyName
nth_key n = record { bytes = replicate 35 n }

-- a signature of one byte, repeated
abbrev pub nth_signature : ℕ → Signature
nth_signature n = record { bytes = replicate 64 n }

-- the statement that urn:s has this value of urn:p
abbrev pub statement : List ℕ → Statement
statement value =
    record {
      subject = iri (codes "urn:s");
      predicate = codes "urn:p";
      object = iri value;
      graph = None;
    }

-- its line
abbrev pub statement_line : List ℕ → List ℕ
statement_line value = codes "<urn:s> <urn:p> <" ++ value ++ codes "> .\n"

-- a dataset without blank nodes
abbrev pub dataset : List (List ℕ) → LabelledDataset
dataset values = record { statements = map statement values; label = λ b. [] }

-- a record whose mandatory statement is that of urn:a
abbrev pub first_record : BaseRecord
first_record = record {
  hash = Sha256;
  issuer = nth_key 1;
  key = nth_key 2;
  options = statement_line (codes "urn:o") ∷ [];
  mandatory = statement_line (codes "urn:a") ∷ [];
  others = statement_line (codes "urn:b") ∷ statement_line (codes "urn:c") ∷ [];
}

-- another, of the same issuer
abbrev pub second_record : BaseRecord
second_record = record {
  hash = Sha256;
  issuer = nth_key 1;
  key = nth_key 3;
  options = statement_line (codes "urn:q") ∷ [];
  mandatory = statement_line (codes "urn:a") ∷ [];
  others = statement_line (codes "urn:d") ∷ [];
}

-- both records
abbrev pub history : List BaseRecord
history = first_record ∷ second_record ∷ []

-- the bytes that the issuer key signs for a record
abbrev pub bytes_to_sign : BaseRecord → List ℕ
bytes_to_sign r = sign_data r.options r.key r.mandatory

-- the device that made these signatures, and no others
abbrev pub ledger : Ledger
ledger = record {
  keys = nth_key 1 ∷ nth_key 2 ∷ nth_key 3 ∷ [];
  log =
      log_entry (nth_key 2) (statement_line (codes "urn:b")) (nth_signature 1)
      ∷ log_entry (nth_key 2) (statement_line (codes "urn:c")) (nth_signature 2)
      ∷ log_entry (nth_key 1) (bytes_to_sign first_record) (nth_signature 3)
      ∷ log_entry (nth_key 3) (statement_line (codes "urn:d")) (nth_signature 4)
      ∷ log_entry (nth_key 1) (bytes_to_sign second_record) (nth_signature 5)
      ∷ [];
  secrets = 2;
}

-- the document that shows the first record's mandatory statement and that of urn:c
abbrev pub derived_document : VerifyData
derived_document = record {
  issuer = nth_key 1;
  document = dataset (codes "urn:a" ∷ codes "urn:c" ∷ []);
  options = dataset (codes "urn:o" ∷ []);
  proof = record {
    key = nth_key 2;
    signature = nth_signature 3;
    signatures = nth_signature 2 ∷ [];
    indexes = 0 ∷ [];
  };
}

-- ---- marks and lines

-- the texts of a store
abbrev pub store_texts : List (List ℕ)
store_texts =
    codes "<urn:s>" ∷ codes "<urn:p>" ∷ codes "<urn:a>" ∷ codes "<urn:b>" ∷ []

-- two statements, of which one is mandatory and both are chosen
abbrev pub two_parts : Parts Statement
two_parts =
    parts_of (statement (codes "urn:b") ∷ statement (codes "urn:a") ∷ [])
    (statement (codes "urn:b") ∷ [])
    (statement (codes "urn:a") ∷ statement (codes "urn:b") ∷ [])

-- the number of a text
abbrev pub nth_term : ℕ → TermId
nth_term n = record { index = n }

-- the statement whose object has this number
abbrev pub statement_quad : ℕ → Quad
statement_quad object = record {
  subject = nth_term 0;
  predicate = nth_term 1;
  object = nth_term object;
  graph = None;
}

-- its mark
abbrev pub mark : ℕ → Bool → Bool → Mark
mark object mandatory chosen = record {
  quad = statement_quad object;
  mandatory = mandatory;
  chosen = chosen;
}

-- the marks of both
abbrev pub two_marks : List Mark
two_marks = mark 3 true true ∷ mark 2 false true ∷ []

-- the same with what they say exchanged
abbrev pub swapped_marks : List Mark
swapped_marks = mark 3 true true ∷ mark 2 true false ∷ []

-- a line with these marks
abbrev pub marked_line : List ℕ → Bool → Bool → Line
marked_line text mandatory chosen =
    record { text = text; mandatory = mandatory; chosen = chosen }

-- the lines of both
abbrev pub two_lines : List Line
two_lines =
    marked_line (statement_line (codes "urn:a")) false true
    ∷ marked_line (statement_line (codes "urn:b")) true true ∷ []

-- The worked example meets what it is made for.
use Rattle.std.proofs.Common.{◌≡◌, ◌≢◌, ℕ, ◌<◌, true, false, List, [], ◌∷◌, map, Contains, inl, inr, refl, sym, ap, ◌∙◌, subst, codes, arith, slice_index, get_or, ◌==◌, Bool, not, length}
use Rattle.std.specs.Prelude.{◌⊎◌}
use Rattle.std.specs.List.{list_all}
use Rattle.std.specs.Str.{bytes_eq}
use Rattle.std.proofs.lemmas.Bool.Decides.{nat_tests}
use Rattle.std.proofs.lemmas.List.Elements.{All-cons, All-contains, All-nil}
use Rattle.std.proofs.lemmas.List.Folds.{list_any_at}
use Rattle.std.proofs.lemmas.List.Sums.{AllPass-from_list_all}
use Rattle.base_types.proofs.Lists.{Contains-here, Contains-there, Contains-from_map, Contains-map, Contains-nil, Contains-cons_cases}
use Rattle.base_types.proofs.Orders.{bytes_eq-differ}
use Rattle.key_device.specs.declared.keys.KeyName.{KeyName}
use Rattle.key_device.specs.declared.keys.Signature.{Signature}
use Rattle.key_device.specs.Devices.{log_entry}
use Rattle.key_device.specs.Exact.{is_entry-itself, ledger_means_its_log}
use Rattle.key_device.specs.Ledgers.{has_key, has_entry, is_entry, ledger_meaning}
use Rattle.nquads.specs.Terms.{Term, iri, literal, blank, Blank, Statement, IsStatement, HasIriCharacters, is_forbidden}
use Rattle.nquads.specs.Renaming.{blanks_of}
use Rattle.nquads.specs.Lines.{HasLabels}
use Rattle.nquads.proofs.ReadingBlanks.{from_blanks_in}
use Rattle.nquads.proofs.ReadingElements.{All-from_contains, AllDiffer-nil, AllDiffer-cons}
use Rattle.stmt_groups.specs.declared.types.BaseRecord.{BaseRecord}
use Rattle.stmt_groups.specs.Datasets.{IsLabelled, dataset_lines}
use Rattle.stmt_groups.specs.Example.{nth_key, nth_signature, statement, statement_line, dataset, first_record, second_record, history, ledger, derived_document}
use Rattle.stmt_groups.specs.Premises.{IsInUse, NoForgery, PremisesHold}
use Rattle.stmt_groups.specs.Proofs.{IsGood, mandatory_lines, verify_bytes}
use Rattle.stmt_groups.specs.Soundness.{KeysServeOnce, NoCollision, NoTextsCollide}
use Rattle.stmt_groups.specs.Records.{Signing, history_signings, HasLines, IsRecord, IsSplit}
use Rattle.stmt_groups.proofs.Covering.{exact_forges_nothing, entry_signing}
use Rattle.stmt_groups.proofs.Revealing.{record_has_lines}
use Rattle.std.proofs.lemmas.Bool.{not-true, eqb-false}

-- ---- statements

admitted : (text : List ℕ) → list_all (λ c. not (is_forbidden c)) text ≡ true → HasIriCharacters text
admitted text p = λ k d l. not-true (is_forbidden (get_or text k d)) (AllPass-from_list_all (λ c. not (is_forbidden c)) text p k d l)

is_statement : (value : List ℕ) → list_all (λ c. not (is_forbidden c)) value ≡ true → IsStatement (statement value)
is_statement value p = record {
  subject = admitted (codes "urn:s") refl;
  predicate = admitted (codes "urn:p") refl;
  object = admitted value p;
  graph = tt;
}

abbrev value_of : Term → List ℕ
value_of (iri text) = text
value_of (literal text datatype language) = []
value_of (blank b) = []

-- statements with two values differ
pub differ : (x y : List ℕ) → bytes_eq x y ≡ false → statement x ≡ statement y → ⊥
differ x y p e = bytes_eq-differ x y p (ap (λ (s : Statement). value_of s.object) e)

-- what stands in a list of one
pub only : {X : Type 0} (a x : X) → Contains (a ∷ []) x → a ≡ x
only a x c = elim (Contains-cons_cases a [] x c) [ inl e ↦ e | inr d ↦ absurd (Contains-nil x d) ]

-- what stands in a list of two
pub one_of_two : {X : Type 0} (a b x : X) → Contains (a ∷ b ∷ []) x → (a ≡ x) ⊎ (b ≡ x)
one_of_two a b x c = elim (Contains-cons_cases a (b ∷ []) x c) [ inl e ↦ inl e | inr d ↦ inr (only b x d) ]

no_blank : (values : List (List ℕ)) (b : Blank) (s : Statement) → Contains (map statement values) s → Contains (blanks_of s) b → ⊥
no_blank values b s c d =
    let w = Contains-from_map statement values s c in
    Contains-nil b (subst (λ (t : Statement). Contains (blanks_of t) b) (sym w.2) d)

-- a dataset without blank nodes needs no labels
labelled : (values : List (List ℕ)) → list_all (λ (value : List ℕ). list_all (λ c. not (is_forbidden c)) value) values ≡ true → IsLabelled (dataset values)
labelled values p = record {
  well_formed = All-from_contains IsStatement (map statement values) (λ s c.
      let w = Contains-from_map statement values s c in
      subst IsStatement w.2 (is_statement w.0 (All-contains (λ (value : List ℕ). list_all (λ c. not (is_forbidden c)) value ≡ true) values w.0 (AllPass-from_list_all (λ (value : List ℕ). list_all (λ c. not (is_forbidden c)) value) values p) w.1)));
  in_grammar = All-from_contains (HasLabels (λ b. [])) (map statement values) (λ s c b d. absurd (no_blank values b s c d));
  differ = λ a b x y e. let w = from_blanks_in (map statement values) a x in absurd (no_blank values a w.statement w.within w.blank_node);
}

-- ---- the records

-- where the first statement stands once and is mandatory alone, the others are the rest
pub split_first : (a : Statement) (rest : List Statement) → (Contains rest a → ⊥) → IsSplit (a ∷ rest) (a ∷ []) rest
split_first a rest once = record {
  part = All-cons (Contains (a ∷ rest)) a [] (Contains-here a rest) (All-nil (Contains (a ∷ rest)));
  rest = λ s. (
    λ c. (Contains-there a rest s c, λ d. once (subst (Contains rest) (sym (only a s d)) c)),
    λ p. elim (Contains-cons_cases a rest s p.0) [
      | inl e ↦ absurd (p.1 (subst (Contains (a ∷ [])) e (Contains-here a [])))
      | inr d ↦ d
    ],
  );
}

-- a mandatory statement is one of the whole
pub split_not_foreign : (a b : Statement) → a ≢ b → IsSplit (a ∷ []) (b ∷ []) (a ∷ []) → ⊥
split_not_foreign a b apart s = apart (only a b (All-contains (Contains (a ∷ [])) (b ∷ []) b s.part (Contains-here b [])))

-- no statement is mandatory and another
pub split_not_twice : (a b : Statement) → IsSplit (a ∷ b ∷ []) (b ∷ []) (a ∷ b ∷ []) → ⊥
split_not_twice a b s = ((s.rest b).0 (Contains-there a (b ∷ []) b (Contains-here b []))).1 (Contains-here b [])

-- each statement that is not mandatory is another
pub split_loses_none : (a b : Statement) → a ≢ b → IsSplit (a ∷ b ∷ []) (b ∷ []) [] → ⊥
split_loses_none a b apart s = Contains-nil a ((s.rest a).1 (Contains-here a (b ∷ []), λ c. apart (sym (only b a c))))

first_is_record : IsRecord (dataset (codes "urn:a" ∷ codes "urn:b" ∷ codes "urn:c" ∷ [])) (dataset (codes "urn:o" ∷ [])) (statement (codes "urn:a") ∷ []) first_record
first_is_record = record {
  document_labels = labelled (codes "urn:a" ∷ codes "urn:b" ∷ codes "urn:c" ∷ []) refl;
  options_labels = labelled (codes "urn:o" ∷ []) refl;
  others = statement (codes "urn:b") ∷ statement (codes "urn:c") ∷ [];
  split = split_first (statement (codes "urn:a")) (statement (codes "urn:b") ∷ statement (codes "urn:c") ∷ []) (λ c. elim (one_of_two (statement (codes "urn:b")) (statement (codes "urn:c")) (statement (codes "urn:a")) c) [
    | inl e ↦ differ (codes "urn:b") (codes "urn:a") refl e
    | inr e ↦ differ (codes "urn:c") (codes "urn:a") refl e
  ]);
  mandatory_lines = refl;
  other_lines = refl;
  options_lines = refl;
}

second_is_record : IsRecord (dataset (codes "urn:a" ∷ codes "urn:d" ∷ [])) (dataset (codes "urn:q" ∷ [])) (statement (codes "urn:a") ∷ []) second_record
second_is_record = record {
  document_labels = labelled (codes "urn:a" ∷ codes "urn:d" ∷ []) refl;
  options_labels = labelled (codes "urn:q" ∷ []) refl;
  others = statement (codes "urn:d") ∷ [];
  split = split_first (statement (codes "urn:a")) (statement (codes "urn:d") ∷ []) (λ c. differ (codes "urn:d") (codes "urn:a") refl (only (statement (codes "urn:d")) (statement (codes "urn:a")) c));
  mandatory_lines = refl;
  other_lines = refl;
  options_lines = refl;
}

-- both records are those of issues
pub example_records : IsRecord (dataset (codes "urn:a" ∷ codes "urn:b" ∷ codes "urn:c" ∷ [])) (dataset (codes "urn:o" ∷ [])) (statement (codes "urn:a") ∷ []) first_record
    × IsRecord (dataset (codes "urn:a" ∷ codes "urn:d" ∷ [])) (dataset (codes "urn:q" ∷ [])) (statement (codes "urn:a") ∷ []) second_record
example_records = (first_is_record, second_is_record)

-- ---- the premises

keys_differ : (m n : ℕ) → (m == n) ≡ false → nth_key m ≡ nth_key n → ⊥
keys_differ m n p e =
    let same : m ≡ n = ap (λ (k : KeyName). slice_index k.bytes 0) e in
    eqb-false m n p same

key_of : BaseRecord → KeyName
key_of r = r.key

each_record : (P : BaseRecord → Type 0) → P first_record → P second_record → (r : BaseRecord) → Contains history r → P r
each_record P one two r c = elim (one_of_two first_record second_record r c) [
  | inl e ↦ subst P e one
  | inr e ↦ subst P e two
]

in_use_owned : (k : KeyName) → IsInUse history (nth_key 1) k → has_key ledger.keys k ≡ true
in_use_owned k (inl e) = subst (λ (z : KeyName). has_key ledger.keys z ≡ true) (sym e) refl
in_use_owned k (inr c) = elim (one_of_two (nth_key 2) (nth_key 3) k c) [
  | inl e ↦ subst (λ (z : KeyName). has_key ledger.keys z ≡ true) e refl
  | inr e ↦ subst (λ (z : KeyName). has_key ledger.keys z ≡ true) e refl
]

made_for_records : map entry_signing ledger.log ≡ history_signings history
made_for_records = refl

example_no_forgery : NoForgery (ledger_meaning ledger) history (nth_key 1)
example_no_forgery =
    exact_forges_nothing (ledger_meaning ledger) history (nth_key 1) ledger.log refl (ledger_means_its_log ledger refl) in_use_owned
    (λ e c _. subst (λ (xs : List Signing). Contains xs (entry_signing e)) made_for_records (Contains-map entry_signing ledger.log e c))

example_keys : KeysServeOnce history (nth_key 1)
example_keys = record {
  differ = AllDiffer-cons (nth_key 2) (nth_key 3 ∷ []) (λ c. keys_differ 3 2 refl (only (nth_key 3) (nth_key 2) c)) (AllDiffer-cons (nth_key 3) [] (Contains-nil (nth_key 3)) AllDiffer-nil);
  no_issuer = λ r s c d.
      subst (λ (k : KeyName). r.key ≢ k) (each_record (λ (t : BaseRecord). nth_key 1 ≡ t.issuer) refl refl s d)
      (each_record (λ (t : BaseRecord). t.key ≢ nth_key 1) (keys_differ 2 1 refl) (keys_differ 3 1 refl) r c);
  not_this_issuer = each_record (λ (t : BaseRecord). t.key ≢ nth_key 1) (keys_differ 2 1 refl) (keys_differ 3 1 refl);
}

example_texts : NoTextsCollide history derived_document
example_texts = record {
  options = each_record (λ (t : BaseRecord). t.issuer ≡ nth_key 1 → t.key ≡ nth_key 2 → NoCollision t.options (dataset_lines derived_document.options))
      (λ _ _ _. refl) (λ _ k _. absurd (keys_differ 3 2 refl k));
  mandatory = each_record (λ (t : BaseRecord). t.issuer ≡ nth_key 1 → t.key ≡ nth_key 2 → NoCollision t.mandatory (mandatory_lines derived_document))
      (λ _ _ _. refl) (λ _ k _. absurd (keys_differ 3 2 refl k));
}

-- the premises hold of the history of both
pub example_premises : PremisesHold (ledger_meaning ledger) history derived_document
example_premises = record {
  have_lines = All-cons HasLines first_record (second_record ∷ []) (record_has_lines _ _ _ first_record first_is_record)
      (All-cons HasLines second_record [] (record_has_lines _ _ _ second_record second_is_record) (All-nil HasLines));
  no_forgery = example_no_forgery;
  keys = example_keys;
  texts = example_texts;
}

-- ---- the proof

-- the document's and the options' datasets have labels
pub example_labels : IsLabelled derived_document.document × IsLabelled derived_document.options
example_labels = (labelled (codes "urn:a" ∷ codes "urn:c" ∷ []) refl, labelled (codes "urn:o" ∷ []) refl)

accepted_at : (n : ℕ) (k : KeyName) (bytes : List ℕ) (s : Signature) → n < length ledger.log → get_or ledger.log n (log_entry k bytes s) ≡ log_entry k bytes s → has_entry ledger.log k bytes s ≡ true
accepted_at n k bytes s lt is =
    list_any_at (is_entry k bytes s) ledger.log n (log_entry k bytes s) lt (ap (is_entry k bytes s) is ∙ is_entry-itself k bytes s)

-- the proof is good
pub example_good : IsGood (ledger_meaning ledger).accepts derived_document
example_good = record {
  not_empty = λ e. absurd (cc);
  below = All-cons (λ i. i < length (dataset_lines derived_document.document)) 0 [] (omega arith) (All-nil _);
  counts = refl;
  base_signature = accepted_at 2 (nth_key 1) (verify_bytes derived_document) (nth_signature 3) (omega arith) refl;
  statement_signatures = (accepted_at 1 (nth_key 2) (statement_line (codes "urn:c")) (nth_signature 2) (omega arith) refl, tt);
}

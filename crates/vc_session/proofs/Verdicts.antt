-- Verdicts: indexes and counts, the case of a task, and what a yes says.
use Rattle.std.proofs.Common.{◌≡◌, ℕ, ◌-◌, ◌<◌, ◌≤◌, List, [], ◌∷◌, ◌++◌, length, get_or, map, All, Contains, Bool, true, false, not, Some, None, Ok, Err, nat_le, inl, inr, refl, sym, ap, ◌∙◌, subst, arith}
use Rattle.std.specs.Prelude.{Result}
use Rattle.std.specs.Result.{IsErrAnd}
use Rattle.std.specs.List.{AllZip, position, prefix_len}
use Rattle.std.proofs.lemmas.List.Sums.{prefix_len_passes}
use Rattle.std.proofs.lemmas.Bool.Decides.{nat_tests}
use Rattle.std.proofs.lemmas.List.Quantifiers.{position-Some}
use Rattle.std.proofs.lemmas.List.Elements.{All-from_get_or}
use Rattle.std.proofs.lemmas.Option.{get_or_from_slice_get, slice_get-get_or}
use Rattle.base_types.proofs.Lists.{Contains-here, Contains-there, Contains-nil}
use Rattle.base_types.proofs.Rising.{rising-same}
use Rattle.base_types.specs.Order.{rise}
use Rattle.json_tree.specs.declared.tree.Tree.{Tree}
use Rattle.key_device.specs.declared.keys.KeyName.{KeyName}
use Rattle.key_device.specs.Devices.{Acceptance, DeviceMeaning}
use Rattle.key_device.specs.Tables.{key_for}
use Rattle.nquads.specs.Terms.{Statement}
use Rattle.nquads.specs.Lines.{canonical_lines, line}
use Rattle.digest_mac.specs.declared.hash.Hash.TheVariants.{Sha384}
use Rattle.proof_cbor.specs.declared.fault.ValueFault.{ValueFault}
use Rattle.proof_cbor.specs.declared.fault.ValueFault.TheVariants as value_fault
use Rattle.proof_cbor.specs.declared.value.DerivedValue.{DerivedValue}
use Rattle.proof_cbor.specs.Refusals.{RefusesDerived}
use Rattle.proof_cbor.specs.Values.{SpellsDerived}
use Rattle.stmt_groups.specs.declared.types.Cause.{Cause}
use Rattle.stmt_groups.specs.declared.types.Cause.TheVariants as cause
use Rattle.stmt_groups.specs.Lines.{lines_at, other_lines}
use Rattle.stmt_groups.specs.Records.{sign_data}
use Rattle.stmt_groups.specs.Proofs.{AreBelow, IsGood, verify_bytes}
use Rattle.stmt_groups.specs.Soundness.{NamesOne}
use Rattle.stmt_groups.proofs.LineLemmas.{no_other_line, other_lines-length}
use Rattle.stmt_groups.proofs.Naming.{covered_names_one}
use Rattle.stmt_groups.proofs.Revealing.{document_reveals, options_same}
use Rattle.vc_session.specs.declared.tasks.VerifyTask.{VerifyTask}
use Rattle.vc_session.specs.Internal.Tasks.{IsVerifyTask}
use Rattle.vc_session.specs.Issuing.{no_label}
use Rattle.vc_session.specs.Verifying.{HasCause, IsFirstOver, IsPlainValue, IsRight, IsSound, IsVerifyCase, IsYes, RefusesBySha256, SpellsBySha256, VerifyCase, key_name, signature, verify_data}
use Rattle.vc_session.proofs.FlatTexts.{flat_labelled}
use Rattle.vc_session.specs.declared.verifying.Verdict.{Verdict}
use Rattle.vc_session.specs.declared.verifying.VerifyFault.{VerifyFault}
use Rattle.vc_session.specs.declared.verifying.VerifyFault.TheVariants as unverified
use Rattle.vc_session.specs.Internal.Outcomes.{IsCauseOf, ReadsPlain, Verifies}
use Rattle.std.proofs.lemmas.Bool.{not-true}

-- ---- the first index that is no line's

-- the first index that is found is the first over the count
pub is_first_over : (lines : List (List ℕ)) (indexes : List ℕ) (count k : ℕ) → count ≡ length lines → position (λ n. nat_le count n) indexes ≡ Some k → IsFirstOver lines indexes k
is_first_over lines indexes count k counted found =
    let p = position-Some (λ n. nat_le count n) indexes k 0 found in
    let test : nat_le count (get_or indexes k 0) ≡ true = p.1 in
    record {
      index = get_or indexes k 0;
      stands = slice_get-get_or indexes k 0 p.0;
      over = grind (arith, nat_tests);
      first = λ j n below stands.
          let before : nat_le count (get_or indexes j 0) ≡ false = p.2 j below in
          let same : get_or indexes j 0 ≡ n = get_or_from_slice_get indexes j n 0 stands in
          let late : nat_le count n ≡ false = rw same at before in
          grind (arith, nat_tests);
    }

no_first : (p : ℕ → Bool) (xs : List ℕ) → position p xs ≡ None → (i : ℕ) → i < length xs → p (get_or xs i 0) ≡ false
no_first p xs none i below =
    let long : length xs ≤ prefix_len (λ x. not (p x)) xs = grind (arith, none) in
    not-true (p (get_or xs i 0)) (prefix_len_passes (λ x. not (p x)) xs i 0 (omega (arith, long, below)))

-- where none is found each index is below the count
pub are_below : (lines : List (List ℕ)) (indexes : List ℕ) (count : ℕ) → count ≡ length lines → position (λ n. nat_le count n) indexes ≡ None → AreBelow lines indexes
are_below lines indexes count counted none =
    All-from_get_or (λ i. i < length lines) indexes 0
    (λ i below. let test : nat_le count (get_or indexes i 0) ≡ false = no_first (λ n. nat_le count n) indexes none i below in grind (arith, nat_tests))

-- fewer indexes than lines want signatures that are not there
pub count_cause : (lines : List (List ℕ)) (indexes : List ℕ) (count : ℕ) → rise indexes ≡ true → (lines ≡ [] → ⊥) → count ≡ length lines → position (λ n. nat_le count n) indexes ≡ None → length indexes < length lines → IsCauseOf lines indexes (Some (cause.Count 0 (length lines - length indexes)))
count_cause lines indexes count rises filled counted none fewer =
    let below = are_below lines indexes count counted none in
    let others : length (other_lines indexes lines) ≡ length lines - length indexes = other_lines-length indexes lines rises below in
    (filled, below, refl, sym others, (λ e. omega (arith, e, fewer)))

-- indexes that are all and below give no cause
pub no_cause : (lines : List (List ℕ)) (indexes : List ℕ) (count : ℕ) → rise indexes ≡ true → (lines ≡ [] → ⊥) → count ≡ length lines → position (λ n. nat_le count n) indexes ≡ None → length lines ≤ length indexes → IsCauseOf lines indexes None
no_cause lines indexes count rises filled counted none enough =
    let below = are_below lines indexes count counted none in
    let others : length (other_lines indexes lines) ≡ length lines - length indexes = other_lines-length indexes lines rises below in
    (filled, below, others ∙ omega (arith, enough))

-- ---- lines and statements

-- without lines there are no statements
pub no_statements : (q : List Statement) → canonical_lines no_label q ≡ [] → q ≡ []
no_statements [] none = refl
no_statements (s ∷ ss) none =
    let there : Contains (canonical_lines no_label (s ∷ ss)) (line no_label s) = (rising-same (map (line no_label) (s ∷ ss)) (line no_label s)).1 (Contains-here (line no_label s) (map (line no_label) ss)) in
    absurd (Contains-nil (line no_label s) (subst (λ (ls : List (List ℕ)). Contains ls (line no_label s)) none there))

empty_list : (xs : List (List ℕ)) → length xs ≡ 0 → xs ≡ []
empty_list [] none = refl
empty_list (x ∷ xs) none = absurd (omega arith)

-- ---- the case of a task

module _ (r : Tree) (t : VerifyTask) (w : IsVerifyTask r t) (value : DerivedValue) where
  abbrev pub case_of : VerifyCase
  case_of = record { parts = w.parts; statements = w.statements; options = w.option_statements; value = value }

  module _ (spells : SpellsBySha256 value t.value) (plain : IsPlainValue value) where
    pub is_case_of : IsVerifyCase r case_of
    is_case_of = record { are = w.are; means = w.means; options_mean = w.options_mean; spells = subst (SpellsBySha256 value) w.value spells; plain = plain }

  -- a good proof is sound
  pub sound_of : (accepts : Acceptance) (issuer : KeyName) → IsGood accepts (verify_data case_of issuer) → IsSound accepts case_of issuer
  sound_of accepts issuer good = λ history covered.
      let v = verify_data case_of issuer in
      let n : NamesOne history v = covered_names_one history accepts v good covered
      (flat_labelled _ w.statements w.means w.are_statements) (flat_labelled _ w.option_statements w.options_mean w.are_options) in
      record {
        names = n;
        reveals = λ issued options mandatory made. (
          options_same issued options mandatory n.one made v.document v.options v.proof.indexes n.holds,
          document_reveals issued options mandatory n.one made v.document v.options v.proof.indexes n.holds,
        );
      }

  -- the cause that was found
  pub cause_is : (accepts : Acceptance) (lines : List (List ℕ)) (why : Cause) → value.signatures ≡ [] → lines ≡ canonical_lines no_label w.statements → IsCauseOf lines value.indexes (Some why) → HasCause accepts case_of why
  cause_is accepts lines cause.Nothing none are h = no_statements w.statements (sym are ∙ h)
  cause_is accepts lines (cause.Indexes k) none are h =
      (λ e. h.0 (are ∙ ap (canonical_lines no_label) e), subst (λ (ls : List (List ℕ)). IsFirstOver ls value.indexes k) are h.1)
  cause_is accepts lines (cause.Count signatures statements) none are h = (
    (λ e. h.0 (are ∙ ap (canonical_lines no_label) e)),
    subst (λ (ls : List (List ℕ)). AreBelow ls value.indexes) are h.1,
    h.2 ∙ ap length (sym none),
    h.3 ∙ ap (λ (ls : List (List ℕ)). length (other_lines value.indexes ls)) are,
    (λ e. h.4 (sym e ∙ h.2)),
  )
  cause_is accepts lines cause.BaseSignature none are h = absurd h
  cause_is accepts lines (cause.Labels n) none are h = absurd h
  cause_is accepts lines (cause.Expired expires moment) none are h = absurd h
  cause_is accepts lines (cause.StatementSignature i) none are h = absurd h

  -- no cause was found
  module _ (lines : List (List ℕ)) (are : lines ≡ canonical_lines no_label w.statements) (none : value.signatures ≡ []) (h : IsCauseOf lines value.indexes None) where
    pub is_right : IsRight case_of
    is_right = record {
      some_statements = λ e. h.0 (are ∙ ap (canonical_lines no_label) e);
      below = subst (λ (ls : List (List ℕ)). AreBelow ls value.indexes) are h.1;
      count = ap (λ (ss : List (List ℕ)). length ss) none ∙ sym h.2 ∙ ap (λ (ls : List (List ℕ)). length (other_lines value.indexes ls)) are;
    }

    module _ (accepts : Acceptance) (issuer : KeyName) (found : key_for t.keys.entries t.method ≡ Some issuer) where
      -- the bytes that were checked
      pub checked_are : (option_lines : List (List ℕ)) (bytes : List ℕ) → option_lines ≡ canonical_lines no_label w.option_statements → bytes ≡ sign_data option_lines (key_name value.key) lines → bytes ≡ verify_bytes (verify_data case_of issuer)
      checked_are option_lines bytes options_are is =
          let all : lines_at value.indexes lines ≡ lines = no_other_line value.indexes lines h.2 in
          is ∙ ap (λ (ls : List (List ℕ)). sign_data ls (key_name value.key) lines) options_are ∙ ap (sign_data (canonical_lines no_label w.option_statements) (key_name value.key)) (sym all)
          ∙ ap (λ (ls : List (List ℕ)). sign_data (canonical_lines no_label w.option_statements) (key_name value.key) (lines_at value.indexes ls)) are

      pub is_good : (bytes : List ℕ) → bytes ≡ verify_bytes (verify_data case_of issuer) → true ≡ accepts issuer bytes (signature value.signature) → IsGood accepts (verify_data case_of issuer)
      is_good bytes checked said =
          let others : other_lines value.indexes (canonical_lines no_label w.statements) ≡ [] = empty_list _ (ap (λ (ls : List (List ℕ)). length (other_lines value.indexes ls)) (sym are) ∙ h.2) in
          let signatures : map signature value.signatures ≡ [] = ap (map signature) none in
          let zipped : AllZip (λ l s. accepts (key_name value.key) l s ≡ true) (other_lines value.indexes (canonical_lines no_label w.statements)) (map signature value.signatures) = rw (others, signatures) tt in
          record {
            not_empty = is_right.some_statements;
            below = is_right.below;
            counts = ap length signatures ∙ sym (ap length others);
            base_signature = ap (λ (bs : List ℕ). accepts issuer bs (signature value.signature)) (sym checked) ∙ sym said;
            statement_signatures = zipped;
          }

      pub is_yes : IsGood accepts (verify_data case_of issuer) → IsYes accepts case_of issuer
      is_yes good = record { key_is = (λ i. key_for (sym w.keys i) (sym w.method i)) ∙ found; good = good }

      pub is_no : (bytes : List ℕ) → bytes ≡ verify_bytes (verify_data case_of issuer) → false ≡ accepts issuer bytes (signature value.signature) → HasCause accepts case_of cause.BaseSignature
      is_no bytes checked said = (
        is_right,
        (issuer, (λ i. key_for (sym w.keys i) (sym w.method i)) ∙ found, ap (λ (bs : List ℕ). accepts issuer bs (signature value.signature)) (sym checked) ∙ sym said),
      )

-- a value by SHA-384 is refused for its header
pub other_hash : (text : List ℕ) (value : DerivedValue) → SpellsDerived value text → value.hash ≡ Sha384 → RefusesBySha256 text value_fault.Header
other_hash text value spells is = inr (value, spells, is, refl)

-- what is no derived value is refused as it is
pub no_value : (text : List ℕ) (fault : ValueFault) → RefusesDerived text fault → RefusesBySha256 text fault
no_value text fault refused = inl refused

-- a value that is none, or not plain
pub value_refused : (before after : DeviceMeaning) (r : Tree) (t : VerifyTask) (w : IsVerifyTask r t) (why : VerifyFault) → ReadsPlain t.value (Err why) → Verifies before after r (Err why)
value_refused before after r t w unverified.NotBuilt h = (w.parts, h.0, w.are, subst (SpellsBySha256 h.0) w.value h.1, h.2)
value_refused before after r t w (unverified.Value why) h = (w.parts, w.are, subst (λ (text : List ℕ). RefusesBySha256 text why) w.value h)
value_refused before after r t w unverified.Memory h = tt
value_refused before after r t w other h = absurd h

-- a value that is refused is refused for its cause
pub value_failed : (before after : DeviceMeaning) (r : Tree) (t : VerifyTask) (w : IsVerifyTask r t) (result : Result Verdict VerifyFault) (why : VerifyFault) → IsErrAnd result (λ y. y ≡ why) → ReadsPlain t.value (Err why) → Verifies before after r result
value_failed before after r t w (Ok v) why is h = absurd is
value_failed before after r t w (Err y) why is h = subst (λ (x : VerifyFault). Verifies before after r (Err x)) (sym is) (value_refused before after r t w why h)

-- want of memory
pub no_memory : (before after : DeviceMeaning) (r : Tree) (result : Result Verdict VerifyFault) → IsErrAnd result (λ y. y ≡ unverified.Memory) → Verifies before after r result
no_memory before after r (Ok v) is = absurd is
no_memory before after r (Err y) is = subst (λ (x : VerifyFault). Verifies before after r (Err x)) (sym is) tt

pub ruleset cause_steps = (is_first_over, count_cause, no_cause)

pub ruleset value_steps = (other_hash, no_value)

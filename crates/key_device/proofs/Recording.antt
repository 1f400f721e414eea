-- What a ledger's log says after one more entry, and after one more key.
use Rattle.std.proofs.Common.{◌≡◌, ◌⊎◌, inl, inr, ◌∙◌, ◌+◌, ◌<◌, ◌^◌, length, get_or, Contains, sym, ℕ, Bool, true, false, ◌||◌, List, [], ◌∷◌, ◌++◌, refl, ap, arith, below_more, length-append}
use Rattle.std.proofs.Math.ListN.{get_or-append}
use Rattle.std.proofs.Math.Seq.{get_or-append_seam}
use Rattle.std.proofs.lemmas.List.{get_or_default}
use Rattle.std.proofs.lemmas.Grind.{common_steps}
use Rattle.std.proofs.lemmas.List.Folds.{list_any-append, list_all-append, list_any_at}
use Rattle.key_device.specs.declared.keys.KeyName.{KeyName}
use Rattle.key_device.specs.declared.keys.Signature.{Signature}
use Rattle.key_device.specs.declared.device.SignedEntry.{SignedEntry}
use Rattle.key_device.specs.Devices.{log_entry}
use Rattle.key_device.specs.Exact.{is_entry-itself, found_entry}
use Rattle.std.proofs.lemmas.Bool.{false_from_ne_true}
use Rattle.std.proofs.lemmas.Nat.{from_be_bytes-to_be_bytes_8}
use Rattle.key_device.specs.Ledgers.{has_key, has_entry, has_keys_of, is_entry, IsNumbered, numbered_signature}
use Rattle.key_device.specs.Internal.Numbers.{signature_number}

or_true : (b : Bool) → (b || true) ≡ true
or_true true = refl
or_true false = refl

number_back : (n : ℕ) → n < 2 ^ 64 → signature_number (numbered_signature n) ≡ n
unfolding numbered_signature signature_number
number_back n small = from_be_bytes-to_be_bytes_8 n small

-- a signature under an owned key keeps each key of the log owned
pub has_keys_of-more : (keys : List KeyName) (entries : List SignedEntry) (e : SignedEntry) → has_keys_of keys entries ≡ true → has_key keys e.key ≡ true → has_keys_of keys (entries ++ e ∷ []) ≡ true
has_keys_of-more keys entries e all one = rw (list_all-append (λ x. has_key keys x.key) entries (e ∷ []), all, one) refl

-- more keys keep each key of the log owned
pub has_keys_of-still : (old new : List KeyName) (entries : List SignedEntry) → ((key : KeyName) → has_key old key ≡ true → has_key new key ≡ true) → has_keys_of old entries ≡ true → has_keys_of new entries ≡ true
has_keys_of-still old new [] more all = refl
has_keys_of-still old new (e ∷ es) more all = grind (arith, common_steps, more e.key, has_keys_of-still old new es more)

-- what was signed last is accepted
pub has_entry-last : (entries : List SignedEntry) (key : KeyName) (bytes : List ℕ) (signature : Signature) → has_entry (entries ++ log_entry key bytes signature ∷ []) key bytes signature ≡ true
has_entry-last entries key bytes signature = rw (list_any-append (is_entry key bytes signature) entries (log_entry key bytes signature ∷ []), is_entry-itself key bytes signature) (or_true (has_entry entries key bytes signature))

-- what was accepted before is accepted after one more entry
pub has_entry-still : (entries : List SignedEntry) (e : SignedEntry) (key : KeyName) (bytes : List ℕ) (signature : Signature) → has_entry entries key bytes signature ≡ true → has_entry (entries ++ e ∷ []) key bytes signature ≡ true
has_entry-still entries e key bytes signature p = rw (list_any-append (is_entry key bytes signature) entries (e ∷ []), p) refl

-- where the entries are numbered, the number of a signature in the log says where it stands
where_recorded : (entries : List SignedEntry) (key : KeyName) (bytes : List ℕ) (signature : Signature) → IsNumbered entries → length entries < 2 ^ 64 → has_entry entries key bytes signature ≡ true
    → (i : ℕ) × (i < length entries) × (signature_number signature ≡ i + 1) × (get_or entries i (log_entry key bytes signature) ≡ log_entry key bytes signature)
where_recorded entries key bytes signature order small p =
    let c : Contains entries (log_entry key bytes signature) = found_entry entries key bytes signature p in
    let is : signature ≡ numbered_signature (c.0 + 1) = rw c.2 at (order c.0 (log_entry key bytes signature) c.1) in
    (c.0, c.1, ap signature_number is ∙ number_back (c.0 + 1) (omega arith), c.2)

outside : {n m : ℕ} {Q : ℕ → Type 0} → (n ≡ 0) ⊎ (m < n) → (i : ℕ) × (i < m) × (n ≡ i + 1) × Q i → ⊥
outside (inl zero) w = omega (arith, w.2)
outside (inr past) w = omega (arith, w.1, w.2)

-- a signature without a number of the log stands in no entry
pub not_recorded : (entries : List SignedEntry) (key : KeyName) (bytes : List ℕ) (signature : Signature) → IsNumbered entries → length entries < 2 ^ 64
    → (signature_number signature ≡ 0) ⊎ (length entries < signature_number signature) → has_entry entries key bytes signature ≡ false
not_recorded entries key bytes signature order small out =
    false_from_ne_true (has_entry entries key bytes signature) (λ p. outside out (where_recorded entries key bytes signature order small p))

-- the entry with the number of the signature decides
pub recorded_at : (entries : List SignedEntry) (key : KeyName) (bytes : List ℕ) (signature : Signature) (i : ℕ) (e : SignedEntry) (b : Bool) → IsNumbered entries → length entries < 2 ^ 64
    → i < length entries → signature_number signature ≡ i + 1 → e ≡ get_or entries i e → b ≡ is_entry key bytes signature e → b ≡ has_entry entries key bytes signature
recorded_at entries key bytes signature i e true order small lt at here is = sym (list_any_at (is_entry key bytes signature) entries i e lt (ap (is_entry key bytes signature) (sym here) ∙ sym is))
recorded_at entries key bytes signature i e false order small lt at here is =
    sym (false_from_ne_true (has_entry entries key bytes signature) (λ p.
    let w = where_recorded entries key bytes signature order small p in
    let same : w.0 ≡ i = omega (arith, w.2) in
    let joined : e ≡ log_entry key bytes signature =
    here ∙ get_or_default entries i e (log_entry key bytes signature) lt ∙ ap (λ (k : ℕ). get_or entries k (log_entry key bytes signature)) (sym same) ∙ w.3 in
    let clash : false ≡ true = is ∙ ap (is_entry key bytes signature) joined ∙ is_entry-itself key bytes signature in
    cc))

-- one more entry with the next signature
pub IsNumbered-more : (entries : List SignedEntry) (e : SignedEntry) → IsNumbered entries → e.signature ≡ numbered_signature (length entries + 1) → IsNumbered (entries ++ e ∷ [])
IsNumbered-more entries e order next = λ i d lt.
    below_more (λ k. (get_or (entries ++ e ∷ []) k d).signature ≡ numbered_signature (k + 1)) (length entries)
    (λ k h. rw (get_or-append entries (e ∷ []) d k h) (order k d h))
    (rw (get_or-append_seam entries e [] d) next)
    i (omega (arith, length-append entries (e ∷ [])))

pub ruleset recording = (has_keys_of-more, has_keys_of-still, has_entry-last, has_entry-still, IsNumbered-more)

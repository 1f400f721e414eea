-- Which keys are owned: adding one, and that so many keys leave a number free.
use Rattle.std.proofs.Common.{◌≡◌, ◌≢◌, ◌∙◌, ℕ, zero, suc, ◌+◌, ◌<◌, ◌≤◌, ◌^◌, Bool, true, false, ◌||◌, cond, List, [], ◌∷◌, length, drop, refl, sym, ap, arith}
use Rattle.std.proofs.lemmas.Grind.{common_steps}
use Rattle.std.proofs.lemmas.Nat.{from_be_bytes-to_be_bytes_8}
use Rattle.std.proofs.lemmas.Bool.Decides.{same_from_decides}
use Rattle.std.specs.Int.{w64, from_be_bytes}
use Rattle.std.specs.Str.{bytes_eq}
use Rattle.std.specs.List.{list_any}
use Rattle.std.specs.BTreeMap.{is_at}
use Rattle.std.specs.Ordering.{is_eq}
use Rattle.std.proofs.Common.{Ordering}
use Rattle.std.proofs.lemmas.Slice.Eq.{bytes_eq-Decides}
use Rattle.base_types.proofs.Orders.{bytes_eq-false, bytes_eq-same, bytes_eq-true}
use Rattle.key_device.specs.declared.keys.KeyName.{KeyName}
use Rattle.key_device.specs.Ledgers.{has_key, numbered_key}

-- the keys without the first that is this one
abbrev without : KeyName → List KeyName → List KeyName
without key [] = []
without key (k ∷ ks) = cond (bytes_eq key.bytes k.bytes) ks (k ∷ without key ks)

one_less : (key : KeyName) (ks : List KeyName) → has_key ks key ≡ true → length ks ≡ length (without key ks) + 1
one_less key [] p = grind arith
one_less key (k ∷ ks) p = grind (arith, common_steps, one_less key ks)

-- the first part of a test by two parts
one_or_other : (b c d : Bool) → (b || c) ≡ true → b ≡ false → (c ≡ true → d ≡ true) → d ≡ true
one_or_other b c d p q r = grind arith

-- one step: k is the key that goes, or stays before the rest
stays_at : (key other k : KeyName) (ks : List KeyName) (b : Bool) → b ≡ bytes_eq key.bytes k.bytes → has_key (k ∷ ks) other ≡ true → bytes_eq other.bytes key.bytes ≡ false
    → (has_key ks other ≡ true → has_key (without key ks) other ≡ true) → has_key (cond b ks (k ∷ without key ks)) other ≡ true
stays_at key other k ks true is p q r =
    let same : key.bytes ≡ k.bytes = bytes_eq-true key.bytes k.bytes (sym is) in
    let not_k : bytes_eq other.bytes k.bytes ≡ false = rw (← same) q in
    one_or_other _ _ _ p not_k (λ h. h)
stays_at key other k ks false is p q r = grind (arith, common_steps)

others_stay : (key other : KeyName) (ks : List KeyName) → has_key ks other ≡ true → bytes_eq other.bytes key.bytes ≡ false → has_key (without key ks) other ≡ true
others_stay key other [] p q = p
others_stay key other (k ∷ ks) p q = stays_at key other k ks (bytes_eq key.bytes k.bytes) refl p q (λ r. others_stay key other ks r q)

numbers_differ : (m n : ℕ) → m < 2 ^ 64 → n < 2 ^ 64 → m ≢ n → bytes_eq (numbered_key m).bytes (numbered_key n).bytes ≡ false
unfolding numbered_key
numbers_differ m n small low ne = bytes_eq-false (numbered_key m).bytes (numbered_key n).bytes (λ e. ne (sym (from_be_bytes-to_be_bytes_8 m small) ∙ ap (λ (b : List ℕ). from_be_bytes w64 (drop 27 b)) e ∙ from_be_bytes-to_be_bytes_8 n low))

-- keys that have each number from 1 to n are at least n
pub numbers_fit : (n : ℕ) (ks : List KeyName) → n < 2 ^ 64 → ((m : ℕ) → 1 ≤ m → m ≤ n → has_key ks (numbered_key m) ≡ true) → n ≤ length ks
numbers_fit zero ks small all = omega arith
numbers_fit (suc n) ks small all =
    let here : has_key ks (numbered_key (suc n)) ≡ true = all (suc n) (omega arith) (omega arith) in
    let rest : n ≤ length (without (numbered_key (suc n)) ks) = numbers_fit n (without (numbered_key (suc n)) ks) (omega arith) (λ m p q. others_stay (numbered_key (suc n)) (numbered_key m) ks (all m p (omega arith)) (numbers_differ m (suc n) (omega arith) small (λ e. absurd (omega arith)))) in
    omega (arith, one_less (numbered_key (suc n)) ks here)

-- a set's own test for a key, where its order finds equal just what has the same bytes
pub has_key-by : (cmp : KeyName → KeyName → Ordering) → ((a b : KeyName) → is_eq (cmp a b) ≡ bytes_eq a.bytes b.bytes) → (key : KeyName) (ks : List KeyName) → list_any (is_at (cmp key)) ks ≡ has_key ks key
has_key-by cmp same key [] = refl
has_key-by cmp same key (k ∷ ks) = rw (same key k, has_key-by cmp same key ks)

-- the test does not ask which text comes first
flipped : (xs ys : List ℕ) → bytes_eq xs ys ≡ bytes_eq ys xs
flipped xs ys = same_from_decides {P = xs ≡ ys} _ _ (bytes_eq-Decides xs ys) ((λ p. sym (bytes_eq-true ys xs p)), (λ e. bytes_eq-same ys xs (sym e)))

cond_or : (b c : Bool) → cond b true c ≡ (b || c)
cond_or true c = refl
cond_or false c = refl

-- what a set has once a key is added
pub added : (cmp : KeyName → KeyName → Ordering) → ((a b : KeyName) → is_eq (cmp a b) ≡ bytes_eq a.bytes b.bytes) → (key other : KeyName) (old new : List KeyName)
    → list_any (is_at (cmp other)) new ≡ cond (is_at (cmp key) other) true (list_any (is_at (cmp other)) old) → has_key new other ≡ (bytes_eq other.bytes key.bytes || has_key old other)
added cmp same key other old new e =
    sym (has_key-by cmp same other new) ∙ e ∙ rw (same key other, has_key-by cmp same other old, flipped key.bytes other.bytes) (cond_or (bytes_eq other.bytes key.bytes) (has_key old other))

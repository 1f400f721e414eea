-- Headers: which hash one names, and what is found behind it.
use Rattle.std.proofs.Common.{◌≡◌, ◌≢◌, ℕ, Bool, true, false, cond, List, ◌++◌, length, take, drop, Option, Some, None, Result, Ok, Err, refl, sym, ap, ◌∙◌}
use Rattle.std.specs.Option.{ok_or}
use Rattle.std.specs.Str.{bytes_eq}
use Rattle.std.proofs.lemmas.Slice.Eq.{bytes_eq-Decides}
use Rattle.std.proofs.lemmas.List.{take-append-drop, take_at, drop_at}
use Rattle.cbor_core.specs.Internal.Results.{◌>>=◌}
use Rattle.cbor_core.proofs.Outcomes.{same_ok, same_err, went_on}
use Rattle.digest_mac.specs.declared.hash.Hash.{Hash}
use Rattle.digest_mac.specs.declared.hash.Hash.TheVariants.{Sha256, Sha384}
use Rattle.proof_cbor.specs.declared.headers.Kind.{Kind}
use Rattle.proof_cbor.specs.declared.headers.Kind.TheVariants.{Base, Derived}
use Rattle.proof_cbor.specs.declared.fault.ValueFault.{ValueFault}
use Rattle.proof_cbor.specs.declared.fault.ValueFault.TheVariants as fault
use Rattle.proof_cbor.specs.Values.{header}
use Rattle.proof_cbor.specs.Internal.Reading.{hash_named, behind}
use Rattle.proof_cbor.proofs.Inverses.{some_of}

-- a header has three bytes
pub header_three : (kind : Kind) (hash : Hash) → length (header kind hash) ≡ 3
header_three Base Sha256 = refl
header_three Base Sha384 = refl
header_three Derived Sha256 = refl
header_three Derived Sha384 = refl

-- a header names its hash
pub header_named : (kind : Kind) (hash : Hash) → hash_named kind (header kind hash) ≡ Some hash
header_named Base Sha256 = refl
header_named Base Sha384 = refl
header_named Derived Sha256 = refl
header_named Derived Sha384 = refl

named_by : (kind : Kind) (front : List ℕ) (a b : Bool) (hash : Hash) → bytes_eq front (header kind Sha256) ≡ a → bytes_eq front (header kind Sha384) ≡ b
    → cond a (Some Sha256) (cond b (Some Sha384) None) ≡ Some hash → front ≡ header kind hash
named_by kind front true b Sha256 one other e = (bytes_eq-Decides front (header kind Sha256)).0 one
named_by kind front true b Sha384 one other e = absurd cc
named_by kind front false true Sha256 one other e = absurd cc
named_by kind front false true Sha384 one other e = (bytes_eq-Decides front (header kind Sha384)).0 other
named_by kind front false false hash one other e = absurd cc

-- bytes that name a hash are its header
pub header_found : (kind : Kind) (front : List ℕ) (hash : Hash) → hash_named kind front ≡ Some hash → front ≡ header kind hash
header_found kind front hash e = named_by kind front (bytes_eq front (header kind Sha256)) (bytes_eq front (header kind Sha384)) hash refl refl e

-- bytes whose first three are the header are the header and what follows
front_back : (front bytes rest : List ℕ) → take 3 bytes ≡ front → drop 3 bytes ≡ rest → bytes ≡ front ++ rest
front_back front bytes rest f d =
    let same : take 3 bytes ++ drop 3 bytes ≡ front ++ rest = cc in
    sym (take-append-drop 3 bytes) ∙ same

-- what is found behind a header: the bytes are that header and it, and it is all behind the third
pub behind_found : (kind : Kind) (bytes : List ℕ) (found : Hash × List ℕ) → behind kind bytes ≡ Ok found → (bytes ≡ header kind found.0 ++ found.1) × (drop 3 bytes ≡ found.1)
behind_found kind bytes found e =
    let a = went_on (ok_or (hash_named kind (take 3 bytes)) fault.Header) (λ (hash : Hash). Ok (hash, drop 3 bytes)) found e in
    let named = some_of (hash_named kind (take 3 bytes)) fault.Header a.0 a.1 in
    let same : (a.0, drop 3 bytes) ≡ found = same_ok (a.0, drop 3 bytes) found a.2 in
    let hash : a.0 ≡ found.0 = ap (λ (z : Hash × List ℕ). z.0) same in
    let rest : drop 3 bytes ≡ found.1 = ap (λ (z : Hash × List ℕ). z.1) same in
    (front_back (header kind found.0) bytes found.1 (header_found kind (take 3 bytes) a.0 named ∙ ap (header kind) hash) rest, rest)

named_again : (kind : Kind) (hash : Hash) (rest : List ℕ) → hash_named kind (take 3 (header kind hash ++ rest)) ≡ Some hash
named_again kind hash rest = ap (hash_named kind) (take_at (header kind hash) rest 3 (header_three kind hash)) ∙ header_named kind hash

-- a header and what follows it are found again
pub behind_again : (kind : Kind) (hash : Hash) (rest : List ℕ) → behind kind (header kind hash ++ rest) ≡ Ok (hash, rest)
behind_again kind hash rest =
    let back : drop 3 (header kind hash ++ rest) ≡ rest = drop_at (header kind hash) rest 3 (header_three kind hash) in
    ap (λ (o : Option Hash). ok_or o fault.Header >>= λ (h : Hash). Ok (h, drop 3 (header kind hash ++ rest))) (named_again kind hash rest)
    ∙ ap (λ (z : List ℕ). Ok (hash, z)) back

abbrev with_rest : List ℕ → Hash → Result (Hash × List ℕ) ValueFault
with_rest rest hash = Ok (hash, rest)

no_hash : (o : Option Hash) (rest : List ℕ) (e : ValueFault) → (ok_or o fault.Header >>= with_rest rest) ≡ Err e → (o ≡ None) × (e ≡ fault.Header)
no_hash None rest e h = (refl, sym (same_err fault.Header e h))
no_hash (Some hash) rest e h = absurd cc

not_both : {A : Type 0} (x : A) (o : Option A) → o ≡ None → o ≡ Some x → ⊥
not_both x None a b = absurd cc
not_both x (Some y) a b = absurd cc

-- where nothing is found behind a header, the bytes begin with none
pub no_header : (kind : Kind) (bytes : List ℕ) (e : ValueFault) → behind kind bytes ≡ Err e → ((hash : Hash) (rest : List ℕ) → bytes ≢ header kind hash ++ rest) × (e ≡ fault.Header)
no_header kind bytes e h =
    let p = no_hash (hash_named kind (take 3 bytes)) (drop 3 bytes) e h in
    ((λ hash rest is. not_both hash (hash_named kind (take 3 bytes)) p.0 (ap (λ (z : List ℕ). hash_named kind (take 3 z)) is ∙ named_again kind hash rest)), p.1)

missing_by : (kind : Kind) (bytes : List ℕ) (o : Option Hash) → hash_named kind (take 3 bytes) ≡ o → ((hash : Hash) (rest : List ℕ) → bytes ≢ header kind hash ++ rest) → behind kind bytes ≡ Err fault.Header
missing_by kind bytes None is none = ap (λ (o : Option Hash). ok_or o fault.Header >>= λ (h : Hash). Ok (h, drop 3 bytes)) is
missing_by kind bytes (Some hash) is none = absurd (none hash (drop 3 bytes) (front_back (header kind hash) bytes (drop 3 bytes) (header_found kind (take 3 bytes) hash is) refl))

-- where the bytes begin with no header, nothing is found behind one
pub header_missing : (kind : Kind) (bytes : List ℕ) → ((hash : Hash) (rest : List ℕ) → bytes ≢ header kind hash ++ rest) → behind kind bytes ≡ Err fault.Header
header_missing kind bytes none = missing_by kind bytes (hash_named kind (take 3 bytes)) refl none

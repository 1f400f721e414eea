-- Keys that fill a block, and what they leave of a keyed digest.
use Rattle.std.proofs.Common.{◌≡◌, ◌+◌, ◌-◌, ◌≤◌, ◌<◌, ℕ, List, [], ◌++◌, length, take, drop, map, replicate, inl, inr, sym, ap, ◌∙◌, arith, append_assoc, append-nil, length-append}
use Rattle.std.specs.Prelude.{bit_xor, leb}
use Rattle.std.proofs.lemmas.Bool.{cases_lt, le-leb, lt-leb, cond-true, cond-false}
use Rattle.std.proofs.lemmas.List.{length-replicate, replicate-append-replicate, take_at, take-map, drop-replicate}
use Rattle.digest_mac.specs.Digests.{block_size, digest, keyed_digest, padded_key, short_key}
use Rattle.digest_mac.specs.Internal.KeyBlocks.{with_zeros}
use Rattle.digest_mac.specs.declared.hash.Hash.{Hash}
use Rattle.digest_mac.proofs.Sizes.{block_size-le, digest_size-le, length-digest}

-- a key of at most a block stays
short_key-short : (hash : Hash) (key : List ℕ) → length key ≤ block_size hash → short_key hash key ≡ key
unfolding short_key
short_key-short hash key fits =
    cond-true (leb (length key) (block_size hash)) key (digest hash key) (le-leb (length key) (block_size hash) fits)

-- a longer key is its digest
short_key-long : (hash : Hash) (key : List ℕ) → block_size hash < length key → short_key hash key ≡ digest hash key
unfolding short_key
short_key-long hash key longer =
    cond-false (leb (length key) (block_size hash)) key (digest hash key) (lt-leb (length key) (block_size hash) longer)

-- a digest is no longer than a block
pub length-digest-le : (hash : Hash) (bytes : List ℕ) → length (digest hash bytes) ≤ block_size hash
length-digest-le hash bytes = omega (arith, length-digest hash bytes, digest_size-le hash)

-- neither is a short key
length-short_key : (hash : Hash) (key : List ℕ) → length (short_key hash key) ≤ block_size hash
length-short_key hash key = elim (cases_lt (block_size hash) (length key)) [
  | inl longer ↦ omega (arith, ap (λ (k : List ℕ). length k) (short_key-long hash key longer), length-digest-le hash key)
  | inr fits ↦ omega (arith, ap (λ (k : List ℕ). length k) (short_key-short hash key fits))
]

-- zeros after zeros
zeros-joined : (key : List ℕ) (m n whole : ℕ) → m + n ≡ whole
    → (key ++ replicate m 0) ++ replicate n 0 ≡ key ++ replicate whole 0
zeros-joined key m n whole sum =
    append_assoc key (replicate m 0) (replicate n 0)
    ∙ ap (λ (l : List ℕ). key ++ l) (replicate-append-replicate m n 0 ∙ ap (λ (k : ℕ). replicate k 0) sum)

-- how long a key with zeros after it is
length-zeros : (key : List ℕ) (count : ℕ) → length (key ++ replicate count 0) ≡ length key + count
length-zeros key count =
    length-append key (replicate count 0) ∙ ap (λ (n : ℕ). length key + n) (length-replicate {A = ℕ} count 0)

-- the first bytes of a key with many zeros after it are the key with fewer
take-zeros : (key : List ℕ) (size most : ℕ) → length key ≤ size → size ≤ most
    → take size (key ++ replicate (most - length key) 0) ≡ key ++ replicate (size - length key) 0
take-zeros key size most fits within =
    ap (λ (l : List ℕ). take size l)
    (sym (zeros-joined key (size - length key) (most - size) (most - length key) (omega arith)))
    ∙ take_at (key ++ replicate (size - length key) 0) (replicate (most - size) 0) size
    (omega (arith, length-zeros key (size - length key)))

-- the front of a block with a key, each byte combined, is the key as the standard pads it
pub take-combined : (hash : Hash) (key block combined : List ℕ) (byte size : ℕ) → block ≡ with_zeros (short_key hash key)
    → combined ≡ map (bit_xor byte) block → size ≡ block_size hash → take size combined ≡ padded_key hash key byte
unfolding with_zeros padded_key
take-combined hash key block combined byte size filled each sized =
    ap (λ (n : ℕ). take n combined) sized
    ∙ ap (λ (l : List ℕ). take (block_size hash) l) (each ∙ ap (λ (l : List ℕ). map (bit_xor byte) l) filled)
    ∙ take-map (bit_xor byte) (block_size hash) (with_zeros (short_key hash key))
    ∙ ap (λ (l : List ℕ). map (bit_xor byte) l)
    (take-zeros (short_key hash key) (block_size hash) 128 (length-short_key hash key) (block_size-le hash))

-- a key put in front of zeros
pub zeros_behind : (key copied : List ℕ) → copied ≡ key → copied ++ drop (length key) (replicate 128 0) ≡ with_zeros key
unfolding with_zeros
zeros_behind key copied is =
    ap (λ (l : List ℕ). l ++ drop (length key) (replicate 128 0)) is
    ∙ ap (λ (l : List ℕ). key ++ l) (drop-replicate (length key) 128 0)

-- the block of a short key
pub block-short : (hash : Hash) (key block : List ℕ) → length key ≤ block_size hash → block ≡ with_zeros key
    → block ≡ with_zeros (short_key hash key)
block-short hash key block fits filled = filled ∙ ap (λ (k : List ℕ). with_zeros k) (sym (short_key-short hash key fits))

-- the block of a longer key
pub block-long : (hash : Hash) (key inside block : List ℕ) → block_size hash < length key → inside ≡ digest hash key
    → block ≡ with_zeros inside → block ≡ with_zeros (short_key hash key)
block-long hash key inside block longer is filled =
    filled ∙ ap (λ (k : List ℕ). with_zeros k) (is ∙ sym (short_key-long hash key longer))

-- the two digests of a keyed digest
pub keyed_digest-from : (hash : Hash) (key first second inner outer inside whole : List ℕ)
    → inner ≡ padded_key hash key 0x36 → outer ≡ padded_key hash key 0x5C
    → inside ≡ digest hash (inner ++ first ++ second) → whole ≡ digest hash (outer ++ inside ++ [])
    → whole ≡ keyed_digest hash key (first ++ second)
unfolding keyed_digest
keyed_digest-from hash key first second inner outer inside whole pi po hi ho =
    ho ∙ ap (λ (l : List ℕ). digest hash l) (append-nil (outer ++ inside))
    ∙ ap (λ (l : List ℕ). digest hash (l ++ inside)) po
    ∙ ap (λ (l : List ℕ). digest hash (padded_key hash key 0x5C ++ l))
    (hi ∙ ap (λ (l : List ℕ). digest hash l) (append_assoc inner first second ∙ ap (λ (l : List ℕ). l ++ (first ++ second)) pi))

-- what the code of `hmac` needs of sizes, and the two kinds of block
pub ruleset block_facts = (block_size-le, length-digest-le, block-short, block-long)

-- ---- the laws

-- keys whose padded keys agree give one keyed digest
keyed_digest-same : (hash : Hash) (key other text : List ℕ)
    → ((byte : ℕ) → padded_key hash other byte ≡ padded_key hash key byte)
    → keyed_digest hash other text ≡ keyed_digest hash key text
unfolding keyed_digest
keyed_digest-same hash key other text same =
    ap (λ (l : List ℕ). digest hash (l ++ digest hash (padded_key hash other 0x36 ++ text))) (same 0x5C)
    ∙ ap (λ (l : List ℕ). digest hash (padded_key hash key 0x5C ++ digest hash (l ++ text))) (same 0x36)

-- a padded key is made of the short key
padded_key-by : (hash : Hash) (key short : List ℕ) (byte : ℕ) → short_key hash key ≡ short
    → padded_key hash key byte ≡ map (bit_xor byte) (short ++ replicate (block_size hash - length short) 0)
unfolding padded_key
padded_key-by hash key short byte is =
    ap (λ (l : List ℕ). map (bit_xor byte) (l ++ replicate (block_size hash - length l) 0)) is

-- zeros after a key of at most a block change nothing
pub keyed_digest-zeros : (hash : Hash) (key text : List ℕ) (count : ℕ) → length key + count ≤ block_size hash
    → keyed_digest hash (key ++ replicate count 0) text ≡ keyed_digest hash key text
keyed_digest-zeros hash key text count fits =
    let longer = length-zeros key count in
    keyed_digest-same hash key (key ++ replicate count 0) text (λ (byte : ℕ).
    padded_key-by hash (key ++ replicate count 0) (key ++ replicate count 0) byte
    (short_key-short hash (key ++ replicate count 0) (omega arith))
    ∙ ap (λ (l : List ℕ). map (bit_xor byte) l)
    (zeros-joined key count (block_size hash - length (key ++ replicate count 0)) (block_size hash - length key) (omega arith))
    ∙ sym (padded_key-by hash key key byte (short_key-short hash key (omega arith))))

-- a longer key is as its digest
pub keyed_digest-long : (hash : Hash) (key text : List ℕ) → block_size hash < length key
    → keyed_digest hash key text ≡ keyed_digest hash (digest hash key) text
keyed_digest-long hash key text longer =
    keyed_digest-same hash (digest hash key) key text (λ (byte : ℕ).
    padded_key-by hash key (digest hash key) byte (short_key-long hash key longer)
    ∙ sym (padded_key-by hash (digest hash key) (digest hash key) byte (short_key-short hash (digest hash key) (length-digest-le hash key))))

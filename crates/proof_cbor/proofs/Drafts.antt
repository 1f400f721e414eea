-- Where the signature stands in the bytes of a base value, and how long its text is.
use Rattle.std.proofs.Common.{◌≡◌, ℕ, zero, suc, ◌+◌, ◌-◌, ◌≤◌, List, [], ◌∷◌, ◌++◌, length, take, drop, map, refl, sym, ap, subst, ◌∙◌, append_assoc, arith, slice_set}
use Rattle.std.specs.List.{flat_map}
use Rattle.std.specs.Str.{IsUtf8, IsAscii}
use Rattle.std.proofs.lemmas.Str.{IsUtf8-from_ascii}
use Rattle.std.proofs.lemmas.List.{take_at, drop_at, take_all, drop_all, append-nil, length-append, length-take, length-drop}
use borrow.Rule.Slice.PartMut.{put_mid}
use Rattle.base64.specs.Engines.{url_safe_no_pad}
use Rattle.base64.specs.GeneralPurpose.{encode_of, encoded_size_of}
use Rattle.base64.specs.Rfc4648.{encode_symbols}
use Rattle.base64.proofs.RoundTrip.{length-encode_symbols}
use Rattle.base64.proofs.EngineFacts.{IsAscii-encode_of}
use Rattle.cbor_core.specs.declared.item.Item.{Item}
use Rattle.cbor_core.specs.declared.item.Item.TheVariants as v
use Rattle.cbor_core.specs.Grammar.{head_of}
use Rattle.cbor_core.specs.Writing.{encoding_of, count_of}
use Rattle.cbor_core.proofs.Writes.{spelling-List, spelling-Blob}
use Rattle.digest_mac.specs.declared.hash.Hash.{Hash}
use Rattle.digest_mac.specs.declared.hash.Hash.TheVariants.{Sha256, Sha384}
use Rattle.proof_cbor.specs.declared.headers.Kind.TheVariants.{Base}
use Rattle.proof_cbor.specs.declared.value.BaseValue.{BaseValue}
use Rattle.proof_cbor.specs.Values.{header, base_item, base_proof_bytes, with_signature, multibase_text, IsDraft, CanWriteBase}

-- what stands before the signature: the header, the head of the list and the head of the byte string
abbrev front : Hash → List ℕ
front hash = header Base hash ++ 0x85 ∷ 0x58 ∷ 0x40 ∷ []

-- the front has six bytes, whatever follows them
six_bytes : (hash : Hash) (rest : List ℕ) → take 6 (front hash ++ rest) ≡ front hash
six_bytes Sha256 rest = refl
six_bytes Sha384 rest = refl

length_front : (hash : Hash) → length (front hash) ≡ 6
length_front Sha256 = refl
length_front Sha384 = refl

-- what stands behind it
abbrev behind_signature : BaseValue → List ℕ
behind_signature value = flat_map encoding_of (v.Blob value.key ∷ v.Blob value.secret ∷ v.List (map v.Blob value.signatures) ∷ v.List (map v.Text value.pointers) ∷ [])

heads : (n : ℕ) → n ≡ 64 → (head_of 4 5 ≡ 0x85 ∷ []) × (head_of 2 n ≡ 0x58 ∷ 0x40 ∷ [])
unfolding head_of
heads n e = (refl, rw e refl)

-- a list of five whose first item is a byte string of 64 bytes is written with these two heads
pub item_begins : (first : List ℕ) (b c d e : Item) → length first ≡ 64
    → encoding_of (v.List (v.Blob first ∷ b ∷ c ∷ d ∷ e ∷ [])) ≡ 0x85 ∷ 0x58 ∷ 0x40 ∷ (first ++ flat_map encoding_of (b ∷ c ∷ d ∷ e ∷ []))
item_begins first b c d e long =
    let h = heads (length first) long in
    spelling-List (v.Blob first ∷ b ∷ c ∷ d ∷ e ∷ []) ∙ rw (h.0, spelling-Blob first, h.1) refl

-- the bytes of a base value are the six of its front, those of its signature and those behind it
pub split_bytes : (value : BaseValue) → length value.signature ≡ 64 → base_proof_bytes value ≡ front value.hash ++ (value.signature ++ behind_signature value)
unfolding base_item
split_bytes value long =
    ap (λ (z : List ℕ). header Base value.hash ++ z)
    (item_begins value.signature (v.Blob value.key) (v.Blob value.secret) (v.List (map v.Blob value.signatures)) (v.List (map v.Text value.pointers)) long)
    ∙ sym (append_assoc (header Base value.hash) (0x85 ∷ 0x58 ∷ 0x40 ∷ []) (value.signature ++ behind_signature value))

long_enough : (value : BaseValue) → length value.signature ≡ 64 → 70 ≤ length (base_proof_bytes value)
long_enough value long =
    let s = ap length (split_bytes value long) in
    let n = length-append value.signature (behind_signature value) in
    let f = length-append (front value.hash) (value.signature ++ behind_signature value) in
    omega (arith, s, n, f, length_front value.hash)

-- a draft with another signature put in is the bytes of the value with that signature
pub put_bytes : (value : BaseValue) (old new signature : List ℕ) → IsDraft value old → length signature ≡ 64 → new ≡ take 6 old ++ (signature ++ drop 70 old) → new ≡ base_proof_bytes (with_signature value signature)
put_bytes value old new signature draft long is =
    let s : old ≡ front value.hash ++ (value.signature ++ behind_signature value) = draft.2 ∙ split_bytes value draft.0.0.signature in
    let first : take 6 old ≡ front value.hash = ap (take 6) s ∙ six_bytes value.hash (value.signature ++ behind_signature value) in
    let before : length (front value.hash ++ value.signature) ≡ 70 = omega (arith, length-append (front value.hash) value.signature, length_front value.hash, draft.0.0.signature) in
    let last : drop 70 old ≡ behind_signature value =
    ap (drop 70) (s ∙ sym (append_assoc (front value.hash) value.signature (behind_signature value)))
    ∙ drop_at (front value.hash ++ value.signature) (behind_signature value) 70 before in
    is ∙ rw (first, last) (sym (split_bytes (with_signature value signature) long))

length_encoded : (bytes : List ℕ) → length (encode_of url_safe_no_pad bytes) ≡ encoded_size_of url_safe_no_pad (length bytes)
length_encoded bytes = rw (append-nil (encode_symbols url_safe_no_pad.encode_table bytes)) (length-encode_symbols url_safe_no_pad.encode_table bytes)

-- the text of bytes is one longer than their base64url
pub length_text : (bytes text : List ℕ) → text ≡ multibase_text bytes → length text ≡ 1 + encoded_size_of url_safe_no_pad (length bytes)
length_text bytes text is = ap length is ∙ omega (arith, length_encoded bytes)

-- a base value that may be written has at least 70 bytes
pub long_bytes : (value : BaseValue) (bytes : List ℕ) → CanWriteBase value → bytes ≡ base_proof_bytes value → 70 ≤ length bytes
long_bytes value bytes can is = subst (λ (z : List ℕ). 70 ≤ length z) (sym is) (long_enough value can.0.signature)

-- the bytes of a base value that may be written, of few enough items, are a draft of it
pub draft_is : (value : BaseValue) (bytes : List ℕ) → CanWriteBase value → count_of (base_item value) ≤ 100000 → bytes ≡ base_proof_bytes value → IsDraft value bytes
draft_is value bytes can few is = (can, few, is)

ascii_text : (bytes : List ℕ) → IsAscii (multibase_text bytes)
ascii_text bytes zero = omega arith
ascii_text bytes (suc i) = IsAscii-encode_of url_safe_no_pad bytes i

-- the multibase text of any bytes is UTF-8
pub utf8_text : (bytes text : List ℕ) → text ≡ multibase_text bytes → IsUtf8 text
utf8_text bytes text is = subst IsUtf8 (sym is) (IsUtf8-from_ascii (multibase_text bytes) (ascii_text bytes))

-- a buffer that was written over as a whole
pub buffer_is : (len : ℕ) (new items : List ℕ) → length new ≡ len → take len (new ++ drop (length new) items) ≡ new
buffer_is len new items long = take_at new (drop (length new) items) len long

-- a buffer of the size of a multibase text, written over with that text, is UTF-8
pub buffer_utf8 : (len : ℕ) (bytes new items : List ℕ) → new ≡ multibase_text bytes → length items ≡ 1 + encoded_size_of url_safe_no_pad (length bytes) → length items ≡ len → IsUtf8 (take len (new ++ drop (length new) items))
buffer_utf8 len bytes new items is size same =
    let long : length new ≡ len = length_text bytes new is ∙ sym size ∙ same in
    subst IsUtf8 (sym (buffer_is len new items long)) (utf8_text bytes new is)

-- `u` put at the front of a buffer, and base64url behind it, make the text of the bytes
pub text_written : (bytes text out : List ℕ) → length text ≡ 1 + encoded_size_of url_safe_no_pad (length bytes)
    → out ≡ encode_of url_safe_no_pad bytes ++ drop (encoded_size_of url_safe_no_pad (length bytes)) (take (length (slice_set text 0 117) - 1) (drop 1 (slice_set text 0 117)))
    → put_mid 1 (length (slice_set text 0 117) - 1) (slice_set text 0 117) out ≡ multibase_text bytes
text_written bytes [] out long is = absurd (omega arith)
text_written bytes (t ∷ ts) out long is =
    let size = encoded_size_of url_safe_no_pad (length bytes) in
    let n : length (117 ∷ ts) - 1 ≡ length ts = omega arith in
    let same : length ts ≡ size = omega (arith, long) in
    let none : drop size (take (length (117 ∷ ts) - 1) ts) ≡ [] = drop_all size (take (length (117 ∷ ts) - 1) ts) (rw (n, take_all (length ts) ts (omega arith)) (omega (arith, same))) in
    let end : drop (length ts) ts ≡ [] = drop_all (length ts) ts (omega arith) in
    let all : out ≡ encode_of url_safe_no_pad bytes = is ∙ ap (λ (z : List ℕ). encode_of url_safe_no_pad bytes ++ z) none ∙ append-nil (encode_of url_safe_no_pad bytes) in
    let one : put_mid 1 (length (117 ∷ ts) - 1) (117 ∷ ts) out ≡ put_mid 1 (length ts) (117 ∷ ts) out = ap (λ (k : ℕ). put_mid 1 k (117 ∷ ts) out) n in
    let two : put_mid 1 (length ts) (117 ∷ ts) out ≡ 117 ∷ (out ++ []) = ap (λ (z : List ℕ). 117 ∷ (out ++ z)) end in
    one ∙ two ∙ ap (λ (z : List ℕ). 117 ∷ z) (append-nil out ∙ all)

-- the text of a draft with another signature put in is that of the value with that signature
pub finished : (value : BaseValue) (old new signature text : List ℕ) → IsDraft value old → length signature ≡ 64 → new ≡ take 6 old ++ (signature ++ drop 70 old) → text ≡ multibase_text new → text ≡ multibase_text (base_proof_bytes (with_signature value signature))
finished value old new signature text draft long is t = t ∙ ap multibase_text (put_bytes value old new signature draft long is)

-- 64 bytes put in place of those from the seventh on leave the number of bytes as it was
pub same_size : (old new signature : List ℕ) → 70 ≤ length old → length signature ≡ 64 → new ≡ take 6 old ++ (signature ++ drop 70 old) → length new ≡ length old
same_size old new signature enough long is = ap length is ∙ simp (length-append, length-take, length-drop) (omega arith)

pub ruleset draft_steps = (length_text, long_bytes, draft_is, buffer_is, buffer_utf8)
